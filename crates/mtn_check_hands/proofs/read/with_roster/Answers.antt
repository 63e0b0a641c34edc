use Rattle.std.proofs.Common.{subst}
use Rattle.std.specs.Prelude.{IfSome}
use Rattle.mtn_check_records.specs.Reading.{IsGivenAt}
use Rattle.mtn_check_hands.specs.declared.stored.Stored.{Stored}
use Rattle.mtn_check_hands.proofs.read.with_roster.Goals as goal

pub returns-in_ok-put_together-in-Some : goal.returns-in_ok-put_together-in-Some
returns-in_ok-put_together-in-Some c =
    (c.in-Some.stored, c.in_ok-put_together-in-Some.ensures, subst (λ o. IfSome o (λ (s : Stored). IsGivenAt c.args.at c.args.records.roster.items c.args.kin.parents c.args.kin.records s.entries s.depth)) c.in-Some.is c.in_ok-stored.ensures)
