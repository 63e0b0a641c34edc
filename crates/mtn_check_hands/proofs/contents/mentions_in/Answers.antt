use Rattle.std.proofs.Common.{subst}
use Rattle.mtn_check_pieces.specs.Verdict.{IsOneOf, IsRevisionOf}
use Rattle.mtn_check_hands.proofs.Holding.{told_mentioned}
use Rattle.mtn_check_hands.proofs.contents.mentions_in.Goals as goal

pub returns-clause-found : goal.returns-clause-found
returns-clause-found g c =
    told_mentioned (g.K.Keeper.contents c.holds_all.new.keeper) c.args.text.now c.in-Some.revision c.as_slice-edges.result.now c.in_ok-parents.parents c.in_ok-held.held
    (subst (IsOneOf (IsRevisionOf c.args.text.now)) c.in-Some.is c.in_ok-revision.ensures) c.as_slice-edges.ensures c.in_ok-parents.ensures c.in_ok-held.ensures.held c.in_ok-held.ensures.unheld
