-- What entries spell has marks for its nodes.
use Rattle.std.specs.Prelude.{IfSome}
use Rattle.std.proofs.Common.{Option, subst}
use Rattle.mtn_marking.specs.Marking.{Marks}
use Rattle.mtn_records.specs.declared.record.RosterRecord.TheVariants.{Whole}
use Rattle.mtn_roster_deltas.specs.Spelled.{Spells}
use Rattle.mtn_check_pieces.proofs.Marked.{whole_fits}
use Rattle.mtn_check_pieces.proofs.reading.stored_on.Goals as goal

pub new-requires : goal.new-requires
new-requires c =
    let told = subst (λ (o : Option Marks). IfSome o (λ ms. Spells c.in-Whole.entries (record { tree = c.args.tree; marks = ms }))) c.in-Some.is c.in_ok-marks.ensures.spelled in
    whole_fits (Whole c.in-Whole.entries) (record { tree = c.args.tree; marks = c.in-Some.marks }) told
