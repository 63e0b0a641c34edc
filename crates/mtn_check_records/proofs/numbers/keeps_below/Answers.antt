-- The entries are those of the record.
use Rattle.std.proofs.Common.{◌≡◌, ◌∙◌, sym, subst}
use Rattle.std.specs.Prelude.{All}
use Rattle.mtn_records.specs.declared.record.RosterRecord.{RosterRecord}
use Rattle.mtn_roster_deltas.specs.Chain.{Entries}
use Rattle.mtn_check_records.specs.Due.{IsKnownIn, KeepsBelow}
use Rattle.mtn_check_records.proofs.numbers.keeps_below.Goals as goal

pub returns-in-Whole : goal.returns-in-Whole
returns-in-Whole c = λ t.
    let below : c.as_slice.result.now ≡ c.args.below.now = c.as_slice.ensures ∙ c.below.view_is in
    let entries : c.as_slice-in-Whole.result.now ≡ c.in-Whole.entries = c.as_slice-in-Whole.ensures ∙ c.entries.view_is in
    subst (λ (r : RosterRecord). KeepsBelow r c.args.below.now) (sym c.in-Whole.is)
    (subst (λ (bs : Entries). All (IsKnownIn bs) c.in-Whole.entries) below
    (subst (λ (es : Entries). All (IsKnownIn c.as_slice.result.now) es) entries (c.are_known.ensures t)))
