-- The entries that the roster's record gives are those of what is kept, where the record is the one that is due.
use Rattle.std.specs.Prelude.{slice_get, IsTrue}
use Rattle.std.specs.List.{AllZip}
use Rattle.std.proofs.Common.{◌≡◌, ℕ, List, [], ◌∷◌, Option, Some, refl, sym, ap, ◌∙◌, subst, arith}
use Rattle.mtn_history.specs.Revisions.{Kept, IsRosterOf}
use Rattle.mtn_put_revision.specs.Keeping.{AreKeptAt}
use Rattle.mtn_put_revision.specs.Writing.{AllAscend}
use Rattle.mtn_records.specs.declared.record.RosterRecord.{RosterRecord}
use Rattle.mtn_records.specs.declared.record.RosterRecord.TheVariants.{Whole, Delta}
use Rattle.mtn_roster_deltas.specs.Chain.{Entries, applied, ascend}
use Rattle.mtn_roster_deltas.specs.Difference.{IsDifference}
use Rattle.mtn_roster_deltas.proofs.Differing.{difference_applies}
use Rattle.mtn_check_records.specs.Due.{HasEntries}
use Rattle.mtn_check_records.specs.Reading.{places_of, IsAfterFirst, IsGivenBy}
use Rattle.mtn_check_records.specs.declared.hand.Parent.{Parent}

pub one_at : {X : Type 0} (o : Option X) (a b : X) → o ≡ Some a → o ≡ Some b → a ≡ b
one_at o a b x y = cc

one_below : (r : RosterRecord) (es fs : Entries) → r ≡ Whole es → Some r ≡ Some (Whole fs) → es ≡ fs
one_below r es fs whole first = cc

-- a delta that is due makes what is kept of the first parent's entries
after_is : (ks : List Kept) (p : ℕ) (es : Entries) (r : RosterRecord) (rs : List RosterRecord) (k : Kept) (gone : List ℕ) (changed entries : Entries) → ((b : Kept) × (slice_get ks p ≡ Some b) × (es ≡ b.entries)) →
    HasEntries r es → IsTrue (ascend es) → IsTrue (ascend k.entries) → ((below : Kept) × (slice_get ks p ≡ Some below) × IsDifference below.entries k.entries gone changed) → IsAfterFirst (r ∷ rs) gone changed entries → entries ≡ k.entries
after_is ks p es r rs k gone changed entries kept whole up rises due given =
    let here : due.0.entries ≡ es = ap (λ (x : Kept). x.entries) (one_at (slice_get ks p) due.0 kept.0 due.1 kept.1) ∙ sym kept.2 in
    let below : es ≡ given.below = one_below r es given.below whole given.first in
    let made : applied es gone changed ≡ Some k.entries = difference_applies es k.entries gone changed up rises (subst (λ (b : Entries). IsDifference b k.entries gone changed) here due.2) in
    one_at (applied given.below gone changed) entries k.entries given.after (subst (λ (b : Entries). applied b gone changed ≡ Some k.entries) below made)

pub given_is : (ks : List Kept) (qs : List Parent) (rs : List RosterRecord) (known : List Entries) (k : Kept) (roster : RosterRecord) (entries : Entries) (depth : ℕ) → AreKeptAt ks (places_of qs) known → AllZip HasEntries rs known → AllAscend known →
    IsTrue (ascend k.entries) → IsRosterOf ks (places_of qs) k roster → IsGivenBy qs rs roster entries depth → (entries ≡ k.entries) × (depth ≡ k.depth)
given_is ks qs rs known k (Whole own) entries depth are whole up rises is given = (given.0 ∙ is.1, given.1 ∙ sym is.0)
given_is ks [] rs known k (Delta base deep gone changed) entries depth are whole up rises is given = absurd is
given_is ks (q ∷ qs) rs [] k (Delta base deep gone changed) entries depth are whole up rises is given = absurd are
given_is ks (q ∷ qs) [] (es ∷ known) k (Delta base deep gone changed) entries depth are whole up rises is given = absurd whole
given_is ks (q ∷ qs) (r ∷ rs) (es ∷ known) k (Delta base deep gone changed) entries depth are whole up rises is given = (
  after_is ks q.at es r rs k gone changed entries are.0 whole.0 (up es (0, omega arith, refl)) rises is.3 given.2,
  given.1 ∙ is.1,
)
