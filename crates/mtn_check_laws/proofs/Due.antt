-- The record of a roster that is due is one, and what it gives has its marks in order.
use Rattle.std.specs.Prelude.{slice_get, Contains}
use Rattle.std.specs.List.{AllByRecursion}
use Rattle.std.specs.List.Sorted.{IsStrictlyIncreasing}
use Rattle.std.specs.Cmp.{nat_cmp_total}
use Rattle.std.specs.Ordering.{nat_cmp}
use Rattle.std.proofs.Common.{◌≡◌, ℕ, zero, suc, List, [], ◌∷◌, ◌++◌, Some, sym, ap, ◌∙◌, subst, ⊎_elim, arith}
use Rattle.std.proofs.lemmas.List.Elements.{All-from_recursion, All-contains}
use Rattle.mtn_replay.proofs.Histories.{Place, in_front, at_back, place, kept_at, last_at}
use Rattle.mtn_model.specs.Table.{Contents}
use Rattle.mtn_base.specs.Lists.{rises}
use Rattle.mtn_base.proofs.Sorting.{one_sorted}
use Rattle.mtn_roster_deltas.specs.Chain.{Entries, number_of}
use Rattle.mtn_roster_deltas.specs.Difference.{IsDifference}
use Rattle.mtn_roster_deltas.proofs.Ascending.{cut_of, place_by, map_same}
use Rattle.mtn_records.specs.Entries.{IsEntry, IsAttr}
use Rattle.mtn_records.specs.Records.{IsRosterRecord}
use Rattle.mtn_records.specs.declared.entry.NumberedAttr.{NumberedAttr}
use Rattle.mtn_records.specs.declared.entry.NumberedBody.{NumberedBody}
use Rattle.mtn_records.specs.declared.entry.NumberedBody.TheVariants as numbered
use Rattle.mtn_records.specs.declared.entry.NumberedEntry.{NumberedEntry}
use Rattle.mtn_records.specs.Entries.{IsBody}
use Rattle.mtn_records.specs.declared.record.RosterRecord.{RosterRecord}
use Rattle.mtn_records.specs.declared.record.RosterRecord.TheVariants.{Whole, Delta}
use Rattle.mtn_history.specs.Revisions.{Kept, IsRosterOf}
use Rattle.mtn_check_laws.specs.Fronts.{Front, IsFrontAt}
use Rattle.mtn_check_laws.specs.Sets.{IsSetOf, HasSets, HaveSets}
use Rattle.mtn_check_laws.proofs.Rosters.{all_from}

body_sets : (b : NumberedBody) → IsBody b → IsSetOf b
body_sets numbered.Dir is = tt
body_sets (numbered.File content marks) is = is.1.ascending

attr_sets : (attrs : List NumberedAttr) → AllByRecursion IsAttr attrs → AllByRecursion (λ (a : NumberedAttr). IsStrictlyIncreasing a.marks) attrs
attr_sets [] is = tt
attr_sets (a ∷ attrs) is = (is.0.1.1.ascending, attr_sets attrs is.1)

entry_sets : (e : NumberedEntry) → IsEntry e → HasSets e
entry_sets e is = record { slot = is.head.1.1.1.1.1.1.ascending; body = body_sets e.body is.body; attrs = attr_sets e.attrs is.attrs.each }

read_sets : (es : Entries) → AllByRecursion IsEntry es → HaveSets es
read_sets [] is = tt
read_sets (e ∷ es) is = (entry_sets e is.0, read_sets es is.1)

abbrev pub AllHaveSets : List Kept → Type 0
AllHaveSets ks = (q : ℕ) (k : Kept) → slice_get ks q ≡ Some k → HaveSets k.entries

set_in : (es : Entries) (e : NumberedEntry) → HaveSets es → Contains es e → HasSets e
set_in es e all c = All-contains HasSets es e (All-from_recursion HasSets es all) c

-- the entries that a record gives
pub due_sets : (ks : List Kept) (parents : List ℕ) (k : Kept) (x : RosterRecord) → AllHaveSets ks → IsRosterOf ks parents k x → IsRosterRecord x → HaveSets k.entries
due_sets ks parents k (Whole es) all is formed = subst HaveSets is.1 (read_sets es formed.list.each)
due_sets ks [] k (Delta base depth gone changed) all is formed = absurd is
due_sets ks (p ∷ ps) k (Delta base depth gone changed) all is formed =
    let below = is.3 in
    all_from HasSets k.entries (λ e c. ⊎_elim (λ new. set_in changed e (read_sets changed formed.1.1.1.list.each) new) (λ old. set_in below.0.entries e (all p below.0 below.1) old) (below.2.others_stay e c))

no_sets : AllHaveSets []
no_sets q k at = absurd cc

more_sets : (ks : List Kept) (new : Kept) → AllHaveSets ks → HaveSets new.entries → AllHaveSets (ks ++ new ∷ [])
more_sets ks new all sets q k at = by q at (place ks new k q at)
  where
    by : (j : ℕ) → slice_get (ks ++ new ∷ []) j ≡ Some k → Place ks j → HaveSets k.entries
    by j e (in_front lt) = all j k (sym (kept_at ks new j lt) ∙ e)
    by j e at_back = let same : new ≡ k = let t = sym (last_at ks new) ∙ e in cc in subst (λ (x : Kept). HaveSets x.entries) same sets

pub front_sets : (f : List ℕ → List ℕ) (c : Contents) (r : ℕ) (front : Front) → IsFrontAt f c r front → AllHaveSets front.kept
front_sets f c zero front is = subst (λ (x : Front). AllHaveSets x.kept) (sym is) no_sets
front_sets f c (suc r) front (before, s, walked, step, is) =
    let all = front_sets f c r before walked in
    subst (λ (x : Front). AllHaveSets x.kept) (sym is) (more_sets before.kept s.kept all
    (due_sets before.kept s.revision.parents s.kept step.roster.is.roster all step.roster.is.is step.roster.is.text.formed))

-- one difference leads from a list to a list
one_changed : (base new : Entries) (g1 g2 : List ℕ) (c1 c2 : Entries) → IsDifference base new g1 c1 → IsDifference base new g2 c2 → c1 ≡ c2
one_changed base new g1 g2 c1 c2 a b = one_sorted nat_cmp number_of nat_cmp_total c1 c2 a.changed_ascend b.changed_ascend
    (λ e s. cut_of c2 e (goes g1 g2 c1 c2 a b e (place_by c1 e s)))
    (λ e s. cut_of c1 e (goes g2 g1 c2 c1 b a e (place_by c2 e s)))
  where
    goes : (g h : List ℕ) (c d : Entries) → IsDifference base new g c → IsDifference base new h d → (e : NumberedEntry) → Contains c e → Contains d e
    goes g h c d x y e has = let t = x.changed_are e has in ⊎_elim (λ in_d. in_d) (λ old. absurd (t.1 old)) (y.others_stay e t.0)

one_gone : (base new : Entries) (g1 g2 : List ℕ) (c1 c2 : Entries) → IsDifference base new g1 c1 → IsDifference base new g2 c2 → g1 ≡ g2
one_gone base new g1 g2 c1 c2 a b = one_sorted nat_cmp (λ n. n) nat_cmp_total g1 g2 (ap (rises nat_cmp) (map_same g1) ∙ a.gone_ascend) (ap (rises nat_cmp) (map_same g2) ∙ b.gone_ascend)
    (λ n s. cut_of g2 n ((b.gone_are n).1 ((a.gone_are n).0 (place_by g1 n s))))
    (λ n s. cut_of g1 n ((a.gone_are n).1 ((b.gone_are n).0 (place_by g2 n s))))

-- so the record that is due is one
pub one_due : (ks : List Kept) (parents : List ℕ) (k : Kept) (x y : RosterRecord) → IsRosterOf ks parents k x → IsRosterOf ks parents k y → x ≡ y
one_due ks parents k (Whole es) (Whole fs) a b = ap Whole (a.1 ∙ sym b.1)
one_due ks [] k (Whole es) (Delta base depth gone changed) a b = absurd b
one_due ks (p ∷ ps) k (Whole es) (Delta base depth gone changed) a b = absurd (let e = b.1 in let z = a.0 in let lt = b.2 in omega (arith, e, z, lt))
one_due ks [] k (Delta base depth gone changed) y a b = absurd a
one_due ks (p ∷ ps) k (Delta base depth gone changed) (Whole fs) a b = absurd (let e = a.1 in let z = b.0 in let lt = a.2 in omega (arith, e, z, lt))
one_due ks (p ∷ ps) k (Delta base depth gone changed) (Delta base' depth' gone' changed') a b =
    let below : a.3.0 ≡ b.3.0 = let t = sym a.3.1 ∙ b.3.1 in cc in
    let d = subst (λ (x : Kept). IsDifference x.entries k.entries gone changed) below a.3.2 in
    let one = one_gone b.3.0.entries k.entries gone gone' changed changed' d b.3.2 in
    let two = one_changed b.3.0.entries k.entries gone gone' changed changed' d b.3.2 in
    λ i. Delta ((a.0 ∙ sym b.0) i) ((a.1 ∙ sym b.1) i) (one i) (two i)
