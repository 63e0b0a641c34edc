-- The record that is written over the parents is the one that is due.
use Rattle.std.specs.Prelude.{nat_lt, IsTrue, MatchBool}
use Rattle.std.specs.Option.{option_map_or}
use Rattle.std.proofs.Common.{◌≡◌, ◌+◌, ℕ, Bool, true, false, cond, List, [], ◌∷◌, Option, Some, refl, sym, ap, ◌∙◌, subst, arith}
use Rattle.mtn_history.specs.Revisions.{Kept, deeper, depth_on, IsRosterOf}
use Rattle.mtn_put_revision.specs.Keeping.{AreKeptAt, IsDeltaBody, IsFirstDepth, IsRecordOn}
use Rattle.mtn_put_revision.specs.Writing.{AllAscend}
use Rattle.mtn_records.specs.Bounds.{IsRosterAt}
use Rattle.mtn_records.specs.declared.record.RosterRecord.{RosterRecord}
use Rattle.mtn_records.specs.declared.record.RosterRecord.TheVariants.{Whole}
use Rattle.mtn_roster_deltas.specs.Chain.{Entries, ascend, deepest}
use Rattle.mtn_roster_deltas.specs.Difference.{IsDifference}

one_kept : (o : Option Kept) (a b : Kept) → o ≡ Some a → o ≡ Some b → a ≡ b
one_kept o a b x y = cc

-- how deep a record stands on the first parent's
depth_by : (ks : List Kept) (p : ℕ) (ps : List ℕ) (depth : ℕ) → IsFirstDepth ks (p ∷ ps) depth → depth_on ks (p ∷ ps) ≡ deeper depth
depth_by ks p ps depth first = ap (λ o. option_map_or (λ (k : Kept). deeper k.depth) o 0) first.1 ∙ ap deeper (sym first.2)

-- a record that was written stands as deep as is due
pub deep_is : (ks : List Kept) (places : List ℕ) (known : List Entries) (depth : ℕ) (entries : Entries) (at : ℕ) (body : List ℕ) (deep : ℕ) → AreKeptAt ks places known → IsFirstDepth ks places depth →
    IsRecordOn places known depth entries at body deep → deep ≡ depth_on ks places
deep_is ks [] known depth entries at body deep are first is = is.1
deep_is ks (p ∷ ps) [] depth entries at body deep are first is = absurd are
deep_is ks (p ∷ ps) (below ∷ more) depth entries at body deep are first is = by (nat_lt depth deepest) refl is ∙ sym (depth_by ks p ps depth first)
  where
    by : (b : Bool) → nat_lt depth deepest ≡ b → MatchBool b (IsDeltaBody below p (depth + 1) entries at body × (deep ≡ depth + 1)) (IsRosterAt at body (Whole entries) × (deep ≡ 0)) → deep ≡ deeper depth
    by true test w = w.1 ∙ sym (ap (λ b. cond b (depth + 1) 0) test)
    by false test w = w.1 ∙ sym (ap (λ b. cond b (depth + 1) 0) test)

-- and it is of the form and the base that are due
pub roster_on : (ks : List Kept) (places : List ℕ) (known : List Entries) (at : ℕ) (body : List ℕ) (depth : ℕ) (k : Kept) → AreKeptAt ks places known → IsFirstDepth ks places depth → AllAscend known → IsTrue (ascend k.entries) →
    IsRecordOn places known depth k.entries at body k.depth → (r : RosterRecord) × IsRosterOf ks places k r × IsRosterAt at body r
roster_on ks [] known at body depth k are first up rises is = (Whole k.entries, (is.1, refl), is.0)
roster_on ks (p ∷ ps) [] at body depth k are first up rises is = absurd are
roster_on ks (p ∷ ps) (es ∷ more) at body depth k are first up rises is = by (nat_lt depth deepest) refl is
  where
    by : (b : Bool) → nat_lt depth deepest ≡ b → MatchBool b (IsDeltaBody es p (depth + 1) k.entries at body × (k.depth ≡ depth + 1)) (IsRosterAt at body (Whole k.entries) × (k.depth ≡ 0)) →
        (r : RosterRecord) × IsRosterOf ks (p ∷ ps) k r × IsRosterAt at body r
    by true test w =
        let d = w.0.delta (up es (0, omega arith, refl)) rises in
        let deeper_is : depth + 1 ≡ k.depth = sym w.1 in (
          w.0.roster,
          subst (IsRosterOf ks (p ∷ ps) k) (sym d.is) (refl, deeper_is, omega arith, (are.0.0, are.0.1, subst (λ (e : Entries). IsDifference e k.entries d.gone d.changed) are.0.2 d.difference)),
          w.0.text,
        )
    by false test w = (Whole k.entries, (w.1, refl), w.0)
