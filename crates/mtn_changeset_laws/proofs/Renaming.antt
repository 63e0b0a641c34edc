-- Lawful changes rename no path twice.
use Rattle.std.specs.Prelude.{Contains}
use Rattle.std.specs.List.{count_by}
use Rattle.std.specs.Ordering.{is_eq}
use Rattle.std.specs.Cmp.{tied_itself}
use Rattle.std.proofs.Common.{◌≡◌, ◌+◌, ◌≤◌, true, cond, List, [], ◌∷◌, sym, ◌∙◌, ap, subst, inl, inr, arith}
use Rattle.mtn_changes.specs.declared.change.Change.{Change}
use Rattle.mtn_changes.specs.declared.change.Change.TheVariants.{Rename}
use Rattle.mtn_changes.specs.declared.target.Target.{Target}
use Rattle.mtn_changes.specs.Targets.{target_of}
use Rattle.mtn_changes.specs.Sorting.{AreUnsorted}
use Rattle.mtn_changes.proofs.Places.{target_total}
use Rattle.mtn_changes.proofs.Sorted.{at, count_more}
use Rattle.mtn_base.proofs.Finding.{Split}
use Rattle.mtn_base.proofs.Members.{split_cons, taken}
use Rattle.mtn_base.proofs.Sorting.{no_split}
use Rattle.mtn_changeset_laws.specs.Laws.{RenamesDiffer}

pub split_of_contains : {X : Type 0} (xs : List X) (x : X) → Contains xs x → Split xs x
split_of_contains xs x c = let t = taken xs c.0 c.1 in subst (Split xs) (sym (t.3 x) ∙ c.2) t.2

counts_one : (s : Target) (c : Change) (cs : List Change) → at s c ≡ true → count_by (at s) (c ∷ cs) ≡ 1 + count_by (at s) cs
counts_one s c cs h = count_more s c cs ∙ ap (λ b. cond b 1 0 + count_by (at s) cs) h

counted : (s : Target) (cs : List Change) (c : Change) → Split cs c → at s c ≡ true → 1 ≤ count_by (at s) cs
counted s [] c u h = absurd (no_split c u)
counted s (d ∷ cs) c u h = elim (split_cons d cs c u) [
  | inl e ↦ omega (arith, counts_one s d cs (ap (at s) e ∙ h))
  | inr v ↦ omega (arith, counted s cs c v h, count_more s d cs)
]

-- where a target is changed at most once, changes of it are one
pub one_change : (s : Target) (cs : List Change) (c d : Change) → Split cs c → Split cs d → at s c ≡ true → at s d ≡ true → count_by (at s) cs ≤ 1 → c ≡ d
one_change s [] c d u v h k most = absurd (no_split c u)
one_change s (b ∷ cs) c d u v h k most = elim (split_cons b cs c u) [
  | inl e ↦ elim (split_cons b cs d v) [
    | inl f ↦ sym e ∙ f
    | inr w ↦ absurd (omega (arith, counted s cs d w k, counts_one s b cs (ap (at s) e ∙ h), most))
  ]
  | inr t ↦ elim (split_cons b cs d v) [
    | inl f ↦ absurd (omega (arith, counted s cs c t h, counts_one s b cs (ap (at s) f ∙ k), most))
    | inr w ↦ one_change s cs c d t w h k (omega (arith, count_more s b cs, most))
  ]
]

pub renames_differ : (all : List Change) → AreUnsorted all → RenamesDiffer all
renames_differ all lawful p q r c d =
    let s = target_of (Rename p q) in
    let self : at s (Rename p q) ≡ true = ap is_eq (tied_itself target_total s) in
    let one : Rename p q ≡ Rename p r = one_change s all (Rename p q) (Rename p r) (split_of_contains all _ c) (split_of_contains all _ d) self self (lawful.apart s) in
    cc
