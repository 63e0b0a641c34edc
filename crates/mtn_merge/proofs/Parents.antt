-- Files that others hang on.
use Rattle.std.specs.Prelude.{map, option_and_then}
use Rattle.std.proofs.Common.{◌≡◌, ◌<◌, ℕ, Bool, true, false, List, Option, Some, None, length, get_or, refl, sym, ◌∙◌, ap, subst, inl, inr}
use Rattle.mtn_base.specs.Lists.{rises}
use Rattle.mtn_base.specs.Names.{name_cmp}
use Rattle.mtn_base.specs.declared.name.NodeName.{NodeName}
use Rattle.mtn_base.proofs.Finding.{Split}
use Rattle.mtn_base.proofs.Members.{taken}
use Rattle.mtn_base.proofs.Tests.{told}
use Rattle.mtn_conflicts.specs.Result.{ParentsAreDirs}
use Rattle.mtn_conflicts.specs.Slots.{parent_in, parent_of}
use Rattle.mtn_conflicts.proofs.Nodes.{distinct, found_at}
use Rattle.mtn_decide.specs.declared.decision.Decision.{Decision}
use Rattle.mtn_decide.specs.Decisions.{decision_of}
use Rattle.mtn_merge.specs.Parents.{HangsOnFile}

-- the element at a place
pub split_item : {X : Type 0} (xs : List X) (i : ℕ) (x y : X) → i < length xs → x ≡ get_or xs i y → Split xs x
split_item xs i x y lt is = let t = taken xs i lt in subst (Split xs) (sym (is ∙ t.3 y)) t.2

hung : (ds : List Decision) (n p : NodeName) → parent_of ds n ≡ Some p → (d : Decision) × (decision_of ds n ≡ Some d) × (parent_in d.slot ≡ Some p)
hung ds n p h = go (decision_of ds n) refl h
  where
    go : (o : Option Decision) → decision_of ds n ≡ o → option_and_then (λ (d : Decision). parent_in d.slot) o ≡ Some p → (d : Decision) × (decision_of ds n ≡ Some d) × (parent_in d.slot ≡ Some p)
    go None g k = absurd cc
    go (Some d) g k = (d, g, k)

so : (b : Bool) → (b ≡ false → ⊥) → b ≡ true
so b n = elim (told b) [ inl y ↦ y | inr f ↦ absurd (n f) ]

pub all_dirs : (ds : List Decision) → ((d : Decision) → Split ds d → HangsOnFile ds d → ⊥) → ParentsAreDirs ds
all_dirs ds each = record {
  root = λ n d h e. so d.is_dir (λ f. each d (found_at ds n d h) (inl (e, f)));
  parents = λ n p d h g. let u = hung ds n p h in so d.is_dir (λ f. each u.0 (found_at ds n u.0 u.1) (inr (p, d, u.2, g, f)));
}

pub not_dirs : (ds : List Decision) → rises name_cmp (map (λ (d : Decision). d.name) ds) ≡ true → (d : Decision) → Split ds d → HangsOnFile ds d → ParentsAreDirs ds → ⊥
not_dirs ds up d s (inl r) dirs = let k = dirs.root d.name d (distinct ds up d s) r.0 in let f = r.1 in cc
not_dirs ds up d s (inr r) dirs =
    let k = dirs.parents d.name r.0 r.1 (ap (λ o. option_and_then (λ (x : Decision). parent_in x.slot) o) (distinct ds up d s) ∙ r.2) r.3 in
    let f = r.4 in
    cc
