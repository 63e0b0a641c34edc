-- Lists that are kept in order by a key, and the order of the new tree.
use Rattle.std.specs.Prelude.{map, IsTrue}
use Rattle.std.specs.List.{list_all}
use Rattle.std.specs.declared.cmp.Ordering.TheVariants.{Equal}
use Rattle.std.specs.Ordering.{is_lt}
use Rattle.std.specs.Cmp.{first_so, second_so, tied_itself}
use Rattle.std.proofs.Common.{◌≡◌, true, false, cond, List, [], ◌∷◌, ◌++◌, Some, refl, sym, ◌∙◌, ap, subst, inl, inr}
use Rattle.mtn_base.specs.Names.{name_cmp, same_name}
use Rattle.mtn_roster.specs.declared.entry.Entry.{Entry}
use Rattle.mtn_roster.specs.Tree.{Tree, entry_of, in_order, IsSane, is_dir}
use Rattle.mtn_base.specs.Lists.{rises}
use Rattle.mtn_base.proofs.Finding.{Split}
use Rattle.mtn_base.proofs.Members.{split_cons}
use Rattle.mtn_base.proofs.Tests.{same_name-is, same_name-self}
use Rattle.mtn_roster.proofs.Forest.{IsForest, same_some}
use Rattle.mtn_base.proofs.Orders.{names_total}
use Rattle.mtn_base.proofs.Sorting.{lt_was, all_at, ordered-rises}

-- ascending names are distinct
pub distinct_of : (t : Tree) → rises name_cmp (map (λ e. e.name) t) ≡ true → (e : Entry) → Split t e → entry_of t e.name ≡ Some e
distinct_of [] h e s = absurd (none s.before s.rest s.is)
  where
    none : (before rest : List Entry) → [] ≡ before ++ e ∷ rest → ⊥
    none [] rest g = cc
    none (b ∷ before) rest g = cc
distinct_of (f ∷ t) h e s =
    elim (split_cons f t e s) [
      | inl g ↦ ap (λ b. cond b (Some f) (entry_of t e.name)) (ap (λ n. same_name f.name n) (sym (ap (λ (e : Entry). e.name) g)) ∙ same_name-self f.name) ∙ ap Some g
      | inr u ↦
          let low = first_so (list_all (λ l. is_lt (name_cmp f.name l)) (map (λ (e : Entry). e.name) t)) _ h in
          let lt = lt_was _ (all_at (λ l. is_lt (name_cmp f.name l)) (λ (e : Entry). e.name) t e low u) in
          let rest = distinct_of t (second_so (list_all (λ l. is_lt (name_cmp f.name l)) (map (λ (e : Entry). e.name) t)) _ h) e u in
          elim (same_name f.name e.name) as (λ b. same_name f.name e.name ≡ b → cond b (Some f) (entry_of t e.name) ≡ Some e) [
            | true ↦ λ g. absurd (let q : f.name ≡ e.name = same_name-is f.name e.name g in
                let r : name_cmp f.name e.name ≡ Equal = ap (name_cmp f.name) (sym q) ∙ tied_itself names_total f.name in cc)
            | false ↦ λ g. rest
          ] refl
    ]

-- a sane tree, or none, is a forest
pub forest_of : (t : Tree) → IsSane t → IsForest t
forest_of t s = record {
  distinct = distinct_of t (first_so _ _ s.ordered);
  parents = s.sane.parents;
  slots = s.sane.slots;
  rooted = s.sane.rooted;
  root_dir = λ n e h is.
      let r = s.sane.root in
      let g : n ≡ r.0 = s.sane.one_root n r.0 e r.1 h r.2 is r.3 in
      let same : r.1 ≡ e = same_some (subst (λ m. entry_of t m ≡ Some r.1) (sym g) r.2) h in
      subst (λ f. IsTrue (is_dir f)) same r.4;
  not_mtn = s.sane.not_mtn;
}

pub no_forest : IsForest []
no_forest = record {
  distinct = λ e s. absurd (none e s.before s.rest s.is);
  parents = λ n parent e name h. absurd cc;
  slots = λ n m e f h. absurd cc;
  rooted = λ n e h. absurd cc;
  root_dir = λ n e h. absurd cc;
  not_mtn = λ n m e r h. absurd cc;
}
  where
    none : (e : Entry) (before rest : List Entry) → [] ≡ before ++ e ∷ rest → ⊥
    none e [] rest g = cc
    none e (b ∷ before) rest g = cc

pub in_order-rises : (es : List Entry) → rises name_cmp (map (λ e. e.name) (in_order es)) ≡ true
in_order-rises es = ordered-rises name_cmp (λ (e : Entry). e.name) names_total es
