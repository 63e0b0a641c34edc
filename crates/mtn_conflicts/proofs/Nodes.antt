-- Live nodes by their names, and their entries.
use Rattle.std.specs.Prelude.{map, option_map}
use Rattle.std.specs.List.{list_all}
use Rattle.std.specs.declared.cmp.Ordering.TheVariants.{Equal}
use Rattle.std.specs.Ordering.{is_lt}
use Rattle.std.specs.Cmp.{first_so, second_so, tied_itself}
use Rattle.std.proofs.Common.{◌≡◌, true, false, cond, List, [], ◌∷◌, Option, Some, None, refl, sym, ◌∙◌, ap, subst, inl, inr}
use Rattle.mtn_base.specs.Names.{name_cmp, same_name}
use Rattle.mtn_base.specs.declared.name.NodeName.{NodeName}
use Rattle.mtn_roster.specs.Tree.{entry_of}
use Rattle.mtn_base.specs.Lists.{rises}
use Rattle.mtn_roster.specs.declared.entry.Entry.{Entry}
use Rattle.mtn_base.proofs.Finding.{Split, found}
use Rattle.mtn_base.proofs.Members.{split_cons}
use Rattle.mtn_base.proofs.Sorting.{no_split, lt_was, all_at}
use Rattle.mtn_base.proofs.Orders.{names_total}
use Rattle.mtn_base.proofs.Tests.{same_name-is, same_name-self}
use Rattle.mtn_decide.specs.declared.decision.Decision.{Decision}
use Rattle.mtn_decide.specs.Decisions.{decision_of}
use Rattle.mtn_conflicts.specs.Result.{decided_entry, tree_before}

abbrev pub name_of : Decision → NodeName
name_of d = d.name

pub found_name : (ds : List Decision) (n : NodeName) (d : Decision) → decision_of ds n ≡ Some d → d.name ≡ n
found_name ds n d h = same_name-is d.name n (found (λ (d : Decision). same_name d.name n) ds d h).passes

pub found_at : (ds : List Decision) (n : NodeName) (d : Decision) → decision_of ds n ≡ Some d → Split ds d
found_at ds n d h = (found (λ (d : Decision). same_name d.name n) ds d h).at

pub own : (ds : List Decision) (n : NodeName) (d : Decision) → decision_of ds n ≡ Some d → decision_of ds d.name ≡ Some d
own ds n d h = subst (λ m. decision_of ds m ≡ Some d) (sym (found_name ds n d h)) h

-- ascending names are distinct
pub distinct : (ds : List Decision) → rises name_cmp (map name_of ds) ≡ true → (d : Decision) → Split ds d → decision_of ds d.name ≡ Some d
distinct [] h d s = absurd (no_split d s)
distinct (c ∷ ds) h d s =
    elim (split_cons c ds d s) [
      | inl g ↦ ap (λ b. cond b (Some c) (decision_of ds d.name)) (ap (λ n. same_name c.name n) (sym (ap name_of g)) ∙ same_name-self c.name) ∙ ap Some g
      | inr u ↦
          let low = first_so (list_all (λ l. is_lt (name_cmp c.name l)) (map name_of ds)) _ h in
          let lt = lt_was _ (all_at (λ l. is_lt (name_cmp c.name l)) name_of ds d low u) in
          let rest = distinct ds (second_so (list_all (λ l. is_lt (name_cmp c.name l)) (map name_of ds)) _ h) d u in
          elim (same_name c.name d.name) as (λ b. same_name c.name d.name ≡ b → cond b (Some c) (decision_of ds d.name) ≡ Some d) [
            | true ↦ λ g. absurd (let q : c.name ≡ d.name = same_name-is c.name d.name g in
                let r : name_cmp c.name d.name ≡ Equal = ap (name_cmp c.name) (sym q) ∙ tied_itself names_total c.name in cc)
            | false ↦ λ g. rest
          ] refl
    ]

-- the tree of live nodes has the entry of each
pub entry_before : (ds : List Decision) (n : NodeName) → entry_of (tree_before ds) n ≡ option_map decided_entry (decision_of ds n)
entry_before [] n = refl
entry_before (d ∷ ds) n =
    elim (same_name d.name n) as (λ b. cond b (Some (decided_entry d)) (entry_of (tree_before ds) n) ≡ option_map decided_entry (cond b (Some d) (decision_of ds n))) [
      | true ↦ refl
      | false ↦ entry_before ds n
    ]

-- the live node of an entry
pub node_before : (ds : List Decision) (n : NodeName) (e : Entry) → entry_of (tree_before ds) n ≡ Some e → (d : Decision) × (decision_of ds n ≡ Some d) × (decided_entry d ≡ e)
node_before ds n e h = go (decision_of ds n) refl (sym (entry_before ds n) ∙ h)
  where
    go : (o : Option Decision) → decision_of ds n ≡ o → option_map decided_entry o ≡ Some e → (d : Decision) × (decision_of ds n ≡ Some d) × (decided_entry d ≡ e)
    go None g k = absurd cc
    go (Some d) g k = (d, g, (let q : decided_entry d ≡ e = cc in q))

pub has_entry : (ds : List Decision) (n : NodeName) (d : Decision) → decision_of ds n ≡ Some d → entry_of (tree_before ds) n ≡ Some (decided_entry d)
has_entry ds n d h = entry_before ds n ∙ ap (option_map decided_entry) h
