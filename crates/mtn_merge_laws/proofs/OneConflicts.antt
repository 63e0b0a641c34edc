-- A filter over a list has one result.
use Rattle.std.specs.Prelude.{◌↔◌, IsTrue}
use Rattle.std.proofs.Common.{◌≡◌, Bool, true, false, List, [], ◌∷◌, refl, sym, ◌∙◌, ap}
use Rattle.mtn_decide.specs.Decisions.{Merge}
use Rattle.mtn_conflicts.specs.declared.item.Item.{Item}
use Rattle.mtn_conflicts.specs.declared.lists.Conflicts.{Conflicts}
use Rattle.mtn_conflicts.specs.Lists.{AreItemsOf, AreConflictsOf, IsAttrTorn, IsContentTorn, slot_item, attr_item, content_item, all_attrs}
use Rattle.mtn_conflicts.specs.Lists.AreItemsOf.{end, listed, passed}
use Rattle.mtn_conflicts.specs.Slots.{HasRoot, IsMisnamed, IsInLoop, IsOrphaned, IsDuplicate, IsTorn}

one_items : {X : Type 0} (P : X → Type 0) (item : X → Item) (xs : List X) (a b : List Item) → AreItemsOf P item xs a → AreItemsOf P item xs b → a ≡ b
one_items P item [] _ _ end end = refl
one_items P item (x ∷ xs) _ _ (listed {items = a} p s) (listed {items = b} q t) = ap (λ l. item x ∷ l) (one_items P item xs a b s t)
one_items P item (x ∷ xs) _ _ (listed p s) (passed n t) = absurd (n p)
one_items P item (x ∷ xs) _ _ (passed n s) (listed q t) = absurd (n q)
one_items P item (x ∷ xs) a b (passed n s) (passed k t) = one_items P item xs a b s t

one_flag : (P : Type 0) (a b : Bool) → IsTrue a ↔ P → IsTrue b ↔ P → a ≡ b
one_flag P true true h g = refl
one_flag P false false h g = refl
one_flag P true false h g = absurd (let z = g.1 (h.0 refl) in cc)
one_flag P false true h g = absurd (let z = h.1 (g.0 refl) in cc)

pub one_conflicts : (m : Merge) (c d : Conflicts) → AreConflictsOf m c → AreConflictsOf m d → c ≡ d
one_conflicts m c d a b = λ i. record {
  missing_root = one_flag (¬ HasRoot m.nodes) c.missing_root d.missing_root a.missing_root b.missing_root i;
  invalid_name = one_items (IsMisnamed m.nodes) slot_item m.nodes c.invalid_name d.invalid_name a.invalid_name b.invalid_name i;
  directory_loop = one_items (IsInLoop m.nodes) slot_item m.nodes c.directory_loop d.directory_loop a.directory_loop b.directory_loop i;
  orphaned_node = one_items (IsOrphaned m.nodes) slot_item m.nodes c.orphaned_node d.orphaned_node a.orphaned_node b.orphaned_node i;
  multiple_name = one_items IsTorn slot_item m.nodes c.multiple_name d.multiple_name a.multiple_name b.multiple_name i;
  duplicate_name = one_items (IsDuplicate m.nodes) slot_item m.nodes c.duplicate_name d.duplicate_name a.duplicate_name b.duplicate_name i;
  attribute = one_items IsAttrTorn attr_item (all_attrs m.nodes) c.attribute d.attribute a.attribute b.attribute i;
  content = one_items IsContentTorn content_item m.nodes c.content d.content a.content b.content i;
  dropped_modified = (a.dropped_modified ∙ sym b.dropped_modified) i;
}
