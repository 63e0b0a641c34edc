-- What empty lists of conflicts say of the live nodes.
use Rattle.std.specs.Prelude.{find, map}
use Rattle.std.proofs.Common.{◌≡◌, ℕ, suc, Bool, true, false, List, [], Option, Some, None, refl, sym, ◌∙◌, ap, subst, inl, inr}
use Rattle.mtn_base.specs.Names.{name_cmp, same_name}
use Rattle.mtn_base.specs.declared.name.NodeName.{NodeName}
use Rattle.mtn_roster.specs.Tree.{mtn}
use Rattle.mtn_base.specs.Lists.{rises}
use Rattle.mtn_roster.specs.declared.entry.Slot.{Slot}
use Rattle.mtn_roster.specs.declared.entry.Slot.TheVariants.{Root, Below}
use Rattle.mtn_base.proofs.Finding.{Split, found, not_found, none_passes}
use Rattle.mtn_base.proofs.Members.{split_cons}
use Rattle.mtn_base.proofs.Sorting.{no_split}
use Rattle.mtn_base.proofs.Tests.{same_name-is, same_name-self, told}
use Rattle.mtn_decide.specs.declared.decision.Decision.{Decision}
use Rattle.mtn_decide.specs.declared.decision.SlotChoice.{SlotChoice}
use Rattle.mtn_decide.specs.declared.decision.SlotChoice.TheVariants.{Fixed, Clash}
use Rattle.mtn_decide.specs.Decisions.{Merge, IsInOrder, decision_of}
use Rattle.mtn_conflicts.specs.declared.lists.Conflicts.{Conflicts}
use Rattle.mtn_conflicts.specs.declared.item.Item.{Item}
use Rattle.mtn_conflicts.specs.Lists.{AreItemsOf, AreConflictsOf, IsNone}
use Rattle.mtn_conflicts.specs.Lists.AreItemsOf.{end, listed, passed}
use Rattle.mtn_conflicts.specs.Slots.{HasRoot, IsMisnamed, IsInLoop, IsOrphaned, IsDuplicate, IsTorn, climbed}
use Rattle.mtn_conflicts.proofs.Nodes.{name_of, found_name, found_at, distinct}

module _ {X : Type 0} (P : X → Type 0) (item : X → Item) where
  -- where nothing is listed, no element has P
  none_listed : (xs : List X) (items : List Item) → items ≡ [] → AreItemsOf P item xs items → (x : X) → Split xs x → P x → ⊥
  none_listed xs items e end x s p = absurd (no_split x s)
  none_listed xs items e (listed q rest) x s p = absurd cc
  none_listed xs items e (passed {x = y} {xs = ys} n rest) x s p =
      elim (split_cons y ys x s) [
        | inl g ↦ n (subst P (sym g) p)
        | inr u ↦ none_listed ys items e rest x u p
      ]

is_root_choice : SlotChoice → Bool
is_root_choice (Fixed Root) = true
is_root_choice (Fixed (Below p c)) = false
is_root_choice (Clash l r) = false

unfold_root : (c : SlotChoice) → is_root_choice c ≡ true → c ≡ Fixed Root
unfolding is_root_choice
unfold_root (Fixed Root) h = refl
unfold_root (Fixed (Below p c)) h = absurd cc
unfold_root (Clash l r) h = absurd cc

fold_root : (c : SlotChoice) → c ≡ Fixed Root → is_root_choice c ≡ true
unfolding is_root_choice
fold_root c h = ap is_root_choice h

-- Nothing stands in a list on slots, said of look-ups
pub record IsTidy (ds : List Decision) : Type 0 where
  pub rising : rises name_cmp (map name_of ds) ≡ true
  pub root : HasRoot ds
  pub fixed : (n : NodeName) (d : Decision) → decision_of ds n ≡ Some d → (s : Slot) × (d.slot ≡ Fixed s)
  pub parent : (n p : NodeName) (name : List ℕ) (d : Decision) → decision_of ds n ≡ Some d → d.slot ≡ Fixed (Below p name) → (e : Decision) × (decision_of ds p ≡ Some e)
  pub apart : (n m : NodeName) (d e : Decision) (s : Slot) → decision_of ds n ≡ Some d → decision_of ds m ≡ Some e → d.slot ≡ Fixed s → e.slot ≡ Fixed s → n ≡ m
  pub no_loop : (n : NodeName) (d : Decision) (k : ℕ) → decision_of ds n ≡ Some d → climbed ds (suc k) n ≡ Some n → ⊥
  pub no_mtn : (n p : NodeName) (d r : Decision) → decision_of ds n ≡ Some d → d.slot ≡ Fixed (Below p mtn) → decision_of ds p ≡ Some r → r.slot ≡ Fixed Root → ⊥

module _ (m : Merge) (c : Conflicts) (order : IsInOrder m) (are : AreConflictsOf m c) (none : IsNone c) where
  abbrev ds : List Decision
  ds = m.nodes

  by_root : (o : Option Decision) → find (λ (d : Decision). is_root_choice d.slot) ds ≡ o → HasRoot ds
  by_root (Some r) h =
      let f = found (λ (d : Decision). is_root_choice d.slot) ds r h in
      (r.name, r, distinct ds order.names r f.at, unfold_root r.slot f.passes)
  by_root None h = absurd (
      let nobody : HasRoot ds → ⊥ = λ t.
      let a : is_root_choice t.1.slot ≡ false = none_passes (λ (d : Decision). is_root_choice d.slot) ds t.1 (not_found (λ (d : Decision). is_root_choice d.slot) ds h) (found_at ds t.0 t.1 t.2) in
      let b : is_root_choice t.1.slot ≡ true = fold_root t.1.slot t.3 in
      cc in
      let missing : c.missing_root ≡ true = are.missing_root.1 nobody in
      let there = none.missing_root in
      cc)

  is_fixed : (d : Decision) → Split ds d → (k : SlotChoice) → d.slot ≡ k → (s : Slot) × (k ≡ Fixed s)
  is_fixed d s (Fixed t) h = (t, refl)
  is_fixed d s (Clash l r) h = absurd (none_listed IsTorn _ ds c.multiple_name none.multiple_name are.multiple_name d s (l, r, h))

  has_parent : (d : Decision) → Split ds d → (p : NodeName) (name : List ℕ) → d.slot ≡ Fixed (Below p name) → (o : Option Decision) → decision_of ds p ≡ o → (e : Decision) × (o ≡ Some e)
  has_parent d s p name h None g = absurd (none_listed (IsOrphaned ds) _ ds c.orphaned_node none.orphaned_node are.orphaned_node d s (p, name, h, g))
  has_parent d s p name h (Some e) g = (e, refl)

  pub tidy : IsTidy ds
  tidy = record {
    rising = order.names;
    root = by_root (find (λ (d : Decision). is_root_choice d.slot) ds) refl;
    fixed = λ n d h. is_fixed d (found_at ds n d h) d.slot refl;
    parent = λ n p name d h is. has_parent d (found_at ds n d h) p name is (decision_of ds p) refl;
    apart = λ n q d e s h k is as'. elim (told (same_name q n)) [
      | inl g ↦ sym (same_name-is q n g)
      | inr g ↦ absurd (none_listed (IsDuplicate ds) _ ds c.duplicate_name none.duplicate_name are.duplicate_name d (found_at ds n d h)
          (s, q, e, is, k, (λ f. let a : q ≡ n = f ∙ found_name ds n d h in let b : same_name q n ≡ true = ap (same_name q) (sym a) ∙ same_name-self q in cc), as'))
    ];
    no_loop = λ n d k h back.
        let g = found_name ds n d h in
        none_listed (IsInLoop ds) _ ds c.directory_loop none.directory_loop are.directory_loop d (found_at ds n d h)
        (k, subst (λ x. climbed ds (suc k) x ≡ Some x) (sym g) back);
    no_mtn = λ n p d r h is k top. none_listed (IsMisnamed ds) _ ds c.invalid_name none.invalid_name are.invalid_name d (found_at ds n d h) (p, r, is, k, top);
  }
