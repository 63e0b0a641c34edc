-- A merge of two children of one revision that change different things has no conflict.
use Rattle.std.specs.Prelude.{Contains, IsSome, map, option_and_then, option_map, slice_get}
use Rattle.std.specs.Cmp.{first_so, second_so}
use Rattle.std.specs.List.{list_all}
use Rattle.std.proofs.Common.{◌≡◌, ◌<◌, ◌⊎◌, ℕ, zero, suc, Bool, true, false, cond, List, [], ◌∷◌, length, Option, Some, None, refl, sym, ◌∙◌, ap, subst, ⊎_elim, inl, inr}
use Rattle.mtn_ancestry.specs.Ancestors.{IsAncestor}
use Rattle.mtn_ancestry.specs.Ancestors.IsAncestor.{itself, through}
use Rattle.mtn_base.specs.Names.{bytes_cmp, same_bytes}
use Rattle.mtn_base.specs.declared.name.NodeName.{NodeName}
use Rattle.mtn_base.proofs.Finding.{Split, later}
use Rattle.mtn_base.proofs.IdOrder.{contains_cases, contains_head, contains_nil}
use Rattle.mtn_base.proofs.Members.{head, of_append, split_cons}
use Rattle.mtn_base.proofs.Orders.{bytes_total}
use Rattle.mtn_base.proofs.Sorting.{no_split}
use Rattle.mtn_base.proofs.Tests.{same_bytes-is, same_bytes-self, same_name-self}
use Rattle.mtn_conflicts.specs.declared.item.Item.{Item}
use Rattle.mtn_conflicts.specs.declared.lists.Conflicts.{Conflicts}
use Rattle.mtn_conflicts.specs.Lists.{AreConflictsOf, AreItemsOf, IsAttrTorn, IsContentTorn, IsNone, all_attrs, attr_item, attrs_of, content_item, pending_item, slot_item}
use Rattle.mtn_conflicts.specs.Lists.AreItemsOf.{end, listed, passed}
use Rattle.mtn_conflicts.specs.Slots.{HasRoot, IsDuplicate, IsInLoop, IsMisnamed, IsOrphaned, IsTorn, climbed, parent_in, parent_of}
use Rattle.mtn_conflicts.proofs.Nodes.{distinct}
use Rattle.mtn_decide.specs.declared.decision.AttrChoice.TheVariants.{Clash as AttrClash}
use Rattle.mtn_decide.specs.declared.decision.AttrDecision.{AttrDecision}
use Rattle.mtn_decide.specs.declared.decision.Decision.{Decision}
use Rattle.mtn_decide.specs.declared.decision.Pending.{Pending}
use Rattle.mtn_decide.specs.declared.decision.SlotChoice.{SlotChoice}
use Rattle.mtn_decide.specs.declared.decision.SlotChoice.TheVariants.{Fixed, Clash}
use Rattle.mtn_decide.specs.Decisions.{IsInOrder, Merge, choice_of, decision_of, has_keys_in_order, pending_of}
use Rattle.mtn_decide.specs.Graph.{IsDecided, IsLive, IsLiveWith, IsMergeOf, IsPending}
use Rattle.mtn_decide.specs.Graph.IsDecided.{common, left_alone, right_alone, left_wins, right_wins, clash}
use Rattle.mtn_decide.specs.Graph.IsPending.{of_left, of_right}
use Rattle.mtn_decide.specs.Verdicts.{Verdict, attr_verdict, content_verdict, slot_verdict, verdict_of}
use Rattle.mtn_decide.specs.Verdicts.Verdict.{Clashing, Settled}
use Rattle.mtn_history_laws.specs.History.{IsGrown, Revision, entry_at, parents_at, revision_parents, tree_at}
use Rattle.mtn_history_laws.specs.Scalars.{Scalar, Value, WinsAt, node_of, value_at, value_of}
use Rattle.mtn_history_laws.specs.Scalars.Scalar.{AttrOf, ContentOf, SlotOf}
use Rattle.mtn_history_laws.specs.Scalars.Value.{AttrValue, ContentValue, SlotValue}
use Rattle.mtn_mark_laws.specs.Marks.{IsMarked}
use Rattle.mtn_mark_laws.specs.Marks.IsMarked.{changed, chosen, fresh}
use Rattle.mtn_marking.proofs.Zips.{got_at}
use Rattle.mtn_merge_laws.proofs.Looks.{own}
use Rattle.mtn_roster.specs.Tree.{EndsAtRoot, IsSane, entry_of, mtn}
use Rattle.mtn_roster.specs.Tree.EndsAtRoot.{top, under}
use Rattle.mtn_roster.specs.declared.entry.Entry.{Entry}
use Rattle.mtn_roster.specs.declared.entry.Slot.{Slot}
use Rattle.mtn_roster.specs.declared.entry.Slot.TheVariants.{Below, Root}
use Rattle.mtn_generated_laws.specs.Siblings.{AreSiblings}

-- ---- who wins

module _ (h : List Revision) (p : ℕ) where
  one_parent : (q : ℕ) → Contains (p ∷ []) q → q ≡ p
  one_parent q c = ⊎_elim (λ e. sym e) (λ d. absurd (contains_nil d)) (contains_cases p [] q c)

  parent_of_child : (l q : ℕ) → parents_at h l ≡ p ∷ [] → Contains (parents_at h l) q → q ≡ p
  parent_of_child l q one c = one_parent q (subst (λ ps. Contains ps q) one c)

  has_parent : (l : ℕ) → parents_at h l ≡ p ∷ [] → Contains (parents_at h l) p
  has_parent l one = subst (λ ps. Contains ps p) (sym one) (contains_head p [])

  -- a child that has a scalar as its parent has it is no event of it
  unmarked : (s : Scalar) (l : ℕ) → parents_at h l ≡ p ∷ [] → value_at h s l ≡ value_at h s p → IsMarked Value (parents_at h) (value_at h s) l → ⊥
  unmarked s l one same (fresh {v = v} e none) = let z : Some v ≡ None = sym e ∙ same ∙ none p (has_parent l one) in cc
  unmarked s l one same (changed {v = v} e differ) = differ p v (has_parent l one) (sym same ∙ e) refl
  unmarked s l one same (chosen {p = a} {q = b} {v = v} {w = w} e at_a at_b kept other ne above outside marked) =
      let ab : b ≡ a = parent_of_child l b one at_b ∙ sym (parent_of_child l a one at_a) in
      let z : Some v ≡ Some w = sym kept ∙ ap (value_at h s) ab ∙ other in
      ne (let same_value : v ≡ w = cc in same_value)

  -- an ancestor of a child is the child, or one of each other child
  of_child : (m l r : ℕ) → parents_at h l ≡ p ∷ [] → parents_at h r ≡ p ∷ [] → IsAncestor (parents_at h) m l → (m ≡ l) ⊎ IsAncestor (parents_at h) m r
  of_child m l r one other itself = inl refl
  of_child m l r one other (through {p = q} c a) = inr (through (has_parent r other) (subst (IsAncestor (parents_at h) m) (parent_of_child l q one c) a))

  wins : (s : Scalar) (l r : ℕ) → parents_at h l ≡ p ∷ [] → parents_at h r ≡ p ∷ [] → value_at h s l ≡ value_at h s p → WinsAt h s r l
  wins s l r one other same m above marked = ⊎_elim
      (λ e. absurd (unmarked s l one same (subst (IsMarked Value (parents_at h) (value_at h s)) e marked)))
      (λ a. a) (of_child m l r one other above)

  placed : (l : ℕ) → parents_at h l ≡ p ∷ [] → l < length h
  placed l one = by (slice_get h l) refl one
    where
      by : (o : Option Revision) → slice_get h l ≡ o → revision_parents o ≡ p ∷ [] → l < length h
      by None e f = absurd cc
      by (Some x) e f = (got_at h l x e).0

module _ (h : List Revision) (p l r : ℕ) (sib : AreSiblings h p l r) where
  no_clash : (s : Scalar) (x : Verdict) (v w : Value) → x ≡ Clashing v w → IsDecided h l r s x → ⊥
  no_clash s _ v w e (common f g) = absurd cc
  no_clash s _ v w e (left_alone f g) = absurd cc
  no_clash s _ v w e (right_alone f g) = absurd cc
  no_clash s _ v w e (left_wins f g ne k) = absurd cc
  no_clash s _ v w e (right_wins f g ne n k) = absurd cc
  no_clash s _ v w e (clash f g ne nl nr) = ⊎_elim
      (λ same. nr (wins h p s l r sib.left_parent sib.right_parent same))
      (λ same. nl (wins h p s r l sib.right_parent sib.left_parent same)) (sib.apart s)

  slot_settled : (n : NodeName) (x : Verdict) → IsDecided h l r (SlotOf n) x → (v : Value) × (x ≡ Settled v) × (value_at h (SlotOf n) l ≡ Some v)
  slot_settled n _ (common {v = v} f g) = (v, refl, f)
  slot_settled n _ (left_alone {v = v} f g) = (v, refl, f)
  slot_settled n _ (right_alone {w = w} f g) = (w, refl, sib.slots n ∙ g)
  slot_settled n _ (left_wins {v = v} f g ne k) = (v, refl, f)
  slot_settled n _ (right_wins {w = w} f g ne n' k) = (w, refl, sib.slots n ∙ g)
  slot_settled n _ (clash {v = v} {w = w} f g ne nl nr) = absurd (ne (let z : Some v ≡ Some w = sym f ∙ sib.slots n ∙ g in let same : v ≡ w = cc in same))

-- ---- what is decided

fixed_slot : (a b : Slot) → Fixed a ≡ Fixed b → a ≡ b
fixed_slot a b e = cc

module _ (h : List Revision) (p l r : ℕ) (sib : AreSiblings h p l r) (m : Merge) (grown : IsGrown h) (order : IsInOrder m) (is : IsMergeOf h l r m) where
  abbrev ds : List Decision
  ds = m.nodes

  decided : (s : Scalar) (d : Decision) (v : Verdict) → decision_of ds (node_of s) ≡ Some d → verdict_of s d ≡ Some v → IsDecided h l r s v
  decided s d v hd k = ((is.scalars s v).0 (ap (option_and_then (verdict_of s)) hd ∙ k)).1

  sane : IsSane (tree_at h l)
  sane = grown.sane l (placed h p l sib.left_parent)

  -- the slot of a live node is that of its entry
  seen : (n : NodeName) (d : Decision) → decision_of ds n ≡ Some d → (e : Entry) × (entry_at h l n ≡ Some e) × (d.slot ≡ Fixed e.slot)
  seen n d hd = go d.slot refl (slot_settled h p l r sib n (slot_verdict d.slot) (decided (SlotOf n) d (slot_verdict d.slot) hd refl))
    where
      there : (s : Slot) → d.slot ≡ Fixed s → (o : Option Entry) → entry_at h l n ≡ o → option_and_then (value_of (SlotOf n)) o ≡ Some (SlotValue s) → (e : Entry) × (entry_at h l n ≡ Some e) × (d.slot ≡ Fixed e.slot)
      there s fixed None e f = absurd cc
      there s fixed (Some x) e f = (x, e, fixed ∙ ap Fixed (let same : s ≡ x.slot = cc in same))

      go : (c : SlotChoice) → d.slot ≡ c → (v : Value) × (slot_verdict c ≡ Settled v) × (value_at h (SlotOf n) l ≡ Some v) → (e : Entry) × (entry_at h l n ≡ Some e) × (d.slot ≡ Fixed e.slot)
      go (Fixed s) e t = there s e (entry_at h l n) refl (t.2 ∙ ap Some (let f = t.1 in let same : t.0 ≡ SlotValue s = cc in same))
      go (Clash a b) e t = absurd (let f = t.1 in cc)

  lives : (n : NodeName) (e : Entry) → entry_at h l n ≡ Some e → IsLive h l r n
  lives n e k = by (entry_at h r n) refl (sym (sib.slots n) ∙ ap (option_and_then (value_of (SlotOf n))) k)
    where
      by : (o : Option Entry) → entry_at h r n ≡ o → option_and_then (value_of (SlotOf n)) o ≡ Some (SlotValue e.slot) → IsLive h l r n
      by None g z = absurd cc
      by (Some f) g z = subst (λ u. IsLiveWith h l r n u (entry_at h r n)) (sym k) (subst (λ v. IsLiveWith h l r n (Some e) v) (sym g) tt)

  -- each node of the tree is decided, in its slot
  there : (n : NodeName) (e : Entry) → entry_at h l n ≡ Some e → (d : Decision) × (decision_of ds n ≡ Some d) × (d.slot ≡ Fixed e.slot)
  there n e k = by (decision_of ds n) refl ((is.live n).1 (lives n e k))
    where
      by : (o : Option Decision) → decision_of ds n ≡ o → IsSome o → (d : Decision) × (decision_of ds n ≡ Some d) × (d.slot ≡ Fixed e.slot)
      by None hd some = absurd (let z = some in cc)
      by (Some d) hd some =
          let s = seen n d hd in
          let at = s.1 in
          let same : s.0 ≡ e = cc in
          (d, hd, s.2 ∙ ap (λ (x : Entry). Fixed x.slot) same)

  slot_is : (d : Decision) (e : Entry) (s : Slot) → d.slot ≡ Fixed e.slot → d.slot ≡ Fixed s → e.slot ≡ s
  slot_is d e s f g = fixed_slot e.slot s (sym f ∙ g)

  named : (d : Decision) → Split ds d → decision_of ds d.name ≡ Some d
  named d s = distinct ds order.names d s

  -- ---- what hangs where

  has_root : HasRoot ds
  has_root = let t = sane.sane.root in let d = there t.0 t.1 t.2 in (t.0, d.0, d.1, d.2 ∙ ap Fixed t.3)

  not_misnamed : (d : Decision) → Split ds d → IsMisnamed ds d → ⊥
  not_misnamed d s t =
      let e = seen d.name d (named d s) in
      let f = seen t.0 t.1 t.3 in
      sane.sane.not_mtn d.name t.0 e.0 f.0 e.1 f.1 (slot_is t.1 f.0 Root f.2 t.4) (slot_is d e.0 (Below t.0 mtn) e.2 t.2)

  not_orphaned : (d : Decision) → Split ds d → IsOrphaned ds d → ⊥
  not_orphaned d s t =
      let e = seen d.name d (named d s) in
      let x = sane.sane.parents d.name t.0 e.0 t.1 e.1 (slot_is d e.0 (Below t.0 t.1) e.2 t.2) in
      let a = there t.0 x.0 x.1 in
      let z : Some a.0 ≡ None = sym a.1 ∙ t.3 in
      cc

  not_torn : (d : Decision) → Split ds d → IsTorn d → ⊥
  not_torn d s t =
      let e = seen d.name d (named d s) in
      let z : Fixed e.0.slot ≡ Clash t.0 t.1 = sym e.2 ∙ t.2 in
      cc

  not_duplicate : (d : Decision) → Split ds d → IsDuplicate ds d → ⊥
  not_duplicate d s t =
      let e = seen d.name d (named d s) in
      let f = seen t.1 t.2 t.4 in
      t.5 (sane.sane.slots t.1 d.name f.0 e.0 f.1 e.1 (slot_is t.2 f.0 t.0 f.2 t.6 ∙ sym (slot_is d e.0 t.0 e.2 t.3)))

  shift : (n q : NodeName) (k : ℕ) → parent_of ds n ≡ Some q → climbed ds (suc k) n ≡ climbed ds k q
  shift n q zero e = e
  shift n q (suc k) e = ap (option_and_then (parent_of ds)) (shift n q k e)

  no_way : (n : NodeName) (k : ℕ) → parent_of ds n ≡ None → climbed ds (suc k) n ≡ None
  no_way n zero e = e
  no_way n (suc k) e = ap (option_and_then (parent_of ds)) (no_way n k e)

  up : (n : NodeName) (d : Decision) (s : Slot) → decision_of ds n ≡ Some d → d.slot ≡ Fixed s → parent_of ds n ≡ parent_in (Fixed s)
  up n d s hd e = ap (option_and_then (λ (x : Decision). parent_in x.slot)) hd ∙ ap parent_in e

  no_loop : (n : NodeName) (e : Entry) (s : Slot) → entry_at h l n ≡ Some e → e.slot ≡ s → EndsAtRoot (entry_of (tree_at h l)) s → (k : ℕ) → climbed ds (suc k) n ≡ Some n → ⊥
  no_loop n e _ at hangs top k loop =
      let d = there n e at in
      let z : None ≡ Some n = sym (no_way n k (up n d.0 Root d.1 (d.2 ∙ ap Fixed hangs))) ∙ loop in
      cc
  no_loop n e _ at hangs (under {parent = q} {name = name} {d = x} above ends) k loop =
      let d = there n e at in
      let to : parent_of ds n ≡ Some q = up n d.0 (Below q name) d.1 (d.2 ∙ ap Fixed hangs) in
      no_loop q x x.slot above refl ends k (ap (option_and_then (parent_of ds)) (sym (shift n q k to) ∙ loop) ∙ to)

  not_in_loop : (d : Decision) → Split ds d → IsInLoop ds d → ⊥
  not_in_loop d s t =
      let e = seen d.name d (named d s) in
      no_loop d.name e.0 e.0.slot e.1 refl (sane.sane.rooted d.name e.0 e.1) t.0 t.1

  -- ---- contents, attributes, and what is pending

  not_content : (d : Decision) → Split ds d → IsContentTorn d → ⊥
  not_content d s t =
      no_clash h p l r sib (ContentOf d.name) (Clashing (ContentValue t.0) (ContentValue t.1)) (ContentValue t.0) (ContentValue t.1) refl
      (decided (ContentOf d.name) d (Clashing (ContentValue t.0) (ContentValue t.1)) (named d s) (ap content_verdict t.2))

  of_map : {X Y : Type 0} (g : X → Y) (xs : List X) (y : Y) → Split (map g xs) y → (x : X) × Split xs x × (g x ≡ y)
  of_map g [] y s = absurd (no_split y s)
  of_map g (x ∷ xs) y s = elim (split_cons (g x) (map g xs) y s) [
    | inl e ↦ (x, head x xs, e)
    | inr u ↦ let t = of_map g xs y u in (t.0, later x xs t.0 t.1, t.2)
  ]

  of_attrs : (xs : List Decision) (x : NodeName × AttrDecision) → Split (all_attrs xs) x → (d : Decision) × Split xs d × Split (attrs_of d) x
  of_attrs [] x s = absurd (no_split x s)
  of_attrs (d ∷ xs) x s = elim (of_append (attrs_of d) (all_attrs xs) x s) [
    | inl here ↦ (d, head d xs, here)
    | inr on ↦ let t = of_attrs xs x on in (t.0, later d xs t.0 t.1, t.2)
  ]

  keys_at : (xs : List Decision) (d : Decision) → list_all has_keys_in_order xs ≡ true → Split xs d → has_keys_in_order d ≡ true
  keys_at [] d all s = absurd (no_split d s)
  keys_at (x ∷ xs) d all s = elim (split_cons x xs d s) [
    | inl e ↦ ap has_keys_in_order (sym e) ∙ first_so (has_keys_in_order x) (list_all has_keys_in_order xs) all
    | inr u ↦ keys_at xs d (second_so (has_keys_in_order x) (list_all has_keys_in_order xs) all) u
  ]

  not_attr : (x : NodeName × AttrDecision) → Split (all_attrs ds) x → IsAttrTorn x → ⊥
  not_attr x s t =
      let d = of_attrs ds x s in
      let a = of_map (λ (b : AttrDecision). (d.0.name, b)) d.0.attrs x d.2 in
      let torn : a.0.choice ≡ AttrClash t.0 t.1 = ap (λ (y : NodeName × AttrDecision). y.1.choice) a.2 ∙ t.2 in
      let keys : has_keys_in_order d.0 ≡ true = keys_at ds d.0 order.keys d.1 in
      let chosen_there : choice_of d.0.attrs a.0.key ≡ Some a.0.choice =
      ap (option_map (λ (b : AttrDecision). b.choice)) (own bytes_cmp same_bytes (λ (b : AttrDecision). b.key) bytes_total same_bytes-is same_bytes-self d.0.attrs keys a.0 a.1) in
      no_clash h p l r sib (AttrOf d.0.name a.0.key) (Clashing (AttrValue t.0) (AttrValue t.1)) (AttrValue t.0) (AttrValue t.1) refl
      (decided (AttrOf d.0.name a.0.key) d.0 (Clashing (AttrValue t.0) (AttrValue t.1)) (named d.0 d.1) (ap (option_map attr_verdict) (chosen_there ∙ ap Some torn)))

  not_pending : (n : NodeName) (x : Pending) → IsPending h l r n x → ⊥
  not_pending n _ (of_left {e = e} at dir dead lost) = dead (lives n e at)
  not_pending n _ (of_right {e = e} at dir dead lost) = by (entry_at h l n) refl (sib.slots n ∙ ap (option_and_then (value_of (SlotOf n))) at)
    where
      by : (o : Option Entry) → entry_at h l n ≡ o → option_and_then (value_of (SlotOf n)) o ≡ Some (SlotValue e.slot) → ⊥
      by None g z = absurd cc
      by (Some f) g z = dead (lives n f g)

  none_pending : (ps : List Pending) → m.pending ≡ ps → ps ≡ []
  none_pending [] e = refl
  none_pending (x ∷ ps) e = absurd (not_pending x.entry.name x ((is.pending x.entry.name x).0
      (ap (λ qs. pending_of qs x.entry.name) e ∙ ap (λ b. cond b (Some x) (pending_of ps x.entry.name)) (same_name-self x.entry.name))))

  -- ---- the lists

  nothing : {X : Type 0} (P : X → Type 0) (item : X → Item) (xs : List X) (items : List Item) → AreItemsOf P item xs items → ((x : X) → Split xs x → P x → ⊥) → items ≡ []
  nothing P item xs items end none = refl
  nothing P item xs items (listed {x = y} {xs = ys} q rest) none = absurd (none y (head y ys) q)
  nothing P item xs items (passed {x = y} {xs = ys} n rest) none = nothing P item ys items rest (λ x s. none x (later y ys x s))

  root_there : (c : Conflicts) → AreConflictsOf m c → (b : Bool) → c.missing_root ≡ b → b ≡ false
  root_there c are false e = refl
  root_there c are true e = absurd (are.missing_root.0 e has_root)

  pub no_conflict : (c : Conflicts) → AreConflictsOf m c → IsNone c
  no_conflict c are = record {
    missing_root = root_there c are c.missing_root refl;
    invalid_name = nothing (IsMisnamed ds) slot_item ds c.invalid_name are.invalid_name not_misnamed;
    directory_loop = nothing (IsInLoop ds) slot_item ds c.directory_loop are.directory_loop not_in_loop;
    orphaned_node = nothing (IsOrphaned ds) slot_item ds c.orphaned_node are.orphaned_node not_orphaned;
    multiple_name = nothing IsTorn slot_item ds c.multiple_name are.multiple_name not_torn;
    duplicate_name = nothing (IsDuplicate ds) slot_item ds c.duplicate_name are.duplicate_name not_duplicate;
    attribute = nothing IsAttrTorn attr_item (all_attrs ds) c.attribute are.attribute not_attr;
    content = nothing IsContentTorn content_item ds c.content are.content not_content;
    dropped_modified = are.dropped_modified ∙ ap (map pending_item) (none_pending m.pending refl);
  }
