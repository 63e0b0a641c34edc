-- The tree that a merge of the tips decides has its scalars from them.
use Rattle.std.specs.Prelude.{◌||◌, IsSome, option_and_then, option_map}
use Rattle.std.specs.List.{list_any}
use Rattle.std.proofs.Common.{◌≡◌, ◌⊎◌, ℕ, Bool, true, false, List, [], ◌∷◌, Option, Some, None, refl, sym, ◌∙◌, ap, subst, ⊎_elim, inl, inr}
use Rattle.mtn_base.specs.declared.id.Id.{Id}
use Rattle.mtn_base.specs.declared.name.NodeName.{NodeName}
use Rattle.mtn_base.proofs.Finding.{Split, later}
use Rattle.mtn_base.proofs.Members.{head}
use Rattle.mtn_conflicts.specs.Result.{decided_body, decided_entry, decided_slot, decided_value, result_of, tree_before}
use Rattle.mtn_conflicts.proofs.Nodes.{distinct, entry_before}
use Rattle.mtn_conflicts.proofs.Unborn.{as_before}
use Rattle.mtn_decide.specs.declared.decision.AttrChoice.{AttrChoice}
use Rattle.mtn_decide.specs.declared.decision.AttrChoice.TheVariants.{Fixed as FixedAttr, Clash as AttrClash}
use Rattle.mtn_decide.specs.declared.decision.ContentChoice.{ContentChoice}
use Rattle.mtn_decide.specs.declared.decision.ContentChoice.TheVariants.{Absent, Fixed as FixedContent, Clash as ContentClash}
use Rattle.mtn_decide.specs.declared.decision.Decision.{Decision}
use Rattle.mtn_decide.specs.declared.decision.SlotChoice.{SlotChoice}
use Rattle.mtn_decide.specs.declared.decision.SlotChoice.TheVariants.{Fixed as FixedSlot, Clash as SlotClash}
use Rattle.mtn_decide.specs.Decisions.{Merge, choice_of, decision_of}
use Rattle.mtn_decide.specs.Graph.{IsDecided, IsMergeOf}
use Rattle.mtn_decide.specs.Verdicts.{Verdict, attr_verdict, content_verdict, slot_verdict, verdict_in, verdict_of}
use Rattle.mtn_decide.specs.Verdicts.Verdict.{Settled}
use Rattle.mtn_history_laws.specs.History.{IsGrown, Revision, entry_at, parents_at, tree_at}
use Rattle.mtn_history_laws.specs.Scalars.{Scalar, Value, content_of, node_of, value_at, value_in, value_of}
use Rattle.mtn_history_laws.specs.Scalars.Scalar.{AttrOf, ContentOf, SlotOf}
use Rattle.mtn_history_laws.specs.Scalars.Value.{AttrValue, ContentValue, SlotValue}
use Rattle.mtn_merged_trees.proofs.Made.{attrs_are}
use Rattle.mtn_roster.specs.Tree.{attr_of, entry_of, in_order, is_dir, is_dir_body}
use Rattle.mtn_roster.specs.declared.entry.Body.{Body}
use Rattle.mtn_roster.specs.declared.entry.Body.TheVariants.{Dir, File}
use Rattle.mtn_roster.specs.declared.entry.Entry.{Entry}
use Rattle.mtn_roster.proofs.Looking.{entry_of-in_order}
use Rattle.mtn_generated_trees.specs.Joining.{AreTips, IsUnion, MergesThem}
use Rattle.mtn_generated_trees.proofs.Deciding.{decided, has_parent, has_verdict, kept, lives_in_both}

-- ---- what a decision says of a scalar

settled_slot : (c : SlotChoice) (w : Value) → Some (slot_verdict c) ≡ Some (Settled w) → Some (SlotValue (decided_slot c)) ≡ Some w
settled_slot (FixedSlot s) w e = let z : SlotValue s ≡ w = cc in ap Some z
settled_slot (SlotClash l r) w e = absurd cc

settled_content : (c : ContentChoice) (w : Value) → content_verdict c ≡ Some (Settled w) → option_map ContentValue (content_of (decided_body c)) ≡ Some w
settled_content Absent w e = absurd cc
settled_content (FixedContent c) w e = let z : ContentValue c ≡ w = cc in ap Some z
settled_content (ContentClash l r) w e = absurd cc

settled_attr : (o : Option AttrChoice) (w : Value) → option_map attr_verdict o ≡ Some (Settled w) → option_map AttrValue (option_map decided_value o) ≡ Some w
settled_attr None w e = absurd cc
settled_attr (Some (FixedAttr v)) w e = let z : AttrValue v ≡ w = cc in ap Some z
settled_attr (Some (AttrClash l r)) w e = absurd cc

settled : (s : Scalar) (d : Decision) (w : Value) → verdict_of s d ≡ Some (Settled w) → value_of s (decided_entry d) ≡ Some w
settled (SlotOf n) d w e = settled_slot d.slot w e
settled (ContentOf n) d w e = settled_content d.content w e
settled (AttrOf n k) d w e = ap (option_map AttrValue) (attrs_are d.attrs k) ∙ settled_attr (choice_of d.attrs k) w e

silent : (s : Scalar) (d : Decision) → verdict_of s d ≡ None → value_of s (decided_entry d) ≡ None
silent (SlotOf n) d e = absurd cc
silent (ContentOf n) d e = by d.content e
  where
    by : (c : ContentChoice) → content_verdict c ≡ None → option_map ContentValue (content_of (decided_body c)) ≡ None
    by Absent e = refl
    by (FixedContent c) e = absurd cc
    by (ContentClash l r) e = absurd cc
silent (AttrOf n k) d e = ap (option_map AttrValue) (attrs_are d.attrs k) ∙ by (choice_of d.attrs k) e
  where
    by : (o : Option AttrChoice) → option_map attr_verdict o ≡ None → option_map AttrValue (option_map decided_value o) ≡ None
    by None e = refl
    by (Some c) e = absurd cc

-- ---- the tree

none_reborn : (ds : List Decision) → ((d : Decision) → Split ds d → d.reborn ≡ false) → list_any (λ (d : Decision). d.reborn) ds ≡ false
none_reborn [] each = refl
none_reborn (d ∷ ds) each = by d.reborn (each d (head d ds)) (none_reborn ds (λ x s. each x (later d ds x s)))
  where
    by : (b : Bool) → b ≡ false → list_any (λ (d : Decision). d.reborn) ds ≡ false → (b || list_any (λ (d : Decision). d.reborn) ds) ≡ false
    by true e rest = absurd cc
    by false e rest = rest

module _ (h : List Revision) (l r : ℕ) (m : Merge) (merges : MergesThem h l r m) where
  unborn : (d : Decision) → Split m.nodes d → d.reborn ≡ false
  unborn d s = ⊎_elim (λ (is : IsMergeOf h l r m). is.unborn d.name d there) (λ (is : IsMergeOf h r l m). is.unborn d.name d there) merges.decides
    where
      there : decision_of m.nodes d.name ≡ Some d
      there = distinct m.nodes merges.order.names d s

  -- it is the tree under the names that its nodes have, for each id
  pub result_is : (x : Id) → result_of m x ≡ in_order (tree_before m.nodes)
  result_is x = ap in_order (as_before m.nodes (none_reborn m.nodes unborn) x)

  entries : (x : Id) (n : NodeName) → entry_of (result_of m x) n ≡ option_map decided_entry (decision_of m.nodes n)
  entries x n = ap (λ t. entry_of t n) (result_is x) ∙ entry_of-in_order (tree_before m.nodes) n ∙ entry_before m.nodes n

  value_is : (x : Id) (s : Scalar) → value_in (result_of m x) s ≡ option_and_then (value_of s) (option_map decided_entry (decision_of m.nodes (node_of s)))
  value_is x s = ap (option_and_then (value_of s)) (entries x (node_of s))

  voiced : (x : Id) (s : Scalar) (w : Value) → verdict_in m s ≡ Some (Settled w) → value_in (result_of m x) s ≡ Some w
  voiced x s w e = value_is x s ∙ by (decision_of m.nodes (node_of s)) e
    where
      by : (o : Option Decision) → option_and_then (verdict_of s) o ≡ Some (Settled w) → option_and_then (value_of s) (option_map decided_entry o) ≡ Some w
      by None e = absurd cc
      by (Some d) e = settled s d w e

  quiet : (x : Id) (s : Scalar) → verdict_in m s ≡ None → value_in (result_of m x) s ≡ None
  quiet x s e = value_is x s ∙ by (decision_of m.nodes (node_of s)) e
    where
      by : (o : Option Decision) → option_and_then (verdict_of s) o ≡ None → option_and_then (value_of s) (option_map decided_entry o) ≡ None
      by None e = refl
      by (Some d) e = silent s d e

-- what a side has of a node, by one of its scalars
entry_by : (h : List Revision) (a : ℕ) (s : Scalar) (w : Value) → value_at h s a ≡ Some w → (e : Entry) × (entry_at h a (node_of s) ≡ Some e)
entry_by h a s w e = by (entry_at h a (node_of s)) refl e
  where
    by : (o : Option Entry) → entry_at h a (node_of s) ≡ o → option_and_then (value_of s) o ≡ Some w → (e : Entry) × (entry_at h a (node_of s) ≡ Some e)
    by None f g = absurd cc
    by (Some x) f g = (x, f)

-- ---- a scalar that the one side leaves is the other side's

module _ (h : List Revision) (grown : IsGrown h) (p a b : ℕ) (m : Merge) (merges : MergesThem h a b m) (of_a : parents_at h a ≡ p ∷ []) (of_b : parents_at h b ≡ p ∷ [])
    (slots : (n : NodeName) → value_at h (SlotOf n) a ≡ value_at h (SlotOf n) b) where
  beside : (n : NodeName) (e : Entry) → entry_at h a n ≡ Some e → (g : Entry) × (entry_at h b n ≡ Some g)
  beside n e k = entry_by h b (SlotOf n) (SlotValue e.slot) (sym (slots n) ∙ ap (option_and_then (value_of (SlotOf n))) k)

  is_decided : (s : Scalar) (e g : Entry) → entry_at h a (node_of s) ≡ Some e → entry_at h b (node_of s) ≡ Some g → IsSome (value_at h s a) → verdict_in m s ≡ None → ⊥
  is_decided s e g k l some none = ⊎_elim
      (λ is. has_verdict h a b m is s (lives_in_both h a b m is (node_of s) e g k l) none (inl some))
      (λ is. has_verdict h b a m is s (lives_in_both h b a m is (node_of s) g e l k) none (inr some))
      merges.decides

  module _ (x : Id) (s : Scalar) (same : value_at h s b ≡ value_at h s p) (lacks : value_at h s a ≡ None → value_at h s b ≡ None) where
    none_there : verdict_in m s ≡ None → (o : Option Value) → value_at h s a ≡ o → o ≡ None
    none_there none None e = refl
    none_there none (Some w) e =
        let u = entry_by h a s w e in
        let v = beside (node_of s) u.0 u.1 in
        absurd (is_decided s u.0 v.0 u.1 v.1 (subst IsSome (sym e) refl) none)

    pub takes : value_in (result_of m x) s ≡ value_at h s a
    takes = by (verdict_in m s) refl
      where
        by : (o : Option Verdict) → verdict_in m s ≡ o → value_in (result_of m x) s ≡ value_at h s a
        by None e = quiet h a b m merges x s e ∙ sym (none_there e (value_at h s a) refl)
        by (Some v) e =
            let d : IsDecided h a b s v ⊎ IsDecided h b a s v = ⊎_elim (λ is. inl (decided h a b m is s v e)) (λ is. inr (decided h b a m is s v e)) merges.decides in
            let k = kept h p s a b of_a of_b same grown lacks v d in
            voiced h a b m merges x s k.0 (e ∙ ap Some k.1) ∙ sym k.2

-- ---- the scalars of the tips

module _ (h : List Revision) (grown : IsGrown h) (p l r : ℕ) (tips : AreTips h p l r) (m : Merge) (merges : MergesThem h l r m) where
  slots : (n : NodeName) → value_at h (SlotOf n) l ≡ value_at h (SlotOf n) r
  slots n = tips.left_slots n ∙ sym (tips.right_slots n)

  swapped : MergesThem h r l m
  swapped = record { order = merges.order; decides = ⊎_elim (λ is. inr is) (λ is. inl is) merges.decides }

  parent_entry : (n : NodeName) (e : Entry) → entry_at h r n ≡ Some e → (g : Entry) × (entry_at h p n ≡ Some g)
  parent_entry n e k = entry_by h p (SlotOf n) (SlotValue e.slot) (sym (tips.right_slots n) ∙ ap (option_and_then (value_of (SlotOf n))) k)

  -- where left has no content, it is a directory, and so is right's node
  no_content : (n : NodeName) → value_at h (ContentOf n) l ≡ None → value_at h (ContentOf n) r ≡ None
  no_content n none = by (value_at h (ContentOf n) r) refl
    where
      file : (body : Body) (w : Value) → option_map ContentValue (content_of body) ≡ Some w → is_dir_body body ≡ false
      file Dir w e = absurd cc
      file (File c) w e = refl

      has : (body : Body) → is_dir_body body ≡ false → IsSome (option_map ContentValue (content_of body))
      has Dir e = absurd cc
      has (File c) e = refl

      by : (o : Option Value) → value_at h (ContentOf n) r ≡ o → o ≡ None
      by None e = refl
      by (Some w) e =
          let f = entry_by h r (ContentOf n) w e in
          let q = parent_entry n f.0 f.1 in
          let g = entry_by h l (SlotOf n) (SlotValue f.0.slot) (slots n ∙ ap (option_and_then (value_of (SlotOf n))) f.1) in
          let kind : is_dir g.0 ≡ false =
          grown.kind l p n g.0 q.0 (has_parent h p l tips.left_parent) g.1 q.1 ∙ sym (grown.kind r p n f.0 q.0 (has_parent h p r tips.right_parent) f.1 q.1)
          ∙ file f.0.body w (sym (ap (option_and_then (value_of (ContentOf n))) f.1) ∙ e) in
          let some : IsSome (value_at h (ContentOf n) l) = subst IsSome (sym (ap (option_and_then (value_of (ContentOf n))) g.1)) (has g.0.body kind) in
          absurd (let z = subst IsSome none some in cc)

  -- keys are never lost
  no_attr : (n : NodeName) (k : List ℕ) → value_at h (AttrOf n k) r ≡ None → value_at h (AttrOf n k) l ≡ None
  no_attr n k none = by (value_at h (AttrOf n k) p) refl
    where
      some_key : (o : Option (Option (List ℕ))) (w : Value) → option_map AttrValue o ≡ Some w → IsSome o
      some_key None w e = absurd cc
      some_key (Some v) w e = refl

      no_key : (o : Option (Option (List ℕ))) → option_map AttrValue o ≡ None → IsSome o → ⊥
      no_key None e some = let z = some in cc
      no_key (Some v) e some = cc

      by : (o : Option Value) → value_at h (AttrOf n k) p ≡ o → value_at h (AttrOf n k) l ≡ None
      by None e = tips.left_attrs n k ∙ e
      by (Some w) e =
          let q = entry_by h p (AttrOf n k) w e in
          let f = entry_by h r (SlotOf n) (SlotValue q.0.slot) (tips.right_slots n ∙ ap (option_and_then (value_of (SlotOf n))) q.1) in
          let key : IsSome (attr_of q.0.attrs k) = some_key (attr_of q.0.attrs k) w (sym (ap (option_and_then (value_of (AttrOf n k))) q.1) ∙ e) in
          absurd (no_key (attr_of f.0.attrs k) (sym (ap (option_and_then (value_of (AttrOf n k))) f.1) ∙ none)
          (grown.keys r p n k f.0 q.0 (has_parent h p r tips.right_parent) f.1 q.1 key))

  pub is_union : (x : Id) → IsUnion (tree_at h l) (tree_at h r) (result_of m x)
  is_union x = record {
    left_slots = λ n. takes h grown p l r m merges tips.left_parent tips.right_parent slots x (SlotOf n) (tips.right_slots n) (λ e. sym (slots n) ∙ e);
    right_slots = λ n. takes h grown p l r m merges tips.left_parent tips.right_parent slots x (SlotOf n) (tips.right_slots n) (λ e. sym (slots n) ∙ e) ∙ slots n;
    contents = λ n. takes h grown p l r m merges tips.left_parent tips.right_parent slots x (ContentOf n) (tips.right_contents n) (no_content n);
    attrs = λ n k. takes h grown p r l m swapped tips.right_parent tips.left_parent (λ n. sym (slots n)) x (AttrOf n k) (tips.left_attrs n k) (no_attr n k);
  }
