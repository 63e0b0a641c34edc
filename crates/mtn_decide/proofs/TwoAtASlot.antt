-- At most two nodes have one decided slot: each has it in one of the two trees.
use Rattle.std.specs.Prelude.{option_and_then, slice_get}
use Rattle.std.proofs.Common.{◌≡◌, ℕ, ◌<◌, List, length, Option, Some, None, ◌⊎◌, refl, sym, ◌∙◌, ap, inl, inr, ⊎_elim}
use Rattle.mtn_base.specs.declared.name.NodeName.{NodeName}
use Rattle.mtn_history_laws.specs.History.{Revision, revision_tree, entry_at, IsGrown}
use Rattle.mtn_history_laws.specs.Scalars.{Scalar, Value, value_of, value_at}
use Rattle.mtn_history_laws.specs.Scalars.Scalar.{SlotOf}
use Rattle.mtn_history_laws.specs.Scalars.Value.{SlotValue}
use Rattle.mtn_roster.specs.declared.entry.Entry.{Entry}
use Rattle.mtn_roster.specs.declared.entry.Slot.{Slot}
use Rattle.mtn_roster.specs.Tree.{entry_of}
use Rattle.mtn_marking.proofs.Zips.{got_at}
use Rattle.mtn_decide.specs.Decisions.{Merge}
use Rattle.mtn_decide.specs.Verdicts.{Verdict, verdict_in}
use Rattle.mtn_decide.specs.Verdicts.Verdict.{Settled}
use Rattle.mtn_decide.specs.Graph.{IsDecided, IsMergeOf}
use Rattle.mtn_decide.specs.Graph.IsDecided.{common, left_alone, right_alone, left_wins, right_wins, clash}

-- a decided value is one side's
one_side : (log : List Revision) (a b : ℕ) (s : Scalar) (d : Verdict) (v : Value) → d ≡ Settled v → IsDecided log a b s d → (value_at log s a ≡ Some v) ⊎ (value_at log s b ≡ Some v)
one_side log a b s _ v e (common {v = u} f g) = inl (f ∙ ap Some (let d : u ≡ v = cc in d))
one_side log a b s _ v e (left_alone {v = u} f g) = inl (f ∙ ap Some (let d : u ≡ v = cc in d))
one_side log a b s _ v e (right_alone {w = u} f g) = inr (g ∙ ap Some (let d : u ≡ v = cc in d))
one_side log a b s _ v e (left_wins {v = u} f g n k) = inl (f ∙ ap Some (let d : u ≡ v = cc in d))
one_side log a b s _ v e (right_wins {w = u} f g n m k) = inr (g ∙ ap Some (let d : u ≡ v = cc in d))
one_side log a b s _ v e (clash f g n m k) = absurd cc

-- the node behind the value of a slot
slot_node : (n : NodeName) (slot : Slot) (o : Option Entry) → option_and_then (value_of (SlotOf n)) o ≡ Some (SlotValue slot) → (e : Entry) × (o ≡ Some e) × (e.slot ≡ slot)
slot_node n slot None h = absurd cc
slot_node n slot (Some e) h = (e, refl, (let d : e.slot ≡ slot = cc in d))

module _ (log : List Revision) (grown : IsGrown log) where
  within : (r : ℕ) (n : NodeName) (e : Entry) → entry_at log r n ≡ Some e → r < length log
  within r n e h = go (slice_get log r) refl h
    where
      go : (o : Option Revision) → slice_get log r ≡ o → entry_of (revision_tree o) n ≡ Some e → r < length log
      go None g k = absurd cc
      go (Some x) g k = (got_at log r x g).0

  same_node : (r : ℕ) (n m : NodeName) (slot : Slot) → value_at log (SlotOf n) r ≡ Some (SlotValue slot) → value_at log (SlotOf m) r ≡ Some (SlotValue slot) → n ≡ m
  same_node r n m slot h k =
      let t = slot_node n slot (entry_at log r n) h in
      let u = slot_node m slot (entry_at log r m) k in
      (grown.sane r (within r n t.0 t.1)).sane.slots n m t.0 u.0 t.1 u.1 (t.2 ∙ sym u.2)

  pub two_at_a_slot : (a b : ℕ) (m : Merge) → IsMergeOf log a b m → (x y z : NodeName) (slot : Slot) →
      verdict_in m (SlotOf x) ≡ Some (Settled (SlotValue slot)) → verdict_in m (SlotOf y) ≡ Some (Settled (SlotValue slot)) →
      verdict_in m (SlotOf z) ≡ Some (Settled (SlotValue slot)) → (x ≡ y) ⊎ ((x ≡ z) ⊎ (y ≡ z))
  two_at_a_slot a b m is x y z slot hx hy hz =
      let sx = side x hx in
      let sy = side y hy in
      let sz = side z hz in
      ⊎_elim
      (λ i. ⊎_elim (λ j. inl (same_node a x y slot i j))
      (λ j. ⊎_elim (λ k. inr (inl (same_node a x z slot i k))) (λ k. inr (inr (same_node b y z slot j k))) sz) sy)
      (λ i. ⊎_elim (λ j. ⊎_elim (λ k. inr (inr (same_node a y z slot j k))) (λ k. inr (inl (same_node b x z slot i k))) sz)
      (λ j. inl (same_node b x y slot i j)) sy)
      sx
    where
      side : (n : NodeName) → verdict_in m (SlotOf n) ≡ Some (Settled (SlotValue slot)) → (value_at log (SlotOf n) a ≡ Some (SlotValue slot)) ⊎ (value_at log (SlotOf n) b ≡ Some (SlotValue slot))
      side n h = one_side log a b (SlotOf n) (Settled (SlotValue slot)) (SlotValue slot) refl ((is.scalars (SlotOf n) (Settled (SlotValue slot))).0 h).1
