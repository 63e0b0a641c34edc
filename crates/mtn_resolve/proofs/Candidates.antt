-- What may live after resolutions of a merge of a grown history: what has the root slot or is a parent is a directory.
-- The first half is that of the proof of the same for the live nodes alone.
use Rattle.std.specs.Prelude.{option_map, option_and_then, slice_get}
use Rattle.std.proofs.Common.{◌≡◌, ◌≢◌, ℕ, ◌<◌, length, true, false, List, [], Option, Some, None, ◌⊎◌, inl, inr, ⊎_elim, refl, sym, ◌∙◌, ap, subst}
use Rattle.mtn_ancestry.proofs.Members.{by_position}
use Rattle.mtn_base.specs.declared.id.Id.{Id}
use Rattle.mtn_base.specs.declared.name.NodeName.{NodeName}
use Rattle.mtn_history_laws.specs.History.{Revision, revision_tree, tree_at, entry_at, IsPlaceOf, IsGrown}
use Rattle.mtn_history_laws.specs.Scalars.{Scalar, Value, node_of, value_of, value_at, content_of}
use Rattle.mtn_history_laws.specs.Scalars.Scalar.{SlotOf, ContentOf}
use Rattle.mtn_history_laws.specs.Scalars.Value.{SlotValue, ContentValue}
use Rattle.mtn_history_laws.proofs.Telling.{tell_id}
use Rattle.mtn_history_laws.proofs.Scalars.{some_of}
use Rattle.mtn_marking.proofs.Zips.{got_at}
use Rattle.mtn_roster.specs.Tree.{entry_of, is_dir, is_dir_body, IsSane}
use Rattle.mtn_roster.specs.declared.entry.Body.{Body}
use Rattle.mtn_roster.specs.declared.entry.Body.TheVariants.{Dir, File}
use Rattle.mtn_roster.specs.declared.entry.Entry.{Entry}
use Rattle.mtn_roster.specs.declared.entry.Slot.{Slot}
use Rattle.mtn_roster.specs.declared.entry.Slot.TheVariants.{Root, Below}
use Rattle.mtn_roster.proofs.Ordered.{forest_of}
use Rattle.mtn_decide.specs.declared.decision.ContentChoice.{ContentChoice}
use Rattle.mtn_decide.specs.declared.decision.ContentChoice.TheVariants.{Absent, Fixed as FixedContent, Clash as ContentClash}
use Rattle.mtn_decide.specs.declared.decision.Decision.{Decision}
use Rattle.mtn_decide.specs.declared.decision.SlotChoice.{SlotChoice}
use Rattle.mtn_decide.specs.declared.decision.SlotChoice.TheVariants.{Fixed, Clash}
use Rattle.mtn_decide.specs.Decisions.{Merge, IsInOrder, decision_of, is_absent}
use Rattle.mtn_decide.specs.Graph.{IsDecided, IsMergeOf}
use Rattle.mtn_decide.specs.Graph.IsDecided.{common, left_alone, right_alone, left_wins, right_wins, clash}
use Rattle.mtn_decide.specs.Verdicts.{Verdict, slot_verdict, content_verdict, verdict_of}
use Rattle.mtn_decide.specs.Verdicts.Verdict.{Settled, Clashing}
use Rattle.mtn_conflicts.specs.Result.{ParentsAreDirs, NoneBornIn}
use Rattle.mtn_conflicts.specs.Slots.{parent_in, parent_of}
use Rattle.mtn_conflicts.proofs.Before.{same_test}
use Rattle.mtn_conflicts.proofs.Directories.{none_born as live_unborn}
use Rattle.mtn_conflicts.proofs.Nodes.{found_at}
use Rattle.mtn_decide.specs.declared.decision.Pending.{Pending}
use Rattle.mtn_decide.specs.Decisions.{pending_of}
use Rattle.mtn_decide.specs.Graph.{IsPending}
use Rattle.mtn_decide.specs.Graph.IsPending.{of_left, of_right}
use Rattle.mtn_resolve.specs.Overriding.{reborn_of, candidates}
use Rattle.mtn_resolve.proofs.Looking.{or_else, look_candidates}

-- whether a revision has an id
tell_place : (log : List Revision) (id : Id) (r : ℕ) → (IsPlaceOf log id r) ⊎ (IsPlaceOf log id r → ⊥)
tell_place log id r = go (slice_get log r) refl
  where
    go : (o : Option Revision) → slice_get log r ≡ o → (IsPlaceOf log id r) ⊎ (IsPlaceOf log id r → ⊥)
    go None e = inr (λ t. let f = t.1 in cc)
    go (Some x) e = elim (tell_id x.id id) [
      | yes g ↦ inl (x, e, g)
      | no n ↦ inr (λ t. let d : x ≡ t.0 = (let f = t.1 in cc) in n (ap (λ (z : Revision). z.id) d ∙ t.2))
    ]

module _ (log : List Revision) (grown : IsGrown log) where
  -- a node has its kind from its birth on
  abbrev IsAsBorn : ℕ → Type 0
  IsAsBorn r = (n : NodeName) (e : Entry) → entry_at log r n ≡ Some e → (b : ℕ) × (f : Entry) × IsPlaceOf log n.birth b × (entry_at log b n ≡ Some f) × (is_dir e ≡ is_dir f)

  as_born : (r : ℕ) → IsAsBorn r
  as_born = by_position IsAsBorn (λ r before n e h. ⊎_elim
      (λ here. (r, e, here, h, refl))
      (λ away.
      let p = grown.kept r n e h away in
      let f = some_of (entry_at log p.0 n) p.2 in
      let t = before p.0 (grown.earlier r p.0 p.1) n f.0 f.1 in
      (t.0, t.1, t.2, t.3, grown.kind r p.0 n e f.0 p.1 h f.1 ∙ t.4))
      (tell_place log n.birth r))

  one_kind : (r q : ℕ) (n : NodeName) (e f : Entry) → entry_at log r n ≡ Some e → entry_at log q n ≡ Some f → is_dir e ≡ is_dir f
  one_kind r q n e f h k =
      let s = as_born r n e h in
      let t = as_born q n f k in
      let place : s.0 ≡ t.0 = grown.differ n.birth s.0 t.0 s.2 t.2 in
      let x : entry_at log t.0 n ≡ Some s.1 = subst (λ z. entry_at log z n ≡ Some s.1) place s.3 in
      let y = t.3 in
      let same : s.1 ≡ t.1 = cc in
      s.4 ∙ ap is_dir same ∙ sym t.4

  within : (r : ℕ) (n : NodeName) (e : Entry) → entry_at log r n ≡ Some e → r < length log
  within r n e h = go (slice_get log r) refl h
    where
      go : (o : Option Revision) → slice_get log r ≡ o → entry_of (revision_tree o) n ≡ Some e → r < length log
      go None g k = absurd cc
      go (Some x) g k = (got_at log r x g).0

  sane : (r : ℕ) (n : NodeName) (e : Entry) → entry_at log r n ≡ Some e → IsSane (tree_at log r)
  sane r n e h = grown.sane r (within r n e h)

  -- a scalar that is decided is there on a side, and a decided value is one side's
  on_a_side : (a b : ℕ) (s : Scalar) (v : Verdict) → IsDecided log a b s v → ((w : Value) × (value_at log s a ≡ Some w)) ⊎ ((w : Value) × (value_at log s b ≡ Some w))
  on_a_side a b s _ (common {v = v} e f) = inl (v, e)
  on_a_side a b s _ (left_alone {v = v} e f) = inl (v, e)
  on_a_side a b s _ (right_alone {w = w} e f) = inr (w, f)
  on_a_side a b s _ (left_wins {v = v} e f n k) = inl (v, e)
  on_a_side a b s _ (right_wins {w = w} e f n m k) = inr (w, f)
  on_a_side a b s _ (clash {v = v} e f n m k) = inl (v, e)

  settled : (a b : ℕ) (s : Scalar) (d : Verdict) (v : Value) → d ≡ Settled v → IsDecided log a b s d → (value_at log s a ≡ Some v) ⊎ (value_at log s b ≡ Some v)
  settled a b s _ v e (common {v = u} f g) = inl (f ∙ ap Some (let d : u ≡ v = cc in d))
  settled a b s _ v e (left_alone {v = u} f g) = inl (f ∙ ap Some (let d : u ≡ v = cc in d))
  settled a b s _ v e (right_alone {w = u} f g) = inr (g ∙ ap Some (let d : u ≡ v = cc in d))
  settled a b s _ v e (left_wins {v = u} f g n k) = inl (f ∙ ap Some (let d : u ≡ v = cc in d))
  settled a b s _ v e (right_wins {w = u} f g n m k) = inr (g ∙ ap Some (let d : u ≡ v = cc in d))
  settled a b s _ v e (clash f g n m k) = absurd cc

  -- the node behind the value of a slot, and behind that of a content
  slot_node : (r : ℕ) (n : NodeName) (s : Slot) → value_at log (SlotOf n) r ≡ Some (SlotValue s) → (e : Entry) × (entry_at log r n ≡ Some e) × (e.slot ≡ s)
  slot_node r n s h = go (entry_at log r n) refl h
    where
      go : (o : Option Entry) → entry_at log r n ≡ o → option_and_then (value_of (SlotOf n)) o ≡ Some (SlotValue s) → (e : Entry) × (entry_at log r n ≡ Some e) × (e.slot ≡ s)
      go None g k = absurd cc
      go (Some e) g k = (e, g, (let d : e.slot ≡ s = cc in d))

  file_node : (r : ℕ) (n : NodeName) (w : Value) → value_at log (ContentOf n) r ≡ Some w → (e : Entry) × (entry_at log r n ≡ Some e) × (is_dir e ≡ false)
  file_node r n w h = go (entry_at log r n) refl h
    where
      at : (body : Body) → option_map ContentValue (content_of body) ≡ Some w → is_dir_body body ≡ false
      at Dir k = absurd cc
      at (File c) k = refl

      go : (o : Option Entry) → entry_at log r n ≡ o → option_and_then (value_of (ContentOf n)) o ≡ Some w → (e : Entry) × (entry_at log r n ≡ Some e) × (is_dir e ≡ false)
      go None g k = absurd cc
      go (Some e) g k = (e, g, at e.body k)

  module _ (a b : ℕ) (m : Merge) (order : IsInOrder m) (is : IsMergeOf log a b m) where
    decided : (s : Scalar) (n : NodeName) (d : Decision) (v : Verdict) → decision_of m.nodes n ≡ Some d → node_of s ≡ n → verdict_of s d ≡ Some v → IsDecided log a b s v
    decided s n d v h e k =
        ((is.scalars s v).0 (ap (option_and_then (verdict_of s)) (ap (decision_of m.nodes) e ∙ h) ∙ k)).1

    -- a node that is a directory somewhere is decided to be one
    dir_by : (r : ℕ) (n : NodeName) (e : Entry) (d : Decision) → entry_at log r n ≡ Some e → is_dir e ≡ true → decision_of m.nodes n ≡ Some d → d.is_dir ≡ true
    dir_by r n e d h dir k = sym (same_test (λ (d : Decision). is_absent d.content) (λ (d : Decision). d.is_dir) m.nodes order.kinds d (found_at m.nodes n d k)) ∙ go d.content refl
      where
        no_content : (v : Verdict) → content_verdict d.content ≡ Some v → ⊥
        no_content v g = ⊎_elim
            (λ t. let f = file_node a n t.0 t.1 in let same = one_kind r a n e f.0 h f.1 in let x = f.2 in cc)
            (λ t. let f = file_node b n t.0 t.1 in let same = one_kind r b n e f.0 h f.1 in let x = f.2 in cc)
            (on_a_side a b (ContentOf n) v (decided (ContentOf n) n d v k refl g))

        go : (c : ContentChoice) → d.content ≡ c → is_absent c ≡ true
        go Absent g = refl
        go (FixedContent c) g = absurd (no_content (Settled (ContentValue c)) (ap content_verdict g))
        go (ContentClash x y) g = absurd (no_content (Clashing (ContentValue x) (ContentValue y)) (ap content_verdict g))

    slot_side : (n : NodeName) (d : Decision) (s : Slot) → decision_of m.nodes n ≡ Some d → d.slot ≡ Fixed s → (r : ℕ) × (e : Entry) × (entry_at log r n ≡ Some e) × (e.slot ≡ s)
    slot_side n d s h e = ⊎_elim
        (λ k. let t = slot_node a n s k in (a, t.0, t.1, t.2))
        (λ k. let t = slot_node b n s k in (b, t.0, t.1, t.2))
        (settled a b (SlotOf n) (Settled (SlotValue s)) (SlotValue s) refl (decided (SlotOf n) n d (Settled (SlotValue s)) h refl (ap (λ c. Some (slot_verdict c)) e)))

    -- a candidate lives, or is a file that one side has
    pub data Origin (n : NodeName) : Decision → Type 0 where
      live : {d : Decision} → decision_of m.nodes n ≡ Some d → Origin n d
      held : {d : Decision} → (r : ℕ) → (e : Entry) → entry_at log r n ≡ Some e → is_dir e ≡ false → d.slot ≡ Fixed e.slot → (r ≡ a) ⊎ (r ≡ b) → Origin n d

    origin : (n : NodeName) (d : Decision) → decision_of (candidates m) n ≡ Some d → Origin n d
    origin n d h = go (decision_of m.nodes n) (pending_of m.pending n) refl refl (sym (look_candidates m [] n) ∙ h)
      where
        at : (p : Pending) → IsPending log a b n p → reborn_of p ≡ d → Origin n d
        at _ (of_left {e = e} k dir dead wins) g = held a e k dir (sym (ap (λ (x : Decision). x.slot) g)) (inl refl)
        at _ (of_right {e = e} k dir dead wins) g = held b e k dir (sym (ap (λ (x : Decision). x.slot) g)) (inr refl)

        go : (o : Option Decision) (p : Option Pending) → decision_of m.nodes n ≡ o → pending_of m.pending n ≡ p → or_else o (option_map reborn_of p) ≡ Some d → Origin n d
        go (Some x) p e f g = live (e ∙ g)
        go None (Some p) e f g = at p ((is.pending n p).0 f) (let q : reborn_of p ≡ d = cc in q)
        go None None e f g = absurd cc

    hung : (n : NodeName) (d : Decision) (s : Slot) → Origin n d → d.slot ≡ Fixed s → (r : ℕ) × (e : Entry) × (entry_at log r n ≡ Some e) × (e.slot ≡ s)
    hung n d s (live h) e = slot_side n d s h e
    hung n d s (held r x k dir slot side) e = (r, x, k, (let q : x.slot ≡ s = cc in q))

    dir_of : (r : ℕ) (n : NodeName) (e : Entry) (d : Decision) → entry_at log r n ≡ Some e → is_dir e ≡ true → Origin n d → d.is_dir ≡ true
    dir_of r n e d h dir (live k) = dir_by r n e d h dir k
    dir_of r n e d h dir (held q x k file slot side) = absurd (let same = one_kind r q n e x h k in cc)

    parent_slot : (n p : NodeName) → parent_of (candidates m) n ≡ Some p → (d : Decision) × (name : List ℕ) × (decision_of (candidates m) n ≡ Some d) × (d.slot ≡ Fixed (Below p name))
    parent_slot n p h = go (decision_of (candidates m) n) refl h
      where
        at : (c : SlotChoice) → parent_in c ≡ Some p → (name : List ℕ) × (c ≡ Fixed (Below p name))
        at (Fixed Root) k = absurd cc
        at (Fixed (Below q name)) k = (name, (let d : q ≡ p = cc in ap (λ z. Fixed (Below z name)) d))
        at (Clash x y) k = absurd cc

        go : (o : Option Decision) → decision_of (candidates m) n ≡ o → option_and_then (λ (d : Decision). parent_in d.slot) o ≡ Some p → (d : Decision) × (name : List ℕ) × (decision_of (candidates m) n ≡ Some d) × (d.slot ≡ Fixed (Below p name))
        go None g k = absurd cc
        go (Some d) g k = let t = at d.slot k in (d, t.0, g, t.1)

    pub candidates_are_dirs : ParentsAreDirs (candidates m)
    candidates_are_dirs = record {
      root = λ n d h e.
          let t = hung n d Root (origin n d h) e in
          dir_of t.0 n t.1 d t.2 ((forest_of (tree_at log t.0) (sane t.0 n t.1 t.2)).root_dir n t.1 t.2 t.3) (origin n d h);
      parents = λ n p d up h.
          let s = parent_slot n p up in
          let t = hung n s.0 (Below p s.1) (origin n s.0 s.2) s.3 in
          let f = (sane t.0 n t.1 t.2).sane.parents n p t.1 s.1 t.2 t.3 in
          dir_of t.0 p f.0 d f.1 f.2 (origin p d h);
    }

-- an id that is no birth in either tree is no birth of what may live
pub none_born : (log : List Revision) (a b : ℕ) (m : Merge) (id : Id) → IsMergeOf log a b m →
    ((n : NodeName) (e : Entry) → entry_at log a n ≡ Some e → n.birth ≢ id) → ((n : NodeName) (e : Entry) → entry_at log b n ≡ Some e → n.birth ≢ id) → NoneBornIn (candidates m) id
none_born log a b m id is na nb n d h = go (decision_of m.nodes n) (pending_of m.pending n) refl refl (sym (look_candidates m [] n) ∙ h)
  where
    at : (p : Pending) → IsPending log a b n p → n.birth ≢ id
    at _ (of_left {e = e} k dir dead wins) = na n e k
    at _ (of_right {e = e} k dir dead wins) = nb n e k

    go : (o : Option Decision) (p : Option Pending) → decision_of m.nodes n ≡ o → pending_of m.pending n ≡ p → or_else o (option_map reborn_of p) ≡ Some d → n.birth ≢ id
    go (Some x) p e f g = live_unborn log a b m id is na nb n x e
    go None (Some p) e f g = at p ((is.pending n p).0 f)
    go None None e f g = absurd cc
