-- What a merge decides of two revisions of a grown history is of their trees.
use Rattle.std.specs.Prelude.{IsSome, option_map, option_and_then}
use Rattle.std.proofs.Common.{◌≡◌, ◌≢◌, ◌⊎◌, ℕ, Bool, true, false, List, Option, Some, None, refl, sym, ◌∙◌, ap, subst, ⊎_elim, inl, inr}
use Rattle.mtn_base.specs.Comps.{IsComp}
use Rattle.mtn_base.specs.declared.id.Id.{Id}
use Rattle.mtn_base.specs.declared.name.NodeName.{NodeName}
use Rattle.mtn_changes.specs.Changes.{IsKey}
use Rattle.mtn_ancestry.specs.Ancestors.{IsAncestor}
use Rattle.mtn_history_laws.specs.History.{Revision, parents_at, tree_at, entry_at, IsPlaceOf, IsGrown, TellsAncestors}
use Rattle.mtn_history_laws.specs.Scalars.{Scalar, Value, node_of, value_of, value_at, content_of, WinsAt}
use Rattle.mtn_history_laws.specs.Scalars.Scalar.{SlotOf, ContentOf, AttrOf}
use Rattle.mtn_history_laws.specs.Scalars.Value.{SlotValue, ContentValue, AttrValue}
use Rattle.mtn_roster.specs.Tree.{entry_of, attr_of, is_dir, is_dir_body}
use Rattle.mtn_roster.specs.declared.entry.Body.{Body}
use Rattle.mtn_roster.specs.declared.entry.Body.TheVariants.{Dir, File}
use Rattle.mtn_roster.specs.declared.entry.Entry.{Entry}
use Rattle.mtn_roster.specs.declared.entry.Slot.TheVariants.{Below}
use Rattle.mtn_decide.specs.declared.decision.AttrChoice.{AttrChoice}
use Rattle.mtn_decide.specs.declared.decision.ContentChoice.{ContentChoice}
use Rattle.mtn_decide.specs.declared.decision.ContentChoice.TheVariants.{Absent, Fixed as FixedContent, Clash as ContentClash}
use Rattle.mtn_decide.specs.declared.decision.Decision.{Decision}
use Rattle.mtn_decide.specs.declared.decision.Pending.{Pending}
use Rattle.mtn_decide.specs.declared.decision.SlotChoice.TheVariants.{Fixed}
use Rattle.mtn_decide.specs.Decisions.{Merge, IsInOrder, decision_of, choice_of, is_absent}
use Rattle.mtn_decide.specs.Graph.{IsDecided, IsLive, IsLiveWith, IsPending, IsMergeOf}
use Rattle.mtn_decide.specs.Graph.IsPending.{of_left, of_right}
use Rattle.mtn_decide.specs.Graph.IsDecided.{common, left_alone, right_alone, left_wins, right_wins, clash}
use Rattle.mtn_decide.specs.Verdicts.{Verdict, slot_verdict, content_verdict, attr_verdict, verdict_of, verdict_in}
use Rattle.mtn_decide.specs.Verdicts.Verdict.{Settled}
use Rattle.mtn_conflicts.proofs.Before.{same_test}
use Rattle.mtn_conflicts.proofs.Nodes.{found_at}
use Rattle.mtn_conflicts.proofs.Directories.{on_a_side, settled, slot_node, dir_by}
use Rattle.mtn_between.specs.Laws.{IsSpellable}
use Rattle.mtn_between.specs.Merging.{HasKey}
use Rattle.mtn_merged_trees.specs.Sides.{AreOfSides, ArePendingOf}

module _ (h : List Revision) (p q : ℕ) (m : Merge) (grown : IsGrown h) (order : IsInOrder m) (is : IsMergeOf h p q m) where
  live : (n : NodeName) (d : Decision) → decision_of m.nodes n ≡ Some d → IsLive h p q n
  live n d hd = (is.live n).0 (subst IsSome (sym hd) refl)

  -- a scalar of a live node that a side has is decided
  has_verdict : (s : Scalar) → IsLive h p q (node_of s) → verdict_in m s ≡ None → (o u : Option Value) → value_at h s p ≡ o → value_at h s q ≡ u → (IsSome o) ⊎ (IsSome u) → ⊥
  has_verdict s lives none o u e f some = by o u e f some
    where
      no : (w : Verdict) → IsDecided h p q s w → ⊥
      no w d = let k = (is.scalars s w).1 (lives, d) in cc

      by : (o u : Option Value) → value_at h s p ≡ o → value_at h s q ≡ u → (IsSome o) ⊎ (IsSome u) → ⊥
      by None None e f some = ⊎_elim (λ k. let z = k in cc) (λ k. let z = k in cc) some
      by (Some v) None e f some = no (Settled v) (left_alone e f)
      by None (Some w) e f some = no (Settled w) (right_alone e f)
      by (Some v) (Some w) e f some =
          let ne : v ≢ w = λ g. no (Settled v) (common e (f ∙ ap Some (sym g))) in
          let nl : ¬ WinsAt h s p q = λ k. no (Settled v) (left_wins e f ne k) in
          let nr : ¬ WinsAt h s q p = λ k. no (Settled w) (right_wins e f ne nl k) in
          no _ (clash e f ne nl nr)

  decided : (s : Scalar) (n : NodeName) (d : Decision) (v : Verdict) → decision_of m.nodes n ≡ Some d → node_of s ≡ n → verdict_of s d ≡ Some v → IsDecided h p q s v
  decided s n d v hd e k = ((is.scalars s v).0 (ap (option_and_then (verdict_of s)) (ap (decision_of m.nodes) e ∙ hd) ∙ k)).1

  -- what a side has of a scalar, by its node
  value_is : (r : ℕ) (s : Scalar) (e : Entry) → entry_at h r (node_of s) ≡ Some e → value_at h s r ≡ value_of s e
  value_is r s e k = ap (option_and_then (value_of s)) k

  -- kinds
  kind_of : (n : NodeName) (d : Decision) → decision_of m.nodes n ≡ Some d → is_absent d.content ≡ d.is_dir
  kind_of n d hd = same_test (λ (d : Decision). is_absent d.content) (λ (d : Decision). d.is_dir) m.nodes order.kinds d (found_at m.nodes n d hd)

  file_on : (r : ℕ) (n : NodeName) (e : Entry) → entry_at h r n ≡ Some e → is_dir e ≡ false → IsSome (value_at h (ContentOf n) r)
  file_on r n e k dir = subst IsSome (sym (value_is r (ContentOf n) e k)) (at e.body dir)
    where
      at : (body : Body) → is_dir_body body ≡ false → IsSome (option_map ContentValue (content_of body))
      at Dir g = absurd cc
      at (File c) g = refl

  not_absent : (n : NodeName) (d : Decision) → decision_of m.nodes n ≡ Some d → (IsSome (value_at h (ContentOf n) p)) ⊎ (IsSome (value_at h (ContentOf n) q)) → is_absent d.content ≡ false
  not_absent n d hd some = go d.content refl
    where
      go : (c : ContentChoice) → d.content ≡ c → is_absent c ≡ false
      go Absent g = absurd (has_verdict (ContentOf n) (live n d hd) (ap (option_and_then (verdict_of (ContentOf n))) hd ∙ ap content_verdict g)
          (value_at h (ContentOf n) p) (value_at h (ContentOf n) q) refl refl some)
      go (FixedContent c) g = refl
      go (ContentClash l r) g = refl

  kind : (r : ℕ) → ((n : NodeName) → IsSome (value_at h (ContentOf n) r) → (IsSome (value_at h (ContentOf n) p)) ⊎ (IsSome (value_at h (ContentOf n) q))) →
      (n : NodeName) (d : Decision) (e : Entry) → decision_of m.nodes n ≡ Some d → entry_at h r n ≡ Some e → is_dir e ≡ d.is_dir
  kind r side n d e hd k = go (is_dir e) refl
    where
      go : (b : Bool) → is_dir e ≡ b → b ≡ d.is_dir
      go true g = sym (dir_by h grown p q m order is r n e d k g hd)
      go false g = sym (not_absent n d hd (side n (file_on r n e k g))) ∙ kind_of n d hd

  -- keys
  key_on : (r : ℕ) (n : NodeName) (k : List ℕ) (w : Value) → value_at h (AttrOf n k) r ≡ Some w → HasKey (tree_at h r) n k
  key_on r n k w e = go (entry_at h r n) refl e
    where
      some : (o : Option (Option (List ℕ))) → option_map AttrValue o ≡ Some w → IsSome o
      some None g = absurd cc
      some (Some v) g = refl

      go : (o : Option Entry) → entry_at h r n ≡ o → option_and_then (value_of (AttrOf n k)) o ≡ Some w → HasKey (tree_at h r) n k
      go None g i = absurd cc
      go (Some f) g i = (f, g, some (attr_of f.attrs k) i)

  value_on : (r : ℕ) (n : NodeName) (k : List ℕ) → HasKey (tree_at h r) n k → IsSome (value_at h (AttrOf n k) r)
  value_on r n k t = subst IsSome (sym (value_is r (AttrOf n k) t.0 t.1)) (at (attr_of t.0.attrs k) t.2)
    where
      at : (o : Option (Option (List ℕ))) → IsSome o → IsSome (option_map AttrValue o)
      at None g = absurd (let z = g in cc)
      at (Some v) g = refl

  from_side : (n : NodeName) (d : Decision) (k : List ℕ) → decision_of m.nodes n ≡ Some d → IsSome (choice_of d.attrs k) → HasKey (tree_at h p) n k ⊎ HasKey (tree_at h q) n k
  from_side n d k hd some = go (choice_of d.attrs k) refl some
    where
      go : (o : Option AttrChoice) → choice_of d.attrs k ≡ o → IsSome o → HasKey (tree_at h p) n k ⊎ HasKey (tree_at h q) n k
      go None g i = absurd (let z = i in cc)
      go (Some c) g i = ⊎_elim
          (λ t. inl (key_on p n k t.0 t.1))
          (λ t. inr (key_on q n k t.0 t.1))
          (on_a_side h grown p q (AttrOf n k) (attr_verdict c) (decided (AttrOf n k) n d (attr_verdict c) hd refl (ap (option_map attr_verdict) g)))

  to_decision : (n : NodeName) (d : Decision) (k : List ℕ) → decision_of m.nodes n ≡ Some d → HasKey (tree_at h p) n k ⊎ HasKey (tree_at h q) n k → IsSome (choice_of d.attrs k)
  to_decision n d k hd has = go (choice_of d.attrs k) refl
    where
      go : (o : Option AttrChoice) → choice_of d.attrs k ≡ o → IsSome o
      go (Some c) g = refl
      go None g = absurd (has_verdict (AttrOf n k) (live n d hd) (ap (option_and_then (verdict_of (AttrOf n k))) hd ∙ ap (option_map attr_verdict) g)
          (value_at h (AttrOf n k) p) (value_at h (AttrOf n k) q) refl refl
          (⊎_elim (λ t. inl (value_on p n k t)) (λ t. inr (value_on q n k t)) has))

  module _ (spell_left : IsSpellable (tree_at h p)) (spell_right : IsSpellable (tree_at h q)) where
    comp : (n parent : NodeName) (d : Decision) (name : List ℕ) → decision_of m.nodes n ≡ Some d → d.slot ≡ Fixed (Below parent name) → IsComp name
    comp n parent d name hd e = ⊎_elim
        (λ k. let t = slot_node h grown p n (Below parent name) k in spell_left.comps n parent t.0 name t.1 t.2)
        (λ k. let t = slot_node h grown q n (Below parent name) k in spell_right.comps n parent t.0 name t.1 t.2)
        (settled h grown p q (SlotOf n) (Settled (SlotValue (Below parent name))) (SlotValue (Below parent name)) refl
        (decided (SlotOf n) n d (Settled (SlotValue (Below parent name))) hd refl (ap (λ c. Some (slot_verdict c)) e)))

    key : (n : NodeName) (d : Decision) (k : List ℕ) → decision_of m.nodes n ≡ Some d → IsSome (choice_of d.attrs k) → IsKey k
    key n d k hd some = ⊎_elim (λ t. spell_left.keys n t.0 k t.1 t.2) (λ t. spell_right.keys n t.0 k t.1 t.2) (from_side n d k hd some)

    module _ (above_left above_right : Id → Bool) (tells_left : TellsAncestors h p above_left) (tells_right : TellsAncestors h q above_right) where
      outside : (r : ℕ) (above : Id → Bool) → TellsAncestors h r above → (n : NodeName) →
          ((b : ℕ) → IsPlaceOf h n.birth b → ¬ IsAncestor (parents_at h) b r) → above n.birth ≡ false
      outside r above tells n none = go (above n.birth) refl
        where
          go : (b : Bool) → above n.birth ≡ b → b ≡ false
          go false g = refl
          go true g = absurd (let t = (tells n.birth).0 g in none t.0 t.1 t.2)

      on_sides : (n : NodeName) → IsLive h p q n → (o u : Option Entry) → entry_at h p n ≡ o → entry_at h q n ≡ u → IsSome o ⊎ IsSome u
      on_sides n lives (Some e) u f g = inl refl
      on_sides n lives None (Some e) f g = inr refl
      on_sides n lives None None f g = absurd (subst (λ v. IsLiveWith h p q n None v) g (subst (λ o. IsLiveWith h p q n o (entry_at h q n)) f lives))

      pub of_sides : AreOfSides (tree_at h p) (tree_at h q) above_left above_right m
      of_sides = record {
        seen = λ n d hd r. on_sides n (live n d hd) (entry_at h p n) (entry_at h q n) refl refl;
        left_kind = kind p (λ n some. inl some);
        right_kind = kind q (λ n some. inr some);
        left_lives = λ n d e hd r hl hr.
            outside q above_right tells_right n (subst (λ v. IsLiveWith h p q n (Some e) v) hr (subst (λ o. IsLiveWith h p q n o (entry_at h q n)) hl (live n d hd)));
        right_lives = λ n d e hd r hr hl.
            outside p above_left tells_left n (subst (λ v. IsLiveWith h p q n None v) hr (subst (λ o. IsLiveWith h p q n o (entry_at h q n)) hl (live n d hd)));
        comps = comp;
        lawful_keys = key;
        keys = λ n d k hd r. (from_side n d k hd, to_decision n d k hd);
        live_keys = λ n d k c hd r g. absurd (let u = is.unborn n d hd in cc);
      }

  -- a pending file is one side's
  pub pending_of_sides : ArePendingOf (tree_at h p) (tree_at h q) m
  pending_of_sides n x k = go x ((is.pending n x).0 k)
    where
      both : (e f : Entry) → entry_at h p n ≡ Some e → entry_at h q n ≡ Some f → IsLive h p q n
      both e f k g = subst (λ v. IsLiveWith h p q n v (entry_at h q n)) (sym k) (subst (λ u. IsLiveWith h p q n (Some e) u) (sym g) tt)

      none : (o : Option Entry) → ((f : Entry) → o ≡ Some f → ⊥) → o ≡ None
      none None dead = refl
      none (Some f) dead = absurd (dead f refl)

      go : (x : Pending) → IsPending h p q n x →
          ((entry_of (tree_at h p) n ≡ Some x.entry) × (entry_of (tree_at h q) n ≡ None)) ⊎ ((entry_of (tree_at h q) n ≡ Some x.entry) × (entry_of (tree_at h p) n ≡ None))
      go _ (of_left {e = e} there dir dead lost) = inl (there, none (entry_at h q n) (λ f g. dead (both e f there g)))
      go _ (of_right {e = e} there dir dead lost) = inr (there, none (entry_at h p n) (λ f g. dead (both f e g there)))
