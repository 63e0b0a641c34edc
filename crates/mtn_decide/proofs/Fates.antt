-- What comes of a node, from its parts.
use Rattle.std.specs.Prelude.{◌↔◌, not, Contains, option_map}
use Rattle.std.proofs.Common.{◌≡◌, ℕ, Bool, true, false, List, Option, Some, None, refl, sym, ◌∙◌, ap, subst}
use Rattle.mtn_base.specs.declared.name.NodeName.{NodeName}
use Rattle.mtn_history_laws.specs.Scalars.{Scalar, Value}
use Rattle.mtn_history_laws.specs.Scalars.Scalar.{SlotOf, ContentOf, AttrOf}
use Rattle.mtn_mark_laws.specs.Rule.{Side, AllKnown}
use Rattle.mtn_marking.specs.Marking.{side_of}
use Rattle.mtn_marking.specs.declared.node.AttrMarks.{AttrMarks}
use Rattle.mtn_marking.specs.declared.node.Marking.{Marking}
use Rattle.mtn_roster.specs.declared.entry.Attr.{Attr}
use Rattle.mtn_roster.specs.declared.entry.Entry.{Entry}
use Rattle.mtn_decide.specs.declared.decision.AttrDecision.{AttrDecision}
use Rattle.mtn_decide.specs.declared.decision.Decision.{Decision}
use Rattle.mtn_decide.specs.declared.decision.Pending.{Pending}
use Rattle.mtn_decide.specs.declared.fate.Fate.{Fate}
use Rattle.mtn_decide.specs.declared.fate.Fate.TheVariants.{Held, Gone}
use Rattle.mtn_decide.specs.declared.known.Content.{Content}
use Rattle.mtn_decide.specs.declared.known.SideNode.{SideNode}
use Rattle.mtn_decide.specs.declared.known.Turn.{Turn}
use Rattle.mtn_decide.specs.declared.known.Turn.TheVariants.{Left, Right, Both}
use Rattle.mtn_decide.specs.Decisions.{is_absent}
use Rattle.mtn_decide.specs.Parts.{seen, left_of, right_of, turn_name, content_side, attr_side_in, attrs_of, marks_of_attrs, AreKeyedAlike, AreAttrsWith, IsChanged, IsOrderly, IsDecisionWith, IsFate}
use Rattle.mtn_decide.specs.Sets.{LivesWith, IsVerdict, IsPendingWith}
use Rattle.mtn_decide.specs.Sets.IsPendingWith.{of_left, of_right}
use Rattle.mtn_decide.specs.Verdicts.{Verdict, slot_verdict, content_verdict, verdict_of}
use Rattle.mtn_decide.proofs.Choosing.{exactly}
use Rattle.mtn_decide.proofs.Single.{both_pending}

pub keyed_alike : (o : Option (Entry × Marking)) → IsOrderly o → AreKeyedAlike (attrs_of o) (marks_of_attrs o)
keyed_alike None h = record { rising = refl; same = refl }
keyed_alike (Some k) h = h

-- the attributes that a side has
side_of_attrs : (m : NodeName) (k : List ℕ) (o : Option (Entry × Marking)) → attr_side_in (attrs_of o) (marks_of_attrs o) k ≡ side_of (AttrOf m k) o
side_of_attrs m k None = refl
side_of_attrs m k (Some x) = refl

module _ (ol or : List ℕ) (n : NodeName) (l r : Option (Entry × Marking)) where
  pub decision_of_parts : (d : Decision) → d.name ≡ n → d.reborn ≡ false → d.is_dir ≡ is_absent d.content →
      ((m : NodeName) → IsVerdict ol or (side_of (SlotOf m) l) (side_of (SlotOf m) r) (slot_verdict d.slot)) →
      ((m : NodeName) (v : Verdict) → (content_verdict d.content ≡ Some v) ↔ IsVerdict ol or (side_of (ContentOf m) l) (side_of (ContentOf m) r) v) →
      AreAttrsWith ol or (attr_side_in (attrs_of l) (marks_of_attrs l)) (attr_side_in (attrs_of r) (marks_of_attrs r)) d.attrs →
      IsDecisionWith ol or n l r d
  decision_of_parts d name unborn dir slot content attrs = record {
    name = name;
    unborn = unborn;
    kind = sym dir;
    keys = attrs.rising;
    verdicts = λ s _ v. by s v;
  }
    where
      by : (s : Scalar) (v : Verdict) → (verdict_of s d ≡ Some v) ↔ IsVerdict ol or (side_of s l) (side_of s r) v
      by (SlotOf m) v = exactly ol or (side_of (SlotOf m) l) (side_of (SlotOf m) r) (slot_verdict d.slot) (slot m) v
      by (ContentOf m) v = content m v
      by (AttrOf m k) v =
          let e = attrs.each k v in
          let x = side_of_attrs m k l in
          let y = side_of_attrs m k r in (
            λ h. subst (λ a. IsVerdict ol or a (side_of (AttrOf m k) r) v) x (subst (λ b. IsVerdict ol or (attr_side_in (attrs_of l) (marks_of_attrs l) k) b v) y (e.0 h)),
            λ h. e.1 (subst (λ a. IsVerdict ol or a (attr_side_in (attrs_of r) (marks_of_attrs r) k) v) (sym x) (subst (λ b. IsVerdict ol or (side_of (AttrOf m k) l) b v) (sym y) h)),
          )

module _ (ol or : List ℕ) (n : NodeName) (k : Entry × Marking) where
  held_left : (o : Option (Side Value)) → side_of (ContentOf n) (Some k) ≡ o → ¬ Contains ol k.1.birth → IsChanged o ol → IsPendingWith ol or n (Some k) None (record { entry = k.0; from_left = true })
  held_left None e nb h = absurd h
  held_left (Some x) e nb h = of_left e nb h

  held_right : (o : Option (Side Value)) → side_of (ContentOf n) (Some k) ≡ o → ¬ Contains or k.1.birth → IsChanged o or → IsPendingWith ol or n None (Some k) (record { entry = k.0; from_left = false })
  held_right None e nb h = absurd h
  held_right (Some x) e nb h = of_right e nb h

  gone_left : (p : Pending) → ¬ IsChanged (side_of (ContentOf n) (Some k)) ol → IsPendingWith ol or n (Some k) None p → ⊥
  gone_left _ none (of_left s b a) = none (subst (λ o. IsChanged o ol) (sym s) a)

  gone_right : (p : Pending) → ¬ IsChanged (side_of (ContentOf n) (Some k)) or → IsPendingWith ol or n None (Some k) p → ⊥
  gone_right _ none (of_right s b a) = none (subst (λ o. IsChanged o or) (sym s) a)

-- by whose turn it is
module _ (ol or : List ℕ) (t : Turn) (dead : ¬ LivesWith ol or (left_of t) (right_of t)) where
  abbrev Is : Fate → Type 0
  Is = IsFate ol or (turn_name t) (left_of t) (right_of t)

  pub fate_held_left : (k : SideNode) (e : Entry) → t ≡ Left k → e ≡ k.node.now → IsChanged (side_of (ContentOf k.node.now.name) (Some (seen k))) ol → Is (Held (record { entry = e; from_left = true }))
  fate_held_left k e is same h = (
    dead,
    subst (λ x. IsPendingWith ol or (turn_name t) (left_of t) (right_of t) (record { entry = x; from_left = true })) (sym same)
        (subst (λ u. IsPendingWith ol or (turn_name u) (left_of u) (right_of u) (record { entry = k.node.now; from_left = true })) (sym is)
        (held_left ol or k.node.now.name (seen k) (side_of (ContentOf k.node.now.name) (Some (seen k))) refl (subst (λ u. ¬ LivesWith ol or (left_of u) (right_of u)) is dead) h)),
  )

  pub fate_held_right : (k : SideNode) (e : Entry) → t ≡ Right k → e ≡ k.node.now → IsChanged (side_of (ContentOf k.node.now.name) (Some (seen k))) or → Is (Held (record { entry = e; from_left = false }))
  fate_held_right k e is same h = (
    dead,
    subst (λ x. IsPendingWith ol or (turn_name t) (left_of t) (right_of t) (record { entry = x; from_left = false })) (sym same)
        (subst (λ u. IsPendingWith ol or (turn_name u) (left_of u) (right_of u) (record { entry = k.node.now; from_left = false })) (sym is)
        (held_right ol or k.node.now.name (seen k) (side_of (ContentOf k.node.now.name) (Some (seen k))) refl (subst (λ u. ¬ LivesWith ol or (left_of u) (right_of u)) is dead) h)),
  )

  pub fate_gone_left : (k : SideNode) → t ≡ Left k → ¬ IsChanged (side_of (ContentOf k.node.now.name) (Some (seen k))) ol → Is Gone
  fate_gone_left k is none = (dead, subst (λ u. (p : Pending) → ¬ IsPendingWith ol or (turn_name u) (left_of u) (right_of u) p) (sym is) (λ p. gone_left ol or k.node.now.name (seen k) p none))

  pub fate_gone_right : (k : SideNode) → t ≡ Right k → ¬ IsChanged (side_of (ContentOf k.node.now.name) (Some (seen k))) or → Is Gone
  fate_gone_right k is none = (dead, subst (λ u. (p : Pending) → ¬ IsPendingWith ol or (turn_name u) (left_of u) (right_of u) p) (sym is) (λ p. gone_right ol or k.node.now.name (seen k) p none))

  pub fate_gone_both : (k m : SideNode) → t ≡ Both k m → Is Gone
  fate_gone_both k m is = (dead, subst (λ u. (p : Pending) → ¬ IsPendingWith ol or (turn_name u) (left_of u) (right_of u) p) (sym is) (λ p. both_pending ol or k.node.now.name (seen k) (seen m) p))

pub known_by : (b : Bool) → not b ≡ false → b ≡ true
known_by true h = refl
known_by false h = absurd cc

pub unchanged : (o : Option Content) (x : Content) (only : List ℕ) → o ≡ Some x → AllKnown x.marks.now only → ¬ IsChanged (option_map content_side o) only
unchanged o x only e all = subst (λ z. ¬ IsChanged (option_map content_side z) only) (sym e) (λ n. n all)

-- the decision of the node whose turn it is, from what was looked up of it
module _ (ol or : List ℕ) (t : Turn) (left right : Option SideNode) (is_left : option_map seen left ≡ left_of t) (is_right : option_map seen right ≡ right_of t) where
  pub decided : (d : Decision) → d.name ≡ turn_name t → d.reborn ≡ false → d.is_dir ≡ is_absent d.content →
      ((n : NodeName) → IsVerdict ol or (side_of (SlotOf n) (left_of t)) (side_of (SlotOf n) (right_of t)) (slot_verdict d.slot)) →
      (cl cr : Option Content) → ((n : NodeName) → option_map content_side cl ≡ side_of (ContentOf n) (option_map seen left)) → ((n : NodeName) → option_map content_side cr ≡ side_of (ContentOf n) (option_map seen right)) →
      ((v : Verdict) → (content_verdict d.content ≡ Some v) ↔ IsVerdict ol or (option_map content_side cl) (option_map content_side cr) v) →
      (la : List Attr) (lm : List AttrMarks) (ra : List Attr) (rm : List AttrMarks) → la ≡ attrs_of (option_map seen left) → lm ≡ marks_of_attrs (option_map seen left) → ra ≡ attrs_of (option_map seen right) → rm ≡ marks_of_attrs (option_map seen right) →
      (ds : List AttrDecision) → d.attrs ≡ ds → AreAttrsWith ol or (attr_side_in la lm) (attr_side_in ra rm) ds →
      IsDecisionWith ol or (turn_name t) (left_of t) (right_of t) d
  decided d name unborn dir slot cl cr hcl hcr content la lm ra rm ela elm era erm ds eds attrs =
      decision_of_parts ol or (turn_name t) (left_of t) (right_of t) d name unborn dir slot
      (λ n v. let e = content v in
      let x : option_map content_side cl ≡ side_of (ContentOf n) (left_of t) = hcl n ∙ ap (side_of (ContentOf n)) is_left in
      let y : option_map content_side cr ≡ side_of (ContentOf n) (right_of t) = hcr n ∙ ap (side_of (ContentOf n)) is_right in
      subst (λ a. (content_verdict d.content ≡ Some v) ↔ IsVerdict ol or a (side_of (ContentOf n) (right_of t)) v) x
      (subst (λ b. (content_verdict d.content ≡ Some v) ↔ IsVerdict ol or (option_map content_side cl) b v) y e))
      (subst (AreAttrsWith ol or (attr_side_in (attrs_of (left_of t)) (marks_of_attrs (left_of t))) (attr_side_in (attrs_of (right_of t)) (marks_of_attrs (right_of t)))) (sym eds)
      (subst (λ (z : List Attr × List AttrMarks). AreAttrsWith ol or (attr_side_in z.0 z.1) (attr_side_in (attrs_of (right_of t)) (marks_of_attrs (right_of t))) ds)
      (λ i. ((ela ∙ ap attrs_of is_left) i, (elm ∙ ap marks_of_attrs is_left) i))
      (subst (λ (z : List Attr × List AttrMarks). AreAttrsWith ol or (attr_side_in la lm) (attr_side_in z.0 z.1) ds)
      (λ i. ((era ∙ ap attrs_of is_right) i, (erm ∙ ap marks_of_attrs is_right) i)) attrs)))
