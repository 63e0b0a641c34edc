-- A verdict by what the choice says.
use Rattle.std.specs.Prelude.{◌↔◌, IsTrue, option_map}
use Rattle.std.proofs.Common.{◌≡◌, ℕ, Bool, List, Option, Some, None, sym, ap, subst}
use Rattle.mtn_base.specs.declared.id.Id.{Id}
use Rattle.mtn_history_laws.specs.Scalars.{Value}
use Rattle.mtn_history_laws.specs.Scalars.Value.{SlotValue, ContentValue, AttrValue}
use Rattle.mtn_mark_laws.specs.Rule.{Side}
use Rattle.mtn_roster.specs.declared.entry.Slot.{Slot}
use Rattle.mtn_decide.specs.declared.scalar.Choice.{Choice}
use Rattle.mtn_decide.specs.declared.scalar.Choice.TheVariants.{Both, Left, Right, Clash}
use Rattle.mtn_decide.specs.Verdicts.{Verdict}
use Rattle.mtn_decide.specs.Verdicts.Verdict.{Settled, Clashing}
use Rattle.mtn_decide.specs.Sets.{IsChoice, IsVerdict}
use Rattle.mtn_decide.specs.Sets.IsVerdict.{common, left_alone, right_alone, left_wins, right_wins, clash}
use Rattle.mtn_marking.specs.Marking.{side_of}
use Rattle.mtn_base.specs.declared.name.NodeName.{NodeName}
use Rattle.mtn_history_laws.specs.Scalars.Scalar.{SlotOf}
use Rattle.mtn_decide.specs.declared.known.Content.{Content}
use Rattle.mtn_decide.specs.declared.known.SideNode.{SideNode}
use Rattle.mtn_decide.specs.declared.known.SideAttr.{SideAttr}
use Rattle.mtn_decide.specs.declared.known.AttrTurn.{AttrTurn}
use Rattle.mtn_decide.specs.declared.known.AttrTurn.TheVariants.{Left as LeftAttr, Right as RightAttr}
use Rattle.mtn_decide.specs.declared.known.Turn.{Turn}
use Rattle.mtn_decide.specs.declared.known.Turn.TheVariants.{Left as LeftNode, Right as RightNode}
use Rattle.mtn_decide.specs.Parts.{left_of, right_of, attr_left, attr_right, attr_side, content_side}
use Rattle.mtn_decide.proofs.Single.{one_verdict}

abbrev pub chosen : Choice → Value → Value → Verdict
chosen Both l r = Settled l
chosen Left l r = Settled l
chosen Right l r = Settled r
chosen Clash l r = Clashing l r

pub by_choice : (ol or : List ℕ) (l r : Side Value) (equal : Bool) → IsTrue equal ↔ (l.value ≡ r.value) → (choice : Choice) → IsChoice equal l.marks r.marks ol or choice →
    IsVerdict ol or (Some l) (Some r) (chosen choice l.value r.value)
by_choice ol or l r equal same Both h = common (same.0 h)
by_choice ol or l r equal same Left h = left_wins (λ e. let t = same.1 e in let f = h.0 in cc) h.1
by_choice ol or l r equal same Right h = right_wins (λ e. let t = same.1 e in let f = h.0 in cc) h.1 h.2
by_choice ol or l r equal same Clash h = clash (λ e. let t = same.1 e in let f = h.0 in cc) h.1 h.2

-- the same, for a verdict that is this one
pub verdict_is : (ol or : List ℕ) (l r : Side Value) (equal : Bool) → IsTrue equal ↔ (l.value ≡ r.value) → (choice : Choice) → IsChoice equal l.marks r.marks ol or choice →
    (v : Verdict) → chosen choice l.value r.value ≡ v → IsVerdict ol or (Some l) (Some r) v
verdict_is ol or l r equal same choice h v e = subst (IsVerdict ol or (Some l) (Some r)) e (by_choice ol or l r equal same choice h)

-- the same for each kind of value
pub of_slots : (ol or : List ℕ) (l r : Slot) (ml mr : List ℕ) (equal : Bool) → IsTrue equal ↔ (l ≡ r) → (choice : Choice) → IsChoice equal ml mr ol or choice →
    (v : Verdict) → chosen choice (SlotValue l) (SlotValue r) ≡ v → IsVerdict ol or (Some (record { value = SlotValue l; marks = ml })) (Some (record { value = SlotValue r; marks = mr })) v
of_slots ol or l r ml mr equal same choice h v e =
    verdict_is ol or (record { value = SlotValue l; marks = ml }) (record { value = SlotValue r; marks = mr }) equal
    (λ t. ap SlotValue (same.0 t), λ d. same.1 (let g : l ≡ r = cc in g)) choice h v e

pub of_contents : (ol or : List ℕ) (l r : Id) (ml mr : List ℕ) (equal : Bool) → IsTrue equal ↔ (l ≡ r) → (choice : Choice) → IsChoice equal ml mr ol or choice →
    (v : Verdict) → chosen choice (ContentValue l) (ContentValue r) ≡ v → IsVerdict ol or (Some (record { value = ContentValue l; marks = ml })) (Some (record { value = ContentValue r; marks = mr })) v
of_contents ol or l r ml mr equal same choice h v e =
    verdict_is ol or (record { value = ContentValue l; marks = ml }) (record { value = ContentValue r; marks = mr }) equal
    (λ t. ap ContentValue (same.0 t), λ d. same.1 (let g : l ≡ r = cc in g)) choice h v e

pub of_attrs : (ol or : List ℕ) (l r : Option (List ℕ)) (ml mr : List ℕ) (equal : Bool) → IsTrue equal ↔ (l ≡ r) → (choice : Choice) → IsChoice equal ml mr ol or choice →
    (v : Verdict) → chosen choice (AttrValue l) (AttrValue r) ≡ v → IsVerdict ol or (Some (record { value = AttrValue l; marks = ml })) (Some (record { value = AttrValue r; marks = mr })) v
of_attrs ol or l r ml mr equal same choice h v e =
    verdict_is ol or (record { value = AttrValue l; marks = ml }) (record { value = AttrValue r; marks = mr }) equal
    (λ t. ap AttrValue (same.0 t), λ d. same.1 (let g : l ≡ r = cc in g)) choice h v e

-- a verdict is the only one
pub exactly : (ol or : List ℕ) (l r : Option (Side Value)) (w : Verdict) → IsVerdict ol or l r w → (v : Verdict) → (Some w ≡ Some v) ↔ IsVerdict ol or l r v
exactly ol or l r w h v = (λ e. let d : w ≡ v = cc in subst (IsVerdict ol or l r) d h, λ is. ap Some (one_verdict ol or l r w v h is))

pub left_only : (ol or : List ℕ) (l : Side Value) (v : Verdict) → Settled l.value ≡ v → IsVerdict ol or (Some l) None v
left_only ol or l v e = subst (IsVerdict ol or (Some l) None) e left_alone

pub right_only : (ol or : List ℕ) (r : Side Value) (v : Verdict) → Settled r.value ≡ v → IsVerdict ol or None (Some r) v
right_only ol or r v e = subst (IsVerdict ol or None (Some r)) e right_alone

-- the same, for what the turn is
module _ (ol or : List ℕ) where
  pub attr_of_left : (t : AttrTurn) (k : SideAttr) → t ≡ LeftAttr k → (v : Verdict) → Settled (AttrValue k.attr.now.value) ≡ v → IsVerdict ol or (attr_left t) (attr_right t) v
  attr_of_left t k e v h = subst (λ t. IsVerdict ol or (attr_left t) (attr_right t) v) (sym e) (left_only ol or (attr_side k) v h)

  pub attr_of_right : (t : AttrTurn) (k : SideAttr) → t ≡ RightAttr k → (v : Verdict) → Settled (AttrValue k.attr.now.value) ≡ v → IsVerdict ol or (attr_left t) (attr_right t) v
  attr_of_right t k e v h = subst (λ t. IsVerdict ol or (attr_left t) (attr_right t) v) (sym e) (right_only ol or (attr_side k) v h)

  pub slot_of_left : (t : Turn) (k : SideNode) → t ≡ LeftNode k → (v : Verdict) → Settled (SlotValue k.node.now.slot) ≡ v → (n : NodeName) → IsVerdict ol or (side_of (SlotOf n) (left_of t)) (side_of (SlotOf n) (right_of t)) v
  slot_of_left t k e v h n = subst (λ t. IsVerdict ol or (side_of (SlotOf n) (left_of t)) (side_of (SlotOf n) (right_of t)) v) (sym e) (left_only ol or (record { value = SlotValue k.node.now.slot; marks = k.marking.now.slot }) v h)

  pub slot_of_right : (t : Turn) (k : SideNode) → t ≡ RightNode k → (v : Verdict) → Settled (SlotValue k.node.now.slot) ≡ v → (n : NodeName) → IsVerdict ol or (side_of (SlotOf n) (left_of t)) (side_of (SlotOf n) (right_of t)) v
  slot_of_right t k e v h n = subst (λ t. IsVerdict ol or (side_of (SlotOf n) (left_of t)) (side_of (SlotOf n) (right_of t)) v) (sym e) (right_only ol or (record { value = SlotValue k.node.now.slot; marks = k.marking.now.slot }) v h)

  abbrev AreBy : Option Content → Option Content → Option Verdict → Type 0
  AreBy l r w = (v : Verdict) → (w ≡ Some v) ↔ IsVerdict ol or (option_map content_side l) (option_map content_side r) v

  pub content_of_left : (l r : Option Content) (k : Content) → l ≡ Some k → r ≡ None → AreBy l r (Some (Settled (ContentValue k.id)))
  content_of_left l r k e f = subst (λ l. AreBy l r (Some (Settled (ContentValue k.id)))) (sym e) (subst (λ r. AreBy (Some k) r (Some (Settled (ContentValue k.id)))) (sym f)
      (exactly ol or (Some (content_side k)) None (Settled (ContentValue k.id)) left_alone))

  pub content_of_right : (l r : Option Content) (k : Content) → l ≡ None → r ≡ Some k → AreBy l r (Some (Settled (ContentValue k.id)))
  content_of_right l r k e f = subst (λ l. AreBy l r (Some (Settled (ContentValue k.id)))) (sym e) (subst (λ r. AreBy None r (Some (Settled (ContentValue k.id)))) (sym f)
      (exactly ol or None (Some (content_side k)) (Settled (ContentValue k.id)) right_alone))
