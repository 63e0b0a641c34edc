-- What a merge decides of a scalar, and where decisions say it.
use Rattle.std.specs.Prelude.{◌≡◌, ◌↔◌, false, Option, Some, None, IsSome, option_map, option_and_then}
use Rattle.mtn_base.specs.declared.name.NodeName.{NodeName}
use Rattle.mtn_history_laws.specs.Scalars.{Scalar, Value, node_of}
use Rattle.mtn_history_laws.specs.Scalars.Scalar.{SlotOf, ContentOf, AttrOf}
use Rattle.mtn_history_laws.specs.Scalars.Value.{SlotValue, ContentValue, AttrValue}
use Rattle.mtn_decide.specs.declared.decision.SlotChoice.{SlotChoice}
use Rattle.mtn_decide.specs.declared.decision.SlotChoice.TheVariants.{Fixed as FixedSlot, Clash as SlotClash}
use Rattle.mtn_decide.specs.declared.decision.ContentChoice.{ContentChoice}
use Rattle.mtn_decide.specs.declared.decision.ContentChoice.TheVariants.{Absent, Fixed as FixedContent, Clash as ContentClash}
use Rattle.mtn_decide.specs.declared.decision.AttrChoice.{AttrChoice}
use Rattle.mtn_decide.specs.declared.decision.AttrChoice.TheVariants.{Fixed as FixedAttr, Clash as AttrClash}
use Rattle.mtn_decide.specs.declared.decision.Decision.{Decision}
use Rattle.mtn_decide.specs.declared.decision.Pending.{Pending}
use Rattle.mtn_decide.specs.Decisions.{Merge, decision_of, pending_of, choice_of}

-- one value, or the values of both sides where they clash
pub data Verdict : Type 0 where
  Settled : Value → Verdict
  Clashing : (left right : Value) → Verdict

abbrev pub slot_verdict : SlotChoice → Verdict
slot_verdict (FixedSlot s) = Settled (SlotValue s)
slot_verdict (SlotClash l r) = Clashing (SlotValue l) (SlotValue r)

abbrev pub content_verdict : ContentChoice → Option Verdict
content_verdict Absent = None
content_verdict (FixedContent c) = Some (Settled (ContentValue c))
content_verdict (ContentClash l r) = Some (Clashing (ContentValue l) (ContentValue r))

abbrev pub attr_verdict : AttrChoice → Verdict
attr_verdict (FixedAttr v) = Settled (AttrValue v)
attr_verdict (AttrClash l r) = Clashing (AttrValue l) (AttrValue r)

-- what is decided of a scalar in the decision of its node
abbrev pub verdict_of : Scalar → Decision → Option Verdict
verdict_of (SlotOf n) d = Some (slot_verdict d.slot)
verdict_of (ContentOf n) d = content_verdict d.content
verdict_of (AttrOf n k) d = option_map attr_verdict (choice_of d.attrs k)

-- what a merge decides of a scalar
abbrev pub verdict_in : Merge → Scalar → Option Verdict
verdict_in m s = option_and_then (verdict_of s) (decision_of m.nodes (node_of s))

-- The merge decides exactly the nodes that live, exactly the scalars that have a verdict, and nothing is reborn; exactly these files are pending
pub record IsMergeBy (lives : NodeName → Type 0) (has_verdict : Scalar → Verdict → Type 0) (is_pending : NodeName → Pending → Type 0) (m : Merge) : Type 0 where
  pub live : (n : NodeName) → IsSome (decision_of m.nodes n) ↔ lives n
  pub scalars : (s : Scalar) (v : Verdict) → (verdict_in m s ≡ Some v) ↔ (lives (node_of s) × has_verdict s v)
  pub unborn : (n : NodeName) (d : Decision) → decision_of m.nodes n ≡ Some d → d.reborn ≡ false
  pub pending : (n : NodeName) (p : Pending) → (pending_of m.pending n ≡ Some p) ↔ is_pending n p
