-- The decisions of a merge after resolutions. All resolutions speak of the decisions before any.
use Rattle.std.specs.Prelude.{ℕ, Bool, true, false, not, ◌||◌, List, ◌++◌, map, filter, filter_map, Option, Some, None, option_map, option_and_then}
use Rattle.std.specs.Option.{option_map_or}
use Rattle.mtn_base.specs.Names.{name_cmp}
use Rattle.mtn_base.specs.declared.id.Id.{Id}
use Rattle.mtn_base.specs.declared.name.NodeName.{NodeName}
use Rattle.mtn_roster.specs.declared.entry.Attr.{Attr}
use Rattle.mtn_roster.specs.declared.entry.Body.{Body}
use Rattle.mtn_roster.specs.declared.entry.Body.TheVariants.{Dir, File}
use Rattle.mtn_roster.specs.declared.entry.Slot.{Slot}
use Rattle.mtn_roster.specs.Tree.{is_dir_body}
use Rattle.mtn_base.specs.Lists.{ordered}
use Rattle.mtn_decide.specs.declared.decision.AttrChoice.{AttrChoice}
use Rattle.mtn_decide.specs.declared.decision.AttrChoice.TheVariants.{Fixed as FixedAttr}
use Rattle.mtn_decide.specs.declared.decision.AttrDecision.{AttrDecision}
use Rattle.mtn_decide.specs.declared.decision.ContentChoice.{ContentChoice}
use Rattle.mtn_decide.specs.declared.decision.ContentChoice.TheVariants.{Absent, Fixed as FixedContent, Clash as ContentClash}
use Rattle.mtn_decide.specs.declared.decision.Decision.{Decision}
use Rattle.mtn_decide.specs.declared.decision.Pending.{Pending}
use Rattle.mtn_decide.specs.declared.decision.SlotChoice.{SlotChoice}
use Rattle.mtn_decide.specs.declared.decision.SlotChoice.TheVariants.{Fixed as FixedSlot}
use Rattle.mtn_decide.specs.Decisions.{Merge}
use Rattle.mtn_resolve.specs.declared.resolution.Resolution.{Resolution}
use Rattle.mtn_resolve.specs.declared.resolution.Resolution.TheVariants.{Drop, Place, Content, AttrSet, AttrClear, Keep}
use Rattle.mtn_resolve.specs.Subjects.{life_of, slot_of, content_of, attr_of, resolution_of}

abbrev pub is_drop : Resolution → Bool
is_drop (Drop node) = true
is_drop _ = false

abbrev pub is_keep : Resolution → Bool
is_keep (Keep node) = true
is_keep _ = false

abbrev pub slot_in : Resolution → Option Slot
slot_in (Place node slot) = Some slot
slot_in _ = None

abbrev pub pick_in : Resolution → Option Id
pick_in (Content node pick) = Some pick
pick_in _ = None

-- a live value, or cleared
abbrev pub value_in : Resolution → Option (Option (List ℕ))
value_in (AttrSet node key value) = Some (Some value)
value_in (AttrClear node key) = Some None
value_in _ = None

-- a live attribute as it is
abbrev pub live_attr : Attr → Option AttrDecision
live_attr a = option_map (λ (v : List ℕ). record { key = a.key; choice = FixedAttr (Some v) }) a.value

abbrev pub content_in : Body → ContentChoice
content_in Dir = Absent
content_in (File content) = FixedContent content

-- a pending file as a node that lives again: the slot, the content and the live attributes of the side that has it
abbrev pub reborn_of : Pending → Decision
reborn_of p = record {
  name = p.entry.name;
  is_dir = is_dir_body p.entry.body;
  slot = FixedSlot p.entry.slot;
  content = content_in p.entry.body;
  attrs = filter_map live_attr p.entry.attrs;
  reborn = true;
}

-- a file's content is that of the id
abbrev pub with_content : Id → ContentChoice → ContentChoice
with_content pick Absent = Absent
with_content pick (FixedContent c) = FixedContent pick
with_content pick (ContentClash l r) = FixedContent pick

module _ (rs : List Resolution) where
  abbrev pub is_dropped : NodeName → Bool
  is_dropped n = option_map_or is_drop (resolution_of rs (life_of n)) false

  abbrev pub is_kept : NodeName → Bool
  is_kept n = option_map_or is_keep (resolution_of rs (life_of n)) false

  -- what is decided of a scalar: what a resolution says, or what was decided
  abbrev pub new_slot : NodeName → SlotChoice → SlotChoice
  new_slot n old = option_map_or FixedSlot (option_and_then slot_in (resolution_of rs (slot_of n))) old

  abbrev pub new_content : NodeName → ContentChoice → ContentChoice
  new_content n old = option_map_or (λ pick. with_content pick old) (option_and_then pick_in (resolution_of rs (content_of n))) old

  abbrev pub new_choice : NodeName → List ℕ → AttrChoice → AttrChoice
  new_choice n key old = option_map_or FixedAttr (option_and_then value_in (resolution_of rs (attr_of n key))) old

  abbrev pub new_attr : NodeName → AttrDecision → AttrDecision
  new_attr n a = record { key = a.key; choice = new_choice n a.key a.choice }

  abbrev pub new_node : Decision → Decision
  new_node d = record {
    name = d.name;
    is_dir = d.is_dir;
    slot = new_slot d.name d.slot;
    content = new_content d.name d.content;
    attrs = map (new_attr d.name) d.attrs;
    reborn = d.reborn;
  }

  -- a live node that is not dropped lives; a pending one that is kept lives again
  abbrev pub living : Merge → List Decision
  living m = filter (λ d. not (is_dropped d.name)) m.nodes ++ map reborn_of (filter (λ p. is_kept p.entry.name) m.pending)

  -- a pending node that is neither dropped nor kept stays pending
  abbrev pub still_pending : List Pending → List Pending
  still_pending = filter (λ p. not (is_dropped p.entry.name || is_kept p.entry.name))

  -- the decisions after the resolutions
  abbrev pub overridden : Merge → Merge
  overridden m = record { nodes = ordered name_cmp (λ d. d.name) (map new_node (living m)); pending = still_pending m.pending }

-- the nodes that may live after resolutions: those that live, and the pending ones
abbrev pub candidates : Merge → List Decision
candidates m = m.nodes ++ map reborn_of m.pending
