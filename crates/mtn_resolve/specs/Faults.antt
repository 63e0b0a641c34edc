-- Why resolutions do not fit decisions and their conflicts. Each is checked against the decisions before any resolution.
use Rattle.std.specs.Prelude.{◌≡◌, ℕ, ◌+◌, Bool, true, false, ◌||◌, if◌then◌else◌, List, [], ◌∷◌, ◌++◌, length, Option, Some, None, is_some}
use Rattle.std.specs.List.{AllByRecursion}
use Rattle.mtn_base.specs.declared.name.NodeName.{NodeName}
use Rattle.mtn_roster.specs.declared.entry.Slot.{Slot}
use Rattle.mtn_roster.specs.declared.entry.Slot.TheVariants.{Root, Below}
use Rattle.mtn_base.specs.Lists.{is_some_with}
use Rattle.mtn_decide.specs.declared.decision.AttrChoice.{AttrChoice}
use Rattle.mtn_decide.specs.declared.decision.AttrChoice.TheVariants.{Fixed as FixedAttr, Clash as AttrClash}
use Rattle.mtn_decide.specs.declared.decision.ContentChoice.{ContentChoice}
use Rattle.mtn_decide.specs.declared.decision.ContentChoice.TheVariants.{Absent, Fixed as FixedContent, Clash as ContentClash}
use Rattle.mtn_decide.specs.Decisions.{Merge, decision_of, pending_of, choice_of}
use Rattle.mtn_conflicts.specs.declared.lists.Conflicts.{Conflicts}
use Rattle.mtn_conflicts.specs.declared.item.Item.{Item}
use Rattle.mtn_resolve.specs.declared.resolution.Resolution.{Resolution}
use Rattle.mtn_resolve.specs.declared.resolution.Resolution.TheVariants.{Drop, Place, Content, AttrSet, AttrClear, Keep}
use Rattle.mtn_resolve.specs.declared.fault.Fault.{Fault}
use Rattle.mtn_resolve.specs.declared.fault.Fault.TheVariants as one
use Rattle.mtn_resolve.specs.declared.error.OverrideError.{OverrideError}
use Rattle.mtn_resolve.specs.declared.error.OverrideError.TheVariants.{UnknownNode, NotADirectory, NotAConflict, NoMemory}
use Rattle.mtn_resolve.specs.Subjects.{node_of}

abbrev pub has_items : List Item → Bool
has_items [] = false
has_items (item ∷ items) = true

-- one of the lists on slots has an item, or a file is pending
abbrev pub has_tree_conflict : Conflicts → Bool
has_tree_conflict c = c.missing_root || has_items c.invalid_name || has_items c.directory_loop || has_items c.orphaned_node
    || has_items c.multiple_name || has_items c.duplicate_name || has_items c.dropped_modified

abbrev pub is_content_torn : ContentChoice → Bool
is_content_torn Absent = false
is_content_torn (FixedContent c) = false
is_content_torn (ContentClash l r) = true

abbrev pub is_attr_torn : AttrChoice → Bool
is_attr_torn (FixedAttr v) = false
is_attr_torn (AttrClash l r) = true

module _ (m : Merge) where
  abbrev pub is_live : NodeName → Bool
  is_live n = is_some (decision_of m.nodes n)

  abbrev pub is_live_dir : NodeName → Bool
  is_live_dir n = is_some_with (λ d. d.is_dir) (decision_of m.nodes n)

  abbrev pub is_pending : NodeName → Bool
  is_pending n = is_some (pending_of m.pending n)

  abbrev pub is_known : NodeName → Bool
  is_known n = is_live n || is_pending n

  -- the root slot, or one below a live node
  abbrev pub hangs : Slot → Bool
  hangs Root = true
  hangs (Below parent name) = is_live parent

  -- all nodes that it names are known, and what it hangs a node below lives
  abbrev pub names_known : Resolution → Bool
  names_known (Place node slot) = if is_known node then hangs slot else false
  names_known r = is_known (node_of r)

  -- the root is a directory, and what it hangs a node below
  abbrev pub names_dirs : Resolution → Bool
  names_dirs (Place node Root) = is_live_dir node
  names_dirs (Place node (Below parent name)) = is_live_dir parent
  names_dirs r = true

  -- the content of the node clashes; the value of its key
  abbrev pub clashes : NodeName → Bool
  clashes n = is_some_with (λ d. is_content_torn d.content) (decision_of m.nodes n)

  abbrev pub key_clashes : NodeName → List ℕ → Bool
  key_clashes n key = is_some_with (λ d. is_some_with is_attr_torn (choice_of d.attrs key)) (decision_of m.nodes n)

  module _ (c : Conflicts) where
    -- there is a conflict that it may resolve
    abbrev pub has_conflict : Resolution → Bool
    has_conflict (Drop node) = has_tree_conflict c
    has_conflict (Place node slot) = has_tree_conflict c
    has_conflict (Content node pick) = clashes node
    has_conflict (AttrSet node key value) = key_clashes node key
    has_conflict (AttrClear node key) = key_clashes node key
    has_conflict (Keep node) = is_pending node

    -- the fault of a resolution: the first of these
    abbrev pub fault_of : Resolution → Option Fault
    fault_of r = if names_known r then (if names_dirs r then (if has_conflict r then None else Some one.NotAConflict) else Some one.NotADirectory) else Some one.UnknownNode

    -- no resolution has a fault
    abbrev pub AreFitting : List Resolution → Type 0
    AreFitting rs = AllByRecursion (λ r. fault_of r ≡ None) rs

    -- The first resolution with a fault. The stanza before the first is the header, so the first has number 2
    pub record IsFaultAt (rs : List Resolution) (number : ℕ) (why : Fault) : Type 0 where
      pub before : List Resolution
      pub resolution : Resolution
      pub rest : List Resolution
      pub whole : rs ≡ before ++ resolution ∷ rest
      pub place : number ≡ length before + 2
      pub fitting : AreFitting before
      pub fault : fault_of resolution ≡ Some why

    -- why resolutions do not fit
    abbrev pub IsOverrideFault : List Resolution → OverrideError → Type 0
    IsOverrideFault rs (UnknownNode number) = IsFaultAt rs number one.UnknownNode
    IsOverrideFault rs (NotADirectory number) = IsFaultAt rs number one.NotADirectory
    IsOverrideFault rs (NotAConflict number) = IsFaultAt rs number one.NotAConflict
    IsOverrideFault rs NoMemory = Unit {0}

-- the fault of the stanza of a number
abbrev pub numbered_of : Fault → ℕ → OverrideError
numbered_of one.UnknownNode number = UnknownNode number
numbered_of one.NotADirectory number = NotADirectory number
numbered_of one.NotAConflict number = NotAConflict number
