-- What the decisions of a merge say of the trees of its two sides: all that the tree which they make has to show of them.
use Rattle.std.specs.Prelude.{◌≡◌, ◌↔◌, ◌⊎◌, ℕ, Bool, true, false, List, Some, None, IsSome}
use Rattle.mtn_base.specs.Comps.{IsComp}
use Rattle.mtn_base.specs.declared.id.Id.{Id}
use Rattle.mtn_base.specs.declared.name.NodeName.{NodeName}
use Rattle.mtn_changes.specs.Changes.{IsKey}
use Rattle.mtn_roster.specs.declared.entry.Entry.{Entry}
use Rattle.mtn_roster.specs.declared.entry.Slot.TheVariants.{Below}
use Rattle.mtn_roster.specs.Tree.{Tree, entry_of, is_dir}
use Rattle.mtn_decide.specs.declared.decision.AttrChoice.{AttrChoice}
use Rattle.mtn_decide.specs.declared.decision.Decision.{Decision}
use Rattle.mtn_decide.specs.declared.decision.SlotChoice.TheVariants.{Fixed}
use Rattle.mtn_decide.specs.declared.decision.Pending.{Pending}
use Rattle.mtn_decide.specs.Decisions.{Merge, decision_of, pending_of, choice_of}
use Rattle.mtn_conflicts.specs.Result.{decided_value}
use Rattle.mtn_between.specs.Merging.{HasKey}

-- `above_left` and `above_right` pass the ids of the ancestors of the sides' revisions
pub record AreOfSides (left right : Tree) (above_left above_right : Id → Bool) (m : Merge) : Type 0 where
  -- a node that is not reborn is on a side
  pub seen : (n : NodeName) (d : Decision) → decision_of m.nodes n ≡ Some d → d.reborn ≡ false → IsSome (entry_of left n) ⊎ IsSome (entry_of right n)
  -- it has its kind from there
  pub left_kind : (n : NodeName) (d : Decision) (e : Entry) → decision_of m.nodes n ≡ Some d → entry_of left n ≡ Some e → is_dir e ≡ d.is_dir
  pub right_kind : (n : NodeName) (d : Decision) (e : Entry) → decision_of m.nodes n ≡ Some d → entry_of right n ≡ Some e → is_dir e ≡ d.is_dir
  -- one that is on one side alone was born outside the ancestors of the other
  pub left_lives : (n : NodeName) (d : Decision) (e : Entry) → decision_of m.nodes n ≡ Some d → d.reborn ≡ false → entry_of left n ≡ Some e → entry_of right n ≡ None → above_right n.birth ≡ false
  pub right_lives : (n : NodeName) (d : Decision) (e : Entry) → decision_of m.nodes n ≡ Some d → d.reborn ≡ false → entry_of right n ≡ Some e → entry_of left n ≡ None → above_left n.birth ≡ false
  -- texts can spell the decided components and keys
  pub comps : (n parent : NodeName) (d : Decision) (name : List ℕ) → decision_of m.nodes n ≡ Some d → d.slot ≡ Fixed (Below parent name) → IsComp name
  pub lawful_keys : (n : NodeName) (d : Decision) (k : List ℕ) → decision_of m.nodes n ≡ Some d → IsSome (choice_of d.attrs k) → IsKey k
  -- a node that is not reborn has exactly the keys that it has on the sides, and a reborn one no cleared key
  pub keys : (n : NodeName) (d : Decision) (k : List ℕ) → decision_of m.nodes n ≡ Some d → d.reborn ≡ false → IsSome (choice_of d.attrs k) ↔ (HasKey left n k ⊎ HasKey right n k)
  pub live_keys : (n : NodeName) (d : Decision) (k : List ℕ) (c : AttrChoice) → decision_of m.nodes n ≡ Some d → d.reborn ≡ true → choice_of d.attrs k ≡ Some c → IsSome (decided_value c)

-- a pending file is one side's, and the other lacks it
abbrev pub ArePendingOf : (left right : Tree) → Merge → Type 0
ArePendingOf left right m = (n : NodeName) (p : Pending) → pending_of m.pending n ≡ Some p →
    ((entry_of left n ≡ Some p.entry) × (entry_of right n ≡ None)) ⊎ ((entry_of right n ≡ Some p.entry) × (entry_of left n ≡ None))
