-- private, for the proof of conflicts: what is handed on within the making of lists
use Rattle.std.specs.Prelude.{◌≡◌, ◌≢◌, ◌↔◌, ◌⊎◌, ℕ, suc, ◌+◌, ◌<◌, Bool, true, false, IsTrue, Option, Some, None, List, [], ◌∷◌, length, slice_get, slice_index, slice_index_or}
use Rattle.std.specs.List.{AllZip}
use Rattle.std.specs.declared.cmp.Ordering.{Ordering}
use Rattle.std.specs.declared.cmp.Ordering.TheVariants.{Less, Equal, Greater}
use Rattle.mtn_base.specs.Names.{same_bytes}
use Rattle.mtn_base.specs.declared.name.NodeName.{NodeName}
use Rattle.mtn_roster.specs.declared.entry.Slot.{Slot}
use Rattle.mtn_roster.specs.declared.entry.Slot.TheVariants.{Root}
use Rattle.mtn_roster.specs.Building.{climbed}
use Rattle.mtn_roster.specs.Index.{slot_cmp}
use Rattle.mtn_roster.specs.Tree.{mtn}
use Rattle.mtn_decide.specs.declared.decision.AttrChoice.{AttrChoice}
use Rattle.mtn_decide.specs.declared.decision.AttrChoice.TheVariants.{Clash}
use Rattle.mtn_decide.specs.declared.decision.Decision.{Decision}
use Rattle.mtn_decide.specs.declared.decision.SlotChoice.{SlotChoice}
use Rattle.mtn_decide.specs.declared.decision.SlotChoice.TheVariants.{Fixed, Clash as SlotClash}
use Rattle.mtn_decide.specs.Decisions.{decision_of}
use Rattle.mtn_conflicts.specs.declared.item.Item.{Item}
use Rattle.mtn_conflicts.specs.Lists.{slot_item}
use Rattle.mtn_conflicts.specs.Slots.{parent_in}

-- the root slot is decided
abbrev pub IsRootChoice : SlotChoice → Type 0
IsRootChoice c = c ≡ Fixed Root

-- the node of a name is live and has the root slot
abbrev pub IsLiveRoot : List Decision → NodeName → Type 0
IsLiveRoot ds p = (r : Decision) × (decision_of ds p ≡ Some r) × IsRootChoice r.slot

abbrev pub is_mtn : List ℕ → Bool
is_mtn name = same_bytes name mtn

-- the value clashes
abbrev pub IsAttrChoiceTorn : AttrChoice → Type 0
IsAttrChoiceTorn c = (l : Option (List ℕ)) × (r : Option (List ℕ)) × (c ≡ Clash l r)

-- the flags say of each node whether P holds
abbrev pub AreFlags : (Decision → Type 0) → List Decision → List Bool → Type 0
AreFlags P = AllZip (λ (d : Decision) (f : Bool). IsTrue f ↔ P d)

-- the items of the flagged nodes
abbrev pub flagged : List Decision → List Bool → List Item
flagged [] fs = []
flagged (d ∷ ds) [] = []
flagged (d ∷ ds) (true ∷ fs) = slot_item d ∷ flagged ds fs
flagged (d ∷ ds) (false ∷ fs) = flagged ds fs

-- those whose slots clash first, then by slot
abbrev pub choice_cmp : SlotChoice → SlotChoice → Ordering
choice_cmp (Fixed s) (Fixed t) = slot_cmp s t
choice_cmp (Fixed s) (SlotClash l r) = Greater
choice_cmp (SlotClash l r) (Fixed t) = Less
choice_cmp (SlotClash l r) (SlotClash x y) = Equal

-- the place of the live decided parent; one past all nodes where there is none
abbrev pub IsUpTo : List Decision → Option NodeName → ℕ → Type 0
IsUpTo ds None up = up ≡ length ds
IsUpTo ds (Some p) up = ((up < length ds) × (slice_get ds up ≡ decision_of ds p)) ⊎ ((up ≡ length ds) × (decision_of ds p ≡ None))

-- Ups has for each place that of the live decided parent; the place past all nodes is its own
pub record AreUps (ds : List Decision) (ups : List ℕ) : Type 0 where
  pub long : length ups ≡ length ds + 1
  pub each : (k : ℕ) (d : Decision) → slice_get ds k ≡ Some d → IsUpTo ds (parent_in d.slot) (slice_index ups k)
  pub end : slice_index ups (length ds) ≡ length ds

-- the way up from a place returns to it
abbrev pub IsRound : List ℕ → ℕ → Type 0
IsRound ups k = (t : ℕ) × (climbed ups (suc t) k ≡ k)

-- the way up from one place leads to the other
abbrev pub IsUpFrom : List ℕ → ℕ → ℕ → Type 0
IsUpFrom ups from k = (m : ℕ) × (climbed ups m from ≡ k)

-- so many places of the way up from one, none of which had a mark, have this mark; a place without one has 0
pub record IsMarkedUp (ups : List ℕ) (from : ℕ) (mark : ℕ) (old : List ℕ) (steps : ℕ) (at : ℕ) (new : List ℕ) : Type 0 where
  pub long : length new ≡ length old
  pub end : climbed ups steps from ≡ at
  pub fresh : (i : ℕ) → i < steps → slice_index old (climbed ups i from) ≡ 0
  pub marked : (i : ℕ) → i < steps → slice_index new (climbed ups i from) ≡ mark
  pub others : (k : ℕ) → (slice_index new k ≡ slice_index old k) ⊎ ((i : ℕ) × (i < steps) × (climbed ups i from ≡ k))

-- the way up from a place is marked, to the first place that has a mark
abbrev pub IsWay : List ℕ → ℕ → ℕ → List ℕ → ℕ → List ℕ → Type 0
IsWay ups from mark old at new = (steps : ℕ) × IsMarkedUp ups from mark old steps at new × (0 < slice_index new at)

-- the flags of all places on the way up from one are raised too
abbrev pub AreRaisedFrom : List ℕ → ℕ → List Bool → List Bool → Type 0
AreRaisedFrom ups from old new = (length new ≡ length old)
    × ((k : ℕ) → k < length old → (slice_index_or new k false ≡ true) ↔ ((slice_index_or old k false ≡ true) ⊎ IsUpFrom ups from k))

-- Of the places with a mark, which go up to such, those are flagged to which the way up returns; no other is
pub record AreSeen (ups : List ℕ) (marks : List ℕ) (flags : List Bool) : Type 0 where
  pub long : length marks ≡ length ups
  pub closed : (k : ℕ) → k < length ups → 0 < slice_index marks k → 0 < slice_index marks (slice_index ups k)
  pub told : (k : ℕ) → k < length flags → 0 < slice_index marks k → (slice_index_or flags k false ≡ true) ↔ IsRound ups k
  pub rest : (k : ℕ) → k < length flags → slice_index marks k ≡ 0 → slice_index_or flags k false ≡ false

-- one more flag is raised
abbrev pub IsRaised : List Bool → ℕ → List Bool → Type 0
IsRaised old place new = (length new ≡ length old) × ((k : ℕ) → k < length old → (slice_index_or new k false ≡ true) ↔ ((slice_index_or old k false ≡ true) ⊎ (k ≡ place)))

-- the slot of the node at a place; one that clashes where there is none
abbrev pub choice_of_node : Option Decision → SlotChoice
choice_of_node None = SlotClash Root Root
choice_of_node (Some d) = d.slot

abbrev pub choice_at : List Decision → ℕ → SlotChoice
choice_at ds k = choice_of_node (slice_get ds k)

-- both slots are decided, and the same
abbrev pub AreSameSlots : SlotChoice → SlotChoice → Type 0
AreSameSlots c d = (s : Slot) × (c ≡ Fixed s) × (d ≡ Fixed s)

-- the nodes at two places have one decided slot
abbrev pub AreTwins : List Decision → ℕ → ℕ → Type 0
AreTwins ds i j = (d : Decision) × (e : Decision) × (s : Slot) × (slice_get ds i ≡ Some d) × (slice_get ds j ≡ Some e) × (d.slot ≡ Fixed s) × (e.slot ≡ Fixed s)

-- all places, each once, by ascending slots
pub record IsBySlot (ds : List Decision) (ks : List ℕ) : Type 0 where
  pub within : (a : ℕ) → a < length ks → slice_index ks a < length ds
  pub there : (k : ℕ) → k < length ds → (a : ℕ) × (a < length ks) × (slice_index ks a ≡ k)
  pub apart : (a b : ℕ) → a < b → b < length ks → slice_index ks a ≢ slice_index ks b
  pub sorted : (a b : ℕ) → a < b → b < length ks → choice_cmp (choice_at ds (slice_index ks a)) (choice_at ds (slice_index ks b)) ≢ Greater

-- the flags of both places are raised too, if these have one decided slot
abbrev pub IsMarked : List Decision → ℕ → ℕ → List Bool → List Bool → Type 0
IsMarked ds i j old new = (length new ≡ length old)
    × ((k : ℕ) → k < length old → (slice_index_or new k false ≡ true) ↔ ((slice_index_or old k false ≡ true) ⊎ (AreTwins ds i j × ((k ≡ i) ⊎ (k ≡ j)))))
