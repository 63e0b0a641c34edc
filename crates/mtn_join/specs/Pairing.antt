-- private, for the proof of `join`: how its walks compare two trees, and what it makes before it puts it in order.
use Rattle.std.specs.Prelude.{◌≡◌, ◌++◌, ◌==◌, ◌&&◌, ◌||◌, ℕ, ◌<◌, Bool, true, false, not, if◌then◌else◌, is_none, List, length, slice_index, Option, Some, None, option_map, slice_get}
use Rattle.std.specs.List.{filter}
use Rattle.std.specs.Option.{option_map_or}
use Rattle.std.specs.Ordering.{is_lt}
use Rattle.mtn_base.specs.Names.{same_bytes, same_id, path_cmp}
use Rattle.mtn_base.specs.declared.id.Id.{Id}
use Rattle.mtn_roster.specs.declared.entry.Attr.{Attr}
use Rattle.mtn_roster.specs.declared.entry.Entry.{Entry}
use Rattle.mtn_roster.specs.declared.entry.Slot.{Slot}
use Rattle.mtn_roster.specs.declared.entry.Slot.TheVariants.{Root, Below}
use Rattle.mtn_roster.specs.Tree.{Tree, entry_of, attr_of, live_of, path_of}
use Rattle.mtn_base.specs.Lists.{is_some_with}
use Rattle.mtn_roster.specs.Walk.{by_path}
use Rattle.mtn_changeset_laws.specs.Joining.{JoinWhy, is_old, join_why, joined_name, joined_entry, counterpart, other_attrs}
use Rattle.mtn_changeset_laws.specs.Joining.JoinWhy.{Disagree, Revived}
use Rattle.mtn_join.specs.declared.pair.PairFault.{PairFault}
use Rattle.mtn_join.specs.declared.pair.PairFault.TheVariants as pair

-- a node is new, or stands in one tree alone, or its birth passes both tests
abbrev pub is_common_known : Tree → Id → (Id → Bool) → (Id → Bool) → Entry → Bool
is_common_known right new above_left above_right e =
    not (is_old new e) || is_none (entry_of right e.name) || (above_left e.name.birth && above_right e.name.birth)

abbrev pub why_of : PairFault → JoinWhy
why_of pair.Disagree = Disagree
why_of pair.Revived = Revived

-- the attribute is cleared, or it is live among the others with the same value
abbrev pub is_live_in : List Attr → Attr → Bool
is_live_in attrs a = option_map_or (λ v. is_some_with (same_bytes v) (live_of attrs a.key)) a.value true

-- the attributes of the one, and those of the other with other keys
abbrev pub both_attrs : List Attr → List Attr → List Attr
both_attrs first second = first ++ filter (λ (b : Attr). is_none (attr_of first b.key)) second

-- Where two nodes hang: below parents of one number, by one component, or both in the root slot
abbrev pub hangs_alike : Slot → ℕ → Slot → ℕ → Bool
hangs_alike Root a Root b = true
hangs_alike Root a (Below q m) b = false
hangs_alike (Below p n) a Root b = false
hangs_alike (Below p n) a (Below q m) b = a == b && same_bytes n m

-- at this stop of the walks over both trees stands the same path
pub record IsPairedAt (left right : Tree) (k : ℕ) : Type 0 where
  pub x : Entry
  pub y : Entry
  pub left_at : slice_get (by_path left) k ≡ Some x
  pub right_at : slice_get (by_path right) k ≡ Some y
  pub path : path_of left x ≡ path_of right y

module _ (new : Id) (above_left above_right : Id → Bool) (left right : Tree) where
  -- what is wrong with the nodes of a pair
  abbrev pub pair_why : {k : ℕ} → IsPairedAt left right k → Option JoinWhy
  pair_why p = join_why new above_left above_right (Some p.x) (Some p.y)

  -- why the walks agree no further: their paths part, or one of them is at its end, or the next pair has a fault
  abbrev pub IsEnd : ℕ → Option PairFault → Type 0
  IsEnd count None = IsPairedAt left right count → ⊥
  IsEnd count (Some fault) = (p : IsPairedAt left right count) × (pair_why p ≡ Some (why_of fault))

  -- so many stops of both walks are pairs without a fault, and the next is none
  pub record IsAgreement (count : ℕ) (fault : Option PairFault) : Type 0 where
    pub agreed : (k : ℕ) → k < count → (p : IsPairedAt left right k) × (pair_why p ≡ None)
    pub end : IsEnd count fault

-- each node of the left tree has its pair
abbrev pub ArePaired : Tree → Tree → Type 0
ArePaired left right = (k : ℕ) → k < length (by_path left) → IsPairedAt left right k

-- the path at a stop of the walk over a tree
abbrev pub path_along : Tree → ℕ → Option (List (List ℕ))
path_along t at = option_map (path_of t) (slice_get (by_path t) at)

abbrev pub lesser_path : Option (List (List ℕ)) → Option (List (List ℕ)) → Option (List (List ℕ))
lesser_path None q = q
lesser_path (Some p) None = Some p
lesser_path (Some p) (Some q) = Some (if is_lt (path_cmp q p) then q else p)

-- for each place of the left tree that of the node of its path in the right one
pub record AreMates (left right : Tree) (mates : List ℕ) : Type 0 where
  pub long : length mates ≡ length left
  pub each : (k : ℕ) (x : Entry) → slice_get left k ≡ Some x → (y : Entry) × (slice_get right (slice_index mates k) ≡ Some y) × (counterpart left right x ≡ Some y)

-- The slot of a joined node, by those of a pair: where the parent of the first was added, the second has its joined name
abbrev pub paired_slot : Id → Slot → Slot → Slot
paired_slot new Root t = Root
paired_slot new (Below parent name) t = if not (same_id parent.birth new) then Below parent name else t

-- what two nodes of a pair are joined to, its attributes in any order
abbrev pub paired_entry : Id → Entry → Entry → Entry
paired_entry new x y = record { name = joined_name new x (Some y); slot = paired_slot new x.slot y.slot; body = x.body; attrs = both_attrs x.attrs y.attrs }

-- the entry of a joined node, its attributes in any order
abbrev pub unordered_entry : Tree → Tree → Id → Entry → Entry
unordered_entry left right new x = record (joined_entry left right new x) { attrs = both_attrs x.attrs (other_attrs (counterpart left right x)) }
