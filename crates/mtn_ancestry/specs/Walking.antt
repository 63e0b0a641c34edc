-- Where a walk from two positions down to their common ancestors stands.
use Rattle.std.specs.Prelude.{◌≡◌, ℕ, ◌<◌, ◌≤◌, ◌↔◌, ◌⊎◌, Option, Some, None, Bool, true, false, cond, nat_eq, suc, List, [], ◌∷◌, ◌++◌, All, Contains, reverse}
use Rattle.std.specs.List.Sorted.{IsStrictlyIncreasing}
use Rattle.mtn_ancestry.specs.Ancestors.{IsAncestor, IsUncommon}
use Rattle.std.specs.Ordering.{nat_cmp}
use Rattle.std.specs.BTreeMap.{get}
use Rattle.std.specs.BTreeSet.{contains}
use Rattle.mtn_ancestry.specs.declared.frontier.Reach.{Reach}
use Rattle.mtn_ancestry.specs.declared.frontier.Reach.TheVariants.{Left, Right, Both}
use Rattle.mtn_ancestry.specs.declared.frontier.Frontier.{Frontier}

-- the walk came from the left position
abbrev pub IsFromLeft : Reach → Type 0
IsFromLeft Left = Unit {0}
IsFromLeft Right = ⊥
IsFromLeft Both = Unit {0}

-- the walk came from the right position
abbrev pub IsFromRight : Reach → Type 0
IsFromRight Left = ⊥
IsFromRight Right = Unit {0}
IsFromRight Both = Unit {0}

-- how a position stands that was pending or not, and is come to once more
abbrev pub after_reach : Option Reach → Reach → Reach
after_reach None r = r
after_reach (Some Left) Left = Left
after_reach (Some Right) Right = Right
after_reach (Some h) r = Both

abbrev pub is_single : Reach → Bool
is_single Left = true
is_single Right = true
is_single Both = false

-- what is pending at each position
abbrev pub Pending : Type 0
Pending = ℕ → Option Reach

abbrev pub IsLeftAt : Option Reach → Type 0
IsLeftAt None = ⊥
IsLeftAt (Some r) = IsFromLeft r

abbrev pub IsRightAt : Option Reach → Type 0
IsRightAt None = ⊥
IsRightAt (Some r) = IsFromRight r

-- the walk came to the position from one side alone
abbrev pub IsSingle : Option Reach → Type 0
IsSingle None = ⊥
IsSingle (Some Left) = Unit {0}
IsSingle (Some Right) = Unit {0}
IsSingle (Some Both) = ⊥

abbrev pub pending_of : Frontier → Pending
pending_of f x = get nat_cmp f.reaches x

-- the single positions stand apart as well
abbrev pub IsMatched : Frontier → Type 0
IsMatched f = (x : ℕ) → (contains nat_cmp f.single x ≡ true) ↔ IsSingle (pending_of f x)

-- each pending position is below this one
abbrev pub IsBelow : Pending → ℕ → Type 0
IsBelow f at = (x : ℕ) → IsLeftAt (f x) ⊎ IsRightAt (f x) → x < at

-- the same, with one more position
abbrev pub with_position : Pending → ℕ → Reach → Pending
with_position f at reach x = cond (nat_eq at x) (Some reach) (f x)

-- The walk has left every position from `from` on; f is what is pending, and `left` and `right` are the
-- uncommon positions that it has found, the greatest first
pub record IsWalked (parents : ℕ → List ℕ) (a b low from : ℕ) (f : Pending) (left right : List ℕ) : Type 0 where
  pub left_ancestors : (x : ℕ) → IsLeftAt (f x) → IsAncestor parents x a
  pub right_ancestors : (x : ℕ) → IsRightAt (f x) → IsAncestor parents x b
  pub left_rest : (x : ℕ) → x < from → IsAncestor parents x a → (y : ℕ) × IsLeftAt (f y) × IsAncestor parents x y
  pub right_rest : (x : ℕ) → x < from → IsAncestor parents x b → (y : ℕ) × IsRightAt (f y) × IsAncestor parents x y
  pub single_reach : (x : ℕ) → IsSingle (f x) → low ≤ x
  pub left_found : (x : ℕ) → Contains left x ↔ ((from ≤ x) × IsUncommon parents a b x)
  pub right_found : (x : ℕ) → Contains right x ↔ ((from ≤ x) × IsUncommon parents b a x)

-- the greatest first, and none below `from`
pub record IsDescendingFrom (from : ℕ) (items : List ℕ) : Type 0 where
  pub descending : IsStrictlyIncreasing (reverse items)
  pub above : (x : ℕ) → Contains items x → from ≤ x

-- the left list with the position that the walk leaves, if it came there from the left alone
abbrev pub left_noted : Reach → List ℕ → ℕ → List ℕ
left_noted Left items at = items ++ at ∷ []
left_noted Right items at = items
left_noted Both items at = items

abbrev pub right_noted : Reach → List ℕ → ℕ → List ℕ
right_noted Left items at = items
right_noted Right items at = items ++ at ∷ []
right_noted Both items at = items

-- no position that is found is above this one
pub record AreUpTo (top : ℕ) (left right : List ℕ) : Type 0 where
  pub left_up_to : All (λ x. x ≤ top) left
  pub right_up_to : All (λ x. x ≤ top) right

-- all uncommon positions are found
pub record HasFound (parents : ℕ → List ℕ) (a b : ℕ) (left right : List ℕ) : Type 0 where
  pub left_found : (x : ℕ) → Contains left x ↔ IsUncommon parents a b x
  pub right_found : (x : ℕ) → Contains right x ↔ IsUncommon parents b a x

-- the walk stands at a position that it is about to leave
pub record StandsAt (parents : ℕ → List ℕ) (a b low at : ℕ) (reach : Reach) (f : Pending) (left right : List ℕ) : Type 0 where
  pub reach_at : low ≤ at
  pub walked : IsWalked parents a b low (suc at) (with_position f at reach) left right

-- the walk goes on at the position `next`, or has found all
abbrev pub IsUnderWay : (ℕ → List ℕ) → (a b low : ℕ) → Option (ℕ × Reach) → Pending → List ℕ → List ℕ → Type 0
IsUnderWay parents a b low None f left right = HasFound parents a b left right
IsUnderWay parents a b low (Some next) f left right = StandsAt parents a b low next.0 next.1 f left right

-- the lists are in order, and all that is pending is below the position where the walk stands
pub record IsInOrder (at : ℕ) (f : Pending) (left right : List ℕ) : Type 0 where
  pub below : IsBelow f at
  pub left_order : IsDescendingFrom (suc at) left
  pub right_order : IsDescendingFrom (suc at) right

abbrev pub IsOrderly : Option (ℕ × Reach) → Pending → List ℕ → List ℕ → Type 0
IsOrderly None f left right = IsStrictlyIncreasing (reverse left) × IsStrictlyIncreasing (reverse right)
IsOrderly (Some next) f left right = IsInOrder next.0 f left right

-- the next position is below this one
abbrev pub IsNextBelow : Option (ℕ × Reach) → ℕ → Type 0
IsNextBelow None at = Unit {0}
IsNextBelow (Some next) at = next.0 < at
