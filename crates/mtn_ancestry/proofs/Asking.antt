-- A walk over a graph that is asked, from question to question.
use Rattle.std.specs.Prelude.{max}
use Rattle.std.proofs.Common.{ℕ, suc, ◌+◌, ◌-◌, ◌<◌, ◌≤◌, List, Option, Some, None, sym, arith, subst}
use Rattle.mtn_ancestry.specs.Ancestors.{ParentsAreEarlier, ReachesFrom}
use Rattle.mtn_ancestry.specs.declared.frontier.Reach.{Reach}
use Rattle.mtn_ancestry.specs.declared.frontier.Reach.TheVariants.{Left, Right, Both}
use Rattle.mtn_ancestry.specs.Walking.{Pending, IsLeftAt, IsRightAt, StandsAt, IsUnderWay, IsOrderly, IsNextBelow}
use Rattle.mtn_ancestry.proofs.Ancestry.{IsAncestor-le}
use Rattle.mtn_ancestry.proofs.Walks.{with_here}

abbrev pub steps_left : Option (ℕ × Reach) → ℕ
steps_left None = 0
steps_left (Some next) = suc next.0

-- so many questions were asked at most: one for each position from the greater down to the next
abbrev pub IsSpent : (spent bound low : ℕ) → Option (ℕ × Reach) → Type 0
IsSpent spent bound low None = spent ≤ bound - low
IsSpent spent bound low (Some next) = spent + suc next.0 ≤ bound

pub record IsAsking (S : Type 0) (tells : S → ℕ → (ℕ → List ℕ) → Type 0) (asked : S → ℕ) (stays : S → S → Type 0)
    (start now : S) (left right : ℕ) (next : Option (ℕ × Reach)) (f : Pending) (found_left found_right : List ℕ) : Type 0 where
  pub order : IsOrderly next f found_left found_right
  pub same : (count : ℕ) (parents : ℕ → List ℕ) → tells now count parents → tells start count parents
  pub stayed : stays start now
  pub walked : (count : ℕ) (parents : ℕ → List ℕ) (low : ℕ) → tells now count parents → ReachesFrom parents left right low →
      IsUnderWay parents left right low next f found_left found_right
  pub spent : (count : ℕ) (parents : ℕ → List ℕ) (low : ℕ) → tells now count parents → ReachesFrom parents left right low →
      IsSpent (asked now - asked start) (max left right + 1) low next

pub anywhere : (parents : ℕ → List ℕ) (a b : ℕ) → ReachesFrom parents a b 0
anywhere parents a b = record { uncommon = λ x s. omega arith; parent = λ x p s c. omega arith }

-- the position where a walk stands is at most the greater of the two
pub stands_within : (parents : ℕ → List ℕ) → ParentsAreEarlier parents → (a b low at count : ℕ) (r : Reach) (f : Pending) (left right : List ℕ) →
    StandsAt parents a b low at r f left right → a < count → b < count → at < count
stands_within parents early a b low at count Left f left right s h k =
    omega (arith, IsAncestor-le early (s.walked.left_ancestors at (subst IsLeftAt (sym (with_here f at Left)) tt)))
stands_within parents early a b low at count Right f left right s h k =
    omega (arith, IsAncestor-le early (s.walked.right_ancestors at (subst IsRightAt (sym (with_here f at Right)) tt)))
stands_within parents early a b low at count Both f left right s h k =
    omega (arith, IsAncestor-le early (s.walked.left_ancestors at (subst IsLeftAt (sym (with_here f at Both)) tt)))

pub next_under : (at top : ℕ) (next : Option (ℕ × Reach)) → IsNextBelow next at → at < top → IsNextBelow next top
next_under at top None n h = tt
next_under at top (Some p) n h = omega (arith, n, h)

-- one more question leaves the bound kept
pub spent_after : (spent more bound low at : ℕ) → spent + suc at ≤ bound → low ≤ at → more ≤ spent + 1 → more ≤ bound - low
spent_after spent more bound low at h k m = omega arith

pub spent_next : (spent more bound low at : ℕ) (next : Option (ℕ × Reach)) → spent + suc at ≤ bound → low ≤ at → more ≤ spent + 1 → IsNextBelow next at → IsSpent more bound low next
spent_next spent more bound low at None h k m n = omega arith
spent_next spent more bound low at (Some p) h k m n = omega arith
