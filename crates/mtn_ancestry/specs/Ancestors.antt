-- The ancestors of a revision, over a graph that gives the parents of each position of the log.
use Rattle.std.specs.Prelude.{ℕ, ◌<◌, ◌≤◌, ◌⊎◌, ◌≢◌, List, Contains}

-- x is an ancestor of r: it is r itself, or an ancestor of one of r's parents
pub data IsAncestor (parents : ℕ → List ℕ) (x : ℕ) : ℕ → Type 0 where
  itself : IsAncestor parents x x
  through : {r p : ℕ} → Contains (parents r) p → IsAncestor parents x p → IsAncestor parents x r

-- an ancestor other than r itself
abbrev pub IsProperAncestor : (ℕ → List ℕ) → ℕ → ℕ → Type 0
IsProperAncestor parents x r = (x ≢ r) × IsAncestor parents x r

-- a revision is accepted only after its parents, so each stands before its child
abbrev pub ParentsAreEarlier : (ℕ → List ℕ) → Type 0
ParentsAreEarlier parents = (r p : ℕ) → Contains (parents r) p → p < r

-- x is an ancestor of a and none of b
abbrev pub IsUncommon : (ℕ → List ℕ) → ℕ → ℕ → ℕ → Type 0
IsUncommon parents a b x = IsAncestor parents x a × ¬ IsAncestor parents x b

-- the positions from `low` on hold every uncommon revision of a and b, and every parent of one
pub record ReachesFrom (parents : ℕ → List ℕ) (a b low : ℕ) : Type 0 where
  pub uncommon : (x : ℕ) → IsUncommon parents a b x ⊎ IsUncommon parents b a x → low ≤ x
  pub parent : (x p : ℕ) → IsUncommon parents a b x ⊎ IsUncommon parents b a x → Contains (parents x) p → low ≤ p
