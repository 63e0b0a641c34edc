-- The marks of one scalar over a graph: each position has parents and, where the scalar is there, a value.
use Rattle.std.specs.Prelude.{◌≡◌, ◌≢◌, ℕ, List, Option, Some, None, Contains}
use Rattle.mtn_ancestry.specs.Ancestors.{IsAncestor}

-- the value was set by an event at r
pub data IsMarked (V : Type 0) (parents : ℕ → List ℕ) (value : ℕ → Option V) : ℕ → Type 0 where
  -- no parent has the scalar
  fresh : {r : ℕ} {v : V} → value r ≡ Some v →
      ((p : ℕ) → Contains (parents r) p → value p ≡ None) →
      IsMarked V parents value r
  -- the value differs from that of every parent that has the scalar
  changed : {r : ℕ} {v : V} → value r ≡ Some v →
      ((p : ℕ) (w : V) → Contains (parents r) p → value p ≡ Some w → v ≢ w) →
      IsMarked V parents value r
  -- two parents have it, r keeps q's value against p's, and p has an event that q does not know
  chosen : {r p q m : ℕ} {v w : V} → value r ≡ Some v →
      Contains (parents r) p → Contains (parents r) q →
      value q ≡ Some v → value p ≡ Some w → v ≢ w →
      IsAncestor parents m p → ¬ IsAncestor parents m q → IsMarked V parents value m →
      IsMarked V parents value r

-- x is marked, and a path of parent steps leads from r to x, with r's value at each member
-- and only unmarked members before x
pub data IsMarkOf (V : Type 0) (parents : ℕ → List ℕ) (value : ℕ → Option V) : ℕ → ℕ → Type 0 where
  here : {x : ℕ} → IsMarked V parents value x → IsMarkOf V parents value x x
  onward : {r p x : ℕ} → ¬ IsMarked V parents value r → Contains (parents r) p →
      value p ≡ value r → IsMarkOf V parents value p x → IsMarkOf V parents value r x

-- a knows each event of b
abbrev pub Wins : (V : Type 0) (parents : ℕ → List ℕ) (value : ℕ → Option V) → ℕ → ℕ → Type 0
Wins V parents value a b = (m : ℕ) → IsAncestor parents m b → IsMarked V parents value m → IsAncestor parents m a

-- a scalar that r has and its parent p lacks was nowhere before p
abbrev pub NeverComesBack : (V : Type 0) (parents : ℕ → List ℕ) (value : ℕ → Option V) → Type 0
NeverComesBack V parents value =
    (r p m : ℕ) (v w : V) → Contains (parents r) p → value r ≡ Some v → value p ≡ None →
    IsAncestor parents m p → value m ≡ Some w → ⊥
