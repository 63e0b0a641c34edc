-- Lists in the order of a key. Our choice: what a list does not say in one way only, it says in rising order.
use Rattle.std.specs.Prelude.{◌↔◌, Bool, true, false, ◌&&◌, List, [], ◌∷◌, Option, Some, None, Contains}
use Rattle.std.specs.FinMap.Entries.{by_order}
use Rattle.std.specs.List.{list_all}
use Rattle.std.specs.List.Sorted.{IsStrictlySortedBy}
use Rattle.std.specs.declared.cmp.Ordering.{Ordering}
use Rattle.std.specs.Ordering.{is_lt}

-- there is a value, and it passes the test
abbrev pub is_some_with : {A : Type 0} → (A → Bool) → Option A → Bool
is_some_with test None = false
is_some_with test (Some a) = test a

-- the list with one more, in its place by keys, over an earlier one of its key
abbrev pub placed : {X K : Type 0} → (K → K → Ordering) → (X → K) → X → List X → List X
placed cmp key a [] = a ∷ []
placed cmp key a (b ∷ bs) = by_order (cmp (key a) (key b)) (a ∷ b ∷ bs) (a ∷ bs) (b ∷ placed cmp key a bs)

-- the elements in the order of their keys
abbrev pub ordered : {X K : Type 0} → (K → K → Ordering) → (X → K) → List X → List X
ordered cmp key [] = []
ordered cmp key (x ∷ xs) = placed cmp key x (ordered cmp key xs)

-- each key is above the one before it
abbrev pub rises : {K : Type 0} → (K → K → Ordering) → List K → Bool
rises cmp [] = true
rises cmp (k ∷ ks) = list_all (λ l. is_lt (cmp k l)) ks && rises cmp ks

-- exactly those with P, each once, in the order
pub record IsListOf {X : Type 0} (order : X → X → Ordering) (P : X → Type 0) (items : List X) : Type 0 where
  pub ascending : IsStrictlySortedBy order items
  pub exact : (x : X) → Contains items x ↔ P x
