-- The sets of ids and names, with one more.
use Rattle.std.proofs.Common.{◌≡◌, Bool, true, false, cond, List, [], ◌∷◌, ◌++◌, refl, sym, ap, ◌∙◌}
use Rattle.std.specs.Prelude.{◌||◌, not}
use Rattle.std.specs.List.{list_any}
use Rattle.std.specs.declared.cmp.Ordering.{Ordering}
use Rattle.std.proofs.lemmas.Bool.{not-true, not-false}
use Rattle.std.proofs.lemmas.List.Folds.{list_any-append}
use Rattle.std.specs.BTreeSet.{BTreeSet, contains, Updates}
use Rattle.std.specs.BTreeMap.{is_at}
use Rattle.mtn_certs.specs.declared.cert.KeyName.{KeyName}
use Rattle.mtn_certs.specs.KeyTables.{has_id_of, has_name_of, is_repeat}

or_swap : (a b : Bool) → cond a true b ≡ (b || (a || false))
or_swap true true = refl
or_swap true false = refl
or_swap false true = refl
or_swap false false = refl

-- the set has what the items have
abbrev pub Has : {X : Type 0} → (X → X → Ordering) → (KeyName → X) → BTreeSet X → List KeyName → Type 0
Has {X} cmp part set items = (x : X) → contains cmp set x ≡ list_any (λ k. is_at (cmp (part k)) x) items

pub taken : {X : Type 0} (cmp : X → X → Ordering) (part : KeyName → X) (items : List KeyName) (set : BTreeSet X) (x : X) (fresh : Bool) → Has cmp part set items → fresh ≡ not (contains cmp set x) → fresh ≡ false → list_any (λ k. is_at (cmp (part k)) x) items ≡ true
taken cmp part items set x fresh has added old = sym (has x) ∙ not-false (contains cmp set x) (sym added ∙ old)

pub not_taken : {X : Type 0} (cmp : X → X → Ordering) (part : KeyName → X) (items : List KeyName) (set : BTreeSet X) (x : X) (fresh : Bool) → Has cmp part set items → fresh ≡ not (contains cmp set x) → fresh ≡ true → list_any (λ k. is_at (cmp (part k)) x) items ≡ false
not_taken cmp part items set x fresh has added new = sym (has x) ∙ not-true (contains cmp set x) (sym added ∙ new)

pub one_more : {X : Type 0} (cmp : X → X → Ordering) (part : KeyName → X) (items : List KeyName) (old new : BTreeSet X) (k : KeyName) (x : X) → x ≡ part k → Has cmp part old items → Updates cmp old new x true → Has cmp part new (items ++ k ∷ [])
one_more cmp part items old new k x is has updates y =
    updates.0 y
    ∙ ap (λ z. cond (is_at (cmp z) y) true (contains cmp old y)) is
    ∙ ap (λ (b : Bool). cond (is_at (cmp (part k)) y) true b) (has y)
    ∙ or_swap (is_at (cmp (part k)) y) (list_any (λ d. is_at (cmp (part d)) y) items)
    ∙ sym (list_any-append (λ d. is_at (cmp (part d)) y) items (k ∷ []))

or_left : (a b : Bool) → a ≡ true → (a || b) ≡ true
or_left true b h = refl
or_left false b h = absurd cc

or_right : (a b : Bool) → b ≡ true → (a || b) ≡ true
or_right true b h = refl
or_right false b h = h

or_none : (a b : Bool) → a ≡ false → b ≡ false → (a || b) ≡ false
or_none true b h g = h
or_none false b h g = g

pub by_the_id : (items : List KeyName) (k : KeyName) → list_any (has_id_of k) items ≡ true → is_repeat items k ≡ true
by_the_id items k h = or_left (list_any (has_id_of k) items) (list_any (has_name_of k) items) h

pub by_the_name : (items : List KeyName) (k : KeyName) → list_any (has_name_of k) items ≡ true → is_repeat items k ≡ true
by_the_name items k h = or_right (list_any (has_id_of k) items) (list_any (has_name_of k) items) h

pub by_neither : (items : List KeyName) (k : KeyName) → list_any (has_id_of k) items ≡ false → list_any (has_name_of k) items ≡ false → is_repeat items k ≡ false
by_neither items k h g = or_none (list_any (has_id_of k) items) (list_any (has_name_of k) items) h g
