-- Where revisions stand, and what is above them.
use Rattle.std.specs.Prelude.{position, slice_get, ◌||◌}
use Rattle.std.specs.Option.{option_map_or}
use Rattle.std.specs.List.{position_or_len}
use Rattle.std.proofs.lemmas.Grind.{common_steps}
use Rattle.std.proofs.Common.{◌≡◌, ◌≤◌, ◌<◌, ℕ, zero, suc, Bool, true, false, List, [], ◌∷◌, length, get_or, Option, Some, None, refl, sym, ◌∙◌, ap, ◌⊎◌, inl, inr, arith}
use Rattle.std.proofs.lemmas.Option.{slice_get-get_or}
use Rattle.std.proofs.lemmas.List.Quantifiers.{position-Some}
use Rattle.std.proofs.lemmas.List.Sums.{fails_before_first}
use Rattle.std.proofs.lemmas.List.Folds.{list_any_at, Any-from_list_any}
use Rattle.mtn_base.specs.declared.id.Id.{Id}
use Rattle.mtn_base.specs.Names.{same_id}
use Rattle.mtn_ancestry.specs.Ancestors.{IsAncestor, itself, through, ParentsAreEarlier}
use Rattle.mtn_history_laws.specs.History.{Revision, parents_at, IsPlaceOf, TellsAncestors}
use Rattle.mtn_changeset_laws.specs.Laws.{IsFresh, PassesAncestors}
use Rattle.mtn_base.proofs.Tests.{same_id-is, same_id-self}
use Rattle.mtn_replay.specs.Making.{place_of, has_id, reaches, is_above}

-- a place within a list has an element
pub within : {X : Type 0} (xs : List X) (k : ℕ) → k < length xs → (x : X) × (slice_get xs k ≡ Some x)
within [] k lt = absurd (omega arith)
within (x ∷ xs) k lt = (get_or (x ∷ xs) k x, slice_get-get_or (x ∷ xs) k x lt)

pub inside : {X : Type 0} (xs : List X) (k : ℕ) (x : X) → slice_get xs k ≡ Some x → k < length xs
inside [] k x e = absurd cc
inside (y ∷ ys) zero x e = omega arith
inside (y ∷ ys) (suc k) x e = let lt = inside ys k x e in omega (arith, lt)

first_at : {X : Type 0} (p : X → Bool) (xs : List X) (k : ℕ) (x : X) → slice_get xs k ≡ Some x → p x ≡ true → position p xs ≡ None → ⊥
first_at p xs k x at passes none =
    let lt = inside xs k x at in
    let same : get_or xs k x ≡ x = grind (arith, common_steps, at, slice_get-get_or xs k x lt) in
    let all : length xs ≤ position_or_len p xs = grind (arith, common_steps) in
    let fails = fails_before_first p xs k x (omega (arith, lt, all)) in
    absurd (let t : true ≡ false = sym passes ∙ ap p (sym same) ∙ fails in cc)

-- the place of an id has it
pub place_has : (h : List Revision) (id : Id) (p : ℕ) → place_of h id ≡ Some p → IsPlaceOf h id p
place_has h id p e =
    let d : Revision = record { id = id; parents = []; tree = [] } in
    let f = position-Some (λ (r : Revision). same_id r.id id) h p d e in
    (get_or h p d, slice_get-get_or h p d f.0, same_id-is _ _ f.1)

pub place_within : (h : List Revision) (id : Id) (p : ℕ) → place_of h id ≡ Some p → p < length h
place_within h id p e = let f = position-Some (λ (r : Revision). same_id r.id id) h p (record { id = id; parents = []; tree = [] }) e in f.0

-- an id without a place stands nowhere
pub no_place : (h : List Revision) (id : Id) → place_of h id ≡ None → IsFresh h id
no_place h id e b at = first_at (λ (r : Revision). same_id r.id id) h b at.0 at.1 (ap (λ i. same_id i id) at.2 ∙ same_id-self id) e

has_place : (h : List Revision) (id : Id) (b : ℕ) → IsPlaceOf h id b → has_id h id b ≡ true
has_place h id b at = ap (λ o. option_map_or (λ (v : Revision). same_id v.id id) o false) at.1 ∙ ap (λ i. same_id i id) at.2 ∙ same_id-self id

first_true : (a b : Bool) → a ≡ true → (a || b) ≡ true
first_true a b e = ap (λ x. x || b) e

second_true : (a b : Bool) → b ≡ true → (a || b) ≡ true
second_true true b e = refl
second_true false b e = e

-- each ancestor is reached in as many steps as its revision's position
reaches_all : (h : List Revision) → ParentsAreEarlier (parents_at h) → (id : Id) (b r : ℕ) → IsPlaceOf h id b → IsAncestor (parents_at h) b r → (steps : ℕ) → r ≤ steps → reaches steps h id r ≡ true
reaches_all h earlier id b r at itself zero le = has_place h id b at
reaches_all h earlier id b r at itself (suc steps) le = first_true _ _ (has_place h id b at)
reaches_all h earlier id b r at (through {p = p} c above) zero le = absurd (let lt = earlier r p c in omega (arith, lt, le))
reaches_all h earlier id b r at (through {p = p} c above) (suc steps) le =
    let lt = earlier r p c in
    let there = reaches_all h earlier id b p at above steps (omega (arith, lt, le)) in
    second_true (has_id h id r) _ (list_any_at (reaches steps h id) (parents_at h r) c.0 p c.1 (ap (reaches steps h id) c.2 ∙ there))

-- so the test on a parent passes its ancestors
pub above_passes : (h : List Revision) → ParentsAreEarlier (parents_at h) → (parent : Id) (p : ℕ) → place_of h parent ≡ Some p → PassesAncestors h p (is_above h (Some parent))
above_passes h earlier parent p is i b at above =
    let lt = place_within h parent p is in
    ap (λ o. option_map_or (reaches (length h) h i) o false) is ∙ reaches_all h earlier i b p at above (length h) (omega (arith, lt))

has_is : (h : List Revision) (id : Id) (r : ℕ) → has_id h id r ≡ true → IsPlaceOf h id r
has_is h id r e = by (slice_get h r) refl e
  where
    by : (o : Option Revision) → slice_get h r ≡ o → option_map_or (λ (v : Revision). same_id v.id id) o false ≡ true → IsPlaceOf h id r
    by None is t = absurd cc
    by (Some v) is t = (v, is, same_id-is v.id id t)

either : (a b : Bool) → (a || b) ≡ true → (a ≡ true) ⊎ (b ≡ true)
either true b e = inl refl
either false b e = inr e

-- what is reached is an ancestor
reached : (h : List Revision) (id : Id) (steps r : ℕ) → reaches steps h id r ≡ true → (b : ℕ) × IsPlaceOf h id b × IsAncestor (parents_at h) b r
reached h id zero r e = (r, has_is h id r e, itself)
reached h id (suc steps) r e = elim (either (has_id h id r) _ e) [
  | inl here ↦ (r, has_is h id r here, itself)
  | inr up ↦ let c = Any-from_list_any (reaches steps h id) (parents_at h r) up in let d = reached h id steps c.1 c.4 in (d.0, d.1, through (c.0, c.2, c.3) d.2)
]

-- the test on a parent tells its ancestors
pub above_tells : (h : List Revision) → ParentsAreEarlier (parents_at h) → (parent : Id) (p : ℕ) → place_of h parent ≡ Some p → TellsAncestors h p (is_above h (Some parent))
above_tells h earlier parent p is i = (
  (λ t. reached h i (length h) p (sym (ap (λ o. option_map_or (reaches (length h) h i) o false) is) ∙ t)),
  λ c. above_passes h earlier parent p is i c.0 c.1 c.2,
)
