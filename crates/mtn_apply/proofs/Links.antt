-- The links from each edit to the next of the same node.
use Rattle.std.specs.Prelude.{slice_get}
use Rattle.mtn_apply.specs.Maps.{of_name}
use Rattle.std.proofs.Common.{◌≡◌, ℕ, zero, suc, ◌+◌, ◌<◌, ◌≤◌, Bool, true, cond, List, [], ◌∷◌, length, get_or, set, Option, Some, None, refl, sym, ◌∙◌, ap, arith, inl, inr}
use Rattle.std.proofs.lemmas.Bool.{cases_lt}
use Rattle.std.proofs.lemmas.Option.{slice_get-get_or}
use Rattle.mtn_base.specs.Names.{same_name}
use Rattle.mtn_base.specs.declared.id.Id.{Id}
use Rattle.mtn_base.specs.declared.name.NodeName.{NodeName}
use Rattle.mtn_roster.specs.Tree.{Tree}
use Rattle.mtn_base.specs.Lists.{is_some_with}
use Rattle.mtn_changes.specs.declared.change.Change.{Change}
use Rattle.mtn_apply.specs.Edits.{touches, next_edit}
use Rattle.mtn_apply.proofs.Positions.{one_before, none_left}

pub get-set_at : {X : Type 0} (xs : List X) (i : ℕ) (y : X) → i < length xs → slice_get (set xs i y) i ≡ Some y
get-set_at [] i y h = absurd (omega (arith, h))
get-set_at (x ∷ xs) zero y h = refl
get-set_at (x ∷ xs) (suc i) y h = get-set_at xs i y (omega (arith, h))

pub get-set_other : {X : Type 0} (xs : List X) (i k : ℕ) (y : X) → (k ≡ i → ⊥) → slice_get (set xs i y) k ≡ slice_get xs k
get-set_other [] i k y ne = refl
get-set_other (x ∷ xs) zero zero y ne = absurd (ne refl)
get-set_other (x ∷ xs) zero (suc k) y ne = refl
get-set_other (x ∷ xs) (suc i) zero y ne = refl
get-set_other (x ∷ xs) (suc i) (suc k) y ne = get-set_other xs i k y (λ e. ne (ap suc e))

pub get_in : {X : Type 0} (xs : List X) (k : ℕ) (x : X) → slice_get xs k ≡ Some x → k < length xs
get_in [] k x h = absurd cc
get_in (y ∷ xs) zero x h = omega arith
get_in (y ∷ xs) (suc k) x h = omega (arith, get_in xs k x h)

module _ (old : Tree) (all : List Change) (new : Id) where
  -- the links among the changes from a position on
  pub record AreLinks (left : ℕ) (first : List (NodeName × ℕ)) (next : List (Option ℕ)) : Type 0 where
    pub within : left ≤ length all
    pub long : length next ≡ length all
    pub first_is : (n : NodeName) → of_name first n ≡ next_edit old all new n left
    pub next_is : (n : NodeName) (k : ℕ) (c : Change) → left ≤ k → slice_get all k ≡ Some c → touches old all new n c ≡ true → slice_get next k ≡ Some (next_edit old all new n (k + 1))

  pub no_links : (first : List (NodeName × ℕ)) (next : List (Option ℕ)) → ((n : NodeName) → of_name first n ≡ None) → length next ≡ length all → AreLinks (length all) first next
  no_links first next none long = record {
    within = omega arith;
    long = long;
    first_is = λ n. none n ∙ sym (none_left (touches old all new n) all);
    next_is = λ n k c le is hit. absurd (omega (arith, get_in all k c is));
  }

  pub one_link : (left k : ℕ) (first first' : List (NodeName × ℕ)) (next next' : List (Option ℕ)) (x : Change) (name : Option NodeName) → AreLinks left first next → k + 1 ≡ left → x ≡ get_or all k x →
      ((n : NodeName) → touches old all new n x ≡ is_some_with (λ m. same_name m n) name) →
      ((n : NodeName) → of_name first' n ≡ cond (is_some_with (λ m. same_name m n) name) (Some k) (of_name first n)) → length next' ≡ length next →
      ((n : NodeName) → is_some_with (λ m. same_name m n) name ≡ true → slice_get next' k ≡ Some (of_name first n)) → ((j : ℕ) → (j ≡ k → ⊥) → slice_get next' j ≡ slice_get next j) → AreLinks k first' next'
  one_link left k first first' next next' x name was e is hits firsts long here others = record {
    within = omega (arith, was.within);
    long = long ∙ was.long;
    first_is = λ n.
        firsts n
        ∙ ap (λ (b : Bool). cond b (Some k) (of_name first n)) (sym (hits n))
        ∙ ap (cond (touches old all new n x) (Some k)) (was.first_is n)
        ∙ sym (one_before (touches old all new n) all left k x e low is);
    next_is = λ n j c le at hit. elim (cases_lt k j) [
      | inl lt ↦ others j (λ q. absurd (omega (arith, q, lt))) ∙ was.next_is n j c (omega (arith, lt, e)) at hit
      | inr ge ↦
          let same : j ≡ k = omega (arith, le, ge) in
          let held : slice_get all k ≡ Some x = slice_get-get_or all k x low ∙ ap Some (sym is) in
          let one : c ≡ x = (let a = sym at ∙ ap (slice_get all) same ∙ held in cc) in
          let hit' : is_some_with (λ m. same_name m n) name ≡ true = sym (hits n) ∙ ap (touches old all new n) (sym one) ∙ hit in
          ap (slice_get next') same ∙ here n hit' ∙ ap Some (was.first_is n ∙ ap (next_edit old all new n) (omega (arith, e, same)))
    ];
  }
    where
      low : k < length all
      low = omega (arith, e, was.within)
