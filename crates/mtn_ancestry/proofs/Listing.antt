-- The flagged positions, listed from the least on.
use Rattle.std.specs.Prelude.{Contains}
use Rattle.std.specs.List.Sorted.{IsStrictlyIncreasing}
use Rattle.std.proofs.Common.{◌↔◌, ℕ, ◌+◌, ◌<◌, ◌≤◌, List, [], ◌∷◌, ◌++◌, Bool, length, get_or, sym, arith, subst, ⊎_elim}
use Rattle.std.proofs.Math.Decide.{ℕ_discrete}
use Rattle.std.proofs.lemmas.List.Elements.{Contains-push, Contains-append_left, Contains-push_cases, Contains-get_or}
use Rattle.std.proofs.lemmas.Grind.{common_steps}
use Rattle.mtn_ancestry.specs.Sets.{IsFlagged, IsAscendingListOf}
use Rattle.mtn_ancestry.proofs.Flagging.{flag_within}

pub increasing_push : (xs : List ℕ) (y : ℕ) → IsStrictlyIncreasing xs → ((x : ℕ) → Contains xs x → x < y) → IsStrictlyIncreasing (xs ++ y ∷ [])
increasing_push xs y inc below k h =
    let at_end : k < length xs → get_or xs k 0 < y = λ g. below (get_or xs k 0) (Contains-get_or xs k 0 g) in
    let before : k + 1 < length xs → get_or xs k 0 < get_or xs (k + 1) 0 = inc k in
    grind (arith, common_steps)

-- what the loop over the flags has listed before position n
pub record IsListedBelow (flags : List Bool) (n : ℕ) (xs : List ℕ) : Type 0 where
  pub ascending : IsStrictlyIncreasing xs
  pub exact : (x : ℕ) → Contains xs x ↔ (x < n) × IsFlagged flags x

pub listed_none : (flags : List Bool) → IsListedBelow flags 0 []
listed_none flags = record { ascending = λ k h. omega (arith, h); exact = λ x. (λ c. absurd (omega (arith, c.1)), λ p. absurd (omega (arith, p.0))) }

pub listed_skip : (flags : List Bool) (n : ℕ) (xs : List ℕ) → IsListedBelow flags n xs → ¬ IsFlagged flags n → IsListedBelow flags (n + 1) xs
listed_skip flags n xs l not = record {
  ascending = l.ascending;
  exact = λ x. (
    λ c. let h = (l.exact x).0 c in (omega (arith, h.0), h.1),
    λ p. elim (ℕ_discrete x n) [ yes e ↦ absurd (not (subst (IsFlagged flags) e p.1)) | no ne ↦ (l.exact x).1 (let h : x < n + 1 = p.0 in omega arith, p.1) ],
  );
}

pub listed_push : (flags : List Bool) (n : ℕ) (xs : List ℕ) → IsListedBelow flags n xs → IsFlagged flags n → IsListedBelow flags (n + 1) (xs ++ n ∷ [])
listed_push flags n xs l is = record {
  ascending = increasing_push xs n l.ascending (λ x c. ((l.exact x).0 c).0);
  exact = λ x. (
    λ c. ⊎_elim (λ d. let h = (l.exact x).0 d in (omega (arith, h.0), h.1)) (λ e. (omega (arith, e), subst (IsFlagged flags) e is)) (Contains-push_cases xs n x c),
    λ p. elim (ℕ_discrete x n) [
      | yes e ↦ subst (Contains (xs ++ n ∷ [])) (sym e) (Contains-push xs n)
      | no ne ↦ Contains-append_left xs (n ∷ []) x ((l.exact x).1 (let h : x < n + 1 = p.0 in omega arith, p.1))
    ],
  );
}

pub listed_all : (flags : List Bool) (n : ℕ) (xs : List ℕ) → length flags ≤ n → IsListedBelow flags n xs → IsAscendingListOf (IsFlagged flags) xs
listed_all flags n xs h l = record {
  ascending = l.ascending;
  exact = λ x. (λ c. ((l.exact x).0 c).1, λ f. (l.exact x).1 (omega (arith, flag_within flags x f), f));
}
