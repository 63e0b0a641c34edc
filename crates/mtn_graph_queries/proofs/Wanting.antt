-- Positions listed by what is wanted, and without what is not.
use Rattle.std.specs.Prelude.{Contains, take}
use Rattle.std.specs.List.Sorted.{IsStrictlyIncreasing}
use Rattle.std.proofs.Common.{◌≡◌, ◌↔◌, ◌<◌, ◌+◌, ◌≤◌, ◌⊎◌, inl, inr, ◌++◌, ℕ, List, [], ◌∷◌, length, get_or, sym, ap, ◌∙◌, subst, ⊎_elim, arith}
use Rattle.std.proofs.Math.Decide.{ℕ_discrete}
use Rattle.std.proofs.lemmas.List.Kept.{AllPairs-from_increasing}
use Rattle.std.proofs.lemmas.List.{take_more, length-take-le, get_or-take, get_or_default, take_all}
use Rattle.std.proofs.lemmas.Option.{slice_get-get_or}
use Rattle.mtn_ancestry.specs.Log.{entry_parents, list_of, parents_of}
use Rattle.mtn_ancestry.specs.Sets.{IsAscendingListOf}
use Rattle.mtn_ancestry.specs.declared.pos.LogEntry.{LogEntry}
use Rattle.mtn_ancestry.specs.declared.pos.ParentList.{ParentList}
use Rattle.mtn_ancestry.proofs.Listing.{increasing_push}
use Rattle.mtn_base.proofs.IdOrder.{contains_nil}
use Rattle.std.proofs.lemmas.List.Elements.{Contains-push, Contains-append_left, Contains-push_cases}

-- exactly the positions below n with P
abbrev pub ListsBelow : (ℕ → Type 0) → ℕ → List ℕ → Type 0
ListsBelow P n found = (x : ℕ) → Contains found x ↔ ((x < n) × P x)

pub lists_none : (P : ℕ → Type 0) → ListsBelow P 0 []
lists_none P x = (λ c. absurd (omega (arith, c.1)), λ p. absurd (omega (arith, p.0)))

pub lists_skip : (P : ℕ → Type 0) (n : ℕ) (found : List ℕ) → ListsBelow P n found → ¬ P n → ListsBelow P (n + 1) found
lists_skip P n found l isnt x = (
  λ c. let h = (l x).0 c in (omega (arith, h.0), h.1),
  λ p. elim (ℕ_discrete x n) [ yes e ↦ absurd (isnt (subst P e p.1)) | no ne ↦ (l x).1 (let h : x < n + 1 = p.0 in omega arith, p.1) ],
)

pub lists_push : (P : ℕ → Type 0) (n : ℕ) (found : List ℕ) → ListsBelow P n found → P n → ListsBelow P (n + 1) (found ++ n ∷ [])
lists_push P n found l is x = (
  λ c. ⊎_elim (λ d. let h = (l x).0 d in (omega (arith, h.0), h.1)) (λ e. (omega (arith, e), subst P e is)) (Contains-push_cases found n x c),
  λ p. elim (ℕ_discrete x n) [
    | yes e ↦ subst (Contains (found ++ n ∷ [])) (sym e) (Contains-push found n)
    | no ne ↦ Contains-append_left found (n ∷ []) x ((l x).1 (let h : x < n + 1 = p.0 in omega arith, p.1))
  ],
)

pub lists_all : (P : ℕ → Type 0) (n long : ℕ) (found : List ℕ) → n ≡ long → ListsBelow P n found → (x : ℕ) → Contains found x ↔ ((x < long) × P x)
lists_all P n long found same l = subst (λ m. ListsBelow P m found) same l

-- the parents that were read of the log
pub parents_here : (log xs : List LogEntry) (at k : ℕ) (d : LogEntry) (ps : ParentList) → xs ≡ log → k ≡ at → at < length log → (get_or xs k d).parents ≡ ps → parents_of log at ≡ list_of ps
parents_here log xs at k d ps same here lt is =
    ap entry_parents (slice_get-get_or log at d lt) ∙ ap (λ (l : List LogEntry). list_of (get_or l at d).parents) (sym same) ∙ ap (λ j. list_of (get_or xs j d).parents) (sym here) ∙ ap list_of is

front_below : (i : ℕ) (all : List ℕ) (x : ℕ) → i < length all → (c : Contains (take i all) x) → c.0 < i
front_below i all x lt c = let le = length-take-le i all (omega arith) in omega (arith, c.1, le)

front_is : (i : ℕ) (all : List ℕ) (x : ℕ) → i < length all → (c : Contains (take i all) x) → get_or all c.0 x ≡ x
front_is i all x lt c = sym (get_or-take i all c.0 x (front_below i all x lt c)) ∙ c.2

-- of the first i of a list, those in neither of two others
pub record Leaves (all some others : List ℕ) (i : ℕ) (found : List ℕ) : Type 0 where
  pub ascending : IsStrictlyIncreasing found
  pub exact : (x : ℕ) → Contains found x ↔ (Contains (take i all) x × ¬ Contains some x × ¬ Contains others x)

module _ (all some others : List ℕ) (up : IsStrictlyIncreasing all) where
  pub leaves_none : Leaves all some others 0 []
  leaves_none = record { ascending = λ k h. omega (arith, h); exact = λ x. (λ c. absurd (contains_nil c), λ p. absurd (contains_nil p.0)) }

  next_cases : (i x n : ℕ) → i < length all → n ≡ get_or all i n → Contains (take (i + 1) all) x → Contains (take i all) x ⊎ (n ≡ x)
  next_cases i x n lt is c = ⊎_elim inl (λ e. inr (is ∙ e)) (Contains-push_cases (take i all) (get_or all i n) x (subst (λ xs. Contains xs x) (take_more all i n lt) c))

  sooner : (i x n : ℕ) → i < length all → Contains (take i all) x → Contains (take (i + 1) all) x
  sooner i x n lt c = subst (λ xs. Contains xs x) (sym (take_more all i n lt)) (Contains-append_left (take i all) (get_or all i n ∷ []) x c)

  here : (i n : ℕ) → i < length all → n ≡ get_or all i n → Contains (take (i + 1) all) n
  here i n lt is = subst (λ xs. Contains xs n) (sym (take_more all i n lt)) (subst (λ y. Contains (take i all ++ y ∷ []) n) is (Contains-push (take i all) n))

  later : (i x n : ℕ) → i < length all → Contains (take i all) x → n ≡ get_or all i n → x < n
  later i x n lt c is =
      let k : c.0 < i = front_below i all x lt c in
      let at : get_or all c.0 x ≡ x = front_is i all x lt c in
      let le : get_or all c.0 n < get_or all i n = AllPairs-from_increasing all up c.0 i n k lt in
      let same : get_or all c.0 n ≡ x = get_or_default all c.0 n x (omega (arith, k, lt)) ∙ at in
      subst (λ m. m < n) same (subst (λ m. get_or all c.0 n < m) (sym is) le)

  pub leaves_skip : (i n : ℕ) (found : List ℕ) → i < length all → n ≡ get_or all i n → (¬ Contains some n → ¬ Contains others n → ⊥) → Leaves all some others i found → Leaves all some others (i + 1) found
  leaves_skip i n found lt is out so_far = record {
    ascending = so_far.ascending;
    exact = λ x. (
      λ c. let e = (so_far.exact x).0 c in (sooner i x n lt e.0, e.1, e.2),
      λ p. ⊎_elim (λ d. (so_far.exact x).1 (d, p.1, p.2)) (λ e. absurd (out (subst (λ y. ¬ Contains some y) (sym e) p.1) (subst (λ y. ¬ Contains others y) (sym e) p.2))) (next_cases i x n lt is p.0),
    );
  }

  pub leaves_push : (i n : ℕ) (found : List ℕ) → i < length all → n ≡ get_or all i n → ¬ Contains some n → ¬ Contains others n → Leaves all some others i found → Leaves all some others (i + 1) (found ++ n ∷ [])
  leaves_push i n found lt is out_some out_others so_far = record {
    ascending = increasing_push found n so_far.ascending (λ x c. later i x n lt ((so_far.exact x).0 c).0 is);
    exact = λ x. (
      λ c. ⊎_elim (λ d. let e = (so_far.exact x).0 d in (sooner i x n lt e.0, e.1, e.2)) (λ e. subst (λ y. Contains (take (i + 1) all) y × ¬ Contains some y × ¬ Contains others y) e (here i n lt is, out_some, out_others)) (Contains-push_cases found n x c),
      λ p. ⊎_elim (λ d. Contains-append_left found (n ∷ []) x ((so_far.exact x).1 (d, p.1, p.2))) (λ e. subst (Contains (found ++ n ∷ [])) e (Contains-push found n)) (next_cases i x n lt is p.0),
    );
  }

  pub leaves_all : (i : ℕ) (found : List ℕ) → length all ≤ i → Leaves all some others i found → IsAscendingListOf (λ x. Contains all x × ¬ Contains some x × ¬ Contains others x) found
  leaves_all i found le so_far = record {
    ascending = so_far.ascending;
    exact = λ x. (
      λ c. let e = (so_far.exact x).0 c in (subst (λ l. Contains l x) (take_all i all le) e.0, e.1, e.2),
      λ p. (so_far.exact x).1 (subst (λ l. Contains l x) (sym (take_all i all le)) p.0, p.1, p.2),
    );
  }
