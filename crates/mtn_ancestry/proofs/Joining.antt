-- Words of flags.
use Rattle.std.specs.Prelude.{Contains}
use Rattle.std.proofs.Common.{◌≡◌, ◌↔◌, ℕ, ◌+◌, ◌-◌, ◌^◌, ◌<◌, ◌≤◌, ◌⊎◌, List, [], ◌∷◌, length, length-drop, length-take, get_or, take, drop, set, bit_or, sym, ◌∙◌, ap, inl, inr, arith, subst, ⊎_elim, get_or-set_same, get_or-set_other}
use Rattle.std.specs.Int.{bit_at, trailing_ones, w64}
use Rattle.std.specs.Int.Count.{trailing_of_zero}
use Rattle.std.proofs.Math.Decide.{ℕ_discrete}
use Rattle.std.proofs.Math.ListN.{get_or-eq_default}
use Rattle.std.proofs.lemmas.Bool.{cases_lt}
use Rattle.std.proofs.lemmas.List.{get_or-take, get_or-drop}
use Rattle.std.proofs.lemmas.Nat.Bits.{bit_at-lt, bit_at-zero, bit_at_or, bit_at_ones, bit_at-pow_same, bit_at-pow_other, bit_at-trailing_ones}
use Rattle.mtn_ancestry.specs.Sets.{HasFlag, IsFlaggedIn}
use Rattle.mtn_ancestry.proofs.Members.{Contains-nil, Contains-cases, Contains-head, Contains-later}

or_flags : (a b j : ℕ) → HasFlag (bit_or a b) j ↔ (HasFlag a j ⊎ HasFlag b j)
or_flags a b j = (
  λ h. elim (ℕ_discrete (bit_at a j) 1) [ yes p ↦ inl p | no n ↦ inr (omega (arith, bit_at_or a b j, bit_at-lt a j, bit_at-lt b j)) ],
  ⊎_elim (λ p. omega (arith, bit_at_or a b j, bit_at-lt b j)) (λ q. omega (arith, bit_at_or a b j, bit_at-lt a j)),
)

none_is_one : {n : ℕ} → n ≡ 0 → n ≡ 1 → ⊥
none_is_one e h = omega arith

no_flag : (j : ℕ) → ¬ HasFlag 0 j
no_flag j = none_is_one (bit_at-zero j)

-- what is in a set is among the positions
pub set_within : (words : List ℕ) (j x : ℕ) → IsFlaggedIn words j x → x < length words
set_within words j x f =
    ⊎_elim (λ l. l) (λ g. absurd (no_flag j (subst (λ w. HasFlag w j) (get_or-eq_default words 0 g) f))) (cases_lt x (length words))

pub one_flag : (k j : ℕ) → HasFlag (2 ^ k) j ↔ (j ≡ k)
one_flag k j =
    elim (ℕ_discrete j k) [
      | yes e ↦ (λ h. e, λ d. subst (HasFlag (2 ^ k)) (sym e) (bit_at-pow_same k))
      | no n ↦ (λ h. absurd (none_is_one (bit_at-pow_other k j n) h), λ e. absurd (n e))
    ]

-- the word of a position has the flags of one more word
pub joined : (words : List ℕ) (i w j x : ℕ) → i < length words →
    IsFlaggedIn (set words i (bit_or (get_or words i 0) w)) j x ↔ (IsFlaggedIn words j x ⊎ ((i ≡ x) × HasFlag w j))
joined words i w j x h =
    let both = bit_or (get_or words i 0) w in
    let o = or_flags (get_or words i 0) w j in
    elim (ℕ_discrete x i) [
      | yes e ↦
          let here : get_or (set words i both) x 0 ≡ both = subst (λ y. get_or (set words i both) y 0 ≡ both) (sym e) (get_or-set_same words i both 0 h) in (
            λ f. ⊎_elim (λ p. inl (subst (IsFlaggedIn words j) (sym e) p)) (λ q. inr (sym e, q)) (o.0 (subst (λ n. HasFlag n j) here f)),
            λ t. subst (λ n. HasFlag n j) (sym here) (o.1 (⊎_elim (λ p. inl (subst (IsFlaggedIn words j) e p)) (λ q. inr q.1) t)),
          )
      | no n ↦
          let other : get_or (set words i both) x 0 ≡ get_or words x 0 = get_or-set_other words i x both 0 n in (
            λ f. inl (subst (λ v. HasFlag v j) other f),
            ⊎_elim (λ p. subst (λ v. HasFlag v j) (sym other) p) (λ q. absurd (n (sym q.0))),
          )
    ]

pub joined_one : (Old New Word : Type 0) (p x : ℕ) → New ↔ (Old ⊎ ((p ≡ x) × Word)) → New ↔ (Old ⊎ (Contains (p ∷ []) x × Word))
joined_one Old New Word p x one = (
  λ f. ⊎_elim inl (λ t. inr (subst (Contains (p ∷ [])) t.0 (Contains-head p []), t.1)) (one.0 f),
  λ s. one.1 (⊎_elim inl (λ t. inr (⊎_elim (λ d. d) (λ d. absurd (Contains-nil d)) (Contains-cases p [] x t.0), t.1)) s),
)

pub joined_two : (Old Mid New Word : Type 0) (p q x : ℕ) → Mid ↔ (Old ⊎ ((p ≡ x) × Word)) → New ↔ (Mid ⊎ ((q ≡ x) × Word)) → New ↔ (Old ⊎ (Contains (p ∷ q ∷ []) x × Word))
joined_two Old Mid New Word p q x one two =
    let first = joined_one Old Mid Word p x one in
    let second = joined_one Mid New Word q x two in (
      λ f. ⊎_elim (λ m. ⊎_elim inl (λ t. inr (⊎_elim (λ e. subst (Contains (p ∷ q ∷ [])) e (Contains-head p (q ∷ []))) (λ d. absurd (Contains-nil d)) (Contains-cases p [] x t.0), t.1)) (first.0 m))
          (λ t. inr (Contains-later p (q ∷ []) t.0, t.1)) (second.0 f),
      ⊎_elim (λ o. two.1 (inl (one.1 (inl o))))
          (λ t. ⊎_elim (λ e. two.1 (inl (one.1 (inr (e, t.1))))) (λ c. second.1 (inr (c, t.1))) (Contains-cases p (q ∷ []) x t.0)),
    )

-- as many flags in a row from the first on are set
pub full : (word sets : ℕ) → word < 2 ^ 64 → sets ≤ 64 → (sets ≤ trailing_ones w64 word) ↔ ((j : ℕ) → j < sets → HasFlag word j)
full word sets fits few = ⊎_elim less all (cases_lt (word + 1) (2 ^ 64))
  where
    less : word + 1 < 2 ^ 64 → (sets ≤ trailing_ones w64 word) ↔ ((j : ℕ) → j < sets → HasFlag word j)
    less h =
        let t = bit_at-trailing_ones w64 word h in (
          λ le j l. t.2 j (omega arith),
          λ f. ⊎_elim (λ lt. absurd (none_is_one t.1 (f (trailing_ones w64 word) lt))) (λ le. le) (cases_lt (trailing_ones w64 word) sets),
        )

    all : 2 ^ 64 ≤ word + 1 → (sets ≤ trailing_ones w64 word) ↔ ((j : ℕ) → j < sets → HasFlag word j)
    all h =
        let e : word ≡ 2 ^ 64 - 1 = omega arith in (
          λ le j l. subst (λ w. HasFlag w j) (sym e) (bit_at_ones 64 j (omega arith)),
          λ f. subst (λ w. sets ≤ trailing_ones w64 w) (sym e) (subst (λ n. sets ≤ n) (sym (trailing_of_zero 64)) few),
        )

-- the first `n` of these are flagged, each in a set of its own
abbrev pub IsEachFlagged : List ℕ → ℕ → List ℕ → Type 0
IsEachFlagged words n of = (j x : ℕ) → IsFlaggedIn words j x ↔ ((j < n) × (get_or of j 0 ≡ x))

pub each_more : (words new of : List ℕ) (n at word : ℕ) → get_or of n 0 ≡ at → word ≡ 2 ^ n → IsEachFlagged words n of →
    ((j x : ℕ) → IsFlaggedIn new j x ↔ (IsFlaggedIn words j x ⊎ ((at ≡ x) × HasFlag word j))) → IsEachFlagged new (n + 1) of
each_more words new of n at word here is each more j x = (
  λ f. ⊎_elim (λ o. let t = (each j x).0 o in (omega (arith, t.0), t.1))
      (λ t.
      let e : j ≡ n = (one_flag n j).0 (subst (λ w. HasFlag w j) is t.1) in
      (omega arith, subst (λ k. get_or of k 0 ≡ x) (sym e) (here ∙ t.0)))
      ((more j x).0 f),
  λ t. elim (ℕ_discrete j n) [
    | yes e ↦ (more j x).1 (inr (sym here ∙ subst (λ k. get_or of k 0 ≡ x) e t.1, subst (λ w. HasFlag w j) (sym is) ((one_flag n j).1 e)))
    | no ne ↦ (more j x).1 (inl ((each j x).1 (let l : j < n + 1 = t.0 in omega arith, t.1)))
  ],
)

-- some of a list, in a row
abbrev piece : List ℕ → ℕ → ℕ → List ℕ
piece of from sets = take (from + sets - from) (drop from of)

piece_at : (of : List ℕ) (from sets k : ℕ) → from ≤ k → k < from + sets → get_or (piece of from sets) (k - from) 0 ≡ get_or of k 0
piece_at of from sets k g l =
    let e : from + (k - from) ≡ k = omega arith in
    get_or-take (from + sets - from) (drop from of) (k - from) 0 (omega arith) ∙ get_or-drop from of (k - from) 0 ∙ ap (λ i. get_or of i 0) e

-- what holds for the first `from` of these, and for the next `sets` of them
pub more_common : (P Each : ℕ → Type 0) (Within Old New : Type 0) (of : List ℕ) (from sets : ℕ) → from + sets ≤ length of →
    Old ↔ (Within × ((k : ℕ) → k < from → P (get_or of k 0))) →
    ((j : ℕ) → Each j ↔ ((j < length (piece of from sets)) × P (get_or (piece of from sets) j 0))) →
    New ↔ (Old × ((j : ℕ) → j < sets → Each j)) →
    New ↔ (Within × ((k : ℕ) → k < from + sets → P (get_or of k 0)))
more_common P Each Within Old New of from sets fits old each new = (
  λ n.
      let t = new.0 n in
      let u = old.0 t.0 in
      (u.0, λ k h. ⊎_elim (u.1 k) (λ g. subst P (piece_at of from sets k g h) ((each (k - from)).0 (t.1 (k - from) (omega arith))).1) (cases_lt k from)),
  λ t. new.1 (
    old.1 (t.0, λ k l. t.1 k (omega arith)),
    λ j l.
        let e : from + j - from ≡ j = omega arith in
        (each j).1 (
          omega (arith, length-take (from + sets - from) (drop from of), length-drop from of),
          subst P (sym (piece_at of from sets (from + j) (omega arith) (omega arith)) ∙ ap (λ i. get_or (piece of from sets) i 0) e) (t.1 (from + j) (omega arith)),
        ),
  ),
)
