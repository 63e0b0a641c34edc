-- Marks on the ways up, and the flags of the places to which they return.
use Rattle.std.specs.Prelude.{◌↔◌, slice_index}
use Rattle.std.specs.List.{All}
use Rattle.std.proofs.Common.{◌≡◌, ◌≢◌, ◌⊎◌, ℕ, zero, suc, ◌+◌, ◌*◌, ◌-◌, ◌<◌, ◌≤◌, Bool, true, false, List, [], ◌∷◌, ◌++◌, length, get_or, set, inl, inr, ⊎_elim, refl, sym, ◌∙◌, ap, subst, arith, get_or-set_same, get_or-set_other, length-set}
use Rattle.std.proofs.lemmas.Bool.{cases_lt}
use Rattle.std.proofs.lemmas.List.Elements.{All-get_or, All-from_get_or}
use Rattle.std.proofs.Math.Decide.{ℕ_discrete}
use Rattle.mtn_roster.specs.Building.{climbed}
use Rattle.mtn_roster.proofs.Marking.{climbed-add}
use Rattle.mtn_conflicts.specs.Parts.{AreRaisedFrom, AreSeen, IsMarkedUp, IsRaised, IsRound, IsUpFrom, IsWay}
use Rattle.mtn_conflicts.proofs.Looping.{up_within, climbed_within, sooner, soon, along, back}

one_more : (i : ℕ) → suc i ≡ i + 1
one_more i = omega arith

rest_of : (i n : ℕ) → i < n → i + (n - i) ≡ n
rest_of i n h = omega (arith, h)

-- the way up leads there in fewer steps
abbrev pub IsWithin : List ℕ → ℕ → ℕ → ℕ → Type 0
IsWithin ups start steps k = (i : ℕ) × (i < steps) × (climbed ups i start ≡ k)

-- so many flags from a place on are raised
abbrev pub AreRaisedTo : List ℕ → ℕ → ℕ → List Bool → List Bool → Type 0
AreRaisedTo ups start steps old new = (length new ≡ length old)
    × ((k : ℕ) → k < length old → (get_or new k false ≡ true) ↔ ((get_or old k false ≡ true) ⊎ IsWithin ups start steps k))

module _ (ups : List ℕ) (within : All (λ k. k < length ups) ups) where
  -- one step more
  step : (i k : ℕ) → climbed ups (i + 1) k ≡ slice_index ups (climbed ups i k)
  step i k = climbed-add ups i 1 k

  -- all places of the way up from a marked one are marked
  stays_marked : (marks : List ℕ) → ((k : ℕ) → k < length ups → 0 < slice_index marks k → 0 < slice_index marks (slice_index ups k)) →
      (m k : ℕ) → k < length ups → 0 < slice_index marks k → 0 < slice_index marks (climbed ups m k)
  stays_marked marks closed zero k lt h = h
  stays_marked marks closed (suc m) k lt h = stays_marked marks closed m (slice_index ups k) (up_within ups within k lt) (closed k lt h)

  -- nothing is marked yet
  pub way_none : (from mark : ℕ) (old : List ℕ) → IsMarkedUp ups from mark old 0 from old
  way_none from mark old = record {
    long = refl;
    end = refl;
    fresh = λ i lt. absurd (omega (arith, lt));
    marked = λ i lt. absurd (omega (arith, lt));
    others = λ k. inl refl;
  }

  -- one place more is marked
  pub way_more : (from mark : ℕ) (old : List ℕ) (steps at : ℕ) (new : List ℕ) → 0 < mark → at < length new → IsMarkedUp ups from mark old steps at new → slice_index new at ≡ 0 →
      IsMarkedUp ups from mark old (steps + 1) (slice_index ups at) (set new at mark)
  way_more from mark old steps at new some low w free = record {
    long = length-set new at mark ∙ w.long;
    end = step steps from ∙ ap (slice_index ups) w.end;
    fresh = λ i lt. ⊎_elim (λ l. w.fresh i l) (λ g. ap (slice_index old) (here i lt g) ∙ was) (cases_lt i steps);
    marked = λ i lt. elim (ℕ_discrete (climbed ups i from) at) [
      | yes e ↦ ap (slice_index (set new at mark)) e ∙ get_or-set_same new at mark 0 low
      | no ne ↦ get_or-set_other new at (climbed ups i from) mark 0 ne ∙ (⊎_elim (λ l. w.marked i l) (λ g. absurd (ne (here i lt g))) (cases_lt i steps))
    ];
    others = λ k. elim (ℕ_discrete k at) [
      | yes e ↦ inr (steps, omega arith, w.end ∙ sym e)
      | no ne ↦ ⊎_elim (λ e. inl (get_or-set_other new at k mark 0 ne ∙ e)) (λ (t : IsWithin ups from steps k). inr (t.0, omega (arith, t.1), t.2)) (w.others k)
    ];
  }
    where
      here : (i : ℕ) → i < steps + 1 → steps ≤ i → climbed ups i from ≡ at
      here i lt g = let e : i ≡ steps = omega (arith, lt, g) in ap (λ n. climbed ups n from) e ∙ w.end

      was : slice_index old at ≡ 0
      was = ⊎_elim (λ e. sym e ∙ free) (λ (t : IsWithin ups from steps at). let m : slice_index new at ≡ mark = ap (slice_index new) (sym t.2) ∙ w.marked t.0 t.1 in absurd (omega (arith, m, free, some))) (w.others at)

  -- as many steps as there are places come to a marked one
  pub way_met : (from mark : ℕ) (old : List ℕ) (at : ℕ) (new : List ℕ) → 0 < mark → from < length ups → (steps : ℕ) → steps ≡ length ups → IsMarkedUp ups from mark old steps at new → 0 < slice_index new at
  way_met from mark old at new some low steps all w =
      let t = soon ups within from steps low in
      let m : slice_index new at ≡ mark = ap (slice_index new) (sym (t.2 ∙ w.end)) ∙ w.marked t.0 (omega (arith, t.1, all)) in
      omega (arith, m, some)

  pub raised_to_none : (start : ℕ) (old : List Bool) → AreRaisedTo ups start 0 old old
  raised_to_none start old = (refl, λ k lt. (λ e. inl e, λ t. ⊎_elim (λ e. e) (λ (i : IsWithin ups start 0 k). absurd (omega (arith, i.1))) t))

  pub raised_to_more : (start steps at : ℕ) (old mid new : List Bool) → at ≡ climbed ups steps start → AreRaisedTo ups start steps old mid → IsRaised mid at new → AreRaisedTo ups start (steps + 1) old new
  raised_to_more start steps at old mid new is h r = (
    r.0 ∙ h.0,
    λ k lt.
        let lm : k < length mid = omega (arith, lt, h.0) in (
          λ t. ⊎_elim
              (λ a. ⊎_elim (λ e. inl e) (λ (i : IsWithin ups start steps k). inr (i.0, omega (arith, i.1), i.2)) ((h.1 k lt).0 a))
              (λ b. inr (steps, omega arith, sym is ∙ sym b))
              ((r.1 k lm).0 t),
          λ t. (r.1 k lm).1 (⊎_elim
              (λ e. inl ((h.1 k lt).1 (inl e)))
              (λ (i : IsWithin ups start (steps + 1) k). elim (cases_lt i.0 steps) [
                | inl low ↦ inl ((h.1 k lt).1 (inr (i.0, low, i.2)))
                | inr high ↦ let e : i.0 ≡ steps = omega (arith, i.1, high) in inr (sym i.2 ∙ ap (λ n. climbed ups n start) e ∙ sym is)
              ])
              t),
        ),
  )

  -- those are all, if the way has come to all its places
  raised_all : (start steps : ℕ) (old new : List Bool) → ((m : ℕ) → (i : ℕ) × (i < steps) × (climbed ups i start ≡ climbed ups m start)) → AreRaisedTo ups start steps old new → AreRaisedFrom ups start old new
  raised_all start steps old new all h = (
    h.0,
    λ k lt. (
      λ t. ⊎_elim (λ e. inl e) (λ (i : IsWithin ups start steps k). inr (i.0, i.2)) ((h.1 k lt).0 t),
      λ t. (h.1 k lt).1 (⊎_elim (λ e. inl e) (λ (m : IsUpFrom ups start k). let i = all m.0 in inr (i.0, i.1, i.2 ∙ m.1)) t),
    ),
  )

  pub raised_round : (start steps : ℕ) (old new : List Bool) → climbed ups (steps + 1) start ≡ start → AreRaisedTo ups start (steps + 1) old new → AreRaisedFrom ups start old new
  raised_round start steps old new e h = raised_all start (steps + 1) old new (λ m. sooner ups within 0 (steps + 1) start (omega arith) (sym e) m m (omega arith)) h

  pub raised_out : (start steps : ℕ) (old new : List Bool) → start < length ups → steps ≡ length ups → AreRaisedTo ups start steps old new → AreRaisedFrom ups start old new
  raised_out start steps old new low all h = raised_all start steps old new (λ m. let t = soon ups within start m low in (t.0, omega (arith, t.1, all), t.2)) h

  module _ (from : ℕ) (old : List ℕ) (at : ℕ) (new : List ℕ) (earlier : All (λ m. m ≤ from) old) (low : at < length ups) (way : IsWay ups from (from + 1) old at new) where
    steps : ℕ
    steps = way.0

    w : IsMarkedUp ups from (from + 1) old way.0 at new
    w = way.1

    has_mark : (k i : ℕ) → i < way.0 → climbed ups i from ≡ k → slice_index new k ≡ from + 1
    has_mark k i lt is = ap (slice_index new) (sym is) ∙ w.marked i lt

    had_none : (k i : ℕ) → i < way.0 → climbed ups i from ≡ k → slice_index old k ≡ 0
    had_none k i lt is = ap (slice_index old) (sym is) ∙ w.fresh i lt

    pub still : (k : ℕ) → 0 < slice_index old k → 0 < slice_index new k
    still k h = ⊎_elim (λ e. omega (arith, e, h)) (λ (t : IsWithin ups from way.0 k). let m = has_mark k t.0 t.1 t.2 in omega (arith, m)) (w.others k)

    pub here : 0 < slice_index new from
    here = elim (cases_lt 0 way.0) [
      | inl lt ↦ let m = has_mark from 0 lt refl in omega (arith, m)
      | inr ge ↦
          let z : way.0 ≡ 0 = omega (arith, ge) in
          let e : at ≡ from = sym w.end ∙ ap (λ n. climbed ups n from) z in
          subst (λ x. 0 < slice_index new x) e way.2
    ]

    earlier_at : (k : ℕ) → k < length old → slice_index old k ≤ from
    earlier_at k lt = All-get_or (λ m. m ≤ from) old k 0 lt earlier

    pub earlier_more : All (λ m. m ≤ from + 1) new
    earlier_more = All-from_get_or (λ m. m ≤ from + 1) new 0 (λ k lt. ⊎_elim
        (λ e. let b = earlier_at k (omega (arith, lt, w.long)) in omega (arith, e, b))
        (λ (t : IsWithin ups from way.0 k). let m = has_mark k t.0 t.1 t.2 in omega (arith, m))
        (w.others k))

    module _ (flags : List Bool) (seen : AreSeen ups old flags) where
      closed : (k : ℕ) → k < length ups → 0 < slice_index new k → 0 < slice_index new (slice_index ups k)
      closed k lt h = ⊎_elim
          (λ e. still (slice_index ups k) (seen.closed k lt (omega (arith, e, h))))
          (λ (t : IsWithin ups from way.0 k).
          let up : climbed ups (t.0 + 1) from ≡ slice_index ups k = step t.0 from ∙ ap (slice_index ups) t.2 in
          elim (cases_lt (t.0 + 1) way.0) [
            | inl l ↦ let m = has_mark (slice_index ups k) (t.0 + 1) l up in omega (arith, m)
            | inr g ↦
                let e : way.0 ≡ t.0 + 1 = omega (arith, g, t.1) in
                let is : at ≡ slice_index ups k = sym w.end ∙ ap (λ n. climbed ups n from) e ∙ up in
                subst (λ x. 0 < slice_index new x) is way.2
          ])
          (w.others k)

      unmarked : (k : ℕ) → slice_index new k ≡ 0 → slice_index old k ≡ 0
      unmarked k h = ⊎_elim (λ e. sym e ∙ h) (λ (t : IsWithin ups from way.0 k). let m = has_mark k t.0 t.1 t.2 in absurd (omega (arith, m, h))) (w.others k)

      -- from a place of the way it goes on to its end
      to_end : (k i : ℕ) → i < way.0 → climbed ups i from ≡ k → climbed ups (way.0 - i) k ≡ at
      to_end k i lt is = ap (climbed ups (way.0 - i)) (sym is) ∙ sym (climbed-add ups i (way.0 - i) from) ∙ ap (λ n. climbed ups n from) (rest_of i way.0 lt) ∙ w.end

      -- a place of the way to which its own way returns is on the way up from the end
      from_end : (k i : ℕ) → i < way.0 → climbed ups i from ≡ k → IsRound ups k → IsUpFrom ups at k
      from_end k i lt is r = ((way.0 - i) * r.0, ap (climbed ups ((way.0 - i) * r.0)) (sym (to_end k i lt is)) ∙ back ups within r.0 k (way.0 - i) r.1)

      -- the way ended where an earlier one was
      pub seen_met : slice_index new at ≢ from + 1 → AreSeen ups new flags
      seen_met ne = record {
        long = w.long ∙ seen.long;
        closed = closed;
        told = λ k lt h. ⊎_elim
            (λ e. seen.told k lt (omega (arith, e, h)))
            (λ (t : IsWithin ups from way.0 k).
            let z = had_none k t.0 t.1 t.2 in (
              λ f. absurd (let g = seen.rest k lt z in cc),
              λ r.
                  let u = from_end k t.0 t.1 t.2 r in
                  let m : 0 < slice_index old k = subst (λ x. 0 < slice_index old x) u.1 (stays_marked old seen.closed u.0 at low met_before) in
                  absurd (omega (arith, m, z)),
            ))
            (w.others k);
        rest = λ k lt h. seen.rest k lt (unmarked k h);
      }
        where
          met_before : 0 < slice_index old at
          met_before = ⊎_elim (λ e. let m = way.2 in omega (arith, e, m)) (λ (t : IsWithin ups from way.0 at). absurd (ne (has_mark at t.0 t.1 t.2))) (w.others at)

      -- the way came to itself again
      module _ (own : slice_index new at ≡ from + 1) where
        entry : (j : ℕ) × (j < way.0) × (climbed ups j from ≡ at)
        entry = ⊎_elim
            (λ e. let b = earlier_at at (omega (arith, low, seen.long)) in absurd (omega (arith, e, b, own)))
            (λ t. t)
            (w.others at)

        turns : IsRound ups at
        turns = (way.0 - entry.0 - 1, ap (λ n. climbed ups n at) (less entry.0 way.0 entry.1) ∙ to_end at entry.0 entry.1 entry.2)
          where
            less : (j n : ℕ) → j < n → suc (n - j - 1) ≡ n - j
            less j n h = omega (arith, h)

        -- its round was not marked before
        not_before : (k : ℕ) → IsUpFrom ups at k → 0 < slice_index old k → ⊥
        not_before k u h =
            let lt : k < length ups = subst (λ x. x < length ups) u.1 (climbed_within ups within u.0 at low) in
            let b : climbed ups (u.0 * turns.0) k ≡ at = ap (climbed ups (u.0 * turns.0)) (sym u.1) ∙ back ups within turns.0 at u.0 turns.1 in
            let m : 0 < slice_index old at = subst (λ x. 0 < slice_index old x) b (stays_marked old seen.closed (u.0 * turns.0) k lt h) in
            let z = had_none at entry.0 entry.1 entry.2 in
            omega (arith, m, z)

        on_round : (k : ℕ) → IsUpFrom ups at k → IsRound ups k
        on_round k u = (turns.0, ap (climbed ups (suc turns.0)) (sym u.1) ∙ along ups within turns.0 at u.0 turns.1 ∙ u.1)

        pub seen_round : (raised : List Bool) → AreRaisedFrom ups at flags raised → AreSeen ups new raised
        seen_round raised r = record {
          long = w.long ∙ seen.long;
          closed = closed;
          told = λ k lt h.
              let lf : k < length flags = omega (arith, lt, r.0) in
              ⊎_elim
              (λ e.
              let o : 0 < slice_index old k = omega (arith, e, h) in (
                λ f. ⊎_elim (λ g. (seen.told k lf o).0 g) (λ u. absurd (not_before k u o)) ((r.1 k lf).0 f),
                λ c. (r.1 k lf).1 (inl ((seen.told k lf o).1 c)),
              ))
              (λ (t : IsWithin ups from way.0 k). (
                λ f. ⊎_elim (λ g. absurd (let q = seen.rest k lf (had_none k t.0 t.1 t.2) in cc)) (λ u. on_round k u) ((r.1 k lf).0 f),
                λ c. (r.1 k lf).1 (inr (from_end k t.0 t.1 t.2 c)),
              ))
              (w.others k);
          rest = λ k lt h.
              let lf : k < length flags = omega (arith, lt, r.0) in
              down k lf h (get_or raised k false) refl;
        }
          where
            down : (k : ℕ) → k < length flags → slice_index new k ≡ 0 → (b : Bool) → get_or raised k false ≡ b → get_or raised k false ≡ false
            down k lf h false e = e
            down k lf h true e = ⊎_elim
                (λ g. absurd (let q = seen.rest k lf (unmarked k h) in cc))
                (λ u. absurd (let m : 0 < slice_index new k = subst (λ x. 0 < slice_index new x) u.1 (stays_marked new closed u.0 at low way.2) in omega (arith, m, h)))
                ((r.1 k lf).0 e)

-- one more place without a mark
pub unmarked_more : (marks : List ℕ) → ((k : ℕ) → slice_index marks k ≡ 0) → (k : ℕ) → slice_index (marks ++ 0 ∷ []) k ≡ 0
unmarked_more [] h zero = refl
unmarked_more [] h (suc k) = refl
unmarked_more (m ∷ ms) h zero = h 0
unmarked_more (m ∷ ms) h (suc k) = unmarked_more ms (λ j. h (suc j)) k
