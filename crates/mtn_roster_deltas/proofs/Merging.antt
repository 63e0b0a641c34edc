-- Two lists by ascending numbers put together, from their first entries on.
use Rattle.std.specs.Prelude.{map, filter, not}
use Rattle.std.specs.List.{list_all, list_any}
use Rattle.std.specs.FinMap.{nat_cmp-IsAntisymmetric}
use Rattle.std.specs.FinMap.Entries.{by_order}
use Rattle.std.specs.declared.cmp.Ordering.TheVariants.{Less, Equal, Greater}
use Rattle.std.specs.Ordering.{is_lt, nat_cmp, ordering_reverse}
use Rattle.std.specs.Cmp.{first_so, second_so, nat_cmp_total}
use Rattle.std.specs.Option.{MatchOption, option_to_list}
use Rattle.std.proofs.Common.{◌≡◌, ℕ, ◌==◌, Bool, true, false, cond, nat_eq, nat_lt, List, [], ◌∷◌, ◌++◌, length, drop, get_or, Option, Some, None, refl, sym, ◌∙◌, ap, subst, append_assoc, arith}
use Rattle.std.proofs.lemmas.Bool.{ltb-false}
use Rattle.mtn_records.specs.declared.entry.NumberedEntry.{NumberedEntry}
use Rattle.mtn_base.specs.Lists.{placed}
use Rattle.mtn_base.proofs.Placed.{find-placed}
use Rattle.mtn_base.proofs.Sorting.{lt_was, rises_placed}
use Rattle.mtn_base.proofs.Tests.{both_true}
use Rattle.mtn_roster_deltas.specs.Chain.{Entries, ascend, entry_at, number_of, with_all, without}
use Rattle.mtn_roster_deltas.specs.Parts.{GivesNext, MergesTo}
use Rattle.mtn_roster_deltas.proofs.Ascending.{same_number-is}

abbrev put : NumberedEntry → Entries → Entries
put = placed nat_cmp number_of

-- a number is below those of some entries
abbrev pub is_below : ℕ → Entries → Bool
is_below n es = list_all (λ m. is_lt (nat_cmp n m)) (map number_of es)

below_by : (n k : ℕ) → ((m : ℕ) → nat_cmp k m ≡ Less → nat_cmp n m ≡ Less) → (es : Entries) → is_below k es ≡ true → is_below n es ≡ true
below_by n k step [] h = refl
below_by n k step (e ∷ es) h =
    both_true _ _ (ap is_lt (step e.number (lt_was _ (first_so _ _ h)))) (below_by n k step es (second_so (is_lt (nat_cmp k e.number)) _ h))

below_put : (n : ℕ) (c : NumberedEntry) (es : Entries) → is_lt (nat_cmp n c.number) ≡ true → is_below n es ≡ true → is_below n (put c es) ≡ true
below_put n c [] h g = both_true _ _ h refl
below_put n c (e ∷ es) h g =
    elim (nat_cmp c.number e.number) as (λ r. is_below n (by_order r (c ∷ e ∷ es) (c ∷ es) (e ∷ put c es)) ≡ true) [
      | Less ↦ both_true _ _ h g
      | Equal ↦ both_true _ _ h (second_so (is_lt (nat_cmp n e.number)) _ g)
      | Greater ↦ both_true _ _ (first_so (is_lt (nat_cmp n e.number)) _ g) (below_put n c es h (second_so (is_lt (nat_cmp n e.number)) _ g))
    ]

below_with : (n : ℕ) (cs es : Entries) → is_below n cs ≡ true → is_below n es ≡ true → is_below n (with_all cs es) ≡ true
below_with n [] es h g = g
below_with n (c ∷ cs) es h g =
    below_put n c (with_all cs es) (first_so _ _ h) (below_with n cs es (second_so (is_lt (nat_cmp n c.number)) _ h) g)

put_first : (c : NumberedEntry) (es : Entries) → is_below c.number es ≡ true → put c es ≡ c ∷ es
put_first c [] h = refl
put_first c (e ∷ es) h = ap (λ r. by_order r (c ∷ e ∷ es) (c ∷ es) (e ∷ put c es)) (lt_was _ (first_so _ _ h))

with_past : (e : NumberedEntry) (cs es : Entries) → is_below e.number cs ≡ true → with_all cs (e ∷ es) ≡ e ∷ with_all cs es
with_past e [] es h = refl
with_past e (c ∷ cs) es h =
    let low : nat_cmp e.number c.number ≡ Less = lt_was _ (first_so _ _ h) in
    let high : nat_cmp c.number e.number ≡ Greater = nat_cmp_total.antisymm c.number e.number ∙ ap ordering_reverse low in
    ap (put c) (with_past e cs es (second_so (is_lt (nat_cmp e.number c.number)) _ h))
    ∙ ap (λ r. by_order r (c ∷ e ∷ with_all cs es) (c ∷ with_all cs es) (e ∷ put c (with_all cs es))) high

abbrev head_low : (e : NumberedEntry) (es : Entries) → ascend (e ∷ es) ≡ true → is_below e.number es ≡ true
head_low e es h = first_so _ _ h

pub tail_up : (e : NumberedEntry) (es : Entries) → ascend (e ∷ es) ≡ true → ascend es ≡ true
tail_up e es h = second_so (is_below e.number es) _ h

below_all : (n : ℕ) (e : NumberedEntry) (es : Entries) → nat_cmp n e.number ≡ Less → is_below e.number es ≡ true → is_below n (e ∷ es) ≡ true
below_all n e es h g = both_true _ _ (ap is_lt h) (below_by n e.number (λ m q. nat_cmp_total.trans n e.number m h q) es g)

module _ (e : NumberedEntry) (es : Entries) (c : NumberedEntry) (cs : Entries) (up : ascend (e ∷ es) ≡ true) (rise : ascend (c ∷ cs) ≡ true) where
  pub old_first : nat_cmp e.number c.number ≡ Less → with_all (c ∷ cs) (e ∷ es) ≡ e ∷ with_all (c ∷ cs) es
  old_first h = with_past e (c ∷ cs) es (below_all e.number c cs h (head_low c cs rise))

  pub in_place : nat_cmp e.number c.number ≡ Equal → with_all (c ∷ cs) (e ∷ es) ≡ c ∷ with_all cs es
  in_place h =
      let same : e.number ≡ c.number = nat_cmp-IsAntisymmetric e.number c.number h in
      let back : nat_cmp c.number e.number ≡ Equal = nat_cmp_total.antisymm c.number e.number ∙ ap ordering_reverse h in
      ap (put c) (with_past e cs es (subst (λ n. is_below n cs ≡ true) (sym same) (head_low c cs rise)))
      ∙ ap (λ r. by_order r (c ∷ e ∷ with_all cs es) (c ∷ with_all cs es) (e ∷ put c (with_all cs es))) back

  pub new_first : nat_cmp e.number c.number ≡ Greater → with_all (c ∷ cs) (e ∷ es) ≡ c ∷ with_all cs (e ∷ es)
  new_first h =
      let low : nat_cmp c.number e.number ≡ Less = nat_cmp_total.antisymm c.number e.number ∙ ap ordering_reverse h in
      put_first c (with_all cs (e ∷ es)) (below_with c.number cs (e ∷ es) (head_low c cs rise) (below_all c.number e es low (head_low e es up)))

pub only_new : (c : NumberedEntry) (cs : Entries) → ascend (c ∷ cs) ≡ true → with_all (c ∷ cs) [] ≡ c ∷ with_all cs []
only_new c cs h = put_first c (with_all cs []) (below_with c.number cs [] (head_low c cs h) refl)

pub with_rises : (cs es : Entries) → ascend es ≡ true → ascend (with_all cs es) ≡ true
with_rises [] es h = h
with_rises (c ∷ cs) es h = rises_placed nat_cmp number_of nat_cmp_total c (with_all cs es) (with_rises cs es h)

below_kept : (n : ℕ) (test : NumberedEntry → Bool) (es : Entries) → is_below n es ≡ true → is_below n (filter test es) ≡ true
below_kept n test [] h = refl
below_kept n test (e ∷ es) h =
    let rest = below_kept n test es (second_so (is_lt (nat_cmp n e.number)) _ h) in
    elim (test e) as (λ b. is_below n (cond b (e ∷ filter test es) (filter test es)) ≡ true) [ true ↦ both_true _ _ (first_so _ _ h) rest | false ↦ rest ]

kept_rises : (test : NumberedEntry → Bool) (es : Entries) → ascend es ≡ true → ascend (filter test es) ≡ true
kept_rises test [] h = refl
kept_rises test (e ∷ es) h =
    let rest = kept_rises test es (tail_up e es h) in
    elim (test e) as (λ b. ascend (cond b (e ∷ filter test es) (filter test es)) ≡ true) [ true ↦ both_true _ _ (below_kept e.number test es (head_low e es h)) rest | false ↦ rest ]

pub without_rises : (gone : List ℕ) (es : Entries) → ascend es ≡ true → ascend (without gone es) ≡ true
without_rises gone es h = kept_rises _ es h

-- what they have at a number
abbrev pub over : Option NumberedEntry → Option NumberedEntry → Option NumberedEntry
over None o = o
over (Some c) o = Some c

pub with_finds : (cs es : Entries) (n : ℕ) → entry_at (with_all cs es) n ≡ over (entry_at cs n) (entry_at es n)
with_finds [] es n = refl
with_finds (c ∷ cs) es n =
    find-placed nat_cmp number_of nat_eq same_number-is nat_cmp_total nat_cmp-IsAntisymmetric c (with_all cs es) n
    ∙ ap (cond (c.number == n) (Some c)) (with_finds cs es n)
    ∙ elim (c.number == n) as (λ b. cond b (Some c) (over (entry_at cs n) (entry_at es n)) ≡ over (cond b (Some c) (entry_at cs n)) (entry_at es n)) [ true ↦ refl | false ↦ refl ]

pub without_finds : (gone : List ℕ) (es : Entries) (n : ℕ) → entry_at (without gone es) n ≡ cond (list_any (λ m. m == n) gone) None (entry_at es n)
without_finds gone [] n = elim (list_any (λ m. m == n) gone) as (λ b. ◌≡◌ {A = Option NumberedEntry} None (cond b None None)) [ true ↦ refl | false ↦ refl ]
without_finds gone (e ∷ es) n = at (without_finds gone es n) (list_any (λ m. m == e.number) gone) (e.number == n) refl refl
  where
    at : entry_at (without gone es) n ≡ cond (list_any (λ m. m == n) gone) None (entry_at es n) → (b t : Bool) → list_any (λ m. m == e.number) gone ≡ b → (e.number == n) ≡ t →
        entry_at (cond (not b) (e ∷ without gone es) (without gone es)) n ≡ cond (list_any (λ m. m == n) gone) None (cond t (Some e) (entry_at es n))
    at rest true true h g =
        rest
        ∙ (let hit : list_any (λ m. m == n) gone ≡ true = ap (λ k. list_any (λ m. m == k) gone) (sym (same_number-is e.number n g)) ∙ h in
        ap (λ b. cond b None (entry_at es n)) hit ∙ sym (ap (λ b. cond b None (Some e)) hit))
    at rest true false h g = rest
    at rest false true h g =
        ap (λ t. cond t (Some e) (entry_at (without gone es) n)) g
        ∙ (let miss : list_any (λ m. m == n) gone ≡ false = ap (λ k. list_any (λ m. m == k) gone) (sym (same_number-is e.number n g)) ∙ h in
        sym (ap (λ b. cond b None (Some e)) miss))
    at rest false false h g = ap (λ t. cond t (Some e) (entry_at (without gone es) n)) g ∙ rest

-- the first entries as they are taken
module _ (es cs : Entries) (up : ascend es ≡ true) (rise : ascend cs ≡ true) (next : Option NumberedEntry) where
  pub gives_new : (c : NumberedEntry) (rest : Entries) → es ≡ [] → next ≡ Some c → cs ≡ c ∷ rest → GivesNext es cs next es rest
  gives_new c rest none is all =
      let rise' : ascend (c ∷ rest) ≡ true = subst (λ l. ascend l ≡ true) all rise in
      record {
        first = subst (λ o. MatchOption o (with_all cs es ≡ []) (λ e. with_all cs es ≡ e ∷ with_all rest es)) (sym is)
            ((λ i. with_all (all i) (none i)) ∙ only_new c rest rise' ∙ ap (λ l. c ∷ with_all rest l) (sym none));
        entries = up;
        changed = tail_up c rest rise';
      }

  module _ (e : NumberedEntry) (old : Entries) (c : NumberedEntry) (new : Entries) (all_old : es ≡ e ∷ old) (all_new : cs ≡ c ∷ new) where
    up' : ascend (e ∷ old) ≡ true
    up' = subst (λ l. ascend l ≡ true) all_old up

    rise' : ascend (c ∷ new) ≡ true
    rise' = subst (λ l. ascend l ≡ true) all_new rise

    pub gives_old : next ≡ Some e → nat_cmp e.number c.number ≡ Less → GivesNext es cs next old cs
    gives_old is h = record {
      first = subst (λ o. MatchOption o (with_all cs es ≡ []) (λ e. with_all cs es ≡ e ∷ with_all cs old)) (sym is)
          ((λ i. with_all (all_new i) (all_old i)) ∙ old_first e old c new up' rise' h ∙ ap (λ l. e ∷ with_all l old) (sym all_new));
      entries = tail_up e old up';
      changed = rise;
    }

    pub gives_changed : next ≡ Some c → nat_cmp e.number c.number ≡ Equal → GivesNext es cs next old new
    gives_changed is h = record {
      first = subst (λ o. MatchOption o (with_all cs es ≡ []) (λ e. with_all cs es ≡ e ∷ with_all new old)) (sym is)
          ((λ i. with_all (all_new i) (all_old i)) ∙ in_place e old c new up' rise' h);
      entries = tail_up e old up';
      changed = tail_up c new rise';
    }

    pub gives_added : next ≡ Some c → nat_cmp e.number c.number ≡ Greater → GivesNext es cs next es new
    gives_added is h = record {
      first = subst (λ o. MatchOption o (with_all cs es ≡ []) (λ e. with_all cs es ≡ e ∷ with_all new es)) (sym is)
          ((λ i. with_all (all_new i) (all_old i)) ∙ new_first e old c new up' rise' h ∙ ap (λ l. c ∷ with_all new l) (sym all_old));
      entries = up;
      changed = tail_up c new rise';
    }

-- one more of them
pub merges_more : (whole done done' es cs es' cs' : Entries) (e : NumberedEntry) → MergesTo whole done es cs → GivesNext es cs (Some e) es' cs' → done' ≡ done ++ e ∷ [] → MergesTo whole done' es' cs'
merges_more whole done done' es cs es' cs' e m g is = record {
  so_far = m.so_far ∙ ap (λ l. done ++ l) g.first ∙ sym (append_assoc done (e ∷ []) (with_all cs' es')) ∙ ap (λ l. l ++ with_all cs' es') (sym is);
  entries = g.entries;
  changed = g.changed;
}

pub merges_all : (whole done es cs es' cs' : Entries) → MergesTo whole done es cs → GivesNext es cs None es' cs' → done ≡ whole
merges_all whole done es cs es' cs' m g = sym (m.so_far ∙ ap (λ l. done ++ l) g.first ∙ append_nil done)
  where
    append_nil : (xs : Entries) → xs ++ [] ≡ xs
    append_nil [] = refl
    append_nil (x ∷ xs) = ap (λ l. x ∷ l) (append_nil xs)

-- what stands at the front of a list, and what is taken from there
pub front_is : (xs : Entries) (x : NumberedEntry) → true ≡ nat_lt 0 (length xs) → x ≡ get_or xs 0 x → xs ≡ x ∷ drop 1 xs
front_is [] x h is = absurd (let g : false ≡ nat_lt 0 0 = refl in cc)
front_is (y ∷ xs) x h is = ap (λ z. z ∷ xs) (sym is)

pub no_front : (xs : Entries) → false ≡ nat_lt 0 (length xs) → xs ≡ []
no_front [] h = refl
no_front (y ∷ xs) h = absurd (let z = ltb-false 0 (length (y ∷ xs)) (sym h) in omega arith)

pub taken_is : (xs ys : Entries) (r : Option NumberedEntry) (x : NumberedEntry) → x ≡ get_or xs 0 x → r ≡ Some (get_or xs 0 x) → xs ≡ option_to_list r ++ ys → (r ≡ Some x) × (xs ≡ x ∷ ys)
taken_is xs ys r x is got all =
    let e : r ≡ Some x = got ∙ ap Some (sym is) in
    (e, all ∙ ap (λ o. option_to_list o ++ ys) e)
