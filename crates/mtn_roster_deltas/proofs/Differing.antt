-- A chain with a difference behind it.
use Rattle.std.specs.Prelude.{◌&&◌, not, nat_lt, is_some, option_and_then, Contains}
use Rattle.std.specs.List.{list_all, list_any}
use Rattle.std.specs.Ordering.{nat_cmp}
use Rattle.std.proofs.Common.{◌≡◌, ℕ, suc, ◌+◌, ◌≤◌, ◌==◌, Bool, true, false, cond, List, [], ◌∷◌, ◌++◌, length, Option, Some, None, refl, sym, ◌∙◌, ap, subst, arith, inl, inr}
use Rattle.std.proofs.lemmas.Bool.{le-ltb}
use Rattle.mtn_records.specs.declared.entry.NumberedEntry.{NumberedEntry}
use Rattle.mtn_records.specs.declared.record.RosterRecord.{RosterRecord}
use Rattle.mtn_records.specs.declared.record.RosterRecord.TheVariants.{Whole, Delta}
use Rattle.mtn_base.specs.Lists.{rises}
use Rattle.mtn_base.proofs.Finding.{Split, found}
use Rattle.mtn_base.proofs.Members.{head}
use Rattle.mtn_base.proofs.Tests.{both_true}
use Rattle.mtn_roster_deltas.specs.Chain.{Entries, ascend, entry_at, is_there, with_all, without, applied, deepest, after_record, after_all, rebuilt}
use Rattle.mtn_roster_deltas.specs.Difference.{IsDifference}
use Rattle.mtn_roster_deltas.specs.Parts.{GoesOn}
use Rattle.mtn_roster_deltas.proofs.Ascending.{same_number-is, same_number-self, own_number, one_by_number, is_one, one_is, cut_of, place_by}
use Rattle.mtn_roster_deltas.proofs.Merging.{over, with_finds, without_finds, with_rises, without_rises}

abbrev at_number : ℕ → NumberedEntry → Bool
at_number n e = e.number == n

-- what is found at a number
pub entry_was : (es : Entries) (n : ℕ) (e : NumberedEntry) → entry_at es n ≡ Some e → Contains es e × (e.number ≡ n)
entry_was es n e h = let f = found (at_number n) es e h in (place_by es e f.at, same_number-is e.number n f.passes)

pub entry_is : (es : Entries) → ascend es ≡ true → (n : ℕ) (e : NumberedEntry) → Contains es e → e.number ≡ n → entry_at es n ≡ Some e
entry_is es up n e c is = ap (entry_at es) (sym is) ∙ own_number es up e (cut_of es e c)

module _ (base new : Entries) (gone : List ℕ) (changed : Entries) (up : ascend base ≡ true) (rise : ascend new ≡ true) (d : IsDifference base new gone changed) where
  at : (n : ℕ) (c e : Option NumberedEntry) (g : Bool) → entry_at changed n ≡ c → entry_at new n ≡ e → list_any (λ m. m == n) gone ≡ g → over c (cond g None (entry_at base n)) ≡ e
  at n (Some c) e g is new_is gone_is =
      let t = entry_was changed n c is in
      sym (entry_is new rise n c (d.changed_are c t.0).0 t.1) ∙ new_is
  at n None (Some e) g is new_is gone_is =
      let t = entry_was new n e new_is in
      elim (d.others_stay e t.0) [
        | inl c ↦ absurd (let q = entry_is changed d.changed_ascend n e c t.1 in cc)
        | inr b ↦ elim g as (λ g. list_any (λ m. m == n) gone ≡ g → cond g None (entry_at base n) ≡ Some e) [
          | true ↦ λ h. absurd (let lost = (d.gone_are n).0 (one_is gone n h) in let q = ap is_some new_is in let r = lost.1 in cc)
          | false ↦ λ h. entry_is base up n e b t.1
        ] gone_is
      ]
  at n None None true is new_is gone_is = refl
  at n None None false is new_is gone_is =
      elim (entry_at base n) as (λ o. entry_at base n ≡ o → o ≡ None) [
        | None ↦ λ h. refl
        | Some b ↦ λ h. absurd (let c = (d.gone_are n).1 (ap is_some h, ap is_some new_is) in let q = is_one gone n c in cc)
      ] refl

  all_there : (ns : List ℕ) → ((n : ℕ) → Split ns n → is_there base n ≡ true) → list_all (is_there base) ns ≡ true
  all_there [] h = refl
  all_there (n ∷ ns) h = both_true _ _ (h n (head n ns)) (all_there ns (λ m s. h m (record { before = n ∷ s.before; rest = s.rest; is = ap (λ l. n ∷ l) s.is })))

  -- the difference makes the new entries of the base
  pub difference_applies : applied base gone changed ≡ Some new
  difference_applies =
      let there = all_there gone (λ n s. ((d.gone_are n).0 (place_by gone n s)).0) in
      let ok : (rises nat_cmp gone && ascend changed && list_all (is_there base) gone) ≡ true = both_true _ _ (both_true _ _ d.gone_ascend d.changed_ascend) there in
      let same : with_all changed (without gone base) ≡ new = one_by_number (with_all changed (without gone base)) new (with_rises changed (without gone base) (without_rises gone base up)) rise
      (λ n. with_finds changed (without gone base) n ∙ ap (over (entry_at changed n)) (without_finds gone base n)
      ∙ at n (entry_at changed n) (entry_at new n) (list_any (λ m. m == n) gone) refl refl refl) in
      ap (λ b. cond b (Some (with_all changed (without gone base))) None) ok ∙ ap Some same

-- what a delta leaves ascends
pub applied_rises : (es : Entries) (gone : List ℕ) (changed fs : Entries) → ascend es ≡ true → applied es gone changed ≡ Some fs → ascend fs ≡ true
applied_rises es gone changed fs up h =
    elim (rises nat_cmp gone && ascend changed && list_all (is_there es) gone) as (λ b. cond b (Some (with_all changed (without gone es))) None ≡ Some fs → ascend fs ≡ true) [
      | true ↦ λ g. let e : with_all changed (without gone es) ≡ fs = cc in subst (λ l. ascend l ≡ true) e (with_rises changed (without gone es) (without_rises gone es up))
      | false ↦ λ g. absurd cc
    ] h

pub record_rises : (depth : ℕ) (es : Entries) (r : RosterRecord) (fs : Entries) → ascend es ≡ true → after_record depth es r ≡ Some fs → ascend fs ≡ true
record_rises depth es (Whole all) fs up h = absurd cc
record_rises depth es (Delta base told gone changed) fs up h =
    elim ((told == depth) && not (nat_lt deepest depth)) as (λ b. cond b (applied es gone changed) None ≡ Some fs → ascend fs ≡ true) [
      | true ↦ λ g. applied_rises es gone changed fs up g
      | false ↦ λ g. absurd cc
    ] h

after_rises : (depth : ℕ) (es : Entries) (rs : List RosterRecord) (fs : Entries) → ascend es ≡ true → after_all depth es rs ≡ Some fs → ascend fs ≡ true
after_rises depth es [] fs up h = let e : es ≡ fs = cc in subst (λ l. ascend l ≡ true) e up
after_rises depth es (r ∷ rs) fs up h =
    elim (after_record depth es r) as (λ o. after_record depth es r ≡ o → option_and_then (λ gs. after_all (depth + 1) gs rs) o ≡ Some fs → ascend fs ≡ true) [
      | None ↦ λ e g. absurd cc
      | Some gs ↦ λ e g. after_rises (depth + 1) gs rs fs (record_rises depth es r gs up e) g
    ] refl h

pub rebuilt_rises : (chain : List RosterRecord) (es : Entries) → rebuilt chain ≡ Some es → ascend es ≡ true
rebuilt_rises [] es h = absurd cc
rebuilt_rises (Delta base depth gone changed ∷ rs) es h = absurd cc
rebuilt_rises (Whole all ∷ rs) es h =
    elim (ascend all) as (λ b. ascend all ≡ b → cond b (after_all 1 all rs) None ≡ Some es → ascend es ≡ true) [
      | true ↦ λ up g. after_rises 1 all rs es up g
      | false ↦ λ up g. absurd cc
    ] refl h

-- one more record of a chain
pub goes_on : (whole : Option Entries) (depth : ℕ) (es : Entries) (left rest : List RosterRecord) (r : RosterRecord) (fs : Entries) → GoesOn whole depth es left → left ≡ r ∷ rest →
    after_record depth es r ≡ Some fs → GoesOn whole (depth + 1) fs rest
goes_on whole depth es left rest r fs m is h = record {
  so_far = m.so_far ∙ ap (after_all depth es) is ∙ ap (option_and_then (λ gs. after_all (depth + 1) gs rest)) h;
  rising = record_rises depth es r fs m.rising h;
}

once_more : (o : Option Entries) → option_and_then (λ fs. Some fs) o ≡ o
once_more None = refl
once_more (Some x) = refl

after_snoc : (rs : List RosterRecord) (depth : ℕ) (es base : Entries) (r : RosterRecord) → after_all depth es rs ≡ Some base → after_all depth es (rs ++ r ∷ []) ≡ after_record (depth + length rs) base r
after_snoc [] depth es base r h =
    let e : es ≡ base = cc in
    once_more (after_record depth es r) ∙ ap (λ l. after_record depth l r) e ∙ ap (λ k. after_record k base r) (let z : depth ≡ depth + 0 = omega arith in z)
after_snoc (q ∷ rs) depth es base r h =
    elim (after_record depth es q) as (λ o. option_and_then (λ fs. after_all (depth + 1) fs rs) o ≡ Some base →
    option_and_then (λ fs. after_all (depth + 1) fs (rs ++ r ∷ [])) o ≡ after_record (depth + suc (length rs)) base r) [
      | None ↦ λ g. absurd cc
      | Some fs ↦ λ g. after_snoc rs (depth + 1) fs base r g ∙ ap (λ k. after_record k base r) (let z : depth + 1 + length rs ≡ depth + suc (length rs) = omega arith in z)
    ] h

-- more records behind others
after_more : (rs qs : List RosterRecord) (depth : ℕ) (es base : Entries) → after_all depth es rs ≡ Some base → after_all depth es (rs ++ qs) ≡ after_all (depth + length rs) base qs
after_more [] qs depth es base h =
    let e : es ≡ base = cc in
    ap (λ l. after_all depth l qs) e ∙ ap (λ k. after_all k base qs) (let z : depth ≡ depth + 0 = omega arith in z)
after_more (q ∷ rs) qs depth es base h =
    elim (after_record depth es q) as (λ o. option_and_then (λ fs. after_all (depth + 1) fs rs) o ≡ Some base →
    option_and_then (λ fs. after_all (depth + 1) fs (rs ++ qs)) o ≡ after_all (depth + suc (length rs)) base qs) [
      | None ↦ λ g. absurd cc
      | Some fs ↦ λ g. after_more rs qs (depth + 1) fs base g ∙ ap (λ k. after_all k base qs) (let z : depth + 1 + length rs ≡ depth + suc (length rs) = omega arith in z)
    ] h

pub rebuilt_on : (chain deltas : List RosterRecord) (base : Entries) → rebuilt chain ≡ Some base → rebuilt (chain ++ deltas) ≡ after_all (length chain) base deltas
rebuilt_on [] deltas base h = absurd cc
rebuilt_on (Delta at depth gone changed ∷ rs) deltas base h = absurd cc
rebuilt_on (Whole all ∷ rs) deltas base h =
    elim (ascend all) as (λ b. cond b (after_all 1 all rs) None ≡ Some base → cond b (after_all 1 all (rs ++ deltas)) None ≡ after_all (suc (length rs)) base deltas) [
      | true ↦ λ g. after_more rs deltas 1 all base g ∙ ap (λ k. after_all k base deltas) (let z : 1 + length rs ≡ suc (length rs) = omega arith in z)
      | false ↦ λ g. absurd cc
    ] h

-- one more record
pub rebuilt_snoc : (chain : List RosterRecord) (base : Entries) (r : RosterRecord) → rebuilt chain ≡ Some base → rebuilt (chain ++ r ∷ []) ≡ after_record (length chain) base r
rebuilt_snoc [] base r h = absurd cc
rebuilt_snoc (Delta at depth gone changed ∷ rs) base r h = absurd cc
rebuilt_snoc (Whole all ∷ rs) base r h =
    elim (ascend all) as (λ b. cond b (after_all 1 all rs) None ≡ Some base → cond b (after_all 1 all (rs ++ r ∷ [])) None ≡ after_record (suc (length rs)) base r) [
      | true ↦ λ g. after_snoc rs 1 all base r g ∙ ap (λ k. after_record k base r) (let z : 1 + length rs ≡ suc (length rs) = omega arith in z)
      | false ↦ λ g. absurd cc
    ] h

pub delta_follows : (depth : ℕ) (base_at : ℕ) (base : Entries) (gone : List ℕ) (changed : Entries) → depth ≤ deepest → after_record depth base (Delta base_at depth gone changed) ≡ applied base gone changed
delta_follows depth base_at base gone changed h =
    let ok : ((depth == depth) && not (nat_lt deepest depth)) ≡ true = both_true _ _ (same_number-self depth) (ap not (le-ltb deepest depth h)) in
    ap (λ b. cond b (applied base gone changed) None) ok

pub chain_grows : (chain : List RosterRecord) (base new changed : Entries) (gone : List ℕ) (base_at : ℕ) → length chain ≤ deepest → rebuilt chain ≡ Some base → ascend new ≡ true →
    IsDifference base new gone changed → rebuilt (chain ++ Delta base_at (length chain) gone changed ∷ []) ≡ Some new
chain_grows chain base new changed gone base_at le h rise d =
    rebuilt_snoc chain base (Delta base_at (length chain) gone changed) h
    ∙ delta_follows (length chain) base_at base gone changed le
    ∙ difference_applies base new gone changed (rebuilt_rises chain base h) rise d

-- the same for what a call found of lists that it was lent
pub grows_by : (chain : List RosterRecord) (base new changed b n found : Entries) (gone lost : List ℕ) (base_at depth : ℕ) → b ≡ base → n ≡ new → gone ≡ lost → changed ≡ found →
    (ascend b ≡ true → ascend n ≡ true → IsDifference b n lost found) → length chain ≡ depth → depth ≤ deepest → rebuilt chain ≡ Some base → ascend new ≡ true →
    rebuilt (chain ++ Delta base_at depth gone changed ∷ []) ≡ Some new
grows_by chain base new changed b n found gone lost base_at depth is_b is_n is_gone is_changed finds long deep was rise =
    let d : IsDifference b n lost found = finds (ap ascend is_b ∙ rebuilt_rises chain base was) (ap ascend is_n ∙ rise) in
    let e : IsDifference base new lost found = subst (λ l. IsDifference l new lost found) is_b (subst (λ l. IsDifference b l lost found) is_n d) in
    (let back = sym long in λ i. rebuilt (chain ++ Delta base_at (back i) (is_gone i) (is_changed i) ∷ []))
    ∙ chain_grows chain base new found lost base_at (subst (λ k. k ≤ deepest) (sym long) deep) was rise e
