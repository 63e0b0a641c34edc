-- Markings by ascending names.
use Rattle.std.specs.Prelude.{map, find, option_and_then, option_map, slice_get, insert}
use Rattle.std.specs.List.Sorted.{IsBinarySearchResult, IsSearchInRange}
use Rattle.std.specs.Result.{result_ok}
use Rattle.std.proofs.Common.{◌≡◌, ◌≢◌, ℕ, ◌<◌, ◌≤◌, Bool, true, false, cond, length, get_or, set, Result, Ok, Err, Some, refl, sym, ◌∙◌, ap, subst}
use Rattle.mtn_base.specs.Names.{name_cmp, same_name}
use Rattle.mtn_base.specs.declared.name.NodeName.{NodeName}
use Rattle.mtn_base.specs.Lists.{rises}
use Rattle.mtn_base.proofs.Orders.{names_total, exact_names}
use Rattle.mtn_base.proofs.Tests.{same_name-is, same_name-self}
use Rattle.mtn_marking.specs.declared.node.NodeMarks.{NodeMarks}
use Rattle.mtn_marking.specs.Marking.{Marks, marking_of}
use Rattle.mtn_base.proofs.Members.{taken}
use Rattle.mtn_marking.proofs.Keyed.{IsPlaceFor, place_for, halved, found_there, find-set, keys-set, find-insert, rises-insert}

abbrev pub name_of : NodeMarks → NodeName
name_of m = m.name

pub halved_names : (ms : Marks) → rises name_cmp (map name_of ms) ≡ true → (n : NodeName) (r : Result ℕ ℕ) →
    IsSearchInRange r (length ms) → IsBinarySearchResult (λ m. name_cmp (name_of m) n) ms r →
    option_and_then (slice_get ms) (result_ok r) ≡ find (λ (m : NodeMarks). same_name m.name n) ms
halved_names = halved name_cmp name_of same_name names_total same_name-is same_name-self exact_names

-- a node that stands at a place is the one that is found by its name
pub stands_named : (ms : Marks) → rises name_cmp (map name_of ms) ≡ true → (n : NodeName) (i : ℕ) (m : NodeMarks) → slice_get ms i ≡ Some m → same_name m.name n ≡ true →
    slice_get ms i ≡ find (λ (x : NodeMarks). same_name x.name n) ms
stands_named ms rising n i m there same =
    let hit = found_there name_cmp name_of same_name names_total same_name-is same_name-self exact_names ms rising i m there in
    there ∙ sym (subst (λ q. find (λ (x : NodeMarks). same_name x.name q) ms ≡ Some m) (same_name-is m.name n same) hit)

-- the map has this node in place of an earlier one of its name
pub IsPut : Marks → NodeMarks → Marks → Type 0
IsPut ms y new = (q : NodeName) → find (λ (m : NodeMarks). same_name m.name q) new ≡ cond (same_name y.name q) (Some y) (find (λ (m : NodeMarks). same_name m.name q) ms)

pub put_here : (ms new : Marks) (y : NodeMarks) (n : NodeName) → y.name ≡ n → IsPut ms y new → marking_of new n ≡ Some y.marking
unfolding IsPut
put_here ms new y n e h =
    ap (option_map (λ (m : NodeMarks). m.marking)) (h n ∙ ap (λ b. cond b (Some y) (find (λ (m : NodeMarks). same_name m.name n) ms)) (ap (λ k. same_name k n) e ∙ same_name-self n))

pub put_others : (ms new : Marks) (y : NodeMarks) (n : NodeName) → y.name ≡ n → IsPut ms y new → (q : NodeName) → q ≢ n → marking_of new q ≡ marking_of ms q
unfolding IsPut
put_others ms new y n e h q ne =
    ap (option_map (λ (m : NodeMarks). m.marking)) (h q ∙ ap (λ b. cond b (Some y) (find (λ (m : NodeMarks). same_name m.name q) ms)) (apart (same_name y.name q) refl))
  where
    apart : (b : Bool) → same_name y.name q ≡ b → b ≡ false
    apart true g = absurd (ne (sym (same_name-is y.name q g) ∙ e))
    apart false g = refl

-- a marking in place of the one that stands there
module _ (ms : Marks) (rising : rises name_cmp (map name_of ms) ≡ true) (n : NodeName) (i : ℕ) (lt : i < length ms)
    (at : IsBinarySearchResult (λ m. name_cmp (name_of m) n) ms (Ok i)) (old : NodeMarks) (is : old ≡ get_or ms i old) where
  place_name : old.name ≡ n
  place_name = exact_names old.name n (ap (λ (m : NodeMarks). name_cmp m.name n) is ∙ at old)

  there : slice_get ms i ≡ Some old
  there = let t = taken ms i lt in t.1 ∙ ap Some (sym (t.3 old) ∙ sym is)

  module _ (y : NodeMarks) (name : y.name ≡ old.name) where
    pub put_rising : rises name_cmp (map name_of (set ms i y)) ≡ true
    put_rising = ap (rises name_cmp) (keys-set name_cmp name_of same_name names_total same_name-is same_name-self exact_names ms i old y there (sym name)) ∙ rising

    pub put_is : IsPut ms y (set ms i y)
    unfolding IsPut
    put_is = find-set name_cmp name_of same_name names_total same_name-is same_name-self exact_names ms rising i old y there (sym name)

    pub put_name : y.name ≡ n
    put_name = name ∙ place_name

-- one more node in its place
module _ (ms : Marks) (rising : rises name_cmp (map name_of ms) ≡ true) (y : NodeMarks) (i : ℕ) (le : i ≤ length ms)
    (at : IsBinarySearchResult (λ m. name_cmp (name_of m) y.name) ms (Err i)) where
  place : IsPlaceFor name_cmp name_of ms y.name i
  place = place_for name_cmp name_of same_name names_total same_name-is same_name-self exact_names ms rising y.name i at

  pub new_rising : rises name_cmp (map name_of (insert ms i y)) ≡ true
  new_rising = rises-insert name_cmp name_of same_name names_total same_name-is same_name-self exact_names ms i y place rising

  pub new_is : IsPut ms y (insert ms i y)
  unfolding IsPut
  new_is = find-insert name_cmp name_of same_name names_total same_name-is same_name-self exact_names ms i y place le
