-- Counting the keys of a table, one after the other.
use Rattle.std.specs.Prelude.{IfSome, IsTrue, ◌↔◌}
use Rattle.std.specs.List.{Contains, remove}
use Rattle.std.proofs.Common.{◌≡◌, ◌<◌, ◌≤◌, ◌+◌, ℕ, zero, suc, Bool, true, false, not, List, [], ◌∷◌, ◌++◌, length, Option, Some, get_or, refl, sym, subst, arith, add-one}
use Rattle.std.proofs.lemmas.Cmp.{nat_list_cmp_total}
use Rattle.std.proofs.lemmas.List.{length-append}
use Rattle.std.proofs.lemmas.List.Edits.{length-remove}
use Rattle.std.proofs.lemmas.List.Elements.{Contains-append_left, Contains-push}
use Rattle.mtn_model.specs.Table.{Contents, body_at}
use Rattle.mtn_ports.specs.Kept.{AreKeyed, IsAbove, IsAboveIf, IsNextKey, Same}
use Rattle.mtn_ports.proofs.KeptLemmas.{if_same}
use Rattle.mtn_check.specs.Tables.{AreTallied, HasAtMost, IsCountTo, IsTally, KeyRule}
use Rattle.mtn_check.specs.declared.few.Tallies.{Tallies}
use Rattle.mtn_check.specs.declared.few.Tally.{Tally}
use Rattle.mtn_check.proofs.Others.{same_place, still_there}
use Rattle.mtn_check.proofs.Order.{not_itself}
use Rattle.mtn_check.proofs.Scanning.{AreKeptTo, all_kept, none_yet, one_more}
use Rattle.mtn_check.proofs.Told.{each_both, each_told}

-- a record whose key is one of these
abbrev pub IsKeyAmong : List (List ℕ) → KeyRule
IsKeyAmong keys key body = Contains keys key

-- the keys of a table up to one, so many
record KeysTo (table : ℕ) (c : Contents) (i : ℕ) (last : List ℕ) : Type 0 where
  keys : List (List ℕ)
  long : length keys ≡ i
  all : AreKeptTo table (IsKeyAmong keys) c last

module _ (table : ℕ) (c : Contents) where
  keys_to : (i : ℕ) (last : List ℕ) → IsCountTo table c i last → KeysTo table c i last
  keys_to zero last first = record { keys = []; long = refl; all = none_yet table (IsKeyAmong []) c last first }
  keys_to (suc i) key (last, before, above, there, between) =
      let k = keys_to i last before in
      let long = length-append k.keys (key ∷ []) in
      record {
        keys = k.keys ++ key ∷ [];
        long = omega (arith, long, k.long);
        all = one_more table (IsKeyAmong (k.keys ++ key ∷ [])) c last key (λ x b some far at. Contains-append_left k.keys (key ∷ []) x (k.all x b some far at)) (above, (λ body at. Contains-push k.keys key), between);
      }

  -- a list that has the keys up to one still has those below it when that one is taken away
  others_left : (last key : List ℕ) → IsAbove last key → (keys : List (List ℕ)) (at : ℕ) → at < length keys → get_or keys at key ≡ key → ((k b : List ℕ) → (IsAbove key k → ⊥) → body_at c table k ≡ Some b → Contains keys k) →
      (k b : List ℕ) → (IsAbove last k → ⊥) → body_at c table k ≡ Some b → Contains (remove keys at) k
  others_left last key above keys at within own all k b far there =
      let one = all k b (λ over. far (nat_list_cmp_total.trans last key k above over)) there in
      still_there keys at within k one.0 one.1 one.2 (λ e. far (subst (IsAbove last) (sym (same_place keys at within k key one.0 one.2 own e)) above))

  -- a list that has them all is as long
  at_least : (i : ℕ) (last : List ℕ) → IsCountTo table c i last → (keys : List (List ℕ)) → ((key body : List ℕ) → (IsAbove last key → ⊥) → body_at c table key ≡ Some body → Contains keys key) → i ≤ length keys
  at_least zero last first keys all = omega arith
  at_least (suc i) key (last, before, above, there, between) keys all =
      let own = all key there.0 (not_itself key) there.1 in
      let less = length-remove keys own.0 own.1 in
      let rest = at_least i last before (remove keys own.0) (others_left last key above keys own.0 own.1 own.2 all) in
      omega (arith, less, rest)

  none_more : (i most : ℕ) (last key : List ℕ) → i ≤ most → AreKeyed c → IsCountTo table c i last → IsNextKey c table last false key → HasAtMost table most c
  none_more i most last key le keyed so_far none =
      let k = keys_to i last so_far in
      (k.keys, omega (arith, k.long, le), all_kept table (IsKeyAmong k.keys) c last keyed k.all none)

  too_many : (most : ℕ) (key : List ℕ) → IsCountTo table c (suc most) key → HasAtMost table most c → ⊥
  too_many most key so_far (keys, few, all) = let long = at_least (suc most) key so_far keys (λ k b far at. all k b at) in omega (arith, long, few)

  one_key_more : (i : ℕ) (last key : List ℕ) → IsCountTo table c i last → IsAboveIf last true key → IsNextKey c table last true key → IsCountTo table c (suc i) key
  one_key_more i last key so_far above next = (last, so_far, above, next.0, next.1)

  -- what one key more than so many says
  counted : (most : ℕ) (last key : List ℕ) (found : Bool) → AreKeyed c → IsCountTo table c most last → IsAboveIf last found key → IsNextKey c table last found key → IsTrue (not found) ↔ HasAtMost table most c
  counted most last key true keyed so_far above next = ((λ no. absurd (let e : false ≡ true = no in cc)), λ few. absurd (too_many most key (one_key_more most last key so_far above next) few))
  counted most last key false keyed so_far above next = ((λ _. none_more most most last key (omega arith) keyed so_far next), λ _. refl)

-- ---- where the records are told

module _ (old new : Option Contents) (table i : ℕ) (last shown : List ℕ) (kept : Same old new) (is : shown ≡ last) (so_far : IfSome old (λ c. IsCountTo table c i last)) where
  now_so_far : IfSome new (λ c. IsCountTo table c i shown)
  now_so_far = subst (λ l. IfSome new (λ c. IsCountTo table c i l)) (sym is) (if_same old new (λ c. IsCountTo table c i last) kept so_far)

  keyed_so_far : IfSome new AreKeyed → IfSome new (λ c. AreKeyed c × IsCountTo table c i shown)
  keyed_so_far keyed = each_both new AreKeyed (λ c. IsCountTo table c i shown) (λ c. AreKeyed c × IsCountTo table c i shown) (λ c x y. (x, y)) keyed now_so_far

  pub more_told : (found : Bool) (key out : List ℕ) → found ≡ true → out ≡ key → IsAboveIf shown found key → IfSome new (λ c. IsNextKey c table shown found key) → IfSome new (λ c. IsCountTo table c (i + 1) out)
  more_told found key out there same above next =
      let above_it : IsAboveIf shown true key = subst (λ b. IsAboveIf shown b key) there above in
      each_both new (λ c. IsCountTo table c i shown) (λ c. IsNextKey c table shown found key) (λ c. IsCountTo table c (i + 1) out)
      (λ c x y. subst (IsCountTo table c (i + 1)) (sym same) (rw add-one (one_key_more table c i shown key x above_it (subst (λ b. IsNextKey c table shown b key) there y)))) now_so_far next

  pub none_told : (most : ℕ) (found : Bool) (key : List ℕ) → found ≡ false → i ≤ most → IfSome new AreKeyed → IfSome new (λ c. IsNextKey c table shown found key) → IfSome new (λ c. IsTrue true ↔ HasAtMost table most c)
  none_told most found key ends le keyed next =
      each_both new (λ c. AreKeyed c × IsCountTo table c i shown) (λ c. IsNextKey c table shown found key) (λ c. IsTrue true ↔ HasAtMost table most c)
      (λ c x y. ((λ _. none_more table c i most shown key le x.0 x.1 (subst (λ b. IsNextKey c table shown b key) ends y)), λ _. refl)) (keyed_so_far keyed) next

  pub counted_told : (found : Bool) (key : List ℕ) → IfSome new AreKeyed → IsAboveIf shown found key → IfSome new (λ c. IsNextKey c table shown found key) → IfSome new (λ c. IsTrue (not found) ↔ HasAtMost table i c)
  counted_told found key keyed above next =
      each_both new (λ c. AreKeyed c × IsCountTo table c i shown) (λ c. IsNextKey c table shown found key) (λ c. IsTrue (not found) ↔ HasAtMost table i c)
      (λ c x y. counted table c i shown key found x.0 x.1 above y) (keyed_so_far keyed) next

-- as many as there may be, where no more are left to count
pub all_counted : (i most : ℕ) (told : Option Contents) (A : ℕ → Contents → Type 0) → (i < most → ⊥) → IfSome told (λ _. i ≤ most) → IfSome told (A i) → IfSome told (A most)
all_counted i most told A ends within is = each_both told (λ _. i ≤ most) (A i) (A most) (λ c le a. subst (λ n. A n c) (let same : i ≡ most = omega (arith, le, ends) in same) a) within is

-- one key more
pub more_tallied : (old new : Option Contents) (table most : ℕ) (t u : Tally) (shown : List ℕ) (kept : Same old new) (is : shown ≡ t.last.items) (was : IfSome old (λ c. IsTally table most c t)) →
    (found : Bool) (key : List ℕ) → found ≡ true → u.last.items ≡ key → u.found ≡ t.found + 1 → t.found + 1 ≤ most → IsAboveIf shown found key → IfSome new (λ c. IsNextKey c table shown found key) → IfSome new (λ c. IsTally table most c u)
more_tallied old new table most t u shown kept is was found key there same up within above next =
    let so_far = each_told old (λ c. IsTally table most c t) (λ c. IsCountTo table c t.found t.last.items) (λ c x. x.0) was in
    let told = more_told old new table t.found t.last.items shown kept is so_far found key u.last.items there same above next in
    each_told new (λ c. IsCountTo table c (t.found + 1) u.last.items) (λ c. IsTally table most c u) (λ c x. (subst (λ i. IsCountTo table c i u.last.items) (sym up) x, omega (arith, up, within))) told

-- all three, each of its moment
pub all_tallied : (n : ℕ) (first mid new : Option Contents) → Same first mid → Same mid new → (t : Tallies) →
    IfSome first (λ c. IsTally 3 n c t.texts) → IfSome mid (λ c. IsTally 4 n c t.log) → IfSome new (λ c. IsTally 5 n c t.rosters) → IfSome new (λ c. AreTallied n c t)
all_tallied n first mid new kept more t texts log rosters =
    let both = each_both mid (λ c. IsTally 3 n c t.texts) (λ c. IsTally 4 n c t.log) (λ c. IsTally 3 n c t.texts × IsTally 4 n c t.log) (λ c x y. (x, y)) (if_same first mid (λ c. IsTally 3 n c t.texts) kept texts) log in
    each_both new (λ c. IsTally 3 n c t.texts × IsTally 4 n c t.log) (λ c. IsTally 5 n c t.rosters) (λ c. AreTallied n c t) (λ c x y. record { texts = x.0; log = x.1; rosters = y }) (if_same mid new (λ c. IsTally 3 n c t.texts × IsTally 4 n c t.log) more both) rosters
