-- A map from keys to places, read by the bytes of its keys.
use Rattle.std.proofs.Common.{◌≡◌, ◌<◌, ℕ, suc, zero, Bool, true, false, cond, List, [], ◌∷◌, ◌++◌, length, get_or, Option, Some, None, refl, sym, ap, ◌∙◌, subst, ltb}
use Rattle.std.specs.Prelude.{bytes_eq, slice_get, Vec, IsSome}
use Rattle.std.specs.BTreeMap as tree
use Rattle.std.specs.BTreeMap.{BTreeMap, is_at}
use Rattle.std.specs.BTreeMap.Range.{IsRangeOf}
use Rattle.std.specs.Map.{lookup, IsKeyTest, AreApart, KeepsOthers}
use Rattle.std.specs.Ordering.{nat_cmp, is_eq, is_gt, ordering_reverse, eq_by_cmp}
use Rattle.std.specs.declared.cmp.Ordering.{Ordering}
use Rattle.std.specs.declared.cmp.Ordering.TheVariants.{Less}
use Rattle.std.specs.declared.ops.Bound.TheVariants.{Excluded, Unbounded}
use Rattle.std.specs.Cmp.{eq_by_cmp_equiv}
use Rattle.std.specs.Cmp.Lexicographic.{slice_cmp}
use Rattle.std.proofs.lemmas.Bool.{ltb-true}
use Rattle.std.proofs.lemmas.Cmp.{nat_list_cmp_total}
use Rattle.std.proofs.lemmas.Slice.Eq.{bytes_eq-Decides}
use Rattle.std.proofs.lemmas.Map.Text.{is_eq-slice_cmp}
use Rattle.std.proofs.lemmas.Option.{slice_get_read}
use Rattle.mtn_ports.specs.Kept.{LeastOf, IsAbove}
use Rattle.mtn_ports.specs.Newest.{place_under, place_of, SetsUnder}

-- ---- one map

-- keys are compared by their bytes
abbrev pub vec_cmp : {Z : Type 0} → Vec ℕ Z → Vec ℕ Z → Ordering
vec_cmp x y = slice_cmp nat_cmp x.items y.items

apart : (key other k : List ℕ) → bytes_eq other key ≡ false → is_eq (slice_cmp nat_cmp key k) ≡ true → is_eq (slice_cmp nat_cmp other k) ≡ false
apart key other k differ here = is_eq-slice_cmp other k ∙ ap (bytes_eq other) (sym ((bytes_eq-Decides key k).0 (sym (is_eq-slice_cmp key k) ∙ here))) ∙ differ

other_entries : {K X : Type 0} (eq : K → K → Bool) (test : K → Bool) (old new : List (K × X)) → KeepsOthers eq test old new →
    (other : K → Bool) → IsKeyTest eq other → AreApart test other → lookup other new ≡ lookup other old
unfolding KeepsOthers
other_entries eq test old new keeps = keeps

by_bytes : (f g : List ℕ → Option ℕ) (key : List ℕ) (w : Option ℕ) → g key ≡ w → ((k : List ℕ) → bytes_eq k key ≡ false → g k ≡ f k) →
    (k : List ℕ) → g k ≡ cond (bytes_eq k key) w (f k)
by_bytes f g key w here others k = by (bytes_eq k key) refl
  where
    by : (b : Bool) → bytes_eq k key ≡ b → g k ≡ cond b w (f k)
    by true e = ap g ((bytes_eq-Decides k key).0 e) ∙ here
    by false e = others k e

module _ {Z : Type 0} (m n : BTreeMap (Vec ℕ Z) ℕ) where
  pub sets_under : (key : List ℕ) (w : Option ℕ) → tree.UpdatesBy vec_cmp (λ k. slice_cmp nat_cmp key k.items) m n w → SetsUnder m n key w
  sets_under key w updates = by_bytes (place_under m) (place_under n) key w updates.1
      (λ other differ. other_entries (eq_by_cmp vec_cmp) (is_at (λ (k : Vec ℕ Z). slice_cmp nat_cmp key k.items)) m.entries n.entries updates.3 (is_at (λ (k : Vec ℕ Z). slice_cmp nat_cmp other k.items))
      (λ x y. (eq_by_cmp_equiv nat_list_cmp_total).congr other x.items y.items) (λ k. apart key other k.items differ))

  -- the same, where the key was handed in as a vector
  pub sets_under_vec : (v : Vec ℕ Z) (key : List ℕ) (w : Option ℕ) → v.items ≡ key → tree.UpdatesBy vec_cmp (vec_cmp v) m n w → SetsUnder m n key w
  sets_under_vec v key w same updates = subst (λ k. SetsUnder m n k w) same (sets_under v.items w updates)

-- a key that a look-up by bytes finds
key_found : {Z : Type 0} (es : List (Vec ℕ Z × ℕ)) (key : List ℕ) (place : ℕ) → lookup (is_at (λ k. slice_cmp nat_cmp key k.items)) es ≡ Some place →
    (v : Vec ℕ Z) × (key ≡ v.items)
key_found [] key place found = cc
key_found {Z} (e ∷ es) key place found = by (key_found es key place) (is_eq (slice_cmp nat_cmp key e.0.items)) refl found
  where
    by : (lookup (is_at (λ k. slice_cmp nat_cmp key k.items)) es ≡ Some place → (v : Vec ℕ Z) × (key ≡ v.items)) → (b : Bool) → is_eq (slice_cmp nat_cmp key e.0.items) ≡ b →
        cond b (Some e.1) (lookup (is_at (λ k. slice_cmp nat_cmp key k.items)) es) ≡ Some place → (v : Vec ℕ Z) × (key ≡ v.items)
    by among true same here = (e.0, (bytes_eq-Decides key e.0.items).0 (sym (is_eq-slice_cmp key e.0.items) ∙ same))
    by among false same later = among later

module _ {Z : Type 0} (m : BTreeMap (Vec ℕ Z) ℕ) (v : Vec ℕ Z) where
  -- the first entry of the range above a key
  least_first : (e : Vec ℕ Z × ℕ) (t : List (Vec ℕ Z × ℕ)) → IsRangeOf vec_cmp (Excluded v) Unbounded m (e ∷ t) → LeastOf (place_under m) v.items (Some e.0.items)
  least_first e t is = (is.1.0.0, (e.1, is.1.1), λ other above below. none other above below (place_under m other) refl)
    where
      none : (other : List ℕ) → IsAbove v.items other → IsAbove other e.0.items → (found : Option ℕ) → place_under m other ≡ found → place_under m other ≡ None
      none other above below None at = at
      none other above below (Some place) at =
          let q = key_found m.entries other place at in
          let there : place_under m q.0.items ≡ Some place = subst (λ k. place_under m k ≡ Some place) q.1 at in
          let high : IsAbove v.items q.0.items = subst (IsAbove v.items) q.1 above in
          let low : slice_cmp nat_cmp q.0.items e.0.items ≡ Less = subst (λ k. IsAbove k e.0.items) q.1 below in
          let not_above : is_gt (slice_cmp nat_cmp e.0.items q.0.items) ≡ false = is.2 q.0 (high, tt) (some_of (place_under m q.0.items) place there) in
          let above_it : is_gt (slice_cmp nat_cmp e.0.items q.0.items) ≡ true = ap is_gt (nat_list_cmp_total.antisymm e.0.items q.0.items ∙ ap ordering_reverse low) in
          cc
        where
          some_of : (o : Option ℕ) (x : ℕ) → o ≡ Some x → IsSome o
          some_of o x is_it = rw is_it refl

  -- nothing is above
  least_none : IsRangeOf vec_cmp (Excluded v) Unbounded m [] → LeastOf (place_under m) v.items None
  least_none is = λ other above. none other above (place_under m other) refl
    where
      none : (other : List ℕ) → IsAbove v.items other → (found : Option ℕ) → place_under m other ≡ found → place_under m other ≡ None
      none other above None at = at
      none other above (Some place) at =
          let q = key_found m.entries other place at in
          let there : place_under m q.0.items ≡ Some place = subst (λ k. place_under m k ≡ Some place) q.1 at in
          let missing : place_under m q.0.items ≡ None = is.5 refl q.0 (subst (IsAbove v.items) q.1 above, tt) in
          cc

  pub least_is : (after : List ℕ) (e : Vec ℕ Z × ℕ) (t r : List (Vec ℕ Z × ℕ)) (key : List ℕ) → v.items ≡ after → key ≡ e.0.items → r ≡ e ∷ t →
      IsRangeOf vec_cmp (Excluded v) Unbounded m r → LeastOf (place_under m) after (Some key)
  least_is after e t r key is_after is_key starts is =
      let found = least_first e t (subst (IsRangeOf vec_cmp (Excluded v) Unbounded m) starts is) in
      subst (λ k. LeastOf (place_under m) after (Some k)) (sym is_key) (subst (λ a. LeastOf (place_under m) a (Some e.0.items)) is_after found)

  pub least_is_none : (after : List ℕ) (r : List (Vec ℕ Z × ℕ)) → v.items ≡ after → r ≡ [] →
      IsRangeOf vec_cmp (Excluded v) Unbounded m r → LeastOf (place_under m) after None
  least_is_none after r is_after empty is =
      subst (λ a. LeastOf (place_under m) a None) is_after (least_none (subst (IsRangeOf vec_cmp (Excluded v) Unbounded m) empty is))

-- ---- the maps of all tables

-- an empty map more changes no look-up
pub place_of-append : {Z : Type 0} (ms : List (BTreeMap (Vec ℕ Z) ℕ)) (m : BTreeMap (Vec ℕ Z) ℕ) → m.entries ≡ [] →
    (table : ℕ) (key : List ℕ) → place_of (slice_get (ms ++ m ∷ []) table) key ≡ place_of (slice_get ms table) key
place_of-append [] m empty zero key = ap (lookup (is_at (λ k. slice_cmp nat_cmp key k.items))) empty
place_of-append [] m empty (suc table) key = refl
place_of-append (n ∷ ms) m empty zero key = refl
place_of-append (n ∷ ms) m empty (suc table) key = place_of-append ms m empty table key

-- the map of a table, as indexing reads it
pub map_at : {X : Type 0} (ms : List X) (i table : ℕ) (m : X) → i ≡ table → table < length ms → m ≡ get_or ms i m → slice_get ms table ≡ Some m
map_at ms i table m same below at = slice_get_read ms (length ms) table m refl below (subst (λ (j : ℕ). m ≡ get_or ms j m) same at)

-- the same, as `get` reads it
pub map_at_lent : {X : Type 0} (lent ms : List X) (i table : ℕ) (m : X) → lent ≡ ms → i ≡ table → true ≡ ltb i (length lent) → m ≡ get_or lent i m → slice_get ms table ≡ Some m
map_at_lent {X} lent ms i table m whole same below at =
    subst (λ (xs : List X). slice_get xs table ≡ Some m) whole (map_at lent i table m same (subst (λ (j : ℕ). j < length lent) same (ltb-true i (length lent) (sym below))) at)
