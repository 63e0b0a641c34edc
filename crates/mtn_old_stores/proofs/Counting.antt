-- Each certificate is read once, so that they are as many as the set has.
use Rattle.std.specs.Prelude.{Contains, IfOk}
use Rattle.std.specs.Cmp.{tied_itself}
use Rattle.std.specs.Cmp.Lexicographic.{slice_cmp}
use Rattle.std.specs.FinMap.{entries, entries_sorted, is_sorted, keys, len, len-entries}
use Rattle.std.specs.FinMap.Entries.{below_all}
use Rattle.std.specs.List.{AllByRecursion, IsDistinct, list_any}
use Rattle.std.specs.List.Sorted.{IsStrictlySortedBy}
use Rattle.std.specs.Ordering.{eq_by_cmp, is_lt, nat_cmp}
use Rattle.std.specs.declared.cmp.Ordering.{Ordering}
use Rattle.std.specs.declared.cmp.Ordering.TheVariants.{Less, Equal, Greater}
use Rattle.std.proofs.Common.{◌≡◌, ◌↔◌, ◌||◌, ◌&&◌, ℕ, Bool, true, false, T, List, [], ◌∷◌, ◌++◌, length, map, Option, Some, Result, Ok, Err, refl, sym, ap, ◌∙◌, subst}
use Rattle.std.proofs.lemmas.Cmp.{eq_by_cmp_equiv, nat_list_cmp_total}
use Rattle.std.proofs.lemmas.List.{length-map}
use Rattle.std.proofs.lemmas.Map.Keys.{IsDistinct-from_sorted, IsDistinct-push}
use Rattle.std.proofs.lemmas.Map.Made.{length-from_same_keys}
use Rattle.mtn_ports.specs.Kept.{IsAbove}
use Rattle.mtn_model.specs.Table.{Contents}
use Rattle.mtn_old_stores.specs.Older.{HoldsOld, IsLawfulOldCertificate, OldCertificate, OldCertificates, OldState, StandsOld, old_cmp, old_key}
use Rattle.mtn_old_stores.specs.Reading.{AreAllOld, IsFurther}
use Rattle.mtn_old_stores.proofs.AnyOrder.{has_it, in_it}
use Rattle.mtn_old_stores.proofs.Held.{among_keys, has, tied}
use Rattle.mtn_old_stores.proofs.OldOrder.{exact_olds, old_total}
use Rattle.mtn_old_stores.proofs.Putting.{keys_held}
use Rattle.mtn_old_stores.proofs.WalkLemmas.{are_held}

-- ---- what was read so far

-- these are lawful, none stands above the last key, and no two are one
pub record AreOnce (last : List ℕ) (certs : List OldCertificate) : Type 0 where
  pub below : AllByRecursion (λ (x : OldCertificate). IsAbove last (old_key x) → ⊥) certs
  pub apart : IsDistinct (eq_by_cmp old_cmp) certs
  pub lawful : AllByRecursion IsLawfulOldCertificate certs

pub none_once : (last : List ℕ) → AreOnce last []
unfolding IsDistinct
none_once last = record { below = tt; apart = tt; lawful = tt }

not_itself : (a : List ℕ) → IsAbove a a → ⊥
not_itself a e = let same : slice_cmp nat_cmp a a ≡ Equal = tied_itself nat_list_cmp_total a in cc

all_lawful : (certs : List OldCertificate) (x : OldCertificate) → AllByRecursion IsLawfulOldCertificate certs → IsLawfulOldCertificate x → AllByRecursion IsLawfulOldCertificate (certs ++ x ∷ [])
all_lawful [] x h l = (l, tt)
all_lawful (y ∷ certs) x h l = (h.0, all_lawful certs x h.1 l)

module _ (last key : List ℕ) (x : OldCertificate) (above : IsAbove last key) (own : key ≡ old_key x) where
  still : (certs : List OldCertificate) → AllByRecursion (λ (y : OldCertificate). IsAbove last (old_key y) → ⊥) certs → AllByRecursion (λ (y : OldCertificate). IsAbove key (old_key y) → ⊥) (certs ++ x ∷ [])
  still [] h = ((λ e. not_itself key (subst (IsAbove key) (sym own) e)), tt)
  still (y ∷ certs) h = ((λ e. h.0 (nat_list_cmp_total.trans last key (old_key y) above e)), still certs h.1)

  none_is : (certs : List OldCertificate) → AllByRecursion (λ (y : OldCertificate). IsAbove last (old_key y) → ⊥) certs → list_any (eq_by_cmp old_cmp x) certs ≡ false
  none_is [] h = refl
  none_is (y ∷ certs) h = by (none_is certs h.1) (eq_by_cmp old_cmp x y) refl
    where
      by : list_any (eq_by_cmp old_cmp x) certs ≡ false → (b : Bool) → eq_by_cmp old_cmp x y ≡ b → (b || list_any (eq_by_cmp old_cmp x) certs) ≡ false
      by rest true is = absurd (h.0 (subst (IsAbove last) (own ∙ ap old_key (exact_olds x y (tied (old_cmp x y) is))) above))
      by rest false is = rest

  once_more : (certs : List OldCertificate) → IsLawfulOldCertificate x → AreOnce last certs → AreOnce key (certs ++ x ∷ [])
  once_more certs law so_far = record {
    below = still certs so_far.below;
    apart = IsDistinct-push (eq_by_cmp_equiv old_total) certs x so_far.apart (none_is certs so_far.below);
    lawful = all_lawful certs x so_far.lawful law;
  }

pub one_more_once : (last key : List ℕ) (certs more : List OldCertificate) (x : OldCertificate) (found : Option OldCertificate) → found ≡ Some x → more ≡ certs ++ x ∷ [] → IsFurther last key found → AreOnce last certs → AreOnce key more
one_more_once last key certs more x found is made further so_far =
    let next : IsFurther last key (Some x) = subst (IsFurther last key) is further in
    subst (AreOnce key) (sym made) (once_more last key x next.0 next.1 certs next.2 so_far)

-- ---- how many

both : (a b : Bool) → T (a && b) → T a × T b
both true b h = (tt, h)
both false b h = absurd h

less : (r : Ordering) → T (is_lt r) → r ≡ Less
less Less h = refl
less Equal h = absurd h
less Greater h = absurd h

all_below : (x : OldCertificate) (es : List (OldCertificate × Unit {0})) → T (below_all old_cmp x es) → AllByRecursion (λ y. old_cmp x y ≡ Less) (map (λ e. e.0) es)
all_below x [] h = tt
all_below x (e ∷ es) h = let t = both (is_lt (old_cmp x e.0)) (below_all old_cmp x es) h in (less (old_cmp x e.0) t.0, all_below x es t.1)

rising : (es : List (OldCertificate × Unit {0})) → T (is_sorted old_cmp es) → IsStrictlySortedBy old_cmp (map (λ e. e.0) es)
unfolding IsStrictlySortedBy
rising [] h = tt
rising (e ∷ es) h = let t = both (below_all old_cmp e.0 es) (is_sorted old_cmp es) h in (all_below e.0 es t.0, rising es t.1)

same_bools : (a b : Bool) → (a ≡ true → b ≡ true) → (b ≡ true → a ≡ true) → a ≡ b
same_bools true b to back = sym (to refl)
same_bools false true to back = back refl
same_bools false false to back = refl

pub counted : (certs : OldCertificates) (list : List OldCertificate) → IsDistinct (eq_by_cmp old_cmp) list → ((x : OldCertificate) → Contains list x ↔ HoldsOld certs x) → length list ≡ len certs
counted certs list apart are =
    length-from_same_keys (eq_by_cmp_equiv old_total) list (keys certs) apart (IsDistinct-from_sorted old_cmp (keys certs) (rising (entries certs) (entries_sorted certs)))
    (λ q. same_bools (has list q) (has (keys certs) q) (λ e. among_keys certs q ((are q).0 (in_it list q e))) (λ e. has_it list q ((are q).1 (keys_held certs q e))))
    ∙ length-map (entries certs) (λ e. e.0)
    ∙ sym (len-entries certs)

pub counted_in : {E : Type 0} (f : List ℕ → List ℕ) (c : Contents) (s : OldState) {V : Type 0} (items : V → List OldCertificate) (r : Result V E) → StandsOld f c s → IfOk r (λ v. AreAllOld c (items v)) → IfOk r (λ v. IsDistinct (eq_by_cmp old_cmp) (items v)) →
    IfOk r (λ v. length (items v) ≡ len s.certs)
counted_in f c s items (Ok v) stands read once = counted s.certs (items v) once (are_held f c s (items v) stands read)
counted_in f c s items (Err e) stands read once = tt
