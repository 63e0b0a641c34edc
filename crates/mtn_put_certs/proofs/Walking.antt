-- Record by record behind a front.
use Rattle.std.specs.Prelude.{Contains, IfSome, is_some}
use Rattle.std.specs.Cmp.{nat_cmp_total, tied_itself}
use Rattle.std.specs.Cmp.Lexicographic.{pointwise, slice_cmp}
use Rattle.std.specs.FinMap.{slice_cmp-IsAntisymmetric, nat_cmp-IsAntisymmetric}
use Rattle.std.specs.Ordering.{nat_cmp, ordering_reverse, ordering_then}
use Rattle.std.specs.declared.cmp.Ordering.{Ordering}
use Rattle.std.specs.declared.cmp.Ordering.TheVariants.{Less, Equal, Greater}
use Rattle.std.proofs.Common.{◌≡◌, ◌↔◌, ◌⊎◌, ⊎_elim, inl, inr, ℕ, Bool, true, false, List, [], ◌∷◌, ◌++◌, length, take, drop, Option, Some, None, refl, sym, ap, ◌∙◌, subst, eqb}
use Rattle.std.proofs.lemmas.Bool.Decides.{Decides-eqb}
use Rattle.std.proofs.lemmas.Cmp.{nat_list_cmp_total}
use Rattle.std.proofs.lemmas.List.Elements.{Contains-append_left, Contains-push, Contains-push_cases}
use Rattle.std.proofs.lemmas.Slice.Eq.{starts_is}
use Rattle.mtn_base.proofs.IdOrder.{contains_nil}
use Rattle.mtn_model.specs.Table.{Contents, body_at}
use Rattle.mtn_ports.specs.Kept.{IsAbove, IsAboveIf, IsBodyIf, IsNextKey, with_all}
use Rattle.mtn_ports.specs.declared.batch.Put.{Put}
use Rattle.mtn_history.specs.declared.pending.Pending.{Pending}
use Rattle.mtn_put_certs.specs.Walking.{IsFollowing, IsFrom, IsHeldBehind}

-- ---- the order of keys

which : (a b : List ℕ) → IsAbove a b ⊎ ((a ≡ b) ⊎ IsAbove b a)
which a b = by (slice_cmp nat_cmp a b) refl
  where
    by : (o : Ordering) → slice_cmp nat_cmp a b ≡ o → IsAbove a b ⊎ ((a ≡ b) ⊎ IsAbove b a)
    by Less is = inl is
    by Equal is = inr (inl (slice_cmp-IsAntisymmetric nat_cmp-IsAntisymmetric a b is))
    by Greater is = inr (inr (nat_list_cmp_total.antisymm b a ∙ ap ordering_reverse is))

not_itself : (a : List ℕ) → IsAbove a a → ⊥
not_itself a e = let same : slice_cmp nat_cmp a a ≡ Equal = tied_itself nat_list_cmp_total a in cc

not_both : (a b : List ℕ) → IsAbove a b → IsAbove b a → ⊥
not_both a b x y = not_itself a (nat_list_cmp_total.trans a b a x y)

on : (a b c : List ℕ) → IsAbove a b → IsAbove b c → IsAbove a c
on a b c x y = nat_list_cmp_total.trans a b c x y

-- what is not above, and another above it
from_on : (front last key : List ℕ) → IsFrom front last → IsAbove last key → IsAbove front key
from_on front last key from above = ⊎_elim (λ a. on front last key a above) (λ r. ⊎_elim (λ e. subst (λ f. IsAbove f key) (sym e) above) (λ b. absurd (from b)) r) (which front last)

heads : (x y : ℕ) (xs ys rest : List ℕ) → (IsAbove xs ys → IsAbove ys (xs ++ rest) → (more : List ℕ) × (ys ≡ xs ++ more)) → (o : Ordering) → nat_cmp x y ≡ o →
    ordering_then (nat_cmp x y) (slice_cmp nat_cmp xs ys) ≡ Less → ordering_then (nat_cmp y x) (slice_cmp nat_cmp ys (xs ++ rest)) ≡ Less → (more : List ℕ) × (y ∷ ys ≡ (x ∷ xs) ++ more)
heads x y xs ys rest tails Less is a b =
    absurd (let second : Greater ≡ Less = ap (λ o. ordering_then o (slice_cmp nat_cmp ys (xs ++ rest))) (sym (nat_cmp_total.antisymm y x ∙ ap ordering_reverse is)) ∙ b in cc)
heads x y xs ys rest tails Greater is a b = absurd (let first : Greater ≡ Less = ap (λ o. ordering_then o (slice_cmp nat_cmp xs ys)) (sym is) ∙ a in cc)
heads x y xs ys rest tails Equal is a b =
    let first : slice_cmp nat_cmp xs ys ≡ Less = ap (λ o. ordering_then o (slice_cmp nat_cmp xs ys)) (sym is) ∙ a in
    let second : slice_cmp nat_cmp ys (xs ++ rest) ≡ Less = ap (λ o. ordering_then o (slice_cmp nat_cmp ys (xs ++ rest))) (sym (nat_cmp_total.antisymm y x ∙ ap ordering_reverse is)) ∙ b in
    let same = sym (nat_cmp-IsAntisymmetric x y is) in
    let r = tails first second in
    (r.0, λ i. same i ∷ r.1 i)

-- what stands between a front and what goes on behind it goes on behind it
between : (front key rest : List ℕ) → IsAbove front key → IsAbove key (front ++ rest) → (more : List ℕ) × (key ≡ front ++ more)
between [] key rest a b = (key, refl)
between (x ∷ xs) [] rest a b = absurd cc
between (x ∷ xs) (y ∷ ys) rest a b = heads x y xs ys rest (λ c d. between xs ys rest c d) (nat_cmp x y) refl a b

-- ---- one step

module _ (c : Contents) (table : ℕ) (front last : List ℕ) where
  never : (other : List ℕ) → body_at c table other ≡ None → IsHeldBehind c table front other → ⊥
  never other none held = let some : is_some (body_at c table other) ≡ true = held.1 in let no : is_some (body_at c table other) ≡ false = ap is_some none in cc

  pub none_follows : (key : List ℕ) → IsNextKey c table last false key → IsFollowing c table front last None
  none_follows key next other above held = never other (next other above) held

  pub record_follows : (key body : List ℕ) (test : Bool) → IsFrom front last → IsAbove last key → IsNextKey c table last true key → body_at c table key ≡ Some body → test ≡ pointwise eqb front (take (length front) key) → test ≡ true →
      IsFollowing c table front last (Some (key, body))
  record_follows key body test from above next own is begins = (
    record { above = from_on front last key from above; rest = drop (length front) key; whole = (starts_is Decides-eqb key front test is).0 begins },
    own,
    above,
    λ other a b held. never other (next.1 other a b) held,
  )

  pub past_front : (key : List ℕ) (test : Bool) → IsFrom front last → IsAbove last key → IsNextKey c table last true key → test ≡ pointwise eqb front (take (length front) key) → test ≡ false → IsFollowing c table front last None
  past_front key test from above next is begins other a held =
      ⊎_elim (λ b. never other (next.1 other a b) held)
      (λ r. ⊎_elim (λ e. goes_on held.0.rest (sym e ∙ held.0.whole)) (λ b. let m = between front key held.0.rest (from_on front last key from above) (subst (IsAbove key) held.0.whole b) in goes_on m.0 m.1) r)
      (which other key)
    where
      goes_on : (rest : List ℕ) → key ≡ front ++ rest → ⊥
      goes_on rest whole = let begun : test ≡ true = (starts_is Decides-eqb key front test is).1 rest whole in cc

-- ---- what was found so far

-- the items that are wanted up to a key, each with a key of its own
pub record AreUpTo {A : Type 0} (Is : A → Type 0) (key_of : A → List ℕ) (last : List ℕ) (items : List A) : Type 0 where
  pub sound : (x : A) → Contains items x → Is x
  pub all : (x : A) → Is x → (IsAbove last (key_of x) → ⊥) → Contains items x

module _ {A : Type 0} (Is : A → Type 0) (key_of : A → List ℕ) where
  pub none_yet : (front : List ℕ) → ((x : A) → Is x → IsAbove front (key_of x)) → AreUpTo Is key_of front []
  none_yet front above = record { sound = λ x in_none. absurd (contains_nil in_none); all = λ x is far. absurd (far (above x is)) }

  not_above : (a k : List ℕ) → (a ≡ k) ⊎ IsAbove k a → IsAbove a k → ⊥
  not_above a k (inl e) above = not_itself k (subst (λ x. IsAbove x k) e above)
  not_above a k (inr b) above = not_both a k above b

  module _ (last key : List ℕ) (items : List A) (between : (x : A) → Is x → IsAbove last (key_of x) → IsAbove (key_of x) key → ⊥) (so_far : AreUpTo Is key_of last items) where
    earlier : (x : A) → Is x → IsAbove (key_of x) key → Contains items x
    earlier x is under = ⊎_elim (λ above. absurd (between x is above under)) (λ r. so_far.all x is (not_above last (key_of x) r)) (which last (key_of x))

    pub one_more : (item : A) → Is item → ((x : A) → Is x → key_of x ≡ key → item ≡ x) → AreUpTo Is key_of key (items ++ item ∷ [])
    one_more item own alone = record {
      sound = λ x among. ⊎_elim (λ old. so_far.sound x old) (λ new. subst Is new own) (Contains-push_cases items item x among);
      all = λ x is far. ⊎_elim (λ past. absurd (far past))
          (λ r. ⊎_elim (λ e. subst (Contains (items ++ item ∷ [])) (alone x is (sym e)) (Contains-push items item)) (λ under. Contains-append_left items (item ∷ []) x (earlier x is under)) r) (which key (key_of x));
    }

    pub none_more : ((x : A) → Is x → key_of x ≡ key → ⊥) → AreUpTo Is key_of key items
    none_more other = record {
      sound = so_far.sound;
      all = λ x is far. ⊎_elim (λ past. absurd (far past)) (λ r. ⊎_elim (λ e. absurd (other x is (sym e))) (λ under. earlier x is under) r) (which key (key_of x));
    }

  pub at_end : (last : List ℕ) (items : List A) → ((x : A) → Is x → IsAbove last (key_of x) → ⊥) → AreUpTo Is key_of last items → (x : A) → Contains items x ↔ Is x
  at_end last items none so_far x = (so_far.sound x, λ is. so_far.all x is (λ above. none x is above))

-- ---- where the records are told

module _ (told : Option Contents) (ps : List Put) (table : ℕ) (front last key body shown : List ℕ) (found test : Bool) (from : IsFrom front last) (there : found ≡ true) (above : IsAboveIf last found key)
    (next : IfSome told (λ c. IsNextKey (with_all c ps) table last found key)) (own : IfSome told (λ c. IsBodyIf (with_all c ps) table found key body)) (shows : shown ≡ key) (is : test ≡ pointwise eqb front (take (length front) shown)) where
  tests : test ≡ pointwise eqb front (take (length front) key)
  tests = is ∙ ap (λ k. pointwise eqb front (take (length front) k)) shows

  is_above : IsAbove last key
  is_above = subst (λ b. IsAboveIf last b key) there above

  over : (P : Contents → Type 0) → ((c : Contents) → IsNextKey (with_all c ps) table last true key → body_at (with_all c ps) table key ≡ Some body → P c) →
      (o : Option Contents) → IfSome o (λ c. IsNextKey (with_all c ps) table last found key) → IfSome o (λ c. IsBodyIf (with_all c ps) table found key body) → IfSome o P
  over P f None h b = tt
  over P f (Some c) h b = f c (subst (λ t. IsNextKey (with_all c ps) table last t key) there h) (subst (λ t. IsBodyIf (with_all c ps) table t key body) there b)

  pub told_past : test ≡ false → IfSome told (λ c. IsFollowing (with_all c ps) table front last None)
  told_past ends = over (λ c. IsFollowing (with_all c ps) table front last None) (λ c n b. past_front (with_all c ps) table front last key test from is_above n tests ends) told next own

  pub told_follows : (given held : List ℕ) → given ≡ key → held ≡ body → test ≡ true → IfSome told (λ c. IsFollowing (with_all c ps) table front last (Some (given, held)))
  told_follows given held same holds goes_on =
      over (λ c. IsFollowing (with_all c ps) table front last (Some (given, held)))
      (λ c n b. subst (λ k. IsFollowing (with_all c ps) table front last (Some (k, held))) (sym same) (subst (λ x. IsFollowing (with_all c ps) table front last (Some (key, x))) (sym holds)
      (record_follows (with_all c ps) table front last key body test from is_above n b tests goes_on))) told next own

pub from_itself : (front : List ℕ) → IsFrom front front
from_itself front above = not_itself front above

pub from_later : (front last key : List ℕ) → IsFrom front last → IsAbove last key → IsFrom front key
from_later front last key from above far = not_both front key (from_on front last key from above) far

-- the same of another moment
pub moved_to : (told : Option Contents) (p q : Pending) (table : ℕ) (front last shown : List ℕ) (found known : Option (List ℕ × List ℕ)) → p ≡ q → shown ≡ last → found ≡ known →
    IfSome told (λ c. IsFollowing (with_all c p.batch) table front shown found) → IfSome told (λ c. IsFollowing (with_all c q.batch) table front last known)
moved_to told p q table front last shown found known same shows is fact =
    subst (λ (x : Pending). IfSome told (λ c. IsFollowing (with_all c x.batch) table front last known)) same
    (subst (λ l. IfSome told (λ c. IsFollowing (with_all c p.batch) table front l known)) shows
    (subst (λ o. IfSome told (λ c. IsFollowing (with_all c p.batch) table front shown o)) is fact))
