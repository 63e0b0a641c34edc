-- A set of certificates with one for each key of a table.
use Rattle.std.specs.Prelude.{is_some}
use Rattle.std.specs.Cmp.{tied_itself}
use Rattle.std.specs.Cmp.Lexicographic.{slice_cmp}
use Rattle.std.specs.FinMap.{find, from_entries, get, get-from_entries, contains_key-keys, keys, slice_cmp-IsAntisymmetric, nat_cmp-IsAntisymmetric}
use Rattle.std.specs.List.{list_any}
use Rattle.std.specs.Ordering.{eq_by_cmp, is_eq, nat_cmp}
use Rattle.std.specs.declared.cmp.Ordering.{Ordering}
use Rattle.std.specs.declared.cmp.Ordering.TheVariants.{Less, Equal, Greater}
use Rattle.std.proofs.Common.{◌≡◌, ◌||◌, ℕ, Bool, true, false, cond, List, [], ◌∷◌, Option, Some, None, refl, sym, ap, ◌∙◌, subst}
use Rattle.std.proofs.lemmas.Cmp.{nat_list_cmp_total}
use Rattle.mtn_certs.specs.Certificates.{Certificate}
use Rattle.mtn_certs.specs.Order.{cert_cmp}
use Rattle.mtn_certs.proofs.Certs.{certs_total, exact_certs}
use Rattle.mtn_model.specs.State.{Certificates, Holds}
use Rattle.mtn_model.specs.Table.{Table}

abbrev has : List (List ℕ) → List ℕ → Bool
has ks k = list_any (eq_by_cmp (slice_cmp nat_cmp) k) ks

tied : (r : Ordering) → is_eq r ≡ true → r ≡ Equal
tied Less e = absurd cc
tied Equal e = refl
tied Greater e = absurd cc

same_key : (k x : List ℕ) → eq_by_cmp (slice_cmp nat_cmp) k x ≡ true → k ≡ x
same_key k x e = slice_cmp-IsAntisymmetric nat_cmp-IsAntisymmetric k x (tied (slice_cmp nat_cmp k x) e)

itself : (k : List ℕ) (ks : List (List ℕ)) → has (k ∷ ks) k ≡ true
itself k ks = ap (λ b. b || has ks k) (ap is_eq (tied_itself nat_list_cmp_total k))

second : (a b : Bool) → b ≡ true → (a || b) ≡ true
second true b e = refl
second false b e = e

in_rest : (x k : List ℕ) (ks : List (List ℕ)) → has ks k ≡ true → has (x ∷ ks) k ≡ true
in_rest x k ks there = second (eq_by_cmp (slice_cmp nat_cmp) k x) (has ks k) there

abbrev Entries : Type 0
Entries = List (Certificate × Unit {0})

found_first : (x : Certificate) (es : Entries) → find cert_cmp x ((x, tt) ∷ es) ≡ Some tt
found_first x es = ap (λ b. cond b (Some tt) (find cert_cmp x es)) (ap is_eq (tied_itself certs_total x))

found_later : (x y : Certificate) (es : Entries) → find cert_cmp x es ≡ Some tt → find cert_cmp x ((y, tt) ∷ es) ≡ Some tt
found_later x y es found = by (eq_by_cmp cert_cmp x y)
  where
    by : (b : Bool) → cond b (Some tt) (find cert_cmp x es) ≡ Some tt
    by true = refl
    by false = found

-- a certificate for each of some keys
module _ (R : List ℕ → Certificate → Type 0) where
  record Chosen (ks : List (List ℕ)) : Type 0 where
    entries : Entries
    to : (k : List ℕ) → has ks k ≡ true → (x : Certificate) × R k x × (find cert_cmp x entries ≡ Some tt)
    back : (x : Certificate) → find cert_cmp x entries ≡ Some tt → (k : List ℕ) × (has ks k ≡ true) × R k x

  one_more : (y : List ℕ) (ks : List (List ℕ)) → (x : Certificate) → R y x → Chosen ks → Chosen (y ∷ ks)
  one_more y ks x own rest = record {
    entries = (x, tt) ∷ rest.entries;
    to = λ k there. to k (eq_by_cmp (slice_cmp nat_cmp) k y) refl there;
    back = λ z found. back z (eq_by_cmp cert_cmp z x) refl found;
  }
    where
      to : (k : List ℕ) (b : Bool) → eq_by_cmp (slice_cmp nat_cmp) k y ≡ b → (b || has ks k) ≡ true → (z : Certificate) × R k z × (find cert_cmp z ((x, tt) ∷ rest.entries) ≡ Some tt)
      to k true same there = (x, subst (λ j. R j x) (sym (same_key k y same)) own, found_first x rest.entries)
      to k false same there = let o = rest.to k there in (o.0, o.1, found_later o.0 x rest.entries o.2)

      back : (z : Certificate) (b : Bool) → eq_by_cmp cert_cmp z x ≡ b → cond b (Some tt) (find cert_cmp z rest.entries) ≡ Some tt → (k : List ℕ) × (has (y ∷ ks) k ≡ true) × R k z
      back z true same found = (y, itself y ks, subst (R y) (sym (exact_certs z x (tied (cert_cmp z x) same))) own)
      back z false same found = let o = rest.back z found in (o.0, in_rest y o.0 ks o.1, o.2)

  choose : (ks : List (List ℕ)) → ((k : List ℕ) → has ks k ≡ true → (x : Certificate) × R k x) → Chosen ks
  choose [] each = record { entries = []; to = λ k there. absurd cc; back = λ x found. absurd cc }
  choose (y ∷ ks) each = let own = each y (itself y ks) in one_more y ks own.0 own.1 (choose ks (λ k there. each k (in_rest y k ks there)))

in_keys : (t : Table) (k b : List ℕ) → get t k ≡ Some b → has (keys t) k ≡ true
in_keys t k b at = sym (contains_key-keys t k) ∙ ap is_some at

of_keys : (t : Table) (k : List ℕ) → has (keys t) k ≡ true → (b : List ℕ) × (get t k ≡ Some b)
of_keys t k there = by (get t k) refl
  where
    by : (o : Option (List ℕ)) → get t k ≡ o → (b : List ℕ) × (get t k ≡ Some b)
    by (Some b) is = (b, is)
    by None is = absurd (let none : is_some (get t k) ≡ false = ap is_some is in let some : is_some (get t k) ≡ true = contains_key-keys t k ∙ there in cc)

-- where a relation has a certificate for each key of a table, a set has one for each, and no others
module _ (R : List ℕ → Certificate → Type 0) (t : Table) (each : (k b : List ℕ) → get t k ≡ Some b → (x : Certificate) × R k x) where
  chosen : Chosen R (keys t)
  chosen = choose R (keys t) (λ k there. let b = of_keys t k there in each k b.0 b.1)

  pub certs : Certificates
  certs = from_entries chosen.entries

  pub cert_of_key : (k b : List ℕ) → get t k ≡ Some b → (x : Certificate) × R k x × Holds certs x
  unfolding certs
  cert_of_key k b at =
      let o = chosen.to k (in_keys t k b at) in
      (o.0, o.1, get-from_entries certs_total chosen.entries o.0 ∙ o.2)

  pub key_of_cert : (x : Certificate) → Holds certs x → (k : List ℕ) × R k x
  unfolding certs
  key_of_cert x held =
      let o = chosen.back x (sym (get-from_entries certs_total chosen.entries x) ∙ held) in
      (o.0, o.2)
