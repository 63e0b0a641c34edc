-- The keys of table 8 spell the certificates.
use Rattle.std.specs.Prelude.{◌&&◌, ◌==◌, is_some, map, nat_le, not}
use Rattle.std.specs.Int.{w32, from_be_bytes}
use Rattle.std.specs.Cmp.{tied_itself}
use Rattle.std.specs.Cmp.Lexicographic.{slice_cmp}
use Rattle.std.specs.FinMap.{find, get, get-empty, get-from_entries, contains_key-keys, empty, keys, same_map, slice_cmp-IsAntisymmetric, nat_cmp-IsAntisymmetric}
use Rattle.std.specs.List.{list_all, list_any}
use Rattle.std.specs.Ordering.{eq_by_cmp, is_eq, nat_cmp}
use Rattle.std.specs.declared.cmp.Ordering.{Ordering}
use Rattle.std.specs.declared.cmp.Ordering.TheVariants.{Less, Equal, Greater}
use Rattle.std.proofs.Common.{◌≡◌, ◌≤◌, ◌<◌, ◌^◌, ◌||◌, ℕ, Bool, true, false, cond, List, [], ◌∷◌, ◌++◌, length, take, drop, Option, Some, None, refl, sym, ap, ◌∙◌, subst, arith}
use Rattle.std.proofs.lemmas.List.{take_at, drop_at, append_assoc, append-nil}
use Rattle.std.proofs.lemmas.Bool.Decides.{nat_tests}
use Rattle.std.proofs.lemmas.Cmp.{nat_list_cmp_total}
use Rattle.std.proofs.lemmas.Nat.{from_be_bytes-to_be_bytes_4}
use Rattle.mtn_certs.specs.Certificates.{Certificate, IsIdBytes, IsLawfulCertificate, is_field, is_field_byte}
use Rattle.mtn_certs.specs.Order.{cert_cmp}
use Rattle.mtn_certs.proofs.Certs.{certs_total, exact_certs}
use Rattle.mtn_model.specs.State.{Certificates, Holds}
use Rattle.mtn_model.specs.Table.{Table}
use Rattle.mtn_records.specs.Fields.{count_text, field_text}
use Rattle.mtn_replay.proofs.FileLemmas.{no_certificate}
use Rattle.mtn_history.specs.Certificates.{AreCertRecords, cert_key}
use Rattle.mtn_store_laws.specs.Spelled.{behind_field, cert_of, certs_in, field_of}

-- a field and what is behind it
module _ (bytes rest : List ℕ) (fits : length bytes < 2 ^ 32) where
  whole : field_text bytes ++ rest ≡ count_text (length bytes) ++ (bytes ++ rest)
  whole = append_assoc (count_text (length bytes)) bytes rest

  counted : from_be_bytes w32 (take 4 (field_text bytes ++ rest)) ≡ length bytes
  counted = ap (λ (b : List ℕ). from_be_bytes w32 (take 4 b)) whole ∙ ap (from_be_bytes w32) (take_at (count_text (length bytes)) (bytes ++ rest) 4 refl) ∙ from_be_bytes-to_be_bytes_4 (length bytes) fits

  behind : drop 4 (field_text bytes ++ rest) ≡ bytes ++ rest
  behind = ap (drop 4) whole ∙ drop_at (count_text (length bytes)) (bytes ++ rest) 4 refl

  pub field_back : field_of (field_text bytes ++ rest) ≡ bytes
  field_back = ap (λ n. take n (drop 4 (field_text bytes ++ rest))) counted ∙ ap (take (length bytes)) behind ∙ take_at bytes rest (length bytes) refl

  pub rest_back : behind_field (field_text bytes ++ rest) ≡ rest
  rest_back = ap (λ n. drop n (drop 4 (field_text bytes ++ rest))) counted ∙ ap (drop (length bytes)) behind ∙ drop_at bytes rest (length bytes) refl

within : (n : ℕ) → n ≤ 67108864 → n < 2 ^ 32
within n le = omega (arith, le)

-- a certificate is that of its key
module _ (c : Certificate) (short : length c.name < 2 ^ 32) (lawful : IsLawfulCertificate c) (revision : IsIdBytes c.revision.0) (made_by : IsIdBytes c.key.0) where
  abbrev last : List ℕ
  last = field_text c.value ++ field_text c.signature

  abbrev from_key : List ℕ
  from_key = c.key.0 ++ last

  abbrev from_name : List ℕ
  from_name = field_text c.name ++ from_key

  name_on : drop 20 (cert_key c) ≡ from_name
  name_on = drop_at c.revision.0 from_name 20 revision.twenty

  key_on : behind_field (drop 20 (cert_key c)) ≡ from_key
  key_on = ap behind_field name_on ∙ rest_back c.name from_key short

  value_on : drop 20 (behind_field (drop 20 (cert_key c))) ≡ last
  value_on = ap (drop 20) key_on ∙ drop_at c.key.0 last 20 made_by.twenty

  signed : field_of (behind_field last) ≡ c.signature
  signed =
      ap field_of (rest_back c.value (field_text c.signature) (within (length c.value) lawful.value)) ∙ ap field_of (sym (append-nil (field_text c.signature)))
      ∙ field_back c.signature [] (within (length c.signature) lawful.signature)

  pub cert_back : cert_of (cert_key c) ≡ c
  cert_back = λ i. record {
    revision = record { 0 = take_at c.revision.0 from_name 20 revision.twenty i };
    name = (ap field_of name_on ∙ field_back c.name from_key short) i;
    key = record { 0 = (ap (take 20) key_on ∙ take_at c.key.0 last 20 made_by.twenty) i };
    value = (ap field_of value_on ∙ field_back c.value (field_text c.signature) (within (length c.value) lawful.value)) i;
    signature = (ap (λ (b : List ℕ). field_of (behind_field b)) value_on ∙ signed) i;
  }

second_of : (a b c : Bool) → (a && b && c) ≡ true → b ≡ true
second_of true true c e = refl
second_of true false c e = absurd cc
second_of false b c e = absurd cc

short_name : (name : List ℕ) → is_field name ≡ true → length name < 2 ^ 32
short_name name field = few (length name) (second_of (not (length name == 0)) (nat_le (length name) 255) (list_all is_field_byte name) field)
  where
    few : (n : ℕ) → nat_le n 255 ≡ true → n < 2 ^ 32
    few n e = let low : n ≤ 255 = grind (arith, nat_tests) in omega (arith, low)

-- ---- the set of these certificates

abbrev entry_of : List ℕ → Certificate × Unit {0}
entry_of key = (cert_of key, tt)

abbrev has : List (List ℕ) → List ℕ → Bool
has ks k = list_any (eq_by_cmp (slice_cmp nat_cmp) k) ks

tied : (r : Ordering) → is_eq r ≡ true → r ≡ Equal
tied Less e = absurd cc
tied Equal e = refl
tied Greater e = absurd cc

same_key : (k x : List ℕ) → eq_by_cmp (slice_cmp nat_cmp) k x ≡ true → k ≡ x
same_key k x e = slice_cmp-IsAntisymmetric nat_cmp-IsAntisymmetric k x (tied (slice_cmp nat_cmp k x) e)

-- a key of the list spells one that is found
spelled_found : (ks : List (List ℕ)) (k : List ℕ) (q : Certificate) → has ks k ≡ true → cert_of k ≡ q → find cert_cmp q (map entry_of ks) ≡ Some tt
spelled_found [] k q there is = absurd cc
spelled_found (x ∷ ks) k q there is =
    elim (eq_by_cmp cert_cmp q (cert_of x)) as (λ b. eq_by_cmp cert_cmp q (cert_of x) ≡ b → cond b (Some tt) (find cert_cmp q (map entry_of ks)) ≡ Some tt) [
      | true ↦ λ e. refl
      | false ↦ λ e. spelled_found ks k q (later (eq_by_cmp (slice_cmp nat_cmp) k x) refl there e) is
    ] refl
  where
    later : (b : Bool) → eq_by_cmp (slice_cmp nat_cmp) k x ≡ b → (b || has ks k) ≡ true → eq_by_cmp cert_cmp q (cert_of x) ≡ false → has ks k ≡ true
    later false same h e = h
    later true same h e = absurd (
        let spells : q ≡ cert_of x = sym is ∙ ap cert_of (same_key k x same) in
        let ties : eq_by_cmp cert_cmp q (cert_of x) ≡ true = ap (λ (c : Certificate). eq_by_cmp cert_cmp q c) (sym spells) ∙ ap is_eq (tied_itself certs_total q) in
        cc)

-- what is found is spelled by a key of the list
found_spelled : (ks : List (List ℕ)) (q : Certificate) → find cert_cmp q (map entry_of ks) ≡ Some tt → (k : List ℕ) × (has ks k ≡ true) × (cert_of k ≡ q)
found_spelled [] q e = absurd cc
found_spelled (x ∷ ks) q e =
    elim (eq_by_cmp cert_cmp q (cert_of x)) as (λ b. eq_by_cmp cert_cmp q (cert_of x) ≡ b → cond b (Some tt) (find cert_cmp q (map entry_of ks)) ≡ Some tt → (k : List ℕ) × (has (x ∷ ks) k ≡ true) × (cert_of k ≡ q)) [
      | true ↦ λ same h. (x, first (ap is_eq (tied_itself nat_list_cmp_total x)), sym (exact_certs q (cert_of x) (tied (cert_cmp q (cert_of x)) same)))
      | false ↦ λ same h. let o = found_spelled ks q h in (o.0, second (eq_by_cmp (slice_cmp nat_cmp) o.0 x) (has ks o.0) o.1, o.2)
    ] refl e
  where
    first : eq_by_cmp (slice_cmp nat_cmp) x x ≡ true → (eq_by_cmp (slice_cmp nat_cmp) x x || has ks x) ≡ true
    first e = ap (λ b. b || has ks x) e

    second : (a b : Bool) → b ≡ true → (a || b) ≡ true
    second true b e = refl
    second false b e = e

same_units : (x y : Option (Unit {0})) → (x ≡ Some tt → y ≡ Some tt) → (y ≡ Some tt → x ≡ Some tt) → x ≡ y
same_units (Some u) y to back = sym (to refl)
same_units None (Some u) to back = back refl
same_units None None to back = refl

in_keys : (t : Table) (k body : List ℕ) → get t k ≡ Some body → has (keys t) k ≡ true
in_keys t k body found = sym (contains_key-keys t k) ∙ ap is_some found

of_keys : (t : Table) (k : List ℕ) → has (keys t) k ≡ true → (body : List ℕ) × (get t k ≡ Some body)
of_keys t k there = by (get t k) refl
  where
    by : (o : Option (List ℕ)) → get t k ≡ o → (body : List ℕ) × (get t k ≡ Some body)
    by (Some body) is = (body, is)
    by None is = absurd (let none : is_some (get t k) ≡ false = ap is_some is in let some : is_some (get t k) ≡ true = contains_key-keys t k ∙ there in cc)

pub certs_are : (certs : Certificates) (t : Table) → AreCertRecords certs t → ((c : Certificate) → Holds certs c → IsLawfulCertificate c) → ((c : Certificate) → Holds certs c → IsIdBytes c.revision.0) →
    ((c : Certificate) → Holds certs c → IsIdBytes c.key.0) → certs ≡ certs_in t
certs_are certs t records lawful revisions made_by =
    same_map certs_total exact_certs certs (certs_in t) (λ q. same_units (get certs q) (find cert_cmp q (map entry_of (keys t))) (to q) (back q) ∙ sym (get-from_entries certs_total (map entry_of (keys t)) q))
  where
    own : (c : Certificate) → Holds certs c → cert_of (cert_key c) ≡ c
    own c held = cert_back c (short_name c.name (lawful c held).name) (lawful c held) (revisions c held) (made_by c held)

    to : (q : Certificate) → Holds certs q → find cert_cmp q (map entry_of (keys t)) ≡ Some tt
    to q held = spelled_found (keys t) (cert_key q) q (in_keys t (cert_key q) [] (records.each q held)) (own q held)

    back : (q : Certificate) → find cert_cmp q (map entry_of (keys t)) ≡ Some tt → Holds certs q
    back q found =
        let k = found_spelled (keys t) q found in
        let body = of_keys t k.0 k.1 in
        let o = records.only k.0 body.0 body.1 in
        let same : o.0 ≡ q = sym (own o.0 o.1) ∙ ap cert_of (sym o.2) ∙ k.2 in
        subst (Holds certs) same o.1

-- no certificate, no record
pub no_records : AreCertRecords empty empty
no_records = record {
  each = λ c held. absurd (no_certificate c held);
  only = λ key body found. absurd (let none : get (empty {X = List ℕ} {R = slice_cmp nat_cmp}) key ≡ None = get-empty (slice_cmp nat_cmp) key in cc);
}
