-- One certificate, one name, one id more.
use Rattle.std.specs.Borrow.{Bor}
use Rattle.std.specs.BTreeMap.{BTreeMap, get, is_at}
use Rattle.std.specs.Cmp.Lexicographic.{slice_cmp}
use Rattle.std.specs.List.{AllByRecursion}
use Rattle.std.specs.Ordering.{is_le, nat_cmp, ordering_reverse}
use Rattle.std.specs.Str.{bytes_eq}
use Rattle.std.specs.declared.cmp.Ordering.{Ordering}
use Rattle.std.specs.declared.cmp.Ordering.TheVariants.{Less, Equal, Greater}
use Rattle.std.proofs.Common.{◌≡◌, ◌<◌, ◌+◌, ℕ, zero, suc, cond, List, [], ◌∷◌, ◌++◌, length, drop, get_or, append_assoc, append-nil, Option, Some, None, refl, sym, ap, ◌∙◌, subst, arith}
use Rattle.std.proofs.lemmas.Cmp.{nat_list_cmp_total}
use Rattle.std.proofs.lemmas.Map.Text.{is_eq-slice_cmp}
use Rattle.mtn_base.proofs.Dropping.{drop_step}
use Rattle.mtn_base.specs.declared.id.Id.{Id}
use Rattle.mtn_certs.specs.Certificates.{Certificate}
use Rattle.mtn_certs.specs.declared.cert.KeyName.{KeyName}
use Rattle.mtn_history.specs.Certificates.{cert_key}
use Rattle.mtn_history.specs.Records.{put_of}
use Rattle.mtn_ports.specs.Kept.{IsAbove}
use Rattle.mtn_ports.specs.declared.batch.Put.{Put}
use Rattle.mtn_old_stores.specs.Older.{OldCertificate}
use Rattle.mtn_old_stores.specs.Migrating.{and_made_by, cert_puts, id_named, key_puts, made_by, under_ids}
use Rattle.mtn_old_stores.specs.Stores.{IsLeastUnknown}
use Rattle.mtn_old_stores.proofs.Migration.{with_first, with_greater, with_known, with_lesser}
use Rattle.mtn_migrating.specs.Working.{Adds, AreIdsOf, by_text, lesser_of}

-- ---- lists

pub one_more : {X : Type 0} (P : X → Type 0) (xs : List X) (x : X) → AllByRecursion P xs → P x → AllByRecursion P (xs ++ x ∷ [])
one_more P [] x all is = (is, tt)
one_more P (y ∷ xs) x all is = (all.0, one_more P xs x all.1 is)

pub at_place : {X : Type 0} (P : X → Type 0) (xs : List X) (i : ℕ) (d : X) → i < length xs → AllByRecursion P xs → P (get_or xs i d)
at_place P [] i d lt all = absurd (omega (arith, lt))
at_place P (x ∷ xs) zero d lt all = all.0
at_place P (x ∷ xs) (suc i) d lt all = at_place P xs i d (omega (arith, lt)) all.1

pub joined : {X : Type 0} (P : X → Type 0) (xs ys : List X) → AllByRecursion P xs → AllByRecursion P ys → AllByRecursion P (xs ++ ys)
joined P [] ys a b = b
joined P (x ∷ xs) ys a b = (a.0, joined P xs ys a.1 b)

-- ---- ids

-- one more name, before those of the table
pub ids_more : (table : List KeyName) (i : ℕ) (k : KeyName) (name : Bor (List ℕ)) (old new : BTreeMap (Bor (List ℕ)) Id) → i < length table → k ≡ get_or table i k → name.now ≡ k.name → AreIdsOf old (drop (i + 1) table) →
    ((q : Bor (List ℕ)) → get by_text new q ≡ cond (is_at (by_text name) q) (Some k.id) (get by_text old q)) → AreIdsOf new (drop i table)
ids_more table i k name old new lt is named so_far h q =
    h q
    ∙ ap (λ b. cond b (Some k.id) (get by_text old q)) (is_eq-slice_cmp name.now q.now ∙ ap (λ n. bytes_eq n q.now) named)
    ∙ ap (λ (o : Option Id). cond (bytes_eq k.name q.now) (Some k.id) o) (so_far q)
    ∙ sym (ap (λ l. id_named l q.now) (drop_step table i k lt is))

-- ---- certificates

beside : (o : Option Id) (y : OldCertificate) (xs ys : List Certificate) → and_made_by o y (xs ++ ys) ≡ and_made_by o y xs ++ ys
beside None y xs ys = refl
beside (Some id) y xs ys = refl

under_more : (table : List KeyName) (xs : List OldCertificate) (x : OldCertificate) → under_ids table (xs ++ x ∷ []) ≡ under_ids table xs ++ and_made_by (id_named table x.key) x []
under_more table [] x = refl
under_more table (y ∷ xs) x = ap (and_made_by (id_named table y.key) y) (under_more table xs x) ∙ beside (id_named table y.key) y (under_ids table xs) (and_made_by (id_named table x.key) x [])

puts_more : (xs ys : List Certificate) → cert_puts (xs ++ ys) ≡ cert_puts xs ++ cert_puts ys
puts_more [] ys = refl
puts_more (x ∷ xs) ys = ap (λ l. put_of 8 (cert_key x) [] ∷ l) (puts_more xs ys)

module _ (table : List KeyName) (xs : List OldCertificate) (x : OldCertificate) (before after : Option (List ℕ)) (base old new : List Put) where
  abbrev so_far : List Put
  so_far = cert_puts (under_ids table xs)

  with_this : (o : Option Id) → Adds o x before after old new → old ≡ base ++ so_far → new ≡ base ++ (so_far ++ cert_puts (and_made_by o x []))
  with_this (Some id) adds is = adds.1 ∙ ap (λ l. l ++ put_of 8 (cert_key (made_by id x)) [] ∷ []) is ∙ append_assoc base so_far (put_of 8 (cert_key (made_by id x)) [] ∷ [])
  with_this None adds is = adds.1 ∙ is ∙ ap (λ l. base ++ l) (sym (append-nil so_far))

  pub added_puts : Adds (id_named table x.key) x before after old new → old ≡ base ++ so_far → new ≡ base ++ cert_puts (under_ids table (xs ++ x ∷ []))
  added_puts adds is =
      with_this (id_named table x.key) adds is
      ∙ ap (λ l. base ++ l) (sym (ap cert_puts (under_more table xs x) ∙ puts_more (under_ids table xs) (and_made_by (id_named table x.key) x [])))

  not_above : (n : List ℕ) → slice_cmp nat_cmp n x.key ≡ Less → IsAbove x.key n → ⊥
  not_above n less above = let other : slice_cmp nat_cmp n x.key ≡ ordering_reverse Less = nat_list_cmp_total.antisymm n x.key ∙ ap ordering_reverse above in cc

  not_equal : (n : List ℕ) → slice_cmp nat_cmp n x.key ≡ Equal → IsAbove x.key n → ⊥
  not_equal n same above = let other : slice_cmp nat_cmp n x.key ≡ ordering_reverse Less = nat_list_cmp_total.antisymm n x.key ∙ ap ordering_reverse above in cc

  lesser : (n : List ℕ) → id_named table x.key ≡ None → IsLeastUnknown table xs (Some n) → (r : Ordering) → slice_cmp nat_cmp n x.key ≡ r → IsLeastUnknown table (xs ++ x ∷ []) (Some (cond (is_le r) n x.key))
  lesser n none u Less is = with_greater table xs x n (not_above n is) u
  lesser n none u Equal is = with_greater table xs x n (not_equal n is) u
  lesser n none u Greater is = with_lesser table xs x n none (nat_list_cmp_total.antisymm x.key n ∙ ap ordering_reverse is) u

  without : id_named table x.key ≡ None → (o : Option (List ℕ)) → IsLeastUnknown table xs o → IsLeastUnknown table (xs ++ x ∷ []) (Some (lesser_of o x.key))
  without none None u = with_first table xs x none u
  without none (Some n) u = lesser n none u (slice_cmp nat_cmp n x.key) refl

  pub added_unknown : Adds (id_named table x.key) x before after old new → IsLeastUnknown table xs before → IsLeastUnknown table (xs ++ x ∷ []) after
  added_unknown adds u = by (id_named table x.key) refl adds
    where
      by : (o : Option Id) → id_named table x.key ≡ o → Adds o x before after old new → IsLeastUnknown table (xs ++ x ∷ []) after
      by (Some id) is a = subst (IsLeastUnknown table (xs ++ x ∷ [])) (sym a.0) (with_known table xs x id before is u)
      by None is a = subst (IsLeastUnknown table (xs ++ x ∷ [])) (sym a.0) (without is before u)

-- ---- key names

pub keys_more : (xs : List KeyName) (k : KeyName) → key_puts (xs ++ k ∷ []) ≡ key_puts xs ++ put_of 7 k.id.0 k.name ∷ []
keys_more [] k = refl
keys_more (y ∷ xs) k = ap (λ l. put_of 7 y.id.0 y.name ∷ l) (keys_more xs k)
