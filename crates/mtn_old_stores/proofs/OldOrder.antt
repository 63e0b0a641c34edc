-- The order of older certificates, and the keys of their records.
use Rattle.std.specs.Prelude.{◌&&◌, ◌==◌, nat_le, not}
use Rattle.std.specs.Cmp.{IsTotalOrder, on_total, then_total}
use Rattle.std.specs.List.{list_all}
use Rattle.std.specs.Ordering.{ordering_then}
use Rattle.std.specs.declared.cmp.Ordering.{Ordering}
use Rattle.std.specs.declared.cmp.Ordering.TheVariants.{Less, Equal, Greater}
use Rattle.std.proofs.Common.{◌≡◌, ◌≤◌, ◌<◌, ◌^◌, ℕ, Bool, true, false, List, [], length, refl, sym, ◌∙◌, arith}
use Rattle.std.proofs.lemmas.Bool.Decides.{nat_tests}
use Rattle.std.proofs.lemmas.List.{append-nil}
use Rattle.mtn_base.proofs.IdOrder.{by_id_total}
use Rattle.mtn_base.proofs.Orders.{bytes_total, exact_bytes}
use Rattle.mtn_certs.specs.Certificates.{IsIdBytes, is_field, is_field_byte}
use Rattle.mtn_records.specs.Apart.{field_apart, id_apart, pair_apart}
use Rattle.mtn_records.specs.Fields.{AreApart, IsField, IsTwenty, field_text, id_text}
use Rattle.mtn_old_stores.specs.Older.{IsLawfulOldCertificate, OldCertificate, old_cmp, old_key}
use Rattle.mtn_old_stores.specs.Reading.{AreParts, parts_of, parts_text}

pub old_total : IsTotalOrder old_cmp
old_total =
    then_total (then_total (then_total (then_total
    (on_total (λ (c : OldCertificate). c.name) bytes_total)
    (on_total (λ (c : OldCertificate). c.key) bytes_total))
    (on_total (λ (c : OldCertificate). c.value) bytes_total))
    (on_total (λ (c : OldCertificate). c.signature) bytes_total))
    (on_total (λ (c : OldCertificate). c.revision) by_id_total)

both_equal : (a b : Ordering) → ordering_then a b ≡ Equal → (a ≡ Equal) × (b ≡ Equal)
both_equal Less b h = absurd cc
both_equal Equal b h = (refl, h)
both_equal Greater b h = absurd cc

-- those that tie are one
pub exact_olds : (a b : OldCertificate) → old_cmp a b ≡ Equal → a ≡ b
exact_olds a b h =
    let r = both_equal _ _ h in
    let s = both_equal _ _ r.0 in
    let v = both_equal _ _ s.0 in
    let k = both_equal _ _ v.0 in
    λ i. record {
      revision = record { 0 = exact_bytes a.revision.0 b.revision.0 r.1 i };
      name = exact_bytes a.name b.name k.0 i;
      key = exact_bytes a.key b.key k.1 i;
      value = exact_bytes a.value b.value v.1 i;
      signature = exact_bytes a.signature b.signature s.1 i;
    }

-- ---- the key of a record

pub parts_apart : AreApart parts_text AreParts
parts_apart =
    pair_apart id_text IsTwenty _ _ id_apart (pair_apart field_text IsField _ _ field_apart (pair_apart field_text IsField _ _ field_apart (pair_apart field_text IsField field_text IsField field_apart field_apart)))

second_of : (a b c : Bool) → (a && b && c) ≡ true → b ≡ true
second_of true true c e = refl
second_of true false c e = absurd cc
second_of false b c e = absurd cc

few : (n : ℕ) → nat_le n 255 ≡ true → n < 2 ^ 32
few n e = let low : n ≤ 255 = grind (arith, nat_tests) in omega (arith, low)

within : (n : ℕ) → n ≤ 67108864 → n < 2 ^ 32
within n le = omega (arith, le)

short_field : (text : List ℕ) → is_field text ≡ true → length text < 2 ^ 32
short_field text field = few (length text) (second_of (not (length text == 0)) (nat_le (length text) 255) (list_all is_field_byte text) field)

pub are_parts : (c : OldCertificate) → IsLawfulOldCertificate c → IsIdBytes c.revision.0 → AreParts (parts_of c)
are_parts c lawful revision =
    (revision.twenty, (short_field c.name lawful.name, (short_field c.key lawful.key, (within (length c.value) lawful.value, within (length c.signature) lawful.signature))))

-- no two have one key
pub one_old_key : (c d : OldCertificate) → IsLawfulOldCertificate c → IsIdBytes c.revision.0 → IsLawfulOldCertificate d → IsIdBytes d.revision.0 → old_key c ≡ old_key d → c ≡ d
one_old_key c d law_c rev_c law_d rev_d same =
    let both = parts_apart (parts_of c) (parts_of d) [] [] (are_parts c law_c rev_c) (are_parts d law_d rev_d) (append-nil (old_key c) ∙ same ∙ sym (append-nil (old_key d))) in
    λ i. record { revision = (both.0 i).0; name = (both.0 i).1.0; key = (both.0 i).1.1.0; value = (both.0 i).1.1.1.0; signature = (both.0 i).1.1.1.1 }
