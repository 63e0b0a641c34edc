-- Holding a certificate leads from a state to a state.
use Rattle.std.specs.Prelude.{◌&&◌, ◌==◌, IfSome, IsSome, MatchBool, is_none, nat_le, not}
use Rattle.std.specs.List.{list_all}
use Rattle.std.proofs.Common.{◌≡◌, ◌≤◌, ◌<◌, ◌^◌, ℕ, Bool, true, false, cond, List, [], ◌++◌, length, Option, Some, None, refl, sym, ap, ◌∙◌, subst, arith}
use Rattle.std.proofs.lemmas.Bool.Decides.{nat_tests}
use Rattle.std.proofs.lemmas.List.{append-nil}
use Rattle.std.specs.FinMap.{get-empty}
use Rattle.std.specs.Ordering.{nat_cmp}
use Rattle.std.specs.Cmp.Lexicographic.{slice_cmp}
use Rattle.mtn_base.specs.declared.refusal.Cause.TheVariants.{UnknownRevision}
use Rattle.mtn_certs.specs.Certificates.{Certificate, IsIdBytes, IsLawfulCertificate, is_field_byte}
use Rattle.mtn_model.specs.State.{Certificates, Holds, State}
use Rattle.mtn_model.specs.Table.{Contents, body_at}
use Rattle.mtn_ports.specs.Kept.{IsBody, with_all}
use Rattle.mtn_records.specs.Fields.{AreApart, IsField, IsTwenty, field_text, id_text}
use Rattle.mtn_records.specs.Apart.{field_apart, id_apart, pair_apart}
use Rattle.mtn_replay.specs.Certificates.{cert_refusal, with_cert}
use Rattle.mtn_replay.specs.Texts.{text_under}
use Rattle.mtn_replay.proofs.CertLemmas.{same_held}
use Rattle.mtn_history.specs.Certificates.{cert_key}
use Rattle.mtn_history.specs.Records.{record_puts}
use Rattle.mtn_history.specs.Stands.{IsDraft, IsNew, StandsFor}
use Rattle.mtn_history.specs.declared.pending.Pending.{Pending}
use Rattle.mtn_put_certs.specs.Parts.{AreParts, parts_of, parts_text}
use Rattle.mtn_put_certs.proofs.Joining.{cert_stands, draft_beside}

-- ---- the key of a certificate

pub parts_apart : AreApart parts_text AreParts
parts_apart =
    pair_apart id_text IsTwenty _ _ id_apart (pair_apart field_text IsField _ _ field_apart (pair_apart id_text IsTwenty _ _ id_apart (pair_apart field_text IsField field_text IsField field_apart field_apart)))

second_of : (a b c : Bool) → (a && b && c) ≡ true → b ≡ true
second_of true true c e = refl
second_of true false c e = absurd cc
second_of false b c e = absurd cc

few : (n : ℕ) → nat_le n 255 ≡ true → n < 2 ^ 32
few n e = let low : n ≤ 255 = grind (arith, nat_tests) in omega (arith, low)

within : (n : ℕ) → n ≤ 67108864 → n < 2 ^ 32
within n le = omega (arith, le)

pub short_name : (c : Certificate) → IsLawfulCertificate c → length c.name < 2 ^ 32
short_name c lawful = few (length c.name) (second_of (not (length c.name == 0)) (nat_le (length c.name) 255) (list_all is_field_byte c.name) lawful.name)

pub short_value : (c : Certificate) → IsLawfulCertificate c → length c.value < 2 ^ 32
short_value c lawful = within (length c.value) lawful.value

pub short_signature : (c : Certificate) → IsLawfulCertificate c → length c.signature < 2 ^ 32
short_signature c lawful = within (length c.signature) lawful.signature

pub are_parts : (c : Certificate) → IsLawfulCertificate c → IsIdBytes c.revision.0 → IsIdBytes c.key.0 → AreParts (parts_of c)
are_parts c lawful revision made_by = (revision.twenty, (short_name c lawful, (made_by.twenty, (short_value c lawful, short_signature c lawful))))

-- no two certificates have one key
pub one_key : (c d : Certificate) → AreParts (parts_of c) → AreParts (parts_of d) → cert_key c ≡ cert_key d → c ≡ d
one_key c d is_c is_d same =
    let both = parts_apart (parts_of c) (parts_of d) [] [] is_c is_d (append-nil (cert_key c) ∙ same ∙ sym (append-nil (cert_key d))) in
    λ i. record { revision = (both.0 i).0; name = (both.0 i).1.0; key = (both.0 i).1.1.0; value = (both.0 i).1.1.1.0; signature = (both.0 i).1.1.1.1 }

-- ---- the state of a draft

-- a certificate whose record is found is held
pub held_by : (b : Bool) (f : List ℕ → List ℕ) (c : Contents) (s : State) (cert : Certificate) (body : List ℕ) → MatchBool b (IsNew c s) (StandsFor f c s) → AreParts (parts_of cert) →
    body_at c 8 (cert_key cert) ≡ Some body → Holds s.certs cert
held_by true f c s cert body new is found =
    absurd (let none : body_at c 8 (cert_key cert) ≡ None = ap (λ (d : Contents). body_at d 8 (cert_key cert)) new.records ∙ get-empty (slice_cmp nat_cmp) (cert_key cert) in cc)
held_by false f c s cert body stands is found =
    let o = stands.certs.only (cert_key cert) body found in
    let law = stands.lawful.certs in
    subst (Holds s.certs) (sym (one_key cert o.0 is (are_parts o.0 (law.lawful o.0 o.1) (law.revisions o.0 o.1) (law.keys o.0 o.1)) o.2)) o.1

is_known : (o : Option (List ℕ)) → IsSome o → is_none o ≡ false
is_known (Some text) some = refl
is_known None some = absurd cc

pub known : (s : State) (cert : Certificate) → IsSome (text_under s.log cert.revision.0) → cert_refusal s cert ≡ None
known s cert some = ap (λ b. cond b (Some (UnknownRevision cert.revision)) None) (is_known (text_under s.log cert.revision.0) some)

pub unknown : (s : State) (cert : Certificate) → text_under s.log cert.revision.0 ≡ None → cert_refusal s cert ≡ Some (UnknownRevision cert.revision)
unknown s cert is = ap (λ o. cond (is_none o) (Some (UnknownRevision cert.revision)) None) is

module _ (f : List ℕ → List ℕ) (told : Option Contents) (p mid : Pending) (cert : Certificate) (key out : List ℕ) (same : key ≡ cert_key cert) (kept : mid ≡ p)
    (lawful : IsLawfulCertificate cert) (revision : IsIdBytes cert.revision.0) (made_by : IsIdBytes cert.key.0) (c : Contents) (s : State) (at : told ≡ Some c) (draft : IsDraft f c p s) where
  -- its record was put
  pub held_new : IsSome (text_under s.log cert.revision.0) → (last : Pending) → last ≡ record mid { batch = mid.batch ++ record_puts mid.is_new mid.count 8 key []; is_new = false } → IsDraft f c last (with_cert s cert)
  held_new spoken_of last put =
      let is : last ≡ record p { batch = p.batch ++ record_puts p.is_new p.count 8 (cert_key cert) []; is_new = false } =
      put ∙ ap (λ (m : Pending). record m { batch = m.batch ++ record_puts m.is_new m.count 8 key []; is_new = false }) kept
      ∙ ap (λ k. record p { batch = p.batch ++ record_puts p.is_new p.count 8 k []; is_new = false }) same in
      subst (λ (x : Pending). IsDraft f c x (with_cert s cert)) (sym is)
      (draft_beside f c p s (with_cert s cert) 8 (cert_key cert) [] draft refl (λ d. cert_stands f d s cert lawful revision made_by (known s cert spoken_of)))

  -- its record was there
  pub held_same : (test : Bool) → IfSome told (λ d. IsBody (body_at (with_all d p.batch) 8 key) test out) → test ≡ true → IsDraft f c mid (with_cert s cert)
  held_same test finds there =
      let answer : body_at (with_all c p.batch) 8 key ≡ Some out =
      subst (λ t. IsBody (body_at (with_all c p.batch) 8 key) t out) there (subst (λ o. IfSome o (λ d. IsBody (body_at (with_all d p.batch) 8 key) test out)) at finds) in
      let own : body_at (with_all c p.batch) 8 (cert_key cert) ≡ Some out = ap (body_at (with_all c p.batch) 8) (sym same) ∙ answer in
      let held = held_by p.is_new f (with_all c p.batch) s cert out draft.stands (are_parts cert lawful revision made_by) own in
      let stays : with_cert s cert ≡ s = ap (λ (m : Certificates). record s { certs = m }) (same_held s.certs cert held) in
      subst (λ (x : State). IsDraft f c mid x) (sym stays) (subst (λ (x : Pending). IsDraft f c x s) (sym kept) draft)
