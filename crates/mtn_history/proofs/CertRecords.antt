-- The records of key names and certificates.
use Rattle.std.specs.Prelude.{is_some}
use Rattle.std.proofs.Common.{◌≡◌, ℕ, true, List, [], Option, Some, None, refl, sym, ap, ◌∙◌, inl, inr}
use Rattle.std.specs.FinMap.{get, get-empty}
use Rattle.std.specs.Ordering.{nat_cmp}
use Rattle.std.specs.Cmp.Lexicographic.{slice_cmp}
use Rattle.mtn_certs.specs.Certificates.{Certificate}
use Rattle.mtn_model.specs.State.{State}
use Rattle.mtn_model.specs.Table.{Table, Contents, body_at}
use Rattle.mtn_replay.specs.Texts.{text_under}
use Rattle.mtn_history.specs.Certificates.{CertDamage, IsCertKey, KeyDamage}
use Rattle.mtn_history.specs.Damage.{IsShown}
use Rattle.mtn_history.specs.Stands.{IsNew, Stands, StandsFor}
use Rattle.mtn_history.specs.declared.errors.Damage.{Damage}
use Rattle.mtn_history.specs.declared.errors.Damage.TheVariants.{Bad, Missing}
use Rattle.mtn_history.proofs.TextLemmas.{text_missing}

-- a new store has no record
none_of_new : (c : Contents) (s : State) (t : ℕ) (key body : List ℕ) → IsNew c s → body_at c t key ≡ Some body → ⊥
none_of_new c s t key body new found = let none : body_at c t key ≡ None = ap (λ (d : Contents). body_at d t key) new.records ∙ get-empty (slice_cmp nat_cmp) key in cc

one_body : (o : Option (List ℕ)) (a b : List ℕ) → o ≡ Some a → o ≡ Some b → a ≡ b
one_body o a b x y = cc

-- records that stand for a state show no damage of table 7
pub no_key_damage : (f : List ℕ → List ℕ) (c : Contents) (s : State) (d : Damage) → Stands f c s → KeyDamage c d → ⊥
no_key_damage f c s (Missing table key) stands damage = damage
no_key_damage f c s (Bad table key body) (inl new) damage = none_of_new c s 7 key body new damage.1
no_key_damage f c s (Bad table key body) (inr stands) damage =
    let found : get s.keys key ≡ Some body = ap (λ (m : Table). get m key) (sym stands.keys) ∙ damage.1 in
    damage.2 (stands.lawful.keys.ids key body found) (stands.lawful.keys.names key body found)

-- the certificate whose record has a key
pub record Recorded (f : List ℕ → List ℕ) (c : Contents) (s : State) (key body : List ℕ) : Type 0 where
  cert : Certificate
  is : IsCertKey key cert
  bare : body ≡ []
  text : List ℕ
  spoken_of : body_at c 3 cert.revision.0 ≡ Some text

pub recorded : (f : List ℕ → List ℕ) (c : Contents) (s : State) (key body : List ℕ) → StandsFor f c s → body_at c 8 key ≡ Some body → Recorded f c s key body
recorded f c s key body stands found =
    let o = stands.certs.only key body found in
    let law = stands.lawful.certs in
    let text = there (body_at c 3 o.0.revision.0) refl in
    record {
      cert = o.0;
      is = record { whole = o.2; lawful = law.lawful o.0 o.1; revision = law.revisions o.0 o.1; made_by = law.keys o.0 o.1 };
      bare = one_body (body_at c 8 key) body [] found (ap (body_at c 8) o.2 ∙ stands.certs.each o.0 o.1);
      text = text.0;
      spoken_of = text.1;
    }
  where
    there : (x : Option (List ℕ)) → body_at c 3 (stands.certs.only key body found).0.revision.0 ≡ x → (text : List ℕ) × (body_at c 3 (stands.certs.only key body found).0.revision.0 ≡ Some text)
    there (Some text) is = (text, is)
    there None is = absurd (let o = stands.certs.only key body found in
        let none : text_under s.log o.0.revision.0 ≡ None = text_missing s.log (c 3) o.0.revision.0 stands.base.texts is in
        let some : is_some (text_under s.log o.0.revision.0) ≡ true = stands.lawful.spoken_of o.0 o.1 in
        cc)

-- nor of table 8
pub no_cert_damage : (f : List ℕ → List ℕ) (c : Contents) (s : State) (d : Damage) → Stands f c s → CertDamage c d → ⊥
no_cert_damage f c s (Missing table key) stands damage = damage
no_cert_damage f c s (Bad table key body) (inl new) damage = none_of_new c s 8 key body new damage.1
no_cert_damage f c s (Bad table key body) (inr stands) damage =
    let r = recorded f c s key body stands damage.1 in
    elim damage.2 [
      | inl full ↦ full r.bare
      | inr none ↦ none r.cert r.text r.is r.spoken_of
    ]

pub shown_key : (c : Contents) (d : Damage) → KeyDamage c d → IsShown c d
shown_key c (Bad table key body) damage = ap (λ t. body_at c t key) damage.0 ∙ damage.1
shown_key c (Missing table key) damage = absurd damage

pub shown_cert : (c : Contents) (d : Damage) → CertDamage c d → IsShown c d
shown_cert c (Bad table key body) damage = ap (λ t. body_at c t key) damage.0 ∙ damage.1
shown_cert c (Missing table key) damage = absurd damage
