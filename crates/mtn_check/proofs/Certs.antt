-- The records of certificates.
use Rattle.std.specs.Prelude.{IfSome, IsTrue, is_some}
use Rattle.std.proofs.Common.{◌≡◌, ◌==◌, ◌↔◌, ℕ, Bool, true, false, List, [], ◌∷◌, length, Option, Some, refl, sym, ap, ◌∙◌, subst, arith}
use Rattle.std.proofs.lemmas.Bool.Decides.{nat_tests}
use Rattle.mtn_certs.specs.Certificates.{Certificate}
use Rattle.mtn_model.specs.Table.{Contents, body_at}
use Rattle.mtn_ports.specs.Kept.{IsBody}
use Rattle.mtn_history.specs.Certificates.{IsCertKey}
use Rattle.mtn_put_certs.specs.Reading.{IsCertOf}
use Rattle.mtn_put_certs.proofs.CertLemmas.{are_parts, one_key}
use Rattle.mtn_check.specs.Steps.{IsCertIn}
use Rattle.mtn_check.proofs.Told.{each_told}

one_cert : (key : List ℕ) (a b : Certificate) → IsCertKey key a → IsCertKey key b → a ≡ b
one_cert key a b x y = one_key a b (are_parts a x.lawful x.revision x.made_by) (are_parts b y.lawful y.revision y.made_by) (sym x.whole ∙ y.whole)

module _ (c : Contents) (key body : List ℕ) (cert : Certificate) (is : IsCertKey key cert) (bare : body ≡ []) where
  by_body : (found : Bool) (out : List ℕ) → IsBody (body_at c 3 cert.revision.0) found out → IsTrue found ↔ IsCertIn c key body
  by_body true out held = (λ e. record { cert = cert; is = is; spoken_of = ap is_some held; bare = bare }, λ i. refl)
  by_body false out none = (
    λ e. absurd (let no : true ≡ false = sym e in cc),
    λ i. absurd (
        let same : i.cert ≡ cert = one_cert key i.cert cert i.is is in
        let lacks : is_some (body_at c 3 i.cert.revision.0) ≡ false = ap is_some (ap (λ (x : Certificate). body_at c 3 x.revision.0) same ∙ none) in
        let has : is_some (body_at c 3 i.cert.revision.0) ≡ true = i.spoken_of in
        cc),
  )

pub is_bare : (xs : List ℕ) (b : Bool) → b ≡ (length xs == 0) → b ≡ true → xs ≡ []
is_bare [] b is holds = refl
is_bare (x ∷ xs) b is holds = absurd (let long : length (x ∷ xs) ≡ 0 = grind (arith, nat_tests) in omega (arith, long))

-- a certificate that was read is of a revision that has a text, or not
pub cert_kept : (told : Option Contents) (key body shown out : List ℕ) (found : Bool) (answer : Option Certificate) (cert : Certificate) → answer ≡ Some cert → IsCertOf key answer → body ≡ [] → shown ≡ cert.revision.0 →
    IfSome told (λ c. IsBody (body_at c 3 shown) found out) → IfSome told (λ c. IsTrue found ↔ IsCertIn c key body)
cert_kept told key body shown out found answer cert there is bare shows finds =
    each_told told (λ c. IsBody (body_at c 3 shown) found out) (λ c. IsTrue found ↔ IsCertIn c key body)
    (λ c x. by_body c key body cert (subst (IsCertOf key) there is) bare found out (subst (λ k. IsBody (body_at c 3 k) found out) shows x)) finds
