-- Certificates and key names that are not refused keep a state lawful.
use Rattle.std.specs.Prelude.{IsSome, codes, find, is_some, nat_le, option_and_then, option_map}
use Rattle.std.specs.List.{AllByRecursion}
use Rattle.std.proofs.Common.{◌≡◌, ◌≤◌, ℕ, Bool, true, false, cond, List, [], ◌∷◌, ◌++◌, length, Option, Some, None, refl, sym, ap, ◌∙◌, subst, inl, inr, arith}
use Rattle.std.proofs.lemmas.Bool.Decides.{nat_tests}
use Rattle.mtn_base.specs.Hex.{id_of}
use Rattle.mtn_base.specs.Names.{same_bytes}
use Rattle.mtn_base.specs.declared.id.Id.{Id}
use Rattle.mtn_base.specs.declared.refusal.Cause.{Cause}
use Rattle.mtn_base.specs.declared.refusal.Cause.TheVariants.{BadField, KeyNamed, TextTooLong}
use Rattle.mtn_base.specs.declared.refusal.Field.TheVariants.{Key}
use Rattle.mtn_base.proofs.Tests.{same_bytes-self}
use Rattle.mtn_certs.specs.Certificates.{Certificate, IsIdBytes, IsLawfulCertificate, certificate, fault_of, is_field, too_long}
use Rattle.mtn_certs.specs.declared.cert.CertError.TheVariants as fault
use Rattle.mtn_base.specs.declared.refusal.Field.TheVariants as field
use Rattle.mtn_changeset_laws.specs.Changes.{or_else}
use Rattle.mtn_model.specs.State.{Logged, State}
use Rattle.mtn_replay.specs.Accepting.{Decides, logged_beside}
use Rattle.mtn_replay.specs.Certificates.{cert_refusal, other_name, with_cert}
use Rattle.mtn_replay.specs.Lawful.{IsLawful}
use Rattle.mtn_replay.specs.Texts.{text_under}
use Rattle.mtn_replay.proofs.CertLemmas.{known_of, lawful_cert}
use Rattle.mtn_step.specs.Certifying.{fault_cause, held_refusal, key_refusal, said_certs, said_refusal, value_refusal, with_certs}
use Rattle.mtn_step.specs.declared.call.Said.{Said}

pub both_none : (a b : Option Cause) → or_else a b ≡ None → (a ≡ None) × (b ≡ None)
both_none None b e = (refl, e)
both_none (Some cause) b e = absurd cc

-- it breaks no rule, its ids are ids, and the log has its revision
pub record IsFit (log : List Logged) (c : Certificate) : Type 0 where
  pub lawful : IsLawfulCertificate c
  pub revision : IsIdBytes c.revision.0
  pub made_by : IsIdBytes c.key.0
  pub known : IsSome (text_under log c.revision.0)

pub lawful_fit : (f : List ℕ → List ℕ) (s : State) (c : Certificate) → IsLawful f s → IsFit s.log c → IsLawful f (with_cert s c)
lawful_fit f s c law fit = lawful_cert f s c law fit.lawful fit.revision fit.made_by fit.known

pub lawful_with : (f : List ℕ → List ℕ) (certs : List Certificate) (s : State) → IsLawful f s → AllByRecursion (IsFit s.log) certs → IsLawful f (with_certs s certs)
lawful_with f [] s law all = law
lawful_with f (c ∷ certs) s law all = lawful_with f certs (with_cert s c) (lawful_fit f s c law all.0) all.1

-- ---- a certificate

short_text : (text : List ℕ) → nat_le (length text) 67108864 ≡ true → length text ≤ 67108864
short_text text short = grind (arith, nat_tests)

lawful_of : (c : Certificate) → option_and_then fault_cause (fault_of c) ≡ None → IsLawfulCertificate c
lawful_of c fine = named (is_field c.name) refl fine
  where
    signed : (b : Bool) → is_field c.name ≡ true → nat_le (length c.value) 67108864 ≡ true → nat_le (length c.signature) 67108864 ≡ b →
        option_and_then fault_cause (cond b None (Some (fault.TextTooLong (length c.signature)))) ≡ None → IsLawfulCertificate c
    signed true name value e none = record { name = name; value = short_text c.value value; signature = short_text c.signature e }
    signed false name value e none = absurd cc

    valued : (b : Bool) → is_field c.name ≡ true → nat_le (length c.value) 67108864 ≡ b →
        option_and_then fault_cause (cond b (too_long c.signature None) (Some (fault.TextTooLong (length c.value)))) ≡ None → IsLawfulCertificate c
    valued true name e none = signed (nat_le (length c.signature) 67108864) name e refl none
    valued false name e none = absurd cc

    named : (b : Bool) → is_field c.name ≡ b → option_and_then fault_cause (cond b (too_long c.value (too_long c.signature None)) (Some (fault.BadField field.Name))) ≡ None → IsLawfulCertificate c
    named true e none = valued (nat_le (length c.value) 67108864) e refl none
    named false e none = absurd cc

pub fit_of : (s : State) (c : Certificate) → held_refusal s c ≡ None → IsIdBytes c.revision.0 → IsIdBytes c.key.0 → IsFit s.log c
fit_of s c fine revision made_by =
    let none = both_none (option_and_then fault_cause (fault_of c)) (cert_refusal s c) fine in
    record { lawful = lawful_of c none.0; revision = revision; made_by = made_by; known = known_of s c none.1 }

-- ---- what is said of a revision

short_value : (value : List ℕ) → value_refusal value ≡ None → length value ≤ 67108864
short_value value fine = by (nat_le (length value) 67108864) refl fine
  where
    by : (b : Bool) → nat_le (length value) 67108864 ≡ b → cond b None (Some (TextTooLong (length value))) ≡ None → length value ≤ 67108864
    by true e none = short_text value e
    by false e none = absurd cc

module _ (log : List Logged) (id : Id) (said : Said) (revision : IsIdBytes id.0) (made_by : IsIdBytes said.key.0) (known : IsSome (text_under log id.0)) where
  unsigned : (name value : List ℕ) → is_field name ≡ true → value_refusal value ≡ None → IsFit log (certificate id name said.key value [])
  unsigned name value is fine = record {
    lawful = record { name = is; value = short_value value fine; signature = omega arith };
    revision = revision;
    made_by = made_by;
    known = known;
  }

  pub said_fit : said_refusal said ≡ None → AllByRecursion (IsFit log) (said_certs id said)
  said_fit fine =
      let a = both_none (value_refusal said.author) _ fine in
      let b = both_none (value_refusal said.branch) _ a.1 in
      let c = both_none (value_refusal said.changelog) _ b.1 in
      let d = both_none (value_refusal said.date) _ c.1 in
      let author = unsigned (codes "author") said.author refl a.0 in
      let branch = unsigned (codes "branch") said.branch refl b.0 in
      let changelog = unsigned (codes "changelog") said.changelog refl c.0 in
      let date = unsigned (codes "date") said.date refl d.0 in
      (author, (branch, (changelog, (date, tt))))

-- the text that ends a log stands under its id
ends_with : (log : List Logged) (l : Logged) → IsSome (text_under (log ++ l ∷ []) l.id)
ends_with [] l = ap (λ b. is_some (option_map (λ (x : Logged). x.text) (cond b (Some l) None))) (same_bytes-self l.id)
ends_with (k ∷ log) l =
    elim (same_bytes k.id l.id) as (λ b. is_some (option_map (λ (x : Logged). x.text) (cond b (Some k) (find (λ (x : Logged). same_bytes x.id l.id) (log ++ l ∷ [])))) ≡ true) [
      | true ↦ refl
      | false ↦ ends_with log l
    ]

-- a text that is not refused is held after it
pub held_after : (f : List ℕ → List ℕ) (s : State) (text : List ℕ) (refusal : Option Cause) (after : State) → Decides f s text refusal after → refusal ≡ None → IsSome (text_under after.log (f text))
held_after f s text refusal after (inl long) none = absurd (let both : Some _ ≡ None = sym long.is ∙ none in cc)
held_after f s text refusal after (inr (inl unread)) none = absurd (let both : Some _ ≡ None = sym unread.is ∙ none in cc)
held_after f s text refusal after (inr (inr d)) none = subst (λ (t : State). IsSome (text_under t.log (f text))) (sym d.after) (by (text_under s.log (f text)) refl)
  where
    by : (o : Option (List ℕ)) → text_under s.log (f text) ≡ o → IsSome (text_under (logged_beside o f s text).log (f text))
    by (Some held) e = ap is_some e
    by None e = ends_with s.log (record { id = f text; text = text })

-- a commit that is not refused leads to a lawful state
pub said_lawful : (f : List ℕ → List ℕ) (s : State) (text : List ℕ) (refusal : Option Cause) (after : State) (said : Said) → Decides f s text refusal after → or_else refusal (said_refusal said) ≡ None →
    IsIdBytes (f text) → IsIdBytes said.key.0 → IsLawful f after → IsLawful f (with_certs after (said_certs (id_of (f text)) said))
said_lawful f s text refusal after said decides fine revision made_by law =
    let none = both_none refusal (said_refusal said) fine in
    lawful_with f (said_certs (id_of (f text)) said) after law (said_fit after.log (id_of (f text)) said revision made_by (held_after f s text refusal after decides none.0) none.1)

-- ---- a key

pub named_field : (s : State) (id : Id) (name : List ℕ) → key_refusal s id name ≡ None → is_field name ≡ true
named_field s id name fine = by (is_field name) refl fine
  where
    by : (b : Bool) → is_field name ≡ b → cond b (option_map (λ held. KeyNamed id held) (other_name s id name)) (Some (BadField Key)) ≡ None → is_field name ≡ true
    by true e none = e
    by false e none = absurd cc
