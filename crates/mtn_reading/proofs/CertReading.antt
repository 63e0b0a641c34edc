-- A certificate that is read.
use Rattle.std.specs.Prelude.{IfSome, IsSome, is_none, nat_le}
use Rattle.std.specs.FinMap.{get}
use Rattle.std.proofs.Common.{◌≡◌, ◌≤◌, ℕ, Bool, true, false, cond, List, [], ◌++◌, length, Option, Some, None, Result, Ok, Err, refl, sym, ap, ◌∙◌, subst, inl, inr, arith}
use Rattle.std.proofs.lemmas.Bool.Decides.{nat_tests}
use Rattle.mtn_base.specs.declared.id.Id.{Id}
use Rattle.mtn_base.specs.declared.limits.TheConstants.{MAX_TEXT}
use Rattle.mtn_base.specs.declared.refusal.Cause.{Cause}
use Rattle.mtn_base.specs.declared.refusal.Cause.TheVariants.{TextTooLong, UnknownRevision}
use Rattle.mtn_certs.specs.Certificates.{Certificate, IsIdBytes, IsLawfulCertificate, certificate, is_field}
use Rattle.mtn_changeset_laws.specs.Changes.{or_else}
use Rattle.mtn_history.specs.Certificates.{KeyDamage, cert_key}
use Rattle.mtn_history.specs.Damage.{IsDamage}
use Rattle.mtn_history.specs.Errors.{IfDamage, IfStoreDamage}
use Rattle.mtn_history.specs.Records.{record_puts}
use Rattle.mtn_history.specs.Stands.{IsDraft}
use Rattle.mtn_history.specs.Texts.{FindsText, TextDamage}
use Rattle.mtn_history.specs.declared.errors.HistoryError.{HistoryError}
use Rattle.mtn_history.specs.declared.errors.HistoryError.TheVariants.{Refused, Store}
use Rattle.mtn_history.specs.declared.errors.StoreError.{StoreError}
use Rattle.mtn_history.specs.declared.errors.StoreError.TheVariants.{Damaged, Failed, NoMemory}
use Rattle.mtn_history.specs.declared.pending.Pending.{Pending}
use Rattle.mtn_imports.specs.Imports.{IsKeyFor, cert_refusal, kept, new_cert, one_new, too_long, unknown_key, unknown_revision, with_cert_of}
use Rattle.mtn_model.specs.State.{State}
use Rattle.mtn_model.specs.Table.{Contents, body_at}
use Rattle.mtn_packets.specs.declared.packet.Packet.TheVariants as packet
use Rattle.mtn_packets.specs.declared.packet.PacketKey.{PacketKey}
use Rattle.mtn_packets.specs.declared.packet.PacketKey.TheVariants as key
use Rattle.mtn_ports.specs.Kept.{IsBody, with_all}
use Rattle.mtn_put_certs.proofs.CertLemmas.{are_parts, held_by, held_new, held_same}
use Rattle.mtn_put_certs.proofs.HeldLemmas.{record_of}
use Rattle.mtn_replay.specs.Certificates.{with_cert}
use Rattle.mtn_replay.specs.Texts.{text_under}
use Rattle.mtn_reading.specs.Counting.{one_of}
use Rattle.mtn_reading.specs.declared.counts.Counts.{Counts}
use Rattle.mtn_reading.specs.Reading.{HoldsNew, IsFound, ReadsTo, Speaks, spoken_refusal}

-- ---- the record

module _ (f : List ℕ → List ℕ) (told : Option Contents) (p mid : Pending) (cert : Certificate) (key out : List ℕ) (same : key ≡ cert_key cert) (kept_so : mid ≡ p)
    (lawful : IsLawfulCertificate cert) (revision : IsIdBytes cert.revision.0) (made_by : IsIdBytes cert.key.0) (c : Contents) (s : State) (at : told ≡ Some c) (draft : IsDraft f c p s)
    (test : Bool) (finds : IfSome told (λ d. IsBody (body_at (with_all d p.batch) 8 key) test out)) where
  answer : IsBody (body_at (with_all c p.batch) 8 (cert_key cert)) test out
  answer = subst (λ k. IsBody (body_at (with_all c p.batch) 8 k) test out) same (subst (λ o. IfSome o (λ d. IsBody (body_at (with_all d p.batch) 8 key) test out)) at finds)

  -- its record was there
  pub holds_same : test ≡ true → HoldsNew f c s cert mid false
  holds_same there =
      let own : body_at (with_all c p.batch) 8 (cert_key cert) ≡ Some out = subst (λ t. IsBody (body_at (with_all c p.batch) 8 (cert_key cert)) t out) there answer in
      let held : get s.certs cert ≡ Some tt = held_by p.is_new f (with_all c p.batch) s cert out draft.stands (are_parts cert lawful revision made_by) own in
      (held_same f told p mid cert key out same kept_so lawful revision made_by c s at draft test finds there, sym (ap one_new held))

  -- its record was put
  pub holds_new : test ≡ false → IsSome (text_under s.log cert.revision.0) → (last : Pending) → last ≡ record mid { batch = mid.batch ++ record_puts mid.is_new mid.count 8 key []; is_new = false } →
      HoldsNew f c s cert last true
  holds_new missing known last put =
      (held_new f told p mid cert key out same kept_so lawful revision made_by c s at draft known last put, sym (ap one_new (by (get s.certs cert) refl)))
    where
      none : body_at (with_all c p.batch) 8 (cert_key cert) ≡ None
      none = subst (λ t. IsBody (body_at (with_all c p.batch) 8 (cert_key cert)) t out) missing answer

      by : (o : Option (Unit {0})) → get s.certs cert ≡ o → get s.certs cert ≡ None
      by None e = e
      by (Some tt) e = absurd (let r = (record_of p.is_new f (with_all c p.batch) s draft.stands cert e).0 in let x : Some [] ≡ None = sym r ∙ none in cc)

-- ---- what is refused

three_some : (a b c d : Option Cause) (cause : Cause) → or_else a (or_else b c) ≡ Some cause → or_else a (or_else b (or_else c d)) ≡ Some cause
three_some (Some x) b c d cause e = e
three_some None (Some x) c d cause e = e
three_some None None (Some x) d cause e = e
three_some None None None d cause e = absurd cc

three_none : (a b c d : Option Cause) → or_else a (or_else b c) ≡ None → or_else a (or_else b (or_else c d)) ≡ d
three_none (Some x) b c d e = absurd cc
three_none None (Some x) c d e = absurd cc
three_none None None (Some x) d e = absurd cc
three_none None None None d e = refl

third_none : (a b c : Option Cause) → or_else a (or_else b c) ≡ None → c ≡ None
third_none (Some x) b c e = absurd cc
third_none None (Some x) c e = absurd cc
third_none None None c e = e

two_some : (a b c : Option Cause) (cause : Cause) → or_else a b ≡ Some cause → or_else a (or_else b c) ≡ Some cause
two_some (Some x) b c cause e = e
two_some None (Some x) c cause e = e
two_some None None c cause e = absurd cc

two_none : (a b c : Option Cause) → or_else a b ≡ None → or_else a (or_else b c) ≡ c
two_none (Some x) b c e = absurd cc
two_none None (Some x) c e = absurd cc
two_none None None c e = refl

first_none : (a b : Option Cause) → or_else a b ≡ None → a ≡ None
first_none (Some x) b e = absurd cc
first_none None b e = refl

last_none : (a b : Option Cause) → or_else a b ≡ None → b ≡ None
last_none (Some x) b e = absurd cc
last_none None b e = e

short : (text : List ℕ) → too_long text ≡ None → length text ≤ MAX_TEXT
short text e = by (nat_le (length text) MAX_TEXT) refl
  where
    by : (b : Bool) → nat_le (length text) MAX_TEXT ≡ b → length text ≤ MAX_TEXT
    by true at = grind (arith, nat_tests)
    by false at = absurd (let x : too_long text ≡ Some (TextTooLong (length text)) = ap (λ b. cond b None (Some (TextTooLong (length text)))) at in let y = sym x ∙ e in cc)

pub lawful_parts : (revision id : Id) (name value signature : List ℕ) → is_field name ≡ true → or_else (too_long value) (too_long signature) ≡ None → IsLawfulCertificate (certificate revision name id value signature)
lawful_parts revision id name value signature field lengths =
    record { name = field; value = short value (first_none (too_long value) (too_long signature) lengths); signature = short signature (last_none (too_long value) (too_long signature) lengths) }

module _ (s : State) (revision : Id) (value signature : List ℕ) where
  -- the value or the signature is too long
  pub speaks_long : (cause : Cause) → or_else (too_long value) (too_long signature) ≡ Some cause → Speaks s revision value signature (Err (Refused cause))
  speaks_long cause is = two_some (too_long value) (too_long signature) (unknown_revision s revision) cause is

  -- or the log is asked for the revision
  pub speaks : (result : Result (Unit {0}) HistoryError) (out : List ℕ) → or_else (too_long value) (too_long signature) ≡ None → FindsText s revision result out → Speaks s revision value signature result
  speaks (Ok done) out lengths found = two_none (too_long value) (too_long signature) (unknown_revision s revision) lengths ∙ ap (λ o. cond (is_none o) (Some (UnknownRevision revision)) None) found
  speaks (Err (Refused cause)) out lengths found =
      two_none (too_long value) (too_long signature) (unknown_revision s revision) lengths ∙ ap (λ o. cond (is_none o) (Some (UnknownRevision revision)) None) found.1 ∙ sym (ap Some found.0)
  speaks (Err (Store e)) out lengths found = found

  known_text : (o : Option (List ℕ)) → cond (is_none o) (Some (UnknownRevision revision)) None ≡ None → IsSome o
  known_text (Some text) e = refl
  known_text None e = absurd cc

  pub known : spoken_refusal s revision value signature ≡ None → IsSome (text_under s.log revision.0)
  known fine = known_text (text_under s.log revision.0) (third_none (too_long value) (too_long signature) (unknown_revision s revision) fine)

  module _ (f : List ℕ → List ℕ) (c : Contents) (name : List ℕ) (k : PacketKey) (found : Option Id) (looked : IsKeyFor s.keys k found) where
    abbrev Comes_to : Result Counts HistoryError → Pending → Type 0
    Comes_to result p = ReadsTo f c s (packet.Cert revision name k value signature) result p

    stopped : (cause : Cause) (p : Pending) → cert_refusal s revision k found value signature ≡ Some cause → Comes_to (Err (Refused cause)) p
    stopped cause p is = (
      with_cert_of s revision name found value signature,
      kept 0 0 (new_cert s revision name found value signature),
      (found, looked, sym is, refl, refl),
    )

    pub spoken_errs : (e : HistoryError) (p : Pending) → Speaks s revision value signature (Err e) → Comes_to (Err e) p
    spoken_errs (Refused cause) p is = stopped cause p (three_some (too_long value) (too_long signature) (unknown_revision s revision) (unknown_key k found) cause is)
    spoken_errs (Store e) p is = is

    module _ (fine : spoken_refusal s revision value signature ≡ None) where
      rest : cert_refusal s revision k found value signature ≡ unknown_key k found
      rest = three_none (too_long value) (too_long signature) (unknown_revision s revision) (unknown_key k found) fine

      pub key_errs : (e : HistoryError) (p : Pending) → IsFound k found (Err e) → Comes_to (Err e) p
      key_errs (Refused cause) p is = stopped cause p (rest ∙ is)
      key_errs (Store e) p is = is

      none_unknown : (k : PacketKey) (id : Id) → unknown_key k (Some id) ≡ None
      none_unknown (key.Id own) id = refl
      none_unknown (key.Name name) id = refl

      pub cert_reads : (id : Id) → found ≡ Some id → (new : Bool) (count : ℕ) (p : Pending) → count ≡ one_of new → HoldsNew f c s (certificate revision name id value signature) p new →
          Comes_to (Ok (record { files = 0; revisions = 0; certs = count })) p
      cert_reads id is new count p counted holds = (
        with_cert s (certificate revision name id value signature),
        (
          found,
          looked,
          sym (rest ∙ ap (unknown_key k) is ∙ none_unknown k id),
          sym (ap (λ o. with_cert_of s revision name o value signature) is),
          ap (λ n. kept 0 0 n) (counted ∙ holds.1) ∙ sym (ap (λ o. kept 0 0 (new_cert s revision name o value signature)) is),
        ),
        holds.0,
      )

-- ---- damages

pub key_shown : (c : Contents) (e : StoreError) → IfDamage e (KeyDamage c) → IfDamage e (IsDamage c)
key_shown c Failed h = tt
key_shown c NoMemory h = tt
key_shown c (Damaged d) h = inr (inr (inr (inr (inr (inr (inl h))))))

pub text_shown : (c : Contents) (e : HistoryError) → IfStoreDamage e (TextDamage c) → IfStoreDamage e (IsDamage c)
text_shown c (Refused cause) h = tt
text_shown c (Store Failed) h = tt
text_shown c (Store NoMemory) h = tt
text_shown c (Store (Damaged d)) h = inr (inl h)

pub never_shown : (c : Contents) (e : HistoryError) → IfStoreDamage e (λ _. ⊥) → IfStoreDamage e (IsDamage c)
never_shown c (Refused cause) h = tt
never_shown c (Store Failed) h = tt
never_shown c (Store NoMemory) h = tt
never_shown c (Store (Damaged d)) h = absurd h

-- the same of what is told
pub told_text : (told : Option Contents) (p mid : Pending) (e : HistoryError) → mid ≡ p → IfSome told (λ c. IfStoreDamage e (TextDamage (with_all c mid.batch))) → IfSome told (λ c. IfStoreDamage e (IsDamage (with_all c p.batch)))
told_text None p mid e same h = tt
told_text (Some c) p mid e same h = text_shown (with_all c p.batch) e (subst (λ (x : Pending). IfStoreDamage e (TextDamage (with_all c x.batch))) same h)

pub told_key : (told : Option Contents) (p : Pending) (e : StoreError) → IfSome told (λ c. IfDamage e (KeyDamage (with_all c p.batch))) → IfSome told (λ c. IfDamage e (IsDamage (with_all c p.batch)))
told_key None p e h = tt
told_key (Some c) p e h = key_shown (with_all c p.batch) e h

pub told_never : (told : Option Contents) (p : Pending) (e : HistoryError) → IfStoreDamage e (λ _. ⊥) → IfSome told (λ c. IfStoreDamage e (IsDamage (with_all c p.batch)))
told_never None p e h = tt
told_never (Some c) p e h = never_shown (with_all c p.batch) e h
