-- The list of a revision's certificates is what its command answers.
use Rattle.std.specs.Prelude.{Contains, IfSome, ◌↔◌, if◌then◌else◌, true, option_and_then, option_map}
use Rattle.std.specs.FinMap.{get}
use Rattle.std.specs.Result.{result_ok}
use Rattle.std.proofs.Common.{◌≡◌, inl, inr, ℕ, List, [], ◌∷◌, Option, Some, None, Result, Ok, Err, refl, sym, ap, ◌∙◌, subst}
use Rattle.base64.specs.Engines.{standard}
use Rattle.base64.specs.GeneralPurpose.{decode_of, decoded_of}
use Rattle.base64.specs.declared.decode.DecodeError.{DecodeError}
use Rattle.mtn_base.specs.declared.id.Id.{Id}
use Rattle.mtn_base.specs.declared.refusal.Cause.{Cause}
use Rattle.mtn_base.specs.declared.refusal.Cause.TheVariants.{BadField, KeyNamed, TextTooLong}
use Rattle.mtn_base.specs.declared.refusal.Field.TheVariants.{Key}
use Rattle.mtn_base.proofs.IdOrder.{contains_head, contains_later}
use Rattle.mtn_basic_io.specs.Spelling.{LineText, spelling}
use Rattle.mtn_certs.specs.Certificates.{Certificate, certificate, fault_of, is_field}
use Rattle.mtn_certs.specs.Listing.{stanza_of, stanzas_of}
use Rattle.mtn_certs.specs.Listing.{certs_text as listed_text}
use Rattle.mtn_certs.specs.Order.{cert_cmp, in_order}
use Rattle.mtn_certs.proofs.Certs.{certs_total, exact_certs}
use Rattle.mtn_certs.proofs.Ordered.{ordered_ascends, ordered_same}
use Rattle.mtn_certs.specs.declared.cert.CertError.{CertError}
use Rattle.mtn_certs.specs.declared.cert.CertError.TheVariants as fault
use Rattle.mtn_changeset_laws.specs.Changes.{or_else}
use Rattle.mtn_history.specs.Certificates.{CertDamage, KeyDamage}
use Rattle.mtn_history.specs.Damage.{IsDamage}
use Rattle.mtn_history.specs.Errors.{IfDamage}
use Rattle.mtn_history.specs.Marked.{IsCounted}
use Rattle.mtn_history.specs.Stands.{IsDraft}
use Rattle.mtn_history.specs.declared.errors.Damage.{Damage}
use Rattle.mtn_history.specs.declared.errors.HistoryError.{HistoryError}
use Rattle.mtn_history.specs.declared.errors.HistoryError.TheVariants.{Refused, Store}
use Rattle.mtn_history.specs.declared.errors.StoreError.{StoreError}
use Rattle.mtn_history.specs.declared.errors.StoreError.TheVariants.{Failed, Damaged, NoMemory}
use Rattle.mtn_history.specs.declared.pending.Pending.{Pending}
use Rattle.mtn_model.specs.Outcome.{Outcome}
use Rattle.mtn_model.specs.State.{Holds, State}
use Rattle.mtn_model.specs.Table.{Contents}
use Rattle.mtn_ports.specs.Causes.{Rose}
use Rattle.mtn_ports.specs.Kept.{Stays, with_all}
use Rattle.mtn_ports.proofs.KeptLemmas.{rose_before, stays_trans}
use Rattle.mtn_replay.specs.Texts.{text_under}
use Rattle.mtn_put_certs.specs.Accepting.{AcceptsCert}
use Rattle.mtn_replay.specs.Certificates.{cert_refusal, other_name, with_cert, with_key}
use Rattle.mtn_step.specs.Certifying.{AreCertsOf, certs_text, fault_cause, key_refusal, signature_of}
use Rattle.mtn_step.specs.Step.{Listed, certified, done, unless}
use Rattle.mtn_commands.specs.Certifying.{cert_error}
use Rattle.mtn_commands.specs.Drafts.{Drafts}
use Rattle.mtn_commands.proofs.DraftLemmas.{Errs, failed}

-- where two ways to name keys agree on a list, so do the stanzas
same_stanzas : (names also : Id → Option (List ℕ)) (cs : List Certificate) → ((x : Certificate) → Contains cs x → names x.key ≡ also x.key) → stanzas_of names cs ≡ stanzas_of also cs
same_stanzas names also [] same = refl
same_stanzas names also (c ∷ cs) same =
    ap (λ (n : Option (List ℕ)). stanza_of n c ∷ stanzas_of names cs) (same c (contains_head c cs))
    ∙ ap (λ (rest : List (List LineText)). stanza_of (also c.key) c ∷ rest) (same_stanzas names also cs (λ x k. same x (contains_later c cs k)))

module _ (s : State) (id : Id) (certs : List Certificate) (held : (x : Certificate) → Contains certs x ↔ (Holds s.certs x × (x.revision ≡ id))) where
  pub sorted_certs : AreCertsOf s id (in_order certs)
  sorted_certs = record {
    ascending = ordered_ascends cert_cmp certs_total exact_certs certs;
    exact = λ x. (
      λ k. (held x).0 ((ordered_same cert_cmp certs_total exact_certs certs x).0 k),
      λ k. (ordered_same cert_cmp certs_total exact_certs certs x).1 ((held x).1 k),
    );
  }

  pub listed : (names : Id → Option (List ℕ)) → ((x : Certificate) → Contains certs x → names x.key ≡ get s.keys x.key.0) → listed_text names certs ≡ certs_text s (in_order certs)
  listed names same = ap spelling (same_stanzas names (λ key. get s.keys key.0) (in_order certs) (λ x k. same x ((ordered_same cert_cmp certs_total exact_certs certs x).0 k)))

-- a key whose name is a field and no other is given it
pub keyed : (s : State) (id : Id) (name text : List ℕ) → is_field name ≡ true → other_name s id name ≡ None → text ≡ [] → done (with_key s id name) text ≡ unless (key_refusal s id name) s (with_key s id name) []
keyed s id name text field other empty =
    ap (done (with_key s id name)) empty
    ∙ sym (ap (λ r. unless r s (with_key s id name) []) (
    ap (λ b. if b then option_map (λ held. KeyNamed id held) (other_name s id name) else Some (BadField Key)) field
    ∙ ap (option_map (λ held. KeyNamed id held)) other
    ))

-- the answer to the question for the certificates of a revision that has a text
pub certs_listed : (s : State) (id : Id) (out text : List ℕ) (certs : List Certificate) (names : Id → Option (List ℕ)) → text_under s.log id.0 ≡ Some out →
    ((x : Certificate) → Contains certs x ↔ (Holds s.certs x × (x.revision ≡ id))) → ((x : Certificate) → Contains certs x → names x.key ≡ get s.keys x.key.0) → text ≡ listed_text names certs →
    Listed s id (done s text) (text_under s.log id.0)
certs_listed s id out text certs names found held same is =
    subst (Listed s id (done s text)) (sym found) (in_order certs, sorted_certs s id certs held, ap (done s) (is ∙ listed s id certs held names same))

-- a damage that a call finds over a draft that is as before is one of the draft's
damage_told : (D : Contents → Damage → Type 0) → ((c : Contents) (d : Damage) → D c d → IsDamage c d) → (told : Option Contents) (before between : Pending) (e : StoreError) → between ≡ before →
    IfSome told (λ c. IfDamage e (D (with_all c between.batch))) → IfSome told (λ c. IsCounted before c → IfDamage e (IsDamage (with_all c before.batch)))
damage_told D is None before between e same damaged = tt
damage_told D is (Some c) before between e same damaged = λ counted. wider e (subst (λ (p : Pending). IfDamage e (D (with_all c p.batch))) same damaged)
  where
    wider : (e : StoreError) → IfDamage e (D (with_all c before.batch)) → IfDamage e (IsDamage (with_all c before.batch))
    wider Failed h = tt
    wider NoMemory h = tt
    wider (Damaged d) h = is (with_all c before.batch) d h

-- a certificate's damage, and a key's
pub cert_is_damage : (c : Contents) (d : Damage) → CertDamage c d → IsDamage c d
cert_is_damage c d h = inr (inr (inr (inr (inr (inr (inr h))))))

pub key_is_damage : (c : Contents) (d : Damage) → KeyDamage c d → IsDamage c d
key_is_damage c d h = inr (inr (inr (inr (inr (inr (inl h))))))

-- a call that only reads failed after others
pub read_failed : (f : List ℕ → List ℕ) {K : Type 0} (contents : K → Option Contents) (leaves : K → Contents → Type 0) (faults : K → ℕ) (old mid new : K) (before between after : Pending)
    (Outcomes : State → Outcome → Type 0) (D : Contents → Damage → Type 0) → ((c : Contents) (d : Damage) → D c d → IsDamage c d) → Stays contents leaves faults old mid → Stays contents leaves faults mid new → between ≡ before →
    (result : Result (List ℕ) HistoryError) (e : StoreError) → result ≡ Err (Store e) → ((c : Contents) (s : State) → contents new ≡ Some c → IsDraft f c between s → IfDamage e (λ _. ⊥)) →
    IfSome (contents new) (λ c. IfDamage e (D (with_all c between.batch))) → (e ≡ Failed → Rose (faults mid) (faults new)) → Drafts f contents leaves faults old new before after Outcomes result
read_failed f contents leaves faults old mid new before between after Outcomes D is to_mid to_new same result e gives sound damaged rose =
    failed f contents leaves faults old new before after Outcomes (stays_trans contents leaves faults old mid new to_mid to_new) result (Store e) gives
    (λ c s told draft. sound c s told (subst (λ (p : Pending). IsDraft f c p s) (sym same) draft))
    (damage_told D is (contents new) before between e same damaged)
    (λ at. rose_before (faults old) (faults mid) (faults new) to_mid.later (rose (store_is e Failed at)))
  where
    store_is : (e d : StoreError) → Store e ≡ Store d → e ≡ d
    store_is e d at = cc

-- what a signature's text decodes to
pub signature_decoded : (text bytes : List ℕ) → decode_of standard text ≡ Ok bytes → signature_of (Some text) ≡ Some bytes
unfolding decoded_of
signature_decoded text bytes decoded = ap result_ok decoded

pub signature_undecoded : (text : List ℕ) (e : DecodeError) → decode_of standard text ≡ Err e → signature_of (Some text) ≡ None
unfolding decoded_of
signature_undecoded text e decoded = ap result_ok decoded

-- the outcome of a certificate whose signature spells something
module _ (f : List ℕ → List ℕ) (revision : Id) (name : List ℕ) (key : Id) (value : List ℕ) (given : Option (List ℕ)) where
  abbrev Comes : State → Outcome → Type 0
  Comes s o = o ≡ certified s revision name key value (signature_of given)

  module _ (signature : List ℕ) (spelled : signature_of given ≡ Some signature) where
    abbrev cert : Certificate
    cert = certificate revision name key value signature

    comes_to : (s : State) (broken : Option CertError) → fault_of cert ≡ broken → (refusal : Option Cause) → or_else (option_and_then fault_cause broken) (cert_refusal s cert) ≡ refusal →
        unless refusal s (with_cert s cert) [] ≡ certified s revision name key value (signature_of given)
    comes_to s broken is refusal why = sym (
        ap (certified s revision name key value) spelled
        ∙ ap (λ (r : Option CertError). unless (or_else (option_and_then fault_cause r) (cert_refusal s cert)) s (with_cert s cert) []) is
        ∙ ap (λ (r : Option Cause). unless r s (with_cert s cert) []) why)

    -- it breaks a rule
    pub fault_errs : (s : State) (e : CertError) → fault_of cert ≡ Some e → Errs Comes s (cert_error e)
    fault_errs s (fault.BadField field) is = comes_to s (Some (fault.BadField field)) is (Some (BadField field)) refl
    fault_errs s (fault.TextTooLong length) is = comes_to s (Some (fault.TextTooLong length)) is (Some (TextTooLong length)) refl
    fault_errs s fault.NoMemory is = tt

    -- it is not held, or it is
    pub cert_errs : (c : Contents) (s : State) (p : Pending) (e : HistoryError) → fault_of cert ≡ None → AcceptsCert f c s cert (Err e) p → Errs Comes s e
    cert_errs c s p (Refused cause) lawful is = comes_to s None lawful (Some cause) is
    cert_errs c s p (Store e) lawful is = is

    pub cert_done : (c : Contents) (s : State) (p : Pending) (text : List ℕ) → fault_of cert ≡ None → AcceptsCert f c s cert (Ok tt) p → text ≡ [] → (t : State) × Comes s (done t text) × IsDraft f c p t
    cert_done c s p text lawful held empty = (with_cert s cert, ap (done (with_cert s cert)) empty ∙ comes_to s None lawful None held.0, held.1)
