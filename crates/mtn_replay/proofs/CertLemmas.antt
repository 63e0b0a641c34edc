-- One more text, certificate or key name keeps a state lawful.
use Rattle.std.specs.Prelude.{find, option_map, is_none, is_some, IsSome}
use Rattle.std.proofs.Common.{◌≡◌, ℕ, Bool, true, false, cond, List, [], ◌∷◌, ◌++◌, Option, Some, None, refl, sym, ap, ◌∙◌, subst, ◌⊎◌, inl, inr}
use Rattle.std.specs.Cmp.{tied_itself}
use Rattle.std.specs.FinMap.{get, get-insert, insert, same_map}
use Rattle.std.specs.Ordering.{eq_by_cmp, is_eq}
use Rattle.std.specs.declared.cmp.Ordering.{Ordering}
use Rattle.std.specs.declared.cmp.Ordering.TheVariants.{Less, Equal, Greater}
use Rattle.mtn_base.specs.Names.{same_bytes}
use Rattle.mtn_base.specs.declared.id.Id.{Id}
use Rattle.mtn_base.specs.declared.refusal.Cause.TheVariants.{UnknownRevision}
use Rattle.mtn_certs.specs.Certificates.{Certificate, IsIdBytes, IsLawfulCertificate, is_field}
use Rattle.mtn_certs.specs.Order.{cert_cmp}
use Rattle.mtn_certs.proofs.Certs.{certs_total, exact_certs}
use Rattle.mtn_history_laws.specs.History.{Revision}
use Rattle.mtn_model.specs.State.{Certificates, Holds, Logged, State}
use Rattle.mtn_replay.specs.Certificates.{cert_refusal, with_cert, with_key}
use Rattle.mtn_replay.specs.Lawful.{IsHistory, IsLawful, IsNext}
use Rattle.mtn_replay.specs.Texts.{text_under}
use Rattle.mtn_replay.proofs.FileLemmas.{found_more}
use Rattle.mtn_replay.proofs.Histories.{history_more}

-- an id that the log has a text under has one in a longer log
pub text_stays : (log more : List Logged) (id : List ℕ) → IsSome (text_under log id) → IsSome (text_under (log ++ more) id)
text_stays [] more id there = absurd cc
text_stays (l ∷ log) more id there =
    elim (same_bytes l.id id) as (λ b. is_some (option_map (λ (x : Logged). x.text) (cond b (Some l) (find (λ (x : Logged). same_bytes x.id id) log))) ≡ true →
    is_some (option_map (λ (x : Logged). x.text) (cond b (Some l) (find (λ (x : Logged). same_bytes x.id id) (log ++ more)))) ≡ true) [
      | true ↦ λ h. refl
      | false ↦ λ h. text_stays log more id h
    ] there

-- a state with one more text
abbrev pub with_text : State → Logged → State
with_text s l = record s { log = s.log ++ l ∷ [] }

-- a text that is accepted leads to a lawful state
pub lawful_text : (f : List ℕ → List ℕ) (s : State) (h : List Revision) (l : Logged) (v : Revision) → IsLawful f s → IsHistory f s.files s.log h → IsNext f s.files h l v → IsLawful f (with_text s l)
lawful_text f s h l v law is next = record {
  files = law.files;
  history = h ++ v ∷ [];
  log = history_more f s.files s.log h l v is next;
  certs = law.certs;
  spoken_of = λ c held. text_stays s.log (l ∷ []) c.revision.0 (law.spoken_of c held);
  keys = law.keys;
}

-- what a set has after an insert
pub holds_inserted : (certs : Certificates) (new c : Certificate) → get (insert certs new tt) c ≡ cond (eq_by_cmp cert_cmp c new) (Some tt) (get certs c)
holds_inserted certs new c = get-insert certs_total certs new tt c

tied : (r : Ordering) → is_eq r ≡ true → r ≡ Equal
tied Less e = absurd cc
tied Equal e = refl
tied Greater e = absurd cc

-- what is held then is the new one, or was held before
pub held_more : (certs : Certificates) (new c : Certificate) → Holds (insert certs new tt) c → (c ≡ new) ⊎ Holds certs c
held_more certs new c held = by (eq_by_cmp cert_cmp c new) refl (sym (holds_inserted certs new c) ∙ held)
  where
    by : (b : Bool) → eq_by_cmp cert_cmp c new ≡ b → cond b (Some tt) (get certs c) ≡ Some tt → (c ≡ new) ⊎ Holds certs c
    by true is e = inl (exact_certs c new (tied (cert_cmp c new) is))
    by false is e = inr e

-- one that is held is no new one
pub held_stays : (certs : Certificates) (new c : Certificate) → Holds certs c → Holds (insert certs new tt) c
held_stays certs new c held = holds_inserted certs new c ∙ by (eq_by_cmp cert_cmp c new)
  where
    by : (b : Bool) → cond b (Some tt) (get certs c) ≡ Some tt
    by true = refl
    by false = held

-- the new one is held
pub new_held : (certs : Certificates) (new : Certificate) → Holds (insert certs new tt) new
new_held certs new = holds_inserted certs new new ∙ ap (λ r. cond (is_eq r) (Some tt) (get certs new)) (tied_itself certs_total new)

-- a certificate that is held is held still, and the set is the same
pub same_held : (certs : Certificates) (c : Certificate) → Holds certs c → insert certs c tt ≡ certs
same_held certs c held = same_map certs_total exact_certs (insert certs c tt) certs (λ q. holds_inserted certs c q ∙ by q (eq_by_cmp cert_cmp q c) refl)
  where
    by : (q : Certificate) (b : Bool) → eq_by_cmp cert_cmp q c ≡ b → cond b (Some tt) (get certs q) ≡ get certs q
    by q true is = sym (ap (get certs) (exact_certs q c (tied (cert_cmp q c) is)) ∙ held)
    by q false is = refl

-- what is not refused speaks of a revision of the log
pub known_of : (s : State) (c : Certificate) → cert_refusal s c ≡ None → IsSome (text_under s.log c.revision.0)
known_of s c fine = by (text_under s.log c.revision.0) fine
  where
    by : (o : Option (List ℕ)) → cond (is_none o) (Some (UnknownRevision c.revision)) None ≡ None → IsSome o
    by None e = absurd cc
    by (Some text) e = refl

-- a certificate of a revision of the log leads to a lawful state
pub lawful_cert : (f : List ℕ → List ℕ) (s : State) (c : Certificate) → IsLawful f s → IsLawfulCertificate c → IsIdBytes c.revision.0 → IsIdBytes c.key.0 → IsSome (text_under s.log c.revision.0) →
    IsLawful f (with_cert s c)
lawful_cert f s c law lawful revision key known = record {
  files = law.files;
  history = law.history;
  log = law.log;
  certs = record {
    lawful = λ d held. elim (held_more s.certs c d held) [ inl new ↦ subst IsLawfulCertificate (sym new) lawful | inr old ↦ law.certs.lawful d old ];
    revisions = λ d held. elim (held_more s.certs c d held) [ inl new ↦ subst (λ (x : Certificate). IsIdBytes x.revision.0) (sym new) revision | inr old ↦ law.certs.revisions d old ];
    keys = λ d held. elim (held_more s.certs c d held) [ inl new ↦ subst (λ (x : Certificate). IsIdBytes x.key.0) (sym new) key | inr old ↦ law.certs.keys d old ];
  };
  spoken_of = λ d held. elim (held_more s.certs c d held) [ inl new ↦ subst (λ (x : Certificate). IsSome (text_under s.log x.revision.0)) (sym new) known | inr old ↦ law.spoken_of d old ];
  keys = law.keys;
}

-- a key name leads to a lawful state
pub lawful_key : (f : List ℕ → List ℕ) (s : State) (id : Id) (name : List ℕ) → IsLawful f s → IsIdBytes id.0 → is_field name ≡ true → IsLawful f (with_key s id name)
lawful_key f s id name law twenty field = record {
  files = law.files;
  history = law.history;
  log = law.log;
  certs = law.certs;
  spoken_of = law.spoken_of;
  keys = record {
    ids = λ k n found. elim (found_more s.keys id.0 name k n found) [ inl new ↦ subst IsIdBytes (sym new.0) twenty | inr old ↦ law.keys.ids k n old ];
    names = λ k n found. elim (found_more s.keys id.0 name k n found) [ inl new ↦ ap is_field (sym new.1) ∙ field | inr old ↦ law.keys.names k n old ];
  };
}
