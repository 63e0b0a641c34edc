-- A record that joins alone leads a draft from a state to a state.
use Rattle.std.specs.Prelude.{bytes_eq}
use Rattle.std.proofs.Common.{◌≡◌, ℕ, Bool, true, false, cond, List, [], ◌∷◌, ◌++◌, length, Some, None, refl, sym, ap, ◌∙◌, subst, inl, inr}
use Rattle.std.specs.FinMap.{get, insert}
use Rattle.mtn_base.specs.declared.id.Id.{Id}
use Rattle.mtn_certs.specs.Certificates.{Certificate, IsIdBytes, IsLawfulCertificate, is_field}
use Rattle.mtn_model.specs.State.{Certificates, Logged, State}
use Rattle.mtn_model.specs.Table.{Contents, Table, with_record}
use Rattle.mtn_ports.specs.Kept.{with_all}
use Rattle.mtn_ports.proofs.KeptLemmas.{with_all-append}
use Rattle.mtn_replay.specs.Certificates.{cert_refusal, with_cert, with_key}
use Rattle.mtn_replay.proofs.CertLemmas.{held_more, held_stays, new_held, known_of, lawful_cert, lawful_key}
use Rattle.mtn_replay.proofs.FileLemmas.{found_more, get_inserted}
use Rattle.mtn_history.specs.Certificates.{AreCertRecords, cert_key}
use Rattle.std.proofs.lemmas.Slice.Eq.{bytes_eq-Decides}
use Rattle.mtn_history.specs.Meta.{version}
use Rattle.mtn_history.specs.Records.{meta_puts, put_of, record_puts}
use Rattle.mtn_history.specs.Revisions.{AreLogged, AreRosters, AreTexts}
use Rattle.mtn_history.specs.Stands.{HoldsLog, IsDraft, StandsFor}
use Rattle.mtn_history.specs.declared.pending.Pending.{Pending}
use Rattle.mtn_history.proofs.FileLemmas.{behind_meta, other_table}

-- where the five tables of a log stay, so does what they hold
base_kept : (f : List ℕ → List ℕ) (v : List ℕ) (c d : Contents) (files : Table) (log : List Logged) → d 1 ≡ c 1 → d 2 ≡ c 2 → d 3 ≡ c 3 → d 4 ≡ c 4 → d 5 ≡ c 5 → HoldsLog f v c files log → HoldsLog f v d files log
base_kept f v c d files log e1 e2 e3 e4 e5 base = record {
  meta = e1 ∙ base.meta;
  files = e2 ∙ base.files;
  texts = subst (AreTexts log) (sym e3) base.texts;
  history = base.history;
  spelled = base.spelled;
  kept = base.kept;
  revisions = base.revisions;
  log = subst (AreLogged base.history base.kept) (sym e4) base.log;
  rosters = subst (AreRosters base.history base.kept) (sym e5) base.rosters;
}

at_key : (t : Table) (k b q : List ℕ) → get t q ≡ Some b → get (insert t k b) q ≡ Some b
at_key t k b q held = get_inserted t k b q ∙ by (bytes_eq q k)
  where
    by : (x : Bool) → cond x (Some b) (get t q) ≡ Some b
    by true = refl
    by false = held

itself : (t : Table) (k b : List ℕ) → get (insert t k b) k ≡ Some b
itself t k b = get_inserted t k b k ∙ ap (λ x. cond x (Some b) (get t k)) ((bytes_eq-Decides k k).1 refl)

-- one more certificate, one more record
records_more : (certs : Certificates) (t : Table) (new : Certificate) → AreCertRecords certs t → AreCertRecords (insert certs new tt) (insert t (cert_key new) [])
records_more certs t new records = record {
  each = λ c held. elim (held_more certs new c held) [
    | inl is ↦ ap (λ (x : Certificate). get (insert t (cert_key new) []) (cert_key x)) is ∙ itself t (cert_key new) []
    | inr old ↦ at_key t (cert_key new) [] (cert_key c) (records.each c old)
  ];
  only = λ key body found. elim (found_more t (cert_key new) [] key body found) [
    | inl is ↦ (new, new_held certs new, is.0)
    | inr old ↦ let o = records.only key body old in (o.0, held_stays certs new o.0 o.1, o.2)
  ];
}

-- a certificate that is not refused joins a store
pub cert_stands : (f : List ℕ → List ℕ) (c : Contents) (s : State) (cert : Certificate) → IsLawfulCertificate cert → IsIdBytes cert.revision.0 → IsIdBytes cert.key.0 → cert_refusal s cert ≡ None →
    StandsFor f c s → StandsFor f (with_record c 8 (cert_key cert) []) (with_cert s cert)
cert_stands f c s cert lawful revision made_by fine stands = record {
  lawful = lawful_cert f s cert stands.lawful lawful revision made_by (known_of s cert fine);
  base = base_kept f version c (with_record c 8 (cert_key cert) []) s.files s.log refl refl refl refl refl stands.base;
  keys = stands.keys;
  certs = records_more s.certs (c 8) cert stands.certs;
  others = λ t other. other_table 8 t _ _ other.certs ∙ stands.others t other;
}

-- so does a key name
pub key_stands : (f : List ℕ → List ℕ) (c : Contents) (s : State) (id : Id) (name : List ℕ) → IsIdBytes id.0 → is_field name ≡ true → StandsFor f c s → StandsFor f (with_record c 7 id.0 name) (with_key s id name)
key_stands f c s id name twenty field stands = record {
  lawful = lawful_key f s id name stands.lawful twenty field;
  base = base_kept f version c (with_record c 7 id.0 name) s.files s.log refl refl refl refl refl stands.base;
  keys = ap (λ (t : Table). insert t id.0 name) stands.keys;
  certs = stands.certs;
  others = λ t other. other_table 7 t _ _ other.keys ∙ stands.others t other;
}

-- what joins a store joins a draft
pub draft_beside : (f : List ℕ → List ℕ) (c : Contents) (p : Pending) (s t : State) (kind : ℕ) (key body : List ℕ) → IsDraft f c p s → length s.log ≡ length t.log →
    ((d : Contents) → StandsFor f d s → StandsFor f (with_record d kind key body) t) →
    IsDraft f c (record p { batch = p.batch ++ record_puts p.is_new p.count kind key body; is_new = false }) t
draft_beside f c p s t kind key body draft long joins = record {
  count = draft.count ∙ long;
  stands = rw (with_all-append c p.batch (record_puts p.is_new p.count kind key body), with_all-append (with_all c p.batch) (meta_puts p.is_new p.count) (put_of kind key body ∷ []))
      (joins _ (behind_meta p.is_new f (with_all c p.batch) p.count s draft.count draft.stands));
}
