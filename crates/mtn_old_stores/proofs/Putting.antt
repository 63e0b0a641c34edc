-- The records of a migration join one after the other.
use Rattle.std.specs.Prelude.{IsSome, is_some}
use Rattle.std.specs.Cmp.{tied_itself}
use Rattle.std.specs.FinMap.{contains_key-keys, get, keys}
use Rattle.std.specs.List.{AllByRecursion, list_any}
use Rattle.std.specs.Ordering.{eq_by_cmp, is_eq}
use Rattle.std.proofs.Common.{◌≡◌, ◌||◌, ℕ, Bool, true, false, List, [], ◌∷◌, Option, Some, None, refl, sym, ap, ◌∙◌, subst}
use Rattle.mtn_base.specs.declared.id.Id.{Id}
use Rattle.mtn_certs.specs.Certificates.{Certificate, IsIdBytes, IsLawfulCertificate}
use Rattle.mtn_certs.specs.declared.cert.KeyName.{KeyName}
use Rattle.mtn_history.specs.Certificates.{cert_key}
use Rattle.mtn_history.specs.Meta.{version, version_key}
use Rattle.mtn_history.specs.Stands.{StandsFor}
use Rattle.mtn_certs.specs.KeyTables.{IsKeyName}
use Rattle.mtn_model.specs.State.{Logged, State}
use Rattle.mtn_model.specs.Table.{Contents, with_record}
use Rattle.mtn_ports.specs.Kept.{with_all}
use Rattle.mtn_ports.proofs.KeptLemmas.{with_all-append}
use Rattle.mtn_put_certs.proofs.CertLemmas.{known}
use Rattle.mtn_put_certs.proofs.Joining.{cert_stands, key_stands}
use Rattle.mtn_replay.specs.Certificates.{with_cert, with_key}
use Rattle.mtn_replay.specs.Lawful.{IsLawful}
use Rattle.mtn_replay.specs.Texts.{text_under}
use Rattle.mtn_replay.proofs.CertLemmas.{lawful_cert, lawful_key}
use Rattle.mtn_old_stores.specs.Older.{HoldsOld, IsOldLawful, OldCertificate, OldCertificates, OldState, StandsOld, old_cmp}
use Rattle.mtn_old_stores.specs.Migrating.{IsTableOfIds, and_made_by, bare, cert_puts, id_named, key_puts, made_by, migrated, migrating_puts, under_ids, with_certs, with_keys}
use Rattle.mtn_old_stores.proofs.Bare.{bare_lawful, bare_stands}
use Rattle.mtn_old_stores.proofs.Named.{named_ids}
use Rattle.mtn_old_stores.proofs.OldOrder.{old_total}

-- a certificate that may join a log
pub record IsReady (log : List Logged) (c : Certificate) : Type 0 where
  pub lawful : IsLawfulCertificate c
  pub revision : IsIdBytes c.revision.0
  pub key : IsIdBytes c.key.0
  pub spoken_of : IsSome (text_under log c.revision.0)

abbrev pub AreReady : List Logged → List Certificate → Type 0
AreReady log certs = AllByRecursion (IsReady log) certs

-- ---- the certificates under their ids are ready

with_one : (log : List Logged) (o : Option Id) (c : OldCertificate) (others : List Certificate) → ((id : Id) → o ≡ Some id → IsReady log (made_by id c)) → AreReady log others → AreReady log (and_made_by o c others)
with_one log None c others one rest = rest
with_one log (Some id) c others one rest = (one id refl, rest)

pub under_ready : (f : List ℕ → List ℕ) (table : List KeyName) (s : OldState) → IsTableOfIds table → IsOldLawful f s → (certs : List OldCertificate) → ((c : OldCertificate) → list_any (eq_by_cmp old_cmp c) certs ≡ true → HoldsOld s.certs c) →
    AreReady s.log (under_ids table certs)
under_ready f table s is law [] held = tt
under_ready f table s is law (c ∷ certs) held =
    with_one s.log (id_named table c.key) c (under_ids table certs) one (under_ready f table s is law certs (λ d there. held d (second (eq_by_cmp old_cmp d c) (list_any (eq_by_cmp old_cmp d) certs) there)))
  where
    second : (a b : Bool) → b ≡ true → (a || b) ≡ true
    second true b e = refl
    second false b e = e

    own : HoldsOld s.certs c
    own = held c (ap (λ b. b || list_any (eq_by_cmp old_cmp c) certs) (ap is_eq (tied_itself old_total c)))

    one : (id : Id) → id_named table c.key ≡ Some id → IsReady s.log (made_by id c)
    one id e = let l = law.certs c own in record {
      lawful = record { name = l.name; value = l.value; signature = l.signature };
      revision = law.revisions c own;
      key = named_ids table is.ids c.key id e;
      spoken_of = law.spoken_of c own;
    }

-- the keys of a set are what it holds
pub keys_held : (certs : OldCertificates) (c : OldCertificate) → list_any (eq_by_cmp old_cmp c) (keys certs) ≡ true → HoldsOld certs c
keys_held certs c there = by (get certs c) (contains_key-keys certs c ∙ there)
  where
    by : (o : Option (Unit {0})) → is_some o ≡ true → o ≡ Some tt
    by (Some tt) e = refl
    by None e = absurd cc

-- ---- one behind the other

pub certs_stand : (f : List ℕ → List ℕ) (c : Contents) (s : State) (certs : List Certificate) → AreReady s.log certs → StandsFor f c s → StandsFor f (with_all c (cert_puts certs)) (with_certs s certs)
certs_stand f c s [] ready stands = stands
certs_stand f c s (x ∷ certs) ready stands =
    certs_stand f (with_record c 8 (cert_key x) []) (with_cert s x) certs ready.1
    (cert_stands f c s x ready.0.lawful ready.0.revision ready.0.key (known s x ready.0.spoken_of) stands)

pub keys_stand : (f : List ℕ → List ℕ) (c : Contents) (s : State) (table : List KeyName) → AllByRecursion IsKeyName table → AllByRecursion (λ (k : KeyName). IsIdBytes k.id.0) table → StandsFor f c s →
    StandsFor f (with_all c (key_puts table)) (with_keys s table)
keys_stand f c s [] fields ids stands = stands
keys_stand f c s (k ∷ table) fields ids stands =
    keys_stand f (with_record c 7 k.id.0 k.name) (with_key s k.id k.name) table fields.1 ids.1 (key_stands f c s k.id k.name ids.0 fields.0 stands)

certs_lawful : (f : List ℕ → List ℕ) (s : State) (certs : List Certificate) → AreReady s.log certs → IsLawful f s → IsLawful f (with_certs s certs)
certs_lawful f s [] ready law = law
certs_lawful f s (x ∷ certs) ready law = certs_lawful f (with_cert s x) certs ready.1 (lawful_cert f s x law ready.0.lawful ready.0.revision ready.0.key ready.0.spoken_of)

keys_lawful : (f : List ℕ → List ℕ) (s : State) (table : List KeyName) → AllByRecursion IsKeyName table → AllByRecursion (λ (k : KeyName). IsIdBytes k.id.0) table → IsLawful f s → IsLawful f (with_keys s table)
keys_lawful f s [] fields ids law = law
keys_lawful f s (k ∷ table) fields ids law = keys_lawful f (with_key s k.id k.name) table fields.1 ids.1 (lawful_key f s k.id k.name law ids.0 fields.0)

-- ---- all of them

pub migrated_lawful : (f : List ℕ → List ℕ) (table : List KeyName) (s : OldState) → IsTableOfIds table → IsOldLawful f s → IsLawful f (migrated table s)
migrated_lawful f table s is law =
    keys_lawful f (with_certs (bare s) (under_ids table (keys s.certs))) table is.names.fields is.ids
    (certs_lawful f (bare s) (under_ids table (keys s.certs)) (under_ready f table s is law (keys s.certs) (keys_held s.certs)) (bare_lawful f s law))

-- certificates that the state holds, in some order
pub migrating_stands : (f : List ℕ → List ℕ) (table : List KeyName) (c : Contents) (s : OldState) (certs : List OldCertificate) → IsTableOfIds table → StandsOld f c s → ((x : OldCertificate) → list_any (eq_by_cmp old_cmp x) certs ≡ true → HoldsOld s.certs x) →
    StandsFor f (with_all c (migrating_puts table certs)) (with_keys (with_certs (bare s) (under_ids table certs)) table)
migrating_stands f table c s certs is stands held =
    let d = with_record c 1 version_key version in
    let new = under_ids table certs in
    subst (λ (e : Contents). StandsFor f e (with_keys (with_certs (bare s) new) table)) (sym (with_all-append d (cert_puts new) (key_puts table)))
    (keys_stand f (with_all d (cert_puts new)) (with_certs (bare s) new) table is.names.fields is.ids
    (certs_stand f d (bare s) new (under_ready f table s is stands.lawful certs held) (bare_stands f c s stands)))
