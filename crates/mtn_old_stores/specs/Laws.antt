-- What is said of older stores.
use Rattle.std.specs.Prelude.{◌≡◌, ◌↔◌, ℕ, List, Some, Contains}
use Rattle.mtn_base.specs.declared.id.Id.{Id}
use Rattle.mtn_certs.specs.Certificates.{Certificate}
use Rattle.mtn_certs.specs.declared.cert.KeyName.{KeyName}
use Rattle.mtn_history.specs.Stands.{Stands, StandsFor}
use Rattle.mtn_certs.specs.KeyTables.{IsKeyTable}
use Rattle.mtn_model.specs.State.{Holds, State}
use Rattle.mtn_model.specs.Table.{Contents}
use Rattle.mtn_ports.specs.Kept.{with_all}
use Rattle.mtn_replay.specs.Lawful.{IsLawful}
use Rattle.mtn_old_stores.specs.Older.{HoldsOld, IsOldLawful, OldCertificate, OldState, StandsOld}
use Rattle.mtn_old_stores.specs.Migrating.{IsTableOfIds, IsUnder, id_named, made_by, migrated, migrating_puts}

-- contents are those of one older state at most
abbrev pub StandForOne : Type 0
StandForOne = (f : List ℕ → List ℕ) (c : Contents) (s t : OldState) → StandsOld f c s → StandsOld f c t → s ≡ t

-- and not of a state of the present form too
abbrev pub StandOneWay : Type 0
StandOneWay = (f : List ℕ → List ℕ) (c : Contents) (s : OldState) (t : State) → StandsOld f c s → Stands f c t → ⊥

-- what is migrated is lawful
abbrev pub MigratesLawfully : Type 0
MigratesLawfully = (f : List ℕ → List ℕ) (table : List KeyName) (s : OldState) → IsTableOfIds table → IsOldLawful f s → IsLawful f (migrated table s)

-- the records that are put, for the certificates of an older store in any order, make it stand for its migrated state
abbrev pub MigratesRecords : Type 0
MigratesRecords = (f : List ℕ → List ℕ) (table : List KeyName) (c : Contents) (s : OldState) (certs : List OldCertificate) → IsTableOfIds table → StandsOld f c s → ((x : OldCertificate) → Contains certs x ↔ HoldsOld s.certs x) →
    StandsFor f (with_all c (migrating_puts table certs)) (migrated table s)

-- certificates that differ stay apart under ids
abbrev pub StayApart : Type 0
StayApart = (table : List KeyName) (a b : OldCertificate) (i j : Id) → IsKeyTable table → id_named table a.key ≡ Some i → id_named table b.key ≡ Some j → made_by i a ≡ made_by j b → a ≡ b

-- a migrated state holds the certificates of the older one under the ids of their keys, and no others
abbrev pub HoldsMigrated : Type 0
HoldsMigrated = (table : List KeyName) (s : OldState) (x : Certificate) → Holds (migrated table s).certs x ↔ IsUnder table s.certs x
