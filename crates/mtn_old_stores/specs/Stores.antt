-- A store of either form, and what `migrate` makes of an older one. The order of the refusals and the answer are our choice.
use Rattle.std.specs.Prelude.{◌≡◌, ◌++◌, ℕ, List, [], ◌∷◌, length, codes, decimal, Option, Some, None, Result, Ok, Err, Contains, IsSome}
use Rattle.std.specs.FinMap.{len}
use Rattle.mtn_base.specs.declared.refusal.Cause.{Cause}
use Rattle.mtn_base.specs.declared.refusal.Cause.TheVariants.{UnknownKey}
use Rattle.mtn_certs.specs.declared.cert.KeyName.{KeyName}
use Rattle.mtn_history.specs.Stands.{Stands}
use Rattle.mtn_certs.specs.GivenTables.{IsTableOf}
use Rattle.mtn_model.specs.State.{State}
use Rattle.mtn_model.specs.Table.{Contents}
use Rattle.mtn_ports.specs.Kept.{IsAbove}
use Rattle.mtn_old_stores.specs.Older.{OldCertificate, OldState, StandsOld}
use Rattle.mtn_old_stores.specs.Migrating.{AreNamed, IsUnknownKey, id_named, migrated}

-- what a store is: a state of the present form, or an older one
pub data Store : Type 0 where
  Present : (state : State) → Store
  Older : (state : OldState) → Store

-- contents stand for a store
abbrev pub StandsIn : (List ℕ → List ℕ) → Contents → Store → Type 0
StandsIn f c (Present s) = Stands f c s
StandsIn f c (Older s) = StandsOld f c s

-- `keys` and the number of keys of the table, `certs` and that of certificates, each with LF
abbrev pub migrated_text : List KeyName → OldState → List ℕ
migrated_text table s = codes "keys " ++ (decimal (length table) ++ (10 ∷ (codes "certs " ++ (decimal (len s.certs) ++ 10 ∷ []))))

-- what comes of an older state: the state that it becomes and the answer, or the cause that refuses
abbrev pub Migrated : Type 0
Migrated = Result (State × List ℕ) Cause

-- by a key table: the least name that the table lacks, and else the migrated state
abbrev pub MigratesBy : List KeyName → OldState → Migrated → Type 0
MigratesBy table s (Ok new) = AreNamed table s.certs × (new ≡ (migrated table s, migrated_text table s))
MigratesBy table s (Err cause) = (name : List ℕ) × IsUnknownKey table s.certs name × (cause ≡ UnknownKey name)

-- by what was given: its first fault, where it is no key table
abbrev pub MigratesGiven : Result (List KeyName) Cause → OldState → Migrated → Type 0
MigratesGiven (Err cause) s result = result ≡ Err cause
MigratesGiven (Ok table) s result = MigratesBy table s result

-- by a payload
abbrev pub Migrates : List ℕ → OldState → Migrated → Type 0
Migrates payload s result = (given : Result (List KeyName) Cause) × IsTableOf payload given × MigratesGiven given s result

-- ---- what is said of these

-- contents are those of one store at most
abbrev pub StandForOneStore : Type 0
StandForOneStore = (f : List ℕ → List ℕ) (c : Contents) (a b : Store) → StandsIn f c a → StandsIn f c b → a ≡ b

-- over an older state a payload comes to no more than one thing
abbrev pub MigratesOnce : Type 0
MigratesOnce = (payload : List ℕ) (s : OldState) (a b : Migrated) → Migrates payload s a → Migrates payload s b → a ≡ b

-- and to something
abbrev pub MigratesSomehow : Type 0
MigratesSomehow = (payload : List ℕ) (s : OldState) → (result : Migrated) × Migrates payload s result

-- ---- private, for the proofs: the certificates one after the other

-- the least name of a key that made one of these certificates and that the table lacks
pub record IsUnknownAmong (table : List KeyName) (certs : List OldCertificate) (name : List ℕ) : Type 0 where
  pub cert : OldCertificate
  pub among : Contains certs cert
  pub of_it : cert.key ≡ name
  pub lacks : id_named table name ≡ None
  pub least : (c : OldCertificate) → Contains certs c → id_named table c.key ≡ None → IsAbove c.key name → ⊥

-- the same, if there is one
abbrev pub IsLeastUnknown : List KeyName → List OldCertificate → Option (List ℕ) → Type 0
IsLeastUnknown table certs None = (c : OldCertificate) → Contains certs c → IsSome (id_named table c.key)
IsLeastUnknown table certs (Some name) = IsUnknownAmong table certs name
