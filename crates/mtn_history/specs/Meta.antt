-- Table 1: `count` with the number of revisions in eight bytes, greatest first, and `version` with the byte `2`. The layout is
-- our choice.
use Rattle.std.specs.Prelude.{◌≡◌, ◌≢◌, ◌⊎◌, ℕ, List, [], ◌∷◌, length, Some, None, IsSome, MatchBool, codes}
use Rattle.std.specs.Int.{w64, to_be_bytes, from_be_bytes}
use Rattle.std.specs.FinMap.{empty, insert}
use Rattle.mtn_model.specs.Table.{Table, Contents, body_at}
use Rattle.mtn_base.specs.declared.refusal.Cause.TheVariants.{OldStore}
use Rattle.mtn_history.specs.declared.errors.Damage.{Damage}
use Rattle.mtn_history.specs.declared.errors.Damage.TheVariants.{Bad, Missing}
use Rattle.mtn_history.specs.declared.errors.HistoryError.{HistoryError}
use Rattle.mtn_history.specs.declared.errors.HistoryError.TheVariants.{Refused, Store}
use Rattle.mtn_history.specs.declared.errors.StoreError.TheVariants.{Damaged, Failed, NoMemory}
use Rattle.mtn_history.specs.declared.meta.Meta.{Meta}
use Rattle.mtn_history.specs.declared.meta.Version.{Version}
use Rattle.mtn_history.specs.declared.meta.Version.TheVariants.{Present, Unheld, Other}

abbrev pub count_key : List ℕ
count_key = codes "count"

abbrev pub version_key : List ℕ
version_key = codes "version"

-- the byte `2`
abbrev pub version : List ℕ
version = 50 ∷ []

-- the byte `1`: certificates stand in table 6 then, under key names
abbrev pub old_version : List ℕ
old_version = 49 ∷ []

-- a store of the older form
abbrev pub HasOldVersion : Contents → Type 0
HasOldVersion c = body_at c 1 version_key ≡ Some old_version

-- the two records of a store of a version and so many revisions
abbrev pub meta_of : List ℕ → ℕ → Table
meta_of v n = insert (insert empty count_key (to_be_bytes w64 n)) version_key v

-- what was found under `version` in a store that is not of the older form
abbrev pub IsVersionOf : Contents → Version → Type 0
IsVersionOf c Present = body_at c 1 version_key ≡ Some version
IsVersionOf c Unheld = body_at c 1 version_key ≡ None
IsVersionOf c (Other body) = (body_at c 1 version_key ≡ Some body.items) × (body.items ≢ version) × (body.items ≢ old_version)

-- the number under `count`
pub record Counted (c : Contents) (n : ℕ) : Type 0 where
  pub body : List ℕ
  pub held : body_at c 1 count_key ≡ Some body
  pub eight : length body ≡ 8
  pub number : n ≡ from_be_bytes w64 body
  pub version : body_at c 1 version_key ≡ Some version

-- what was read of table 1 of a store that is not of the older form
abbrev pub IsMetaOf : Contents → Meta → Type 0
IsMetaOf c m = MatchBool m.is_new ((body_at c 1 count_key ≡ None) × (m.count ≡ 0) × ¬ HasOldVersion c) (Counted c m.count)

abbrev pub VersionDamage : Contents → Damage → Type 0
VersionDamage c (Bad table key body) = (table ≡ 1) × (key ≡ version_key) × (body_at c 1 version_key ≡ Some body) × (body ≢ version)
VersionDamage c (Missing table key) = (table ≡ 1) × (key ≡ version_key) × (body_at c 1 version_key ≡ None)

abbrev pub CountDamage : Contents → Damage → Type 0
CountDamage c (Bad table key body) = (table ≡ 1) × (key ≡ count_key) × (body_at c 1 count_key ≡ Some body) × (length body ≢ 8)
CountDamage c (Missing table key) = ⊥

-- a record of table 1 that fails its reader, or that `count` asks for and is not there
abbrev pub MetaDamage : Contents → Damage → Type 0
MetaDamage c d = IsSome (body_at c 1 count_key) × (VersionDamage c d ⊎ CountDamage c d)

-- refused exactly where the store is of the older form; and a damage is one of table 1 where it is not
abbrev pub IsUnopened : Contents → HistoryError → Type 0
IsUnopened c (Refused cause) = (cause ≡ OldStore) × HasOldVersion c
IsUnopened c (Store (Damaged d)) = MetaDamage c d × ¬ HasOldVersion c
IsUnopened c (Store Failed) = Unit {0}
IsUnopened c (Store NoMemory) = Unit {0}
