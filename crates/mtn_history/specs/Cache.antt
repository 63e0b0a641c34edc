-- What a draft remembers of the records that it stands on.
use Rattle.std.specs.Prelude.{◌≡◌, ◌<◌, ◌⊎◌, ℕ, List, Some, Contains}
use Rattle.std.specs.BTreeMap.{BTreeMap, get}
use Rattle.std.specs.Ordering.{nat_cmp}
use Rattle.mtn_model.specs.Table.{Contents}
use Rattle.mtn_records.specs.declared.record.LogRecord.{LogRecord}
use Rattle.mtn_history.specs.declared.cache.Cache.{Cache}
use Rattle.mtn_history.specs.declared.cache.Recalled.{Recalled}
use Rattle.mtn_history.specs.Remembered.{RebuiltRoster}
use Rattle.mtn_history.specs.Logs.{IsLogged}
use Rattle.mtn_history.specs.Rosters.{Rebuilds}

-- the roster of a position
abbrev pub IsAmong : List Recalled → ℕ → RebuiltRoster → Type 0
IsAmong rosters at r = (x : Recalled) × Contains rosters x × (x.at ≡ at) × (r ≡ x.rebuilt.value)

-- some of what was there, and maybe one more
abbrev pub IsAdded : List Recalled → List Recalled → Recalled → Type 0
IsAdded old new more = (x : Recalled) → Contains new x → Contains old x ⊎ (x ≡ more)

-- what was there, and maybe one more
abbrev pub IsNoted : BTreeMap ℕ LogRecord → BTreeMap ℕ LogRecord → ℕ → LogRecord → Type 0
IsNoted old new at log = (r : ℕ) (l : LogRecord) → get nat_cmp new r ≡ Some l → (get nat_cmp old r ≡ Some l) ⊎ ((r ≡ at) × (l ≡ log))

-- each roster and each record of the log is that of the records, at a position below n
pub record AreRecalled (c : Contents) (n : ℕ) (k : Cache) : Type 0 where
  pub rosters : (x : Recalled) → Contains k.rosters.items x → (x.at < n) × Rebuilds c x.at x.rebuilt.value
  pub log : (at : ℕ) (l : LogRecord) → get nat_cmp k.log at ≡ Some l → (at < n) × IsLogged c at l
