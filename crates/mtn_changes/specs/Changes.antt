-- What lists of changes are lawful: Monotone's order of kinds, and one change for each thing that changes.
use Rattle.std.specs.Prelude.{◌<◌, ◌≤◌, ℕ, List, length}
use Rattle.std.specs.Str.{IsUtf8}
use Rattle.mtn_base.specs.Comps.{AreComps}
use Rattle.mtn_base.specs.declared.limits.TheConstants.{MAX_KEY}
use Rattle.mtn_changes.specs.declared.change.Change.{Change}
use Rattle.mtn_changes.specs.declared.change.Change.TheVariants.{Delete, Rename, AddDir, AddFile, Patch, Clear, Set}

-- an attribute key
pub record IsKey (key : List ℕ) : Type 0 where
  pub some : 0 < length key
  pub short : length key ≤ MAX_KEY
  pub utf8 : IsUtf8 key

-- its paths are of components, and its key is one
abbrev pub IsChange : Change → Type 0
IsChange (Delete path) = AreComps path
IsChange (Rename path to) = AreComps path × AreComps to
IsChange (AddDir path) = AreComps path
IsChange (AddFile path content) = AreComps path
IsChange (Patch path from to) = AreComps path
IsChange (Clear path key) = AreComps path × IsKey key
IsChange (Set path key value) = AreComps path × IsKey key

-- the place of its kind in an edge
abbrev pub rank : Change → ℕ
rank (Delete path) = 1
rank (Rename path to) = 2
rank (AddDir path) = 3
rank (AddFile path content) = 4
rank (Patch path from to) = 5
rank (Clear path key) = 6
rank (Set path key value) = 7
