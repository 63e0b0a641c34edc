-- private, for the proof of `Batch`: where in a list of records the newest one under a key stands, and what an index of these places says.
use Rattle.std.specs.Prelude.{◌≡◌, ◌==◌, ◌&&◌, if◌then◌else◌, bytes_eq, ℕ, suc, Bool, true, false, List, [], ◌∷◌, ◌++◌, Option, None, Some, slice_get, Vec}
use Rattle.std.specs.Cmp.Lexicographic.{slice_cmp}
use Rattle.std.specs.Ordering.{nat_cmp}
use Rattle.std.specs.BTreeMap.{BTreeMap, get_by}
use Rattle.mtn_ports.specs.declared.batch.Put.{Put}
use Rattle.mtn_ports.specs.declared.index.Index.{Index}

-- a record of this table, under this key
abbrev pub is_under : ℕ → List ℕ → Put → Bool
is_under table key p = p.table == table && bytes_eq key p.key

-- one place further on, or else the first place if the record there is the one
abbrev pub next_place : Option ℕ → Bool → Option ℕ
next_place (Some place) here = Some (suc place)
next_place None true = Some 0
next_place None false = None

-- the place of the last record of a table under a key, counted from 0
abbrev pub newest_place : ℕ → List ℕ → List Put → Option ℕ
newest_place table key [] = None
newest_place table key (p ∷ ps) = next_place (newest_place table key ps) (is_under table key p)

-- of each record the place of the one that it stands over, where `before` are the records before them
abbrev pub stood_over : List Put → List Put → List (Option ℕ)
stood_over before [] = []
stood_over before (p ∷ ps) = newest_place p.table p.key before ∷ stood_over (before ++ p ∷ []) ps

-- what a map has under the bytes of a key
abbrev pub place_under : {Z : Type 0} → BTreeMap (Vec ℕ Z) ℕ → List ℕ → Option ℕ
place_under places key = get_by (λ k. slice_cmp nat_cmp key k.items) places

abbrev pub place_of : {Z : Type 0} → Option (BTreeMap (Vec ℕ Z) ℕ) → List ℕ → Option ℕ
place_of None key = None
place_of (Some places) key = place_under places key

-- what an index has under a key of a table: nothing past its last map
abbrev pub place_in : Index → ℕ → List ℕ → Option ℕ
place_in index table key = place_of (slice_get index.tables.items table) key

-- the same places
abbrev pub SamePlaces : Index → Index → Type 0
SamePlaces old new = (table : ℕ) (key : List ℕ) → place_in new table key ≡ place_in old table key

-- this place under this key, and the same ones elsewhere
abbrev pub SetsPlace : Index → Index → ℕ → List ℕ → Option ℕ → Type 0
SetsPlace old new table key place = (t : ℕ) (k : List ℕ) → place_in new t k ≡ (if table == t && bytes_eq k key then place else place_in old t k)

-- this place under this key of a map, and the same ones elsewhere
abbrev pub SetsUnder : {Z : Type 0} → BTreeMap (Vec ℕ Z) ℕ → BTreeMap (Vec ℕ Z) ℕ → List ℕ → Option ℕ → Type 0
SetsUnder old new key place = (k : List ℕ) → place_under new k ≡ (if bytes_eq k key then place else place_under old k)

-- the index of these records
abbrev pub IsIndexOf : Index → List Put → Type 0
IsIndexOf index ps = (table : ℕ) (key : List ℕ) → place_in index table key ≡ newest_place table key ps
