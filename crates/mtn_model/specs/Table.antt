-- What a keeper holds: in each table a finite map from keys to bodies.
use Rattle.std.specs.Prelude.{ℕ, List, if◌then◌else◌, ◌==◌, Option}
use Rattle.std.specs.FinMap.{FinMap, insert, get, empty}
use Rattle.std.specs.Cmp.Lexicographic.{slice_cmp}
use Rattle.std.specs.Ordering.{nat_cmp}

-- keys are ordered byte by byte
abbrev pub Table : Type 0
Table = FinMap (slice_cmp nat_cmp) (List ℕ)

-- each table by its number
abbrev pub Contents : Type 0
Contents = ℕ → Table

abbrev pub no_table : Table
no_table = empty

abbrev pub nothing : Contents
nothing = λ _. empty

-- the body under a key of a table
abbrev pub body_at : Contents → ℕ → List ℕ → Option (List ℕ)
body_at contents table key = get (contents table) key

-- the contents with one more record, over an earlier one of the same key
abbrev pub with_record : Contents → ℕ → List ℕ → List ℕ → Contents
with_record contents table key body = λ t. if table == t then insert (contents t) key body else contents t
