-- What a change changes; clear and set of an attribute change the same.
use Rattle.std.specs.Prelude.{◌≤◌, Bool, List, []}
use Rattle.std.specs.List.{count_by}
use Rattle.std.specs.declared.cmp.Ordering.{Ordering}
use Rattle.std.specs.Ordering.{nat_cmp, ordering_then, is_eq}
use Rattle.mtn_base.specs.Names.{bytes_cmp, path_cmp}
use Rattle.mtn_changes.specs.declared.change.Change.{Change}
use Rattle.mtn_changes.specs.declared.change.Change.TheVariants.{Delete, Rename, AddDir, AddFile, Patch, Clear, Set}
use Rattle.mtn_changes.specs.declared.target.Target.{Target}

abbrev pub target_of : Change → Target
target_of (Delete path) = record { kind = 1; path = path; key = [] }
target_of (Rename path to) = record { kind = 2; path = path; key = [] }
target_of (AddDir path) = record { kind = 3; path = path; key = [] }
target_of (AddFile path content) = record { kind = 4; path = path; key = [] }
target_of (Patch path from to) = record { kind = 5; path = path; key = [] }
target_of (Clear path key) = record { kind = 6; path = path; key = key }
target_of (Set path key value) = record { kind = 6; path = path; key = key }

abbrev pub target_cmp : Target → Target → Ordering
target_cmp a b = ordering_then (nat_cmp a.kind b.kind) (ordering_then (path_cmp a.path b.path) (bytes_cmp a.key b.key))

-- two changes of the same thing
abbrev pub is_same_target : Change → Change → Bool
is_same_target b c = is_eq (target_cmp (target_of b) (target_of c))

-- no two change the same thing
abbrev pub AreApart : List Change → Type 0
AreApart changes = (s : Target) → count_by (λ c. is_eq (target_cmp (target_of c) s)) changes ≤ 1
