-- What `join` is told of births, and the faults that it tells.
use Rattle.std.specs.Prelude.{◌≡◌, ℕ, Bool, not, List, Option, Some}
use Rattle.std.specs.BTreeSet.{BTreeSet, contains}
use Rattle.std.specs.declared.cmp.Ordering.{Ordering}
use Rattle.mtn_base.specs.Names.{bytes_cmp}
use Rattle.mtn_base.specs.declared.id.Id.{Id}
use Rattle.mtn_changeset_laws.specs.Joining.{JoinWhy}
use Rattle.mtn_changeset_laws.specs.Joining.JoinWhy.{Disagree, Revived}
use Rattle.mtn_join.specs.declared.two_edges.JoinError.{JoinError}
use Rattle.mtn_join.specs.declared.two_edges.JoinError.TheVariants as join

-- ids by their bytes
abbrev pub id_cmp : Id → Id → Ordering
id_cmp a b = bytes_cmp a.0 b.0

-- The test of births that a set of revisions gives. Beside the ancestors of one parent alone, those of the other stand outside
abbrev pub is_outside : BTreeSet Id → Id → Bool
is_outside only birth = not (contains id_cmp only birth)

-- the fault of joining that an answer tells; want of memory tells none
abbrev pub IsFaultOf : JoinError → Option (List (List ℕ) × JoinWhy) → Type 0
IsFaultOf (join.Disagree path) fault = fault ≡ Some (path, Disagree)
IsFaultOf (join.Revived path) fault = fault ≡ Some (path, Revived)
IsFaultOf join.NoMemory fault = Unit {0}
