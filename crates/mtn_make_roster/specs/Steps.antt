-- private, for the proof of `make`: what applying one edge answers, and what joining two trees does.
use Rattle.std.specs.Prelude.{◌≡◌, ℕ, List, Some, option_map}
use Rattle.std.specs.BTreeSet.{BTreeSet}
use Rattle.mtn_base.specs.declared.id.Id.{Id}
use Rattle.mtn_changes.specs.declared.change.Change.{Change}
use Rattle.mtn_changeset_laws.specs.Changes.{first_fault}
use Rattle.mtn_changeset_laws.specs.Joining.{join_fault}
use Rattle.mtn_changeset_laws.specs.Laws.{NoneBornIn, CommonAreKnown}
use Rattle.mtn_join.specs.Join.{is_outside}
use Rattle.mtn_replay.specs.Making.{change_fault, join_cause}
use Rattle.mtn_roster.specs.Tree.{Tree}
use Rattle.mtn_make_roster.specs.declared.error.MakeError.{MakeError}
use Rattle.mtn_make_roster.specs.declared.error.MakeError.TheVariants.{Refused, Damaged, NoMemory}

-- the first change that fails, or an old node that is born in the new revision
abbrev pub IsEdgeError : ℕ → Tree → List Change → Id → MakeError → Type 0
IsEdgeError number old all new (Refused cause) = option_map (change_fault number) (first_fault old all) ≡ Some cause
IsEdgeError number old all new Damaged = NoneBornIn old new → ⊥
IsEdgeError number old all new NoMemory = Unit {0}

-- the least path with a fault, or a node of both trees whose birth one parent alone knows
abbrev pub IsJoinError : Id → BTreeSet Id → BTreeSet Id → Tree → Tree → MakeError → Type 0
IsJoinError new only_left only_right left right (Refused cause) =
    option_map join_cause (join_fault new (is_outside only_right) (is_outside only_left) left right) ≡ Some cause
IsJoinError new only_left only_right left right Damaged = CommonAreKnown left right new (is_outside only_right) (is_outside only_left) → ⊥
IsJoinError new only_left only_right left right NoMemory = Unit {0}
