-- The change at the first position.
use Rattle.std.specs.Prelude.{slice_get, option_and_then, find}
use Rattle.std.proofs.Common.{◌≡◌, ℕ, List, Option, None, Some, ap, ◌∙◌}
use Rattle.mtn_changes.specs.declared.change.Change.{Change}
use Rattle.mtn_changeset_laws.specs.Changes.{aims_at}
use Rattle.mtn_apply.specs.Index.{changes_of, first_at}
use Rattle.mtn_apply.proofs.Positions.{found_at}
use Rattle.mtn_apply.proofs.occupant.aimed.Goals as goal

it : (all : List Change) (q : List (List ℕ)) (at : Option ℕ) → at ≡ first_at (aims_at q) all → option_and_then (slice_get all) at ≡ find (aims_at q) all
it all q at h = ap (option_and_then (slice_get all)) h ∙ found_at (aims_at q) all

pub returns-in-None : goal.returns-in-None
returns-in-None c = it (changes_of c.args.edge.now) c.args.path.now None (c.in-None.ensures ∙ c.requires.targets c.args.path.now)

pub returns-in-Some : goal.returns-in-Some
returns-in-Some c = c.change_at.ensures ∙ it (changes_of c.args.edge.now) c.args.path.now (Some c.in-Some.at) (c.in-Some.ensures ∙ c.requires.targets c.args.path.now)
