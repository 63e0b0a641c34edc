-- The change at the first position.
use Rattle.std.specs.Prelude.{slice_get, option_and_then, find}
use Rattle.std.proofs.Common.{◌≡◌, ℕ, List, Option, None, Some, ap, ◌∙◌}
use Rattle.mtn_changes.specs.declared.change.Change.{Change}
use Rattle.mtn_roster.specs.declared.entry.Entry.{Entry}
use Rattle.mtn_roster.specs.Tree.{Tree}
use Rattle.mtn_changeset_laws.specs.Changes.{moves}
use Rattle.mtn_apply.specs.declared.index.Edge.{Edge}
use Rattle.mtn_apply.specs.declared.old.Node.{Node}
use Rattle.mtn_apply.specs.Maps.{of_place}
use Rattle.mtn_apply.specs.Old.{entry_in, IsNode}
use Rattle.mtn_apply.specs.Index.{IsIndexed, old_of, changes_of, first_at}
use Rattle.mtn_apply.proofs.Positions.{found_at}
use Rattle.mtn_apply.proofs.after.mover.Goals as goal

it : (old : Tree) (all : List Change) (e : Entry) (at : Option ℕ) → at ≡ first_at (moves old e) all → option_and_then (slice_get all) at ≡ find (moves old e) all
it old all e at h = ap (option_and_then (slice_get all)) h ∙ found_at (moves old e) all

at_node : (edge : Edge) (node : Node) (moved : List (Option ℕ)) → moved ≡ edge.index.moved.items → IsIndexed edge → IsNode (old_of edge) node → of_place moved node.place ≡ first_at (moves (old_of edge) (entry_in node)) (changes_of edge)
at_node edge node moved is indexed at = ap (λ (l : List (Option ℕ)). of_place l node.place) is ∙ indexed.moved node.place (entry_in node) at

pub returns-in-None : goal.returns-in-None
returns-in-None c = it (old_of c.args.edge.now) (changes_of c.args.edge.now) (entry_in c.args.node) None (c.in-None.ensures ∙ at_node c.args.edge.now c.args.node c.deref.result.now c.deref.ensures.value c.requires.indexed c.requires.node)

pub returns-in-Some : goal.returns-in-Some
returns-in-Some c = c.change_at.ensures ∙ it (old_of c.args.edge.now) (changes_of c.args.edge.now) (entry_in c.args.node) (Some c.in-Some.at) (c.in-Some.ensures ∙ at_node c.args.edge.now c.args.node c.deref.result.now c.deref.ensures.value c.requires.indexed c.requires.node)
