-- The edges of the revision that a merge makes.
use Rattle.std.specs.Prelude.{List, [], ◌∷◌, Some}
use Rattle.mtn_base.specs.declared.id.Id.{Id}
use Rattle.mtn_changes.specs.declared.change.Edge.{Edge}
use Rattle.mtn_history_laws.specs.History.{Revision}
use Rattle.mtn_roster.specs.Tree.{Tree}
use Rattle.mtn_replay.specs.Making.{parent_tree}
use Rattle.mtn_between.specs.Between.{between}

-- the canonical changeset from a parent's tree
abbrev pub edge_to : List Revision → Id → Tree → Edge
edge_to h parent t = record { parent = Some parent; changes = between (parent_tree h (Some parent)) t }

-- from both parents
abbrev pub merge_edges : List Revision → Id → Id → Tree → List Edge
merge_edges h a b t = edge_to h a t ∷ edge_to h b t ∷ []
