-- A place that is noted is that of a deleted node.
use Rattle.std.specs.Prelude.{is_some}
use Rattle.std.proofs.Common.{ℕ, List, Option, ap, ◌∙◌}
use Rattle.mtn_changeset_laws.specs.Changes.{deletes}
use Rattle.mtn_apply.specs.Maps.{of_place}
use Rattle.mtn_apply.specs.Old.{entry_in}
use Rattle.mtn_apply.specs.Index.{old_of, changes_of}
use Rattle.mtn_apply.proofs.Positions.{there_is}
use Rattle.mtn_apply.proofs.occupant.is_deleted.Goals as goal

pub returns : goal.returns
returns c = c.is_some.ensures ∙ ap is_some (c.position_at.ensures ∙ ap (λ (l : List (Option ℕ)). of_place l c.args.node.place) c.deref.ensures.value ∙ c.requires.indexed.deleted c.args.node.place (entry_in c.args.node) c.requires.node) ∙ there_is (deletes (old_of c.args.edge.now) (entry_in c.args.node)) 0 (changes_of c.args.edge.now)
