-- The edge has the changes that were handed in.
use Rattle.std.proofs.Common.{sym, ◌∙◌, subst}
use Rattle.mtn_changeset_laws.specs.Laws.{RenamesDiffer}
use Rattle.mtn_apply.proofs.applying.apply.Goals as goal

pub applied-requires-clause-renames : goal.applied-requires-clause-renames
applied-requires-clause-renames c = subst RenamesDiffer (sym (c.in_ok-edge.ensures.all ∙ c.as_slice.ensures ∙ c.changes.view_is)) c.requires.renames
