-- The tree of the decisions, in a revision of an id that is no birth.
use Rattle.std.proofs.Common.{◌≡◌, None, subst}
use Rattle.mtn_changeset_laws.specs.Changes.{or_else}
use Rattle.mtn_replay.specs.Making.{too_long, too_many}
use Rattle.mtn_roster.specs.Tree.{Tree}
use Rattle.mtn_merge.proofs.made.trees_of.Goals as goal

pub returns-clause-made : goal.returns-clause-made
returns-clause-made c = (c.in_ok-first.first, c.in_ok-first.ensures.left, c.in_ok-first.ensures.right, c.in_ok-anew.ensures)

pub returns-clause-fine : goal.returns-clause-fine
returns-clause-fine c = subst (λ (u : Tree). or_else (too_many u) (too_long u) ≡ None) c.either.ensures c.in_ok-limited.ensures.fine
