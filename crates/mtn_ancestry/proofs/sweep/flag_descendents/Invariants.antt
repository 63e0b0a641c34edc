use Rattle.std.proofs.Common.{◌↔◌, ℕ, ◌<◌}
use Rattle.mtn_ancestry.specs.Ancestors.{IsProperAncestor}
use Rattle.mtn_ancestry.specs.Log.{parents_of}
use Rattle.mtn_ancestry.specs.Sets.{IsFlagged}
use Rattle.mtn_ancestry.proofs.sweep.flag_descendents.Given as goal

abbrev pub invariant-loop-at : goal.invariant-loop-at
invariant-loop-at l = (x : ℕ) →
    IsFlagged l.below x ↔ ((x < l.at) × ((r : ℕ) × IsFlagged l.given r × IsProperAncestor (parents_of l.log) r x))
