use Rattle.std.proofs.Common.{◌≡◌, ◌<◌, length, take, slice_get}
use Rattle.mtn_roster.specs.Tree.{node_at}
use Rattle.mtn_roster.proofs.roster.node_among.Given as goal

abbrev pub invariant-loop-comp : goal.invariant-loop-comp
invariant-loop-comp l = (l.at < length l.entries) × (slice_get l.entries l.at ≡ node_at l.entries (take l.comp-index l.comps))
