use Rattle.std.proofs.Common.{◌≡◌, ◌<◌, length}
use Rattle.mtn_roster.specs.Building.{climbed}
use Rattle.mtn_conflicts.proofs.Seen.{AreRaisedTo}
use Rattle.mtn_conflicts.proofs.loops.raise_round.Given as goal

abbrev pub invariant-loop : goal.invariant-loop
invariant-loop l = (l.at < length l.ups) × (l.at ≡ climbed l.ups l.counter l.start) × AreRaisedTo l.ups l.start l.counter l.initial.flags.items l.flags.items
