use Rattle.std.proofs.Common.{◌≡◌, ◌<◌, length}
use Rattle.mtn_roster.specs.Building.{climbed}
use Rattle.mtn_roster.proofs.sane.leads.Given as goal

abbrev pub invariant-loop : goal.invariant-loop
invariant-loop l = (l.at < length l.ups) × (l.at ≡ climbed l.ups l.counter l.from)
