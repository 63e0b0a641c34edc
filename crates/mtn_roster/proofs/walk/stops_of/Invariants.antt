use Rattle.std.proofs.Common.{◌-◌, length, map, reverse}
use Rattle.mtn_roster.specs.declared.walk.Stop.{Stop}
use Rattle.mtn_roster.proofs.Walking.{IsWalking}
use Rattle.mtn_roster.proofs.Leading.{IsLed}
use Rattle.mtn_roster.proofs.walk.stops_of.Given as goal

abbrev pub invariant-loop-stop : goal.invariant-loop-stop
invariant-loop-stop l =
    IsWalking l.entries (map (λ (s : Stop). s.place) l.stops.items) (map (λ (s : Stop). s.place) (reverse l.waiting.items))
    × IsLed l.entries l.stops.items (reverse l.waiting.items)

abbrev pub decreases-loop-stop : goal.decreases-loop-stop
decreases-loop-stop l = length l.entries - length l.stops.items
