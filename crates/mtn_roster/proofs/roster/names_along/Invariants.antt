use Rattle.std.proofs.Common.{◌≡◌, map, option_map, slice_get, take, Some}
use Rattle.mtn_roster.specs.declared.entry.Entry.{Entry}
use Rattle.mtn_roster.specs.declared.walk.Stop.{Stop}
use Rattle.mtn_roster.proofs.roster.names_along.Given as goal

abbrev pub invariant-loop-stop : goal.invariant-loop-stop
invariant-loop-stop l = map Some l.names.items ≡ map (λ (s : Stop). option_map (λ (e : Entry). e.name) (slice_get l.entries s.place)) (take l.stop-index l.stops)
