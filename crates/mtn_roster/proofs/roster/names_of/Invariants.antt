use Rattle.std.proofs.Common.{◌≡◌, map, option_map, slice_get, take, Some}
use Rattle.mtn_roster.specs.declared.entry.Entry.{Entry}
use Rattle.mtn_roster.proofs.roster.names_of.Given as goal

abbrev pub invariant-loop-place : goal.invariant-loop-place
invariant-loop-place l = map Some l.names.items ≡ map (λ k. option_map (λ (e : Entry). e.name) (slice_get l.entries k)) (take l.place-index l.places)
