use Rattle.std.specs.Prelude.{Contains}
use Rattle.mtn_history.specs.declared.cache.Recalled.{Recalled}
use Rattle.mtn_history.proofs.cache.make_room.Given as goal

abbrev pub invariant-loop : goal.invariant-loop
invariant-loop l = (x : Recalled) → Contains l.rosters.items x → Contains l.fn.rosters.items x
