use Rattle.std.specs.Prelude.{IfSome}
use Rattle.std.proofs.Common.{◌≡◌, None, take}
use Rattle.mtn_ports.specs.Kept.{Stays}
use Rattle.mtn_put_revision.proofs.Looking.{unknown_of_edges}
use Rattle.mtn_check_hands.proofs.contents.holds_all.Given as goal

abbrev pub invariant-loop-edge : goal.invariant-loop-edge
invariant-loop-edge g l = record {
  stays : Stays g.K.Keeper.contents g.K.Keeper.leaves g.K.Keeper.faults l.fn.keeper l.keeper;
  held : IfSome (g.K.Keeper.contents l.keeper) (λ c. unknown_of_edges (c 2) (take l.edge-index l.edges) ≡ None);
}
