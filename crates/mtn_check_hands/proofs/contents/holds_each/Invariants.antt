use Rattle.std.specs.Prelude.{IfSome}
use Rattle.std.proofs.Common.{◌≡◌, None, take}
use Rattle.mtn_ports.specs.Kept.{Stays}
use Rattle.mtn_put_revision.specs.Finding.{first_unknown}
use Rattle.mtn_check_hands.proofs.contents.holds_each.Given as goal

abbrev pub invariant-loop-change : goal.invariant-loop-change
invariant-loop-change g l = record {
  stays : Stays g.K.Keeper.contents g.K.Keeper.leaves g.K.Keeper.faults l.fn.keeper l.keeper;
  held : IfSome (g.K.Keeper.contents l.keeper) (λ c. first_unknown (c 2) (take l.change-index l.changes) ≡ None);
}
