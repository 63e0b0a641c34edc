use Rattle.std.proofs.Common.{◌≡◌}
use Rattle.std.specs.Prelude.{IfSome}
use Rattle.mtn_ports.specs.Kept.{Stays, with_all}
use Rattle.mtn_put_certs.specs.Walking.{IsFrom}
use Rattle.mtn_put_certs.proofs.HeldLemmas.{AreRead}
use Rattle.mtn_put_certs.proofs.held.certs_behind.Given as goal

abbrev pub invariant-loop : goal.invariant-loop
invariant-loop g l = record {
  same_reference : l.draft.keeper.ghost_name ≡ l.fn.draft.keeper.ghost_name;
  stays : Stays g.K.Keeper.contents g.K.Keeper.leaves g.K.Keeper.faults l.fn.draft.keeper.now l.draft.keeper.now;
  pending : l.draft.pending ≡ l.fn.draft.pending;
  from : IsFrom l.front l.last;
  so_far : IfSome (g.K.Keeper.contents l.draft.keeper.now) (λ c. AreRead (with_all c l.fn.draft.pending.batch) l.front l.last l.certs.items);
}
