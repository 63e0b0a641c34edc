use Rattle.std.proofs.Common.{◌≡◌, Some, []}
use Rattle.mtn_model.specs.Table.{Contents}
use Rattle.mtn_ports.specs.Kept.{Stays, with_all}
use Rattle.mtn_put_certs.specs.Walking.{IsFrom}
use Rattle.mtn_put_certs.proofs.NamedLemmas.{AreNamedTo}
use Rattle.mtn_put_certs.proofs.named.keys_named.Given as goal

abbrev pub invariant-loop : goal.invariant-loop
invariant-loop g l = record {
  same_reference : l.draft.keeper.ghost_name ≡ l.fn.draft.keeper.ghost_name;
  stays : Stays g.K.Keeper.contents g.K.Keeper.leaves g.K.Keeper.faults l.fn.draft.keeper.now l.draft.keeper.now;
  pending : l.draft.pending ≡ l.fn.draft.pending;
  from : IsFrom [] l.last;
  so_far : (c : Contents) → g.K.Keeper.contents l.draft.keeper.now ≡ Some c → AreNamedTo (with_all c l.fn.draft.pending.batch) l.name l.last l.named.items;
}
