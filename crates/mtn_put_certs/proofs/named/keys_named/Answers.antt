-- Record by record.
use Rattle.std.proofs.Common.{◌∙◌, [], refl, sym, subst}
use Rattle.mtn_ports.specs.Kept.{with_all}
use Rattle.mtn_ports.proofs.KeptLemmas.{stays_itself, stays_trans}
use Rattle.mtn_put_certs.specs.Walking.{IsFrom}
use Rattle.mtn_put_certs.proofs.HeldLemmas.{at_told}
use Rattle.mtn_put_certs.proofs.NamedLemmas.{all_named, none_named, one_more_key}
use Rattle.mtn_put_certs.proofs.Walking.{from_itself}
use Rattle.mtn_put_certs.proofs.named.keys_named.Goals as goal

pub loop-init : goal.loop-init
loop-init g c = record {
  same_reference = refl;
  stays = stays_itself g.K.Keeper.contents g.K.Keeper.leaves g.K.Keeper.faults c.args.draft.now.keeper.now;
  pending = refl;
  from = subst (IsFrom []) (sym c.new-last.ensures) (from_itself []);
  so_far = λ d told. none_named (with_all d c.args.draft.now.pending.batch) c.args.name.now c.new-last.result c.new-named.result.items c.new-last.ensures c.new-named.ensures.items;
}

pub returns-in_err-has-clause-stays : goal.returns-in_err-has-clause-stays
returns-in_err-has-clause-stays g c = stays_trans g.K.Keeper.contents g.K.Keeper.leaves g.K.Keeper.faults _ _ _ c.loop.invariant.stays c.next_named.ensures.asks.stays

pub returns-in_default-clause-stays : goal.returns-in_default-clause-stays
returns-in_default-clause-stays g c = stays_trans g.K.Keeper.contents g.K.Keeper.leaves g.K.Keeper.faults _ _ _ c.loop.invariant.stays c.next_named.ensures.asks.stays

pub returns-in_default-clause-read : goal.returns-in_default-clause-read
returns-in_default-clause-read g c d told =
    all_named d c.loop.draft.pending c.args.draft.now.pending c.args.name.now c.loop.last c.next_named.new.last c.loop.named.items c.in_ok-has.field-0 c.loop.invariant.pending c.in_default.is
    (at_told (g.K.Keeper.contents c.next_named.new.draft.keeper.now) d _ told c.in_ok-has.ensures.found) (c.loop.invariant.so_far d (c.next_named.ensures.asks.stays.same d told))

pub returns-in_err-add_key-clause-stays : goal.returns-in_err-add_key-clause-stays
returns-in_err-add_key-clause-stays g c = stays_trans g.K.Keeper.contents g.K.Keeper.leaves g.K.Keeper.faults _ _ _ c.loop.invariant.stays c.next_named.ensures.asks.stays

pub loop-preserved : goal.loop-preserved
loop-preserved g c = record {
  same_reference = c.next_named.ensures.asks.same_reference ∙ c.loop.invariant.same_reference;
  stays = stays_trans g.K.Keeper.contents g.K.Keeper.leaves g.K.Keeper.faults _ _ _ c.loop.invariant.stays c.next_named.ensures.asks.stays;
  pending = c.next_named.ensures.asks.pending ∙ c.loop.invariant.pending;
  from = c.in_ok-has.ensures.from;
  so_far = λ d told. one_more_key d c.loop.draft.pending c.args.draft.now.pending c.args.name.now c.loop.last c.next_named.new.last c.loop.named.items c.add_key.new.named.items c.in-Some.has c.in_ok-has.field-0 c.loop.invariant.pending c.in-Some.is
      c.in_ok-add_key.ensures (at_told (g.K.Keeper.contents c.next_named.new.draft.keeper.now) d _ told c.in_ok-has.ensures.found) (c.loop.invariant.so_far d (c.next_named.ensures.asks.stays.same d told));
}
