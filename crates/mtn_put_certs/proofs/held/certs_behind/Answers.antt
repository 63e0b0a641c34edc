-- Record by record.
use Rattle.std.proofs.Common.{◌∙◌, refl, sym, subst}
use Rattle.mtn_ports.proofs.KeptLemmas.{stays_itself, stays_trans}
use Rattle.mtn_put_certs.specs.Walking.{IsFrom}
use Rattle.mtn_put_certs.proofs.HeldLemmas.{all_read, none_read, one_more_cert}
use Rattle.mtn_put_certs.proofs.Walking.{from_itself}
use Rattle.mtn_put_certs.proofs.held.certs_behind.Goals as goal

pub loop-init : goal.loop-init
loop-init g c = record {
  same_reference = refl;
  stays = stays_itself g.K.Keeper.contents g.K.Keeper.leaves g.K.Keeper.faults c.args.draft.now.keeper.now;
  pending = refl;
  from = subst (IsFrom c.args.front.now) (sym c.in_ok-last.ensures) (from_itself c.args.front.now);
  so_far = none_read (g.K.Keeper.contents c.args.draft.now.keeper.now) c.args.draft.now.pending c.args.front.now c.in_ok-last.last c.new-certs.result.items c.in_ok-last.ensures c.new-certs.ensures.items;
}

pub returns-in_err-cert-clause-stays : goal.returns-in_err-cert-clause-stays
returns-in_err-cert-clause-stays g c = stays_trans g.K.Keeper.contents g.K.Keeper.leaves g.K.Keeper.faults _ _ _ c.loop.invariant.stays c.next_cert.ensures.asks.stays

pub returns-in_default-clause-stays : goal.returns-in_default-clause-stays
returns-in_default-clause-stays g c = stays_trans g.K.Keeper.contents g.K.Keeper.leaves g.K.Keeper.faults _ _ _ c.loop.invariant.stays c.next_cert.ensures.asks.stays

pub returns-in_default-clause-read : goal.returns-in_default-clause-read
returns-in_default-clause-read g c =
    all_read (g.K.Keeper.contents c.loop.draft.keeper.now) (g.K.Keeper.contents c.next_cert.new.draft.keeper.now) c.args.draft.now.pending c.loop.draft.pending c.args.front.now c.loop.last c.next_cert.new.last c.loop.certs.items c.in_ok-cert.field-0
    c.next_cert.ensures.asks.stays.same c.loop.invariant.pending c.in_default.is c.in_ok-cert.ensures.found c.loop.invariant.so_far

pub returns-in_err-push-clause-stays : goal.returns-in_err-push-clause-stays
returns-in_err-push-clause-stays g c = stays_trans g.K.Keeper.contents g.K.Keeper.leaves g.K.Keeper.faults _ _ _ c.loop.invariant.stays c.next_cert.ensures.asks.stays

pub loop-preserved : goal.loop-preserved
loop-preserved g c = record {
  same_reference = c.next_cert.ensures.asks.same_reference ∙ c.loop.invariant.same_reference;
  stays = stays_trans g.K.Keeper.contents g.K.Keeper.leaves g.K.Keeper.faults _ _ _ c.loop.invariant.stays c.next_cert.ensures.asks.stays;
  pending = c.next_cert.ensures.asks.pending ∙ c.loop.invariant.pending;
  from = c.in_ok-cert.ensures.from;
  so_far = one_more_cert (g.K.Keeper.contents c.loop.draft.keeper.now) (g.K.Keeper.contents c.next_cert.new.draft.keeper.now) c.args.draft.now.pending c.loop.draft.pending c.args.front.now c.loop.last c.next_cert.new.last c.loop.certs.items c.push.new.self.items
      c.in-Some.cert c.in_ok-cert.field-0 c.next_cert.ensures.asks.stays.same c.loop.invariant.pending c.in-Some.is c.in_ok-push.ensures.items c.in_ok-cert.ensures.found c.loop.invariant.so_far;
}
