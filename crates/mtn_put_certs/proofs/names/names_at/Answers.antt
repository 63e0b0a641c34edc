use Rattle.std.proofs.Common.{◌∙◌, [], get_or, refl, sym, subst}
use Rattle.mtn_history.specs.Stands.{IsDraft}
use Rattle.mtn_history.specs.declared.pending.Pending.{Pending}
use Rattle.mtn_ports.proofs.KeptLemmas.{stays_trans}
use Rattle.mtn_put_certs.proofs.NameLemmas.{one_more_id}
use Rattle.mtn_put_certs.proofs.names.names_at.Goals as goal

pub returns-in_err-name-clause-stays : goal.returns-in_err-name-clause-stays
returns-in_err-name-clause-stays g c = stays_trans g.K.Keeper.contents g.K.Keeper.leaves g.K.Keeper.faults _ _ _ c.loop-id.invariant.stays c.key_name.ensures.asks.stays

pub returns-in_err-add_name-clause-stays : goal.returns-in_err-add_name-clause-stays
returns-in_err-add_name-clause-stays g c = stays_trans g.K.Keeper.contents g.K.Keeper.leaves g.K.Keeper.faults _ _ _ c.loop-id.invariant.stays c.key_name.ensures.asks.stays

pub loop-id-preserved : goal.loop-id-preserved
loop-id-preserved g c = record {
  same_reference = c.key_name.ensures.asks.same_reference ∙ c.loop-id.invariant.same_reference;
  stays = stays_trans g.K.Keeper.contents g.K.Keeper.leaves g.K.Keeper.faults _ _ _ c.loop-id.invariant.stays c.key_name.ensures.asks.stays;
  pending = c.key_name.ensures.asks.pending ∙ c.loop-id.invariant.pending;
  so_far = λ f d s told draft.
      let before = c.key_name.ensures.asks.stays.same d told in
      let own = c.in_ok-name.ensures.found f d s told (subst (λ (x : Pending). IsDraft f d x s) (sym c.loop-id.invariant.pending) draft) in
      let more = c.in_ok-add_name.ensures in
      one_more_id s.keys c.args.ids.now c.loop-id.id-index (get_or c.args.ids.now c.loop-id.id-index (record { 0 = [] })) (record { 0 = [] }) c.in_ok-name.name c.loop-id.names.items c.add_name.new.names.items c.loop-id-test.true refl own more (c.loop-id.invariant.so_far f d s before draft);
}
