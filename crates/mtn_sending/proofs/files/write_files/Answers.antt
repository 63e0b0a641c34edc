use Rattle.std.proofs.Common.{Err, [], get_or, refl, sym, ap, ◌∙◌, arith}
use Rattle.std.proofs.lemmas.List.{get_or_default}
use Rattle.std.proofs.lemmas.Result.{err_from_is_err_and}
use Rattle.mtn_exports.specs.Exports.{file_packet}
use Rattle.mtn_ports.proofs.KeptLemmas.{stays_trans}
use Rattle.mtn_sending.proofs.Erring.{earlier, gives_err}
use Rattle.mtn_sending.proofs.Packets.{packets_all, packets_more}
use Rattle.mtn_sending.proofs.files.write_files.Goals as goal

pub returns-in_err-write_file-clause-stays : goal.returns-in_err-write_file-clause-stays
returns-in_err-write_file-clause-stays g c = stays_trans g.K.Keeper.contents g.K.Keeper.leaves g.K.Keeper.faults _ _ _ c.loop-id.invariant.stays c.write_file.ensures.stays

pub returns-in_err-write_file-clause-found : goal.returns-in_err-write_file-clause-found
returns-in_err-write_file-clause-found g c = λ f s d held.
    let p = err_from_is_err_and c.from_residual.result c.from_residual.ensures.1 in
    let told = g.K.Keeper.contents c.write_file.new.draft.keeper.now in
    let own = held (get_or c.args.ids.now c.loop-id.id-index (record { 0 = [] })) (c.loop-id.id-index, c.loop-id-test.true, sym (get_or_default c.args.ids.now c.loop-id.id-index _ _ c.loop-id-test.true)) in
    gives_err c.from_residual.result c.in_err-write_file.field-0.0 _ (p.1 ∙ ap Err p.2)
    (c.in_err-write_file.ensures.found f s (earlier f told told c.args.draft.now.pending c.loop-id.draft.pending s (λ k t. t) c.loop-id.invariant.pending d) own.0 own.1)

pub loop-id-preserved : goal.loop-id-preserved
loop-id-preserved g c = record {
  same_reference = c.write_file.ensures.same_reference ∙ c.loop-id.invariant.same_reference;
  stays = stays_trans g.K.Keeper.contents g.K.Keeper.leaves g.K.Keeper.faults _ _ _ c.loop-id.invariant.stays c.write_file.ensures.stays;
  pending = c.write_file.ensures.pending ∙ c.loop-id.invariant.pending;
  found = λ f s d held.
      let told = g.K.Keeper.contents c.write_file.new.draft.keeper.now in
      let own = held (get_or c.args.ids.now c.loop-id.id-index (record { 0 = [] })) (c.loop-id.id-index, c.loop-id-test.true, sym (get_or_default c.args.ids.now c.loop-id.id-index _ _ c.loop-id-test.true)) in
      packets_more (file_packet s) c.args.ids.now c.loop-id.id-index (get_or c.args.ids.now c.loop-id.id-index (record { 0 = [] })) c.args.out.now.items c.loop-id.out.items c.write_file.new.out.items c.loop-id-test.true (get_or_default c.args.ids.now c.loop-id.id-index _ _ c.loop-id-test.true)
      (c.loop-id.invariant.found f s (earlier f (g.K.Keeper.contents c.loop-id.draft.keeper.now) told c.args.draft.now.pending c.args.draft.now.pending s c.write_file.ensures.stays.same refl d) held)
      (c.in_ok-write_file.ensures.found f s (earlier f told told c.args.draft.now.pending c.loop-id.draft.pending s (λ k t. t) c.loop-id.invariant.pending d) own.0 own.1);
}

pub returns-clause-found : goal.returns-clause-found
returns-clause-found g c = λ f s d held.
    packets_all (file_packet s) c.args.ids.now c.loop-id.id-index c.args.out.now.items c.loop-id.out.items (omega (arith, c.loop-id-test.false)) (c.loop-id.invariant.found f s d held)
