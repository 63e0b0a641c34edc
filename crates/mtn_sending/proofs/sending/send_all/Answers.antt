use Rattle.std.proofs.Common.{Ok, Err, [], length, get_or, sym, ap, ◌∙◌, subst, arith}
use Rattle.std.proofs.lemmas.List.{get_or_default}
use Rattle.std.proofs.lemmas.Result.{err_from_is_err_and}
use Rattle.mtn_history.specs.declared.pending.Pending.{Pending}
use Rattle.mtn_history.proofs.Founding.{back}
use Rattle.mtn_ports.proofs.KeptLemmas.{stays_trans}
use Rattle.mtn_sending.specs.Sending.{IsShownAt, IsShownBelow}
use Rattle.mtn_sending.proofs.Erring.{gives_err, shows}
use Rattle.mtn_sending.proofs.One.{FindsOne, all_written, one_more}
use Rattle.mtn_sending.proofs.sending.send_all.Goals as goal

pub place-requires : goal.place-requires
place-requires g c = c.requires (get_or c.args.ids.now c.loop-id.id-index (record { 0 = [] })) (c.loop-id.id-index, c.loop-id-test.true, sym (get_or_default c.args.ids.now c.loop-id.id-index _ _ c.loop-id-test.true))

pub returns-in_err-send_one-clause-stays : goal.returns-in_err-send_one-clause-stays
returns-in_err-send_one-clause-stays g c = stays_trans g.K.Keeper.contents g.K.Keeper.leaves g.K.Keeper.faults _ _ _ c.loop-id.invariant.stays c.send_one.ensures.stays

pub returns-in_err-send_one-clause-found : goal.returns-in_err-send_one-clause-found
returns-in_err-send_one-clause-found g c = λ f s d held.
    let p = err_from_is_err_and c.from_residual.result c.from_residual.ensures.1 in
    let before = g.K.Keeper.contents c.loop-id.draft.keeper.now in
    let told = g.K.Keeper.contents c.send_one.new.draft.keeper.now in
    let x = get_or c.args.ids.now c.loop-id.id-index (record { 0 = [] }) in
    let own = held x (c.loop-id.id-index, c.loop-id-test.true, sym (get_or_default c.args.ids.now c.loop-id.id-index _ _ c.loop-id-test.true)) in
    let so_far = c.loop-id.invariant.found f s (back f before told c.args.draft.now.pending s c.send_one.ensures.stays.same d) held in
    let finds = subst (λ (z : Pending). FindsOne {X = Unit {0}} told z x c.loop-id.sent c.send_one.new.sent c.loop-id.out.items c.send_one.new.out.items (Err c.in_err-send_one.field-0.0)) c.loop-id.invariant.pending c.in_err-send_one.ensures.found in
    gives_err c.from_residual.result c.in_err-send_one.field-0.0 _ (p.1 ∙ ap Err p.2) (finds f s d own so_far.1 so_far.3)

pub returns-in_err-send_one-clause-shown : goal.returns-in_err-send_one-clause-shown
returns-in_err-send_one-clause-shown g c =
    let p = err_from_is_err_and c.from_residual.result c.from_residual.ensures.1 in
    shows (g.K.Keeper.contents c.send_one.new.draft.keeper.now) c.args.draft.now.pending c.loop-id.draft.pending c.from_residual.result c.in_err-send_one.field-0.0 (λ k d. IsShownAt k c.place.result d) (λ k d. IsShownBelow k (length c.args.graph.now) d)
    (p.1 ∙ ap Err p.2) c.loop-id.invariant.pending (λ k d shown. (c.place.result, c.place.ensures, shown)) c.in_err-send_one.ensures.shown

pub loop-id-preserved : goal.loop-id-preserved
loop-id-preserved g c = record {
  same_reference = c.send_one.ensures.same_reference ∙ c.loop-id.invariant.same_reference;
  stays = stays_trans g.K.Keeper.contents g.K.Keeper.leaves g.K.Keeper.faults _ _ _ c.loop-id.invariant.stays c.send_one.ensures.stays;
  pending = c.send_one.ensures.pending ∙ c.loop-id.invariant.pending;
  found = λ f s d held.
      let before = g.K.Keeper.contents c.loop-id.draft.keeper.now in
      let told = g.K.Keeper.contents c.send_one.new.draft.keeper.now in
      let x = get_or c.args.ids.now c.loop-id.id-index (record { 0 = [] }) in
      let at = get_or_default c.args.ids.now c.loop-id.id-index _ _ c.loop-id-test.true in
      let own = held x (c.loop-id.id-index, c.loop-id-test.true, sym at) in
      let so_far = c.loop-id.invariant.found f s (back f before told c.args.draft.now.pending s c.send_one.ensures.stays.same d) held in
      let finds = subst (λ (z : Pending). FindsOne {X = Unit {0}} told z x c.loop-id.sent c.send_one.new.sent c.loop-id.out.items c.send_one.new.out.items (Ok tt)) c.loop-id.invariant.pending c.in_ok-send_one.ensures.found in
      one_more s c.args.ids.now c.loop-id.id-index x c.loop-id.sent c.send_one.new.sent c.args.out.now.items c.loop-id.out.items c.send_one.new.out.items c.loop-id-test.true at so_far (λ earlier set. finds f s d own earlier set);
}

pub returns-clause-found : goal.returns-clause-found
returns-clause-found g c = λ f s d held. all_written s c.args.ids.now c.loop-id.id-index c.loop-id.sent c.args.out.now.items c.loop-id.out.items (omega (arith, c.loop-id-test.false)) (c.loop-id.invariant.found f s d held)
