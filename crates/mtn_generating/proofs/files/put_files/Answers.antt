-- Text by text.
use Rattle.std.proofs.Common.{◌∙◌, ap, refl, length, arith}
use Rattle.std.specs.Vec.Iter.{into_iter_items, into_iter_len}
use Rattle.mtn_ports.proofs.KeptLemmas.{stays_itself, stays_trans}
use Rattle.mtn_generating.proofs.FileLemmas.{all_again, all_put, not_put, one_less, one_put}
use Rattle.mtn_generating.proofs.files.put_files.Goals as goal

pub returns-in-Err-clause-stays : goal.returns-in-Err-clause-stays
returns-in-Err-clause-stays g c = stays_trans g.K.Keeper.contents g.K.Keeper.leaves g.K.Keeper.faults _ _ _ c.loop-text.invariant.stays c.in-Err.ensures.stays

pub returns-in-Err-clause-puts : goal.returns-in-Err-clause-puts
returns-in-Err-clause-puts g c = λ k s told draft.
    let f = g.I.Ident.meaning c.args.ident.now in
    let so = c.loop-text.invariant.puts k s (c.in-Err.ensures.stays.same k told) draft in
    not_put f k s c.args.texts.items c.loop-text.yielded (into_iter_items c.loop-text.text-iterator) (into_iter_items c.next.new.self) c.in-Some.text c.loop-text.invariant.all c.in-Some.ensures.steps.0 c.loop-text.draft.pending so c.put_file.new.self.pending
    c.in-Err.error (c.in-Err.ensures.accepts k _ told so.1)

pub returns-in-Err-clause-failed : goal.returns-in-Err-clause-failed
returns-in-Err-clause-failed g c = λ is.
    let before = c.loop-text.invariant.stays.later in
    let rose = c.in-Err.ensures.failed (let same = is in cc) in
    omega (arith, before, rose)

pub loop-text-init : goal.loop-text-init
loop-text-init g c = record {
  all = c.into_iter-text-iterator.ensures.into_iter_gives.0;
  long = omega (arith, ap length c.into_iter-text-iterator.ensures.into_iter_gives.0, c.into_iter-text-iterator.ensures.into_iter_gives.1, c.len-count.ensures);
  same_reference = refl;
  stays = stays_itself g.K.Keeper.contents g.K.Keeper.leaves g.K.Keeper.faults c.args.draft.now.keeper.now;
  puts = λ k s told draft. (refl, draft);
}

pub loop-text-preserved : goal.loop-text-preserved
loop-text-preserved g c = record {
  all = all_again (g.I.Ident.meaning c.args.ident.now) c.args.texts.items c.loop-text.yielded (into_iter_items c.loop-text.text-iterator) (into_iter_items c.next.new.self) c.in-Some.text c.loop-text.invariant.all c.in-Some.ensures.steps.0;
  long = one_less (into_iter_items c.loop-text.text-iterator) (into_iter_items c.next.new.self) c.in-Some.text (into_iter_len c.loop-text.text-iterator) (into_iter_len c.next.new.self) c.loop-text.invariant.long c.in-Some.ensures.steps.0 c.in-Some.ensures.steps.1;
  same_reference = c.in-Ok.ensures.same_reference ∙ c.loop-text.invariant.same_reference;
  stays = stays_trans g.K.Keeper.contents g.K.Keeper.leaves g.K.Keeper.faults _ _ _ c.loop-text.invariant.stays c.in-Ok.ensures.stays;
  puts = λ k s told draft.
      let f = g.I.Ident.meaning c.args.ident.now in
      let so = c.loop-text.invariant.puts k s (c.in-Ok.ensures.stays.same k told) draft in
      one_put f k s c.args.texts.items c.loop-text.yielded (into_iter_items c.loop-text.text-iterator) (into_iter_items c.next.new.self) c.in-Some.text c.loop-text.invariant.all c.in-Some.ensures.steps.0 c.loop-text.draft.pending so c.put_file.new.self.pending
      c.in-Ok.field-0 (c.in-Ok.ensures.accepts k _ told so.1);
}

pub returns-clause-puts : goal.returns-clause-puts
returns-clause-puts g c = λ k s told draft.
    all_put (g.I.Ident.meaning c.args.ident.now) k s c.args.texts.items c.loop-text.yielded (into_iter_items c.loop-text.text-iterator) c.loop-text.draft.pending c.loop-text.invariant.all (omega (arith, c.loop-text.invariant.long, c.in-None.ensures.steps.0)) (c.loop-text.invariant.puts k s told draft)
