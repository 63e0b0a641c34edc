-- Revision by revision.
use Rattle.std.proofs.Common.{◌∙◌, ◌+◌, Ok, refl, ap, arith}
use Rattle.mtn_generated.specs.Growing.{grown}
use Rattle.mtn_ports.proofs.KeptLemmas.{stays_itself, stays_trans}
use Rattle.mtn_generating.proofs.GrowLemmas.{ended, stopped, went_on}
use Rattle.mtn_generating.proofs.add.grow.Goals as goal

pub loop-before-init : goal.loop-before-init
loop-before-init g c = record {
  same_reference = refl;
  stays = stays_itself g.K.Keeper.contents g.K.Keeper.leaves g.K.Keeper.faults _;
  grew = λ k s told draft. (s, ap (λ t. Ok (grown s t)) c.no_tips-tips.ensures, draft);
}

pub returns-in-Err-clause-same_reference : goal.returns-in-Err-clause-same_reference
returns-in-Err-clause-same_reference g c = c.in-Err.ensures.same_reference ∙ c.loop-before.invariant.same_reference

pub returns-in-Err-clause-goes : goal.returns-in-Err-clause-goes
returns-in-Err-clause-goes g c =
    let n = c.loop-before.before in
    stopped (g.I.Ident.meaning c.args.ident.now) g.K.Keeper.contents g.K.Keeper.leaves g.K.Keeper.faults c.args.draft.now.keeper.now c.loop-before.draft.keeper.now c.add.new.draft.keeper.now c.args.draft.now.pending c.loop-before.draft.pending c.add.new.draft.pending n c.loop-before.tips
    c.loop-before.invariant.stays c.loop-before.invariant.grew c.work_at.result (n + 1) (omega arith) c.work_at.ensures c.args.count c.in-Err.error (omega (arith, c.loop-before-test.true)) c.in-Err.ensures.goes

pub loop-before-preserved : goal.loop-before-preserved
loop-before-preserved g c =
    let n = c.loop-before.before in
    record {
      same_reference = c.in-Ok.ensures.same_reference ∙ c.loop-before.invariant.same_reference;
      stays = stays_trans g.K.Keeper.contents g.K.Keeper.leaves g.K.Keeper.faults _ _ _ c.loop-before.invariant.stays c.in-Ok.ensures.goes.stays;
      grew = went_on (g.I.Ident.meaning c.args.ident.now) g.K.Keeper.contents g.K.Keeper.leaves g.K.Keeper.faults c.args.draft.now.keeper.now c.loop-before.draft.keeper.now c.add.new.draft.keeper.now c.args.draft.now.pending c.loop-before.draft.pending c.add.new.draft.pending n c.loop-before.tips
          c.loop-before.invariant.stays c.loop-before.invariant.grew c.work_at.result (n + 1) (omega arith) c.work_at.ensures c.in-Ok.after c.in-Ok.ensures.goes;
    }

pub returns-clause-goes : goal.returns-clause-goes
returns-clause-goes g c =
    ended (g.I.Ident.meaning c.args.ident.now) g.K.Keeper.contents g.K.Keeper.leaves g.K.Keeper.faults c.args.draft.now.keeper.now c.loop-before.draft.keeper.now c.args.draft.now.pending c.loop-before.draft.pending c.loop-before.before c.args.count c.loop-before.tips
    (let past = c.loop-before-test.false in let most = c.loop-before.auto.before-end in omega (arith, past, most)) c.loop-before.invariant.stays c.loop-before.invariant.grew
