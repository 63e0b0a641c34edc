-- A text that is put.
use Rattle.std.specs.Prelude.{IfSome}
use Rattle.std.proofs.Common.{Err, sym, ap, subst}
use Rattle.mtn_history.specs.Damage.{IsDamage}
use Rattle.mtn_history.specs.Errors.{IfStoreDamage}
use Rattle.mtn_history.specs.Marked.{IsCounted}
use Rattle.mtn_history.specs.declared.pending.Pending.{Pending}
use Rattle.mtn_ports.specs.Kept.{with_all}
use Rattle.mtn_generating.proofs.GoingLemmas.{Puts, text_ends, text_put, went_wrong}
use Rattle.mtn_generating.proofs.put.put_text.Goals as goal

pub returns-in-Ok-clause-goes : goal.returns-in-Ok-clause-goes
returns-in-Ok-clause-goes g c =
    text_put (g.I.Ident.meaning c.args.ident.now) g.K.Keeper.contents g.K.Keeper.leaves g.K.Keeper.faults c.args.work c.args.tips.now c.args.text.now c.args.draft.now.keeper.now c.put_revision_as.new.draft.keeper.now
    c.args.draft.now.pending c.put_revision_as.new.draft.pending c.args.id c.tips_after.result c.requires.id c.tips_after.ensures c.in-Ok.ensures.stays (λ k s told draft. c.in-Ok.ensures.accepts k s told draft)

pub returns-in-Err-clause-goes : goal.returns-in-Err-clause-goes
returns-in-Err-clause-goes g c =
    went_wrong (g.I.Ident.meaning c.args.ident.now) g.K.Keeper.contents g.K.Keeper.leaves g.K.Keeper.faults c.args.draft.now.keeper.now c.put_revision_as.new.draft.keeper.now c.shown.new.draft.keeper.now c.args.draft.now.pending c.shown.new.draft.pending
    (Puts (g.I.Ident.meaning c.args.ident.now) g.K.Keeper.contents g.K.Keeper.leaves g.K.Keeper.faults c.args.work c.args.tips.now c.args.text.now) c.in-Err.error c.shown.result c.in-Err.ensures.stays c.shown.ensures.stays c.shown.ensures.answered
    (λ k s told draft. text_ends (g.I.Ident.meaning c.args.ident.now) g.K.Keeper.contents g.K.Keeper.leaves g.K.Keeper.faults c.args.work c.args.tips.now c.args.text.now k s c.in-Err.error c.put_revision_as.new.draft.pending (c.in-Err.ensures.accepts k s told draft))
    c.shown.ensures.ordered c.shown.ensures.shown (λ is. c.in-Err.ensures.failed (ap Err is)) c.shown.ensures.failed

pub shown-requires : goal.shown-requires
shown-requires g c = record {
  damaged = subst (λ (p : Pending). IfSome (g.K.Keeper.contents c.put_revision_as.new.draft.keeper.now) (λ k. IsCounted p k → IfStoreDamage c.in-Err.error (IsDamage (with_all k p.batch)))) (sym c.in-Err.ensures.err) c.in-Err.ensures.damaged;
}
