-- The text that is planned is put, or its conflicts are the answer.
use Rattle.std.proofs.Common.{Err, refl, ap}
use Rattle.mtn_generating.specs.declared.work.Work.TheVariants.{Joins}
use Rattle.mtn_generating.proofs.GoingLemmas.{MergesBoth, conflicting, merge_ends, merge_put, never_damaged, planned_tree, shown_damage, went_wrong}
use Rattle.mtn_generating.proofs.put.put_merge.Goals as goal

pub put_text-requires-clause-planned : goal.put_text-requires-clause-planned
put_text-requires-clause-planned g c κs within =
    planned_tree (g.I.Ident.meaning c.args.ident.now) (g.K.Keeper.contents c.plan_with.new.draft.keeper.now) c.args.draft.now.pending c.plan_with.new.draft.pending c.in-Ok-Merged.ensures.pending _ c.in-Ok-Merged.text c.as_slice-bytes.ensures c.in-Ok-Merged.id c.in-Ok-Merged.tree
    (rw c.in-Ok-Merged.field-0-is at c.in-Ok-Merged.ensures.tree)

pub shown-requires : goal.shown-requires
shown-requires g c = record {
  damaged = shown_damage (g.K.Keeper.contents c.plan_with.new.draft.keeper.now) c.args.draft.now.pending c.plan_with.new.draft.pending c.in-Err.ensures.pending c.in-Err.error c.in-Err.ensures.damaged;
}

pub returns-in-Ok-Merged-clause-goes : goal.returns-in-Ok-Merged-clause-goes
returns-in-Ok-Merged-clause-goes g c =
    merge_put (g.I.Ident.meaning c.args.ident.now) g.K.Keeper.contents g.K.Keeper.leaves g.K.Keeper.faults c.args.tips.now c.args.draft.now.keeper.now c.plan_with.new.draft.keeper.now c.put_text.new.draft.keeper.now c.args.draft.now.pending c.plan_with.new.draft.pending c.put_text.new.draft.pending
    c.as_slice-bytes.result.now c.in-Ok-Merged.text Joins c.put_text.result c.as_slice-bytes.ensures c.in-Ok-Merged.ensures.pending c.in-Ok-Merged.ensures.stays refl (rw c.in-Ok-Merged.field-0-is at c.in-Ok-Merged.ensures.merges) c.put_text.ensures.goes

pub returns-in-Ok-Conflicted-clause-goes : goal.returns-in-Ok-Conflicted-clause-goes
returns-in-Ok-Conflicted-clause-goes g c =
    conflicting (g.I.Ident.meaning c.args.ident.now) g.K.Keeper.contents g.K.Keeper.leaves g.K.Keeper.faults c.args.tips.now c.args.draft.now.keeper.now c.plan_with.new.draft.keeper.now c.args.draft.now.pending c.plan_with.new.draft.pending c.in-Ok-Conflicted.left c.in-Ok-Conflicted.right c.in-Ok-Conflicted.conflicts
    c.in-Ok-Conflicted.ensures.stays (rw c.in-Ok-Conflicted.field-0-is at c.in-Ok-Conflicted.ensures.ids) (rw c.in-Ok-Conflicted.field-0-is at c.in-Ok-Conflicted.ensures.merges)

pub returns-in-Err-clause-goes : goal.returns-in-Err-clause-goes
returns-in-Err-clause-goes g c =
    went_wrong (g.I.Ident.meaning c.args.ident.now) g.K.Keeper.contents g.K.Keeper.leaves g.K.Keeper.faults c.args.draft.now.keeper.now c.plan_with.new.draft.keeper.now c.shown.new.draft.keeper.now c.args.draft.now.pending c.shown.new.draft.pending (MergesBoth (g.I.Ident.meaning c.args.ident.now) g.K.Keeper.contents g.K.Keeper.leaves g.K.Keeper.faults c.args.tips.now) c.in-Err.error c.shown.result
    c.in-Err.ensures.stays c.shown.ensures.stays c.shown.ensures.answered
    (λ k s told draft. merge_ends (g.I.Ident.meaning c.args.ident.now) g.K.Keeper.contents g.K.Keeper.leaves g.K.Keeper.faults c.args.tips.now (g.K.Keeper.contents c.plan_with.new.draft.keeper.now) k s c.args.draft.now.pending told draft c.in-Err.error c.in-Err.ensures.merges
    (never_damaged (g.I.Ident.meaning c.args.ident.now) (g.K.Keeper.contents c.plan_with.new.draft.keeper.now) k c.args.draft.now.pending s c.in-Err.error told draft c.in-Err.ensures.damaged))
    c.shown.ensures.ordered c.shown.ensures.shown (λ is. c.in-Err.ensures.failed (ap Err is)) c.shown.ensures.failed
