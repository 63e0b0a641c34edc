-- The text that is planned is put, or the conflicts are told.
use Rattle.std.specs.Prelude.{option_copied}
use Rattle.std.proofs.Common.{Ok, Err, sym, ap, ◌∙◌}
use Rattle.std.proofs.lemmas.Result.{err_from_is_err_and}
use Rattle.mtn_plans.specs.declared.outcome.MergeOutcome.TheVariants.{Conflicted, Merged}
use Rattle.mtn_commands.proofs.MergeLemmas.{found_conflicts, given_over, not_planned, put_replied, put_with}
use Rattle.mtn_commands.proofs.merge.merge_two.Goals as goal

pub returns-in_err-text-clause-replies : goal.returns-in_err-text-clause-replies
returns-in_err-text-clause-replies g c =
    let f = g.I.Ident.meaning c.args.ident.now in
    let told = g.K.Keeper.contents c.plan_with.new.draft.keeper.now in
    let before = c.args.draft.now.pending in
    let said = option_copied c.args.said in
    let e = c.in_err-text.field-0.0 in
    let p = err_from_is_err_and c.from_residual.result c.from_residual.ensures.1 in
    not_planned f c.args.a c.args.b c.args.resolves said c.args.payload.now g.K.Keeper.contents g.K.Keeper.leaves g.K.Keeper.faults c.args.draft.now.keeper.now c.plan_with.new.draft.keeper.now before
    c.in_err-text.ensures.stays c.plan_with.new.draft.pending c.in_err-text.ensures.pending c.from_residual.result e (p.1 ∙ ap Err p.2)
    (given_over f c.args.a c.args.b c.args.resolves said c.args.payload.now told before (Err e) _ c.resolution_text-text.ensures c.in_err-text.ensures.merges) c.in_err-text.ensures.damaged
    (λ is. c.in_err-text.ensures.failed (ap Err is))

pub returns-in-Merged-clause-replies : goal.returns-in-Merged-clause-replies
returns-in-Merged-clause-replies g c =
    let f = g.I.Ident.meaning c.args.ident.now in
    let told = g.K.Keeper.contents c.plan_with.new.draft.keeper.now in
    let before = c.args.draft.now.pending in
    let said = option_copied c.args.said in
    put_replied f c.args.a c.args.b c.args.resolves said c.args.payload.now g.K.Keeper.contents g.K.Keeper.leaves g.K.Keeper.faults c.args.draft.now.keeper.now c.plan_with.new.draft.keeper.now before
    c.in_ok-text.ensures.stays c.put_text.new.draft.keeper.now c.put_text.new.draft.pending c.in-Merged.text
    (given_over f c.args.a c.args.b c.args.resolves said c.args.payload.now told before (Ok (Merged c.in-Merged.text)) _ c.resolution_text-text.ensures (rw c.in-Merged.is at c.in_ok-text.ensures.merges))
    c.put_text.ensures.drafts.stays c.plan_with.new.draft.pending _ c.put_text.result _ c.in_ok-text.ensures.pending c.as_slice.ensures c.put_text.ensures.drafts c.told.ensures

pub returns-in_ok-conflict_text-in-Conflicted-clause-replies : goal.returns-in_ok-conflict_text-in-Conflicted-clause-replies
returns-in_ok-conflict_text-in-Conflicted-clause-replies g c =
    let f = g.I.Ident.meaning c.args.ident.now in
    let told = g.K.Keeper.contents c.plan_with.new.draft.keeper.now in
    let before = c.args.draft.now.pending in
    let said = option_copied c.args.said in
    found_conflicts f c.args.a c.args.b c.args.resolves said c.args.payload.now g.K.Keeper.contents g.K.Keeper.leaves g.K.Keeper.faults c.args.draft.now.keeper.now c.plan_with.new.draft.keeper.now before
    c.in_ok-text.ensures.stays c.plan_with.new.draft.pending c.in_ok-text.ensures.pending c.in-Conflicted.left c.in-Conflicted.right c.in-Conflicted.conflicts _ c.in_ok-conflict_text-in-Conflicted.ensures
    (given_over f c.args.a c.args.b c.args.resolves said c.args.payload.now told before (Ok (Conflicted c.in-Conflicted.left c.in-Conflicted.right c.in-Conflicted.conflicts)) _ c.resolution_text-text.ensures (rw c.in-Conflicted.is at c.in_ok-text.ensures.merges))

pub put_text-requires-clause-id : goal.put_text-requires-clause-id
put_text-requires-clause-id g c = λ κs alive. (rw c.in-Merged.is at c.in_ok-text.ensures.ids) ∙ ap (g.I.Ident.meaning c.args.ident.now) (sym c.as_slice.ensures)

pub put_text-requires-clause-planned : goal.put_text-requires-clause-planned
put_text-requires-clause-planned g c = λ κs alive.
    put_with (g.I.Ident.meaning c.args.ident.now) (g.K.Keeper.contents c.plan_with.new.draft.keeper.now) c.args.draft.now.pending c.plan_with.new.draft.pending c.in_ok-text.ensures.pending _ c.in-Merged.text c.as_slice.ensures c.in-Merged.id c.in-Merged.tree
    (rw c.in-Merged.is at c.in_ok-text.ensures.tree)
