-- By what is chosen of the heads.
use Rattle.std.proofs.Common.{Err, ap, ◌∙◌}
use Rattle.std.proofs.lemmas.Result.{err_from_is_err_and}
use Rattle.mtn_commands.specs.Certifying.{first_two}
use Rattle.mtn_commands.proofs.HeadsMerging.{chosen, fewer, no_heads, of_branch, two_heads}
use Rattle.mtn_commands.proofs.merge_heads.merge_heads.Goals as goal

pub returns-in_err-ids-clause-replies : goal.returns-in_err-ids-clause-replies
returns-in_err-ids-clause-replies g c =
    let p = err_from_is_err_and c.from_residual.result c.from_residual.ensures.1 in
    no_heads (g.I.Ident.meaning c.args.ident.now) c.args.branch.now c.args.author.now c.args.date.now c.args.key c.args.resolves c.args.payload.now g.K.Keeper.contents g.K.Keeper.leaves g.K.Keeper.faults
    c.args.draft.now.keeper.now c.heads_of.new.draft.keeper.now c.args.draft.now.pending c.in_err-ids.ensures.stays c.heads_of.new.draft.pending c.from_residual.result c.in_err-ids.field-0.0 (p.1 ∙ ap Err p.2)
    c.in_err-ids.ensures.damaged (λ is. c.in_err-ids.ensures.failed (ap Err is))

pub returns-in_err-left-clause-replies : goal.returns-in_err-left-clause-replies
returns-in_err-left-clause-replies g c =
    let f = g.I.Ident.meaning c.args.ident.now in
    let told = g.K.Keeper.contents c.heads_of.new.draft.keeper.now in
    let p = err_from_is_err_and c.from_residual-in_err-left.result c.from_residual-in_err-left.ensures.1 in
    fewer f c.args.branch.now c.args.author.now c.args.date.now c.args.key c.args.resolves c.args.payload.now g.K.Keeper.contents g.K.Keeper.leaves g.K.Keeper.faults
    c.args.draft.now.keeper.now c.heads_of.new.draft.keeper.now c.args.draft.now.pending c.in_ok-ids.ensures.stays c.heads_of.new.draft.pending c.in_ok-ids.ids.items c.in_err-left.field-0.0 c.from_residual-in_err-left.result (p.1 ∙ ap Err p.2)
    (c.in_err-left.ensures ∙ ap first_two c.as_slice-2.ensures.value)
    (of_branch f told c.args.draft.now.pending _ c.args.branch.now c.in_ok-ids.ids.items c.as_slice.ensures (c.in_ok-ids.ensures.found f))

pub returns-clause-replies : goal.returns-clause-replies
returns-clause-replies g c =
    let f = g.I.Ident.meaning c.args.ident.now in
    let told = g.K.Keeper.contents c.heads_of.new.draft.keeper.now in
    let ids = c.in_ok-ids.ids.items in
    let left = c.in_ok-left.left in
    let right = c.in_ok-left.right in
    let two = chosen ids left right (c.in_ok-left.ensures ∙ ap first_two c.as_slice-2.ensures.value) in
    two_heads f c.args.branch.now c.args.author.now c.args.date.now c.args.key c.args.resolves c.args.payload.now g.K.Keeper.contents g.K.Keeper.leaves g.K.Keeper.faults
    c.args.draft.now.keeper.now c.heads_of.new.draft.keeper.now c.args.draft.now.pending c.in_ok-ids.ensures.stays c.merge_two.new.draft.keeper.now c.heads_of.new.draft.pending c.merge_two.new.draft.pending ids
    left right two.0 c.in_ok-said.said two.1
    (of_branch f told c.args.draft.now.pending _ c.args.branch.now ids c.as_slice.ensures (c.in_ok-ids.ensures.found f))
    c.in_ok-said.ensures c.in_ok-ids.ensures.pending c.merge_two.ensures.replies.stays c.merge_two.result c.merge_two.ensures.replies
