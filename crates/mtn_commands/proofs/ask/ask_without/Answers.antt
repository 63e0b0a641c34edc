-- One of them.
use Rattle.std.proofs.Common.{sym, ap, ◌∙◌, subst}
use Rattle.mtn_answers.specs.declared.query.Query.{Query}
use Rattle.mtn_answers.specs.declared.query.Query.TheVariants.{AncestryDifference}
use Rattle.mtn_step.specs.Step.{Steps}
use Rattle.mtn_step.specs.declared.call.Call.TheVariants.{Ask}
use Rattle.mtn_commands.specs.Drafts.{Drafts}
use Rattle.mtn_commands.proofs.HeadsMerging.{one_of}
use Rattle.mtn_commands.proofs.ask.ask_without.Goals as goal

pub returns-in-len1-clause-drafts : goal.returns-in-len1-clause-drafts
returns-in-len1-clause-drafts g c =
    let f = g.I.Ident.meaning c.args.ident.now in
    subst (λ (query : Query). Drafts f g.K.Keeper.contents g.K.Keeper.leaves g.K.Keeper.faults c.args.draft.now.keeper.now c.ask_difference.new.draft.keeper.now c.args.draft.now.pending
    c.ask_difference.new.draft.pending (Steps f (Ask query) c.args.payload.now) c.ask_difference.result)
    (sym (c.requires.asked ∙ ap (AncestryDifference c.args.of) (one_of c.args.without.now c.in-len1.len_at_least c.in-len1.len_below)))
    c.ask_difference.ensures.drafts
