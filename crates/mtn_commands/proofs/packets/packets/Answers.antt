use Rattle.std.proofs.Common.{List, subst}
use Rattle.mtn_base.specs.declared.id.Id.{Id}
use Rattle.mtn_step.specs.Step.{Steps}
use Rattle.mtn_step.specs.declared.call.Call.TheVariants.{Packets}
use Rattle.mtn_commands.specs.Drafts.{Drafts}
use Rattle.mtn_commands.proofs.PacketsLemmas.{packets_drafted}
use Rattle.mtn_commands.proofs.packets.packets.Goals as goal

pub returns-clause-drafts : goal.returns-clause-drafts
returns-clause-drafts g c =
    let f = g.I.Ident.meaning c.args.ident.now in
    subst (λ (have : List Id). Drafts f g.K.Keeper.contents g.K.Keeper.leaves g.K.Keeper.faults c.args.draft.now.keeper.now c.export.new.draft.keeper.now c.args.draft.now.pending c.export.new.draft.pending
    (Steps f (Packets c.args.id have) c.args.payload.now) c.export.result) c.as_slice.ensures
    (packets_drafted f c.args.id c.as_slice.result.now c.args.payload.now g.K.Keeper.contents g.K.Keeper.leaves g.K.Keeper.faults c.args.draft.now.keeper.now c.export.new.draft.keeper.now c.args.draft.now.pending c.export.new.draft.pending
    c.export.result c.export.ensures.stays c.export.ensures.pending (λ d s told draft. c.export.ensures.found f d s told draft) c.export.ensures.damaged c.export.ensures.failed)
