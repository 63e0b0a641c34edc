-- The walk is one over the history.
use Rattle.std.proofs.Common.{sym, subst}
use Rattle.mtn_history_laws.specs.History.{parents_at}
use Rattle.mtn_history.specs.Graph.{TellsGraph}
use Rattle.mtn_history.specs.declared.pending.Pending.{Pending}
use Rattle.mtn_history.proofs.Founding.{tells_founded}
use Rattle.mtn_merge.proofs.sides.uncommon_of.Goals as goal

pub returns-in-Ok-clause-lefts : goal.returns-in-Ok-clause-lefts
returns-in-Ok-clause-lefts g c = λ f s d.
    let p = c.args.draft.now.pending in
    let told = g.K.Keeper.contents c.uncommon.new.graph.keeper.now in
    let tells = subst (λ (q : Pending). TellsGraph told q p.count (parents_at d.stands.history)) (sym c.uncommon.ensures.stays.0.pending) (tells_founded f told p s d) in
    (c.in-Ok.ensures.left p.count (parents_at d.stands.history) tells).exact

pub returns-in-Ok-clause-rights : goal.returns-in-Ok-clause-rights
returns-in-Ok-clause-rights g c = λ f s d.
    let p = c.args.draft.now.pending in
    let told = g.K.Keeper.contents c.uncommon.new.graph.keeper.now in
    let tells = subst (λ (q : Pending). TellsGraph told q p.count (parents_at d.stands.history)) (sym c.uncommon.ensures.stays.0.pending) (tells_founded f told p s d) in
    (c.in-Ok.ensures.right p.count (parents_at d.stands.history) tells).exact
