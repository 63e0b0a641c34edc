-- The walk over the draft.
use Rattle.std.specs.Prelude.{max}
use Rattle.std.proofs.Common.{sym, subst}
use Rattle.mtn_history.proofs.Founding.{tells_founded}
use Rattle.mtn_history.specs.Graph.{TellsGraph}
use Rattle.mtn_history.specs.declared.pending.Pending.{Pending}
use Rattle.mtn_history_laws.specs.History.{parents_at}
use Rattle.mtn_near_queries.proofs.Between.{by_contains}
use Rattle.mtn_near_queries.proofs.difference.positions_between.Goals as goal

pub returns-in-Ok-clause-reads : goal.returns-in-Ok-clause-reads
returns-in-Ok-clause-reads g c = λ f s d low reaches.
    let p = c.args.draft.now.pending in
    let told = g.K.Keeper.contents c.uncommon.new.graph.keeper.now in
    c.uncommon.ensures.count p.count (parents_at d.stands.history) low
    (subst (λ (q : Pending). TellsGraph told q p.count (parents_at d.stands.history)) (sym c.uncommon.ensures.stays.0.pending) (tells_founded f told p s d)) reaches

pub returns-in-Ok-clause-found : goal.returns-in-Ok-clause-found
returns-in-Ok-clause-found g c = λ f s d.
    let p = c.args.draft.now.pending in
    let told = g.K.Keeper.contents c.uncommon.new.graph.keeper.now in
    c.in-Ok.ensures.left p.count (parents_at d.stands.history)
    (subst (λ (q : Pending). TellsGraph told q p.count (parents_at d.stands.history)) (sym c.uncommon.ensures.stays.0.pending) (tells_founded f told p s d))

pub returns-in-Ok-clause-below : goal.returns-in-Ok-clause-below
returns-in-Ok-clause-below g c = λ at k. by_contains (max c.args.left c.args.right) c.in-Ok.sets.0 c.in-Ok.ensures.within.0 at k

pub returns-in-Err-Asked-clause-reads : goal.returns-in-Err-Asked-clause-reads
returns-in-Err-Asked-clause-reads g c = λ f s d low reaches.
    let p = c.args.draft.now.pending in
    let told = g.K.Keeper.contents c.uncommon.new.graph.keeper.now in
    c.uncommon.ensures.count p.count (parents_at d.stands.history) low
    (subst (λ (q : Pending). TellsGraph told q p.count (parents_at d.stands.history)) (sym c.uncommon.ensures.stays.0.pending) (tells_founded f told p s d)) reaches

pub returns-in-Err-NoMemory-clause-reads : goal.returns-in-Err-NoMemory-clause-reads
returns-in-Err-NoMemory-clause-reads g c = λ f s d low reaches.
    let p = c.args.draft.now.pending in
    let told = g.K.Keeper.contents c.uncommon.new.graph.keeper.now in
    c.uncommon.ensures.count p.count (parents_at d.stands.history) low
    (subst (λ (q : Pending). TellsGraph told q p.count (parents_at d.stands.history)) (sym c.uncommon.ensures.stays.0.pending) (tells_founded f told p s d)) reaches
