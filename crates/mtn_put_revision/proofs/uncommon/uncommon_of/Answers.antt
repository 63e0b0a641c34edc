-- The walk, and the ids of what it found.
use Rattle.std.proofs.Common.{ℕ, List, sym, subst}
use Rattle.mtn_model.specs.State.{State}
use Rattle.mtn_history_laws.specs.History.{parents_at}
use Rattle.mtn_history.specs.Graph.{TellsGraph}
use Rattle.mtn_history.specs.Stands.{IsFounded}
use Rattle.mtn_history.specs.declared.pending.Pending.{Pending}
use Rattle.mtn_history.proofs.Founding.{tells_founded}
use Rattle.mtn_put_revision.specs.Finding.{AreIdsAt}
use Rattle.mtn_put_revision.proofs.Grounds.{moved}
use Rattle.mtn_put_revision.proofs.Looking.{uncommon_in, within_count}
use Rattle.mtn_put_revision.proofs.uncommon.uncommon_of.Goals as goal

pub ids_of-requires : goal.ids_of-requires
ids_of-requires g c =
    within_count c.in-Ok.sets.0 c.as_slice.result.now c.args.left c.args.right c.args.draft.now.pending c.uncommon.new.graph.pending c.as_slice.ensures.value
    c.uncommon.ensures.stays.0.pending c.requires.left c.requires.right c.in-Ok.ensures.within.0

pub ids_of-requires-2 : goal.ids_of-requires-2
ids_of-requires-2 g c =
    within_count c.in-Ok.sets.1 c.as_slice-2.result.now c.args.left c.args.right c.args.draft.now.pending c.uncommon.new.graph.pending c.as_slice-2.ensures.value
    c.uncommon.ensures.stays.0.pending c.requires.left c.requires.right c.in-Ok.ensures.within.1

pub returns-clause-lefts : goal.returns-clause-lefts
returns-clause-lefts g c = λ f s d.
    let p = c.args.draft.now.pending in
    let told = g.K.Keeper.contents c.uncommon.new.graph.keeper.now in
    let tells = subst (λ (q : Pending). TellsGraph told q p.count (parents_at d.stands.history)) (sym c.uncommon.ensures.stays.0.pending) (tells_founded f told p s d) in
    let exact = (c.in-Ok.ensures.left p.count (parents_at d.stands.history) tells).exact in
    uncommon_in d.stands.history c.args.left c.args.right c.in-Ok.sets.0 c.in_ok-left_ids.left_ids exact
    (subst (λ (ps : List ℕ). AreIdsAt d.stands.history ps c.in_ok-left_ids.left_ids) c.as_slice.ensures.value
    (moved (λ (q : Pending). (f : List ℕ → List ℕ) (s : State) → (d : IsFounded f told q s) → AreIdsAt d.stands.history c.as_slice.result.now c.in_ok-left_ids.left_ids) c.uncommon.new.graph.pending p c.uncommon.ensures.stays.0.pending c.in_ok-left_ids.ensures f s d))

pub returns-clause-rights : goal.returns-clause-rights
returns-clause-rights g c = λ f s d.
    let p = c.args.draft.now.pending in
    let told = g.K.Keeper.contents c.uncommon.new.graph.keeper.now in
    let tells = subst (λ (q : Pending). TellsGraph told q p.count (parents_at d.stands.history)) (sym c.uncommon.ensures.stays.0.pending) (tells_founded f told p s d) in
    let exact = (c.in-Ok.ensures.right p.count (parents_at d.stands.history) tells).exact in
    uncommon_in d.stands.history c.args.right c.args.left c.in-Ok.sets.1 c.in_ok-right_ids.right_ids exact
    (subst (λ (ps : List ℕ). AreIdsAt d.stands.history ps c.in_ok-right_ids.right_ids) c.as_slice-2.ensures.value
    (moved (λ (q : Pending). (f : List ℕ → List ℕ) (s : State) → (d : IsFounded f told q s) → AreIdsAt d.stands.history c.as_slice-2.result.now c.in_ok-right_ids.right_ids) c.uncommon.new.graph.pending p c.uncommon.ensures.stays.0.pending c.in_ok-right_ids.ensures f s d))

pub returns-in-Err-Asked-clause-reads : goal.returns-in-Err-Asked-clause-reads
returns-in-Err-Asked-clause-reads g c = λ f s d low reaches.
    let p = c.args.draft.now.pending in
    let told = g.K.Keeper.contents c.uncommon.new.graph.keeper.now in
    c.uncommon.ensures.count p.count (parents_at d.stands.history) low (subst (λ (q : Pending). TellsGraph told q p.count (parents_at d.stands.history)) (sym c.uncommon.ensures.stays.0.pending) (tells_founded f told p s d)) reaches

pub returns-in-Err-NoMemory-clause-reads : goal.returns-in-Err-NoMemory-clause-reads
returns-in-Err-NoMemory-clause-reads g c = λ f s d low reaches.
    let p = c.args.draft.now.pending in
    let told = g.K.Keeper.contents c.uncommon.new.graph.keeper.now in
    c.uncommon.ensures.count p.count (parents_at d.stands.history) low (subst (λ (q : Pending). TellsGraph told q p.count (parents_at d.stands.history)) (sym c.uncommon.ensures.stays.0.pending) (tells_founded f told p s d)) reaches

pub returns-in_err-left_ids-clause-reads : goal.returns-in_err-left_ids-clause-reads
returns-in_err-left_ids-clause-reads g c = λ f s d low reaches.
    let p = c.args.draft.now.pending in
    let told = g.K.Keeper.contents c.uncommon.new.graph.keeper.now in
    c.uncommon.ensures.count p.count (parents_at d.stands.history) low (subst (λ (q : Pending). TellsGraph told q p.count (parents_at d.stands.history)) (sym c.uncommon.ensures.stays.0.pending) (tells_founded f told p s d)) reaches

pub returns-in_err-right_ids-clause-reads : goal.returns-in_err-right_ids-clause-reads
returns-in_err-right_ids-clause-reads g c = λ f s d low reaches.
    let p = c.args.draft.now.pending in
    let told = g.K.Keeper.contents c.uncommon.new.graph.keeper.now in
    c.uncommon.ensures.count p.count (parents_at d.stands.history) low (subst (λ (q : Pending). TellsGraph told q p.count (parents_at d.stands.history)) (sym c.uncommon.ensures.stays.0.pending) (tells_founded f told p s d)) reaches

pub returns-clause-reads : goal.returns-clause-reads
returns-clause-reads g c = λ f s d low reaches.
    let p = c.args.draft.now.pending in
    let told = g.K.Keeper.contents c.uncommon.new.graph.keeper.now in
    c.uncommon.ensures.count p.count (parents_at d.stands.history) low (subst (λ (q : Pending). TellsGraph told q p.count (parents_at d.stands.history)) (sym c.uncommon.ensures.stays.0.pending) (tells_founded f told p s d)) reaches
