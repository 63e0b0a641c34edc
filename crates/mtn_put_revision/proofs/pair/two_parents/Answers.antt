use Rattle.std.proofs.Common.{◌+◌, ℕ, List, ◌≤◌, ◌-◌, arith}
use Rattle.std.specs.Prelude.{max}
use Rattle.std.proofs.lemmas.Result.{err_from_is_err_and}
use Rattle.mtn_ancestry.specs.Ancestors.{ReachesFrom}
use Rattle.mtn_history_laws.specs.History.{parents_at}
use Rattle.mtn_make_roster.specs.Basis.{AreUncommonIn}
use Rattle.mtn_model.specs.State.{State}
use Rattle.mtn_ports.specs.Kept.{with_all}
use Rattle.mtn_ports.proofs.KeptLemmas.{stays_trans}
use Rattle.mtn_history.specs.Rosters.{Rebuilds}
use Rattle.mtn_history.specs.Stands.{IsFounded}
use Rattle.mtn_history.specs.declared.pending.Pending.{Pending}
use Rattle.mtn_history.proofs.Knowing.{told_back}
use Rattle.mtn_put_revision.proofs.Grounds.{moved, unmade_found}
use Rattle.mtn_put_revision.proofs.pair.two_parents.Goals as goal

pub returns-in_err-held_left-clause-damaged : goal.returns-in_err-held_left-clause-damaged
returns-in_err-held_left-clause-damaged g c =
    let low = c.requires.below in
    let p = err_from_is_err_and c.from_residual.result c.from_residual.ensures.1 in
    rw (p.1, p.2) (unmade_found (g.K.Keeper.contents c.rosters_at.new.self.keeper.now) c.args.draft.now.pending (max c.args.left c.args.right) c.in_err-held_left.field-0.0 (omega (arith, low.0, low.1)) c.in_err-held_left.ensures.damaged)

pub returns-in_err-only_left-clause-stays : goal.returns-in_err-only_left-clause-stays
returns-in_err-only_left-clause-stays g c = stays_trans g.K.Keeper.contents g.K.Keeper.leaves g.K.Keeper.faults _ _ _ c.rosters_at.ensures.asks.stays c.uncommon_of.ensures.stays

pub returns-clause-stays : goal.returns-clause-stays
returns-clause-stays g c = stays_trans g.K.Keeper.contents g.K.Keeper.leaves g.K.Keeper.faults _ _ _ c.rosters_at.ensures.asks.stays c.uncommon_of.ensures.stays

pub returns-clause-left : goal.returns-clause-left
returns-clause-left g c =
    told_back (g.K.Keeper.contents c.rosters_at.new.self.keeper.now) (g.K.Keeper.contents c.uncommon_of.new.draft.keeper.now) (λ y. Rebuilds (with_all y c.args.draft.now.pending.batch) c.args.left c.in_ok-held_left.held_left.value)
    c.uncommon_of.ensures.stays.same c.in_ok-held_left.ensures.left

pub returns-clause-right : goal.returns-clause-right
returns-clause-right g c =
    told_back (g.K.Keeper.contents c.rosters_at.new.self.keeper.now) (g.K.Keeper.contents c.uncommon_of.new.draft.keeper.now) (λ y. Rebuilds (with_all y c.args.draft.now.pending.batch) c.args.right c.in_ok-held_left.held_right.value)
    c.uncommon_of.ensures.stays.same c.in_ok-held_left.ensures.right

pub returns-clause-lefts : goal.returns-clause-lefts
returns-clause-lefts g c =
    moved (λ (q : Pending). (f : List ℕ → List ℕ) (s : State) → (d : IsFounded f (g.K.Keeper.contents c.uncommon_of.new.draft.keeper.now) q s) → AreUncommonIn d.stands.history c.args.left c.args.right c.in_ok-only_left.only_left)
    c.rosters_at.new.self.pending c.args.draft.now.pending c.rosters_at.ensures.asks.pending (λ f s d. c.in_ok-only_left.ensures.lefts f s d)

pub returns-clause-rights : goal.returns-clause-rights
returns-clause-rights g c =
    moved (λ (q : Pending). (f : List ℕ → List ℕ) (s : State) → (d : IsFounded f (g.K.Keeper.contents c.uncommon_of.new.draft.keeper.now) q s) → AreUncommonIn d.stands.history c.args.right c.args.left c.in_ok-only_left.only_right)
    c.rosters_at.new.self.pending c.args.draft.now.pending c.rosters_at.ensures.asks.pending (λ f s d. c.in_ok-only_left.ensures.rights f s d)

pub returns-in_err-only_left-clause-reads : goal.returns-in_err-only_left-clause-reads
returns-in_err-only_left-clause-reads g c = λ f s d low reaches.
    let walk = moved (λ (q : Pending). (f : List ℕ → List ℕ) (s : State) → (d : IsFounded f (g.K.Keeper.contents c.uncommon_of.new.draft.keeper.now) q s) → (low : ℕ) → ReachesFrom (parents_at d.stands.history) c.args.left c.args.right low → g.K.Keeper.reads c.uncommon_of.new.draft.keeper.now ≤ g.K.Keeper.reads c.rosters_at.new.self.keeper.now + (max c.args.left c.args.right + 1 - low))
    c.rosters_at.new.self.pending c.args.draft.now.pending c.rosters_at.ensures.asks.pending c.uncommon_of.ensures.reads f s d low reaches in
    let few = c.in_ok-held_left.ensures.few in
    omega (arith, few, walk)

pub returns-clause-reads : goal.returns-clause-reads
returns-clause-reads g c = λ f s d low reaches.
    let walk = moved (λ (q : Pending). (f : List ℕ → List ℕ) (s : State) → (d : IsFounded f (g.K.Keeper.contents c.uncommon_of.new.draft.keeper.now) q s) → (low : ℕ) → ReachesFrom (parents_at d.stands.history) c.args.left c.args.right low → g.K.Keeper.reads c.uncommon_of.new.draft.keeper.now ≤ g.K.Keeper.reads c.rosters_at.new.self.keeper.now + (max c.args.left c.args.right + 1 - low))
    c.rosters_at.new.self.pending c.args.draft.now.pending c.rosters_at.ensures.asks.pending c.uncommon_of.ensures.reads f s d low reaches in
    let few = c.in_ok-held_left.ensures.few in
    omega (arith, few, walk)

pub returns-clause-few : goal.returns-clause-few
returns-clause-few g c = λ f s d low reaches.
    let walk = moved (λ (q : Pending). (f : List ℕ → List ℕ) (s : State) → (d : IsFounded f (g.K.Keeper.contents c.uncommon_of.new.draft.keeper.now) q s) → (low : ℕ) → ReachesFrom (parents_at d.stands.history) c.args.left c.args.right low → g.K.Keeper.reads c.uncommon_of.new.draft.keeper.now ≤ g.K.Keeper.reads c.rosters_at.new.self.keeper.now + (max c.args.left c.args.right + 1 - low))
    c.rosters_at.new.self.pending c.args.draft.now.pending c.rosters_at.ensures.asks.pending c.uncommon_of.ensures.reads f s d low reaches in
    let few = c.in_ok-held_left.ensures.few in
    omega (arith, few, walk)

pub returns-in_err-left_entries-clause-stays : goal.returns-in_err-left_entries-clause-stays
returns-in_err-left_entries-clause-stays g c = stays_trans g.K.Keeper.contents g.K.Keeper.leaves g.K.Keeper.faults _ _ _ c.rosters_at.ensures.asks.stays c.uncommon_of.ensures.stays

pub returns-in_err-left_entries-clause-reads : goal.returns-in_err-left_entries-clause-reads
returns-in_err-left_entries-clause-reads g c = λ f s d low reaches.
    let walk = moved (λ (q : Pending). (f : List ℕ → List ℕ) (s : State) → (d : IsFounded f (g.K.Keeper.contents c.uncommon_of.new.draft.keeper.now) q s) → (low : ℕ) → ReachesFrom (parents_at d.stands.history) c.args.left c.args.right low → g.K.Keeper.reads c.uncommon_of.new.draft.keeper.now ≤ g.K.Keeper.reads c.rosters_at.new.self.keeper.now + (max c.args.left c.args.right + 1 - low))
    c.rosters_at.new.self.pending c.args.draft.now.pending c.rosters_at.ensures.asks.pending c.uncommon_of.ensures.reads f s d low reaches in
    let few = c.in_ok-held_left.ensures.few in
    omega (arith, few, walk)

pub returns-in_err-right_entries-clause-stays : goal.returns-in_err-right_entries-clause-stays
returns-in_err-right_entries-clause-stays g c = stays_trans g.K.Keeper.contents g.K.Keeper.leaves g.K.Keeper.faults _ _ _ c.rosters_at.ensures.asks.stays c.uncommon_of.ensures.stays

pub returns-in_err-right_entries-clause-reads : goal.returns-in_err-right_entries-clause-reads
returns-in_err-right_entries-clause-reads g c = λ f s d low reaches.
    let walk = moved (λ (q : Pending). (f : List ℕ → List ℕ) (s : State) → (d : IsFounded f (g.K.Keeper.contents c.uncommon_of.new.draft.keeper.now) q s) → (low : ℕ) → ReachesFrom (parents_at d.stands.history) c.args.left c.args.right low → g.K.Keeper.reads c.uncommon_of.new.draft.keeper.now ≤ g.K.Keeper.reads c.rosters_at.new.self.keeper.now + (max c.args.left c.args.right + 1 - low))
    c.rosters_at.new.self.pending c.args.draft.now.pending c.rosters_at.ensures.asks.pending c.uncommon_of.ensures.reads f s d low reaches in
    let few = c.in_ok-held_left.ensures.few in
    omega (arith, few, walk)
