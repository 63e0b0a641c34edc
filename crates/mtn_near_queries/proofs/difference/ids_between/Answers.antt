-- The positions, and the ids there.
use Rattle.std.specs.Prelude.{Contains, max, IfSome}
use Rattle.std.proofs.Common.{◌≤◌, ◌<◌, ◌+◌, ◌-◌, ℕ, List, length, Err, sym, ap, ◌∙◌, subst, arith}
use Rattle.std.proofs.lemmas.Result.{err_from_is_err_and}
use Rattle.mtn_history.proofs.Founding.{back, grown}
use Rattle.mtn_history.specs.Damage.{IsDamage}
use Rattle.mtn_history.specs.Errors.{IfDamage}
use Rattle.mtn_history.specs.Marked.{IsCounted}
use Rattle.mtn_history.specs.Stands.{IsFounded}
use Rattle.mtn_history.specs.declared.pending.Pending.{Pending}
use Rattle.mtn_history_laws.specs.History.{parents_at}
use Rattle.mtn_ports.proofs.KeptLemmas.{stays_trans}
use Rattle.mtn_ports.specs.Kept.{with_all}
use Rattle.mtn_near_queries.specs.Finding.{AreBetween, AreNamedAt}
use Rattle.mtn_near_queries.proofs.Between.{alone, between_are}
use Rattle.mtn_near_queries.proofs.Damages.{as_store_error}
use Rattle.mtn_near_queries.proofs.difference.ids_between.Goals as goal

pub returns-in_err-positions-clause-reads : goal.returns-in_err-positions-clause-reads
returns-in_err-positions-clause-reads g c = λ f s d low reaches.
    omega (arith, c.positions_between.ensures.reads f s d low reaches)

pub ids_at-requires : goal.ids_at-requires
ids_at-requires g c = record {
  below = λ at k.
      let le = c.in_ok-positions.ensures.below at (subst (λ xs. Contains xs at) c.as_slice.ensures.value k) in
      let low : at < c.args.draft.now.pending.count = omega (arith, le, c.requires.left, c.requires.right) in
      subst (λ (q : Pending). at < q.count) (sym c.positions_between.ensures.pending) low;
}

pub returns-in_err-ids-clause-stays : goal.returns-in_err-ids-clause-stays
returns-in_err-ids-clause-stays g c =
    stays_trans g.K.Keeper.contents g.K.Keeper.leaves g.K.Keeper.faults c.args.draft.now.keeper.now c.positions_between.new.draft.keeper.now c.ids_at.new.draft.keeper.now
    c.positions_between.ensures.stays c.ids_at.ensures.asks.stays

pub returns-in_err-ids-clause-reads : goal.returns-in_err-ids-clause-reads
returns-in_err-ids-clause-reads g c = λ f s d low reaches.
    let before = back f (g.K.Keeper.contents c.positions_between.new.draft.keeper.now) (g.K.Keeper.contents c.ids_at.new.draft.keeper.now) c.args.draft.now.pending s
    c.ids_at.ensures.asks.stays.same d in
    let few = alone (parents_at d.stands.history) c.args.left c.args.right low c.in_ok-positions.positions reaches (c.in_ok-positions.ensures.found f s before) c.in_ok-positions.ensures.below in
    let asked = subst (λ (xs : List ℕ). length xs ≤ max c.args.left c.args.right + 1 - low) (sym c.as_slice.ensures.value) few in
    omega (arith, c.positions_between.ensures.reads f s before low reaches, c.ids_at.ensures.asks.reads, asked)

pub returns-in_err-ids-clause-damaged : goal.returns-in_err-ids-clause-damaged
returns-in_err-ids-clause-damaged g c =
    let p = err_from_is_err_and c.from_residual-in_err-ids.result c.from_residual-in_err-ids.ensures.1 in
    let told = g.K.Keeper.contents c.ids_at.new.draft.keeper.now in
    let e = c.in_err-ids.field-0.0 in
    as_store_error told c.args.draft.now.pending c.from_residual-in_err-ids.result e (p.1 ∙ ap Err p.2)
    (subst (λ (x : Pending). IfSome told (λ k. IsCounted x k → IfDamage e (IsDamage (with_all k x.batch)))) c.positions_between.ensures.pending c.in_err-ids.ensures.damaged)

pub returns-clause-stays : goal.returns-clause-stays
returns-clause-stays g c =
    stays_trans g.K.Keeper.contents g.K.Keeper.leaves g.K.Keeper.faults c.args.draft.now.keeper.now c.positions_between.new.draft.keeper.now c.ids_at.new.draft.keeper.now
    c.positions_between.ensures.stays c.ids_at.ensures.asks.stays

pub returns-clause-reads : goal.returns-clause-reads
returns-clause-reads g c = λ f s d low reaches.
    let before = back f (g.K.Keeper.contents c.positions_between.new.draft.keeper.now) (g.K.Keeper.contents c.ids_at.new.draft.keeper.now) c.args.draft.now.pending s
    c.ids_at.ensures.asks.stays.same d in
    let few = alone (parents_at d.stands.history) c.args.left c.args.right low c.in_ok-positions.positions reaches (c.in_ok-positions.ensures.found f s before) c.in_ok-positions.ensures.below in
    let asked = subst (λ (xs : List ℕ). length xs ≤ max c.args.left c.args.right + 1 - low) (sym c.as_slice.ensures.value) few in
    omega (arith, c.positions_between.ensures.reads f s before low reaches, c.ids_at.ensures.asks.reads, asked)

pub returns-clause-found : goal.returns-clause-found
returns-clause-found g c = λ f s d.
    let p = c.args.draft.now.pending in
    let now = g.K.Keeper.contents c.ids_at.new.draft.keeper.now in
    let before = back f (g.K.Keeper.contents c.positions_between.new.draft.keeper.now) now p s c.ids_at.ensures.asks.stays.same d in
    let named = subst (λ (x : Pending). (b : IsFounded f now x s) → AreNamedAt b.stands.history c.as_slice.result.now c.in_ok-ids.ids.items) c.positions_between.ensures.pending
    (c.in_ok-ids.ensures.found f s) d in
    subst (AreBetween d.stands.history c.args.left c.args.right) (sym c.from_vec.ensures)
    (between_are d.stands.history (grown f now p s d) c.args.left c.args.right c.in_ok-positions.positions c.in_ok-ids.ids.items
    (c.in_ok-positions.ensures.found f s before) (subst (λ (xs : List ℕ). AreNamedAt d.stands.history xs c.in_ok-ids.ids.items) c.as_slice.ensures.value named))
