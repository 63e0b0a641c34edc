use Rattle.std.specs.Prelude.{IfSome}
use Rattle.std.proofs.Common.{◌<◌, Err, sym, ap, ◌∙◌, subst, arith}
use Rattle.std.proofs.lemmas.Result.{err_from_is_err_and}
use Rattle.mtn_ancestry.specs.Log.{list_of}
use Rattle.mtn_answers.specs.declared.query.Query.TheVariants.{Parents}
use Rattle.mtn_history.proofs.AskingLemmas.{asks_on, asks_within}
use Rattle.mtn_history.proofs.Founding.{back, grown}
use Rattle.mtn_history.proofs.MarkedLemmas.{as_error, unlogged_damage}
use Rattle.mtn_history.specs.Damage.{IsDamage}
use Rattle.mtn_history.specs.Errors.{IfDamage}
use Rattle.mtn_history.specs.Logs.{IsLogOf, UnloggedAt}
use Rattle.mtn_history.specs.Marked.{IsCounted}
use Rattle.mtn_history.specs.Stands.{IsFounded}
use Rattle.mtn_history.specs.declared.pending.Pending.{Pending}
use Rattle.mtn_ports.specs.Kept.{with_all}
use Rattle.mtn_near_queries.specs.Finding.{AreListedAt, FindsAnswer}
use Rattle.mtn_near_queries.proofs.Damages.{as_query_error}
use Rattle.mtn_near_queries.proofs.ParentsLemmas.{parents_below, parents_found}
use Rattle.mtn_near_queries.proofs.Refusing.{missing, only}
use Rattle.mtn_near_queries.proofs.parents.parents_of.Goals as goal

pub returns-in_err-at-clause-asks : goal.returns-in_err-at-clause-asks
returns-in_err-at-clause-asks g c =
    asks_within g.K.Keeper.contents g.K.Keeper.leaves g.K.Keeper.faults g.K.Keeper.reads 1 4 c.args.draft.now c.place_of.new.draft (omega arith) c.place_of.ensures.asks

pub returns-in_err-at-clause-found : goal.returns-in_err-at-clause-found
returns-in_err-at-clause-found g c f s d =
    let p = err_from_is_err_and c.from_residual.result c.from_residual.ensures.1 in
    subst (FindsAnswer d.stands.history (Parents c.args.of)) (sym (p.1 ∙ ap Err p.2))
    (missing d.stands.history (Parents c.args.of) c.args.of c.in_err-at.field-0.0 (only d.stands.history c.args.of) (c.in_err-at.ensures.found f s d))

pub returns-in_err-at-clause-damaged : goal.returns-in_err-at-clause-damaged
returns-in_err-at-clause-damaged g c =
    let p = err_from_is_err_and c.from_residual.result c.from_residual.ensures.1 in
    as_query_error (g.K.Keeper.contents c.place_of.new.draft.keeper.now) c.args.draft.now.pending c.from_residual.result c.in_err-at.field-0.0 (p.1 ∙ ap Err p.2)
    c.in_err-at.ensures.damaged

pub returns-in_err-log-clause-asks : goal.returns-in_err-log-clause-asks
returns-in_err-log-clause-asks g c =
    asks_within g.K.Keeper.contents g.K.Keeper.leaves g.K.Keeper.faults g.K.Keeper.reads 2 4 c.args.draft.now c.log_at.new.self (omega arith)
    (asks_on g.K.Keeper.contents g.K.Keeper.leaves g.K.Keeper.faults g.K.Keeper.reads 1 1 c.args.draft.now
    c.place_of.new.draft c.log_at.new.self c.in_ok-at.ensures.asks c.log_at.ensures.asks)

pub returns-in_err-log-clause-damaged : goal.returns-in_err-log-clause-damaged
returns-in_err-log-clause-damaged g c =
    let p = err_from_is_err_and c.from_residual-in_err-log.result c.from_residual-in_err-log.ensures.1 in
    let q = c.args.draft.now.pending in
    let told = g.K.Keeper.contents c.log_at.new.self.keeper.now in
    let at = c.in_ok-at.at in
    let e = c.in_err-log.field-0.0 in
    as_error told q c.from_residual-in_err-log.result e (p.1 ∙ ap Err p.2)
    (unlogged_damage told q at e c.in_ok-at.ensures.below
    (subst (λ (x : Pending). IfSome told (λ k. IfDamage e (UnloggedAt (with_all k x.batch) at))) c.in_ok-at.ensures.asks.pending
    c.in_err-log.ensures.damaged))

pub returns-in_err-sorted_parents-clause-asks : goal.returns-in_err-sorted_parents-clause-asks
returns-in_err-sorted_parents-clause-asks g c =
    asks_on g.K.Keeper.contents g.K.Keeper.leaves g.K.Keeper.faults g.K.Keeper.reads 2 2 c.args.draft.now c.log_at.new.self c.sorted_parents.new.draft
    (asks_on g.K.Keeper.contents g.K.Keeper.leaves g.K.Keeper.faults g.K.Keeper.reads 1 1 c.args.draft.now
    c.place_of.new.draft c.log_at.new.self c.in_ok-at.ensures.asks c.in_ok-log.ensures.asks) c.sorted_parents.ensures.asks

pub returns-in_err-sorted_parents-clause-damaged : goal.returns-in_err-sorted_parents-clause-damaged
returns-in_err-sorted_parents-clause-damaged g c =
    let p = err_from_is_err_and c.from_residual-in_err-sorted_parents.result c.from_residual-in_err-sorted_parents.ensures.1 in
    let told = g.K.Keeper.contents c.sorted_parents.new.draft.keeper.now in
    let e = c.in_err-sorted_parents.field-0.0 in
    as_error told c.args.draft.now.pending c.from_residual-in_err-sorted_parents.result e (p.1 ∙ ap Err p.2)
    (subst (λ (x : Pending). IfSome told (λ k. IsCounted x k → IfDamage e (IsDamage (with_all k x.batch))))
    (c.in_ok-log.ensures.asks.pending ∙ c.in_ok-at.ensures.asks.pending) c.in_err-sorted_parents.ensures.damaged)

pub returns-clause-asks : goal.returns-clause-asks
returns-clause-asks g c =
    asks_on g.K.Keeper.contents g.K.Keeper.leaves g.K.Keeper.faults g.K.Keeper.reads 2 2 c.args.draft.now c.log_at.new.self c.sorted_parents.new.draft
    (asks_on g.K.Keeper.contents g.K.Keeper.leaves g.K.Keeper.faults g.K.Keeper.reads 1 1 c.args.draft.now
    c.place_of.new.draft c.log_at.new.self c.in_ok-at.ensures.asks c.in_ok-log.ensures.asks) c.sorted_parents.ensures.asks

pub returns-clause-found : goal.returns-clause-found
returns-clause-found g c f s d =
    let q = c.args.draft.now.pending in
    let first = g.K.Keeper.contents c.place_of.new.draft.keeper.now in
    let mid = g.K.Keeper.contents c.log_at.new.self.keeper.now in
    let now = g.K.Keeper.contents c.sorted_parents.new.draft.keeper.now in
    let at = c.in_ok-at.at in
    let log = c.in_ok-log.log in
    let ids = c.in_ok-sorted_parents.field-0 in
    let same = c.in_ok-at.ensures.asks.pending in
    let e = back f mid now q s c.sorted_parents.ensures.asks.stays.same d in
    let logged = subst (λ (x : Pending). (b : IsFounded f mid x s) → at < x.count → IsLogOf b.stands.history b.stands.kept at log)
    same (c.in_ok-log.ensures.found f s) e c.in_ok-at.ensures.below in
    let listed = subst (λ (x : Pending). (b : IsFounded f now x s) → AreListedAt b.stands.history (list_of log.parents) ids)
    (c.in_ok-log.ensures.asks.pending ∙ same) (c.in_ok-sorted_parents.ensures.found f s) d in
    parents_found d.stands.history (grown f now q s d) d.stands.kept c.args.of at log ids
    (c.in_ok-at.ensures.found f s (back f first mid q s c.in_ok-log.ensures.asks.stays.same e)) logged listed

pub sorted_parents-requires : goal.sorted_parents-requires
sorted_parents-requires g c = record {
  below = parents_below c.in_ok-at.at c.log_at.new.self.pending.count c.in_ok-log.log c.in_ok-log.ensures.below
      (subst (λ (x : Pending). c.in_ok-at.at < x.count) (sym (c.in_ok-log.ensures.asks.pending ∙ c.in_ok-at.ensures.asks.pending)) c.in_ok-at.ensures.below);
}
