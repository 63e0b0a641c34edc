-- Both places, and what lies between them.
use Rattle.std.specs.Prelude.{max, IfSome}
use Rattle.std.proofs.Common.{◌≤◌, ◌+◌, ◌-◌, ◌*◌, ℕ, [], ◌∷◌, Err, Ok, sym, ap, ◌∙◌, subst, arith}
use Rattle.std.proofs.lemmas.Result.{err_from_is_err_and}
use Rattle.mtn_ancestry.specs.Ancestors.{ReachesFrom}
use Rattle.mtn_answers.specs.declared.query.Query.TheVariants.{AncestryDifference}
use Rattle.mtn_history.proofs.Founding.{back, grown}
use Rattle.mtn_history.proofs.MarkedLemmas.{as_error}
use Rattle.mtn_history.specs.Damage.{IsDamage}
use Rattle.mtn_history.specs.Errors.{IfDamage, IfStoreDamage}
use Rattle.mtn_history.specs.Marked.{IsCounted}
use Rattle.mtn_history.specs.Stands.{IsFounded}
use Rattle.mtn_history.specs.declared.pending.Pending.{Pending}
use Rattle.mtn_history_laws.specs.History.{parents_at}
use Rattle.mtn_ports.proofs.KeptLemmas.{stays_trans}
use Rattle.mtn_ports.specs.Kept.{with_all}
use Rattle.mtn_near_queries.specs.Finding.{AreBetween, FindsAnswer, FindsPlace}
use Rattle.mtn_near_queries.proofs.Between.{difference_found, same_place}
use Rattle.mtn_near_queries.proofs.Damages.{as_query_error}
use Rattle.mtn_near_queries.proofs.Refusing.{first, missing, second}
use Rattle.mtn_near_queries.proofs.difference.difference_of.Goals as goal

pub returns-in_err-left-clause-found : goal.returns-in_err-left-clause-found
returns-in_err-left-clause-found g c = λ f s d.
    let h = d.stands.history in
    let query = AncestryDifference c.args.of (c.args.without ∷ []) in
    let p = err_from_is_err_and c.from_residual.result c.from_residual.ensures.1 in
    subst (FindsAnswer h query) (sym (p.1 ∙ ap Err p.2)) (missing h query c.args.of c.in_err-left.field-0.0 (first h c.args.of c.args.without) (c.in_err-left.ensures.found f s d))

pub returns-in_err-right-clause-stays : goal.returns-in_err-right-clause-stays
returns-in_err-right-clause-stays g c =
    stays_trans g.K.Keeper.contents g.K.Keeper.leaves g.K.Keeper.faults c.args.draft.now.keeper.now c.place_of.new.draft.keeper.now c.place_of-2.new.draft.keeper.now
    c.place_of.ensures.asks.stays c.place_of-2.ensures.asks.stays

pub returns-in_err-right-clause-found : goal.returns-in_err-right-clause-found
returns-in_err-right-clause-found g c = λ f s d.
    let h = d.stands.history in
    let query = AncestryDifference c.args.of (c.args.without ∷ []) in
    let now = g.K.Keeper.contents c.place_of-2.new.draft.keeper.now in
    let e = c.in_err-right.field-0.0 in
    let p = err_from_is_err_and c.from_residual-in_err-right.result c.from_residual-in_err-right.ensures.1 in
    let before = back f (g.K.Keeper.contents c.place_of.new.draft.keeper.now) now c.args.draft.now.pending s c.place_of-2.ensures.asks.stays.same d in
    let lost = subst (λ (x : Pending). (b : IsFounded f now x s) → FindsPlace b.stands.history c.args.without (Err e)) c.in_ok-left.ensures.asks.pending (c.in_err-right.ensures.found f s) d in
    subst (FindsAnswer h query) (sym (p.1 ∙ ap Err p.2))
    (missing h query c.args.without e (second h c.args.of c.args.without c.in_ok-left.left (c.in_ok-left.ensures.found f s before)) lost)

pub returns-in_err-right-clause-damaged : goal.returns-in_err-right-clause-damaged
returns-in_err-right-clause-damaged g c =
    let p = err_from_is_err_and c.from_residual-in_err-right.result c.from_residual-in_err-right.ensures.1 in
    let told = g.K.Keeper.contents c.place_of-2.new.draft.keeper.now in
    let e = c.in_err-right.field-0.0 in
    as_query_error told c.args.draft.now.pending c.from_residual-in_err-right.result e (p.1 ∙ ap Err p.2)
    (subst (λ (x : Pending). IfSome told (λ k. IsCounted x k → IfStoreDamage e (IsDamage (with_all k x.batch)))) c.in_ok-left.ensures.asks.pending c.in_err-right.ensures.damaged)

pub returns-in_err-ids_between-clause-stays : goal.returns-in_err-ids_between-clause-stays
returns-in_err-ids_between-clause-stays g c =
    stays_trans g.K.Keeper.contents g.K.Keeper.leaves g.K.Keeper.faults c.args.draft.now.keeper.now c.place_of-2.new.draft.keeper.now c.ids_between.new.draft.keeper.now
    (stays_trans g.K.Keeper.contents g.K.Keeper.leaves g.K.Keeper.faults c.args.draft.now.keeper.now c.place_of.new.draft.keeper.now c.place_of-2.new.draft.keeper.now
    c.place_of.ensures.asks.stays c.place_of-2.ensures.asks.stays) c.ids_between.ensures.stays

pub returns-in_err-ids_between-clause-damaged : goal.returns-in_err-ids_between-clause-damaged
returns-in_err-ids_between-clause-damaged g c =
    let p = err_from_is_err_and c.from_residual-in_err-ids_between.result c.from_residual-in_err-ids_between.ensures.1 in
    let told = g.K.Keeper.contents c.ids_between.new.draft.keeper.now in
    let e = c.in_err-ids_between.field-0.0 in
    as_error told c.args.draft.now.pending c.from_residual-in_err-ids_between.result e (p.1 ∙ ap Err p.2)
    (subst (λ (x : Pending). IfSome told (λ k. IsCounted x k → IfDamage e (IsDamage (with_all k x.batch))))
    (c.in_ok-right.ensures.asks.pending ∙ c.in_ok-left.ensures.asks.pending) c.in_err-ids_between.ensures.damaged)

pub returns-clause-stays : goal.returns-clause-stays
returns-clause-stays g c =
    stays_trans g.K.Keeper.contents g.K.Keeper.leaves g.K.Keeper.faults c.args.draft.now.keeper.now c.place_of-2.new.draft.keeper.now c.ids_between.new.draft.keeper.now
    (stays_trans g.K.Keeper.contents g.K.Keeper.leaves g.K.Keeper.faults c.args.draft.now.keeper.now c.place_of.new.draft.keeper.now c.place_of-2.new.draft.keeper.now
    c.place_of.ensures.asks.stays c.place_of-2.ensures.asks.stays) c.ids_between.ensures.stays

pub returns-in_err-ids_between-clause-reads : goal.returns-in_err-ids_between-clause-reads
returns-in_err-ids_between-clause-reads g c = λ f s d left right low at there reaches.
    let p = c.args.draft.now.pending in
    let h = d.stands.history in
    let now = g.K.Keeper.contents c.ids_between.new.draft.keeper.now in
    let mid = back f (g.K.Keeper.contents c.place_of-2.new.draft.keeper.now) now p s c.ids_between.ensures.stays.same d in
    let before = back f (g.K.Keeper.contents c.place_of.new.draft.keeper.now) (g.K.Keeper.contents c.place_of-2.new.draft.keeper.now) p s c.place_of-2.ensures.asks.stays.same mid in
    let found = subst (λ (x : Pending). (b : IsFounded f (g.K.Keeper.contents c.place_of-2.new.draft.keeper.now) x s) → FindsPlace b.stands.history c.args.without (Ok c.in_ok-right.right))
    c.in_ok-left.ensures.asks.pending (c.in_ok-right.ensures.found f s) mid in
    let one = same_place h (grown f now p s d) c.args.of c.in_ok-left.left left (c.in_ok-left.ensures.found f s before) at in
    let other = same_place h (grown f now p s d) c.args.without c.in_ok-right.right right found there in
    let walk = subst (λ (x : Pending). (b : IsFounded f now x s) (l : ℕ) → ReachesFrom (parents_at b.stands.history) c.in_ok-left.left c.in_ok-right.right l →
    g.K.Keeper.reads c.ids_between.new.draft.keeper.now ≤ g.K.Keeper.reads c.place_of-2.new.draft.keeper.now + 2 * (max c.in_ok-left.left c.in_ok-right.right + 1 - l))
    (c.in_ok-right.ensures.asks.pending ∙ c.in_ok-left.ensures.asks.pending) (c.ids_between.ensures.reads f s) d low
    (subst (λ r. ReachesFrom (parents_at h) c.in_ok-left.left r low) other (subst (λ l. ReachesFrom (parents_at h) l right low) one reaches)) in
    let told = subst (λ l. g.K.Keeper.reads c.ids_between.new.draft.keeper.now ≤ g.K.Keeper.reads c.place_of-2.new.draft.keeper.now + 2 * (max l right + 1 - low)) (sym one)
    (subst (λ r. g.K.Keeper.reads c.ids_between.new.draft.keeper.now ≤ g.K.Keeper.reads c.place_of-2.new.draft.keeper.now + 2 * (max c.in_ok-left.left r + 1 - low)) (sym other) walk) in
    omega (arith, c.place_of.ensures.asks.reads, c.place_of-2.ensures.asks.reads, told)

pub returns-clause-reads : goal.returns-clause-reads
returns-clause-reads g c = λ f s d left right low at there reaches.
    let p = c.args.draft.now.pending in
    let h = d.stands.history in
    let now = g.K.Keeper.contents c.ids_between.new.draft.keeper.now in
    let mid = back f (g.K.Keeper.contents c.place_of-2.new.draft.keeper.now) now p s c.ids_between.ensures.stays.same d in
    let before = back f (g.K.Keeper.contents c.place_of.new.draft.keeper.now) (g.K.Keeper.contents c.place_of-2.new.draft.keeper.now) p s c.place_of-2.ensures.asks.stays.same mid in
    let found = subst (λ (x : Pending). (b : IsFounded f (g.K.Keeper.contents c.place_of-2.new.draft.keeper.now) x s) → FindsPlace b.stands.history c.args.without (Ok c.in_ok-right.right))
    c.in_ok-left.ensures.asks.pending (c.in_ok-right.ensures.found f s) mid in
    let one = same_place h (grown f now p s d) c.args.of c.in_ok-left.left left (c.in_ok-left.ensures.found f s before) at in
    let other = same_place h (grown f now p s d) c.args.without c.in_ok-right.right right found there in
    let walk = subst (λ (x : Pending). (b : IsFounded f now x s) (l : ℕ) → ReachesFrom (parents_at b.stands.history) c.in_ok-left.left c.in_ok-right.right l →
    g.K.Keeper.reads c.ids_between.new.draft.keeper.now ≤ g.K.Keeper.reads c.place_of-2.new.draft.keeper.now + 2 * (max c.in_ok-left.left c.in_ok-right.right + 1 - l))
    (c.in_ok-right.ensures.asks.pending ∙ c.in_ok-left.ensures.asks.pending) (c.ids_between.ensures.reads f s) d low
    (subst (λ r. ReachesFrom (parents_at h) c.in_ok-left.left r low) other (subst (λ l. ReachesFrom (parents_at h) l right low) one reaches)) in
    let told = subst (λ l. g.K.Keeper.reads c.ids_between.new.draft.keeper.now ≤ g.K.Keeper.reads c.place_of-2.new.draft.keeper.now + 2 * (max l right + 1 - low)) (sym one)
    (subst (λ r. g.K.Keeper.reads c.ids_between.new.draft.keeper.now ≤ g.K.Keeper.reads c.place_of-2.new.draft.keeper.now + 2 * (max c.in_ok-left.left r + 1 - low)) (sym other) walk) in
    omega (arith, c.place_of.ensures.asks.reads, c.place_of-2.ensures.asks.reads, told)

pub returns-clause-found : goal.returns-clause-found
returns-clause-found g c = λ f s d.
    let p = c.args.draft.now.pending in
    let h = d.stands.history in
    let now = g.K.Keeper.contents c.ids_between.new.draft.keeper.now in
    let mid = back f (g.K.Keeper.contents c.place_of-2.new.draft.keeper.now) now p s c.ids_between.ensures.stays.same d in
    let before = back f (g.K.Keeper.contents c.place_of.new.draft.keeper.now) (g.K.Keeper.contents c.place_of-2.new.draft.keeper.now) p s c.place_of-2.ensures.asks.stays.same mid in
    let found = subst (λ (x : Pending). (b : IsFounded f (g.K.Keeper.contents c.place_of-2.new.draft.keeper.now) x s) → FindsPlace b.stands.history c.args.without (Ok c.in_ok-right.right))
    c.in_ok-left.ensures.asks.pending (c.in_ok-right.ensures.found f s) mid in
    let between = subst (λ (x : Pending). (b : IsFounded f now x s) → AreBetween b.stands.history c.in_ok-left.left c.in_ok-right.right c.in_ok-ids_between.field-0)
    (c.in_ok-right.ensures.asks.pending ∙ c.in_ok-left.ensures.asks.pending) (c.in_ok-ids_between.ensures.found f s) d in
    difference_found h (grown f now p s d) c.args.of c.args.without c.in_ok-left.left c.in_ok-right.right c.in_ok-ids_between.field-0
    (c.in_ok-left.ensures.found f s before) found between
