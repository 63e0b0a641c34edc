use Rattle.std.proofs.Common.{Err, Ok, sym, ap, ◌∙◌, subst}
use Rattle.std.specs.Prelude.{IfSome, IfErr}
use Rattle.std.proofs.lemmas.Result.{err_from_is_err_and}
use Rattle.mtn_ports.specs.Kept.{with_all}
use Rattle.mtn_history.specs.declared.pending.Pending.{Pending}
use Rattle.mtn_history.specs.Damage.{IsDamage}
use Rattle.mtn_history.specs.Errors.{IfStoreDamage}
use Rattle.mtn_history.specs.Marked.{FindsPlace, FindsPlaces, IsCounted}
use Rattle.mtn_history.specs.Stands.{IsFounded}
use Rattle.mtn_history.proofs.AskingLemmas.{asks_on}
use Rattle.mtn_history.proofs.Founding.{back}
use Rattle.mtn_history.proofs.MarkedLemmas.{first_lost, second_lost}
use Rattle.mtn_history.proofs.draft.Draft.both_held_at.Goals as goal

pub returns-in_err-left-clause-found : goal.returns-in_err-left-clause-found
returns-in_err-left-clause-found g c f s d =
    let p = err_from_is_err_and c.from_residual.result c.from_residual.ensures.1 in
    subst (FindsPlaces d.stands.history c.args.a c.args.b) (sym (p.1 ∙ ap Err p.2)) (first_lost d.stands.history c.args.a c.args.b c.in_err-left.field-0.0 (c.in_err-left.ensures.found f s d))

pub returns-in_err-right-clause-asks : goal.returns-in_err-right-clause-asks
returns-in_err-right-clause-asks g c = asks_on g.K.Keeper.contents g.K.Keeper.leaves g.K.Keeper.faults g.K.Keeper.reads 1 1 c.args.self.now c.held_at.new.self c.held_at-2.new.self c.in_ok-left.ensures.asks c.in_err-right.ensures.asks

pub returns-in_err-right-clause-found : goal.returns-in_err-right-clause-found
returns-in_err-right-clause-found g c f s d =
    let h = d.stands.history in
    let told = g.K.Keeper.contents c.held_at-2.new.self.keeper.now in
    let q = c.args.self.now.pending in
    let p = err_from_is_err_and c.from_residual-in_err-right.result c.from_residual-in_err-right.ensures.1 in
    let e = back f (g.K.Keeper.contents c.held_at.new.self.keeper.now) told q s c.in_err-right.ensures.asks.stays.same d in
    let second = subst (λ (x : Pending). (d : IsFounded f told x s) → FindsPlace d.stands.history c.args.b (Err c.in_err-right.field-0.0)) c.in_ok-left.ensures.asks.pending (c.in_err-right.ensures.found f s) d in
    subst (FindsPlaces h c.args.a c.args.b) (sym (p.1 ∙ ap Err p.2)) (second_lost h c.args.a c.args.b c.in_ok-left.left c.in_err-right.field-0.0 (c.in_ok-left.ensures.found f s e) second)

pub returns-in_err-right-clause-damaged : goal.returns-in_err-right-clause-damaged
returns-in_err-right-clause-damaged g c =
    let told = g.K.Keeper.contents c.held_at-2.new.self.keeper.now in
    let p = err_from_is_err_and c.from_residual-in_err-right.result c.from_residual-in_err-right.ensures.1 in
    subst (λ r. IfSome told (λ x. IsCounted c.args.self.now.pending x → IfErr r (λ e. IfStoreDamage e (IsDamage (with_all x c.args.self.now.pending.batch))))) (sym (p.1 ∙ ap Err p.2))
    (subst (λ (q : Pending). IfSome told (λ x. IsCounted q x → IfStoreDamage c.in_err-right.field-0.0 (IsDamage (with_all x q.batch)))) c.in_ok-left.ensures.asks.pending c.in_err-right.ensures.damaged)

pub returns-clause-asks : goal.returns-clause-asks
returns-clause-asks g c = asks_on g.K.Keeper.contents g.K.Keeper.leaves g.K.Keeper.faults g.K.Keeper.reads 1 1 c.args.self.now c.held_at.new.self c.held_at-2.new.self c.in_ok-left.ensures.asks c.in_ok-right.ensures.asks

pub returns-clause-found : goal.returns-clause-found
returns-clause-found g c f s d =
    let told = g.K.Keeper.contents c.held_at-2.new.self.keeper.now in
    let e = back f (g.K.Keeper.contents c.held_at.new.self.keeper.now) told c.args.self.now.pending s c.in_ok-right.ensures.asks.stays.same d in
    (c.in_ok-left.ensures.found f s e, subst (λ (x : Pending). (d : IsFounded f told x s) → FindsPlace d.stands.history c.args.b (Ok c.in_ok-right.right)) c.in_ok-left.ensures.asks.pending (c.in_ok-right.ensures.found f s) d)
