use Rattle.std.proofs.Common.{◌+◌, Err, sym, ap, ◌∙◌, subst}
use Rattle.std.specs.Prelude.{IfSome}
use Rattle.std.proofs.lemmas.Result.{err_from_is_err_and}
use Rattle.mtn_ports.specs.Kept.{with_all}
use Rattle.mtn_marking.specs.Graph.{IsMarkedAt}
use Rattle.mtn_history.specs.declared.pending.Pending.{Pending}
use Rattle.mtn_history.specs.Errors.{IfDamage}
use Rattle.mtn_history.specs.Marked.{FindsRoster}
use Rattle.mtn_history.specs.Rosters.{Rebuilds, UnmadeBelow}
use Rattle.mtn_history.proofs.AskingLemmas.{asks_on}
use Rattle.mtn_history.proofs.Founding.{back}
use Rattle.mtn_history.proofs.MarkedLemmas.{is_there, marked_is, lost_roster, unmade_damage, as_error}
use Rattle.mtn_history.proofs.draft.Draft.roster_of.Goals as goal

pub returns-in_err-at-clause-found : goal.returns-in_err-at-clause-found
returns-in_err-at-clause-found g c f s d =
    let p = err_from_is_err_and c.from_residual.result c.from_residual.ensures.1 in
    subst (FindsRoster d.stands.history c.args.id) (sym (p.1 ∙ ap Err p.2)) (lost_roster d.stands.history c.args.id c.in_err-at.field-0.0 (c.in_err-at.ensures.found f s d))

pub returns-in_err-rebuilt-clause-asks : goal.returns-in_err-rebuilt-clause-asks
returns-in_err-rebuilt-clause-asks g c = asks_on g.K.Keeper.contents g.K.Keeper.leaves g.K.Keeper.faults g.K.Keeper.reads 1 17 c.args.self.now c.held_at.new.self c.roster_at.new.self c.in_ok-at.ensures.asks c.roster_at.ensures.asks

pub returns-in_err-rebuilt-clause-damaged : goal.returns-in_err-rebuilt-clause-damaged
returns-in_err-rebuilt-clause-damaged g c =
    let told = g.K.Keeper.contents c.roster_at.new.self.keeper.now in
    let p = err_from_is_err_and c.from_residual-in_err-rebuilt.result c.from_residual-in_err-rebuilt.ensures.1 in
    as_error told c.args.self.now.pending c.from_residual-in_err-rebuilt.result c.in_err-rebuilt.field-0.0 (p.1 ∙ ap Err p.2)
    (unmade_damage told c.args.self.now.pending c.in_ok-at.at c.in_err-rebuilt.field-0.0 c.in_ok-at.ensures.below
    (subst (λ (q : Pending). IfSome told (λ x. IfDamage c.in_err-rebuilt.field-0.0 (UnmadeBelow (c.in_ok-at.at + 1) (with_all x q.batch)))) c.in_ok-at.ensures.asks.pending c.in_err-rebuilt.ensures.damaged))

pub returns-clause-asks : goal.returns-clause-asks
returns-clause-asks g c = asks_on g.K.Keeper.contents g.K.Keeper.leaves g.K.Keeper.faults g.K.Keeper.reads 1 17 c.args.self.now c.held_at.new.self c.roster_at.new.self c.in_ok-at.ensures.asks c.roster_at.ensures.asks

pub returns-clause-found : goal.returns-clause-found
returns-clause-found g c f s d =
    let q = c.args.self.now.pending in
    let told = g.K.Keeper.contents c.roster_at.new.self.keeper.now in
    let at = c.in_ok-at.at in
    let e = back f (g.K.Keeper.contents c.held_at.new.self.keeper.now) told q s c.in_ok-rebuilt.ensures.asks.stays.same d in (
      c.in_ok-at.ensures.found f s e,
      subst (IsMarkedAt d.stands.history at) (sym c.new.ensures) (marked_is f told q s d at c.in_ok-rebuilt.rebuilt.value.entries c.in_ok-rebuilt.rebuilt.value.roster c.in_ok-rebuilt.rebuilt.value.depth c.in_ok-at.ensures.below
          (subst (λ (x : Pending). IfSome told (λ y. Rebuilds (with_all y x.batch) at c.in_ok-rebuilt.rebuilt.value)) c.in_ok-at.ensures.asks.pending c.in_ok-rebuilt.ensures.rebuilt)),
    )

pub returns-clause-there : goal.returns-clause-there
returns-clause-there g c =
    let told = g.K.Keeper.contents c.roster_at.new.self.keeper.now in
    is_there told c.args.self.now.pending c.in_ok-at.at c.in_ok-rebuilt.rebuilt.value
    (subst (λ (x : Pending). IfSome told (λ y. Rebuilds (with_all y x.batch) c.in_ok-at.at c.in_ok-rebuilt.rebuilt.value)) c.in_ok-at.ensures.asks.pending c.in_ok-rebuilt.ensures.rebuilt)
