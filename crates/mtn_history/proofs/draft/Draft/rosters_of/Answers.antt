use Rattle.std.proofs.Common.{◌+◌, Err, max, sym, ap, ◌∙◌, subst, arith}
use Rattle.std.specs.Prelude.{IfSome}
use Rattle.std.proofs.lemmas.Result.{err_from_is_err_and}
use Rattle.mtn_ports.specs.Kept.{with_all}
use Rattle.mtn_marking.specs.Graph.{IsMarkedAt}
use Rattle.mtn_history.specs.declared.pending.Pending.{Pending}
use Rattle.mtn_history.specs.Errors.{IfDamage}
use Rattle.mtn_history.specs.Marked.{FindsRosters}
use Rattle.mtn_history.specs.Rosters.{AsksOnce, Rebuilds, UnmadeBelow}
use Rattle.mtn_history.proofs.AskingLemmas.{asks_on}
use Rattle.mtn_history.proofs.Founding.{back}
use Rattle.mtn_history.proofs.MarkedLemmas.{is_there, marked_is, lost_rosters, unmade_damage, as_error}
use Rattle.mtn_history.proofs.MeetingLemmas.{once_later}
use Rattle.mtn_history.proofs.draft.Draft.rosters_of.Goals as goal

pub returns-in_err-left-clause-found : goal.returns-in_err-left-clause-found
returns-in_err-left-clause-found g c f s d =
    let p = err_from_is_err_and c.from_residual.result c.from_residual.ensures.1 in
    subst (FindsRosters d.stands.history c.args.a c.args.b) (sym (p.1 ∙ ap Err p.2)) (lost_rosters d.stands.history c.args.a c.args.b c.in_err-left.field-0.0 (c.in_err-left.ensures.found f s d))

pub returns-in_err-ours-clause-asks : goal.returns-in_err-ours-clause-asks
returns-in_err-ours-clause-asks g c = asks_on g.K.Keeper.contents g.K.Keeper.leaves g.K.Keeper.faults g.K.Keeper.reads 2 33 c.args.self.now c.both_held_at.new.self c.rosters_at.new.self c.in_ok-left.ensures.asks c.rosters_at.ensures.asks

pub returns-in_err-ours-clause-damaged : goal.returns-in_err-ours-clause-damaged
returns-in_err-ours-clause-damaged g c =
    let told = g.K.Keeper.contents c.rosters_at.new.self.keeper.now in
    let left = c.in_ok-left.ensures.left in
    let right = c.in_ok-left.ensures.right in
    let p = err_from_is_err_and c.from_residual-in_err-ours.result c.from_residual-in_err-ours.ensures.1 in
    as_error told c.args.self.now.pending c.from_residual-in_err-ours.result c.in_err-ours.field-0.0 (p.1 ∙ ap Err p.2)
    (unmade_damage told c.args.self.now.pending (max c.in_ok-left.left c.in_ok-left.right) c.in_err-ours.field-0.0 (omega (arith, left, right))
    (subst (λ (q : Pending). IfSome told (λ x. IfDamage c.in_err-ours.field-0.0 (UnmadeBelow (max c.in_ok-left.left c.in_ok-left.right + 1) (with_all x q.batch)))) c.in_ok-left.ensures.asks.pending c.in_err-ours.ensures.damaged))

pub returns-clause-asks : goal.returns-clause-asks
returns-clause-asks g c = asks_on g.K.Keeper.contents g.K.Keeper.leaves g.K.Keeper.faults g.K.Keeper.reads 2 33 c.args.self.now c.both_held_at.new.self c.rosters_at.new.self c.in_ok-left.ensures.asks c.rosters_at.ensures.asks

pub returns-clause-found : goal.returns-clause-found
returns-clause-found g c f s d =
    let q = c.args.self.now.pending in
    let h = d.stands.history in
    let told = g.K.Keeper.contents c.rosters_at.new.self.keeper.now in
    let l = c.in_ok-left.left in
    let r = c.in_ok-left.right in
    let ours = c.in_ok-ours.ours.value in
    let theirs = c.in_ok-ours.theirs.value in
    let places = c.in_ok-left.ensures.found f s (back f (g.K.Keeper.contents c.both_held_at.new.self.keeper.now) told q s c.in_ok-ours.ensures.asks.stays.same d) in (
      places.0,
      subst (IsMarkedAt h l) (sym c.new.ensures) (marked_is f told q s d l ours.entries ours.roster ours.depth c.in_ok-left.ensures.left
          (subst (λ (x : Pending). IfSome told (λ y. Rebuilds (with_all y x.batch) l ours)) c.in_ok-left.ensures.asks.pending c.in_ok-ours.ensures.left)),
      places.1,
      subst (IsMarkedAt h r) (sym c.new-2.ensures) (marked_is f told q s d r theirs.entries theirs.roster theirs.depth c.in_ok-left.ensures.right
          (subst (λ (x : Pending). IfSome told (λ y. Rebuilds (with_all y x.batch) r theirs)) c.in_ok-left.ensures.asks.pending c.in_ok-ours.ensures.right)),
    )

pub returns-clause-left_there : goal.returns-clause-left_there
returns-clause-left_there g c =
    let told = g.K.Keeper.contents c.rosters_at.new.self.keeper.now in
    is_there told c.args.self.now.pending c.in_ok-left.left c.in_ok-ours.ours.value
    (subst (λ (x : Pending). IfSome told (λ y. Rebuilds (with_all y x.batch) c.in_ok-left.left c.in_ok-ours.ours.value)) c.in_ok-left.ensures.asks.pending c.in_ok-ours.ensures.left)

pub returns-clause-right_there : goal.returns-clause-right_there
returns-clause-right_there g c =
    let told = g.K.Keeper.contents c.rosters_at.new.self.keeper.now in
    is_there told c.args.self.now.pending c.in_ok-left.right c.in_ok-ours.theirs.value
    (subst (λ (x : Pending). IfSome told (λ y. Rebuilds (with_all y x.batch) c.in_ok-left.right c.in_ok-ours.theirs.value)) c.in_ok-left.ensures.asks.pending c.in_ok-ours.ensures.right)

pub returns-clause-once : goal.returns-clause-once
returns-clause-once g c =
    let told = g.K.Keeper.contents c.rosters_at.new.self.keeper.now in
    let l = c.in_ok-left.left in
    let r = c.in_ok-left.right in
    once_later told c.args.self.now.pending.batch l r (g.K.Keeper.reads c.both_held_at.new.self.keeper.now) (g.K.Keeper.reads c.args.self.now.keeper.now + 2) (g.K.Keeper.reads c.rosters_at.new.self.keeper.now) c.in_ok-left.ensures.asks.reads
    (subst (λ (x : Pending). IfSome told (λ y. AsksOnce (with_all y x.batch) l r (g.K.Keeper.reads c.both_held_at.new.self.keeper.now) (g.K.Keeper.reads c.rosters_at.new.self.keeper.now))) c.in_ok-left.ensures.asks.pending c.in_ok-ours.ensures.once)
