-- The last record has the next number, or no history has such a one.
use Rattle.std.proofs.Common.{◌-◌, subst, arith}
use Rattle.std.specs.Prelude.{IfSome}
use Rattle.mtn_ports.specs.Kept.{with_all}
use Rattle.mtn_ports.proofs.KeptLemmas.{stays_trans}
use Rattle.mtn_history.specs.Errors.{IfDamage}
use Rattle.mtn_history.specs.Logs.{IsHeldAt, IsLogged}
use Rattle.mtn_history.specs.declared.pending.Pending.{Pending}
use Rattle.mtn_history.proofs.Founding.{back}
use Rattle.mtn_history.proofs.Knowing.{told_back}
use Rattle.mtn_put_revision.proofs.Grounds.{next_told, unfit_log}
use Rattle.mtn_put_revision.proofs.Numbers.{never_past}
use Rattle.mtn_put_revision.proofs.records.next_number.Goals as goal

pub returns-then-log-gt-LAST_NUMBER-clause-stays : goal.returns-then-log-gt-LAST_NUMBER-clause-stays
returns-then-log-gt-LAST_NUMBER-clause-stays g c = stays_trans g.K.Keeper.contents g.K.Keeper.leaves g.K.Keeper.faults _ _ _ c.log_at.ensures.asks.stays c.log_held.ensures.asks.stays

pub returns-then-log-gt-LAST_NUMBER-clause-damaged : goal.returns-then-log-gt-LAST_NUMBER-clause-damaged
returns-then-log-gt-LAST_NUMBER-clause-damaged g c =
    let told = g.K.Keeper.contents c.log_held.new.self.keeper.now in
    let mid = g.K.Keeper.contents c.log_at.new.self.keeper.now in
    let p = c.args.draft.now.pending in
    unfit_log told p (c.count-count.result - 1) c.in_ok-log.log c.log_held.result (omega (arith, c.count-count.ensures, c.if-count-eq0.false))
    (told_back mid told (λ x. IsLogged (with_all x p.batch) (c.count-count.result - 1) c.in_ok-log.log) c.log_held.ensures.asks.stays.same c.in_ok-log.ensures.read)
    (λ f s d. let b = back f mid told p s c.log_held.ensures.asks.stays.same d in
    never_past f mid p s b c.in_ok-log.log.next_node (next_told f mid p s b (c.count-count.result - 1) c.in_ok-log.log (omega (arith, c.count-count.ensures, c.if-count-eq0.false)) c.in_ok-log.ensures.read) c.if-log-gt-LAST_NUMBER.true)
    (subst (λ (q : Pending). IfSome told (λ x. IfDamage c.log_held.result (IsHeldAt (with_all x q.batch) (c.count-count.result - 1)))) c.log_at.ensures.asks.pending c.log_held.ensures.damaged)

pub returns-clause-first : goal.returns-clause-first
returns-clause-first g c = λ e. absurd (omega (arith, e, c.count-count.ensures, c.if-count-eq0.false))

pub returns-clause-next : goal.returns-clause-next
returns-clause-next g c = λ f s d.
    next_told f (g.K.Keeper.contents c.log_at.new.self.keeper.now) c.args.draft.now.pending s d (c.count-count.result - 1) c.in_ok-log.log (omega (arith, c.count-count.ensures, c.if-count-eq0.false)) c.in_ok-log.ensures.read

pub returns-then-log-gt-LAST_NUMBER-clause-reads : goal.returns-then-log-gt-LAST_NUMBER-clause-reads
returns-then-log-gt-LAST_NUMBER-clause-reads g c = λ f s d.
    let mid = g.K.Keeper.contents c.log_at.new.self.keeper.now in
    let p = c.args.draft.now.pending in
    let b = back f mid (g.K.Keeper.contents c.log_held.new.self.keeper.now) p s c.log_held.ensures.asks.stays.same d in
    absurd (never_past f mid p s b c.in_ok-log.log.next_node (next_told f mid p s b (c.count-count.result - 1) c.in_ok-log.log (omega (arith, c.count-count.ensures, c.if-count-eq0.false)) c.in_ok-log.ensures.read) c.if-log-gt-LAST_NUMBER.true)
