use Rattle.std.proofs.Common.{[], ◌∷◌, Err, ap, ◌∙◌, arith}
use Rattle.std.proofs.lemmas.Result.{err_from_is_err_and}
use Rattle.mtn_ports.specs.Kept.{with_all}
use Rattle.mtn_history.specs.Rosters.{IsRosterThere}
use Rattle.mtn_history.proofs.Knowing.{told_back}
use Rattle.mtn_history.proofs.MarkedLemmas.{named_is, past_damage, unlogged_damage, even_held, held_error}
use Rattle.mtn_history.proofs.draft.Draft.id_at.Goals as goal

pub returns-then-at-count-clause-damaged : goal.returns-then-at-count-clause-damaged
returns-then-at-count-clause-damaged g c =
    past_damage (g.K.Keeper.contents c.roster_held.new.self.keeper.now) c.args.self.now.pending c.args.roster c.args.at c.roster_held.result c.requires.below (told_back (g.K.Keeper.contents c.args.self.now.keeper.now) (g.K.Keeper.contents c.roster_held.new.self.keeper.now) (λ x. IsRosterThere (with_all x c.args.self.now.pending.batch) c.args.roster) c.roster_held.ensures.asks.stays.same c.requires.there) (omega (arith, c.if-at-count.true, c.count.ensures)) c.roster_held.ensures.damaged

pub returns-in_err-log_at-clause-damaged : goal.returns-in_err-log_at-clause-damaged
returns-in_err-log_at-clause-damaged g c =
    let p = err_from_is_err_and c.from_residual.result c.from_residual.ensures.1 in
    held_error (g.K.Keeper.contents c.log_at.new.self.keeper.now) c.args.self.now.pending (c.args.at ∷ []) c.from_residual.result c.in_err-log_at.field-0.0 (p.1 ∙ ap Err p.2)
    (even_held (g.K.Keeper.contents c.log_at.new.self.keeper.now) c.args.self.now.pending (c.args.at ∷ []) c.in_err-log_at.field-0.0
    (unlogged_damage (g.K.Keeper.contents c.log_at.new.self.keeper.now) c.args.self.now.pending c.args.at c.in_err-log_at.field-0.0 (omega (arith, c.if-at-count.false, c.count.ensures)) c.in_err-log_at.ensures.damaged))

pub returns-clause-found : goal.returns-clause-found
returns-clause-found g c f s d =
    named_is f (g.K.Keeper.contents c.log_at.new.self.keeper.now) c.args.self.now.pending s d c.args.at c.in_ok-log_at.field-0 (omega (arith, c.if-at-count.false, c.count.ensures)) c.in_ok-log_at.ensures.read
