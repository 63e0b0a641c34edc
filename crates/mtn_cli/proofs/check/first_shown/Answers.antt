-- The first damage of records that stand for no state.
use Rattle.std.proofs.Common.{ℕ, Err, ap, ◌∙◌, subst}
use Rattle.std.specs.Prelude.{IfSome}
use Rattle.mtn_check.specs.Forms.{IsOfForm}
use Rattle.mtn_history.specs.declared.errors.HistoryError.TheVariants as history
use Rattle.mtn_cli.proofs.FirstLemmas.{first_found, none_refused, none_sound}
use Rattle.mtn_cli.proofs.check.first_shown.Goals as goal

pub returns-in-Ok-clause-shown : goal.returns-in-Ok-clause-shown
returns-in-Ok-clause-shown g c =
    none_sound (g.I.Ident.meaning c.args.ident.now) (g.K.Keeper.contents c.args.keeper.now) (g.K.Keeper.contents c.check_store.new.keeper) (g.K.Keeper.faults c.args.keeper.now) (g.K.Keeper.faults c.check_store.new.keeper) _ c.args.line
    c.requires.line c.in-Ok.ensures.stays.same c.requires.none c.in-Ok.ensures.clean

pub returns-in-Err-Store-clause-shown : goal.returns-in-Err-Store-clause-shown
returns-in-Err-Store-clause-shown g c =
    first_found (g.I.Ident.meaning c.args.ident.now) (g.K.Keeper.contents c.check_store.new.keeper) (g.K.Keeper.faults c.args.keeper.now) (g.K.Keeper.faults c.check_store.new.keeper) c.in-Err-Store.error c.tell.result c.tell.ensures
    (rw c.in-Err-Store.field-0-is at c.in-Err-Store.ensures.damaged) (λ e. c.in-Err-Store.ensures.failed (ap Err (c.in-Err-Store.field-0-is ∙ ap history.Store e)))

pub returns-in-Err-Refused-clause-shown : goal.returns-in-Err-Refused-clause-shown
returns-in-Err-Refused-clause-shown g c =
    none_refused (g.I.Ident.meaning c.args.ident.now) (g.K.Keeper.contents c.args.keeper.now) (g.K.Keeper.contents c.check_store.new.keeper) (g.K.Keeper.faults c.args.keeper.now) (g.K.Keeper.faults c.check_store.new.keeper) _ c.args.line
    c.requires.line c.in-Err-Refused.ensures.stays.same c.requires.none (subst (λ e. IfSome (g.K.Keeper.contents c.check_store.new.keeper) (λ k. IsOfForm {A = ℕ} k (Err e))) c.in-Err-Refused.field-0-is c.in-Err-Refused.ensures.form)
