use Rattle.std.specs.Prelude.{IfSome, option_map}
use Rattle.std.proofs.Common.{ℕ, true, List, Bor, Err, ap, ◌∙◌, subst}
use Rattle.std.proofs.lemmas.Result.{IfOk-from_err, err_from_is_err_and}
use Rattle.mtn_model.specs.Table.{nothing}
use Rattle.mtn_ports.specs.Causes.{Rose}
use Rattle.mtn_ports.specs.Kept.{IsAboveIf, IsBodyIf, IsLeast, IsNextKey, with_all}
use Rattle.mtn_history.proofs.Exits.{asks_once, error_tells, keeper_failed, keeper_sound, want_failed, want_sound}
use Rattle.mtn_history.proofs.NextLemmas.{body_alone, body_first, first_above, next_alone, next_first}
use Rattle.mtn_history.proofs.draft.Draft.next_record.Goals as goal

pub returns-in_default-clause-found : goal.returns-in_default-clause-found
returns-in_default-clause-found g c =
    subst (λ d. IfSome (g.K.Keeper.contents c.next_record.new.self) (λ x. IsNextKey (with_all x d.pending.batch) c.args.table c.args.after.now c.in_ok-found.found c.next_record.new.key.items)) c.self.view_is
    (next_alone (g.K.Keeper.contents c.next_record.new.self) c.self.inside.pending.batch c.args.table c.args.after.now c.next_record.new.key.items c.in_ok-found.found
    (subst (λ o. IsLeast (with_all nothing c.self.inside.pending.batch) c.args.table c.args.after.now (option_map (λ (k : Bor (List ℕ)). k.now) o)) c.in_default.is c.in_ok-least.ensures.found)
    c.in_ok-found.ensures.found)

pub returns-clause-found : goal.returns-clause-found
returns-clause-found g c =
    subst (λ d. IfSome (g.K.Keeper.contents c.next_record.new.self) (λ x. IsNextKey (with_all x d.pending.batch) c.args.table c.args.after.now true c.take_first.new.key.items)) c.self.view_is
    (next_first (g.K.Keeper.contents c.next_record.new.self) c.self.inside.pending.batch c.args.table c.args.after.now c.next_record.new.key.items c.in-Some.least.now c.take_first.new.key.items c.in_ok-found.found
    (subst (λ o. IsLeast (with_all nothing c.self.inside.pending.batch) c.args.table c.args.after.now (option_map (λ (k : Bor (List ℕ)). k.now) o)) c.in-Some.is c.in_ok-least.ensures.found)
    c.in_ok-take_first.ensures c.in_ok-found.ensures.found)

pub returns-clause-above : goal.returns-clause-above
returns-clause-above g c =
    first_above c.self.inside.pending.batch c.args.table c.args.after.now c.next_record.new.key.items c.in-Some.least.now c.take_first.new.key.items c.in_ok-found.found
    (subst (λ o. IsLeast (with_all nothing c.self.inside.pending.batch) c.args.table c.args.after.now (option_map (λ (k : Bor (List ℕ)). k.now) o)) c.in-Some.is c.in_ok-least.ensures.found)
    c.in_ok-take_first.ensures c.in_ok-found.ensures.above

pub returns-in_default-clause-told : goal.returns-in_default-clause-told
returns-in_default-clause-told g c =
    subst (λ d. IfSome (g.K.Keeper.contents c.next_record.new.self) (λ x. IsBodyIf (with_all x d.pending.batch) c.args.table c.in_ok-found.found c.next_record.new.key.items c.next_record.new.body.items)) c.self.view_is
    (body_alone (g.K.Keeper.contents c.next_record.new.self) c.self.inside.pending.batch c.args.table c.args.after.now c.next_record.new.key.items c.next_record.new.body.items c.in_ok-found.found
    (subst (λ o. IsLeast (with_all nothing c.self.inside.pending.batch) c.args.table c.args.after.now (option_map (λ (k : Bor (List ℕ)). k.now) o)) c.in_default.is c.in_ok-least.ensures.found)
    c.in_ok-found.ensures.above c.in_ok-found.ensures.told)

pub returns-clause-told : goal.returns-clause-told
returns-clause-told g c =
    subst (λ d. IfSome (g.K.Keeper.contents c.next_record.new.self) (λ x. IsBodyIf (with_all x d.pending.batch) c.args.table true c.take_first.new.key.items c.take_body.new.body.items)) c.self.view_is
    (body_first (g.K.Keeper.contents c.next_record.new.self) c.self.inside.pending.batch c.args.table c.args.after.now c.next_record.new.key.items c.in-Some.least.now c.take_first.new.key.items c.deref.result.now c.next_record.new.body.items c.take_body.new.body.items c.in_ok-found.found
    (option_map (λ (b : Bor (List ℕ)). b.now) c.find.result)
    (subst (λ o. IsLeast (with_all nothing c.self.inside.pending.batch) c.args.table c.args.after.now (option_map (λ (k : Bor (List ℕ)). k.now) o)) c.in-Some.is c.in_ok-least.ensures.found)
    c.in_ok-take_first.ensures c.deref.ensures.value c.in_ok-found.ensures.told c.find.ensures c.in_ok-take_body.ensures)

pub returns-in_err-found : goal.returns-in_err-found
returns-in_err-found g c =
    let p = err_from_is_err_and c.from_residual.result c.from_residual.ensures.1 in record {
      asks = asks_once g.K.Keeper.contents g.K.Keeper.leaves g.K.Keeper.faults g.K.Keeper.reads c.self.inside.keeper.now c.next_record.new.self c.self.inside.keeper.ghost_name c.self.inside.pending c.args.self.now c.self.view_is c.next_record.ensures.stays c.next_record.ensures.reads;
      found = error_tells (g.K.Keeper.contents c.next_record.new.self) c.from_residual.result (λ x found. IsNextKey (with_all x c.args.self.now.pending.batch) c.args.table c.args.after.now found c.next_record.new.key.items) c.from_residual.ensures.0;
      told = error_tells (g.K.Keeper.contents c.next_record.new.self) c.from_residual.result (λ x found. IsBodyIf (with_all x c.args.self.now.pending.batch) c.args.table found c.next_record.new.key.items c.next_record.new.body.items) c.from_residual.ensures.0;
      above = IfOk-from_err c.from_residual.result (λ found. IsAboveIf c.args.after.now found c.next_record.new.key.items) c.from_residual.ensures.0;
      failed = λ e. subst (λ d. Rose (g.K.Keeper.faults d.keeper.now) (g.K.Keeper.faults c.next_record.new.self)) c.self.view_is (keeper_failed c.from_residual.result c.in_err-found.field-0.0 (p.1 ∙ ap Err p.2) (λ k. c.in_err-found.ensures.failed (ap Err k)) e);
      damaged = keeper_sound c.from_residual.result c.in_err-found.field-0.0 (p.1 ∙ ap Err p.2);
    }

pub returns-in_err-least : goal.returns-in_err-least
returns-in_err-least g c =
    let p = err_from_is_err_and c.from_residual-in_err-least.result c.from_residual-in_err-least.ensures.1 in record {
      asks = asks_once g.K.Keeper.contents g.K.Keeper.leaves g.K.Keeper.faults g.K.Keeper.reads c.self.inside.keeper.now c.next_record.new.self c.self.inside.keeper.ghost_name c.self.inside.pending c.args.self.now c.self.view_is c.next_record.ensures.stays c.next_record.ensures.reads;
      found = error_tells (g.K.Keeper.contents c.next_record.new.self) c.from_residual-in_err-least.result (λ x found. IsNextKey (with_all x c.args.self.now.pending.batch) c.args.table c.args.after.now found c.next_record.new.key.items) c.from_residual-in_err-least.ensures.0;
      told = error_tells (g.K.Keeper.contents c.next_record.new.self) c.from_residual-in_err-least.result (λ x found. IsBodyIf (with_all x c.args.self.now.pending.batch) c.args.table found c.next_record.new.key.items c.next_record.new.body.items) c.from_residual-in_err-least.ensures.0;
      above = IfOk-from_err c.from_residual-in_err-least.result (λ found. IsAboveIf c.args.after.now found c.next_record.new.key.items) c.from_residual-in_err-least.ensures.0;
      failed = want_failed c.from_residual-in_err-least.result (p.1 ∙ ap Err p.2);
      damaged = want_sound c.from_residual-in_err-least.result (p.1 ∙ ap Err p.2);
    }

pub returns-in_err-take_first : goal.returns-in_err-take_first
returns-in_err-take_first g c =
    let p = err_from_is_err_and c.from_residual-in_err-take_first.result c.from_residual-in_err-take_first.ensures.1 in record {
      asks = asks_once g.K.Keeper.contents g.K.Keeper.leaves g.K.Keeper.faults g.K.Keeper.reads c.self.inside.keeper.now c.next_record.new.self c.self.inside.keeper.ghost_name c.self.inside.pending c.args.self.now c.self.view_is c.next_record.ensures.stays c.next_record.ensures.reads;
      found = error_tells (g.K.Keeper.contents c.next_record.new.self) c.from_residual-in_err-take_first.result (λ x found. IsNextKey (with_all x c.args.self.now.pending.batch) c.args.table c.args.after.now found c.take_first.new.key.items) c.from_residual-in_err-take_first.ensures.0;
      told = error_tells (g.K.Keeper.contents c.next_record.new.self) c.from_residual-in_err-take_first.result (λ x found. IsBodyIf (with_all x c.args.self.now.pending.batch) c.args.table found c.take_first.new.key.items c.next_record.new.body.items) c.from_residual-in_err-take_first.ensures.0;
      above = IfOk-from_err c.from_residual-in_err-take_first.result (λ found. IsAboveIf c.args.after.now found c.take_first.new.key.items) c.from_residual-in_err-take_first.ensures.0;
      failed = want_failed c.from_residual-in_err-take_first.result (p.1 ∙ ap Err p.2);
      damaged = want_sound c.from_residual-in_err-take_first.result (p.1 ∙ ap Err p.2);
    }

pub returns-in_err-take_body : goal.returns-in_err-take_body
returns-in_err-take_body g c =
    let p = err_from_is_err_and c.from_residual-in_err-take_body.result c.from_residual-in_err-take_body.ensures.1 in record {
      asks = asks_once g.K.Keeper.contents g.K.Keeper.leaves g.K.Keeper.faults g.K.Keeper.reads c.self.inside.keeper.now c.next_record.new.self c.self.inside.keeper.ghost_name c.self.inside.pending c.args.self.now c.self.view_is c.next_record.ensures.stays c.next_record.ensures.reads;
      found = error_tells (g.K.Keeper.contents c.next_record.new.self) c.from_residual-in_err-take_body.result (λ x found. IsNextKey (with_all x c.args.self.now.pending.batch) c.args.table c.args.after.now found c.take_first.new.key.items) c.from_residual-in_err-take_body.ensures.0;
      told = error_tells (g.K.Keeper.contents c.next_record.new.self) c.from_residual-in_err-take_body.result (λ x found. IsBodyIf (with_all x c.args.self.now.pending.batch) c.args.table found c.take_first.new.key.items c.take_body.new.body.items) c.from_residual-in_err-take_body.ensures.0;
      above = IfOk-from_err c.from_residual-in_err-take_body.result (λ found. IsAboveIf c.args.after.now found c.take_first.new.key.items) c.from_residual-in_err-take_body.ensures.0;
      failed = want_failed c.from_residual-in_err-take_body.result (p.1 ∙ ap Err p.2);
      damaged = want_sound c.from_residual-in_err-take_body.result (p.1 ∙ ap Err p.2);
    }

pub returns-in_default-clause-asks : goal.returns-in_default-clause-asks
returns-in_default-clause-asks g c = asks_once g.K.Keeper.contents g.K.Keeper.leaves g.K.Keeper.faults g.K.Keeper.reads c.self.inside.keeper.now c.next_record.new.self c.self.inside.keeper.ghost_name c.self.inside.pending c.args.self.now c.self.view_is c.next_record.ensures.stays c.next_record.ensures.reads

pub returns-in_default-clause-failed : goal.returns-in_default-clause-failed
returns-in_default-clause-failed g c = λ e. absurd cc

pub returns-clause-asks : goal.returns-clause-asks
returns-clause-asks g c = asks_once g.K.Keeper.contents g.K.Keeper.leaves g.K.Keeper.faults g.K.Keeper.reads c.self.inside.keeper.now c.next_record.new.self c.self.inside.keeper.ghost_name c.self.inside.pending c.args.self.now c.self.view_is c.next_record.ensures.stays c.next_record.ensures.reads

pub returns-clause-failed : goal.returns-clause-failed
returns-clause-failed g c = λ e. absurd cc

pub returns-in_default-clause-above : goal.returns-in_default-clause-above
returns-in_default-clause-above g c = c.in_ok-found.ensures.above
