use Rattle.std.proofs.Common.{◌≤◌, ◌+◌, Err, arith, sym, ap, subst, length, not, ◌∙◌}
use Rattle.std.specs.Prelude.{bytes_eq}
use Rattle.std.proofs.lemmas.Result.{err_from_is_err_and}
use Rattle.mtn_ports.specs.Kept.{Stays}
use Rattle.mtn_history.specs.Files.{KeepsFile}
use Rattle.mtn_history.specs.declared.errors.StoreError.TheVariants.{NoMemory}
use Rattle.mtn_history.proofs.Exits.{on_error, store_failed, store_sound}
use Rattle.mtn_history.proofs.FileLemmas.{accepted_new, accepted_same}
use Rattle.mtn_history.proofs.draft.Draft.put_file_as.Goals as goal

pub returns-then-not-branch-clause-accepts : goal.returns-then-not-branch-clause-accepts
returns-then-not-branch-clause-accepts g c f d s told draft is =
    let a = accepted_new f (g.K.Keeper.contents c.get.new.self.keeper.now) c.args.self.now.pending c.get.new.self.pending c.keep_owned.new.self.pending c.args.bytes c.args.id.0 c.as_slice-key.result.now c.get.new.out.items c.in_ok-get.field-0
    c.in_ok-get.ensures.found c.if-not-branch.true c.as_slice-key.ensures is (omega (arith, ap length c.as_slice-text.ensures)) c.in_ok-get.ensures.asks.pending c.in_ok-keep_owned.ensures.ok
    d s (ap (λ h. g.K.Keeper.contents h.now) (sym c.in_ok-keep_owned.ensures.keeper) ∙ told) draft in
    (a.1, a.2)

pub returns-clause-accepts : goal.returns-clause-accepts
returns-clause-accepts g c f d s told draft is =
    let a = accepted_same f _ c.args.self.now.pending c.get.new.self.pending c.args.bytes c.args.id.0 c.as_slice-key.result.now c.get.new.out.items c.as_slice.result.now c.in_ok-get.field-0 c.ne.result
    c.in_ok-get.ensures.found c.if-not-branch.false c.as_slice-key.ensures is (omega (arith, ap length c.as_slice-text.ensures)) c.in_ok-get.ensures.asks.pending c.as_slice.ensures.value (c.ne.ensures ∙ ap (λ b. not (bytes_eq c.as_slice.result.now b)) c.as_slice-2.ensures) c.if-ne.false d s told draft in
    (a.1, a.2)

pub returns-in_err-get : goal.returns-in_err-get
returns-in_err-get g c =
    let p = err_from_is_err_and c.from_residual.result c.from_residual.ensures.1 in
    let is = p.1 ∙ ap Err p.2 in record {
      same_reference = c.in_err-get.ensures.asks.same_reference;
      stays = c.in_err-get.ensures.asks.stays;
      accepts = λ f d s told draft id. subst (λ r. KeepsFile f d s c.args.bytes r c.get.new.self.pending) (sym is) c.in_err-get.ensures.damaged;
      err = on_error c.from_residual.result c.in_err-get.ensures.asks.pending;
      sound = store_sound c.from_residual.result c.in_err-get.field-0.0 is c.in_err-get.ensures.damaged;
      failed = store_failed c.from_residual.result c.in_err-get.field-0.0 is (λ e. c.in_err-get.ensures.failed (ap Err e));
      reads = c.in_err-get.ensures.asks.reads;
    }

pub returns-in_err-keep_owned : goal.returns-in_err-keep_owned
returns-in_err-keep_owned g c =
    let p = err_from_is_err_and c.from_residual-in_err-keep_owned.result c.from_residual-in_err-keep_owned.ensures.1 in
    let is = p.1 ∙ ap Err p.2 in
    let same = c.in_err-keep_owned.ensures.keeper in
    let asks = c.in_ok-get.ensures.asks in record {
      same_reference = ap (λ h. h.ghost_name) same ∙ asks.same_reference;
      stays = subst (λ h. Stays g.K.Keeper.contents g.K.Keeper.leaves g.K.Keeper.faults c.args.self.now.keeper.now h.now) (sym same) asks.stays;
      accepts = λ f d s told draft id. subst (λ r. KeepsFile f d s c.args.bytes r c.keep_owned.new.self.pending) (sym is) tt;
      err = on_error c.from_residual-in_err-keep_owned.result (c.in_err-keep_owned.ensures.err ∙ asks.pending);
      sound = store_sound c.from_residual-in_err-keep_owned.result NoMemory is tt;
      failed = store_failed c.from_residual-in_err-keep_owned.result NoMemory is (λ e. absurd cc);
      reads = subst (λ h. g.K.Keeper.reads h.now ≤ g.K.Keeper.reads c.args.self.now.keeper.now + 1) (sym same) asks.reads;
    }

pub returns-then-not-branch-clause-stays : goal.returns-then-not-branch-clause-stays
returns-then-not-branch-clause-stays g c =
    subst (λ h. Stays g.K.Keeper.contents g.K.Keeper.leaves g.K.Keeper.faults c.args.self.now.keeper.now h.now) (sym c.in_ok-keep_owned.ensures.keeper) c.in_ok-get.ensures.asks.stays

pub returns-then-not-branch-clause-failed : goal.returns-then-not-branch-clause-failed
returns-then-not-branch-clause-failed g c = λ e. absurd cc

pub returns-clause-stays : goal.returns-clause-stays
returns-clause-stays g c = c.in_ok-get.ensures.asks.stays

pub returns-clause-failed : goal.returns-clause-failed
returns-clause-failed g c = λ e. absurd cc

pub returns-then-ne-clause-stays : goal.returns-then-ne-clause-stays
returns-then-ne-clause-stays g c = c.in_ok-get.ensures.asks.stays

pub returns-then-ne-clause-failed : goal.returns-then-ne-clause-failed
returns-then-ne-clause-failed g c = λ e. absurd cc
