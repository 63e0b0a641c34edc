-- Certificate by certificate.
use Rattle.std.proofs.Common.{◌≡◌, ◌∙◌, Err, take, refl, sym, ap, subst, arith}
use Rattle.std.proofs.lemmas.Result.{err_from_is_err_and}
use Rattle.mtn_history.specs.Stands.{IsDraft}
use Rattle.mtn_history.specs.declared.errors.StoreError.TheVariants.{Failed}
use Rattle.mtn_ports.proofs.KeptLemmas.{rose_before, stays_trans}
use Rattle.mtn_step.specs.Certifying.{said_certs, with_certs}
use Rattle.mtn_commands.proofs.SaidLemmas.{all_held, one_more, speaks}
use Rattle.mtn_commands.proofs.said.certify.Goals as goal

pub loop-cert-init : goal.loop-cert-init
loop-cert-init g c = record {
  same_reference = refl;
  stays = record { same = λ d now. now; crash = λ d now e may. may; later = omega arith };
  holds = λ f k s told draft known. draft;
}

pub returns-in_err-hold_cert-clause-same_reference : goal.returns-in_err-hold_cert-clause-same_reference
returns-in_err-hold_cert-clause-same_reference g c = c.hold_cert.ensures.same_reference ∙ c.loop-cert.invariant.same_reference

pub returns-in_err-hold_cert-clause-stays : goal.returns-in_err-hold_cert-clause-stays
returns-in_err-hold_cert-clause-stays g c = stays_trans g.K.Keeper.contents g.K.Keeper.leaves g.K.Keeper.faults _ _ _ c.loop-cert.invariant.stays c.hold_cert.ensures.stays

pub returns-in_err-hold_cert-clause-failed : goal.returns-in_err-hold_cert-clause-failed
returns-in_err-hold_cert-clause-failed g c = λ is.
    let p = err_from_is_err_and c.from_residual-in_err-hold_cert.result c.from_residual-in_err-hold_cert.ensures.1 in
    let same : c.in_err-hold_cert.field-0.0 ≡ Failed = (let q = sym is ∙ p.1 ∙ ap Err p.2 in cc) in
    rose_before (g.K.Keeper.faults c.args.draft.now.keeper.now) (g.K.Keeper.faults c.loop-cert.draft.keeper.now) (g.K.Keeper.faults c.hold_cert.new.draft.keeper.now) c.loop-cert.invariant.stays.later
    (c.in_err-hold_cert.ensures.failed (ap Err same))

pub loop-cert-preserved : goal.loop-cert-preserved
loop-cert-preserved g c = record {
  same_reference = c.hold_cert.ensures.same_reference ∙ c.loop-cert.invariant.same_reference;
  stays = stays_trans g.K.Keeper.contents g.K.Keeper.leaves g.K.Keeper.faults _ _ _ c.loop-cert.invariant.stays c.hold_cert.ensures.stays;
  holds = λ f k s told draft known.
      let id = c.args.id in
      let said = c.args.said.now in
      let i = c.loop-cert.cert-index in
      let are = c.deref-cert-items.ensures.value ∙ c.in_ok-certs.ensures.ok in
      let so_far = c.loop-cert.invariant.holds f k s (c.hold_cert.ensures.stays.same k told) draft known in
      subst (IsDraft f k c.hold_cert.new.draft.pending) (one_more id said c.deref-cert-items.result.now are i c.cert-item.result c.loop-cert-test.true c.cert-item.is s)
      (c.in_ok-hold_cert.ensures.holds f k (with_certs s (take i (said_certs id said))) told so_far
      (speaks id said c.deref-cert-items.result.now are i c.cert-item.result c.loop-cert-test.true c.cert-item.is s known));
}

pub returns-clause-same_reference : goal.returns-clause-same_reference
returns-clause-same_reference g c = c.loop-cert.invariant.same_reference

pub returns-clause-stays : goal.returns-clause-stays
returns-clause-stays g c = c.loop-cert.invariant.stays

pub returns-clause-certifies : goal.returns-clause-certifies
returns-clause-certifies g c = λ f k s told draft known. (
  c.in_ok-certs.ensures.fits,
  subst (IsDraft f k c.loop-cert.draft.pending) (all_held c.args.id c.args.said.now c.deref-cert-items.result.now (c.deref-cert-items.ensures.value ∙ c.in_ok-certs.ensures.ok) c.loop-cert.cert-index (omega (arith, c.loop-cert-test.false)) s)
      (c.loop-cert.invariant.holds f k s told draft known),
)
