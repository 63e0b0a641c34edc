use Rattle.std.proofs.Common.{◌≡◌, Some, None, IfSome, sym, ap, subst, ◌∙◌, arith}
use Rattle.std.proofs.lemmas.Result.{IfOk-weaker}
use Rattle.std.proofs.lemmas.List.{take_all}
use Rattle.mtn_changes.specs.Stanzas.{IsRead}
use Rattle.mtn_changes.specs.Targets.{AreApart}
use Rattle.mtn_changes.specs.Lists.{last_rank}
use Rattle.mtn_changes.specs.Runs.{IsRun, AreRising}
use Rattle.mtn_changes.proofs.Fronts.{run_ends}
use Rattle.mtn_changes.proofs.Parts.{last_rank-push}
use Rattle.mtn_changes.proofs.Rising.{rising_more, rising_run, read_more, if_some}
use Rattle.mtn_changes.proofs.lawful.lawful_run.Goals as goal

pub returns-in-Some : goal.returns-in-Some
returns-in-Some c =
    let ss = c.args.stanzas.now in
    let cs = c.loop-stanza.changes in
    let ends = run_ends ss c.loop-stanza.stanza-index cs c.stanza-item.result c.in-Some.parent c.loop-stanza-test.true c.stanza-item.is c.loop-stanza.invariant.read c.in-Some.ensures in
    IfOk-weaker c.where_apart.result (λ o. IfSome o (λ r. AreApart cs × (r.changes ≡ cs) × (r.next ≡ Some c.in-Some.parent))) (λ o. IfSome o (λ r. IsRun ss r.changes r.next))
    (λ o h. if_some o (λ r. AreApart cs × (r.changes ≡ cs) × (r.next ≡ Some c.in-Some.parent)) (λ r. IsRun ss r.changes r.next)
    (λ r p. rising_run ss cs (Some c.in-Some.parent) r.changes r.next c.loop-stanza.invariant.rising ends p.0 p.1 p.2) h)
    c.where_apart.ensures

pub loop-stanza-preserved : goal.loop-stanza-preserved
loop-stanza-preserved c =
    let cs = c.loop-stanza.changes in
    let change = c.in-Some-2.change in
    let read : IsRead c.stanza-item.result (Some change) = subst (IsRead c.stanza-item.result) c.in-Some-2.is c.in_ok-change.ensures in
    record {
      rising = subst AreRising (sym c.in_ok-push.ensures.ok) (rising_more cs change c.loop-stanza.invariant.rising read.0 (omega (arith, c.if-rank-last.false, c.rank-rank.ensures, c.loop-stanza.invariant.last)));
      last = c.rank-rank.ensures ∙ sym (last_rank-push cs change) ∙ ap last_rank (sym c.in_ok-push.ensures.ok);
      read = read_more c.args.stanzas.now c.loop-stanza.stanza-index c.stanza-item.result cs change c.push.new.self c.loop-stanza-test.true c.stanza-item.is c.loop-stanza.invariant.read read.1 c.in_ok-push.ensures.ok;
    }

pub returns : goal.returns
returns c =
    let ss = c.args.stanzas.now in
    let cs = c.loop-stanza.changes in
    let ends = sym (take_all c.loop-stanza.stanza-index ss (omega (arith, c.loop-stanza-test.false))) ∙ c.loop-stanza.invariant.read in
    IfOk-weaker c.where_apart-2.result (λ o. IfSome o (λ r. AreApart cs × (r.changes ≡ cs) × (r.next ≡ None))) (λ o. IfSome o (λ r. IsRun ss r.changes r.next))
    (λ o h. if_some o (λ r. AreApart cs × (r.changes ≡ cs) × (r.next ≡ None)) (λ r. IsRun ss r.changes r.next)
    (λ r p. rising_run ss cs None r.changes r.next c.loop-stanza.invariant.rising ends p.0 p.1 p.2) h)
    c.where_apart-2.ensures
