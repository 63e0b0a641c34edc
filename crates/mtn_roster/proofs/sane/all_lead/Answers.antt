-- One more way.
use Rattle.std.proofs.Common.{◌∙◌, Bool, List, length, get_or, false, refl, ap, sym, arith}
use Rattle.mtn_roster.specs.Building.{climbed, Leads}
use Rattle.mtn_roster.proofs.Marking.{leads_from, lead_more}
use Rattle.mtn_roster.proofs.sane.all_lead.Goals as goal

pub loop-from-preserved : goal.loop-from-preserved
loop-from-preserved c =
    let ups = c.args.ups.now in
    let from = c.loop-from.from in
    let marked = c.loop-from.marked.items in
    let w = c.if-not-leads.ensures.yes refl in
    let here : Leads ups c.args.root from = leads_from ups c.args.root from w.0 (c.loop-from.invariant.2 (climbed ups w.0 from) (ap (λ (l : List Bool). get_or l (climbed ups w.0 from) false) (sym c.deref.ensures.value) ∙ w.1)) in (
      c.mark.ensures.long,
      c.mark.ensures.kept c.args.root c.loop-from.invariant.1,
      c.mark.ensures.lead c.args.root c.requires.top here c.loop-from.invariant.2,
      lead_more ups c.args.root from c.loop-from.invariant.3 here,
    )

pub marks_of-requires : goal.marks_of-requires
marks_of-requires c = omega (arith, c.requires.root)

pub loop-from-init : goal.loop-from-init
loop-from-init c = (
  omega (arith, c.in_ok-marked.ensures.long),
  c.in_ok-marked.ensures.root,
  λ k h. (0, c.in_ok-marked.ensures.rest k h),
  λ k low. absurd (omega (arith, low)),
)

pub leads-requires : goal.leads-requires
leads-requires c = record {
  within = c.requires.within;
  long = ap length c.deref.ensures.value ∙ c.loop-from.invariant.0;
  from = omega (arith, c.loop-from-test.true);
}

pub mark-requires : goal.mark-requires
mark-requires c = record {
  within = c.requires.within;
  long = c.loop-from.invariant.0;
  from = omega (arith, c.loop-from-test.true);
}

pub returns-then-not-leads-clause-some : goal.returns-then-not-leads-clause-some
returns-then-not-leads-clause-some c = λ _.
    let ups = c.args.ups.now in
    let from = c.loop-from.from in
    let end = climbed ups (length ups) from in (
      from,
      length ups,
      omega (arith, c.loop-from-test.true),
      omega arith,
      λ e.
          let no = sym (ap (λ (l : List Bool). get_or l end false) c.deref.ensures.value) ∙ c.if-not-leads.ensures.no refl in
          let yes = ap (λ k. get_or c.loop-from.marked.items k false) e ∙ c.loop-from.invariant.1 in
          cc,
    )

pub returns-clause-all : goal.returns-clause-all
returns-clause-all c = λ _ k low. c.loop-from.invariant.3 k (omega (arith, low))
