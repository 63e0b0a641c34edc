use Rattle.std.proofs.Common.{Some, sym, ap, ◌∙◌}
use Rattle.std.proofs.lemmas.List.{drop_all}
use Rattle.std.proofs.lemmas.Bool.{eq-eqb, eqb-true, true≢false}
use Rattle.mtn_history.specs.Rosters.{places}
use Rattle.mtn_history.proofs.MeetingLemmas.{none_behind, none_more, place_here, place_last, place_next}
use Rattle.mtn_history.proofs.chains.place_of.Goals as goal

pub returns-then-eq-clause-found : goal.returns-then-eq-clause-found
returns-then-eq-clause-found c = place_here c.args.top c.loop-place.next c.loop-place.place c.args.records.now c.index-records-place.result c.loop-place-test.true c.index-records-place.is c.loop-place.invariant.along ∙ ap (λ k. Some k) (eqb-true c.loop-place.next c.args.at (sym c.eq.ensures ∙ c.if-eq.true))

pub returns-in_err-next-clause-none : goal.returns-in_err-next-clause-none
returns-in_err-next-clause-none c = λ e k at.
    none_more (places c.args.top c.args.records.now) c.loop-place.place c.loop-place.next c.args.at k (place_here c.args.top c.loop-place.next c.loop-place.place c.args.records.now c.index-records-place.result c.loop-place-test.true c.index-records-place.is c.loop-place.invariant.along) (λ same. true≢false (sym (eq-eqb c.loop-place.next c.args.at same) ∙ sym c.eq.ensures ∙ c.if-eq.false)) c.loop-place.invariant.none
    (place_last c.args.top c.loop-place.next c.loop-place.place c.args.records.now c.index-records-place.result c.loop-place-test.true c.index-records-place.is c.loop-place.invariant.along (sym c.in_err-next.ensures) k c.args.at at) at

pub loop-place-preserved : goal.loop-place-preserved
loop-place-preserved c = record {
  along = place_next c.args.top c.loop-place.next c.loop-place.place c.args.records.now c.index-records-place.result c.loop-place-test.true c.index-records-place.is c.loop-place.invariant.along c.in_ok-next.next (sym c.in_ok-next.ensures);
  none = λ k lt at. none_more (places c.args.top c.args.records.now) c.loop-place.place c.loop-place.next c.args.at k (place_here c.args.top c.loop-place.next c.loop-place.place c.args.records.now c.index-records-place.result c.loop-place-test.true c.index-records-place.is c.loop-place.invariant.along) (λ same. true≢false (sym (eq-eqb c.loop-place.next c.args.at same) ∙ sym c.eq.ensures ∙ c.if-eq.false)) c.loop-place.invariant.none lt at;
}

pub returns-clause-none : goal.returns-clause-none
returns-clause-none c = λ e k at.
    c.loop-place.invariant.none k (none_behind c.args.top c.loop-place.next c.loop-place.place k c.args.at c.args.records.now (drop_all c.loop-place.place c.args.records.now c.loop-place-test.false) c.loop-place.invariant.along at) at
