use Rattle.std.specs.List.{AllZip}
use Rattle.std.specs.Prelude.{All, IfErr}
use Rattle.std.proofs.Common.{◌<◌, length, sym, subst}
use Rattle.std.proofs.lemmas.List.{get_or_default}
use Rattle.std.proofs.lemmas.List.Elements.{All-push}
use Rattle.std.proofs.lemmas.Result.{err_from_is_err_and}
use Rattle.mtn_history_laws.specs.History.{IsPlaceOf}
use Rattle.mtn_graph_queries.specs.Queries.{NamesUnknown}
use Rattle.mtn_graph_queries.proofs.Placing.{names_behind, zip_more}
use Rattle.mtn_graph_queries.proofs.places.places.Goals as goal

pub returns-in_err-place-clause-unknown : goal.returns-in_err-place-clause-unknown
returns-in_err-place-clause-unknown c h tells =
    let p = err_from_is_err_and c.from_residual.result c.from_residual.ensures.1 in
    subst (λ r. IfErr r (NamesUnknown h c.args.ids.now)) (sym p.1) (subst (NamesUnknown h c.args.ids.now) (sym p.2)
    (names_behind h c.args.ids.now c.loop-id.id-index c.loop-id.at.items _ c.in_err-place.field-0.0 (c.loop-id.invariant.found h tells) c.loop-id-test.true (get_or_default c.args.ids.now c.loop-id.id-index _ _ c.loop-id-test.true) (c.in_err-place.ensures.unknown h tells)))

pub loop-id-preserved : goal.loop-id-preserved
loop-id-preserved c = record {
  within = subst (All (λ at. at < length c.args.graph.now)) (sym c.in_ok-push.ensures.items) (All-push (λ at. at < length c.args.graph.now) c.loop-id.at.items c.in_ok-place.field-0 c.loop-id.invariant.within c.in_ok-place.ensures.within);
  found = λ h tells. subst (AllZip (IsPlaceOf h) _) (sym c.in_ok-push.ensures.items)
      (zip_more h c.args.ids.now c.loop-id.id-index c.loop-id.at.items _ c.in_ok-place.field-0 (c.loop-id.invariant.found h tells) c.loop-id-test.true (get_or_default c.args.ids.now c.loop-id.id-index _ _ c.loop-id-test.true) (c.in_ok-place.ensures.found h tells));
}
