use Rattle.std.proofs.Common.{◌∷◌, sym, subst}
use Rattle.std.proofs.lemmas.Result.{err_from_is_err_and}
use Rattle.mtn_graph_queries.specs.Queries.{AnswersQuery, NamesUnknown}
use Rattle.mtn_answers.specs.declared.query.Query.TheVariants.{CommonAncestors}
use Rattle.mtn_graph_queries.proofs.Members.{common_are}
use Rattle.mtn_graph_queries.proofs.Placing.{all_known, names_rest}
use Rattle.mtn_graph_queries.proofs.answers.common.Goals as goal

pub returns : goal.returns
returns c h tells =
    let q = c.in_ok-first.ensures.found h tells in
    let zip = c.in_ok-at.ensures.found h tells in (
      all_known h (c.args.of ∷ c.args.others.now) (c.in_ok-first.first ∷ c.in_ok-at.at.items) (q, zip),
      common_are h c.args.graph.now tells c.sorted_ids.ensures.log c.args.of c.in_ok-first.first c.args.others.now c.in_ok-at.at.items c.push.new.self.items c.in_ok-found.found _ q zip c.in_ok-push.ensures.items
          (rw c.deref.ensures.value at c.in_ok-found.ensures) (rw c.as_slice.ensures.value at c.in_ok-sorted_ids.ensures.sorted),
    )

pub returns-in_err-at : goal.returns-in_err-at
returns-in_err-at c h tells =
    let p = err_from_is_err_and c.from_residual-in_err-at.result c.from_residual-in_err-at.ensures.1 in
    subst (AnswersQuery h (CommonAncestors c.args.of c.args.others.now)) (sym p.1) (subst (NamesUnknown h (c.args.of ∷ c.args.others.now)) (sym p.2)
    (names_rest h c.args.of c.in_ok-first.first c.args.others.now c.in_err-at.field-0.0 (c.in_ok-first.ensures.found h tells) (c.in_err-at.ensures.unknown h tells)))
