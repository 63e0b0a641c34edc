use Rattle.std.proofs.Common.{◌∷◌, sym, ◌∙◌, subst}
use Rattle.std.specs.Prelude.{Contains}
use Rattle.mtn_ancestry.specs.Sets.{IsAscendingListOf}
use Rattle.std.proofs.lemmas.Result.{err_from_is_err_and}
use Rattle.mtn_graph_queries.specs.Queries.{AnswersQuery, NamesUnknown}
use Rattle.mtn_answers.specs.declared.query.Query.TheVariants.{AncestryDifference}
use Rattle.mtn_graph_queries.proofs.Members.{difference_is}
use Rattle.mtn_graph_queries.proofs.Placing.{all_known, names_rest}
use Rattle.mtn_graph_queries.proofs.answers.difference.Goals as goal

pub returns : goal.returns
returns c h tells =
    let q = c.in_ok-first.ensures.found h tells in
    let zip = c.in_ok-at.ensures.found h tells in (
      all_known h (c.args.of ∷ c.args.others.now) (c.in_ok-first.first ∷ c.in_ok-at.at.items) (q, zip),
      difference_is h c.args.graph.now tells c.ids_at.ensures.log c.args.of c.in_ok-first.first c.args.others.now c.in_ok-at.at.items c.in_ok-all.all c.in_ok-given.given c.in_ok-above.above c.in_ok-found.found.items _ q zip c.in_ok-all.ensures
          (subst (IsAscendingListOf (Contains c.in_ok-at.at.items)) (sym c.in_ok-given.ensures) (rw c.deref.ensures.value at c.in_ok-toposort.ensures)) (rw c.deref-2.ensures.value at c.in_ok-above.ensures)
          c.in_ok-found.ensures (c.from_vec.ensures ∙ (rw c.deref-3.ensures.value at c.in_ok-ids_at.ensures.ids)),
    )

pub returns-in_err-at : goal.returns-in_err-at
returns-in_err-at c h tells =
    let p = err_from_is_err_and c.from_residual-in_err-at.result c.from_residual-in_err-at.ensures.1 in
    subst (AnswersQuery h (AncestryDifference c.args.of c.args.others.now)) (sym p.1) (subst (NamesUnknown h (c.args.of ∷ c.args.others.now)) (sym p.2)
    (names_rest h c.args.of c.in_ok-first.first c.args.others.now c.in_err-at.field-0.0 (c.in_ok-first.ensures.found h tells) (c.in_err-at.ensures.unknown h tells)))
