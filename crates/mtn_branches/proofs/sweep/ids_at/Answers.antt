use Rattle.std.proofs.Common.{◌+◌, ◌∙◌, List, take, sym, ap, subst}
use Rattle.mtn_base.specs.declared.id.Id.{Id}
use Rattle.mtn_branches.specs.Graphs.{IsIdAt}
use Rattle.mtn_branches.specs.Images.{IsImage}
use Rattle.mtn_branches.proofs.HeadLemmas.{id_more, id_pass}
use Rattle.mtn_branches.proofs.sweep.ids_at.Goals as goal
use Rattle.mtn_branches.proofs.sweep.ids_at.Goals.{in-Some+in_ok-push-in-Some, in-None}

pub loop-at-preserved : goal.loop-at-preserved
loop-at-preserved c =
    let log = c.args.graph.now in
    let places = c.args.places.now in
    let i = c.loop-at.at-index in
    elim c.match-id.branch [
      | in-Some+in_ok-push-in-Some w ↦ subst (λ (l : List Id). IsImage (IsIdAt log) (take (i + 1) places) l) (sym (ap (λ v. v.items) w.ids-is ∙ w.in_ok-push-in-Some.ensures.items))
          (id_more log places i c.at-item.result c.loop-at.ids.items w.in-Some.id c.loop-at-test.true c.at-item.is c.loop-at.invariant (sym c.id.ensures ∙ w.in-Some.is))
      | in-None w ↦ subst (λ (l : List Id). IsImage (IsIdAt log) (take (i + 1) places) l) (sym (ap (λ v. v.items) w.ids-is))
          (id_pass log places i c.at-item.result c.loop-at.ids.items c.loop-at-test.true c.at-item.is c.loop-at.invariant (sym c.id.ensures ∙ w.in-None.is))
    ]
