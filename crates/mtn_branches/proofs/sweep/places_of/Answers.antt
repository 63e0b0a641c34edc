use Rattle.std.proofs.Common.{◌+◌, ◌∙◌, ℕ, List, [], get_or, take, sym, ap, subst}
use Rattle.mtn_base.specs.declared.id.Id.{Id}
use Rattle.mtn_base.proofs.Members.{any_default}
use Rattle.mtn_branches.specs.Graphs.{StandsAt}
use Rattle.mtn_branches.specs.Images.{IsImage}
use Rattle.mtn_branches.proofs.HeadLemmas.{place_more, place_pass}
use Rattle.mtn_branches.proofs.sweep.places_of.Goals as goal
use Rattle.mtn_branches.proofs.sweep.places_of.Goals.{in-Some+in_ok-push-in-Some, in-None}

pub loop-id-preserved : goal.loop-id-preserved
loop-id-preserved c =
    let log = c.args.graph.now in
    let ids = c.args.ids.now in
    let i = c.loop-id.id-index in
    let none : Id = record { 0 = [] } in
    let id = get_or ids i none in
    let at = any_default ids i none id c.loop-id-test.true in
    elim c.match-find.branch [
      | in-Some+in_ok-push-in-Some w ↦ subst (λ (l : List ℕ). IsImage (StandsAt log) (take (i + 1) ids) l) (sym (ap (λ v. v.items) w.places-is ∙ w.in_ok-push-in-Some.ensures.items))
          (place_more log ids i id c.loop-id.places.items w.in-Some.at c.find.result c.loop-id-test.true at c.loop-id.invariant w.in-Some.is w.in-Some.ensures.found c.find.ensures.all)
      | in-None w ↦ subst (λ (l : List ℕ). IsImage (StandsAt log) (take (i + 1) ids) l) (sym (ap (λ v. v.items) w.places-is))
          (place_pass log ids i id c.loop-id.places.items c.find.result c.loop-id-test.true at c.loop-id.invariant w.in-None.is c.find.ensures.all)
    ]
