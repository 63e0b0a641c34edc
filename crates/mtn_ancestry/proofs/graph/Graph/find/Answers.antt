use Rattle.std.proofs.Common.{◌≡◌, Some, IfSome, sym, ◌∙◌, subst}
use Rattle.mtn_ancestry.specs.Log.{id_at}
use Rattle.mtn_ancestry.proofs.Placing.{found_place}
use Rattle.mtn_ancestry.proofs.graph.Graph.find.Goals as goal

pub returns-clause-found : goal.returns-clause-found
returns-clause-found c =
    subst (λ l. IfSome c.copied.result (λ at. id_at l at ≡ Some c.args.id)) c.self.view_is
    (found_place c.self.inside.log.items c.self.inside.places c.self.invariant c.args.id c.copied.result
    (sym (c.copied.ensures ∙ c.get.ensures.value)))
