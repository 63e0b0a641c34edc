-- A node that stands at the guess under the name is the one that is found.
use Rattle.std.specs.Prelude.{find, slice_get}
use Rattle.std.proofs.Common.{◌≡◌, List, Some, sym, ◌∙◌, ap, subst}
use Rattle.std.proofs.lemmas.Option.{slice_get-get_or}
use Rattle.mtn_base.specs.Names.{same_name}
use Rattle.mtn_marking.specs.declared.node.NodeMarks.{NodeMarks}
use Rattle.mtn_marking.proofs.ByName.{stands_named}
use Rattle.mtn_marking.proofs.map.MarkMap.place_near.Goals as goal

pub returns-then-same-clause-node : goal.returns-then-same-clause-node
returns-then-same-clause-node c =
    let m = c.in-Some.node.now in
    let there = slice_get-get_or c.deref.result.now c.args.guess m c.in-Some.ensures.lookup.3.0 ∙ ap Some (sym c.in-Some.ensures.lookup.1) in
    subst (λ (l : List NodeMarks). slice_get l c.args.guess ≡ find (λ (x : NodeMarks). same_name x.name c.args.name.now) l) c.self.view_is
    (stands_named c.self.inside.items.items c.self.invariant c.args.name.now c.args.guess m (subst (λ (l : List NodeMarks). slice_get l c.args.guess ≡ Some m) c.deref.ensures.value there)
    (sym c.same.ensures ∙ c.if-same.true))
