use Rattle.std.proofs.Common.{List, ◌++◌, ◌∷◌, [], map, take, sym, ap, ◌∙◌}
use Rattle.std.proofs.lemmas.List.{map-append, take_all, take_more}
use Rattle.mtn_changes.specs.declared.change.Change.{Change}
use Rattle.mtn_changes.proofs.Ascending.{behind}
use Rattle.mtn_changes.proofs.sorting.refs_of.Goals as goal

pub loop-change-init : goal.loop-change-init
loop-change-init c = ap (map behind) c.in_ok-refs.ensures.items

pub loop-change-preserved : goal.loop-change-preserved
loop-change-preserved c =
    let i = c.loop-change.change-index in
    ap (map behind) c.in_ok-push.ensures.items
    ∙ map-append behind c.loop-change.refs.items (_ ∷ [])
    ∙ ap (λ (cs : List Change). cs ++ c.change-item.result ∷ []) c.loop-change.invariant
    ∙ ap (λ (d : Change). take i c.args.changes.now ++ d ∷ []) c.change-item.is
    ∙ sym (take_more c.args.changes.now i c.change-item.result c.loop-change-test.true)

pub returns : goal.returns
returns c = c.loop-change.invariant ∙ take_all c.loop-change.change-index c.args.changes.now c.loop-change-test.false
