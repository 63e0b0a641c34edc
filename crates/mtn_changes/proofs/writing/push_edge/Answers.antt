use Rattle.std.proofs.Common.{ap, ◌∙◌}
use Rattle.std.proofs.lemmas.Result.{on_ok_weaker}
use Rattle.mtn_changes.specs.declared.change.Edge.{Edge}
use Rattle.mtn_changes.specs.declared.head.Head.TheVariants.{Parent}
use Rattle.mtn_changes.specs.Heads.{head_stanza}
use Rattle.mtn_changes.proofs.Ascending.{edge_written}
use Rattle.mtn_changes.proofs.writing.push_edge.Goals as goal

pub returns : goal.returns
returns c =
    let refs = c.as_slice-2.result.now in
    on_ok_weaker c.push_changes.result
    (λ more. edge_written c.args.stanzas.now.items c.push.new.self.items c.push_changes.new.stanzas.items c.args.edge.now c.in_ok-stanza_of_head.field-0 c.in_ok-sorted.sorted.items refs c.as_slice.result.now (c.as_slice.ensures ∙ ap (λ (e : Edge). e.changes) c.edge.view_is) c.in_ok-sorted.ensures (c.in_ok-stanza_of_head.ensures ∙ ap (λ (e : Edge). head_stanza (Parent e.parent)) c.edge.view_is) c.in_ok-push.ensures.items c.as_slice-2.ensures.value more)
    c.push_changes.ensures
