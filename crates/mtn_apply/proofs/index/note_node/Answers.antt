-- The place is that of the node that stands there.
use Rattle.std.proofs.Common.{sym, ap, ◌∙◌, ◌<◌, cond, Some, option_copied, length, Bool, arith}
use Rattle.mtn_roster.specs.declared.entry.Entry.{Entry}
use Rattle.mtn_base.specs.Lists.{is_some_with}
use Rattle.mtn_base.specs.Names.{same_name}
use Rattle.mtn_changeset_laws.specs.Changes.{stands_at}
use Rattle.mtn_apply.specs.Maps.{of_place}
use Rattle.mtn_apply.specs.Old.{tree_in, entry_in}
use Rattle.mtn_apply.proofs.Links.{get_in}
use Rattle.mtn_apply.proofs.Noted.{noted}
use Rattle.mtn_apply.proofs.index.note_node.Goals as goal

pub returns-in-Some-old_at-clause-noted : goal.returns-in-Some-old_at-clause-noted
returns-in-Some-old_at-clause-noted c = λ k e at.
    let old = tree_in c.args.old in
    let node = c.in-Some-old_at.node in
    let f : Entry = entry_in node in
    let low : node.place < length c.args.nodes.now.items = omega (arith, get_in old node.place f c.in-Some-old_at.ensures.node, c.requires.long) in
    noted old c.requires.sane c.args.nodes.now.items node.place k c.args.at f e c.in-Some-old_at.ensures.node at low
    ∙ ap (λ (b : Bool). cond b (Some c.args.at) (of_place c.args.nodes.now.items k))
    (ap (is_some_with (λ (g : Entry). same_name g.name e.name)) c.in-Some-old_at.ensures.value
    ∙ ap (λ o. is_some_with (stands_at old e) (option_copied o)) (sym c.in-Some.is))
