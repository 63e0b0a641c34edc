-- What one change more adds.
use Rattle.std.specs.Prelude.{option_and_then, slice_get}
use Rattle.std.proofs.Common.{◌≡◌, Some, sym, ap, ◌∙◌}
use Rattle.std.proofs.lemmas.Option.{slice_get-get_or}
use Rattle.mtn_changeset_laws.specs.Changes.{added_by}
use Rattle.mtn_apply.specs.Index.{old_of, changes_of}
use Rattle.mtn_apply.proofs.Gathered.{one_more}
use Rattle.mtn_apply.proofs.after.push_added.Goals as goal

pub loop-change-preserved : goal.loop-change-preserved
loop-change-preserved c =
    let all = changes_of c.args.edge.now in
    let adds = added_by (old_of c.args.edge.now) all c.args.new in
    let held : slice_get all c.loop-change.change-index ≡ Some c.change-item.result = slice_get-get_or all c.loop-change.change-index c.change-item.result c.loop-change-test.true ∙ ap Some (sym c.change-item.is) in
    one_more adds all c.loop-change.change-index c.args.entries.now.items c.loop-change.entries.items c.push_some.new.entries.items c.in_ok-entry.entry
    c.loop-change.invariant (c.in_ok-entry.ensures ∙ ap (option_and_then adds) (sym held)) c.in_ok-push_some.ensures
