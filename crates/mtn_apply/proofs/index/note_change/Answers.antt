-- One change before those that are noted.
use Rattle.std.proofs.Common.{sym, ap, ◌∙◌, cond, Some, Bool, arith}
use Rattle.mtn_changeset_laws.specs.Changes.{aims_at, deletes, moves}
use Rattle.mtn_apply.specs.Maps.{of_path, of_place}
use Rattle.mtn_apply.specs.Old.{tree_in}
use Rattle.mtn_apply.proofs.Links.{get_in}
use Rattle.mtn_apply.proofs.Noted.{first_before}
use Rattle.mtn_apply.proofs.index.note_change.Goals as goal

pub note_node-requires-clause-long : goal.note_node-requires-clause-long
note_node-requires-clause-long c = c.requires.deleted

pub note_node-requires-2-clause-long : goal.note_node-requires-2-clause-long
note_node-requires-2-clause-long c = c.requires.moved

pub returns : goal.returns
returns c = λ all is was.
    let old = tree_in c.args.old in
    let at = c.args.at in
    let x = c.args.change.now in
    record {
      within = omega (arith, get_in all at x is);
      deleted_long = c.note_node.ensures.long ∙ was.deleted_long;
      moved_long = c.note_node-2.ensures.long ∙ was.moved_long;
      targets = λ q.
          c.in_ok-note_target.ensures q
          ∙ ap (λ (b : Bool). cond b (Some at) (of_path c.args.index.now.targets q)) (sym (c.target_of.ensures q))
          ∙ ap (cond (aims_at q x) (Some at)) (was.targets q)
          ∙ sym (first_before (aims_at q) all at x is);
      deleted = λ k e here.
          c.note_node.ensures.noted k e here
          ∙ ap (λ (b : Bool). cond b (Some at) (of_place c.args.index.now.deleted.items k)) (sym (c.deleted_path.ensures old e))
          ∙ ap (cond (deletes old e x) (Some at)) (was.deleted k e here)
          ∙ sym (first_before (deletes old e) all at x is);
      moved = λ k e here.
          c.note_node-2.ensures.noted k e here
          ∙ ap (λ (b : Bool). cond b (Some at) (of_place c.args.index.now.moved.items k)) (sym (c.moved_path.ensures old e))
          ∙ ap (cond (moves old e x) (Some at)) (was.moved k e here)
          ∙ sym (first_before (moves old e) all at x is);
    }
