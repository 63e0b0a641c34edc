use Rattle.std.proofs.Common.{Some, sym, ap, ◌∙◌, subst}
use Rattle.std.specs.Prelude.{option_copied}
use Rattle.mtn_history_laws.specs.Scalars.Scalar.{ContentOf}
use Rattle.mtn_marking.specs.Marking.{Marks, marks_in}
use Rattle.mtn_roster.specs.Tree.{Tree, IsSane, node_at}
use Rattle.mtn_roster_queries.proofs.Marking.{of_file, of_directory}
use Rattle.mtn_roster_queries.proofs.content.content_marks.Goals as goal

pub returns-in_ok-copy-in-Some-content_of-clause-found : goal.returns-in_ok-copy-in-Some-content_of-clause-found
returns-in_ok-copy-in-Some-content_of-clause-found c h r marked =
    let t = c.args.roster.now in
    of_file h r t marked c.args.path.now c.in-Some.entry.now c.in_ok-copy-in-Some-content_of.field-0 (subst IsSane c.roster-tree.ensures.tree c.len-nodes.ensures.sane)
    (ap (λ (u : Tree). node_at u c.args.path.now) (sym c.roster-tree.ensures.tree) ∙ sym c.at_path.ensures ∙ ap option_copied c.in-Some.is)
    (ap (λ (ms : Marks). marks_in ms (ContentOf c.in-Some.entry.now.name)) (sym c.marks.ensures) ∙ sym c.content_of.ensures ∙ ap option_copied c.in-Some-content_of.is ∙ ap Some (sym c.in_ok-copy-in-Some-content_of.ensures))

pub returns-in_ok-path-in-None-clause-found : goal.returns-in_ok-path-in-None-clause-found
returns-in_ok-path-in-None-clause-found c h r marked =
    let t = c.args.roster.now in
    of_directory h r t marked c.args.path.now c.in-Some.entry.now c.in_ok-path-in-None.path c.in_ok-path-in-None.ensures (subst IsSane c.roster-tree.ensures.tree c.len-nodes.ensures.sane)
    (ap (λ (u : Tree). node_at u c.args.path.now) (sym c.roster-tree.ensures.tree) ∙ sym c.at_path.ensures ∙ ap option_copied c.in-Some.is)
    (ap (λ (ms : Marks). marks_in ms (ContentOf c.in-Some.entry.now.name)) (sym c.marks.ensures) ∙ sym c.content_of.ensures ∙ ap option_copied c.in-None.is)
