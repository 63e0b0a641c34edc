-- What is made of the pairs is the joined tree.
use Rattle.std.proofs.Common.{sym, ◌∙◌, ap, subst, map, Err}
use Rattle.mtn_roster.specs.Building.{IsBuildable, tree_of}
use Rattle.mtn_join.specs.Join.{is_outside}
use Rattle.mtn_join.specs.Pairing.{unordered_entry}
use Rattle.mtn_join.proofs.Made.{made_tree, made_buildable}
use Rattle.mtn_join.proofs.two_edges.join.Goals as goal

pub returns-in-Ok-clause-ok : goal.returns-in-Ok-clause-ok
returns-in-Ok-clause-ok c =
    c.in-Ok.ensures.ok ∙ ap tree_of (c.in_ok-entries.ensures ∙ ap (λ t. map (unordered_entry t c.args.right c.args.new) t) c.into_entries.ensures)
    ∙ made_tree c.args.left c.args.right c.args.new c.len-nodes.ensures.sane c.len-others.ensures.sane (is_outside c.args.only_right.now) (is_outside c.args.only_left.now) c.in_ok-mates.ensures.agreed c.requires

pub unreachable-requires : goal.unreachable-requires
unreachable-requires c =
    c.in-Err-Insane.ensures.insane (ap Err c.in-Err-Insane.field-0-is)
    (subst IsBuildable (sym (c.in_ok-entries.ensures ∙ ap (λ t. map (unordered_entry t c.args.right c.args.new) t) c.into_entries.ensures))
    (made_buildable c.args.left c.args.right c.args.new c.len-nodes.ensures.sane c.len-others.ensures.sane (is_outside c.args.only_right.now) (is_outside c.args.only_left.now) c.in_ok-mates.ensures.agreed c.requires))
