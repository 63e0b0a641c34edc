-- The kept children, by their names.
use Rattle.std.specs.List.{list_any}
use Rattle.std.proofs.Common.{option_map, List, sym, ap, ◌∙◌}
use Rattle.mtn_base.specs.declared.name.NodeName.{NodeName}
use Rattle.mtn_base.specs.Lists.{is_some_with}
use Rattle.mtn_roster.specs.Tree.{entry_of}
use Rattle.mtn_changeset_laws.specs.Changes.{is_kept, has_kept_child}
use Rattle.mtn_apply.specs.Old.{entry_in}
use Rattle.mtn_apply.specs.Index.{old_of, changes_of}
use Rattle.mtn_apply.proofs.Kept.{kept_children}
use Rattle.mtn_apply.proofs.why.has_kept_child.Goals as goal

pub returns-in_ok-names-in-Some : goal.returns-in_ok-names-in-Some
returns-in_ok-names-in-Some c =
    let t = old_of c.args.edge.now in
    let kept = is_kept t (changes_of c.args.edge.now) in
    c.any_kept.ensures
    ∙ ap (λ (ns : List NodeName). list_any (λ n. is_some_with kept (entry_of t n)) ns) (c.deref.ensures.value ∙ c.in_ok-names-in-Some.ensures)
    ∙ kept_children t (entry_in c.in-Some.node).name kept c.requires.sane
    ∙ ap (λ o. is_some_with (has_kept_child t (changes_of c.args.edge.now)) (option_map entry_in o)) (sym c.in-Some.is)
