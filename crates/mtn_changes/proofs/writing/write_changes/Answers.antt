use Rattle.std.proofs.Common.{List, map, subst, ◌∙◌, rules}
use Rattle.mtn_changes.specs.declared.change.Change.{Change}
use Rattle.mtn_changes.specs.Sorting.{IsSortedAs}
use Rattle.mtn_changes.specs.ChangesText.{AreChanges}
use Rattle.mtn_changes.proofs.Ascending.{behind}
use Rattle.mtn_changes.proofs.Sorted.{sorted_lawful}
use Rattle.mtn_changes.proofs.writing.write_changes.Goals as goal

pub returns-clause-ok : goal.returns-clause-ok
returns-clause-ok c =
    let lawful : AreChanges (map behind c.in_ok-sorted.sorted.items) = sorted_lawful c.args.changes.now (map behind c.in_ok-sorted.sorted.items) c.requires (subst (λ (l : List Change). IsSortedAs l (map behind c.in_ok-sorted.sorted.items)) (c.as_slice.ensures ∙ c.changes.view_is) c.in_ok-sorted.ensures) in
    search rules
