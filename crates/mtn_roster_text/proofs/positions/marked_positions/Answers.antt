-- Sorted, and each once.
use Rattle.std.proofs.Common.{◌≡◌, ℕ, List, true, map, sym, ap, ◌∙◌, subst}
use Rattle.std.specs.Prelude.{Contains}
use Rattle.mtn_base.specs.Names.{name_cmp}
use Rattle.mtn_marking.specs.Marking.{Marks}
use Rattle.mtn_marking.proofs.ByName.{name_of}
use Rattle.mtn_roster.specs.Tree.{IsSane}
use Rattle.mtn_base.specs.Lists.{rises}
use Rattle.mtn_roster_text.specs.Positions.{all_positions}
use Rattle.mtn_roster_text.proofs.AllMarks.{all_marks, once_each}
use Rattle.mtn_roster_text.proofs.positions.marked_positions.Goals as goal

pub returns-clause-ascending : goal.returns-clause-ascending
returns-clause-ascending c = (once_each _ _ _ c.sort_unstable.ensures.permutation c.sort_unstable.ensures.sorted c.dedup.ensures.filtered).0

pub returns-clause-exact : goal.returns-clause-exact
returns-clause-exact c = λ x.
    let t = c.args.roster.now in
    let once = (once_each _ _ _ c.sort_unstable.ensures.permutation c.sort_unstable.ensures.sorted c.dedup.ensures.filtered).1 x in
    let is : c.in_ok-found.found.items ≡ all_positions t.marks = c.in_ok-found.ensures ∙ ap all_positions c.marks-2.ensures in
    let all = all_marks t.tree t.marks (subst IsSane c.roster.ensures.tree c.len-nodes.ensures.sane) c.roster.ensures.fits (subst (λ (ms : Marks). rises name_cmp (map name_of ms) ≡ true) c.marks.ensures c.len-marked.ensures.rising) x in (
      λ k. all.0 (subst (λ (l : List ℕ). Contains l x) is (once.0 k)),
      λ k. once.1 (subst (λ (l : List ℕ). Contains l x) (sym is) (all.1 k)),
    )
