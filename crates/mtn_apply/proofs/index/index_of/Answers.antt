-- One change before those that are noted, and at last all are.
use Rattle.std.proofs.Common.{◌≡◌, ◌-◌, ◌+◌, ℕ, List, Some, slice_get, sym, ◌∙◌, ap, subst, arith}
use Rattle.std.proofs.lemmas.Option.{slice_get-get_or}
use Rattle.mtn_roster.specs.Tree.{Tree}
use Rattle.mtn_changes.specs.declared.change.Change.{Change}
use Rattle.mtn_changeset_laws.specs.Laws.{IsOldTree}
use Rattle.mtn_apply.specs.declared.index.Index.{Index}
use Rattle.mtn_apply.specs.Old.{tree_in}
use Rattle.mtn_apply.specs.Index.{IsIndex, IsIndexFrom}
use Rattle.mtn_apply.proofs.index.index_of.Goals as goal

whole : (old : Tree) (all : List Change) (index : Index) → IsOldTree old → IsIndexFrom old all 0 index → IsIndex old all index
whole old all index sane h = record { sane = sane; targets = h.targets; deleted = h.deleted; moved = h.moved }

pub loop-left-init : goal.loop-left-init
loop-left-init c = c.in_ok-index.ensures (tree_in c.args.old) c.args.all.now (sym c.old_len-nodes.ensures.count)

pub note_change-requires-clause-deleted : goal.note_change-requires-clause-deleted
note_change-requires-clause-deleted c = c.loop-left.invariant.deleted_long

pub note_change-requires-clause-moved : goal.note_change-requires-clause-moved
note_change-requires-clause-moved c = c.loop-left.invariant.moved_long

pub loop-left-preserved : goal.loop-left-preserved
loop-left-preserved c =
    let t = tree_in c.args.old in
    let all = c.args.all.now in
    let k = c.loop-left.left - 1 in
    let x = c.index-all-left.result in
    let held : slice_get all k ≡ Some x = slice_get-get_or all k x (omega (arith, c.loop-left.invariant.within)) ∙ ap Some (sym c.index-all-left.is) in
    let next : c.loop-left.left ≡ k + 1 = omega arith in
    c.in_ok-note_change.ensures all held (subst (λ (n : ℕ). IsIndexFrom t all n c.loop-left.index) next c.loop-left.invariant)

pub returns : goal.returns
returns c =
    let none : c.loop-left.left ≡ 0 = omega arith in
    whole (tree_in c.args.old) c.args.all.now c.loop-left.index c.old_len-nodes.ensures.sane (subst (λ (n : ℕ). IsIndexFrom (tree_in c.args.old) c.args.all.now n c.loop-left.index) none c.loop-left.invariant)
