use Rattle.std.proofs.Common.{◌≡◌, ◌+◌, ◌/◌, ℕ, sym, subst}
use Rattle.mtn_generated.specs.Numbered.{files_to}
use Rattle.mtn_generating.proofs.NameLemmas.{files_with, files_without}
use Rattle.mtn_generating.proofs.summary.files.Goals as goal
use Rattle.mtn_generating.proofs.summary.files.Goals.{then-count-ge2, else-count-ge2}

pub returns : goal.returns
returns c = elim c.if-count-ge2.branch [
  | then-count-ge2 w ↦ subst (λ (k : ℕ). 10 + c.args.count / 4 + k ≡ files_to c.args.count) (sym w.patched-is) (files_with c.args.count c.if-count-eq0.false w.if-count-ge2.true)
  | else-count-ge2 w ↦ subst (λ (k : ℕ). 10 + c.args.count / 4 + k ≡ files_to c.args.count) (sym w.patched-is) (files_without c.args.count c.if-count-eq0.false w.if-count-ge2.false)
]
