use Rattle.std.proofs.Common.{ℕ, ◌<◌}
use Rattle.mtn_marking.specs.Parts.{IsForAt}
use Rattle.mtn_marking.proofs.fits.are_for.Given as goal

abbrev pub invariant-loop-place : goal.invariant-loop-place
invariant-loop-place l = (k : ℕ) → k < l.place → IsForAt l.roster l.marks k
