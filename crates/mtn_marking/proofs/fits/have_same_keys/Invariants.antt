use Rattle.std.proofs.Common.{◌≡◌, map, take}
use Rattle.mtn_roster.specs.declared.entry.Attr.{Attr}
use Rattle.mtn_marking.specs.declared.node.AttrMarks.{AttrMarks}
use Rattle.mtn_marking.proofs.fits.have_same_keys.Given as goal

abbrev pub invariant-loop-place : goal.invariant-loop-place
invariant-loop-place l = map (λ (a : AttrMarks). a.key) (take l.place l.marks) ≡ map (λ (a : Attr). a.key) (take l.place l.attrs)
