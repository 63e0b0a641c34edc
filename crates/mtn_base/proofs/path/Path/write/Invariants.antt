use Rattle.std.proofs.Common.{◌≡◌, ◌++◌, take}
use Rattle.mtn_base.specs.Comps.{AreComps}
use Rattle.mtn_base.specs.Paths.{path_text}
use Rattle.mtn_base.proofs.path.Path.write.Given as goal

abbrev pub invariant-loop-place : goal.invariant-loop-place
invariant-loop-place l = record {
  written : l.out.items ≡ l.fn.out.items ++ path_text (take l.place l.self);
  lawful : AreComps (take l.place l.self);
}
