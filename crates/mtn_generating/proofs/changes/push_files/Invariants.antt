use Rattle.std.proofs.Common.{◌≡◌, ◌++◌, map, take}
use Rattle.mtn_changes.specs.declared.change.Change.TheVariants.{AddFile}
use Rattle.mtn_generated.specs.Numbered.{content_of, path_at}
use Rattle.mtn_generating.proofs.changes.push_files.Given as goal

abbrev pub invariant-loop-file : goal.invariant-loop-file
invariant-loop-file g l = l.changes.items ≡ l.fn.changes.items ++ map (λ j. AddFile (path_at l.revision j) (content_of (g.I.Ident.meaning l.ident) j 0)) (take l.file-index l.files)
