use Rattle.std.proofs.Common.{◌≡◌, map, take}
use Rattle.mtn_generated.specs.Numbered.{file_text as text_in}
use Rattle.mtn_generating.proofs.files.first_texts.Given as goal

abbrev pub invariant-loop-file : goal.invariant-loop-file
invariant-loop-file l = l.texts.items ≡ map (λ j. text_in j 0) (take l.file-index l.files)
