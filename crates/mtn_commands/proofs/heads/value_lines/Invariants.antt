use Rattle.std.proofs.Common.{◌≡◌, take}
use Rattle.mtn_step.specs.Certifying.{value_lines}
use Rattle.mtn_commands.proofs.heads.value_lines.Given as goal

abbrev pub invariant-loop-value : goal.invariant-loop-value
invariant-loop-value l = l.text.items ≡ value_lines (take l.value-index l.values)
