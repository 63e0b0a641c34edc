use Rattle.std.specs.List.{flat_map}
use Rattle.std.proofs.Common.{◌≡◌, take}
use Rattle.mtn_step.specs.Step.{line_text}
use Rattle.mtn_commands.proofs.ask.graph_text.Given as goal

abbrev pub invariant-loop-line : goal.invariant-loop-line
invariant-loop-line l = l.text.items ≡ flat_map line_text (take l.line-index l.lines)
