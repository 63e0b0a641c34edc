use Rattle.std.proofs.Common.{◌≡◌, take}
use Rattle.mtn_step.specs.Step.{id_lines}
use Rattle.mtn_commands.proofs.ask.id_lines.Given as goal

abbrev pub invariant-loop-id : goal.invariant-loop-id
invariant-loop-id l = l.text.items ≡ id_lines (take l.id-index l.ids)
