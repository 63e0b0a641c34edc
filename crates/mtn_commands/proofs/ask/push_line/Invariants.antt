use Rattle.std.specs.List.{flat_map}
use Rattle.std.proofs.Common.{◌≡◌, ◌++◌, ◌∷◌, take}
use Rattle.hex.specs.Hex.{encode_lower}
use Rattle.mtn_base.specs.declared.id.Id.{Id}
use Rattle.mtn_commands.proofs.ask.push_line.Given as goal

abbrev pub invariant-loop-parent : goal.invariant-loop-parent
invariant-loop-parent l = l.text.items ≡ l.fn.text.items ++ encode_lower l.line.id.0 ++ flat_map (λ (parent : Id). 32 ∷ encode_lower parent.0) (take l.parent-index l.parent-items)
