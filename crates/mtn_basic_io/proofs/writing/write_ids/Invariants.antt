use Rattle.std.proofs.Common.{◌≡◌, ◌++◌, take, map, Some}
use Rattle.std.specs.List.{flat_map}
use Rattle.mtn_base.specs.declared.id.Id.{Id}
use Rattle.mtn_basic_io.specs.Spelling.{spaced}
use Rattle.mtn_basic_io.specs.declared.stanza.Value.TheVariants.{Hex}
use Rattle.mtn_basic_io.proofs.writing.write_ids.Given as goal

abbrev pub invariant-loop-id : goal.invariant-loop-id
invariant-loop-id l = l.out.items ≡ l.fn.out.items ++ flat_map spaced (map (λ (i : Id). Hex (Some i)) (take l.id-index l.ids))
