use Rattle.std.proofs.Common.{◌≡◌, ◌++◌, take}
use Rattle.std.specs.List.{flat_map}
use Rattle.mtn_base.specs.declared.name.NodeName.{NodeName}
use Rattle.mtn_base.specs.Front.{IsFront}
use Rattle.mtn_basic_io.specs.Spelling.{line_text}
use Rattle.mtn_roster_text.specs.Naming.{ids_by}
use Rattle.mtn_roster_text.specs.RosterText.{attr_lines}
use Rattle.mtn_roster_text.proofs.printing.write_attrs.Given as goal

abbrev pub invariant-loop-attr : goal.invariant-loop-attr
invariant-loop-attr l =
    ((n : NodeName) → l.out.items ≡ l.fn.out.items ++ flat_map (line_text l.column) (flat_map (attr_lines (ids_by l.table l.marking) n) (take l.attr-index l.attrs)))
    × IsFront l.fn.out.items l.out.items
