use Rattle.std.proofs.Common.{◌≡◌, ◌++◌, take}
use Rattle.std.specs.Prelude.{filter_map}
use Rattle.std.specs.List.{flat_map}
use Rattle.mtn_basic_io.specs.Spelling.{line_text}
use Rattle.mtn_base.specs.Front.{IsFront}
use Rattle.mtn_manifest.specs.Manifest.{attr_line}
use Rattle.mtn_manifest.proofs.printing.write_attrs.Given as goal

abbrev pub invariant-loop-attr : goal.invariant-loop-attr
invariant-loop-attr l =
    (l.out.items ≡ l.fn.out.items ++ flat_map (line_text l.column) (filter_map attr_line (take l.attr-index l.attrs)))
    × IsFront l.fn.out.items l.out.items
