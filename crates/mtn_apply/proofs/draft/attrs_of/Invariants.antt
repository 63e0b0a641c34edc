use Rattle.std.proofs.Common.{◌≡◌, ◌++◌, map}
use Rattle.mtn_apply.specs.Edits.{attrs_in, attr_at}
use Rattle.mtn_apply.proofs.draft.attrs_of.Given as goal

abbrev pub invariant-loop-key : goal.invariant-loop-key
invariant-loop-key l = l.attrs.items ++ map attr_at l.key-iterator ≡ attrs_in l.fn.map
