use Rattle.std.proofs.Common.{◌≡◌, ◌++◌, vec_len}
use Rattle.mtn_apply.specs.Edits.{attrs_in}
use Rattle.mtn_apply.proofs.draft.by_keys.Given as goal

abbrev pub invariant-loop-attr : goal.invariant-loop-attr
invariant-loop-attr l = l.attrs.items ++ attrs_in l.map ≡ l.fn.attrs.items

abbrev pub decreases-loop-attr : goal.decreases-loop-attr
decreases-loop-attr l = vec_len l.attrs
