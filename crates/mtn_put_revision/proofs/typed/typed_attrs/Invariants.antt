use Rattle.std.proofs.Common.{◌<◌, ℕ, slice_index_or}
use Rattle.mtn_records.specs.declared.entry.NumberedAttr.{NumberedAttr}
use Rattle.mtn_put_revision.specs.Writing.{IsTypedAttr}
use Rattle.mtn_put_revision.proofs.typed.typed_attrs.Given as goal

-- each before this one is
abbrev pub invariant-loop-attr : goal.invariant-loop-attr
invariant-loop-attr l = (j : ℕ) (d : NumberedAttr) → j < l.attr-index → IsTypedAttr (slice_index_or l.attrs j d)
