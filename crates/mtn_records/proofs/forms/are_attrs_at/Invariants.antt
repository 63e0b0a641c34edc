use Rattle.std.proofs.Common.{◌<◌, ℕ, slice_index_or}
use Rattle.mtn_records.specs.declared.entry.NumberedAttr.{NumberedAttr}
use Rattle.mtn_records.specs.Bounds.{IsAttrWithin}
use Rattle.mtn_records.specs.Entries.{IsAttr}
use Rattle.mtn_records.proofs.forms.are_attrs_at.Given as goal

-- each before this one is
abbrev pub invariant-loop-attr : goal.invariant-loop-attr
invariant-loop-attr l = (j : ℕ) (d : NumberedAttr) → j < l.attr-index → IsAttr (slice_index_or l.attrs j d) × IsAttrWithin l.at (slice_index_or l.attrs j d)
