-- The closure compares the keys.
use Rattle.std.proofs.Common.{Bool, rules}
use Rattle.std.specs.Ordering.{is_lt}
use Rattle.std.proofs.lemmas.Fn.{always_returns_same}
use Rattle.mtn_base.specs.Names.{bytes_cmp}
use Rattle.mtn_records.specs.declared.entry.NumberedAttr.{NumberedAttr}
use Rattle.mtn_base.proofs.Orders.{bytes_total}
use Rattle.mtn_roster_deltas.specs.Parts.{numbered_key}
use Rattle.mtn_roster_deltas.proofs.Ascending.{rise_told}
use Rattle.mtn_roster_deltas.proofs.spell.keys_ascend.Goals as goal

abbrev lower : NumberedAttr → NumberedAttr → Bool
lower x y = is_lt (bytes_cmp x.key y.key)

pub returns : goal.returns
returns c = rise_told bytes_cmp bytes_total numbered_key c.args.attrs.now c.is_sorted_by.result (c.is_sorted_by.ensures.cases lower (always_returns_same _ _ _ (λ a r g called. (search rules, search rules))))
