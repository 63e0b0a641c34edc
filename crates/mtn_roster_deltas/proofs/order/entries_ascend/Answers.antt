-- The closure compares the numbers.
use Rattle.std.proofs.Common.{Bool, nat_lt, rules}
use Rattle.std.proofs.lemmas.Fn.{always_returns_same}
use Rattle.mtn_records.specs.declared.entry.NumberedEntry.{NumberedEntry}
use Rattle.mtn_roster_deltas.specs.Chain.{number_of}
use Rattle.mtn_roster_deltas.proofs.Ascending.{up_told}
use Rattle.mtn_roster_deltas.proofs.order.entries_ascend.Goals as goal

abbrev lower : NumberedEntry → NumberedEntry → Bool
lower x y = nat_lt x.number y.number

pub returns : goal.returns
returns c = up_told number_of c.args.entries.now c.is_sorted_by.result (c.is_sorted_by.ensures.cases lower (always_returns_same _ _ _ (λ a r g called. (search rules, search rules))))
