-- The closure compares the names.
use Rattle.std.proofs.Common.{rules}
use Rattle.std.proofs.lemmas.Fn.{always_returns_same}
use Rattle.std.specs.Ordering.{is_lt}
use Rattle.mtn_base.specs.Names.{name_cmp}
use Rattle.mtn_roster.specs.declared.entry.Entry.{Entry}
use Rattle.mtn_roster.proofs.build.names_ascend.Goals as goal

pub returns : goal.returns
returns c = c.is_sorted_by.ensures.cases (λ (x : Entry) (y : Entry). is_lt (name_cmp x.name y.name)) (always_returns_same _ _ _ (λ a r g called. (search rules, search rules)))
