-- The closure compares the slots.
use Rattle.std.proofs.Common.{rules}
use Rattle.std.proofs.lemmas.Fn.{always_returns_same}
use Rattle.std.specs.Ordering.{is_lt}
use Rattle.mtn_roster.specs.Index.{slot_cmp, slot_in}
use Rattle.mtn_roster.proofs.index.slots_ascend.Goals as goal

pub returns : goal.returns
returns c =
    let t = c.args.entries.now in
    c.is_sorted_by.ensures.cases (λ x y. is_lt (slot_cmp (slot_in t x) (slot_in t y))) (always_returns_same _ _ _ (λ a r g called. (let u = c.requires.ups in let v = c.requires.rising in search rules, search rules)))
