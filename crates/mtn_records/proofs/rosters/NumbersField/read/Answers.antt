-- The list that was read is the only one that can be there.
use Rattle.std.proofs.Common.{sym, ◌∙◌, subst}
use Rattle.std.specs.List.Sorted.{IsStrictlyIncreasing}
use Rattle.mtn_records.specs.Apart.{number_apart, list_apart}
use Rattle.mtn_records.specs.Fields.{number_text, IsNumber}
use Rattle.mtn_records.proofs.rosters.NumbersField.read.Goals as goal

pub returns-then-not-ascend-clause-bad : goal.returns-then-not-ascend-clause-bad
returns-then-not-ascend-clause-bad c is v r form e =
    let all = c.in_ok-list.ensures.ok in
    let same = list_apart number_text IsNumber number_apart c.in_ok-list.list v c.in_ok-list.rest.now r all.formed form.list (sym all.whole ∙ e) in
    let up = subst IsStrictlyIncreasing (sym (c.as_slice.ensures ∙ same.0)) form.ascending in
    absurd (cc (c.ascend.ensures.1 up, c.if-not-ascend.true))
