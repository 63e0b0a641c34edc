-- The list that was read is the only one that can be there.
use Rattle.std.proofs.Common.{sym, ◌∙◌, subst}
use Rattle.mtn_records.specs.Apart.{list_apart}
use Rattle.mtn_records.specs.Entries.{entry_text, IsEntry, NumbersAscend}
use Rattle.mtn_records.specs.EntriesApart.{entry_apart}
use Rattle.mtn_records.proofs.entries.NumberedField.read.Goals as goal

pub returns-then-not-numbers_ascend-clause-bad : goal.returns-then-not-numbers_ascend-clause-bad
returns-then-not-numbers_ascend-clause-bad c is v r form e =
    let all = c.in_ok-entries.ensures.ok in
    let same = list_apart entry_text IsEntry entry_apart c.in_ok-entries.entries v c.in_ok-entries.rest.now r all.formed form.list (sym all.whole ∙ e) in
    let up = subst NumbersAscend (sym (c.as_slice.ensures ∙ same.0)) form.ascending in
    absurd (cc (c.numbers_ascend.ensures.1 up, c.if-not-numbers_ascend.true))
