-- Part by part: what a part is read from is what the one before left.
use Rattle.std.proofs.Common.{◌≡◌, ◌∙◌, subst, [], rules}
use Rattle.mtn_records.specs.declared.entry.NumberedEntry.{NumberedEntry}
use Rattle.mtn_records.specs.Entries.{KeysAscend}
use Rattle.mtn_records.proofs.Entering.{none_by_head, none_by_contents, none_by_form, begins}
use Rattle.mtn_records.proofs.entries.NumberedEntryField.read.Goals as goal

pub returns-in_err-head-clause-bad : goal.returns-in_err-head-clause-bad
returns-in_err-head-clause-bad c is = none_by_head c.args.bytes.now (c.in_err-head.ensures.bad (search rules))

pub returns-in_err-contents-clause-bad : goal.returns-in_err-contents-clause-bad
returns-in_err-contents-clause-bad c is = none_by_contents c.args.bytes.now c.in_ok-head.rest.now c.in_ok-head.head c.in_ok-head.ensures.ok (c.in_err-contents.ensures.bad (search rules))

pub returns-in_err-entry-clause-bad : goal.returns-in_err-entry-clause-bad
returns-in_err-entry-clause-bad c is =
    none_by_form c.args.bytes.now c.in_ok-head.rest.now c.in_ok-head.head c.in_ok-head.ensures.ok c.in_ok-contents.contents c.in_ok-contents.rest.now c.in_ok-contents.ensures.ok
    (λ entry. c.in_err-entry.ensures.bad (rw c.with_parts.ensures (entry.root, entry.keys)))

pub returns-clause-ok : goal.returns-clause-ok
returns-clause-ok c =
    let entry = c.in_ok-entry.ensures.ok in
    let is = entry.0 ∙ c.with_parts.ensures in
    let sound = subst (λ (e : NumberedEntry). (e.parent ≡ 0 → e.name ≡ []) × KeysAscend e.attrs) is entry.1 in
    rw is (begins c.args.bytes.now c.in_ok-head.rest.now c.in_ok-head.head c.in_ok-head.ensures.ok c.in_ok-contents.contents c.in_ok-contents.rest.now c.in_ok-contents.ensures.ok sound.0 sound.1)
