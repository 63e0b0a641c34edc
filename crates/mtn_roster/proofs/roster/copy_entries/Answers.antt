-- One more copy each time.
use Rattle.std.proofs.Common.{◌∙◌}
use Rattle.std.proofs.lemmas.List.{take_all}
use Rattle.mtn_roster.proofs.Reading.{copied_more}
use Rattle.mtn_roster.proofs.roster.copy_entries.Goals as goal

pub loop-entry-preserved : goal.loop-entry-preserved
loop-entry-preserved c =
    copied_more c.args.entries.now c.loop-entry.copies.items c.push.new.self.items c.loop-entry.entry-index c.entry-item.result c.in_ok-copy.field-0
    c.loop-entry-test.true c.entry-item.is c.in_ok-copy.ensures c.loop-entry.invariant c.in_ok-push.ensures.items

pub returns : goal.returns
returns c = c.loop-entry.invariant ∙ take_all c.loop-entry.entry-index c.args.entries.now c.loop-entry-test.false
