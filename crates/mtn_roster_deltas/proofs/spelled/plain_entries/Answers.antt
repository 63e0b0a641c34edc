-- One entry more each time; where one has none, no tree has one.
use Rattle.std.proofs.Common.{Bor, rules}
use Rattle.mtn_marking.proofs.Zips.{zip_next}
use Rattle.mtn_records.specs.declared.entry.NumberedEntry.{NumberedEntry}
use Rattle.mtn_roster_deltas.specs.Parts.{IsKeyedEntryOf}
use Rattle.mtn_roster_deltas.proofs.Spelling.{zip_at}
use Rattle.mtn_roster_deltas.proofs.spelled.plain_entries.Goals as goal

pub loop-entry-preserved : goal.loop-entry-preserved
loop-entry-preserved c =
    zip_next (λ (b : Bor NumberedEntry). IsKeyedEntryOf c.args.entries.now b.now) c.args.sorted.now c.loop-entry.plain.items c.push.new.self.items c.loop-entry.entry-index c.entry-item.result c.in_ok-plain_entry.field-0
    c.loop-entry-test.true c.entry-item.is c.loop-entry.invariant c.in_ok-plain_entry.ensures.ok c.in_ok-push.ensures.items

pub returns-in_err-plain_entry-clause-bad : goal.returns-in_err-plain_entry-clause-bad
returns-in_err-plain_entry-clause-bad c = λ h t z.
    let n = zip_at (λ (b : Bor NumberedEntry). IsKeyedEntryOf c.args.entries.now b.now) c.args.sorted.now t c.loop-entry.entry-index c.entry-item.result z c.loop-entry-test.true c.entry-item.is in
    c.in_err-plain_entry.ensures.bad (search rules) n.0 n.1
