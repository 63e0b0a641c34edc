-- What was read is the only record that can be there.
use Rattle.std.proofs.Common.{sym, subst, rules}
use Rattle.mtn_records.specs.Bounds.{IsWithin}
use Rattle.mtn_records.specs.Records.{roster_text, IsRosterRecord}
use Rattle.mtn_records.specs.RecordsApart.{roster_apart}
use Rattle.mtn_records.proofs.Recording.{none_spells, only_spells, not_empty}
use Rattle.mtn_records.proofs.rosters.read_roster.Goals as goal
use Rattle.mtn_records.proofs.rosters.read_roster.Goals.{then-not-is_empty-via-then-not-is_empty, then-not-is_empty-via-else-not-is_empty+then-not-is_within}

pub returns-in_err-roster-clause-bad : goal.returns-in_err-roster-clause-bad
returns-in_err-roster-clause-bad c is v there = none_spells roster_text IsRosterRecord c.args.body.now (c.in_err-roster.ensures.bad (search rules)) v there.formed there.whole

pub returns-then-not-is_empty-clause-bad : goal.returns-then-not-is_empty-clause-bad
returns-then-not-is_empty-clause-bad c is v there =
    let same = only_spells roster_text IsRosterRecord c.args.body.now roster_apart c.in_ok-roster.rest.now c.in_ok-roster.roster c.in_ok-roster.ensures.ok v there.formed there.whole in
    elim c.then-not-is_empty.branch [
      | then-not-is_empty-via-then-not-is_empty w ↦ not_empty c.in_ok-roster.rest.now c.is_empty.result c.is_empty.ensures w.if-not-is_empty.true same.1
      | then-not-is_empty-via-else-not-is_empty+then-not-is_within w ↦
          let within = w.is_within.ensures.1 (subst (IsWithin c.args.at) (sym same.0) there.within) in
          absurd (cc (within, w.if-not-is_within.true))
    ]

pub returns-clause-only : goal.returns-clause-only
returns-clause-only c other there =
    sym (only_spells roster_text IsRosterRecord c.args.body.now roster_apart c.in_ok-roster.rest.now c.in_ok-roster.roster c.in_ok-roster.ensures.ok other there.formed there.whole).0
