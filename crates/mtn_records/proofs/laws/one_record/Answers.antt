use Rattle.mtn_records.specs.RecordsApart.{roster_apart, log_apart}
use Rattle.mtn_records.proofs.laws.one_record.Goals as goal

pub returns-clause-rosters : goal.returns-clause-rosters
returns-clause-rosters c v w r s fv fw e = roster_apart v w r s fv fw e

pub returns-clause-logs : goal.returns-clause-logs
returns-clause-logs c v w r s fv fw e = log_apart v w r s fv fw e
