use Rattle.mtn_roster_deltas.proofs.Written.{whole_again, delta_again}
use Rattle.mtn_roster_deltas.proofs.laws.written_again.Goals as goal

pub returns-clause-whole : goal.returns-clause-whole
returns-clause-whole c at body known next t es r numbering written read = whole_again at body es t r numbering.spells written read

pub returns-clause-delta : goal.returns-clause-delta
returns-clause-delta c at body known next t es r chain base changed gone base_at numbering le built differ written read =
    delta_again at body chain base es changed gone base_at t r le built numbering.spells differ written read
