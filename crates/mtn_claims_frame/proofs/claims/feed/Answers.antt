use Rattle.std.proofs.Common.{rules}
use Rattle.mtn_claims_frame.proofs.claims.feed.Goals as goal

pub returns-clause-all : goal.returns-clause-all
returns-clause-all g c = search rules

pub returns-clause-limit : goal.returns-clause-limit
returns-clause-limit g c = search rules

pub returns-clause-unread : goal.returns-clause-unread
returns-clause-unread g c = search rules

pub returns-clause-reads : goal.returns-clause-reads
returns-clause-reads g c = search rules

pub returns-clause-later : goal.returns-clause-later
returns-clause-later g c = search rules

pub returns-clause-failed : goal.returns-clause-failed
returns-clause-failed g c = search rules
