use Rattle.std.proofs.Common.{rules}
use Rattle.mtn_claims_store.proofs.run.others.run.Goals as goal

pub returns-clause-written : goal.returns-clause-written
returns-clause-written g c = search rules

pub returns-clause-complete : goal.returns-clause-complete
returns-clause-complete g c = search rules

pub returns-clause-checks : goal.returns-clause-checks
returns-clause-checks g c = search rules

pub returns-clause-few_reads : goal.returns-clause-few_reads
returns-clause-few_reads g c = search rules

pub returns-clause-order_free : goal.returns-clause-order_free
returns-clause-order_free g c = search rules

pub returns-clause-merges_heads : goal.returns-clause-merges_heads
returns-clause-merges_heads g c = search rules
