use Rattle.mtn_history.proofs.Knowing.{noted_by}
use Rattle.mtn_history.proofs.cache.Cache.add_log.Goals as goal

pub returns-clause-log : goal.returns-clause-log
returns-clause-log c = noted_by c.args.self.now.log c.insert.new.self c.args.at c.args.log.now c.insert.result c.insert.ensures.updates c.insert.ensures.err
