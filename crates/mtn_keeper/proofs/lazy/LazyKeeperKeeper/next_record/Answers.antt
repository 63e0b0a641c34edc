use Rattle.mtn_keeper.proofs.MissingLemmas.{steps_none, keyed_none}
use Rattle.mtn_keeper.proofs.lazy.LazyKeeperKeeper.next_record.Goals as goal

pub returns-in_default-clause-found : goal.returns-in_default-clause-found
returns-in_default-clause-found g c = steps_none c.args.self.now.opened c.args.table c.args.after.now c.args.key.now.items

pub returns-in_default-clause-keyed : goal.returns-in_default-clause-keyed
returns-in_default-clause-keyed g c = keyed_none c.args.self.now.opened
