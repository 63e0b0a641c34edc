use Rattle.mtn_keeper.proofs.MissingLemmas.{gets_none}
use Rattle.mtn_keeper.proofs.lazy.LazyKeeperKeeper.get.Goals as goal

pub returns-in_default-clause-found : goal.returns-in_default-clause-found
returns-in_default-clause-found g c = gets_none c.args.self.now.opened c.args.table c.args.key.now c.args.out.now.items
