use Rattle.mtn_old_stores.proofs.Migration as laws
use Rattle.mtn_old_stores.proofs.one_store.Goals as goal

pub returns : goal.returns
returns c = laws.one_store c.one_state.ensures.one c.one_state-2.ensures.one c.one_state-2.ensures.one_way
