use Rattle.mtn_old_stores.proofs.Bare.{one_way}
use Rattle.mtn_old_stores.proofs.One.{one_old_state}
use Rattle.mtn_old_stores.proofs.one_state.Goals as goal

pub returns-clause-one : goal.returns-clause-one
returns-clause-one c = one_old_state c.one_state.ensures.one

pub returns-clause-one_way : goal.returns-clause-one_way
returns-clause-one_way c = one_way
