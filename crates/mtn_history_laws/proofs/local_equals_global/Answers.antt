use Rattle.mtn_history_laws.proofs.Scalars.{root_marked, one_marked, two_marked}
use Rattle.mtn_history_laws.proofs.local_equals_global.Goals as goal

pub returns-clause-root : goal.returns-clause-root
returns-clause-root c log new grown s v there none = root_marked log new grown s v there none

pub returns-clause-one : goal.returns-clause-one
returns-clause-one c log new grown s v there p one marks h = one_marked log new grown s v there p one marks h

pub returns-clause-two : goal.returns-clause-two
returns-clause-two c log new grown s v there p q both left right hl hr ol or ul ur =
    two_marked log new grown s v there p q both left right hl hr ol or ul ur
