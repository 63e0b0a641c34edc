use Rattle.std.proofs.Math.Decide.{ℕ_discrete}
use Rattle.std.proofs.Common.{ℕ}
use Rattle.mtn_mark_laws.proofs.Extending.{root_extended, one_extended, two_extended}
use Rattle.mtn_mark_laws.proofs.local_equals_global.Goals as goal

pub returns-clause-root : goal.returns-clause-root
returns-clause-root c log e v g there none = root_extended ℕ ℕ_discrete log e g.earlier g.never v there none

pub returns-clause-one : goal.returns-clause-one
returns-clause-one c log e v g there p l one h = one_extended ℕ ℕ_discrete log e g.earlier g.never v there p one l h

pub returns-clause-two : goal.returns-clause-two
returns-clause-two c log e v g there p q l r both hp hq only_left only_right ul ur =
    two_extended ℕ ℕ_discrete log e g.earlier g.never v there p q both l r hp hq only_left only_right ul ur
