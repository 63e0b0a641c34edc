use Rattle.mtn_check_laws.proofs.Due.{one_due, due_sets, front_sets}
use Rattle.mtn_check_laws.proofs.laws.one_due.Goals as goal

pub returns-clause-one : goal.returns-clause-one
returns-clause-one c ks parents k x y a b = one_due ks parents k x y a b

pub returns-clause-sets : goal.returns-clause-sets
returns-clause-sets c ks parents k x all is formed = due_sets ks parents k x all is formed

pub returns-clause-front : goal.returns-clause-front
returns-clause-front c f contents r front walked q k at = front_sets f contents r front walked q k at
