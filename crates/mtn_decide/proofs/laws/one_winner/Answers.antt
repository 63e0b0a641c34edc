use Rattle.std.proofs.Common.{ℕ}
use Rattle.mtn_mark_laws.proofs.Winning.{one_value}
use Rattle.mtn_history_laws.specs.History.{parents_at}
use Rattle.mtn_history_laws.specs.Scalars.{Value, value_at}
use Rattle.mtn_history_laws.proofs.Telling.{tell_value}
use Rattle.mtn_history_laws.proofs.Scalars.{never_back}
use Rattle.mtn_decide.proofs.ByGraph.{known_wins}
use Rattle.mtn_decide.proofs.laws.one_winner.Goals as goal

pub returns-clause-graph : goal.returns-clause-graph
returns-clause-graph c log grown s a b v w ea eb ab ba =
    one_value Value tell_value (parents_at log) grown.earlier (value_at log s) (never_back log grown s) a b v w ea eb ab ba

pub returns-clause-sets : goal.returns-clause-sets
returns-clause-sets c log grown s a b v w left right only_left only_right ea eb la rb ul ur kr kl =
    one_value Value tell_value (parents_at log) grown.earlier (value_at log s) (never_back log grown s) a b v w ea eb
    ((known_wins log grown s a b w eb right only_right rb.1 ur).0 kr) ((known_wins log grown s b a v ea left only_left la.1 ul).0 kl)
