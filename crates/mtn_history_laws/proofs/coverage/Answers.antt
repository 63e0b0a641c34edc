use Rattle.mtn_mark_laws.proofs.Covering.{covers}
use Rattle.mtn_history_laws.specs.History.{parents_at}
use Rattle.mtn_history_laws.specs.Scalars.{Value, value_at}
use Rattle.mtn_history_laws.proofs.Telling.{tell_value}
use Rattle.mtn_history_laws.proofs.Scalars.{never_back}
use Rattle.mtn_history_laws.proofs.coverage.Goals as goal

pub returns-clause-some : goal.returns-clause-some
returns-clause-some c log grown s r v e =
    (covers Value tell_value (parents_at log) grown.earlier (value_at log s) (never_back log grown s) r v e).0

pub returns-clause-covered : goal.returns-clause-covered
returns-clause-covered c log grown s r m v e a k =
    (covers Value tell_value (parents_at log) grown.earlier (value_at log s) (never_back log grown s) r v e).1 m a k
