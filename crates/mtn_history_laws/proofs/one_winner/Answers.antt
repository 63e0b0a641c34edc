use Rattle.mtn_mark_laws.proofs.Winning.{one_value}
use Rattle.mtn_history_laws.specs.History.{parents_at}
use Rattle.mtn_history_laws.specs.Scalars.{Value, value_at}
use Rattle.mtn_history_laws.proofs.Telling.{tell_value}
use Rattle.mtn_history_laws.proofs.Scalars.{never_back}
use Rattle.mtn_history_laws.proofs.one_winner.Goals as goal

pub returns : goal.returns
returns c log grown s a b v w ea eb ab ba =
    one_value Value tell_value (parents_at log) grown.earlier (value_at log s) (never_back log grown s) a b v w ea eb ab ba
