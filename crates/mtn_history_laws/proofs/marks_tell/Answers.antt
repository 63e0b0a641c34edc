use Rattle.mtn_mark_laws.proofs.Covering.{wins_by_marks, marks_by_wins}
use Rattle.mtn_history_laws.specs.History.{parents_at}
use Rattle.mtn_history_laws.specs.Scalars.{Value, value_at}
use Rattle.mtn_history_laws.proofs.Telling.{tell_value}
use Rattle.mtn_history_laws.proofs.Scalars.{never_back}
use Rattle.mtn_history_laws.proofs.marks_tell.Goals as goal

pub returns : goal.returns
returns c log grown s a b v e = (
  wins_by_marks Value tell_value (parents_at log) grown.earlier (value_at log s) (never_back log grown s) a b v e,
  marks_by_wins Value tell_value (parents_at log) grown.earlier (value_at log s) (never_back log grown s) a b,
)
