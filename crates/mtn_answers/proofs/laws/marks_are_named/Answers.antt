use Rattle.mtn_history_laws.specs.History.{parents_at}
use Rattle.mtn_history_laws.specs.Scalars.{Value, value_at}
use Rattle.mtn_history_laws.proofs.Scalars.{never_back}
use Rattle.mtn_history_laws.proofs.Telling.{tell_value}
use Rattle.mtn_mark_laws.proofs.Covering.{covers}
use Rattle.mtn_answers.proofs.Marks.{mark_placed}
use Rattle.mtn_answers.proofs.laws.marks_are_named.Goals as goal

pub returns : goal.returns
returns c h grown s r v e ids are =
    let mark = (covers Value tell_value (parents_at h) grown.earlier (value_at h s) (never_back h grown s) r v e).0 in
    let id = mark_placed h s r mark.0 mark.1 in
    (id.0, (are.exact id.0).1 (mark.0, id.1, mark.1))
