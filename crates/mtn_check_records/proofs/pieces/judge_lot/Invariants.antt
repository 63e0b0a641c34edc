use Rattle.std.proofs.Common.{◌≡◌, length}
use Rattle.mtn_check_records.proofs.Answers.{AnsweredTo}
use Rattle.mtn_check_records.proofs.pieces.judge_lot.Given as goal

abbrev pub invariant-loop-place : goal.invariant-loop-place
invariant-loop-place g l = record {
  long : length l.answers.items ≡ l.place;
  answered : AnsweredTo (g.I.Ident.meaning l.ident) l.positions l.jobs l.answers.items l.place;
}
