use Rattle.std.proofs.lemmas.Result.{IfOk-weaker}
use Rattle.mtn_changes.proofs.Unsorted.{unsorted}
use Rattle.mtn_cases_texts.proofs.changes.read_any.Goals as goal

pub returns : goal.returns
returns c = IfOk-weaker c.read_changes.result _ _ (λ changes is. unsorted changes is.lawful) c.read_changes.ensures.ok
