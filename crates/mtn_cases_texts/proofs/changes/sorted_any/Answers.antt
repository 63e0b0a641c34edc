use Rattle.std.proofs.lemmas.Result.{IfOk-weaker}
use Rattle.mtn_changes.proofs.Unsorted.{unsorted}
use Rattle.mtn_cases_texts.proofs.changes.sorted_any.Goals as goal

pub returns : goal.returns
returns c = IfOk-weaker c.sorted_changes.result _ _ (λ changes is. unsorted changes is) c.sorted_changes.ensures.lawful
