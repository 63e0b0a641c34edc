use Rattle.mtn_replay.proofs.Histories.{history_none, history_more, history_kept}
use Rattle.mtn_replay.proofs.history_grows.Goals as goal

pub returns-clause-nothing : goal.returns-clause-nothing
returns-clause-nothing c f files = history_none f files

pub returns-clause-next : goal.returns-clause-next
returns-clause-next c f files log h l v is next = history_more f files log h l v is next

pub returns-clause-files : goal.returns-clause-files
returns-clause-files c f files more log h keeps is = history_kept f files more log h keeps is
