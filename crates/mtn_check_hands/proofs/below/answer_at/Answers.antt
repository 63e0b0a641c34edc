use Rattle.std.proofs.Common.{rules}
use Rattle.mtn_check_log.proofs.Counting.{told_end}
use Rattle.mtn_check_hands.proofs.Answering.{below_front_at}
use Rattle.mtn_check_hands.proofs.below.answer_at.Goals as goal

pub returns-clause-found : goal.returns-clause-found
returns-clause-found g c =
    below_front_at _ c.new-lent.result.count c.args.at c.args.asked c.answer_lent-result.result.0 c.new-lent.ensures.count
    (λ f d s stands at long. c.answer_lent-result.ensures.found f d s stands (told_end g.K.Keeper.contents c.answer_lent-result.result.1.keeper.now _ d (search rules) at) long)
