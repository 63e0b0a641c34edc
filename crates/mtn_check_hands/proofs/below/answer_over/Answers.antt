use Rattle.std.proofs.Common.{ap, ◌∙◌, rules}
use Rattle.mtn_history.specs.declared.pending.Pending.{Pending}
use Rattle.mtn_check_log.proofs.Counting.{told_end}
use Rattle.mtn_check_hands.proofs.Answering.{over_state}
use Rattle.mtn_check_hands.proofs.below.answer_over.Goals as goal

pub returns-clause-found : goal.returns-clause-found
returns-clause-found g c = λ f d s stands at long.
    over_state f (g.K.Keeper.contents c.ask_draft-result.new.draft.keeper.now) d c.new-draft.result.pending s c.args.asked c.ask_draft-result.result stands
    (told_end g.K.Keeper.contents c.ask_draft-result.new.draft.keeper.now _ d (search rules) at)
    (ap (λ (p : Pending). p.batch) c.new-draft.ensures.pending ∙ c.new.ensures) (ap (λ (p : Pending). p.is_new) c.new-draft.ensures.pending) (ap (λ (p : Pending). p.count) c.new-draft.ensures.pending ∙ long)
    c.ask_draft-result.ensures.found
