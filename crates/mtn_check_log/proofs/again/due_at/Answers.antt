use Rattle.std.proofs.Common.{rules, sym, ◌∙◌, subst}
use Rattle.mtn_history.specs.Stands.{StandsFor}
use Rattle.mtn_check_log.specs.Below.{below}
use Rattle.mtn_check_log.specs.Positions.{IsAgain}
use Rattle.mtn_check_log.proofs.Counting.{told_end}
use Rattle.mtn_check_log.proofs.again.due_at.Goals as goal

pub returns-clause-again : goal.returns-clause-again
returns-clause-again g c d s at stands long =
    subst (λ n. IsAgain (g.I.Ident.meaning c.args.ident.now) s n c.args.text.now c.due_over-result.result.0) c.new-lent.ensures.count
    (c.due_over-result.ensures.again d s (told_end g.K.Keeper.contents c.due_over-result.result.1.keeper.now _ d (search rules) at) (subst (λ n. StandsFor (g.I.Ident.meaning c.args.ident.now) (below n d) s) (sym c.new-lent.ensures.count) stands) (c.new-lent.ensures.count ∙ long))
