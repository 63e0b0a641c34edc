use Rattle.std.proofs.Common.{rules, subst}
use Rattle.std.specs.Prelude.{IfSome}
use Rattle.mtn_history.specs.Memory.{Knows}
use Rattle.mtn_ports.specs.Kept.{with_all}
use Rattle.mtn_check_log.proofs.Counting.{told_end}
use Rattle.mtn_check_log.proofs.again.due_again.Goals as goal

pub returns-clause-again : goal.returns-clause-again
returns-clause-again g c d s at stands long =
    let told = told_end g.K.Keeper.contents c.put_again-taken.new.draft.keeper.now _ d (search rules) at in
    c.with_memory.ensures.again (g.I.Ident.meaning c.args.ident.now) s c.args.at c.args.text.now (with_all d c.put_again-taken.new.draft.pending.batch)
    (subst (λ o. IfSome o (λ e. Knows c.into_parts-keeper.result.2 (with_all e c.put_again-taken.new.draft.pending.batch))) told c.into_parts-keeper.ensures.knows)
    (c.put_again-taken.ensures.again d s told (search rules))
