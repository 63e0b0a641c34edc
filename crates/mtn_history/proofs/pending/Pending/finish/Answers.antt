use Rattle.std.proofs.Common.{sym, ◌∙◌}
use Rattle.mtn_history.proofs.MetaLemmas.{finished_bare, finished_all, finish_leaves, told_of_adds, told_of_same}
use Rattle.mtn_history.proofs.pending.Pending.finish.Goals as goal

pub returns-then-len-eq0-clause-ok : goal.returns-then-len-eq0-clause-ok
returns-then-len-eq0-clause-ok g c = finished_bare c.args.self _ (sym c.len.ensures ∙ c.if-len-eq0.true)

pub returns-in_err-apply-clause-told : goal.returns-in_err-apply-clause-told
returns-in_err-apply-clause-told g c = told_of_same _ _ c.in_err-apply.ensures.err

pub returns-in_err-apply-clause-crash : goal.returns-in_err-apply-clause-crash
returns-in_err-apply-clause-crash g c = finish_leaves c.args.self _ _ _ _ c.in_err-apply.ensures.crash

pub returns-clause-told : goal.returns-clause-told
returns-clause-told g c = told_of_adds _ _ c.args.self.batch c.in_ok-apply.ensures.ok

pub returns-clause-crash : goal.returns-clause-crash
returns-clause-crash g c = finish_leaves c.args.self _ _ _ _ c.in_ok-apply.ensures.crash

pub returns-clause-ok : goal.returns-clause-ok
returns-clause-ok g c = finished_all c.args.self _ _ c.in_ok-apply.ensures.ok
