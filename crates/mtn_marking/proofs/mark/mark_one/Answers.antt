-- All nodes by the rule, and so as the whole history has it.
use Rattle.std.proofs.Common.{None, Some}
use Rattle.std.proofs.lemmas.Result.{IfOk-weaker}
use Rattle.mtn_marking.specs.Marking.{on_one}
use Rattle.mtn_marking.proofs.Zips.{by_nothing, all_fit, all_by_rule, all_births}
use Rattle.mtn_marking.proofs.Historic.{graph_one}
use Rattle.mtn_marking.proofs.mark.mark_one.Goals as goal

pub returns-clause-rule : goal.returns-clause-rule
returns-clause-rule c = IfOk-weaker _ _ _ (λ ms h. all_by_rule (on_one c.args.at c.args.parent.now) c.args.new.now ms (by_nothing c.args.new.now ms _ c.args.at (Some c.args.parent.now) None c.in_ok-none.none c.marked_on-against.ensures.basis c.in_ok-none.ensures h)) c.mark_all.ensures

pub returns-clause-births : goal.returns-clause-births
returns-clause-births c = IfOk-weaker _ _ _ (λ ms h. all_births (on_one c.args.at c.args.parent.now) c.args.new.now ms (by_nothing c.args.new.now ms _ c.args.at (Some c.args.parent.now) None c.in_ok-none.none c.marked_on-against.ensures.basis c.in_ok-none.ensures h)) c.mark_all.ensures

pub returns-clause-fits : goal.returns-clause-fits
returns-clause-fits c = IfOk-weaker _ _ _ (λ ms h. all_fit (on_one c.args.at c.args.parent.now) c.args.new.now ms (by_nothing c.args.new.now ms _ c.args.at (Some c.args.parent.now) None c.in_ok-none.none c.marked_on-against.ensures.basis c.in_ok-none.ensures h)) c.mark_all.ensures

pub returns-clause-graph : goal.returns-clause-graph
returns-clause-graph c = IfOk-weaker _ _ _ (λ ms h. graph_one c.args.at c.args.new.now ms c.args.parent.now (by_nothing c.args.new.now ms _ c.args.at (Some c.args.parent.now) None c.in_ok-none.none c.marked_on-against.ensures.basis c.in_ok-none.ensures h)) c.mark_all.ensures
