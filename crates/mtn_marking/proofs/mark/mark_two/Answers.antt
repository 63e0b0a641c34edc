-- All nodes by the rule, and so as the whole history has it.
use Rattle.std.proofs.lemmas.Result.{IfOk-weaker}
use Rattle.mtn_marking.specs.Marking.{on_two}
use Rattle.mtn_marking.proofs.Zips.{by_basis, all_fit, all_by_rule, all_births}
use Rattle.mtn_marking.proofs.Historic.{graph_two}
use Rattle.mtn_marking.proofs.mark.mark_two.Goals as goal

pub returns-clause-rule : goal.returns-clause-rule
returns-clause-rule c = IfOk-weaker _ _ _ (λ ms h. all_by_rule (on_two c.args.at c.args.left.now c.args.right.now c.args.only_left.now c.args.only_right.now) c.args.new.now ms (by_basis c.args.new.now ms _ _ c.marked_on-against.ensures.basis h)) c.mark_all.ensures

pub returns-clause-births : goal.returns-clause-births
returns-clause-births c = IfOk-weaker _ _ _ (λ ms h. all_births (on_two c.args.at c.args.left.now c.args.right.now c.args.only_left.now c.args.only_right.now) c.args.new.now ms (by_basis c.args.new.now ms _ _ c.marked_on-against.ensures.basis h)) c.mark_all.ensures

pub returns-clause-fits : goal.returns-clause-fits
returns-clause-fits c = IfOk-weaker _ _ _ (λ ms h. all_fit (on_two c.args.at c.args.left.now c.args.right.now c.args.only_left.now c.args.only_right.now) c.args.new.now ms (by_basis c.args.new.now ms _ _ c.marked_on-against.ensures.basis h)) c.mark_all.ensures

pub returns-clause-graph : goal.returns-clause-graph
returns-clause-graph c = IfOk-weaker _ _ _ (λ ms h. graph_two c.args.at c.args.new.now ms c.args.left.now c.args.right.now c.args.only_left.now c.args.only_right.now (by_basis c.args.new.now ms _ _ c.marked_on-against.ensures.basis h)) c.mark_all.ensures
