-- The walks tell the least path with a fault, or that there is none.
use Rattle.std.proofs.Common.{None, Some, sym, ◌∙◌, subst}
use Rattle.mtn_join.specs.Join.{is_outside, IsFaultOf}
use Rattle.mtn_join.proofs.LeastFault.{decided}
use Rattle.mtn_join.proofs.two_edges.paired.Goals as goal

pub returns-in-Some-clause-err : goal.returns-in-Some-clause-err
returns-in-Some-clause-err c =
    let b = c.args.births.now in
    let d = decided b.new (is_outside b.only_right.now) (is_outside b.only_left.now) c.args.left.now c.args.right.now c.len-nodes.ensures.sane c.len-others.ensures.sane
    c.compare_walks-count.result.count c.compare_walks-count.result.fault c.compare_walks-count.ensures (Some c.in-Some.path) (sym c.in_ok-path.ensures ∙ c.in-Some.is) in
    subst (IsFaultOf c.error_of.result) (sym d) c.error_of.ensures

pub mates_of-requires-clause-paired : goal.mates_of-requires-clause-paired
mates_of-requires-clause-paired c =
    let b = c.args.births.now in
    let d = decided b.new (is_outside b.only_right.now) (is_outside b.only_left.now) c.args.left.now c.args.right.now c.len-nodes.ensures.sane c.len-others.ensures.sane
    c.compare_walks-count.result.count c.compare_walks-count.result.fault c.compare_walks-count.ensures None (sym c.in_ok-path.ensures ∙ c.in_default.is) in
    d.1

pub returns-clause-agreed : goal.returns-clause-agreed
returns-clause-agreed c =
    let b = c.args.births.now in
    let d = decided b.new (is_outside b.only_right.now) (is_outside b.only_left.now) c.args.left.now c.args.right.now c.len-nodes.ensures.sane c.len-others.ensures.sane
    c.compare_walks-count.result.count c.compare_walks-count.result.fault c.compare_walks-count.ensures None (sym c.in_ok-path.ensures ∙ c.in_default.is) in
    d.0
