use Rattle.std.proofs.Common.{sym, ◌∙◌, arith}
use Rattle.mtn_put_revision.proofs.Counting.{brought_one}
use Rattle.mtn_put_revision.proofs.contents.unknown_of.Goals as goal

pub returns-then-branch-clause-reads : goal.returns-then-branch-clause-reads
returns-then-branch-clause-reads g c = λ f s d ids.
    let few = c.in_ok-has_file-in-Some.ensures.few f s d ids c.if-branch.true in
    let one = brought_one c.args.change.now c.in-Some.id (sym c.new_content.ensures ∙ c.in-Some.is) in
    omega (arith, few, one)
