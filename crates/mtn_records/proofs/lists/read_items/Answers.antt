-- Where the next item is none, no list of so many is there.
use Rattle.std.proofs.Common.{arith, rules, sym, ◌∙◌}
use Rattle.mtn_records.proofs.Reading.{stuck}
use Rattle.mtn_records.proofs.lists.read_items.Goals as goal

pub returns-in_err-item-clause-bad : goal.returns-in_err-item-clause-bad
returns-in_err-item-clause-bad g c is vs r formed many e =
    let far = c.loop-left.invariant.so_far in
    stuck g.T.Field.text g.T.Field.form g.met.T.Field.apart c.args.bytes.now c.loop-left.rest.now c.loop-left.items.items vs r far.formed formed
    (omega (arith, many, c.loop-left.invariant.left, c.loop-left-test.true)) (sym far.whole ∙ e) (c.in_err-item.ensures.bad (search rules))
