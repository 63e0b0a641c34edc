use Rattle.std.proofs.Common.{◌∷◌, []}
use Rattle.mtn_basic_io.specs.Spelling.{IsValue, spaced}
use Rattle.mtn_basic_io.proofs.Kept.{front_more, front_trans}
use Rattle.mtn_basic_io.proofs.Printed.{all_more, more_written}
use Rattle.mtn_basic_io.proofs.Written.{two}
use Rattle.mtn_basic_io.proofs.writing.write_values.Goals as goal

pub returns-in_err-put-clause-kept : goal.returns-in_err-put-clause-kept
returns-in_err-put-clause-kept c = front_trans (front_more _ _ _ c.loop-value.invariant.written) c.in_err-put.ensures.kept

pub returns-in_err-write_value-clause-kept : goal.returns-in_err-write_value-clause-kept
returns-in_err-write_value-clause-kept c = front_trans (front_more _ _ _ c.loop-value.invariant.written) (front_trans c.in_ok-put.ensures.kept c.in_err-write_value.ensures.kept)

pub returns-clause-kept : goal.returns-clause-kept
returns-clause-kept c = front_more _ _ _ c.loop-value.invariant.written

pub loop-value-preserved : goal.loop-value-preserved
loop-value-preserved c =
    let vs = c.args.values.now in
    let i = c.loop-value.value-index in
    let v = c.value-item.result in
    record {
      written = more_written spaced vs i v _ _ _ c.loop-value-test.true c.value-item.is c.loop-value.invariant.written
          (two _ _ _ (32 ∷ []) _ c.in_ok-put.ensures.ok c.in_ok-write_value.ensures.ok);
      lawful = all_more IsValue vs i v c.loop-value-test.true c.value-item.is c.loop-value.invariant.lawful c.in_ok-write_value.ensures.lawful;
    }
