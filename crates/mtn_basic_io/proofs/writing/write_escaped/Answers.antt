use Rattle.std.proofs.Common.{arith}
use Rattle.std.proofs.lemmas.List.{length-take, length-drop}
use Rattle.mtn_basic_io.proofs.Escaped.{run_written}
use Rattle.mtn_basic_io.proofs.writing.write_escaped.Goals as goal

pub loop-at-preserved : goal.loop-at-preserved
loop-at-preserved c =
    let bytes = c.args.bytes.now in
    let at = c.loop-at.at in
    record {
      within = omega (arith, c.in_ok-at.ensures.within, simp (length-take, length-drop) at c.in_ok-at.ensures.within);
      written = run_written bytes c.args.out.now.items c.loop-at.out.items c.write_run.new.out.items at c.in_ok-at.field-0 c.loop-at.invariant.within c.loop-at.invariant.written c.in_ok-at.ensures.ok;
    }
