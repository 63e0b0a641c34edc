use Rattle.std.proofs.Common.{◌<◌, arith}
use Rattle.mtn_basic_io.proofs.Kept.{front_trans}
use Rattle.mtn_basic_io.proofs.Printed.{behind_some}
use Rattle.mtn_basic_io.proofs.Written.{two}
use Rattle.mtn_basic_io.proofs.writing.write_behind.Goals as goal

pub returns-then-i-eq0-clause-ok : goal.returns-then-i-eq0-clause-ok
returns-then-i-eq0-clause-ok c = rw c.if-i-eq0.true c.write_stanza.ensures.ok

pub returns-then-i-eq0-clause-kept : goal.returns-then-i-eq0-clause-kept
returns-then-i-eq0-clause-kept c = c.write_stanza.ensures.kept

pub returns-clause-ok : goal.returns-clause-ok
returns-clause-ok c =
    let some : 0 < c.args.i = omega (arith, c.if-i-eq0.false) in
    rw (behind_some c.args.i some) (two _ _ _ _ _ c.in_ok-put.ensures.ok c.in_ok-write_stanza.ensures.ok)

pub returns-in_err-put-clause-kept : goal.returns-in_err-put-clause-kept
returns-in_err-put-clause-kept c = c.in_err-put.ensures.kept

pub returns-in_err-write_stanza-clause-kept : goal.returns-in_err-write_stanza-clause-kept
returns-in_err-write_stanza-clause-kept c = front_trans c.in_ok-put.ensures.kept c.in_err-write_stanza.ensures.kept

pub returns-clause-kept : goal.returns-clause-kept
returns-clause-kept c = front_trans c.in_ok-put.ensures.kept c.in_ok-write_stanza.ensures.kept
