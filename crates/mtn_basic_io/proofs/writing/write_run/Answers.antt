use Rattle.std.proofs.Common.{◌<◌, length, append_assoc, arith}
use Rattle.std.proofs.lemmas.List.{length-take}
use Rattle.std.proofs.lemmas.List.Sums.{prefix_len-le-length}
use Rattle.mtn_basic_io.specs.Steps.{is_plain}
use Rattle.mtn_basic_io.proofs.Kept.{front_trans}
use Rattle.mtn_basic_io.proofs.Escaped.{front_written, stop_written}
use Rattle.mtn_basic_io.proofs.writing.write_run.Goals as goal

pub returns-then-len-bytes-clause-ok : goal.returns-then-len-bytes-clause-ok
returns-then-len-bytes-clause-ok c = rw (front_written c.args.bytes.now c.plain_len-len.result c.plain_len-len.ensures) c.in_ok-put_all.ensures.ok

pub returns-clause-ok : goal.returns-clause-ok
returns-clause-ok c =
    let bytes = c.args.bytes.now in
    let len = c.plain_len-len.result in
    let low = prefix_len-le-length is_plain bytes in
    let lt : len < length bytes = omega (arith, c.plain_len-len.ensures) in
    rw (c.in_ok-put-2.ensures.ok, c.in_ok-put.ensures.ok, c.in_ok-put_all.ensures.ok, stop_written bytes len c.plain_len-len.ensures lt) (simp append_assoc)

pub returns-then-len-bytes-clause-kept : goal.returns-then-len-bytes-clause-kept
returns-then-len-bytes-clause-kept c = c.in_ok-put_all.ensures.kept

pub returns-in_err-put_all-clause-kept : goal.returns-in_err-put_all-clause-kept
returns-in_err-put_all-clause-kept c = c.in_err-put_all.ensures.kept

pub returns-in_err-put-clause-kept : goal.returns-in_err-put-clause-kept
returns-in_err-put-clause-kept c = front_trans c.in_ok-put_all.ensures.kept c.in_err-put.ensures.kept

pub returns-in_err-put-2-clause-kept : goal.returns-in_err-put-2-clause-kept
returns-in_err-put-2-clause-kept c = front_trans c.in_ok-put_all.ensures.kept (front_trans c.in_ok-put.ensures.kept c.in_err-put-2.ensures.kept)

pub returns-clause-kept : goal.returns-clause-kept
returns-clause-kept c = front_trans c.in_ok-put_all.ensures.kept (front_trans c.in_ok-put.ensures.kept c.in_ok-put-2.ensures.kept)

pub slice_bounds-put_all-end : goal.slice_bounds-put_all-end
slice_bounds-put_all-end c = omega (arith, c.plain_len-len.ensures, prefix_len-le-length is_plain c.args.bytes.now, length-take c.plain_len-len.result c.args.bytes.now)

pub bounds-bytes-len : goal.bounds-bytes-len
bounds-bytes-len c = omega (arith, c.plain_len-len.ensures, prefix_len-le-length is_plain c.args.bytes.now, c.if-len-bytes.false)

pub returns-then-len-bytes-clause-some : goal.returns-then-len-bytes-clause-some
returns-then-len-bytes-clause-some c = λ pos. omega (arith, pos, c.if-len-bytes.true)

pub returns-then-len-bytes-clause-within : goal.returns-then-len-bytes-clause-within
returns-then-len-bytes-clause-within c = omega (arith, c.if-len-bytes.true)

pub returns-clause-some : goal.returns-clause-some
returns-clause-some c = λ _. omega arith

pub returns-clause-within : goal.returns-clause-within
returns-clause-within c =
    let low = prefix_len-le-length is_plain c.args.bytes.now in
    omega (arith, c.plain_len-len.ensures, c.if-len-bytes.false)
