-- Stop by stop, at the places of the left tree.
use Rattle.std.proofs.Common.{◌<◌, get_or, sym, subst, arith}
use Rattle.mtn_roster.specs.declared.walk.Stop.{Stop}
use Rattle.mtn_roster.proofs.Along.{stop_has}
use Rattle.mtn_roster.proofs.Leading.{get_within}
use Rattle.mtn_join.proofs.Mates.{noted_more, all_noted}
use Rattle.mtn_join.proofs.joining.mates_of.Goals as goal

pub index_mut-requires : goal.index_mut-requires
index_mut-requires c =
    let none : Stop = record { place = 0; above = 0 } in
    let has = stop_has c.args.left.now c.args.walk.now c.requires.walk c.loop-at.at none c.loop-at-test.true in
    subst (λ n. (get_or c.args.walk.now c.loop-at.at none).place < n) (sym c.loop-at.invariant.0) (get_within c.args.left.now (get_or c.args.walk.now c.loop-at.at none).place has.0 has.1)

pub loop-at-preserved : goal.loop-at-preserved
loop-at-preserved c =
    let m = noted_more c.args.left.now c.args.right.now c.len.ensures.sane c.len-others.ensures.sane c.args.walk.now c.args.beside.now c.requires.walk c.requires.beside c.requires.paired c.loop-at.mates.items c.loop-at.invariant.1 c.loop-at.at c.loop-at-test.true c.loop-at.invariant.2 (record { place = 0; above = 0 }) in
    (c.loop-at.invariant.0, m.0, m.1)

pub returns : goal.returns
returns c =
    all_noted c.args.left.now c.args.right.now c.len.ensures.sane c.len-others.ensures.sane c.args.walk.now c.args.beside.now c.requires.walk c.requires.beside c.requires.paired c.loop-at.mates.items c.loop-at.invariant.1 c.loop-at.at (omega (arith, c.loop-at-test.false)) c.loop-at.invariant.2
