use Rattle.std.proofs.Common.{◌≡◌, ◌<◌, ◌+◌, ◌-◌, ℕ, drop, length, arith, subst}
use Rattle.mtn_migrating.specs.Working.{AreIdsOf}
use Rattle.mtn_migrating.proofs.Adding.{ids_more}
use Rattle.mtn_migrating.proofs.ids.ids_of.Goals as goal

pub loop-at-preserved : goal.loop-at-preserved
loop-at-preserved c =
    let some = c.loop-at-test.true in
    let low = c.loop-at.invariant.0 in
    let back : c.loop-at.at ≡ (c.loop-at.at - 1) + 1 = omega (arith, some) in
    let lt : c.loop-at.at - 1 < length c.args.table.now = omega (arith, some, low) in (
      omega (arith, some, low),
      ids_more c.args.table.now (c.loop-at.at - 1) c.index-table-at.result c.as_slice.result c.loop-at.ids c.insert.new.self lt c.index-table-at.is c.as_slice.ensures
          (subst (λ (n : ℕ). AreIdsOf c.loop-at.ids (drop n c.args.table.now)) back c.loop-at.invariant.1)
          c.in_ok-insert.ensures.updates.0,
    )
