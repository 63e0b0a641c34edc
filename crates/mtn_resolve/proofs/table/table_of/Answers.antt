use Rattle.std.proofs.Common.{◌≡◌, ℕ, ◌+◌, ◌-◌, ◌<◌, length, subst, arith}
use Rattle.mtn_resolve.specs.Parts.{IsTable}
use Rattle.mtn_resolve.proofs.Growing.{table_more}
use Rattle.mtn_resolve.proofs.table.table_of.Goals as goal

pub loop-at-preserved : goal.loop-at-preserved
loop-at-preserved c =
    let some = c.loop-at-test.true in
    let low = c.loop-at.invariant.0 in
    let back : c.loop-at.at ≡ (c.loop-at.at - 1) + 1 = omega (arith, some) in
    let lt : c.loop-at.at - 1 < length c.args.resolutions.now = omega (arith, some, low) in (
      omega (arith, some, low),
      table_more c.args.resolutions.now (c.loop-at.at - 1) c.index-resolutions-at.result c.in_ok-subject.subject c.loop-at.table c.insert.new.self lt c.index-resolutions-at.is c.in_ok-subject.ensures
          (subst (λ (n : ℕ). IsTable c.args.resolutions.now n c.loop-at.table) back c.loop-at.invariant.1) c.in_ok-insert.ensures.updates.0,
    )
