use Rattle.std.specs.BTreeMap.{get}
use Rattle.std.specs.Option.{option_copied}
use Rattle.std.proofs.Common.{◌≡◌, ◌<◌, ◌+◌, ◌-◌, ℕ, drop, length, arith, subst}
use Rattle.mtn_base.specs.Ids.{by_id}
use Rattle.mtn_certs.specs.Listing.{name_in}
use Rattle.mtn_certs.proofs.Names.{names_more}
use Rattle.mtn_certs.proofs.text.names_of.Goals as goal

pub loop-at-preserved : goal.loop-at-preserved
loop-at-preserved c =
    let some = c.loop-at-test.true in
    let low = c.loop-at.invariant.0 in
    let back : c.loop-at.at ≡ (c.loop-at.at - 1) + 1 = omega (arith, some) in
    let lt : c.loop-at.at - 1 < length c.args.keys.now = omega (arith, some, low) in (
      omega (arith, some, low),
      names_more c.args.keys.now (c.loop-at.at - 1) c.index-keys-at.result c.as_slice.result c.loop-at.names c.insert.new.self lt c.index-keys-at.is c.as_slice.ensures
          (λ id. subst (λ (n : ℕ). option_copied (get by_id c.loop-at.names id) ≡ name_in (drop n c.args.keys.now) id) back (c.loop-at.invariant.1 id))
          c.in_ok-insert.ensures.updates.0,
    )
