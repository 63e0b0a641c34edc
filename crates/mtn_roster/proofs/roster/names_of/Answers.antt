-- One more name each time.
use Rattle.std.proofs.Common.{ℕ, get_or}
use Rattle.mtn_base.proofs.Members.{any_default}
use Rattle.mtn_roster.proofs.Naming.{named_more}
use Rattle.mtn_roster.proofs.roster.names_of.Goals as goal

pub loop-place-preserved : goal.loop-place-preserved
loop-place-preserved c =
    let i = c.loop-place.place-index in
    let p = get_or c.args.places.now i 0 in
    named_more c.args.entries.now ℕ (λ k. k) c.args.places.now i p c.index-entries-place.result c.loop-place.names.items c.push.new.self.items c.in_ok-copy.field-0
    c.loop-place-test.true (any_default c.args.places.now i 0 p c.loop-place-test.true) (c.requires i 0 c.loop-place-test.true) c.index-entries-place.is c.in_ok-copy.ensures c.loop-place.invariant c.in_ok-push.ensures.items
