-- One more place.
use Rattle.std.proofs.Common.{◌≡◌, List, ℕ, [], ◌∷◌, length, length-append, get_or, true, false, refl, sym, ap, subst, arith}
use Rattle.mtn_roster.specs.declared.entry.Slot.{Slot}
use Rattle.mtn_roster.specs.Index.{slot_in}
use Rattle.mtn_roster.specs.Building.{IsUp, hangs_well}
use Rattle.mtn_roster.proofs.Reading.{slot_read}
use Rattle.mtn_roster.proofs.Stops.{one_more}
use Rattle.mtn_roster.proofs.sane.ups_of.Goals as goal

pub loop-own-preserved : goal.loop-own-preserved
loop-own-preserved c =
    let t = c.args.entries.now in
    let own = c.loop-own.own in
    let ups = c.loop-own.ups.items in
    let up = c.in-Some.up in
    let long : length ups ≡ own = c.loop-own.invariant.0 in
    let slot = slot_read t own c.index-entries-own.result c.loop-own-test.true c.index-entries-own.is in
    let pushed = c.in_ok-push-in-Some.ensures.items in (
      omega (arith, ap length pushed, length-append ups (up ∷ []), long),
      λ k low. subst (λ (us : List ℕ). IsUp t (slot_in t k) k (get_or us k 0)) (sym pushed)
          (one_more (λ j v. IsUp t (slot_in t j) j v) ups up 0 (λ j l. c.loop-own.invariant.1 j (omega (arith, l, long)))
          (subst (λ n. IsUp t (slot_in t n) n up) (sym long) (subst (λ (s : Slot). IsUp t s own up) slot c.in-Some.ensures.up)) k (omega (arith, low, long))),
      λ k low. one_more (λ j v. hangs_well t (slot_in t j) ≡ true) ups up 0 (λ j l. c.loop-own.invariant.2 j (omega (arith, l, long)))
          (subst (λ n. hangs_well t (slot_in t n) ≡ true) (sym long) (subst (λ (s : Slot). hangs_well t s ≡ true) slot (c.in-Some.ensures.well refl))) k (omega (arith, low, long)),
    )

pub returns-in-None-clause-insane : goal.returns-in-None-clause-insane
returns-in-None-clause-insane c = λ _.
    let t = c.args.entries.now in
    let slot = slot_read t c.loop-own.own c.index-entries-own.result c.loop-own-test.true c.index-entries-own.is in
    (c.loop-own.own, c.loop-own-test.true, subst (λ (s : Slot). hangs_well t s ≡ false) slot (c.in-None.ensures.badly refl))
