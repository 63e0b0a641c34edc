-- Each place once.
use Rattle.std.proofs.Common.{◌≡◌, ◌∙◌, ℕ, List, [], ◌∷◌, length, length-append, get_or, sym, ap, arith}
use Rattle.mtn_roster.proofs.Stops.{one_more}
use Rattle.mtn_roster.proofs.index.places_of.Goals as goal

pub loop-at-preserved : goal.loop-at-preserved
loop-at-preserved c =
    let places = c.loop-at.places.items in
    let at = c.loop-at.at in
    let long : length places ≡ at = c.loop-at.invariant.0 in
    let pushed = c.in_ok-push.ensures.items in (
      omega (arith, ap length pushed, length-append places (at ∷ []), long),
      λ k d low. ap (λ (ps : List ℕ). get_or ps k d) pushed
          ∙ one_more (λ j p. p ≡ j) places at d (λ j l. c.loop-at.invariant.1 j d (omega (arith, l, long))) (sym long) k (omega (arith, low, long)),
    )

pub returns : goal.returns
returns c = record {
  long = omega (arith, c.loop-at.invariant.0);
  own = λ k d h. c.loop-at.invariant.1 k d (omega (arith, h));
}
