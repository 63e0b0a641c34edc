-- One more mark.
use Rattle.std.proofs.Common.{◌<◌, ◌∙◌, length, get_or, refl, arith, length-set, true}
use Rattle.mtn_roster.proofs.Marking.{kept_marked, lead_marked, leads_on}
use Rattle.mtn_roster.proofs.sane.mark.Goals as goal

pub loop-preserved : goal.loop-preserved
loop-preserved c =
    let marked = c.loop.marked.items in
    let at = c.loop.at in
    let fits : at < length marked = omega (arith, c.loop.invariant.0, c.loop.invariant.1) in (
      c.requires.within at 0 c.loop.invariant.0,
      length-set marked at true ∙ c.loop.invariant.1,
      λ k h. kept_marked marked at k fits (c.loop.invariant.2 k h),
      λ root top from was.
          let both = c.loop.invariant.3 root top from was in
          (leads_on c.args.ups.now root at (get_or c.args.ups.now at 0) top refl both.0, lead_marked c.args.ups.now root marked at both.0 both.1),
    )
