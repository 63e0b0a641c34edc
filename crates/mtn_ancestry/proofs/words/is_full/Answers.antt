use Rattle.std.proofs.Common.{◌≤◌, sym, subst}
use Rattle.std.proofs.lemmas.Bool.{leb-true, le-leb}
use Rattle.mtn_ancestry.proofs.Joining.{full}
use Rattle.mtn_ancestry.proofs.words.is_full.Goals as goal

pub returns : goal.returns
returns c =
    let sets = c.args.sets in
    let all = full c.args.word sets c.ranges.word.fits c.requires in (
      λ t. all.0 (subst (λ n. sets ≤ n) c.trailing_ones.ensures (leb-true sets c.trailing_ones.result t)),
      λ h. le-leb sets c.trailing_ones.result (subst (λ n. sets ≤ n) (sym c.trailing_ones.ensures) (all.1 h)),
    )
