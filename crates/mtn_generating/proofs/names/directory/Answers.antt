use Rattle.std.proofs.Common.{◌*◌, ◌/◌, ◌+◌, arith}
use Rattle.mtn_generated.proofs.Counted.{split}
use Rattle.mtn_generating.proofs.NameLemmas.{d_comp}
use Rattle.mtn_generating.proofs.names.directory.Goals as goal

pub component-requires : goal.component-requires
component-requires c =
    let x = c.saturating_sub-group.result in
    let parts = (split x).whole in
    let is = c.saturating_sub-group.ensures in
    let fits = c.ranges.revision.fits in
    d_comp (4 * (x / 4) + 1) (omega (arith, parts, is, fits))
