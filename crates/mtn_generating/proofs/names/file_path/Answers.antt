use Rattle.std.proofs.Common.{arith}
use Rattle.mtn_generating.proofs.NameLemmas.{f_comp}
use Rattle.mtn_generating.proofs.names.file_path.Goals as goal

pub component-requires : goal.component-requires
component-requires c = let fits = c.ranges.file.fits in f_comp c.args.file (omega (arith, fits))
