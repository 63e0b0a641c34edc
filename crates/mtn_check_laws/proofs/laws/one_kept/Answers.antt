use Rattle.mtn_check_laws.proofs.Rosters.{one_kept}
use Rattle.mtn_check_laws.proofs.laws.one_kept.Goals as goal

pub returns : goal.returns
returns c h ks v a b grown x y sets_a sets_b = one_kept h ks v a b grown x y sets_a sets_b
