use Rattle.mtn_roster_deltas.proofs.Differing.{chain_grows}
use Rattle.mtn_roster_deltas.proofs.laws.delta_rebuilds.Goals as goal

pub returns : goal.returns
returns c = λ chain base new changed gone base_at le h rise d. chain_grows chain base new changed gone base_at le h rise d
