use Rattle.mtn_packets.proofs.Inputs as inputs
use Rattle.mtn_packets.proofs.laws.one_list.Goals as goal

pub returns : goal.returns
returns c = inputs.one_list
