use Rattle.mtn_packets.proofs.Again as again
use Rattle.mtn_packets.proofs.laws.printed_in_a_row.Goals as goal

pub returns : goal.returns
returns c = again.are_printed
