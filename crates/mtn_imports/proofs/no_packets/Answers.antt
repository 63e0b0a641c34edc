use Rattle.mtn_imports.proofs.no_packets.Goals as goal

pub returns : goal.returns
returns c f s t refusal new is = is
