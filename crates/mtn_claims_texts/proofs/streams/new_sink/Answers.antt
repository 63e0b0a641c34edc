use Rattle.std.proofs.Common.{rules}
use Rattle.mtn_claims_texts.proofs.streams.new_sink.Goals as goal

pub returns : goal.returns
returns c = search rules
