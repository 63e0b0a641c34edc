use Rattle.mtn_generated.proofs.Texts.{differ}
use Rattle.mtn_generated.proofs.texts_differ.Goals as goal

pub returns : goal.returns
returns c j i k m small_j small_i small_k small_m e = differ j i k m small_j small_i small_k small_m e
