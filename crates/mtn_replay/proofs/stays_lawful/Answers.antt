use Rattle.mtn_replay.proofs.CertLemmas.{known_of, lawful_cert, lawful_key, lawful_text}
use Rattle.mtn_replay.proofs.stays_lawful.Goals as goal

pub returns : goal.returns
returns c = record {
  text = lawful_text;
  cert = λ f s c law lawful revision key fine. lawful_cert f s c law lawful revision key (known_of s c fine);
  key = lawful_key;
}
