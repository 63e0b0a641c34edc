use Rattle.mtn_generated_laws.proofs.Readable.{first_read, later_read}
use Rattle.mtn_generated_laws.proofs.texts_are_read.Goals as goal

pub returns : goal.returns
returns c = record {
  first = λ f h tips makes. first_read f makes h tips;
  later = λ f h i work tips makes small left right a b. later_read f makes h i work tips small left right a b;
}
