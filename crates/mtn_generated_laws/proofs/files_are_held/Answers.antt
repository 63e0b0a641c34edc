use Rattle.mtn_generated_laws.proofs.KeptFiles.{holds_files, keeps_files}
use Rattle.mtn_generated_laws.proofs.files_are_held.Goals as goal

pub returns : goal.returns
returns c = record {
  before = λ f n s g is. keeps_files f n s g is;
  files = λ f n i s g text is some most there. holds_files f n i s g text is some most there;
}
