use Rattle.std.proofs.Common.{[]}
use Rattle.mtn_exports.proofs.Writing.{all_files_held}
use Rattle.mtn_exports.proofs.laws.held_files.Goals as goal

pub returns : goal.returns
returns c f s h id have packets is e file bytes held = all_files_held f s h is file bytes e.revisions [] e.files packets e.sent held
