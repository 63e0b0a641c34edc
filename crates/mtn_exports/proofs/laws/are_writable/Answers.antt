use Rattle.std.proofs.Common.{[]}
use Rattle.mtn_exports.proofs.Writing.{all_writable}
use Rattle.mtn_exports.proofs.laws.are_writable.Goals as goal

pub returns : goal.returns
returns c f s h id have packets law e = all_writable f s e.revisions [] e.files packets law e.sent
