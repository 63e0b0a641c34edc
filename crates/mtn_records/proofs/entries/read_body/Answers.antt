-- A file's body is the pair of its parts.
use Rattle.std.proofs.Common.{rules}
use Rattle.mtn_records.specs.declared.entry.NumberedBody.TheVariants.{Dir, File}
use Rattle.mtn_records.proofs.entries.read_body.Goals as goal

pub returns-in_err-content-clause-bad : goal.returns-in_err-content-clause-bad
returns-in_err-content-clause-bad c is (File content marks) r form e = c.in_err-content.ensures.bad (search rules) (content, marks) r form.1 e
returns-in_err-content-clause-bad c is Dir r form e = let file = c.if-not-file.false in let kind = form.0 in absurd cc
