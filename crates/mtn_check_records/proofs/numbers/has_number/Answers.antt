-- By the test of names.
use Rattle.std.proofs.Common.{◌∙◌, sym}
use Rattle.mtn_base.proofs.Tests.{same_name-is}
use Rattle.mtn_check_records.proofs.numbers.has_number.Goals as goal

pub returns : goal.returns
returns c = λ t. (same_name-is c.args.other.now.node c.args.entry.now.node (sym c.same.ensures ∙ t), c.if-other-entry.false)
