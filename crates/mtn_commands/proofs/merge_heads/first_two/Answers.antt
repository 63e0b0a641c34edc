-- By how many heads there are.
use Rattle.std.proofs.Common.{sym, ap}
use Rattle.mtn_commands.specs.Certifying.{first_two}
use Rattle.mtn_commands.proofs.HeadsMerging.{empty_of, one_of, two_of}
use Rattle.mtn_commands.proofs.merge_heads.first_two.Goals as goal

pub returns-in-empty : goal.returns-in-empty
returns-in-empty c = sym (ap first_two (empty_of c.args.ids.now c.in-empty.len_below))

pub returns-in-len1 : goal.returns-in-len1
returns-in-len1 c = sym (ap first_two (one_of c.args.ids.now c.in-len1.len_at_least c.in-len1.len_below))

pub returns-in-len2-up : goal.returns-in-len2-up
returns-in-len2-up c = sym (ap first_two (two_of c.args.ids.now c.in-len2-up.len_at_least).1)
