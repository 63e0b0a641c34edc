use Rattle.std.proofs.Common.{◌∙◌}
use Rattle.mtn_basic_io.proofs.AtOnce.{plain_front}
use Rattle.mtn_basic_io.proofs.spans.plain_len.Goals as goal

pub returns : goal.returns
returns c = c.unwrap_or.ensures ∙ plain_front c.args.text.now c.memchr2.result c.memchr2.ensures
