use Rattle.std.proofs.Common.{sym, subst}
use Rattle.std.specs.Str.{IsUtf8}
use Rattle.mtn_words.proofs.WordsLemmas.{name_is_utf8}
use Rattle.mtn_words.proofs.command.read_words.Goals as goal

-- the name is a text
pub returns : goal.returns
returns c = absurd (c.in-Err.ensures.cases.0 (subst IsUtf8 (sym c.as_slice.ensures) (name_is_utf8 c.args.words.now c.in_ok-command.command c.in_ok-command.ensures)))
