use Rattle.std.proofs.Common.{ap, ◌∙◌}
use Rattle.std.specs.Str.{is_utf8}
use Rattle.mtn_words.proofs.WordsLemmas.{told_utf8}
use Rattle.mtn_words.proofs.words.is_utf8.Goals as goal

pub returns : goal.returns
returns c = c.is_ok.ensures.value ∙ told_utf8 _ _ _ _ c.from_utf8.ensures.cases ∙ ap is_utf8 c.as_slice.ensures
