use Rattle.std.proofs.Common.{◌≡◌, drop}
use Rattle.mtn_words.specs.Words.{each_of, option_of}
use Rattle.mtn_words.proofs.WordsLemmas.{with_front}
use Rattle.mtn_words.proofs.words.read_options.Given as goal

abbrev pub invariant-loop-word : goal.invariant-loop-word
invariant-loop-word l = each_of option_of l.words ≡ with_front l.options (each_of option_of (drop l.word-index l.words))
