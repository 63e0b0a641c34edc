use Rattle.std.proofs.Common.{◌≡◌, drop}
use Rattle.mtn_base.specs.Hex.{read_id}
use Rattle.mtn_words.specs.Words.{each_of}
use Rattle.mtn_words.proofs.WordsLemmas.{with_front}
use Rattle.mtn_words.proofs.positionals.ids.Given as goal

abbrev pub invariant-loop-word : goal.invariant-loop-word
invariant-loop-word l = each_of read_id l.words ≡ with_front l.ids (each_of read_id (drop l.word-index l.words))
