use Rattle.std.proofs.Common.{sym, ap, ◌∙◌}
use Rattle.mtn_words.specs.Words.{option_of}
use Rattle.mtn_words.proofs.WordsLemmas.{read_one}
use Rattle.mtn_words.proofs.words.read_options.Goals as goal

pub loop-word-preserved : goal.loop-word-preserved
loop-word-preserved c =
    read_one option_of c.loop-word.options c.push.new.self c.args.words.now c.loop-word.word-index c.word-item.result c.in_ok-read_option.field-0 c.loop-word-test.true c.word-item.is
    (ap option_of (sym c.as_slice.ensures) ∙ c.in_ok-read_option.ensures) c.in_ok-push.ensures.ok c.loop-word.invariant
