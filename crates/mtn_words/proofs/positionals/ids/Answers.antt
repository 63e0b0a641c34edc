use Rattle.mtn_base.specs.Hex.{read_id}
use Rattle.mtn_words.proofs.WordsLemmas.{read_one}
use Rattle.mtn_words.proofs.positionals.ids.Goals as goal

pub loop-word-preserved : goal.loop-word-preserved
loop-word-preserved c =
    read_one read_id c.loop-word.ids c.push.new.self c.args.words.now c.loop-word.word-index c.word-item.result c.in_ok-id_of_word.field-0 c.loop-word-test.true c.word-item.is
    c.in_ok-id_of_word.ensures c.in_ok-push.ensures.ok c.loop-word.invariant
