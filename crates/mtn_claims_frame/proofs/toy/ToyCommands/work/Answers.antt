use Rattle.std.proofs.Common.{sym, ap, ◌∙◌, refl, false, List}
use Rattle.std.specs.Prelude.{ℕ}
use Rattle.mtn_frame.specs.declared.works.Reply.{Reply}
use Rattle.mtn_claims_frame.proofs.ToyLemmas.{puts, checks, gets}
use Rattle.mtn_claims_frame.proofs.toy.ToyCommands.work.Goals as goal

abbrev reply_of : List ℕ → Reply
reply_of text = record { conflicts = false; text = text }

pub returns-then-is_word : goal.returns-then-is_word
returns-then-is_word g c = record {
  works = puts g.K.Keeper.contents g.K.Keeper.leaves g.K.Keeper.faults g.K.Keeper.reads c.args.keeper.now c.args.keeper.now c.args.words.now c.args.payload c.in_ok-put.field-0 refl (sym c.is_word.ensures ∙ c.if-is_word.true) c.in_ok-put.ensures.0 c.in_ok-put.ensures.1;
}

pub returns-then-is_word-2 : goal.returns-then-is_word-2
returns-then-is_word-2 g c = record {
  works = checks g.K.Keeper.contents g.K.Keeper.leaves g.K.Keeper.faults g.K.Keeper.reads c.args.keeper.now c.check.new.keeper c.args.words.now c.args.payload c.check.result
      (sym c.is_word.ensures ∙ c.if-is_word.false) (sym c.is_word-2.ensures ∙ c.if-is_word-2.true) c.check.ensures;
}

pub returns-in-Ok-true : goal.returns-in-Ok-true
returns-in-Ok-true g c = record {
  works = gets g.K.Keeper.contents g.K.Keeper.leaves g.K.Keeper.faults g.K.Keeper.reads c.args.keeper.now c.get.new.self c.args.words.now c.args.payload (record { reply = record { conflicts = false; text = c.from_vec.result }; batch = c.new.result }) c.get.new.out.items
      c.in-Ok-true.ensures.reads c.in-Ok-true.ensures.stays (sym c.is_word.ensures ∙ c.if-is_word.false) (sym c.is_word-2.ensures ∙ c.if-is_word-2.false) (sym c.is_word-3.ensures ∙ c.if-not-is_word.false) (ap reply_of c.from_vec.ensures) c.new.ensures c.in-Ok-true.field-0 c.in-Ok-true.field-0-test c.in-Ok-true.ensures.found;
}
