use Rattle.std.proofs.Common.{◌∷◌, ◌-◌, sym, ap, ◌∙◌, subst, arith, drop}
use Rattle.mtn_words.specs.Words.{are_apart}
use Rattle.mtn_words.proofs.WordsLemmas.{Seen, seen_more, seen_twice, apart_behind, names_from, names_of}
use Rattle.mtn_words.proofs.words.are_apart.Goals as goal

pub returns-then-not-branch : goal.returns-then-not-branch
returns-then-not-branch c =
    let options = c.args.options.now in
    let left = c.loop-left.left in
    let behind = names_of (drop left options) in
    sym (apart_behind (left - 1) options (
    ap are_apart (names_from options left c.index-options-left.result c.loop-left-test.true c.loop-left.invariant.inside ∙ ap (λ name. name ∷ behind) (sym c.as_slice.ensures))
    ∙ seen_twice c.loop-left.names behind c.as_slice.result c.in_ok-insert.field-0 c.loop-left.invariant.seen c.in_ok-insert.ensures.added c.if-not-branch.true))

pub loop-left-preserved : goal.loop-left-preserved
loop-left-preserved c =
    let options = c.args.options.now in
    let left = c.loop-left.left in
    let behind = names_of (drop left options) in
    record {
      inside = omega (arith, c.loop-left.invariant.inside);
      seen = subst (Seen c.insert.new.self) (sym (names_from options left c.index-options-left.result c.loop-left-test.true c.loop-left.invariant.inside ∙ ap (λ name. name ∷ behind) (sym c.as_slice.ensures)))
          (seen_more c.loop-left.names c.insert.new.self behind c.as_slice.result c.in_ok-insert.field-0 c.loop-left.invariant.seen c.in_ok-insert.ensures.added c.if-not-branch.false c.in_ok-insert.ensures.updates);
    }
