-- Each place was looked at, or one has such a node.
use Rattle.std.proofs.Common.{refl, sym, ◌∙◌, arith}
use Rattle.mtn_apply.specs.Old.{tree_in}
use Rattle.mtn_apply.proofs.Births.{none_is, one_is}
use Rattle.mtn_apply.proofs.born.none_is_born.Goals as goal

pub returns-then-is_born : goal.returns-then-is_born
returns-then-is_born c = (λ e. absurd cc, λ none. absurd (one_is (tree_in c.args.old) c.args.new c.old_len-count.ensures.sane c.loop-place.place (sym c.is_born.ensures ∙ c.if-is_born.true) none))

pub returns : goal.returns
returns c = (λ e. none_is (tree_in c.args.old) c.args.new c.loop-place.place (omega arith) c.loop-place.invariant, λ none. refl)
