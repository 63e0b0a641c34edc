use Rattle.std.proofs.Common.{ℕ, ◌<◌, length, arith}
use Rattle.std.proofs.lemmas.List.Elements.{All-from_get_or}
use Rattle.mtn_bench.proofs.ancestry.are_within.Goals as goal

pub returns : goal.returns
returns c = λ t. All-from_get_or (λ p. p < length c.args.graph.now) c.args.of.now 0 (λ i h. omega (arith, c.loop-at.invariant i (omega arith), c.len-len.ensures.count))
