use Rattle.std.proofs.Common.{◌<◌, subst, arith}
use Rattle.std.proofs.lemmas.Grind.{common_steps}
use Rattle.std.proofs.lemmas.Bool.{false≢true}
use Rattle.mtn_ancestry.specs.Log.{IsLog}
use Rattle.mtn_ancestry.proofs.Ancestry.{IsAncestor-le}
use Rattle.mtn_ancestry.proofs.graph.Graph.is_ancestor.Goals as goal

pub returns-then-lt : goal.returns-then-lt
returns-then-lt c =
    let below : c.args.newer < c.args.older = grind (arith, common_steps) in
    let log : IsLog c.args.self.now = subst IsLog c.entries-log.ensures.value c.entries-log.ensures.log in
    (λ f. absurd (false≢true f), λ a. absurd (omega (arith, IsAncestor-le log.earlier a)))
