use Rattle.std.proofs.Common.{sym, ◌∙◌, subst, List}
use Rattle.mtn_ports.specs.Kept.{with_all}
use Rattle.mtn_ports.specs.declared.batch.Put.{Put}
use Rattle.mtn_history.specs.Memory.{Knows}
use Rattle.mtn_cli.proofs.WorksLemmas.{no_puts}
use Rattle.mtn_cli.proofs.works.kept.Goals as goal

pub returns-then-len-eq0 : goal.returns-then-len-eq0
returns-then-len-eq0 c = λ k known. subst (λ (ps : List Put). Knows c.args.remembered (with_all k ps)) (no_puts c.args.batch.now (sym c.len.ensures ∙ c.if-len-eq0.true)) known
