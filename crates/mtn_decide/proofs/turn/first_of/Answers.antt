use Rattle.std.proofs.Common.{refl, sym, ◌∙◌}
use Rattle.mtn_base.specs.Names.{name_cmp}
use Rattle.mtn_base.proofs.Orders.{names_total, exact_names}
use Rattle.mtn_decide.proofs.Turning.{turned}
use Rattle.mtn_decide.proofs.turn.first_of.Goals as goal

pub returns-in-Equal : goal.returns-in-Equal
returns-in-Equal c = (refl, refl, exact_names c.args.left.node.now.name c.args.right.node.now.name (sym c.compare.ensures ∙ c.in-Equal.is))

pub returns-in-Greater : goal.returns-in-Greater
returns-in-Greater c = (refl, turned name_cmp names_total c.args.left.node.now.name c.args.right.node.now.name (sym c.compare.ensures ∙ c.in-Greater.is))
