use Rattle.std.specs.Prelude.{codes}
use Rattle.mtn_words.proofs.Names.{not_named}
use Rattle.mtn_words.proofs.command.query_named.Goals as goal

pub returns-in_default : goal.returns-in_default
returns-in_default c =
    let name = c.args.name.now in
    rw (
      not_named name (codes "parents") c.in_default.not-parents,
      not_named name (codes "children") c.in_default.not-children,
      not_named name (codes "ancestors") c.in_default.not-ancestors,
      not_named name (codes "descendents") c.in_default.not-descendents,
      not_named name (codes "common_ancestors") c.in_default.not-common_ancestors,
      not_named name (codes "ancestry_difference") c.in_default.not-ancestry_difference,
    ) c.pick_named.ensures
