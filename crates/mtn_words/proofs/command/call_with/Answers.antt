use Rattle.std.specs.Prelude.{codes}
use Rattle.mtn_words.proofs.Names.{not_named}
use Rattle.mtn_words.proofs.command.call_with.Goals as goal

pub returns-in_default : goal.returns-in_default
returns-in_default c =
    let name = c.args.name.now in
    rw (
      not_named name (codes "merge") c.in_default.not-merge,
      not_named name (codes "merge_heads") c.in_default.not-merge_heads,
      not_named name (codes "commit") c.in_default.not-commit,
      not_named name (codes "cert") c.in_default.not-cert,
    ) c.call_without.ensures
