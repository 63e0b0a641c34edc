use Rattle.std.specs.Prelude.{codes}
use Rattle.mtn_words.proofs.Names.{not_named}
use Rattle.mtn_words.proofs.command.call_named.Goals as goal

pub returns-in_default : goal.returns-in_default
returns-in_default c =
    let name = c.args.name.now in
    rw (
      not_named name (codes "put_file") c.in_default.not-put_file,
      not_named name (codes "put_revision") c.in_default.not-put_revision,
      not_named name (codes "get_file") c.in_default.not-get_file,
      not_named name (codes "get_revision") c.in_default.not-get_revision,
      not_named name (codes "key") c.in_default.not-key,
      not_named name (codes "read") c.in_default.not-read,
      not_named name (codes "generate") c.in_default.not-generate,
      not_named name (codes "check") c.in_default.not-check,
      not_named name (codes "migrate") c.in_default.not-migrate,
    ) c.view_named.ensures
