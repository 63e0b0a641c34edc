use Rattle.std.specs.Prelude.{codes}
use Rattle.mtn_words.proofs.Names.{not_named}
use Rattle.mtn_words.proofs.command.view_named.Goals as goal

pub returns-in_default : goal.returns-in_default
returns-in_default c =
    let name = c.args.name.now in
    rw (
      not_named name (codes "get_manifest_of") c.in_default.not-get_manifest_of,
      not_named name (codes "get_roster") c.in_default.not-get_roster,
      not_named name (codes "get_content_changed") c.in_default.not-get_content_changed,
      not_named name (codes "get_corresponding_path") c.in_default.not-get_corresponding_path,
      not_named name (codes "show_conflicts") c.in_default.not-show_conflicts,
      not_named name (codes "certs") c.in_default.not-certs,
    ) c.ask_named.ensures
