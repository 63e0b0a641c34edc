use Rattle.std.proofs.Common.{sym, ap, ◌∙◌}
use Rattle.mtn_replay.specs.Files.{with_file}
use Rattle.mtn_step.specs.Step.{done, unless, id_line}
use Rattle.mtn_commands.proofs.put_file.put_file.Goals as goal

pub returns-clause-drafts : goal.returns-clause-drafts
returns-clause-drafts g c =
    let f = g.I.Ident.meaning c.args.ident.now in
    let payload = c.args.payload in
    record {
      stays = c.in_ok-id.ensures.stays;
      done = λ k s told draft.
          let accepted = c.in_ok-id.ensures.accepts k s told draft in (
            with_file f s payload,
            ap (done (with_file f s payload)) (c.in_ok-id_text.ensures ∙ ap id_line accepted.0) ∙ sym (ap (λ r. unless r s (with_file f s payload) (id_line (f payload))) accepted.1),
            accepted.2,
          );
      reason = λ counted. tt;
    }
