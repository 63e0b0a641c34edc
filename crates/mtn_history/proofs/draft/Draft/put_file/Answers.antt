use Rattle.std.proofs.Common.{ap, ◌∙◌}
use Rattle.mtn_history.proofs.draft.Draft.put_file.Goals as goal

pub returns-clause-accepts : goal.returns-clause-accepts
returns-clause-accepts g c d s told draft =
    let is = c.id-id.ensures ∙ ap (g.I.Ident.meaning c.args.ident.now) c.as_slice-text.ensures in
    let kept = c.in_ok-put_file_as.ensures.accepts (g.I.Ident.meaning c.args.ident.now) d s told draft is in
    (is, kept.0, kept.1)
