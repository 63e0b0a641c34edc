-- What is found beside the stored roster, and of the text.
use Rattle.std.proofs.Common.{rules}
use Rattle.mtn_make_roster.proofs.Told.{ok_then}
use Rattle.mtn_check_records.proofs.Leading.{found_all}
use Rattle.mtn_check_records.proofs.fit.found.Goals as goal

pub returns : goal.returns
returns g c =
    let f = g.I.Ident.meaning c.args.ident.now in
    let under = c.is_under_id.ensures.0 (search rules) in
    ok_then c.beside.result _ _ (λ fit is. found_all f c.args.position.now c.args.job.now c.args.revision.now under c.requires.read (search rules) fit is) c.beside.ensures
