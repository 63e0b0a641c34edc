use Rattle.mtn_sending.proofs.Placed.{asked_known, bare_history, tells_bare}
use Rattle.mtn_sending.proofs.exporting.revisions.Goals as goal

pub returns-in-Ok-clause-known : goal.returns-in-Ok-clause-known
returns-in-Ok-clause-known c =
    let log = c.args.graph.now in
    asked_known log c.args.id c.from_vec.result c.in-Ok.ids (c.in-Ok.ensures (bare_history log) (tells_bare log)).1
