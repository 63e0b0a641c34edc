-- What is found over entries is found over the whole records that have them.
use Rattle.std.proofs.Common.{subst}
use Rattle.mtn_make_roster.proofs.Told.{ok_then}
use Rattle.mtn_roster_deltas.specs.Numbering.{shown}
use Rattle.mtn_check_records.specs.Due.{IsFoundOver}
use Rattle.mtn_check_records.proofs.Leading.{found_with}
use Rattle.mtn_check_records.proofs.due.over_known.Goals as goal

pub returns : goal.returns
returns c = ok_then c.over.result _ _ (λ fit is.
    let known = shown c.args.known.now.entries.now in
    found_with c.args.position.now c.args.job.now c.args.stored.now c.args.known.now.places.now c.args.job.now.parents known c.requires.whole fit
    (subst (λ depth. IsFoundOver c.args.position.now c.args.job.now c.args.stored.now c.args.known.now.places.now known depth fit) c.requires.depth is)) c.over.ensures
