use Rattle.std.proofs.Common.{ap, subst}
use Rattle.mtn_branches.specs.Graphs.{IsHeldBy}
use Rattle.mtn_certs.specs.Certificates.{Certificate}
use Rattle.mtn_ports.proofs.KeptLemmas.{stays_trans}
use Rattle.mtn_put_certs.proofs.LoggedLemmas.{shows_cert, shows_log, shows_text}
use Rattle.mtn_put_certs.proofs.logged.unlogged.Goals as goal

pub returns-in-Ok-Some-clause-stays : goal.returns-in-Ok-Some-clause-stays
returns-in-Ok-Some-clause-stays g c = stays_trans g.K.Keeper.contents g.K.Keeper.leaves g.K.Keeper.faults _ _ _ c.placed.ensures.asks.stays c.log_held.ensures.asks.stays

pub returns-in-Ok-Some-clause-damaged : goal.returns-in-Ok-Some-clause-damaged
returns-in-Ok-Some-clause-damaged g c d log now counts read unknown recorded =
    let shows = ap (λ (v : Certificate). v.revision) c.cert.view_is in
    shows_log d c.args.draft.now.pending log c.cert.inside.revision c.in-Ok-Some.at (rw c.in-Ok-Some.field-0-is at c.in-Ok-Some.ensures.below) counts read (λ held. unknown (subst (IsHeldBy log) shows held))
    (g.K.Keeper.contents c.placed.new.self.keeper.now) (g.K.Keeper.contents c.log_held.new.self.keeper.now) c.placed.new.self.pending c.in-Ok-Some.field-0 _ c.log_held.result
    (c.log_held.ensures.asks.stays.same d now) now c.placed.ensures.asks.pending c.in-Ok-Some.field-0-is c.in-Ok-Some.ensures.found c.log_held.ensures.damaged

pub returns-in-Ok-None-clause-stays : goal.returns-in-Ok-None-clause-stays
returns-in-Ok-None-clause-stays g c = stays_trans g.K.Keeper.contents g.K.Keeper.leaves g.K.Keeper.faults _ _ _ c.placed.ensures.asks.stays c.cert_held.ensures.asks.stays

pub returns-in-Ok-None-clause-damaged : goal.returns-in-Ok-None-clause-damaged
returns-in-Ok-None-clause-damaged g c d log now counts read unknown recorded =
    shows_cert d c.args.draft.now.pending c.placed.new.self.pending c.args.cert.now (g.K.Keeper.contents c.placed.new.self.keeper.now) c.cert.inside.revision c.in-Ok-None.field-0 _ c.cert_held.result
    c.placed.ensures.asks.pending (ap (λ (v : Certificate). v.revision) c.cert.view_is) (c.cert_held.ensures.asks.stays.same d now) c.in-Ok-None.field-0-is recorded c.in-Ok-None.ensures.read (c.cert_held.ensures.damaged d now)

pub returns-clause-damaged : goal.returns-clause-damaged
returns-clause-damaged g c d log now counts read unknown recorded = shows_text d c.args.draft.now.pending (g.K.Keeper.contents c.placed.new.self.keeper.now) c.in-Err.error now counts c.in-Err.ensures.damaged
