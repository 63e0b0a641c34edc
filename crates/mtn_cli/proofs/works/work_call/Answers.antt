use Rattle.std.proofs.Common.{sym}
use Rattle.mtn_history.specs.Memory.{Knows}
use Rattle.mtn_cli.proofs.CheckLemmas.{remembering}
use Rattle.mtn_cli.proofs.MigrateLemmas.{forgetting}
use Rattle.mtn_cli.proofs.works.work_call.Goals as goal

pub work_shown-requires-clause-unchecked : goal.work_shown-requires-clause-unchecked
work_shown-requires-clause-unchecked g c = λ κs alive. c.in_default.not-Check

pub work_shown-requires-clause-unmigrated : goal.work_shown-requires-clause-unmigrated
work_shown-requires-clause-unmigrated g c = λ κs alive. c.in_default.not-Migrate

pub returns-in-Check : goal.returns-in-Check
returns-in-Check g c =
    remembering (g.I.Ident.meaning c.args.ident.now) g.K.Keeper.contents g.K.Keeper.leaves g.K.Keeper.faults g.K.Keeper.reads c.args.keeper.now c.check.new.keeper c.check.ensures.stays Knows c.args.memory.now c.args.call.now c.args.payload c.check.result c.in-Check.is c.requires c.check.ensures

pub returns-in-Migrate : goal.returns-in-Migrate
returns-in-Migrate g c =
    let all = c.migrate_store.ensures (g.I.Ident.meaning c.args.ident.now) in
    rw (sym c.as_slice.ensures) (forgetting (g.I.Ident.meaning c.args.ident.now) g.K.Keeper.contents g.K.Keeper.leaves g.K.Keeper.faults g.K.Keeper.reads c.args.keeper.now c.migrate_store.new.keeper c.as_slice.result.now all.stays Knows c.new.result c.args.call.now c.migrate_store.result c.in-Migrate.is c.new.ensures all)
