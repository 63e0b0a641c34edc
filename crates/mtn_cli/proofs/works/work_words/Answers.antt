use Rattle.mtn_history.specs.Memory.{Knows}
use Rattle.mtn_words.specs.Calls.{call_of}
use Rattle.mtn_cli.proofs.StoreLemmas.{misused, wanted, worked}
use Rattle.mtn_cli.proofs.works.work_words.Goals as goal

pub returns-in-Ok : goal.returns-in-Ok
returns-in-Ok g c =
    worked (g.I.Ident.meaning c.args.ident.now) Knows g.K.Keeper.contents g.K.Keeper.leaves g.K.Keeper.faults g.K.Keeper.reads c.args.payload c.args.keeper.now c.work_call.new.keeper c.work_call.new.memory (call_of c.args.words.now) c.in-Ok.call c.work_call.result c.in-Ok.ensures c.work_call.ensures

pub returns-in-Err-Usage : goal.returns-in-Err-Usage
returns-in-Err-Usage g c =
    misused (g.I.Ident.meaning c.args.ident.now) Knows g.K.Keeper.contents g.K.Keeper.leaves g.K.Keeper.faults g.K.Keeper.reads c.args.payload c.args.keeper.now c.args.memory.now (call_of c.args.words.now) (rw c.in-Err-Usage.field-0-is at c.in-Err-Usage.ensures) c.requires

pub returns : goal.returns
returns g c =
    wanted (g.I.Ident.meaning c.args.ident.now) Knows g.K.Keeper.contents g.K.Keeper.leaves g.K.Keeper.faults g.K.Keeper.reads c.args.payload c.args.keeper.now c.args.memory.now (call_of c.args.words.now) c.requires
