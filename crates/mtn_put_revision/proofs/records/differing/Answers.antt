-- So does what differs in it.
use Rattle.std.proofs.Common.{Ok, ap}
use Rattle.mtn_put_revision.proofs.Writable.{delta_fits}
use Rattle.mtn_put_revision.proofs.records.differing.Goals as goal

pub returns-in_default-clause-none : goal.returns-in_default-clause-none
returns-in_default-clause-none c = λ same lt up h v t next spells count low.
    let none = c.in_ok-body.ensures.none (ap Ok c.in_default.is) in
    none.1 (delta_fits h v t next c.args.entries spells c.args.at count low c.args.below.now c.args.base c.args.depth c.in_ok-record.record lt (c.in_ok-record.ensures.is up spells.ascending) none.0)
