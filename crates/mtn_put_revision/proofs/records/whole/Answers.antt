-- Each tree that a history may have next can be written.
use Rattle.std.proofs.Common.{Ok, ap}
use Rattle.mtn_put_revision.proofs.Writable.{whole_fits}
use Rattle.mtn_put_revision.proofs.records.whole.Goals as goal

pub returns-in_default-clause-none : goal.returns-in_default-clause-none
returns-in_default-clause-none c = λ same h v t next spells count low.
    let none = c.in_ok-body.ensures.none (ap Ok c.in_default.is) in
    none.1 (whole_fits h v t next c.args.entries spells c.args.at count low none.0)
