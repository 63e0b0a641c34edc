use Rattle.mtn_certs.proofs.KeyTexting.{next_so_far, refused}
use Rattle.mtn_certs.proofs.key_reading.items_of.Goals as goal

pub loop-at-preserved : goal.loop-at-preserved
loop-at-preserved c = record {
  part = c.in_default-add.ensures.part;
  far = next_so_far c.args.stanzas.now c.loop-at.at c.index-stanzas-at.result c.loop-at.part.items c.add.new.self.items c.loop-at-test.true c.index-stanzas-at.is c.loop-at.invariant.far c.in_default-add.ensures.ok;
}

pub returns-in-Err-clause-err : goal.returns-in-Err-clause-err
returns-in-Err-clause-err c =
    refused c.args.stanzas.now c.loop-at.at c.index-stanzas-at.result c.loop-at.part.items c.in-Err.fault c.loop-at-test.true c.index-stanzas-at.is c.loop-at.invariant.far c.in-Err.ensures.err
