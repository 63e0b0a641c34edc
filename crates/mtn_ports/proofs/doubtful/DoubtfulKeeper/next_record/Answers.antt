use Rattle.mtn_ports.proofs.DoubtLemmas.{same_if, left_if}
use Rattle.mtn_ports.proofs.doubtful.DoubtfulKeeper.next_record.Goals as goal

pub returns-else-is_err-clause-stays : goal.returns-else-is_err-clause-stays
returns-else-is_err-clause-stays g c = let stays = c.next_record-result.ensures.stays in record {
  same = same_if c.args.self.now.is_clean _ _ stays.same;
  crash = left_if c.args.self.now.is_clean _ _ stays.crash;
  later = stays.later;
}
