use Rattle.mtn_changes.proofs.Unsorted.{unsorted, unsorted_edges}
use Rattle.mtn_changes.proofs.laws.lawful_in_any_order.Goals as goal

pub returns-clause-changes : goal.returns-clause-changes
returns-clause-changes c = unsorted

pub returns-clause-edges : goal.returns-clause-edges
returns-clause-edges c = unsorted_edges
