use Rattle.std.proofs.Common.{◌≡◌, take, drop}
use Rattle.mtn_changeset_laws.specs.Changes.{first_fault, fault_from}
use Rattle.mtn_apply.specs.Index.{old_of, changes_of}
use Rattle.mtn_apply.proofs.fault.fault_of.Given as goal

abbrev pub invariant-loop-at : goal.invariant-loop-at
invariant-loop-at l = first_fault (old_of l.edge) (changes_of l.edge) ≡ fault_from (old_of l.edge) (changes_of l.edge) (take l.at (changes_of l.edge)) (drop l.at (changes_of l.edge))
