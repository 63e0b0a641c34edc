use Rattle.mtn_changes.proofs.OneValue.{no_changes_fault, no_revision_fault}
use Rattle.mtn_changes.proofs.laws.lawful_is_read.Goals as goal

pub returns-clause-changes : goal.returns-clause-changes
returns-clause-changes c = no_changes_fault

pub returns-clause-revision : goal.returns-clause-revision
returns-clause-revision c = no_revision_fault
