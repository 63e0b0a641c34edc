use Rattle.mtn_changes.proofs.OneValue.{same_changes, same_revision}
use Rattle.mtn_changes.proofs.laws.one_value.Goals as goal

pub returns-clause-changes : goal.returns-clause-changes
returns-clause-changes c = same_changes

pub returns-clause-revision : goal.returns-clause-revision
returns-clause-revision c = same_revision
