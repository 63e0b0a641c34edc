use Rattle.mtn_generated_laws.proofs.Siblings.{no_conflict}
use Rattle.mtn_generated_laws.proofs.siblings_do_not_conflict.Goals as goal

pub returns : goal.returns
returns c h parent left right m conflicts grown siblings order is are = no_conflict h parent left right siblings m grown order is conflicts are
