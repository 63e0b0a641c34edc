use Rattle.std.proofs.Common.{subst}
use Rattle.std.specs.Prelude.{Option}
use Rattle.mtn_base.specs.declared.refusal.Cause.{Cause}
use Rattle.mtn_imports.specs.Imports.{Matched, ReadsFrom}
use Rattle.mtn_imports.proofs.mismatch_first.Goals as goal

pub returns : goal.returns
returns c f s t packets refusal new cause e is = subst (λ (o : Option Cause). Matched o (λ r u more. ReadsFrom f 1 s packets r u more) refusal t new) e is
