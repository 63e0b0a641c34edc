use Rattle.std.proofs.Common.{◌≡◌, drop}
use Rattle.mtn_changeset_laws.specs.Changes.{first_reason as first_of}
use Rattle.mtn_apply.proofs.why.first_reason.Given as goal

abbrev pub invariant-loop-reason : goal.invariant-loop-reason
invariant-loop-reason l = first_of l.reasons ≡ first_of (drop l.reason-index l.reasons)
