-- How many records a command may ask for.
use Rattle.std.specs.Prelude.{◌≡◌, ℕ, List}
use Rattle.mtn_model.specs.State.{State}
use Rattle.mtn_put_revision.specs.Reads.{IsBoundOf}
use Rattle.mtn_step.specs.declared.call.Call.{Call}
use Rattle.mtn_step.specs.declared.call.Call.TheVariants.{PutRevision}

-- so many reads are enough for the command, which is said of the one that puts a revision
abbrev pub Asks : (List ℕ → List ℕ) → Call → List ℕ → State → ℕ → Type 0
Asks f call payload s n = (call ≡ PutRevision) × IsBoundOf 38 f s payload n
