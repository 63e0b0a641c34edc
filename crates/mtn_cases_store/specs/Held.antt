-- What the keeper of a session counts.
use Rattle.std.specs.Prelude.{ℕ}
use Rattle.mtn_cases_store.specs.declared.held.Held.{Held}
use Rattle.mtn_cases_store.specs.declared.held.Held.TheVariants.{Plain, Doubtful}

abbrev pub faults_of : Held → ℕ
faults_of (Plain keeper) = keeper.faults
faults_of (Doubtful keeper) = keeper.keeper.faults

abbrev pub reads_of : Held → ℕ
reads_of (Plain keeper) = keeper.reads
reads_of (Doubtful keeper) = keeper.keeper.reads
