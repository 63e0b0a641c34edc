-- What a command comes to, and the numbers of the statuses (our choice).
use Rattle.std.specs.Prelude.{ℕ, List}
use Rattle.mtn_model.specs.State.{State}
use Rattle.mtn_model.specs.declared.status.Status.{Status}
use Rattle.mtn_model.specs.declared.status.Status.TheVariants.{Ok, Refused, Usage, Conflicts, SourceFault, SinkFault, StoreFault, NoMemory, Damaged, TooLong}

-- the new state, the output, and how the command ends
pub record Outcome : Type 0 where
  pub state : State
  pub output : List ℕ
  pub status : Status

-- the program's exit status
abbrev pub number_of : Status → ℕ
number_of Ok = 0
number_of Refused = 1
number_of Usage = 2
number_of Conflicts = 3
number_of SourceFault = 4
number_of SinkFault = 5
number_of StoreFault = 6
number_of NoMemory = 7
number_of Damaged = 8
number_of TooLong = 9
