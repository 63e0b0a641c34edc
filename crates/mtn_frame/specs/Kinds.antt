-- The kinds of the statuses.
use Rattle.std.specs.Prelude.{⊤}
use Rattle.mtn_model.specs.declared.status.Status.{Status}
use Rattle.mtn_model.specs.declared.status.Status.TheVariants.{Ok, Refused, Usage, Conflicts, SourceFault, SinkFault, StoreFault, NoMemory, Damaged, TooLong}

-- all was answered; writing was cut short; the work was halted; nothing was begun; a damage
pub data Kind : Type 0 where
  Answered : Kind
  Cut : Kind
  Halted : Kind
  Quiet : Kind
  Hurt : Kind

abbrev pub kind_of : Status → Kind
kind_of Ok = Answered
kind_of Refused = Answered
kind_of Usage = Answered
kind_of Conflicts = Answered
kind_of SourceFault = Quiet
kind_of SinkFault = Cut
kind_of StoreFault = Halted
kind_of NoMemory = Halted
kind_of Damaged = Hurt
kind_of TooLong = Quiet

-- a fact for each kind
abbrev pub ByKind : Kind → Type 0 → Type 0 → Type 0 → Type 0 → Type 0 → Type 0
ByKind Answered answered cut halted quiet hurt = answered
ByKind Cut answered cut halted quiet hurt = cut
ByKind Halted answered cut halted quiet hurt = halted
ByKind Quiet answered cut halted quiet hurt = quiet
ByKind Hurt answered cut halted quiet hurt = hurt

-- a fact where a command that vouches for the store was done, one where it was refused, and one where it shows a damage
abbrev pub ByVouch : Status → Type 0 → Type 0 → Type 0 → Type 0
ByVouch Ok sound refused hurt = sound
ByVouch Refused sound refused hurt = refused
ByVouch Usage sound refused hurt = ⊤
ByVouch Conflicts sound refused hurt = ⊥
ByVouch SourceFault sound refused hurt = ⊤
ByVouch SinkFault sound refused hurt = ⊤
ByVouch StoreFault sound refused hurt = ⊤
ByVouch NoMemory sound refused hurt = ⊤
ByVouch Damaged sound refused hurt = hurt
ByVouch TooLong sound refused hurt = ⊤
