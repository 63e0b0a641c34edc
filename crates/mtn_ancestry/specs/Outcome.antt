-- What a walk over a graph that is asked may answer in place of its result.
use Rattle.mtn_ancestry.specs.declared.walk.WalkError.{WalkError}
use Rattle.mtn_ancestry.specs.declared.walk.WalkError.TheVariants.{Asked, NoMemory}

-- the fact of an error that a question was answered with
abbrev pub IfAsked : {E : Type 0} → WalkError E → (E → Type 0) → Type 0
IfAsked (Asked e) P = P e
IfAsked NoMemory P = Unit {0}

-- memory was wanting
abbrev pub IsNoMemory : {E : Type 0} → WalkError E → Type 0
IsNoMemory (Asked e) = ⊥
IsNoMemory NoMemory = Unit {0}
