-- What a call answers to a question about a history.
use Rattle.std.specs.Prelude.{ℕ, List, Result, Ok, Err, ⊤}
use Rattle.mtn_answers.specs.Views.{TextAnswer}
use Rattle.mtn_history.specs.declared.errors.HistoryError.{HistoryError}
use Rattle.mtn_history.specs.declared.errors.HistoryError.TheVariants.{Refused, Store}

-- a call gives such an answer, unless the store fails
abbrev pub Gives : (TextAnswer → Type 0) → Result (List ℕ) HistoryError → Type 0
Gives Is (Ok text) = Is (Ok text)
Gives Is (Err (Refused cause)) = Is (Err cause)
Gives Is (Err (Store e)) = ⊤
