-- That there is nothing is what a keeper tells before it is opened, and no more than an open one does.
use Rattle.std.proofs.Common.{ℕ, false, List, [], Option, None, Some, Ok}
use Rattle.std.specs.Prelude.{IfSome}
use Rattle.std.specs.FinMap.{get-empty}
use Rattle.std.specs.Ordering.{nat_cmp}
use Rattle.std.specs.Cmp.Lexicographic.{slice_cmp}
use Rattle.mtn_ports.specs.declared.keeper.KeepError.{KeepError}
use Rattle.mtn_ports.specs.Kept.{Gets, TellsNextKey, AreKeyed}
use Rattle.mtn_keeper.specs.Missing.{told}

pub gets_none : {X : Type 0} (opened : Option X) (table : ℕ) (key out : List ℕ) → Gets {E = KeepError} (told opened) table key (Ok false) out
gets_none None table key out = get-empty (slice_cmp nat_cmp) key
gets_none (Some x) table key out = tt

pub steps_none : {X : Type 0} (opened : Option X) (table : ℕ) (after key : List ℕ) → TellsNextKey {E = KeepError} (told opened) table after (Ok false) key
steps_none None table after key = λ other above. get-empty (slice_cmp nat_cmp) other
steps_none (Some x) table after key = tt

pub keyed_none : {X : Type 0} (opened : Option X) → IfSome (told opened) AreKeyed
keyed_none None = record { tables = λ table key high. get-empty (slice_cmp nat_cmp) key; keys = λ table. get-empty (slice_cmp nat_cmp) [] }
keyed_none (Some x) = tt
