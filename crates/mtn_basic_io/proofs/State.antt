-- What holds of all that was read: the finished stanzas and lines are lawful, and the column and the longest symbol are theirs.
use Rattle.std.specs.Prelude.{◌≡◌, ℕ, ◌+◌, ◌<◌, ◌≤◌, nat_le, Bool, true, List, [], length, Option, Some, None}
use Rattle.std.specs.List.{list_all, AllByRecursion}
use Rattle.mtn_base.specs.Hex.{is_lower_digit}
use Rattle.mtn_basic_io.specs.declared.steps.Head.{Head}
use Rattle.mtn_basic_io.specs.declared.steps.Phase.{Phase}
use Rattle.mtn_basic_io.specs.declared.steps.Phase.TheVariants.{Indent, Symbol, Gap, Quoted, Escaped, Digits, Valued}
use Rattle.mtn_basic_io.specs.declared.steps.Done.{Done}
use Rattle.mtn_basic_io.specs.Spelling.{LineText, is_symbol, IsValue, IsLine, AreStanzas, longest}
use Rattle.mtn_basic_io.specs.Steps.{has_room, ends_at}

abbrev pub fits : Option ℕ → ℕ → Bool
fits None n = true
fits (Some column) n = nat_le n column

pub record IsHead (column : Option ℕ) (h : Head) : Type 0 where
  pub symbol : is_symbol h.symbol ≡ true
  pub column_is : ends_at column (h.spaces + length h.symbol) ≡ true
  pub values : AllByRecursion IsValue h.values

abbrev pub IsPhase : Option ℕ → Phase → Type 0
IsPhase column (Indent n) = has_room column n ≡ true
IsPhase column (Symbol n symbol) = (is_symbol symbol ≡ true) × (fits column (n + length symbol) ≡ true)
IsPhase column (Gap h) = IsHead column h
IsPhase column (Quoted h body) = IsHead column h
IsPhase column (Escaped h body) = IsHead column h
IsPhase column (Digits h digits) = IsHead column h × (list_all is_lower_digit digits ≡ true) × (length digits ≤ 40)
IsPhase column (Valued h) = IsHead column h × (0 < length h.values)

abbrev pub HasColumn : Option ℕ → List LineText → Type 0
HasColumn None lines = lines ≡ []
HasColumn (Some column) lines = (0 < length lines) × (longest lines ≤ column) × (0 < column)

pub record IsDone (d : Done) : Type 0 where
  pub stanzas : AreStanzas d.stanzas
  pub lines : AllByRecursion IsLine d.lines
  pub longest_is : d.longest ≡ longest d.lines
  pub column_is : HasColumn d.column d.lines

abbrev pub IsState : Done → Phase → Type 0
IsState d p = IsDone d × IsPhase d.column p
