-- Counts of one.
use Rattle.std.specs.Prelude.{ℕ, Bool, if◌then◌else◌}

-- one where something is new
abbrev pub one_of : Bool → ℕ
one_of new = if new then 1 else 0
