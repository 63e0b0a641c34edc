-- The text of a revision with one edge, as it is read.
use Rattle.std.specs.Prelude.{◌≡◌, ℕ, List, [], ◌∷◌}
use Rattle.mtn_changes.specs.declared.change.Edge.{Edge}
use Rattle.mtn_changes.specs.declared.change.Revision.{Revision as Spelled}
use Rattle.mtn_generated.specs.Numbered.{edge_text}
use Rattle.mtn_history_laws.specs.History.{Revision}
use Rattle.mtn_replay.specs.Lawful.{Spells}

-- it spells a revision that has this edge alone
abbrev pub IsReadAs : (List ℕ → List ℕ) → List Revision → Edge → Type 0
IsReadAs f h e = (read : Spelled) × (read.edges ≡ e ∷ []) × Spells (edge_text f h e) read
