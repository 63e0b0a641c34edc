-- The whole graph as lines: each revision with its parents (Monotone's manual: automate graph).
use Rattle.std.specs.Prelude.{List, map, All}
use Rattle.mtn_history_laws.specs.History.{Revision}
use Rattle.mtn_base.specs.Ids.{by_id}
use Rattle.mtn_base.specs.Lists.{IsListOf}
use Rattle.mtn_answers.specs.Queries.{IsHeld, IsParent}
use Rattle.mtn_answers.specs.declared.query.Line.{Line}

-- a line has exactly the parents of its revision, ascending
abbrev pub HasParents : List Revision → Line → Type 0
HasParents h line = IsListOf by_id (λ x. IsParent h x line.id) line.parents

-- a line for each revision, by ascending ids
pub record IsGraph (h : List Revision) (lines : List Line) : Type 0 where
  pub ids : IsListOf by_id (IsHeld h) (map (λ (line : Line). line.id) lines)
  pub parents : All (HasParents h) lines
