-- The positions that marks name.
use Rattle.std.specs.Prelude.{◌≡◌, ℕ, List, [], ◌++◌, Some, Contains, unwrap_or}
use Rattle.std.specs.List.{flat_map}
use Rattle.mtn_history_laws.specs.Scalars.{Scalar}
use Rattle.mtn_marking.specs.Marking.{Marks, marks_in}
use Rattle.mtn_marking.specs.declared.node.AttrMarks.{AttrMarks}
use Rattle.mtn_marking.specs.declared.node.Marking.{Marking}
use Rattle.mtn_marking.specs.declared.node.NodeMarks.{NodeMarks}

-- the position is a mark of some scalar
abbrev pub IsMarkIn : Marks → ℕ → Type 0
IsMarkIn marks x = (s : Scalar) × (set : List ℕ) × (marks_in marks s ≡ Some set) × Contains set x

-- the marks of the slot of a node, of its content and of its attributes
abbrev pub positions_of : Marking → List ℕ
positions_of m = m.slot ++ (unwrap_or m.content [] ++ flat_map (λ (a : AttrMarks). a.marks) m.attrs)

abbrev pub all_positions : Marks → List ℕ
all_positions marks = flat_map (λ (n : NodeMarks). positions_of n.marking) marks
