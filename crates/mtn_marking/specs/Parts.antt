-- What is handed on within the making of marks.
use Rattle.std.specs.Prelude.{◌≡◌, ◌↔◌, ℕ, List, [], ◌∷◌, Option, Some, None, Contains, IsTrue, map, option_map, slice_get}
use Rattle.mtn_base.specs.Names.{bytes_cmp}
use Rattle.mtn_base.specs.declared.name.NodeName.{NodeName}
use Rattle.mtn_history_laws.specs.Scalars.{Scalar, Value, node_of, value_of}
use Rattle.mtn_history_laws.specs.Scalars.Scalar.{ContentOf, AttrOf}
use Rattle.mtn_history_laws.specs.Scalars.Value.{ContentValue, AttrValue}
use Rattle.mtn_mark_laws.specs.Rule.{Side, IsMarkByRule}
use Rattle.mtn_roster.specs.declared.entry.Attr.{Attr}
use Rattle.mtn_roster.specs.declared.entry.Body.{Body}
use Rattle.mtn_roster.specs.declared.entry.Body.TheVariants.{Dir, File}
use Rattle.mtn_roster.specs.declared.entry.Entry.{Entry}
use Rattle.mtn_roster.specs.Tree.{Tree}
use Rattle.mtn_base.specs.Lists.{rises}
use Rattle.mtn_marking.specs.declared.against.Against.{Against}
use Rattle.mtn_marking.specs.declared.known.ParentNode.{ParentNode}
use Rattle.mtn_marking.specs.declared.side.Have.{Have}
use Rattle.mtn_marking.specs.declared.node.AttrMarks.{AttrMarks}
use Rattle.mtn_marking.specs.declared.node.Marking.{Marking}
use Rattle.mtn_marking.specs.declared.node.NodeMarks.{NodeMarks}
use Rattle.mtn_marking.specs.Marking.{Marks, Basis, IsFor, marks_of, side_of, birth_by, AreByRule}

-- Tells what a parent has of a scalar: nothing, or its marks and whether its value is this one
abbrev pub TellsSide : Value → Option (Side Value) → Option Have → Type 0
TellsSide v None None = Unit {0}
TellsSide v None (Some h) = ⊥
TellsSide v (Some s) None = ⊥
TellsSide v (Some s) (Some h) = (IsTrue h.equal ↔ (v ≡ s.value)) × (h.marks.now ≡ s.marks)

-- the marks are those of the rule, whatever the sides are that were told
abbrev pub AreMarksBy : ℕ → List ℕ → List ℕ → Option Have → Option Have → List ℕ → Type 0
AreMarksBy at only_left only_right left right marks =
    (v : Value) (l r : Option (Side Value)) → TellsSide v l left → TellsSide v r right → (x : ℕ) → Contains marks x ↔ IsMarkByRule Value at v only_left only_right l r x

-- the entry and the marking that a look-up gave
abbrev pub seen : Option ParentNode → Option (Entry × Marking)
seen = option_map (λ (k : ParentNode). (k.node.now, k.marking.now))

-- the keys of the entry ascend, and the marking has the same
abbrev pub IsOrderly : Option (Entry × Marking) → Type 0
IsOrderly None = Unit {0}
IsOrderly (Some k) =
    IsTrue (rises bytes_cmp (map (λ (a : Attr). a.key) k.0.attrs))
    × (map (λ (a : AttrMarks). a.key) k.1.attrs ≡ map (λ (a : Attr). a.key) k.0.attrs)

abbrev pub basis_of : Against → Basis
basis_of a = record {
  at = a.at;
  left = option_map (λ t. t.now) a.left;
  right = option_map (λ t. t.now) a.right;
  only_left = a.only_left.now;
  only_right = a.only_right.now;
}

-- the set of the new position alone is at hand
abbrev pub HasHere : Against → Type 0
HasHere a = a.here.now ≡ a.at ∷ []

-- The marking of an attribute, by what the parents have of the node
pub record IsMarkedAttr (at : ℕ) (only_left only_right : List ℕ) (left right : Option (Entry × Marking)) (a : Attr) (m : AttrMarks) : Type 0 where
  pub key : m.key ≡ a.key
  pub marks : (n : NodeName) (x : ℕ) → Contains m.marks x ↔
      IsMarkByRule Value at (AttrValue a.value) only_left only_right (side_of (AttrOf n a.key) left) (side_of (AttrOf n a.key) right) x

-- The marking of a node
pub record IsMarkedNode (b : Basis) (e : Entry) (m : NodeMarks) : Type 0 where
  pub fits : IsFor e m
  pub birth : m.marking.birth ≡ birth_by b e.name
  pub each : (s : Scalar) → node_of s ≡ e.name → AreByRule b s (value_of s e) (marks_of s m.marking)

-- The marks of a content, by what the parents have of the node
abbrev pub IsMarkedContent : NodeName → (at : ℕ) (only_left only_right : List ℕ) (left right : Option (Entry × Marking)) → Body → Option (List ℕ) → Type 0
IsMarkedContent n at only_left only_right left right Dir None = Unit {0}
IsMarkedContent n at only_left only_right left right Dir (Some marks) = ⊥
IsMarkedContent n at only_left only_right left right (File content) None = ⊥
IsMarkedContent n at only_left only_right left right (File content) (Some marks) = (x : ℕ) → Contains marks x ↔
    IsMarkByRule Value at (ContentValue content) only_left only_right (side_of (ContentOf n) left) (side_of (ContentOf n) right) x

-- both have a node at the place, and the marking is one of the entry
abbrev pub IsForBoth : Option Entry → Option NodeMarks → Type 0
IsForBoth None m = ⊥
IsForBoth (Some e) None = ⊥
IsForBoth (Some e) (Some m) = IsFor e m

abbrev pub IsForAt : Tree → Marks → ℕ → Type 0
IsForAt t ms k = IsForBoth (slice_get t k) (slice_get ms k)
