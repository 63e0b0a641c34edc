-- Marks with the same members. Private functions alone cite this.
use Rattle.std.specs.Prelude.{◌≡◌, ◌↔◌, ℕ, List, Option, Some, None, Contains}
use Rattle.std.specs.List.{AllZip}
use Rattle.mtn_marking.specs.declared.node.AttrMarks.{AttrMarks}
use Rattle.mtn_marking.specs.declared.node.NodeMarks.{NodeMarks}
use Rattle.mtn_marking.specs.Marking.{Marks}

abbrev pub HaveSame : List ℕ → List ℕ → Type 0
HaveSame a b = (x : ℕ) → Contains a x ↔ Contains b x

-- both are sets with the same members, or none is there
abbrev pub BothHaveSame : Option (List ℕ) → Option (List ℕ) → Type 0
BothHaveSame None None = Unit {0}
BothHaveSame None (Some b) = ⊥
BothHaveSame (Some a) None = ⊥
BothHaveSame (Some a) (Some b) = HaveSame a b

pub record IsLikeAttr (a b : AttrMarks) : Type 0 where
  pub key : a.key ≡ b.key
  pub marks : HaveSame a.marks b.marks

pub record IsLike (m n : NodeMarks) : Type 0 where
  pub name : m.name ≡ n.name
  pub birth : m.marking.birth ≡ n.marking.birth
  pub slot : HaveSame m.marking.slot n.marking.slot
  pub content : BothHaveSame m.marking.content n.marking.content
  pub attrs : AllZip IsLikeAttr m.marking.attrs n.marking.attrs

-- node by node the same births and marks
abbrev pub AreLike : Marks → Marks → Type 0
AreLike = AllZip IsLike

-- both have a node, and the nodes are alike; or none is there
abbrev pub AreLikeAt : Option NodeMarks → Option NodeMarks → Type 0
AreLikeAt None None = Unit {0}
AreLikeAt None (Some n) = ⊥
AreLikeAt (Some m) None = ⊥
AreLikeAt (Some m) (Some n) = IsLike m n
