-- private, for the proof of decide: what is handed on within the making of decisions
use Rattle.std.specs.Prelude.{◌≡◌, ◌↔◌, ℕ, false, IsTrue, List, [], ◌∷◌, Option, Some, None, map, option_map, slice_get}
use Rattle.std.specs.declared.cmp.Ordering.TheVariants.{Less}
use Rattle.mtn_base.specs.Names.{bytes_cmp, name_cmp}
use Rattle.mtn_base.specs.declared.name.NodeName.{NodeName}
use Rattle.mtn_history_laws.specs.Scalars.{Scalar, Value, node_of}
use Rattle.mtn_history_laws.specs.Scalars.Value.{ContentValue, AttrValue}
use Rattle.mtn_mark_laws.specs.Rule.{Side, AllKnown}
use Rattle.mtn_marking.specs.Marking.{MarkedTree, paired, side, side_of, attr_marks_of}
use Rattle.mtn_marking.specs.declared.node.AttrMarks.{AttrMarks}
use Rattle.mtn_marking.specs.declared.node.Marking.{Marking}
use Rattle.mtn_marking.specs.declared.node.NodeMarks.{NodeMarks}
use Rattle.mtn_roster.specs.declared.entry.Attr.{Attr}
use Rattle.mtn_roster.specs.declared.entry.Entry.{Entry}
use Rattle.mtn_roster.specs.Attrs.{are_keyed}
use Rattle.mtn_roster.specs.Tree.{attr_of}
use Rattle.mtn_base.specs.Lists.{rises}
use Rattle.mtn_decide.specs.declared.decision.AttrDecision.{AttrDecision}
use Rattle.mtn_decide.specs.declared.decision.Decision.{Decision}
use Rattle.mtn_decide.specs.declared.decision.Pending.{Pending}
use Rattle.mtn_decide.specs.declared.fate.Fate.{Fate}
use Rattle.mtn_decide.specs.declared.fate.Fate.TheVariants.{Gone, Live, Held}
use Rattle.mtn_decide.specs.declared.known.Content.{Content}
use Rattle.mtn_decide.specs.declared.known.SideNode.{SideNode}
use Rattle.mtn_decide.specs.declared.known.SideAttr.{SideAttr}
use Rattle.mtn_decide.specs.declared.known.AttrTurn.{AttrTurn}
use Rattle.mtn_decide.specs.declared.known.AttrTurn.TheVariants.{Left as LeftAttr, Right as RightAttr, Both as BothAttrs}
use Rattle.mtn_decide.specs.declared.known.Turn.{Turn}
use Rattle.mtn_decide.specs.declared.known.Turn.TheVariants.{Left, Right, Both}
use Rattle.mtn_decide.specs.Decisions.{has_keys_in_order, is_absent, choice_of}
use Rattle.mtn_decide.specs.Verdicts.{Verdict, verdict_of, attr_verdict}
use Rattle.mtn_decide.specs.Sets.{LivesWith, IsVerdict, IsPendingWith}

-- the entry and the marking of a node
abbrev pub seen : SideNode → Entry × Marking
seen k = (k.node.now, k.marking.now)

-- what each side has of the node whose turn it is
abbrev pub left_of : Turn → Option (Entry × Marking)
left_of (Left l) = Some (seen l)
left_of (Right r) = None
left_of (Both l r) = Some (seen l)

abbrev pub right_of : Turn → Option (Entry × Marking)
right_of (Left l) = None
right_of (Right r) = Some (seen r)
right_of (Both l r) = Some (seen r)

-- the name of that node
abbrev pub turn_name : Turn → NodeName
turn_name (Left l) = l.node.now.name
turn_name (Right r) = r.node.now.name
turn_name (Both l r) = l.node.now.name

-- how many nodes of left and of right are done with it
abbrev pub turn_steps : Turn → ℕ × ℕ
turn_steps (Left l) = (1, 0)
turn_steps (Right r) = (0, 1)
turn_steps (Both l r) = (1, 1)

-- what a marked tree has at a place
abbrev pub known_at : MarkedTree → ℕ → Option (Entry × Marking)
known_at t k = paired (slice_get t.tree k) (option_map (λ (m : NodeMarks). m.marking) (slice_get t.marks k))

-- the tree has no node at the place, or one with a name above n
abbrev pub IsNodeAbove : List Entry → ℕ → NodeName → Type 0
IsNodeAbove es k n = (e : Entry) → slice_get es k ≡ Some e → name_cmp n e.name ≡ Less

-- the least of the names at two places, and which sides have it; none where both trees are at their ends
abbrev pub IsTurn : (left right : MarkedTree) → (l r : ℕ) → Option Turn → Type 0
IsTurn left right l r None = (slice_get left.tree l ≡ None) × (slice_get right.tree r ≡ None)
IsTurn left right l r (Some (Left k)) = (known_at left l ≡ Some (seen k)) × IsNodeAbove right.tree r k.node.now.name
IsTurn left right l r (Some (Right k)) = (known_at right r ≡ Some (seen k)) × IsNodeAbove left.tree l k.node.now.name
IsTurn left right l r (Some (Both k m)) = (known_at left l ≡ Some (seen k)) × (known_at right r ≡ Some (seen m)) × (k.node.now.name ≡ m.node.now.name)

-- the one of two nodes with the lesser name, or both
abbrev pub IsFirst : SideNode → SideNode → Turn → Type 0
IsFirst l r (Left k) = (seen k ≡ seen l) × (name_cmp l.node.now.name r.node.now.name ≡ Less)
IsFirst l r (Right k) = (seen k ≡ seen r) × (name_cmp r.node.now.name l.node.now.name ≡ Less)
IsFirst l r (Both k m) = (seen k ≡ seen l) × (seen m ≡ seen r) × (l.node.now.name ≡ r.node.now.name)

-- the value and the marks of an attribute
abbrev pub attr_side : SideAttr → Side Value
attr_side k = record { value = AttrValue k.attr.now.value; marks = k.marks.now }

-- the list has no attribute at the place, or one with a key above k
abbrev pub IsAttrAbove : List Attr → ℕ → List ℕ → Type 0
IsAttrAbove as' at k = (a : Attr) → slice_get as' at ≡ Some a → bytes_cmp k a.key ≡ Less

-- the attribute at a place, and its marks
abbrev pub IsAttrAt : List Attr → List AttrMarks → ℕ → SideAttr → Type 0
IsAttrAt as' ms at k = (slice_get as' at ≡ Some k.attr.now) × (option_map (λ (m : AttrMarks). m.marks) (slice_get ms at) ≡ Some k.marks.now)

-- the same for attributes: the least of the keys at two places
abbrev pub IsAttrTurn : (la : List Attr) (lm : List AttrMarks) (ra : List Attr) (rm : List AttrMarks) → (l r : ℕ) → Option AttrTurn → Type 0
IsAttrTurn la lm ra rm l r None = (slice_get la l ≡ None) × (slice_get ra r ≡ None)
IsAttrTurn la lm ra rm l r (Some (LeftAttr k)) = IsAttrAt la lm l k × IsAttrAbove ra r k.attr.now.key
IsAttrTurn la lm ra rm l r (Some (RightAttr k)) = IsAttrAt ra rm r k × IsAttrAbove la l k.attr.now.key
IsAttrTurn la lm ra rm l r (Some (BothAttrs k m)) = IsAttrAt la lm l k × IsAttrAt ra rm r m × (k.attr.now.key ≡ m.attr.now.key)

-- what is known of an attribute
abbrev pub seen_attr : SideAttr → Attr × List ℕ
seen_attr k = (k.attr.now, k.marks.now)

-- the one of two attributes with the lesser key, or both
abbrev pub IsFirstAttr : SideAttr → SideAttr → AttrTurn → Type 0
IsFirstAttr l r (LeftAttr k) = (seen_attr k ≡ seen_attr l) × (bytes_cmp l.attr.now.key r.attr.now.key ≡ Less)
IsFirstAttr l r (RightAttr k) = (seen_attr k ≡ seen_attr r) × (bytes_cmp r.attr.now.key l.attr.now.key ≡ Less)
IsFirstAttr l r (BothAttrs k m) = (seen_attr k ≡ seen_attr l) × (seen_attr m ≡ seen_attr r) × (l.attr.now.key ≡ r.attr.now.key)

abbrev pub attr_left : AttrTurn → Option (Side Value)
attr_left (LeftAttr l) = Some (attr_side l)
attr_left (RightAttr r) = None
attr_left (BothAttrs l r) = Some (attr_side l)

abbrev pub attr_right : AttrTurn → Option (Side Value)
attr_right (LeftAttr l) = None
attr_right (RightAttr r) = Some (attr_side r)
attr_right (BothAttrs l r) = Some (attr_side r)

abbrev pub attr_key : AttrTurn → List ℕ
attr_key (LeftAttr l) = l.attr.now.key
attr_key (RightAttr r) = r.attr.now.key
attr_key (BothAttrs l r) = l.attr.now.key

-- how many attributes of left and of right are done with it
abbrev pub attr_steps : AttrTurn → ℕ × ℕ
attr_steps (LeftAttr l) = (1, 0)
attr_steps (RightAttr r) = (0, 1)
attr_steps (BothAttrs l r) = (1, 1)

-- what a side has of the attribute of a key
abbrev pub attr_side_in : List Attr → List AttrMarks → List ℕ → Option (Side Value)
attr_side_in as' ms k = side (option_map AttrValue (attr_of as' k)) (attr_marks_of ms k)

-- the marks have the keys of the attributes, which ascend
pub record AreKeyedAlike (as' : List Attr) (ms : List AttrMarks) : Type 0 where
  pub rising : IsTrue (are_keyed as')
  pub same : map (λ (m : AttrMarks). m.key) ms ≡ map (λ (a : Attr). a.key) as'

abbrev pub IsOrderly : Option (Entry × Marking) → Type 0
IsOrderly None = Unit {0}
IsOrderly (Some k) = AreKeyedAlike k.0.attrs k.1.attrs

abbrev pub attrs_of : Option (Entry × Marking) → List Attr
attrs_of None = []
attrs_of (Some k) = k.0.attrs

abbrev pub marks_of_attrs : Option (Entry × Marking) → List AttrMarks
marks_of_attrs None = []
marks_of_attrs (Some k) = k.1.attrs

-- the content of a file, and its marks
abbrev pub content_side : Content → Side Value
content_side c = record { value = ContentValue c.id; marks = c.marks.now }

-- the side has the content, and the other does not know all its marks
abbrev pub IsChanged : Option (Side Value) → List ℕ → Type 0
IsChanged None only = ⊥
IsChanged (Some s) only = ¬ AllKnown s.marks only

-- What is decided of the attributes, by what each side has of them
pub record AreAttrsWith (only_left only_right : List ℕ) (left right : List ℕ → Option (Side Value)) (ds : List AttrDecision) : Type 0 where
  pub rising : IsTrue (rises bytes_cmp (map (λ (a : AttrDecision). a.key) ds))
  pub each : (k : List ℕ) (v : Verdict) → (option_map attr_verdict (choice_of ds k) ≡ Some v) ↔ IsVerdict only_left only_right (left k) (right k) v

-- What is decided of a live node
pub record IsDecisionWith (only_left only_right : List ℕ) (n : NodeName) (l r : Option (Entry × Marking)) (d : Decision) : Type 0 where
  pub name : d.name ≡ n
  pub unborn : d.reborn ≡ false
  pub kind : is_absent d.content ≡ d.is_dir
  pub keys : IsTrue (has_keys_in_order d)
  pub verdicts : (s : Scalar) → node_of s ≡ n → (v : Verdict) → (verdict_of s d ≡ Some v) ↔ IsVerdict only_left only_right (side_of s l) (side_of s r) v

-- What comes of a node: it lives, or it is pending, or it is gone
abbrev pub IsFate : (only_left only_right : List ℕ) → NodeName → Option (Entry × Marking) → Option (Entry × Marking) → Fate → Type 0
IsFate only_left only_right n l r (Live d) = LivesWith only_left only_right l r × IsDecisionWith only_left only_right n l r d
IsFate only_left only_right n l r (Held p) = (¬ LivesWith only_left only_right l r) × IsPendingWith only_left only_right n l r p
IsFate only_left only_right n l r Gone = (¬ LivesWith only_left only_right l r) × ((p : Pending) → ¬ IsPendingWith only_left only_right n l r p)

-- what is added to the lists for it
abbrev pub live_part : Fate → List Decision
live_part (Live d) = d ∷ []
live_part (Held p) = []
live_part Gone = []

abbrev pub held_part : Fate → List Pending
held_part (Live d) = []
held_part (Held p) = p ∷ []
held_part Gone = []
