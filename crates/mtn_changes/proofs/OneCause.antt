-- A stanza has one cause why it may not follow.
use Rattle.std.proofs.Common.{◌≡◌, ◌≢◌, ◌⊎◌, ℕ, ◌+◌, ◌<◌, List, [], ◌∷◌, length, Option, refl, sym, ap, subst, ◌∙◌, inl, inr, arith}
use Rattle.mtn_base.specs.declared.id.Id.{Id}
use Rattle.mtn_basic_io.specs.Spelling.{LineText}
use Rattle.mtn_changes.specs.declared.change.Change.{Change}
use Rattle.mtn_changes.specs.declared.change.Edge.{Edge}
use Rattle.mtn_changes.specs.declared.head.Head.{Head}
use Rattle.mtn_changes.specs.declared.head.Head.TheVariants.{Parent}
use Rattle.mtn_changes.specs.declared.order.Fault.{Fault}
use Rattle.mtn_changes.specs.declared.order.Fault.TheVariants.{BadStanza, BadOrder, Repeated, BadEdge, NoMemory}
use Rattle.mtn_changes.specs.Changes.{rank}
use Rattle.mtn_changes.specs.Stanzas.{stanza_of}
use Rattle.mtn_changes.specs.Heads.{head_stanza, head_rank}
use Rattle.mtn_changes.specs.Lists.{last_rank, StandsBehind, IsFault}
use Rattle.mtn_changes.specs.RevisionText.{Ascend, IsHeadFault, IsOnlyEdgeFault, IsNextFault}
use Rattle.mtn_changes.proofs.Decoded.{one_change, one_head, one_parent, no_both}
use Rattle.mtn_changes.proofs.Splits.{no_fault}

-- ---- behind changes

no_stanza : (before : List Change) (s : List LineText) → IsFault before s BadStanza → IsFault before s BadOrder → ⊥
no_stanza before s f (inl h) = f.1 h.0 h.1
no_stanza before s f (inr c) = f.0 c.0 c.1 c.2

in_order : (before : List Change) (s : List LineText) → IsFault before s BadOrder → IsFault before s Repeated → ⊥
in_order before s (inl h) g = no_both h.0 g.0 g.1 (sym h.1 ∙ g.2)
in_order before s (inr c) g =
    let e : c.0 ≡ g.0 = one_change c.0 g.0 c.1 g.1 (sym c.2 ∙ g.2) in
    let low : rank g.0 < last_rank before = subst (λ (x : Change). rank x < last_rank before) e c.3 in
    omega (arith, low, g.3)

pub one_cause : (before : List Change) (s : List LineText) (a b : Fault) → a ≢ NoMemory → b ≢ NoMemory → IsFault before s a → IsFault before s b → a ≡ b
one_cause before s BadEdge b na nb f g = absurd f
one_cause before s NoMemory b na nb f g = absurd (na refl)
one_cause before s a BadEdge na nb f g = absurd g
one_cause before s a NoMemory na nb f g = absurd (nb refl)
one_cause before s BadStanza BadStanza na nb f g = refl
one_cause before s BadStanza BadOrder na nb f g = absurd (no_stanza before s f g)
one_cause before s BadStanza Repeated na nb f g = absurd (f.0 g.0 g.1 g.2)
one_cause before s BadOrder BadStanza na nb f g = absurd (no_stanza before s g f)
one_cause before s BadOrder BadOrder na nb f g = refl
one_cause before s BadOrder Repeated na nb f g = absurd (in_order before s f g)
one_cause before s Repeated BadStanza na nb f g = absurd (g.0 f.0 f.1 f.2)
one_cause before s Repeated BadOrder na nb f g = absurd (in_order before s g f)
one_cause before s Repeated Repeated na nb f g = refl

-- ---- where a head has to stand

no_head : (r : ℕ) (s : List LineText) → IsHeadFault r s BadStanza → IsHeadFault r s BadOrder → ⊥
no_head r s f (inl h) = f.1 h.0 h.1
no_head r s f (inr c) = f.0 c.0 c.1 c.2

head_cause : (r : ℕ) (s : List LineText) (a b : Fault) → a ≢ NoMemory → b ≢ NoMemory → IsHeadFault r s a → IsHeadFault r s b → a ≡ b
head_cause r s Repeated b na nb f g = absurd f
head_cause r s BadEdge b na nb f g = absurd f
head_cause r s NoMemory b na nb f g = absurd (na refl)
head_cause r s a Repeated na nb f g = absurd g
head_cause r s a BadEdge na nb f g = absurd g
head_cause r s a NoMemory na nb f g = absurd (nb refl)
head_cause r s BadStanza BadStanza na nb f g = refl
head_cause r s BadStanza BadOrder na nb f g = absurd (no_head r s f g)
head_cause r s BadOrder BadStanza na nb f g = absurd (no_head r s g f)
head_cause r s BadOrder BadOrder na nb f g = refl

-- the head that has to stand there has no fault
pub right_head : (h : Head) (r : ℕ) (s : List LineText) (why : Fault) → head_rank h ≡ r → s ≡ head_stanza h → IsHeadFault r s why → why ≡ NoMemory
right_head h r s BadStanza is_r is f = absurd (f.1 h is)
right_head h r s BadOrder is_r is (inl k) = absurd (k.2 (ap head_rank (one_head k.0 h (sym k.1 ∙ is)) ∙ is_r))
right_head h r s BadOrder is_r is (inr c) = absurd (no_both h c.0 c.1 (sym is ∙ c.2))
right_head h r s Repeated is_r is f = absurd f
right_head h r s BadEdge is_r is f = absurd f
right_head h r s NoMemory is_r is f = refl

-- ---- behind the only edge so far

-- it is a parent that does not follow, or it may not stand behind the changes and is no parent
abbrev OnlyEdge : Edge → List LineText → Fault → Type 0
OnlyEdge e s why =
    ((why ≡ BadEdge) × (p : Option Id) × (s ≡ head_stanza (Parent p))) ⊎ (IsFault e.changes s why × ((p : Option Id) → s ≡ head_stanza (Parent p) → ⊥))

either : (e : Edge) (s : List LineText) (why : Fault) → why ≢ NoMemory → IsOnlyEdgeFault e s why → OnlyEdge e s why
either e s BadStanza some f = inr f
either e s BadOrder some f = inr f
either e s Repeated some f = inr f
either e s BadEdge some f = inl (refl, f.0, f.1)
either e s NoMemory some f = absurd (some refl)

of_either : (e : Edge) (s : List LineText) (a b : Fault) → a ≢ NoMemory → b ≢ NoMemory → OnlyEdge e s a → OnlyEdge e s b → a ≡ b
of_either e s a b na nb (inl f) (inl g) = f.0 ∙ sym g.0
of_either e s a b na nb (inl f) (inr g) = absurd (g.1 f.1 f.2)
of_either e s a b na nb (inr f) (inl g) = absurd (f.1 g.1 g.2)
of_either e s a b na nb (inr f) (inr g) = one_cause e.changes s a b na nb f.0 g.0

-- a change that may stand there has no fault, nor has a parent that follows
pub only_inside : (e : Edge) (c : Change) (s : List LineText) (why : Fault) → StandsBehind e.changes c → s ≡ stanza_of c → IsOnlyEdgeFault e s why → why ≡ NoMemory
only_inside e c s BadStanza stands is f = no_fault e.changes c s BadStanza stands is f.0
only_inside e c s BadOrder stands is f = no_fault e.changes c s BadOrder stands is f.0
only_inside e c s Repeated stands is f = no_fault e.changes c s Repeated stands is f.0
only_inside e c s BadEdge stands is f = absurd (no_both (Parent f.0) c stands.lawful (sym f.1 ∙ is))
only_inside e c s NoMemory stands is f = refl

pub only_behind : (e : Edge) (q : Option Id) (s : List LineText) (why : Fault) → Ascend e.parent q → s ≡ head_stanza (Parent q) → IsOnlyEdgeFault e s why → why ≡ NoMemory
only_behind e q s BadStanza up is f = absurd (f.1 q is)
only_behind e q s BadOrder up is f = absurd (f.1 q is)
only_behind e q s Repeated up is f = absurd (f.1 q is)
only_behind e q s BadEdge up is f = absurd (f.2 (subst (λ (p : Option Id). Ascend e.parent p) (one_parent q f.0 (sym is ∙ f.1)) up))
only_behind e q s NoMemory up is f = refl

-- ---- behind a front

pub next_cause : (heads : List Head) (edges : List Edge) (s : List LineText) (a b : Fault) → a ≢ NoMemory → b ≢ NoMemory → IsNextFault heads edges s a → IsNextFault heads edges s b → a ≡ b
next_cause heads [] s a b na nb f g = head_cause (length heads + 1) s a b na nb f g
next_cause heads (e ∷ []) s a b na nb f g = of_either e s a b na nb (either e s a na f) (either e s b nb g)
next_cause heads (e ∷ k ∷ more) s a b na nb f g = one_cause k.changes s a b na nb f g
