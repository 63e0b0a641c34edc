-- Rosters at hand, and positions read with them.
use Rattle.std.specs.Prelude.{◌≡◌, ◌<◌, ◌⊎◌, ℕ, ◌+◌, List, [], ◌∷◌, Some}
use Rattle.std.specs.BTreeMap.{get}
use Rattle.std.specs.Ordering.{nat_cmp}
use Rattle.mtn_check_laws.specs.FirstDamage.{IsBegun}
use Rattle.mtn_check_laws.specs.Fronts.{Front, IsFrontAt}
use Rattle.mtn_check_pieces.specs.declared.job.CheckJob.{CheckJob}
use Rattle.mtn_check_records.specs.Reading.{IsHandOf, IsReadAt}
use Rattle.mtn_check_records.specs.declared.hand.Hand.{Hand}
use Rattle.mtn_check_records.specs.declared.hand.Position.{Position}
use Rattle.mtn_model.specs.Table.{Contents}
use Rattle.mtn_records.specs.declared.record.RosterRecord.TheVariants.{Whole}
use Rattle.mtn_check_hands.specs.declared.hands.Hands.{Hands}

-- what is at hand of a position
abbrev pub Has : Hands → ℕ → Hand → Type 0
Has hands p hand = (get nat_cmp hands.recent p ≡ Some hand) ⊎ (get nat_cmp hands.heads p ≡ Some hand)

-- nothing is at hand from a position on
abbrev pub NoneFrom : ℕ → Hands → Type 0
NoneFrom r hands = (p : ℕ) (hand : Hand) → Has hands p hand → p < r

-- what is at hand of the positions below r is what is kept of their revisions
abbrev pub AreRightBelow : ℕ → Front → Hands → Type 0
AreRightBelow r front hands = (p : ℕ) (hand : Hand) → p < r → Has hands p hand → IsHandOf front p hand

-- what was read of a position is at hand
pub record IsHandRead (x : Position) (job : CheckJob) (hand : Hand) : Type 0 where
  pub id : hand.id ≡ x.entry.id
  pub next : hand.next ≡ x.entry.next_node
  pub depth : hand.depth ≡ x.depth
  pub entries : job.stored ≡ Whole hand.entries

-- A position, read with what is at hand before, and what is at hand then
pub record IsRead (c : Contents) (r : ℕ) (before : Hands) (x : Position) (job : CheckJob) (hands : Hands) : Type 0 where
  pub read : (f : List ℕ → List ℕ) (n : ℕ) (front : Front) → IsBegun f c n → IsFrontAt f c r front → AreRightBelow r front before → IsReadAt c r front x job
  pub right : (f : List ℕ → List ℕ) (n : ℕ) (front : Front) → IsBegun f c n → IsFrontAt f c r front → AreRightBelow r front before → AreRightBelow r front hands
  pub here : (hand : Hand) → Has hands r hand → IsHandRead x job hand

-- positions one behind the other
abbrev pub AreRead : Contents → ℕ → Hands → List Position → List CheckJob → Hands → Type 0
AreRead c r before [] [] hands = before ≡ hands
AreRead c r before (x ∷ xs) (job ∷ jobs) hands = (mid : Hands) × IsRead c r before x job mid × AreRead c (r + 1) mid xs jobs hands
AreRead c r before _ _ hands = ⊥
