-- What a merge of two marked trees decides, by their marks and the ancestors that each side has alone.
use Rattle.std.specs.Prelude.{◌≡◌, ◌≢◌, ℕ, Bool, true, false, IsTrue, IsFalse, List, Option, Some, None, Contains}
use Rattle.mtn_base.specs.declared.name.NodeName.{NodeName}
use Rattle.mtn_history_laws.specs.Scalars.{Scalar, Value, node_of}
use Rattle.mtn_history_laws.specs.Scalars.Scalar.{ContentOf}
use Rattle.mtn_mark_laws.specs.Rule.{Side, AllKnown}
use Rattle.mtn_marking.specs.Marking.{MarkedTree, known_in, side_of}
use Rattle.mtn_marking.specs.declared.node.Marking.{Marking}
use Rattle.mtn_roster.specs.declared.entry.Entry.{Entry}
use Rattle.mtn_decide.specs.declared.decision.Pending.{Pending}
use Rattle.mtn_decide.specs.declared.scalar.Choice.{Choice}
use Rattle.mtn_decide.specs.declared.scalar.Choice.TheVariants.{Both, Left, Right, Clash}
use Rattle.mtn_decide.specs.Decisions.{Merge}
use Rattle.mtn_decide.specs.Verdicts.{Verdict, IsMergeBy}
use Rattle.mtn_decide.specs.Verdicts.Verdict.{Settled, Clashing}

-- which side's value a merge takes of a scalar that both have. Where both know all of the other's marks, it is left's
abbrev pub IsChoice : Bool → (left right only_left only_right : List ℕ) → Choice → Type 0
IsChoice equal left right only_left only_right Both = IsTrue equal
IsChoice equal left right only_left only_right Left = IsFalse equal × AllKnown right only_right
IsChoice equal left right only_left only_right Right = IsFalse equal × (¬ AllKnown right only_right) × AllKnown left only_left
IsChoice equal left right only_left only_right Clash = IsFalse equal × (¬ AllKnown right only_right) × (¬ AllKnown left only_left)

-- whether a node of that birth lives, by which sides have it
abbrev pub Lives : ℕ → (in_left in_right : Bool) → (only_left only_right : List ℕ) → Type 0
Lives birth true true only_left only_right = Unit {0}
Lives birth true false only_left only_right = Contains only_left birth
Lives birth false true only_left only_right = Contains only_right birth
Lives birth false false only_left only_right = ⊥

-- the same, by what the sides have of it
abbrev pub LivesWith : (only_left only_right : List ℕ) → Option (Entry × Marking) → Option (Entry × Marking) → Type 0
LivesWith only_left only_right (Some l) (Some r) = Unit {0}
LivesWith only_left only_right (Some l) None = Contains only_left l.1.birth
LivesWith only_left only_right None (Some r) = Contains only_right r.1.birth
LivesWith only_left only_right None None = ⊥

-- what is decided of a scalar, by what each side has of it
pub data IsVerdict (only_left only_right : List ℕ) : Option (Side Value) → Option (Side Value) → Verdict → Type 0 where
  common : {l r : Side Value} → l.value ≡ r.value → IsVerdict only_left only_right (Some l) (Some r) (Settled l.value)
  left_alone : {l : Side Value} → IsVerdict only_left only_right (Some l) None (Settled l.value)
  right_alone : {r : Side Value} → IsVerdict only_left only_right None (Some r) (Settled r.value)
  left_wins : {l r : Side Value} → l.value ≢ r.value → AllKnown r.marks only_right →
      IsVerdict only_left only_right (Some l) (Some r) (Settled l.value)
  right_wins : {l r : Side Value} → l.value ≢ r.value → ¬ AllKnown r.marks only_right → AllKnown l.marks only_left →
      IsVerdict only_left only_right (Some l) (Some r) (Settled r.value)
  clash : {l r : Side Value} → l.value ≢ r.value → ¬ AllKnown r.marks only_right → ¬ AllKnown l.marks only_left →
      IsVerdict only_left only_right (Some l) (Some r) (Clashing l.value r.value)

-- a file that one side alone has, that does not live, and of whose content the other side does not know all marks
pub data IsPendingWith (only_left only_right : List ℕ) (n : NodeName) : Option (Entry × Marking) → Option (Entry × Marking) → Pending → Type 0 where
  of_left : {k : Entry × Marking} {l : Side Value} → side_of (ContentOf n) (Some k) ≡ Some l → ¬ Contains only_left k.1.birth → ¬ AllKnown l.marks only_left →
      IsPendingWith only_left only_right n (Some k) None (record { entry = k.0; from_left = true })
  of_right : {k : Entry × Marking} {r : Side Value} → side_of (ContentOf n) (Some k) ≡ Some r → ¬ Contains only_right k.1.birth → ¬ AllKnown r.marks only_right →
      IsPendingWith only_left only_right n None (Some k) (record { entry = k.0; from_left = false })

-- what a merge of two marked trees decides
module _ (left right : MarkedTree) (only_left only_right : List ℕ) where
  abbrev pub LivesIn : NodeName → Type 0
  LivesIn n = LivesWith only_left only_right (known_in left n) (known_in right n)

  abbrev pub IsVerdictIn : Scalar → Verdict → Type 0
  IsVerdictIn s = IsVerdict only_left only_right (side_of s (known_in left (node_of s))) (side_of s (known_in right (node_of s)))

  abbrev pub IsPendingIn : NodeName → Pending → Type 0
  IsPendingIn n = IsPendingWith only_left only_right n (known_in left n) (known_in right n)

  abbrev pub IsMergeBySets : Merge → Type 0
  IsMergeBySets = IsMergeBy LivesIn IsVerdictIn IsPendingIn
