-- How far a walk in stretches has come.
use Rattle.std.specs.Prelude.{◌≡◌, ◌≤◌, ◌+◌, ℕ, List, length, Option, Result, Err, IfErr, IfOk, IfSome}
use Rattle.mtn_check_hands.specs.Hands.{AreRead, AreRightBelow, NoneFrom}
use Rattle.mtn_check_hands.specs.declared.hands.Hands.{Hands}
use Rattle.mtn_check_hands.specs.declared.stretch.Stretch.{Stretch}
use Rattle.mtn_check_laws.specs.FirstDamage.{IsBegun}
use Rattle.mtn_check_laws.specs.Fronts.{Front, IsFrontAt}
use Rattle.mtn_check_walk.specs.declared.walk.Walk.{Walk}
use Rattle.mtn_history.specs.Errors.{IfDamage}
use Rattle.mtn_history.specs.declared.errors.StoreError.{StoreError}
use Rattle.mtn_history.specs.declared.errors.StoreError.TheVariants.{Failed}
use Rattle.mtn_model.specs.Table.{Contents}
use Rattle.mtn_ports.specs.Causes.{Rose}
use Rattle.mtn_ports.specs.Kept.{Stays}

-- a front of so many positions, in a store that is begun, and rosters at hand that are right of those
pub record IsWalkedWith (f : List ℕ → List ℕ) (n r : ℕ) (hands : Hands) (c : Contents) : Type 0 where
  pub begun : IsBegun f c n
  pub front : Front
  pub walked : IsFrontAt f c r front
  pub right : AreRightBelow r front hands

-- the stretch was read behind such a front, and what is at hand with it
pub record IsReadBehind (f : List ℕ → List ℕ) (n : ℕ) (walk : Walk) (c : Contents) : Type 0 where
  pub before : Hands
  pub walked : IsWalkedWith f n walk.at before c
  pub read : AreRead c walk.at before walk.stretch.positions.items walk.stretch.jobs.items walk.hands

-- the stretch has one job for each position, it does not pass the end, and nothing is at hand from behind it on
pub record IsLaidOut (n : ℕ) (walk : Walk) : Type 0 where
  pub same : length walk.stretch.positions.items ≡ length walk.stretch.jobs.items
  pub within : walk.at + length walk.stretch.jobs.items ≤ n
  pub none : NoneFrom (walk.at + length walk.stretch.jobs.items) walk.hands

-- what reading a stretch from a position on comes to, with a step of an errand: `read_and_go` in one word, for a thread that reads beside
-- others
pub record IsNextStretch {K : Type 0} (contents : K → Option Contents) (leaves : K → Contents → Type 0) (faults : K → ℕ) (holds : Contents → Type 0) (from count : ℕ) (old new : K) (before after : Hands) (result : Result Stretch StoreError) : Type 0 where
  pub stays : Stays contents leaves faults old new
  pub long : IfOk result (λ stretch. length stretch.positions.items ≡ length stretch.jobs.items)
  pub within : IfOk result (λ stretch. from + length stretch.jobs.items ≤ count)
  pub none : IfOk result (λ stretch. NoneFrom (from + length stretch.jobs.items) after)
  pub read : IfSome (contents new) (λ c. IfOk result (λ stretch. AreRead c from before stretch.positions.items stretch.jobs.items after))
  pub held : IfSome (contents new) holds
  pub sound : IfErr result (λ e. IfDamage e (λ _. ⊥))
  pub failed : result ≡ Err Failed → Rose (faults old) (faults new)
