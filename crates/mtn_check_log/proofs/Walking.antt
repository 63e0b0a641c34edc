-- The walk, a position after the other.
use Rattle.std.specs.Prelude.{IfSome, OnOk}
use Rattle.std.proofs.Common.{◌<◌, ◌+◌, ℕ, List, Option, Some, None, Result, Ok, Err, refl, sym, subst, add-one}
use Rattle.mtn_model.specs.Table.{Contents}
use Rattle.mtn_ports.specs.Kept.{Same}
use Rattle.mtn_ports.proofs.KeptLemmas.{if_same}
use Rattle.mtn_history.specs.Errors.{IfDamage}
use Rattle.mtn_history.specs.Memory.{Knows}
use Rattle.mtn_history.specs.declared.memory.Memory.{Memory}
use Rattle.mtn_history.specs.declared.errors.StoreError.{StoreError}
use Rattle.mtn_check_laws.specs.FirstDamage.{IsBegun}
use Rattle.mtn_check_laws.specs.Fronts.{Front, with_step, no_front, IsFrontAt}
use Rattle.mtn_check_log.specs.Positions.{IsFirstIn, IsKnownBehind, IsRight, IsWalkedTo, IsWrong}
use Rattle.mtn_check_log.specs.Below.{below}
use Rattle.mtn_check_log.proofs.Told.{AreWrong, map_damage}

pub walk_begins : (f : List ℕ → List ℕ) (n : ℕ) (told : Option Contents) → IfSome told (λ c. IsBegun f c n) → IfSome told (IsWalkedTo f n 0)
walk_begins f n None begun = tt
walk_begins f n (Some c) begun = record { begun = begun; front = no_front; walked = refl }

walked_more : (f : List ℕ → List ℕ) (n r : ℕ) (c : Contents) → IsWalkedTo f n r c → ((m : ℕ) → IsRight f c m r) → IsWalkedTo f n (r + 1) c
walked_more f n r c is right =
    let s = right n is.begun is.front is.walked in
    record { begun = is.begun; front = with_step is.front s.0; walked = subst (λ m. IsFrontAt f c m (with_step is.front s.0)) (sym (add-one r)) (is.front, s.0, is.walked, s.1, refl) }

pub walk_goes_on : (f : List ℕ → List ℕ) (n r : ℕ) (old new : Option Contents) → Same old new → IfSome old (IsWalkedTo f n r) → IfSome new (λ c. (m : ℕ) → IsRight f c m r) → IfSome new (IsWalkedTo f n (r + 1))
walk_goes_on f n r old None same is right = tt
walk_goes_on f n r old (Some c) same is right = walked_more f n r c (if_same old (Some c) (IsWalkedTo f n r) same is) right

-- what is remembered of what is shown below the next position
pub walk_knows : (f : List ℕ → List ℕ) (n r : ℕ) (m : Memory) (old new : Option Contents) → Same old new → IfSome old (IsWalkedTo f n r) → IfSome new (λ c. (k : ℕ) → IsKnownBehind f c k r m) →
    IfSome new (λ c. Knows m (below (r + 1) c))
walk_knows f n r m old None same is known = tt
walk_knows f n r m old (Some c) same is known = let w : IsWalkedTo f n r c = if_same old (Some c) (IsWalkedTo f n r) same is in known n w.begun w.front w.walked

pub walk_ends : {E : Type 0} (f : List ℕ → List ℕ) (n r : ℕ) (told : Option Contents) (result : Result (Unit {0}) E) → IfSome told (λ c. OnOk result (IsWalkedTo f n r c)) →
    IfSome told (λ c. OnOk result ((front : Front) × IsFrontAt f c r front))
walk_ends f n r None result is = tt
walk_ends f n r (Some c) (Ok done) is = (is.front, is.walked)
walk_ends f n r (Some c) (Err e) is = tt

pub walk_stops : (f : List ℕ → List ℕ) (n r : ℕ) (old new : Option Contents) (e : StoreError) → Same old new → r < n → IfSome old (IsWalkedTo f n r) → IfSome new (AreWrong f r e) → IfSome new (λ c. IfDamage e (IsFirstIn f n c))
walk_stops f n r old None e same lt is wrong = tt
walk_stops f n r old (Some c) e same lt is wrong =
    let w : IsWalkedTo f n r c = if_same old (Some c) (IsWalkedTo f n r) same is in
    map_damage e (λ d. (m : ℕ) → IsWrong f c m r d) (IsFirstIn f n c) (λ d bad. (r, w.front, lt, w.walked, bad n w.begun w.front w.walked)) wrong
