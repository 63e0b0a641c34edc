-- A walk, a stretch after the other.
use Rattle.std.specs.Prelude.{IfOk, IfSome, slice_index_or}
use Rattle.std.proofs.Common.{◌≡◌, ◌≤◌, ◌<◌, ℕ, ◌+◌, zero, suc, List, [], ◌∷◌, length, Option, Some, None, Result, Ok, refl, sym, subst, add-one, arith, below_more}
use Rattle.std.proofs.lemmas.Result.{IfOk-at_ok}
use Rattle.mtn_model.specs.Table.{Contents}
use Rattle.mtn_ports.specs.Kept.{Same}
use Rattle.mtn_ports.proofs.KeptLemmas.{if_same}
use Rattle.mtn_check_laws.specs.FirstDamage.{IsBegun}
use Rattle.mtn_check_laws.specs.Fronts.{Front, with_step, IsFrontAt, StandsTo}
use Rattle.mtn_check_laws.proofs.Standing.{front_stands}
use Rattle.mtn_check_log.specs.Positions.{IsFirstIn, IsWalkedTo}
use Rattle.mtn_check_pieces.specs.declared.job.CheckJob.{CheckJob}
use Rattle.mtn_check_records.proofs.Hands.{hand_stays, step_is_kept}
use Rattle.mtn_check_records.specs.Reading.{IsHandOf, IsReadAt, IsStepOf}
use Rattle.mtn_check_records.specs.declared.hand.Hand.{Hand}
use Rattle.mtn_check_records.specs.declared.hand.Position.{Position}
use Rattle.mtn_check_hands.specs.Hands.{AreRead, AreRightBelow, Has, IsRead}
use Rattle.mtn_check_hands.specs.declared.hands.Hands.{Hands}
use Rattle.mtn_history.specs.Errors.{IfDamage}
use Rattle.mtn_history.specs.declared.errors.StoreError.{StoreError}
use Rattle.mtn_history.specs.declared.errors.StoreError.TheVariants.{Damaged, Failed, NoMemory}
use Rattle.mtn_check_walk.specs.Stretches.{AreSound, IsShown, IsSound}
use Rattle.mtn_check_walk.specs.Walks.{IsReadBehind}
use Rattle.mtn_check_walk.specs.declared.walk.Walk.{Walk}

module _ (f : List ℕ → List ℕ) (c : Contents) (n : ℕ) (begun : IsBegun f c n) where
  module _ (r : ℕ) (front : Front) (walked : IsFrontAt f c r front) (before hands : Hands) (right : AreRightBelow r front before) (x : Position) (job : CheckJob) (read : IsRead c r before x job hands)
      (sound : IsSound f x job) (limit : r < n) where
    stands : StandsTo f c r front
    stands = front_stands f c r front walked

    abbrev pub led : IsStepOf f c r front x job
    led = sound.leads c r front walked (let most = begun.count.limit in omega (arith, most, limit)) (read.read f n front begun walked right) sound.agrees

    abbrev pub longer : Front
    longer = with_step front led.step

    pub longer_walked : IsFrontAt f c (r + 1) longer
    longer_walked = subst (λ q. IsFrontAt f c q longer) (sym (add-one r)) (front, led.step, walked, led.is, refl)

    pub longer_right : AreRightBelow (r + 1) longer hands
    longer_right p hand lt has =
        below_more (λ q. (h : Hand) → Has hands q h → IsHandOf longer q h) r
        (λ q under h had. hand_stays front led.step q h (read.right f n front begun walked right q h under had))
        (λ h had. let is = read.here h had in step_is_kept f c r front x job h stands led is.id is.next is.depth is.entries) p lt hand has

  -- the positions of a stretch that are sound lengthen the front by as many
  pub stretch_passed : (r : ℕ) (xs : List Position) (jobs : List CheckJob) (before hands : Hands) (front : Front) → IsFrontAt f c r front → AreRightBelow r front before → AreRead c r before xs jobs hands →
      (k : ℕ) → AreSound f xs jobs k → r + k ≤ n → k ≤ length jobs → (on : Front) × IsFrontAt f c (r + k) on × (k ≡ length jobs → AreRightBelow (r + k) on hands)
  stretch_passed r [] [] before hands front walked right read zero sound limit within =
      let same : r ≡ r + 0 = omega arith in
      (front, subst (λ q. IsFrontAt f c q front) same walked, λ all. subst (λ h. AreRightBelow (r + 0) front h) read (subst (λ q. AreRightBelow q front before) same right))
  stretch_passed r [] [] before hands front walked right read (suc k) sound limit within = absurd (omega (arith, within))
  stretch_passed r [] (job ∷ jobs) before hands front walked right read k sound limit within = absurd read
  stretch_passed r (x ∷ xs) [] before hands front walked right read k sound limit within = absurd read
  stretch_passed r (x ∷ xs) (job ∷ jobs) before hands front walked right read zero sound limit within =
      (front, subst (λ q. IsFrontAt f c q front) (let same : r ≡ r + 0 = omega arith in same) walked, λ all. absurd (omega (arith, all)))
  stretch_passed r (x ∷ xs) (job ∷ jobs) before hands front walked right (mid, one, rest) (suc k) sound limit within =
      let first : IsSound f x job = sound 0 x job (omega arith) in
      let under : r < n = omega (arith, limit) in
      let more =
      stretch_passed (r + 1) xs jobs mid hands (longer r front walked before mid right x job one first under) (longer_walked r front walked before mid right x job one first under)
      (longer_right r front walked before mid right x job one first under) rest k (λ i y j lt. sound (suc i) y j (omega (arith, lt))) (omega (arith, limit)) (omega (arith, within)) in
      let same : (r + 1) + k ≡ r + suc k = omega arith in
      (more.0, subst (λ q. IsFrontAt f c q more.0) same more.1, λ all. subst (λ q. AreRightBelow q more.0 hands) same (more.2 (omega (arith, all))))

  -- the position behind them was read behind that front
  pub stretch_read : (r : ℕ) (xs : List Position) (jobs : List CheckJob) (before hands : Hands) (front : Front) → IsFrontAt f c r front → AreRightBelow r front before → AreRead c r before xs jobs hands →
      (k : ℕ) → AreSound f xs jobs k → r + k < n → k < length jobs → (x : Position) (job : CheckJob) → (on : Front) × IsFrontAt f c (r + k) on × IsReadAt c (r + k) on (slice_index_or xs k x) (slice_index_or jobs k job)
  stretch_read r [] [] before hands front walked right read k sound limit within y j = absurd (omega (arith, within))
  stretch_read r [] (job ∷ jobs) before hands front walked right read k sound limit within y j = absurd read
  stretch_read r (x ∷ xs) [] before hands front walked right read k sound limit within y j = absurd read
  stretch_read r (x ∷ xs) (job ∷ jobs) before hands front walked right (mid, one, rest) zero sound limit within y j =
      let same : r ≡ r + 0 = omega arith in
      (front, subst (λ q. IsFrontAt f c q front) same walked, subst (λ q. IsReadAt c q front x job) same (one.read f n front begun walked right))
  stretch_read r (x ∷ xs) (job ∷ jobs) before hands front walked right (mid, one, rest) (suc k) sound limit within y j =
      let first : IsSound f x job = sound 0 x job (omega arith) in
      let under : r < n = omega (arith, limit) in
      let more =
      stretch_read (r + 1) xs jobs mid hands (longer r front walked before mid right x job one first under) (longer_walked r front walked before mid right x job one first under)
      (longer_right r front walked before mid right x job one first under) rest k (λ i z w lt. sound (suc i) z w (omega (arith, lt))) (omega (arith, limit)) (omega (arith, within)) y j in
      let same : (r + 1) + k ≡ r + suc k = omega arith in
      (more.0, subst (λ q. IsFrontAt f c q more.0) same more.1, subst (λ q. IsReadAt c q more.0 (slice_index_or xs k y) (slice_index_or jobs k j)) same more.2)

module _ (f : List ℕ → List ℕ) (n : ℕ) (walk : Walk) (k : ℕ) (c : Contents) (is : IsReadBehind f n walk c) (sound : AreSound f walk.stretch.positions.items walk.stretch.jobs.items k) (limit : walk.at + k ≤ n)
    (within : k ≤ length walk.stretch.jobs.items) where
  passed : (on : Front) × IsFrontAt f c (walk.at + k) on × (k ≡ length walk.stretch.jobs.items → AreRightBelow (walk.at + k) on walk.hands)
  passed =
      stretch_passed f c n is.walked.begun walk.at walk.stretch.positions.items walk.stretch.jobs.items is.before walk.hands is.walked.front is.walked.walked is.walked.right is.read k sound limit within

  walked_on : IsWalkedTo f n (walk.at + k) c
  walked_on = record { begun = is.walked.begun; front = passed.0; walked = passed.1 }

  read_on : (next : Walk) → k ≡ length walk.stretch.jobs.items → next.at ≡ walk.at + length walk.stretch.jobs.items → AreRead c next.at walk.hands next.stretch.positions.items next.stretch.jobs.items next.hands → IsReadBehind f n next c
  read_on next all at read =
      let same : walk.at + k ≡ next.at = omega (arith, all, at) in
      record {
        before = walk.hands;
        walked = record { begun = is.walked.begun; front = passed.0; walked = subst (λ q. IsFrontAt f c q passed.0) same passed.1; right = subst (λ q. AreRightBelow q passed.0 walk.hands) same (passed.2 all) };
        read = read;
      }

  -- what is shown of the position behind those that are sound is the first damage
  shown_on : walk.at + length walk.stretch.jobs.items ≤ n → (e : StoreError) → IsShown f walk.stretch.positions.items walk.stretch.jobs.items k e → IfDamage e (IsFirstIn f n c)
  shown_on end Failed shown = tt
  shown_on end NoMemory shown = tt
  shown_on end (Damaged d) shown = by walk.stretch.positions.items walk.stretch.jobs.items end is.read sound shown
    where
      by : (xs : List Position) (jobs : List CheckJob) → walk.at + length jobs ≤ n → AreRead c walk.at is.before xs jobs walk.hands → AreSound f xs jobs k → IsShown f xs jobs k (Damaged d) → IsFirstIn f n c d
      by [] [] last read all s = absurd (let lt = s.within in omega (arith, lt))
      by [] (job ∷ jobs) last read all s = absurd read
      by (x ∷ xs) [] last read all s = absurd read
      by (x ∷ xs) (job ∷ jobs) last read all s =
          let lt = s.within in
          let under : walk.at + k < n = omega (arith, lt, last) in
          let most = is.walked.begun.count.limit in
          let on = stretch_read f c n is.walked.begun walk.at (x ∷ xs) (job ∷ jobs) is.before walk.hands is.walked.front is.walked.walked is.walked.right read k all under lt x job in
          (walk.at + k, on.0, under, on.1, s.damages x job c (walk.at + k) on.0 on.1 (omega (arith, under, most)) on.2)

pub told_walked : (f : List ℕ → List ℕ) (n : ℕ) (walk : Walk) (k : ℕ) (old new : Option Contents) → Same old new → AreSound f walk.stretch.positions.items walk.stretch.jobs.items k → walk.at + k ≤ n → k ≤ length walk.stretch.jobs.items →
    IfSome old (IsReadBehind f n walk) → IfSome new (IsWalkedTo f n (walk.at + k))
told_walked f n walk k old None same sound limit within is = tt
told_walked f n walk k old (Some c) same sound limit within is = walked_on f n walk k c (if_same old (Some c) (IsReadBehind f n walk) same is) sound limit within

pub told_read : (f : List ℕ → List ℕ) (n : ℕ) (walk next : Walk) (k : ℕ) (old new : Option Contents) → Same old new → AreSound f walk.stretch.positions.items walk.stretch.jobs.items k → walk.at + k ≤ n → k ≤ length walk.stretch.jobs.items →
    next.at ≡ walk.at + length walk.stretch.jobs.items → IfSome old (IsReadBehind f n walk) → IfSome new (λ c. AreRead c next.at walk.hands next.stretch.positions.items next.stretch.jobs.items next.hands) →
    IfSome new (λ c. k ≡ length walk.stretch.jobs.items → IsReadBehind f n next c)
told_read f n walk next k old None same sound limit within at is read = tt
told_read f n walk next k old (Some c) same sound limit within at is read = λ all. read_on f n walk k c (if_same old (Some c) (IsReadBehind f n walk) same is) sound limit within next all at read

pub told_shown : (f : List ℕ → List ℕ) (n : ℕ) (walk : Walk) (k : ℕ) (old new : Option Contents) (o : Option StoreError) → Same old new → AreSound f walk.stretch.positions.items walk.stretch.jobs.items k →
    walk.at + length walk.stretch.jobs.items ≤ n → k ≤ length walk.stretch.jobs.items → IfSome old (IsReadBehind f n walk) → IfSome o (IsShown f walk.stretch.positions.items walk.stretch.jobs.items k) →
    IfSome new (λ c. IfSome o (λ e. IfDamage e (IsFirstIn f n c)))
told_shown f n walk k old None o same sound limit within is shown = tt
told_shown f n walk k old (Some c) None same sound limit within is shown = tt
told_shown f n walk k old (Some c) (Some e) same sound limit within is shown =
    shown_on f n walk k c (if_same old (Some c) (IsReadBehind f n walk) same is) sound (omega (arith, limit, within)) within limit e shown

-- what is told of an answer
pub told_ok : {A E : Type 0} (told : Option Contents) (P : Contents → A → Type 0) (r : Result A E) (x : A) → r ≡ Ok x → IfSome told (λ c. IfOk r (P c)) → IfSome told (λ c. P c x)
told_ok None P r x is fact = tt
told_ok (Some c) P r x is fact = IfOk-at_ok (P c) {r = r} is fact

-- a stretch that is read with nothing at hand
pub told_begun : (f : List ℕ → List ℕ) (n : ℕ) (walk : Walk) (before : Hands) (old new : Option Contents) → Same old new → ((p : ℕ) (hand : Hand) → Has before p hand → ⊥) → IfSome old (IsWalkedTo f n walk.at) →
    IfSome new (λ c. AreRead c walk.at before walk.stretch.positions.items walk.stretch.jobs.items walk.hands) → IfSome new (IsReadBehind f n walk)
told_begun f n walk before old None same none is read = tt
told_begun f n walk before old (Some c) same none is read =
    let here : IsWalkedTo f n walk.at c = if_same old (Some c) (IsWalkedTo f n walk.at) same is in
    record {
      before = before;
      walked = record { begun = here.begun; front = here.front; walked = here.walked; right = λ p hand lt has. absurd (none p hand has) };
      read = read;
    }
