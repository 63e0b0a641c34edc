-- Nothing but a collision stops a generated history.
use Rattle.std.specs.Prelude.{Contains, ◌==◌}
use Rattle.std.specs.FinMap.{get}
use Rattle.std.proofs.Common.{◌≡◌, ◌<◌, ◌≤◌, ◌-◌, ◌/◌, ◌%◌, ◌⊎◌, ℕ, zero, suc, true, cond, List, [], length, Option, Some, None, Ok, Err, refl, sym, ◌∙◌, ap, subst, ⊎_elim, inl, inr, arith}
use Rattle.std.proofs.Math.Nat.{mod-lt}
use Rattle.std.proofs.lemmas.Bool.{cases_lt}
use Rattle.std.proofs.lemmas.Bool.Decides.{nat_tests}
use Rattle.mtn_base.specs.declared.id.Id.{Id}
use Rattle.mtn_base.specs.declared.refusal.Cause.{Cause}
use Rattle.mtn_base.specs.declared.refusal.Cause.TheVariants.{Collision, StoreNotEmpty}
use Rattle.mtn_base.proofs.IdOrder.{contains_head}
use Rattle.mtn_certs.specs.Certificates.{IsIdBytes}
use Rattle.mtn_generated.specs.Growing.{Adds, GrowthAnswer, Generates, Grown, Grows, Onward, Stop, Unless, store_refusal}
use Rattle.mtn_generated.specs.Growing.Stop.{Refused}
use Rattle.mtn_generated.specs.Numbered.{Work, file_at, file_text, files_of, work_at, work_by}
use Rattle.mtn_generated.specs.Numbered.Work.{Begins, Joins, Patches, Renames, Sets}
use Rattle.mtn_generated.proofs.Counted.{later, split}
use Rattle.mtn_generated.proofs.Following.{again}
use Rattle.mtn_generated_laws.proofs.KeptFiles.{grown_held}
use Rattle.mtn_generated_laws.proofs.Steps.{tips_are_ids}
use Rattle.mtn_model.specs.State.{State}
use Rattle.mtn_replay.specs.Lawful.{IsLawful}
use Rattle.mtn_step_laws.proofs.LawfulGrowth.{lawful_growth}
use Rattle.mtn_step_laws.proofs.SomeGeneration.{some_of}
use Rattle.mtn_generated_steps.proofs.Beginning.{first_step}
use Rattle.mtn_generated_steps.proofs.Moving.{Comes}
use Rattle.mtn_generated_steps.proofs.Stages.{BothAhead, LeftAhead, OneTip, WorkStands, StandsBy, merge_step, patch_step, rename_step, set_step}

-- ---- what the revision before one did

abbrev IsPrior : Work → Work → Type 0
IsPrior Begins v = ⊥
IsPrior Patches v = (v ≡ Begins) ⊎ (v ≡ Renames)
IsPrior Sets v = v ≡ Patches
IsPrior Joins v = v ≡ Sets
IsPrior Renames v = v ≡ Joins

by_rest : (k r : ℕ) → suc (suc k) % 4 ≡ r → IsPrior (work_by r) (work_at (suc k))
by_rest k zero rest =
    let a = split (suc (suc k)) in
    let b = split (suc k) in
    let before : suc k % 4 ≡ 3 = omega (arith, rest, a.whole, a.less, b.whole, b.less) in
    later (suc k) (λ e. omega (arith, e, before, b.whole)) ∙ ap work_by before
by_rest k (suc zero) rest =
    let a = split (suc (suc k)) in
    let b = split (suc k) in
    let before : suc k % 4 ≡ 0 = omega (arith, rest, a.whole, a.less, b.whole, b.less) in
    later (suc k) (λ e. omega (arith, e, before, b.whole)) ∙ ap work_by before
by_rest zero (suc (suc zero)) rest = inl refl
by_rest (suc k) (suc (suc zero)) rest =
    let a = split (suc (suc (suc k))) in
    let b = split (suc (suc k)) in
    let before : suc (suc k) % 4 ≡ 1 = omega (arith, rest, a.whole, a.less, b.whole, b.less) in
    inr (later (suc (suc k)) (λ e. omega (arith, e)) ∙ ap work_by before)
by_rest k (suc (suc (suc r))) rest =
    let a = split (suc (suc k)) in
    let b = split (suc k) in
    let before : suc k % 4 ≡ 2 = omega (arith, rest, a.whole, a.less, b.whole, b.less) in
    later (suc k) (λ e. omega (arith, e, before, b.whole)) ∙ ap work_by before

prior : (k : ℕ) (w : Work) → work_at (suc (suc k)) ≡ w → IsPrior w (work_at (suc k))
prior k w is = subst (λ v. IsPrior v (work_at (suc k))) (sym (later (suc (suc k)) (λ e. omega (arith, e))) ∙ is) (by_rest k (suc (suc k) % 4) refl)

-- ---- the content before a patch

first_text : (j : ℕ) → j < 10 → Contains (files_of 1 (work_at 1)) (file_text j 0)
first_text zero few = (0, omega arith, refl)
first_text (suc zero) few = (1, omega arith, refl)
first_text (suc (suc zero)) few = (2, omega arith, refl)
first_text (suc (suc (suc zero))) few = (3, omega arith, refl)
first_text (suc (suc (suc (suc zero)))) few = (4, omega arith, refl)
first_text (suc (suc (suc (suc (suc zero))))) few = (5, omega arith, refl)
first_text (suc (suc (suc (suc (suc (suc zero)))))) few = (6, omega arith, refl)
first_text (suc (suc (suc (suc (suc (suc (suc zero))))))) few = (7, omega arith, refl)
first_text (suc (suc (suc (suc (suc (suc (suc (suc zero)))))))) few = (8, omega arith, refl)
first_text (suc (suc (suc (suc (suc (suc (suc (suc (suc zero))))))))) few = (9, omega arith, refl)
first_text (suc (suc (suc (suc (suc (suc (suc (suc (suc (suc j)))))))))) few = absurd (omega (arith, few))

module _ (f : List ℕ → List ℕ) (makes : (text : List ℕ) → IsIdBytes (f text)) (s : State) (law : IsLawful f s) where
  -- what has grown, and the next revision
  record IsReady (i : ℕ) (g : Grown) (w : Work) (answer : GrowthAnswer) : Type 0 where
    some : 0 < i
    low : i < 2147483648
    grows : Grows f s i (Ok g)
    stands : WorkStands f (work_at i) i g
    adds : Adds f (suc i) w g answer
    is : work_at (suc i) ≡ w

  was_held : (i : ℕ) (g : Grown) → 0 < i → Grows f s i (Ok g) → work_at (suc i) ≡ Patches → get g.state.files (f (file_text (file_at (suc i)) (suc i - 40))) ≡ Some (file_text (file_at (suc i)) (suc i - 40))
  was_held i g some grows work =
      let j = file_at (suc i) in
      let few = mod-lt (suc i / 4) (omega arith) in
      ⊎_elim
      (λ (far : 40 < suc i).
      let a = again (suc i) work far in
      let there : Contains (files_of (suc i - 40) Patches) (file_text j (suc i - 40)) = subst (λ k. Contains (files_of (suc i - 40) Patches) (file_text k (suc i - 40))) a.1 (contains_head (file_text (file_at (suc i - 40)) (suc i - 40)) []) in
      grown_held f s i (suc i - 40) g (file_text j (suc i - 40)) grows (omega (arith, far)) (omega arith) (subst (λ w. Contains (files_of (suc i - 40) w) (file_text j (suc i - 40))) (sym a.0) there))
      (λ (near : suc i ≤ 40).
      let none : 0 ≡ suc i - 40 = omega (arith, near) in
      subst (λ k. get g.state.files (f (file_text j k)) ≡ Some (file_text j k)) none (grown_held f s i 1 g (file_text j 0) grows (omega arith) some (first_text j few)))
      (cases_lt 40 (suc i))

  one_tip : (v : Work) (i : ℕ) (g : Grown) → (v ≡ Begins) ⊎ ((v ≡ Renames) ⊎ (v ≡ Joins)) → StandsBy f v i g → OneTip f i g
  one_tip v i g (inl e) by = subst (λ w. StandsBy f w i g) e by
  one_tip v i g (inr (inl e)) by = subst (λ w. StandsBy f w i g) e by
  one_tip v i g (inr (inr e)) by = subst (λ w. StandsBy f w i g) e by

  module _ (g : Grown) (answer : GrowthAnswer) where
    patches : (i : ℕ) → IsReady i g Patches answer → IsPrior Patches (work_at i) → Comes (WorkStands f Patches (suc i)) answer
    patches i r before =
        let tip = one_tip (work_at i) i g (⊎_elim (λ a. inl a) (λ b. inr (inl b)) before) r.stands.by in
        patch_step f makes i r.some r.low g (lawful_growth f s i g law r.grows) r.stands.room tip (tips_are_ids f makes s i g r.grows) r.is (was_held i g r.some r.grows r.is) answer r.adds

    renames : (i : ℕ) → IsReady i g Renames answer → IsPrior Renames (work_at i) → Comes (WorkStands f Renames (suc i)) answer
    renames i r before =
        let tip = one_tip (work_at i) i g (inr (inr before)) r.stands.by in
        rename_step f makes i r.some r.low g (lawful_growth f s i g law r.grows) r.stands.room tip (tips_are_ids f makes s i g r.grows) r.is answer r.adds

    sets_at : (k : ℕ) → LeftAhead f k g → IsReady (suc k) g Sets answer → work_at (suc k) ≡ Patches → Comes (WorkStands f Sets (suc (suc k))) answer
    sets_at zero ahead r before = absurd (let z : Begins ≡ Patches = before in cc)
    sets_at (suc k) ahead r before =
        set_step f makes (suc k) (omega arith) r.low g (lawful_growth f s (suc (suc k)) g law r.grows) r.stands.room ahead (tips_are_ids f makes s (suc (suc k)) g r.grows) before r.is answer r.adds

    sets : (i : ℕ) → IsReady i g Sets answer → work_at i ≡ Patches → Comes (WorkStands f Sets (suc i)) answer
    sets i r before =
        let by : StandsBy f Patches i g = subst (λ w. StandsBy f w i g) before r.stands.by in
        subst (λ n. Comes (WorkStands f Sets (suc n)) answer) (sym by.1) (sets_at by.0 by.2 (subst (λ n. IsReady n g Sets answer) by.1 r) (ap work_at (sym by.1) ∙ before))

    joins_at : (k : ℕ) → BothAhead f k g → IsReady (suc (suc k)) g Joins answer → work_at (suc (suc k)) ≡ Sets → Comes (WorkStands f Joins (suc (suc (suc k)))) answer
    joins_at zero ahead r before = absurd (let z : Patches ≡ Sets = before in cc)
    joins_at (suc k) ahead r before =
        merge_step f makes (suc k) (omega arith) r.low g (lawful_growth f s (suc (suc (suc k))) g law r.grows) r.stands.room ahead before r.is answer r.adds

    joins : (i : ℕ) → IsReady i g Joins answer → work_at i ≡ Sets → Comes (WorkStands f Joins (suc i)) answer
    joins i r before =
        let by : StandsBy f Sets i g = subst (λ w. StandsBy f w i g) before r.stands.by in
        subst (λ n. Comes (WorkStands f Joins (suc n)) answer) (sym by.1) (joins_at by.0 by.2 (subst (λ n. IsReady n g Joins answer) by.1 r) (ap work_at (sym by.1) ∙ before))

    next_step : (i : ℕ) (w : Work) → IsReady i g w answer → IsPrior w (work_at i) → Comes (WorkStands f w (suc i)) answer
    next_step i Begins r before = absurd before
    next_step i Patches r before = patches i r before
    next_step i Sets r before = sets i r before
    next_step i Joins r before = joins i r before
    next_step i Renames r before = renames i r before

  -- ---- all revisions

  module _ (empty : length s.log ≡ 0) where
    stands_at : (n : ℕ) → suc n ≤ 2147483648 → (answer : GrowthAnswer) → Grows f s (suc n) answer → Comes (WorkStands f (work_at (suc n)) (suc n)) answer
    stands_at zero low answer is = first_step f makes s law empty answer (subst (λ (before : GrowthAnswer). Onward before (Adds f 1 Begins) answer) is.1 is.2)
    stands_at (suc n) low answer is = by is.0 is.1 is.2 (stands_at n (omega (arith, low)) is.0 is.1)
      where
        by : (before : GrowthAnswer) → Grows f s (suc n) before → Onward before (Adds f (suc (suc n)) (work_at (suc (suc n)))) answer → Comes (WorkStands f (work_at (suc n)) (suc n)) before → Comes (WorkStands f (work_at (suc (suc n))) (suc (suc n))) answer
        by before grew on (inr c) = inr (c.0, subst (λ (x : GrowthAnswer). Onward x (Adds f (suc (suc n)) (work_at (suc (suc n)))) answer) c.1 on)
        by before grew on (inl a) =
            next_step a.0 answer (suc n) (work_at (suc (suc n)))
            record {
              some = omega arith;
              low = omega (arith, low);
              grows = subst (Grows f s (suc n)) a.1 grew;
              stands = a.2;
              adds = subst (λ (x : GrowthAnswer). Onward x (Adds f (suc (suc n)) (work_at (suc (suc n)))) answer) a.1 on;
              is = refl;
            }
            (prior n (work_at (suc (suc n))) refl)

    stops : (n : ℕ) → n ≤ 2147483648 → (stop : Stop) → Grows f s n (Err stop) → (id : Id) × (stop ≡ Refused (Collision id))
    stops zero low stop is = absurd cc
    stops (suc n) low stop is = by (stands_at n low (Err stop) is)
      where
        by : Comes (WorkStands f (work_at (suc n)) (suc n)) (Err stop) → (id : Id) × (stop ≡ Refused (Collision id))
        by (inl a) = absurd (let z = a.1 in cc)
        by (inr c) = (c.0, (let z = c.1 in let same : stop ≡ Refused (Collision c.0) = cc in same))

    pub only_collisions : (n : ℕ) → n ≤ 2147483648 → (stop : Stop) → Generates f n s (Err stop) → (id : Id) × (stop ≡ Refused (Collision id))
    only_collisions n low stop is = stops n low stop (subst (λ (o : Option Cause). Unless o (Grows f s n) (Err stop)) unrefused is)
      where
        unrefused : store_refusal s ≡ None
        unrefused = let test : (length s.log == 0) ≡ true = grind (arith, nat_tests) in ap (λ b. cond {A = Option Cause} b None (Some (StoreNotEmpty (length s.log)))) test

    pub all_or_collision : (n : ℕ) → n ≤ 2147483648 → ((g : Grown) × Generates f n s (Ok g)) ⊎ ((id : Id) × Generates f n s (Err (Refused (Collision id))))
    all_or_collision n low = let some = some_of f n s law in by some.0 some.1
      where
        by : (answer : GrowthAnswer) → Generates f n s answer → ((g : Grown) × Generates f n s (Ok g)) ⊎ ((id : Id) × Generates f n s (Err (Refused (Collision id))))
        by (Ok g) is = inl (g, is)
        by (Err stop) is = let c = only_collisions n low stop is in inr (c.0, subst (λ (x : Stop). Generates f n s (Err x)) c.1 is)
