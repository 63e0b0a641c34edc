-- Tables without records.
use Rattle.std.specs.Prelude.{IfErr, IfSome, nat_lt}
use Rattle.std.proofs.Common.{◌≡◌, ◌<◌, ◌≤◌, ◌+◌, ℕ, Bool, true, false, Option, Some, None, Result, Err, refl, subst, arith}
use Rattle.std.proofs.lemmas.Bool.Decides.{nat_tests}
use Rattle.mtn_model.specs.Table.{Contents, body_at}
use Rattle.mtn_ports.specs.Kept.{Same}
use Rattle.mtn_ports.proofs.KeptLemmas.{if_same}
use Rattle.mtn_history.specs.declared.errors.Damage.{Damage}
use Rattle.mtn_history.specs.declared.errors.StoreError.{StoreError}
use Rattle.mtn_history.specs.Errors.{IfDamage}
use Rattle.mtn_check.specs.Tables.{AreEmpty, IsFirstOf}
use Rattle.mtn_check.proofs.Told.{each_told, ends_damaged, with_earlier}

-- the one table of a range of one
only : (n t : ℕ) → n ≤ t → t < n + 1 → t ≡ n
only n t le lt = omega arith

pub none_yet : (c : Contents) (n : ℕ) → AreEmpty n n c
none_yet c n t k le lt = absurd (omega (arith, le, lt))

pub one_more : (c : Contents) (from n : ℕ) → AreEmpty from n c → AreEmpty n (n + 1) c → AreEmpty from (n + 1) c
one_more c from n before here t k le lt = by (nat_lt t n) refl
  where
    by : (b : Bool) → nat_lt t n ≡ b → body_at c t k ≡ None
    by true is = before t k le (grind (arith, nat_tests))
    by false is = here t k (grind (arith, nat_tests)) lt

pub first_of : (c : Contents) (from n to : ℕ) (d : Damage) → from ≤ n → n < to → AreEmpty from n c → IsFirstOf n (n + 1) c d → IsFirstOf from to c d
first_of c from n to d le lt before here =
    let is : here.table ≡ n = only n here.table here.after here.before in
    record {
      table = here.table;
      key = here.key;
      body = here.body;
      shown = here.shown;
      after = omega (arith, le, here.after);
      before = omega (arith, lt, here.before);
      held = here.held;
      tables = λ t k low high. before t k low (omega (arith, high, is));
      keys = here.keys;
    }

-- ---- where the records are told

pub none_told : (told : Option Contents) (n : ℕ) → IfSome told (AreEmpty n n)
none_told None n = tt
none_told (Some c) n = none_yet c n

module _ (old new : Option Contents) (from n table : ℕ) (kept : Same old new) (is : table ≡ n) (so_far : IfSome old (AreEmpty from n)) where
  pub more_told : IfSome new (AreEmpty table (table + 1)) → IfSome new (AreEmpty from (n + 1))
  more_told here =
      with_earlier old new (AreEmpty from n) (AreEmpty table (table + 1)) (AreEmpty from (n + 1)) kept
      (λ c x y. one_more c from n x (subst (λ t. AreEmpty t (t + 1) c) is y)) so_far here

  pub first_told : {T : Type 0} (to : ℕ) (e : StoreError) (r : Result T StoreError) → r ≡ Err e → from ≤ n → n < to → IfSome new (λ c. IfDamage e (IsFirstOf table (table + 1) c)) →
      IfSome new (λ c. IfErr r (λ x. IfDamage x (IsFirstOf from to c)))
  first_told to e r fails le lt here =
      ends_damaged new (AreEmpty from n) (λ c d. IsFirstOf table (table + 1) c d) (λ c d. IsFirstOf from to c d) e r fails
      (λ c d x y. first_of c from n to d le lt x (subst (λ t. IsFirstOf t (t + 1) c d) is y)) (if_same old new (AreEmpty from n) kept so_far) here

pub up_to : (told : Option Contents) (from to n : ℕ) → to ≤ n → IfSome told (AreEmpty from n) → IfSome told (AreEmpty from to)
up_to told from to n le none = each_told told (AreEmpty from n) (AreEmpty from to) (λ c x t k low high. x t k low (omega (arith, high, le))) none
