-- What the whole check comes to.
use Rattle.std.specs.Int.{w64, to_be_bytes}
use Rattle.std.proofs.Common.{◌≡◌, ◌<◌, ◌≤◌, ◌^◌, inl, inr, ℕ, List, length, Option, Some, None, sym, ap, ◌∙◌, arith}
use Rattle.mtn_model.specs.State.{State}
use Rattle.mtn_model.specs.Table.{Contents, body_at}
use Rattle.mtn_records.specs.Fields.{number_text}
use Rattle.mtn_replay.proofs.Histories.{log_is_short}
use Rattle.mtn_history.specs.Meta.{count_key}
use Rattle.mtn_history.specs.Stands.{Stands}
use Rattle.mtn_history.specs.declared.errors.Damage.{Damage}
use Rattle.mtn_history.proofs.MetaLemmas.{held_count, none_held}
use Rattle.mtn_check_laws.specs.Fronts.{Front, IsFrontAt}
use Rattle.mtn_check_laws.specs.FirstDamage.{IsBegun, IsClean, IsCount, IsDamageAt, IsFirstDamage, IsWalked, in_walk}
use Rattle.mtn_check.specs.Steps.{Counts, IsEarlyDamage, IsLateDamage, IsRightBeside, IsWholeOf}
use Rattle.mtn_check.proofs.Numbers.{same_number}

clash : (o : Option (List ℕ)) (body : List ℕ) → o ≡ Some body → o ≡ None → ⊥
clash o body there none = cc

one_body : (o : Option (List ℕ)) (a b : List ℕ) → o ≡ Some a → o ≡ Some b → a ≡ b
one_body o a b x y = cc

small : (k : ℕ) → k ≤ 2147483648 → k < 2 ^ 64
small k le = omega (arith, le)

module _ (f : List ℕ → List ℕ) (c : Contents) where
  pub is_clean : (n : ℕ) → Counts f c n → IsClean f c
  is_clean n (inl none) = inl none.0
  is_clean n (inr whole) = inr (record { number = n; front = whole.front; walked = whole.walked; placed = whole.right.placed; names = whole.right.names; certs = whole.right.certs })

  -- the number is that of the revisions of a state for which the records stand
  pub number_of : (s : State) (n : ℕ) → Counts f c n → Stands f c s → n ≡ length s.log
  number_of s n (inl none) (inl new) = none.1 ∙ sym (ap (λ (x : State). length x.log) new.state)
  number_of s n (inl none) (inr stands) = absurd (clash (body_at c 1 count_key) (to_be_bytes w64 (length s.log)) (held_count f c s stands) none.0.count)
  number_of s n (inr whole) (inl new) = absurd (clash (body_at c 1 count_key) (number_text n) whole.walked.begun.count.held (none_held c s count_key new))
  number_of s n (inr whole) (inr stands) =
      let short : length s.log ≤ 2147483648 = log_is_short f s.files s.log stands.base.history stands.base.spelled in
      same_number n (length s.log) (small n whole.walked.begun.count.limit) (small (length s.log) short)
      (one_body (body_at c 1 count_key) (number_text n) (number_text (length s.log)) whole.walked.begun.count.held (held_count f c s stands))

module _ (f : List ℕ → List ℕ) (n : ℕ) (c : Contents) where
  pub early : (d : Damage) → IsCount c n → IsEarlyDamage f c d → IsFirstDamage f c d
  early d count wrong = wrong n count

  -- a damage of the walk
  abbrev pub IsWalkDamage : Damage → Type 0
  IsWalkDamage d = (r : ℕ) × (front : Front) × (r < n) × IsFrontAt f c r front × IsDamageAt f c r front d

  pub on_walk : (d : Damage) → IsBegun f c n → IsWalkDamage d → IsFirstDamage f c d
  on_walk d begun wrong = in_walk n wrong.0 wrong.1 begun wrong.2 wrong.3 wrong.4

  abbrev pub HasFront : Type 0
  HasFront = (front : Front) × IsFrontAt f c n front

  abbrev pub HasWalked : Type 0
  HasWalked = (front : Front) × IsWalked f c n front

  pub walked : IsBegun f c n → HasFront → HasWalked
  walked begun at = (at.0, record { begun = begun; positions = at.1 })

  pub late : (d : Damage) → HasWalked → IsLateDamage n c d → IsFirstDamage f c d
  late d so_far wrong = wrong f so_far.0 so_far.1

  pub whole : HasWalked → IsRightBeside n c → IsWholeOf f c n
  whole so_far right = record { front = so_far.0; walked = so_far.1; right = right f so_far.0 so_far.1.positions }
