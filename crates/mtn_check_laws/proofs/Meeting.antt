-- What a keeper can hold stands in the tables up to 255, under keys that are not empty.
use Rattle.std.specs.Prelude.{◌≢◌}
use Rattle.std.proofs.Common.{◌≡◌, ◌≤◌, ◌<◌, ℕ, zero, suc, List, [], Option, Some, None, ap, ◌∙◌, sym, ◌⊎◌, inl, inr, arith}
use Rattle.mtn_model.specs.Table.{Contents, body_at}
use Rattle.mtn_ports.specs.Kept.{AreKeyed}

clash : (o : Option (List ℕ)) (body : List ℕ) → o ≡ Some body → o ≡ None → ⊥
clash o body there none = cc

low_or_high : (t m : ℕ) → (t ≤ m) ⊎ (m < t)
low_or_high zero m = inl (omega arith)
low_or_high (suc t) zero = inr (omega arith)
low_or_high (suc t) (suc m) = up (low_or_high t m)
  where
    up : (t ≤ m) ⊎ (m < t) → (suc t ≤ suc m) ⊎ (suc m < suc t)
    up (inl le) = inl (omega (arith, le))
    up (inr lt) = inr (omega (arith, lt))

pub all_met : (c : Contents) (table : ℕ) (key body : List ℕ) → AreKeyed c → body_at c table key ≡ Some body → (table ≤ 255) × (key ≢ [])
all_met c table key body keyed held = (low (low_or_high table 255), λ none. clash (body_at c table []) body (ap (body_at c table) (sym none) ∙ held) (keyed.keys table))
  where
    low : (table ≤ 255) ⊎ (255 < table) → table ≤ 255
    low (inl le) = le
    low (inr high) = absurd (clash (body_at c table key) body held (keyed.tables table key high))
