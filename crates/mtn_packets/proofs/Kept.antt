-- The old bytes stay in front.
use Rattle.std.proofs.Common.{◌≡◌, ℕ, List, [], ◌∷◌, ◌++◌, sym, ap, ◌∙◌, append_assoc}
use Rattle.std.proofs.lemmas.List.{append-nil}
use Rattle.mtn_base.specs.Front.{IsFront}

pub front_same : (old new : List ℕ) → new ≡ old → IsFront old new
front_same old new e = record { more = []; whole = e ∙ sym (append-nil old) }

pub front_more : (old new more : List ℕ) → new ≡ old ++ more → IsFront old new
front_more old new more e = record { more = more; whole = e }

pub front_trans : {a b c : List ℕ} → IsFront a b → IsFront b c → IsFront a c
front_trans p q = record { more = p.more ++ q.more; whole = q.whole ∙ ap (λ (xs : List ℕ). xs ++ q.more) p.whole ∙ append_assoc _ p.more q.more }

pub ruleset kept_steps = (front_same, front_more, front_trans)

-- two lines and the start of a third, written one after the other
pub three_lines : (old a b c d word digits name key gap : List ℕ) → a ≡ old ++ word → b ≡ a ++ digits → c ≡ b ++ ((10 ∷ gap) ++ name) → d ≡ c ++ ((10 ∷ gap) ++ key)
    → d ≡ old ++ (((word ++ digits) ++ 10 ∷ []) ++ (((gap ++ name) ++ 10 ∷ []) ++ (gap ++ key)))
three_lines old a b c d word digits name key gap p q r s = rw (s, r, q, p) (simp append_assoc)

-- three writes, one after the other
pub three : (old a b c x y z : List ℕ) → a ≡ old ++ x → b ≡ a ++ y → c ≡ b ++ z → c ≡ old ++ (x ++ (y ++ z))
three old a b c x y z p q r = rw (r, q, p) (simp append_assoc)
