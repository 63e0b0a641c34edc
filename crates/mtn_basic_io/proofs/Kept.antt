-- The old bytes stay in front.
use Rattle.std.proofs.Common.{◌≡◌, ℕ, List, [], ◌++◌, length, take, sym, ap, ◌∙◌, append_assoc}
use Rattle.std.proofs.Math.Seq.{take-append_seam}
use Rattle.std.proofs.lemmas.List.{append-nil}
use Rattle.mtn_base.specs.Front.{IsFront}

pub front_same : (old new : List ℕ) → new ≡ old → IsFront old new
front_same old new e = record { more = []; whole = e ∙ sym (append-nil old) }

pub front_more : (old new more : List ℕ) → new ≡ old ++ more → IsFront old new
front_more old new more e = record { more = more; whole = e }

pub front_trans : {a b c : List ℕ} → IsFront a b → IsFront b c → IsFront a c
front_trans p q = record { more = p.more ++ q.more; whole = q.whole ∙ ap (λ (xs : List ℕ). xs ++ q.more) p.whole ∙ append_assoc _ p.more q.more }

-- the front is cut out again
pub cut_back : (old new : List ℕ) → IsFront old new → take (length old) new ≡ old
cut_back old new f = ap (take (length old)) f.whole ∙ take-append_seam old f.more

pub ruleset kept_steps = (front_same, front_more, front_trans)
