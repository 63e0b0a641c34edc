-- What writes one after the other leave.
use Rattle.std.proofs.Common.{◌≡◌, ◌-◌, ◌∙◌, ℕ, List, [], ◌∷◌, ◌++◌, length, replicate, ap, sym, append_assoc}
use Rattle.std.specs.List.{flat_map}
use Rattle.std.proofs.lemmas.List.{append-nil}
use Rattle.mtn_basic_io.specs.declared.stanza.Value.{Value}
use Rattle.mtn_basic_io.specs.Spelling.{LineText, spaced, line_text}

pub two : (old a b x y : List ℕ) → a ≡ old ++ x → b ≡ a ++ y → b ≡ old ++ (x ++ y)
two old a b x y p q = q ∙ ap (λ (l : List ℕ). l ++ y) p ∙ append_assoc old x y

pub last_value : (old a : List ℕ) (v : Value) → a ≡ old ++ spaced v → a ≡ old ++ flat_map spaced (v ∷ [])
last_value old a v p = p ∙ ap (λ (l : List ℕ). old ++ l) (sym (append-nil (spaced v)))

pub value_first : (old a b : List ℕ) (v : Value) (vs : List Value) → a ≡ old ++ spaced v → b ≡ a ++ flat_map spaced vs → b ≡ old ++ flat_map spaced (v ∷ vs)
value_first old a b v vs p q = two old a b (spaced v) (flat_map spaced vs) p q

-- a symbol, the values and an LF are a line
pub line_done : (column : ℕ) (l : LineText) (old a b c : List ℕ) → a ≡ old ++ (replicate (column - length l.symbol) 32 ++ l.symbol)
    → b ≡ a ++ flat_map spaced l.values → c ≡ b ++ 10 ∷ [] → c ≡ old ++ line_text column l
unfolding line_text
line_done column l old a b c p q r = rw (r, q, p) (simp append_assoc)
