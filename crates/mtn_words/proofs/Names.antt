-- A name that is not a command's.
use Rattle.std.proofs.Common.{◌≡◌, ℕ, List, false}
use Rattle.std.specs.Prelude.{bytes_eq}
use Rattle.std.specs.Cmp.Lexicographic.{bytes_decides}
use Rattle.std.proofs.lemmas.Bool.{false_from_ne_true}

pub not_named : (name other : List ℕ) → (name ≡ other → ⊥) → bytes_eq name other ≡ false
not_named name other differ = false_from_ne_true (bytes_eq name other) (λ yes. differ ((bytes_decides name other).0 yes))
