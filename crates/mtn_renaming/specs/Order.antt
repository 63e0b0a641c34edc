-- States that are one but for the order of their logs.
use Rattle.std.specs.Prelude.{◌≡◌, ◌↔◌, ℕ, List, Contains}
use Rattle.mtn_replay.specs.Lawful.{IsLawful}
use Rattle.mtn_model.specs.State.{Logged, State}

-- each pair of id and text of the one log is in the other
abbrev pub HasTexts : List Logged → List Logged → Type 0
HasTexts a b = (l : Logged) → Contains a l → Contains b l

-- the same pairs of id and text
abbrev pub HaveSameTexts : List Logged → List Logged → Type 0
HaveSameTexts a b = (l : Logged) → Contains a l ↔ Contains b l

-- two lawful states with the same files, the same revisions in whatever order, the same certificates and the same key names
pub record IsSameUpToOrder (f : List ℕ → List ℕ) (s t : State) : Type 0 where
  pub one : IsLawful f s
  pub other : IsLawful f t
  pub files : s.files ≡ t.files
  pub texts : HaveSameTexts s.log t.log
  pub certs : s.certs ≡ t.certs
  pub keys : s.keys ≡ t.keys
