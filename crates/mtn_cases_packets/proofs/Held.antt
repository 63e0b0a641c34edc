-- Ids that a graph has, one after the other.
use Rattle.std.specs.Prelude.{Contains}
use Rattle.std.proofs.Common.{◌<◌, ◌+◌, ℕ, List, length, get_or, take, subst, ⊎_elim}
use Rattle.std.proofs.lemmas.List.{take_more}
use Rattle.std.proofs.lemmas.List.Elements.{Contains-push_cases}
use Rattle.mtn_base.specs.declared.id.Id.{Id}

module _ (P : Id → Type 0) where
  pub each_more : (ids : List Id) (i : ℕ) (d : Id) → i < length ids → ((r : Id) → Contains (take i ids) r → P r) → P (get_or ids i d) → (r : Id) → Contains (take (i + 1) ids) r → P r
  each_more ids i d lt all here r c =
      ⊎_elim (all r) (λ e. subst P e here) (Contains-push_cases (take i ids) (get_or ids i d) r (subst (λ l. Contains l r) (take_more ids i d lt) c))
