-- By ids a history and the same in another order say the same.
use Rattle.std.specs.Prelude.{filter_map, option_map, slice_get}
use Rattle.std.specs.List.{cons_option}
use Rattle.std.proofs.Common.{◌≡◌, ℕ, List, [], ◌∷◌, map, Option, Some, None, refl, ap, ◌∙◌}
use Rattle.mtn_base.specs.declared.id.Id.{Id}
use Rattle.mtn_history_laws.specs.History.{Revision, parents_at}
use Rattle.mtn_replay.specs.Making.{place_of}
use Rattle.mtn_renaming.specs.ById.{id_at, known_at, known_of}
use Rattle.mtn_renaming.specs.Renaming.{moved, IsRenaming}
use Rattle.mtn_renaming.proofs.Refusing.{same_place}
use Rattle.mtn_renaming.proofs.Renamed.{same_parents, same_tree}

filter_map_map : {X Y : Type 0} (to : X → X) (p q : X → Option Y) → ((x : X) → p (to x) ≡ q x) → (xs : List X) → filter_map p (map to xs) ≡ filter_map q xs
filter_map_map to p q same [] = refl
filter_map_map to p q same (x ∷ xs) = let e = same x in let r = filter_map_map to p q same xs in λ i. cons_option (e i) (r i)

id_moved : (to : ℕ → ℕ) (o : Option Revision) → option_map (λ (v : Revision). v.id) (option_map (moved to) o) ≡ option_map (λ (v : Revision). v.id) o
id_moved to None = refl
id_moved to (Some v) = refl

module _ (h g : List Revision) (to back : ℕ → ℕ) (is : IsRenaming h g to back) where
  same_id_at : (r : ℕ) → id_at g (to r) ≡ id_at h r
  same_id_at r = ap (option_map (λ (v : Revision). v.id)) (is.revision r) ∙ id_moved to (slice_get h r)

  same_known : (r : ℕ) → known_at g (to r) ≡ known_at h r
  same_known r =
      let ps = ap (filter_map (id_at g)) (same_parents h g to back is r) ∙ filter_map_map to (id_at g) (id_at h) same_id_at (parents_at h r) in
      let t = same_tree h g to back is r in
      λ i. record { parents = ps i; tree = t i }

  known_there : (o : Option ℕ) → option_map (known_at g) (option_map to o) ≡ option_map (known_at h) o
  known_there None = refl
  known_there (Some r) = ap Some (same_known r)

  pub known_same : known_of g ≡ known_of h
  known_same = λ i id. at id i
    where
      at : (id : Id) → known_of g id ≡ known_of h id
      at id = ap (option_map (known_at g)) (same_place h g to back is id) ∙ known_there (place_of h id)
