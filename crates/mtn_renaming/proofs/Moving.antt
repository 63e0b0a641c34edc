-- What edges make over two histories that hold their parents alike.
use Rattle.std.specs.Prelude.{option_map, option_and_then}
use Rattle.std.specs.List.{cons_option}
use Rattle.std.proofs.Common.{◌≡◌, ℕ, List, [], ◌∷◌, map, Option, Some, None, refl, ◌∙◌}
use Rattle.mtn_base.specs.declared.id.Id.{Id}
use Rattle.mtn_changes.specs.declared.change.Edge.{Edge}
use Rattle.mtn_changeset_laws.specs.Changes.{tree_after}
use Rattle.mtn_changeset_laws.specs.Joining.{joined}
use Rattle.mtn_history_laws.specs.History.{Revision}
use Rattle.mtn_replay.specs.Making.{made, made_tree, parent_tree, parents_of, place_of}
use Rattle.mtn_renaming.specs.Renaming.{moved}

-- the other history holds the parent where `to` takes it, with the same tree, or neither holds it
pub record IsAlike (h g : List Revision) (to : ℕ → ℕ) (parent : Option Id) : Type 0 where
  pub place : option_and_then (place_of g) parent ≡ option_map to (option_and_then (place_of h) parent)
  pub tree : parent_tree g parent ≡ parent_tree h parent

abbrev pub AreAlike : List Revision → List Revision → (ℕ → ℕ) → List Edge → Type 0
AreAlike h g to [] = Unit {0}
AreAlike h g to (e ∷ es) = IsAlike h g to e.parent × AreAlike h g to es

consed : (to : ℕ → ℕ) (o : Option ℕ) (ps : List ℕ) → cons_option (option_map to o) (map to ps) ≡ map to (cons_option o ps)
consed to None ps = refl
consed to (Some p) ps = refl

pub parents_alike : (h g : List Revision) (to : ℕ → ℕ) (edges : List Edge) → AreAlike h g to edges → parents_of g edges ≡ map to (parents_of h edges)
parents_alike h g to [] a = refl
parents_alike h g to (e ∷ es) a =
    let p = a.0.place in
    let r = parents_alike h g to es a.1 in
    (λ i. cons_option (p i) (r i)) ∙ consed to (option_and_then (place_of h) e.parent) (parents_of h es)

pub tree_alike : (h g : List Revision) (to : ℕ → ℕ) (new : Id) (edges : List Edge) → AreAlike h g to edges → made_tree g new edges ≡ made_tree h new edges
tree_alike h g to new [] a = refl
tree_alike h g to new (e ∷ []) a = let t = a.0.tree in λ i. tree_after (t i) e.changes new
tree_alike h g to new (e ∷ f ∷ more) a = let t = a.0.tree in let u = a.1.0.tree in λ i. joined (tree_after (t i) e.changes new) (tree_after (u i) f.changes new) new

pub made_alike : (h g : List Revision) (to : ℕ → ℕ) (new : Id) (edges : List Edge) → AreAlike h g to edges → made g new edges ≡ moved to (made h new edges)
made_alike h g to new edges a =
    let ps = parents_alike h g to edges a in
    let t = tree_alike h g to new edges a in
    λ i. record { id = new; parents = ps i; tree = t i }
