-- What a query asks of a history it asks of the same history in another order.
use Rattle.std.specs.Prelude.{Contains, find, is_none, map, option_map}
use Rattle.std.proofs.Common.{◌≡◌, ℕ, List, false, Option, Some, None, refl, sym, ap, ◌∙◌, subst}
use Rattle.std.proofs.lemmas.List.Elements.{All-weaker}
use Rattle.mtn_base.specs.declared.id.Id.{Id}
use Rattle.mtn_history_laws.specs.History.{Revision, parents_at}
use Rattle.mtn_base.specs.Ids.{by_id}
use Rattle.mtn_replay.specs.Making.{place_of}
use Rattle.mtn_answers.specs.declared.query.Line.{Line}
use Rattle.mtn_answers.specs.declared.query.Query.{Query}
use Rattle.mtn_answers.specs.declared.query.Query.TheVariants.{Parents, Children, Ancestors, Descendents, CommonAncestors, EraseAncestors, Toposort, AncestryDifference, Leaves, Roots}
use Rattle.mtn_answers.specs.Lines.{HasParents, IsGraph}
use Rattle.mtn_base.specs.Lists.{IsListOf}
use Rattle.mtn_answers.specs.Queries.{first_unknown, IsAbove, IsAnswer, IsAsked, IsHeld, IsParent, IsProperlyAbove}
use Rattle.mtn_answers.proofs.Lists.{listed_by}
use Rattle.mtn_step.specs.declared.call.Call.TheVariants.{Ask}
use Rattle.mtn_order.specs.Free.{in_log_order}
use Rattle.mtn_renaming.specs.Renaming.{IsRenaming}
use Rattle.mtn_renaming.proofs.Elements.{contains_map}
use Rattle.mtn_renaming.proofs.Refusing.{same_place}
use Rattle.mtn_renaming.proofs.Renamed.{above_to, place_to, same_parents, turned}

none_moved : (to : ℕ → ℕ) (o : Option ℕ) → is_none (option_map to o) ≡ is_none o
none_moved to None = refl
none_moved to (Some r) = refl

module _ (h g : List Revision) (to back : ℕ → ℕ) (is : IsRenaming h g to back) where
  pub same_unknown : (ids : List Id) → first_unknown g ids ≡ first_unknown h ids
  same_unknown ids = λ i. find (λ id. at id i) ids
    where
      at : (id : Id) → is_none (place_of g id) ≡ is_none (place_of h id)
      at id = ap is_none (same_place h g to back is id) ∙ none_moved to (place_of h id)

  held_there : (x : Id) → IsHeld h x → IsHeld g x
  held_there x a = (to a.0, place_to h g to back is x a.0 a.1)

  parent_there : (x r : Id) → IsParent h x r → IsParent g x r
  parent_there x r e = (
    to e.0,
    to e.1,
    place_to h g to back is x e.0 e.2,
    place_to h g to back is r e.1 e.3,
    subst (λ ps. Contains ps (to e.0)) (sym (same_parents h g to back is e.1)) (contains_map to (parents_at h e.1) e.0 e.4),
  )

  above_there : (x r : Id) → IsAbove h x r → IsAbove g x r
  above_there x r e = (to e.0, to e.1, place_to h g to back is x e.0 e.2, place_to h g to back is r e.1 e.3, above_to h g to back is e.0 e.1 e.4)

  pub properly_there : (x r : Id) → IsProperlyAbove h x r → IsProperlyAbove g x r
  properly_there x r e = (e.0, above_there x r e.1)

module _ (h g : List Revision) (to back : ℕ → ℕ) (is : IsRenaming h g to back) where
  abbrev turn : IsRenaming g h back to
  turn = turned h g to back is

  asked_there : (q : Query) (x : Id) → IsAsked h q x → IsAsked g q x
  asked_there (Parents r) x e = parent_there h g to back is x r e
  asked_there (Children r) x e = parent_there h g to back is r x e
  asked_there (Ancestors of) x e = (e.0, e.1, properly_there h g to back is x e.0 e.2)
  asked_there (Descendents of) x e = (e.0, e.1, properly_there h g to back is e.0 x e.2)
  asked_there (CommonAncestors r others) x e = (above_there h g to back is x r e.0, λ o c. above_there h g to back is x o (e.1 o c))
  asked_there (EraseAncestors of) x e = (e.0, λ r c above. e.1 r c (properly_there g h back to turn x r above))
  asked_there (Toposort of) x e = e
  asked_there (AncestryDifference r without) x e = (above_there h g to back is x r e.0, λ o c above. e.1 o c (above_there g h back to turn x o above))
  asked_there Leaves x e = (held_there h g to back is x e.0, λ c parent. e.1 c (parent_there g h back to turn x c parent))
  asked_there Roots x e = (held_there h g to back is x e.0, λ p parent. e.1 p (parent_there g h back to turn p x parent))

module _ (h g : List Revision) (to back : ℕ → ℕ) (is : IsRenaming h g to back) where
  listed_there : (q : Query) (ids : List Id) → IsListOf by_id (IsAsked h q) ids → IsListOf by_id (IsAsked g q) ids
  listed_there q ids list = listed_by by_id (IsAsked h q) (IsAsked g q) ids (asked_there h g to back is q) (asked_there g h back to (turned h g to back is) q) list

  pub kept_answer : (q : Query) (ids : List Id) → in_log_order (Ask q) ≡ false → IsAnswer h q ids → IsAnswer g q ids
  kept_answer (Parents r) ids free list = listed_there (Parents r) ids list
  kept_answer (Children r) ids free list = listed_there (Children r) ids list
  kept_answer (Ancestors of) ids free list = listed_there (Ancestors of) ids list
  kept_answer (Descendents of) ids free list = listed_there (Descendents of) ids list
  kept_answer (CommonAncestors r others) ids free list = listed_there (CommonAncestors r others) ids list
  kept_answer (EraseAncestors of) ids free list = listed_there (EraseAncestors of) ids list
  kept_answer (Toposort of) ids free list = absurd cc
  kept_answer (AncestryDifference r without) ids free list = absurd cc
  kept_answer Leaves ids free list = listed_there Leaves ids list
  kept_answer Roots ids free list = listed_there Roots ids list

  parents_there : (line : Line) → HasParents h line → HasParents g line
  parents_there line list = listed_by by_id (λ x. IsParent h x line.id) (λ x. IsParent g x line.id) line.parents
      (λ x e. parent_there h g to back is x line.id e) (λ x e. parent_there g h back to (turned h g to back is) x line.id e) list

  pub kept_graph : (lines : List Line) → IsGraph h lines → IsGraph g lines
  kept_graph lines graph = record {
    ids = listed_by by_id (IsHeld h) (IsHeld g) (map (λ (line : Line). line.id) lines) (held_there h g to back is) (held_there g h back to (turned h g to back is)) graph.ids;
    parents = All-weaker (HasParents h) (HasParents g) parents_there lines graph.parents;
  }
