-- What each query of the graph asks for, in terms of the ids of a history. The queries and their names are those of Monotone's
-- manual (automate parents, children, ancestors, descendents, common_ancestors, erase_ancestors, toposort, ancestry_difference,
-- leaves, roots, graph); that an unknown id is refused wherever it stands, and where lists are in log order, is our choice.
use Rattle.std.specs.Prelude.{◌≢◌, List, [], ◌∷◌, length, Option, Contains, find, is_none, unwrap_or}
use Rattle.std.specs.Ordering.{nat_cmp}
use Rattle.std.specs.declared.cmp.Ordering.{Ordering}
use Rattle.mtn_base.specs.declared.id.Id.{Id}
use Rattle.mtn_ancestry.specs.Ancestors.{IsAncestor}
use Rattle.mtn_history_laws.specs.History.{Revision, parents_at, IsPlaceOf}
use Rattle.mtn_base.specs.Ids.{by_id}
use Rattle.mtn_base.specs.Lists.{IsListOf}
use Rattle.mtn_replay.specs.Making.{place_of}
use Rattle.mtn_answers.specs.declared.query.Query.{Query}
use Rattle.mtn_answers.specs.declared.query.Query.TheVariants.{Parents, Children, Ancestors, Descendents, CommonAncestors, EraseAncestors, Toposort, AncestryDifference, Leaves, Roots}

-- x is a revision of the history
abbrev pub IsHeld : List Revision → Id → Type 0
IsHeld h x = (a : _) × IsPlaceOf h x a

-- x is a parent of r
abbrev pub IsParent : List Revision → Id → Id → Type 0
IsParent h x r = (a b : _) × IsPlaceOf h x a × IsPlaceOf h r b × Contains (parents_at h b) a

-- x is r or an ancestor of it
abbrev pub IsAbove : List Revision → Id → Id → Type 0
IsAbove h x r = (a b : _) × IsPlaceOf h x a × IsPlaceOf h r b × IsAncestor (parents_at h) a b

-- x is another revision than r, and an ancestor of it
abbrev pub IsProperlyAbove : List Revision → Id → Id → Type 0
IsProperlyAbove h x r = (x ≢ r) × IsAbove h x r

-- x is one of those asked for
abbrev pub IsAsked : List Revision → Query → Id → Type 0
IsAsked h (Parents r) x = IsParent h x r
IsAsked h (Children r) x = IsParent h r x
IsAsked h (Ancestors of) x = (r : Id) × Contains of r × IsProperlyAbove h x r
IsAsked h (Descendents of) x = (r : Id) × Contains of r × IsProperlyAbove h r x
IsAsked h (CommonAncestors r others) x = IsAbove h x r × ((o : Id) → Contains others o → IsAbove h x o)
IsAsked h (EraseAncestors of) x = Contains of x × ((r : Id) → Contains of r → ¬ IsProperlyAbove h x r)
IsAsked h (Toposort of) x = Contains of x
IsAsked h (AncestryDifference r without) x = IsAbove h x r × ((o : Id) → Contains without o → ¬ IsAbove h x o)
IsAsked h Leaves x = IsHeld h x × ((c : Id) → ¬ IsParent h x c)
IsAsked h Roots x = IsHeld h x × ((p : Id) → ¬ IsParent h p x)

-- the order of the log
abbrev pub by_place : List Revision → Id → Id → Ordering
by_place h x y = nat_cmp (unwrap_or (place_of h x) (length h)) (unwrap_or (place_of h y) (length h))

abbrev pub order_of : List Revision → Query → Id → Id → Ordering
order_of h (Toposort of) = by_place h
order_of h (AncestryDifference r without) = by_place h
order_of h _ = by_id

-- the answer to a query
abbrev pub IsAnswer : List Revision → Query → List Id → Type 0
IsAnswer h q ids = IsListOf (order_of h q) (IsAsked h q) ids

-- the ids that a query names, in order
abbrev pub ids_of : Query → List Id
ids_of (Parents r) = r ∷ []
ids_of (Children r) = r ∷ []
ids_of (Ancestors of) = of
ids_of (Descendents of) = of
ids_of (CommonAncestors r others) = r ∷ others
ids_of (EraseAncestors of) = of
ids_of (Toposort of) = of
ids_of (AncestryDifference r without) = r ∷ without
ids_of Leaves = []
ids_of Roots = []

-- the first of them that the history does not have
abbrev pub first_unknown : List Revision → List Id → Option Id
first_unknown h ids = find (λ id. is_none (place_of h id)) ids
