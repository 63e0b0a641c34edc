-- One step of the way down to a path.
use Rattle.std.specs.Prelude.{find, reverse, option_and_then}
use Rattle.std.proofs.Common.{◌≡◌, ℕ, ◌+◌, ◌<◌, List, [], ◌∷◌, ◌++◌, Option, length, take, get_or, sym, ◌∙◌, ap}
use Rattle.std.proofs.lemmas.List.{reverse-append, reverse-reverse, take_more}
use Rattle.mtn_changes.specs.declared.change.Change.{Change}
use Rattle.mtn_roster.specs.Tree.{Tree}
use Rattle.mtn_changeset_laws.specs.Changes.{Occupant, aims_at, kept_child, occupant_by, occupant, occupant_up}

pub reverse_push : (p : List (List ℕ)) (name : List ℕ) → reverse (p ++ name ∷ []) ≡ name ∷ reverse p
reverse_push p name = reverse-append p (name ∷ [])

module _ (old : Tree) (all : List Change) where
  pub occupant_push : (p : List (List ℕ)) (name : List ℕ) →
      occupant old all (p ++ name ∷ []) ≡ occupant_by old (option_and_then (kept_child old all name) (occupant old all p)) (find (aims_at (p ++ name ∷ [])) all)
  occupant_push p name =
      ap (occupant_up old all) (reverse_push p name)
      ∙ ap (λ q. occupant_by old (option_and_then (kept_child old all name) (occupant old all p)) (find (aims_at q) all)) (ap reverse (sym (reverse_push p name)) ∙ reverse-reverse (p ++ name ∷ []))

  -- the occupant of the path with one component more
  pub stepped : (comps path : List (List ℕ)) (name : List ℕ) (i : ℕ) (here aside next : Option Occupant) → i < length comps → name ≡ get_or comps i name →
      path ≡ take (i + 1) comps → here ≡ occupant old all (take i comps) → aside ≡ option_and_then (kept_child old all name) here →
      next ≡ occupant_by old aside (find (aims_at path) all) → next ≡ occupant old all (take (i + 1) comps)
  stepped comps path name i here aside next low is whole at below put =
      let more : take (i + 1) comps ≡ take i comps ++ name ∷ [] = take_more comps i name low ∙ ap (λ (n : List ℕ). take i comps ++ n ∷ []) (sym is) in
      put
      ∙ ap (λ q. occupant_by old aside (find (aims_at q) all)) (whole ∙ more)
      ∙ ap (λ o. occupant_by old o (find (aims_at (take i comps ++ name ∷ [])) all)) (below ∙ ap (option_and_then (kept_child old all name)) at)
      ∙ sym (occupant_push (take i comps) name)
      ∙ ap (occupant old all) (sym more)
