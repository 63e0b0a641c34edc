-- A tree without nodes.
use Rattle.std.specs.Prelude.{option_and_then}
use Rattle.std.proofs.Common.{◌≡◌, ℕ, List, [], ◌∷◌, None, refl, ap}
use Rattle.mtn_roster.specs.Tree.{node_up, child_of}

pub nothing_up : (up : List (List ℕ)) → node_up [] up ≡ None
nothing_up [] = refl
nothing_up (name ∷ up) = ap (option_and_then (child_of [] name)) (nothing_up up)
