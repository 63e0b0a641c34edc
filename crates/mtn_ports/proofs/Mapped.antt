-- A list that a loop maps item by item.
use Rattle.std.proofs.Common.{◌≡◌, ℕ, ◌+◌, ◌<◌, List, [], ◌∷◌, ◌++◌, length, get_or, map, take, sym, ap, ◌∙◌}
use Rattle.std.proofs.lemmas.List.{map_more}

-- one item more
pub mapped_more : {X Y : Type 0} (f : X → Y) (xs : List X) (i : ℕ) (x : X) (y : Y) (ys more : List Y) → i < length xs → x ≡ get_or xs i x → y ≡ f x →
    ys ≡ map f (take i xs) → more ≡ ys ++ y ∷ [] → more ≡ map f (take (i + 1) xs)
mapped_more f xs i x y ys more below at is so_far added =
    added
    ∙ ap (λ zs. zs ++ y ∷ []) so_far
    ∙ ap (λ z. map f (take i xs) ++ z ∷ []) (is ∙ ap f at)
    ∙ sym (map_more f xs i x below)
