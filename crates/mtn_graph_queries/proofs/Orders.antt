-- The lines of a graph.
use Rattle.std.specs.Prelude.{map}
use Rattle.std.proofs.Common.{◌≡◌, ◌<◌, ◌+◌, ◌++◌, ℕ, List, [], ◌∷◌, length, get_or, take, sym, ap, ◌∙◌}
use Rattle.std.proofs.lemmas.List.{map-append, take_more}
use Rattle.mtn_answers.specs.declared.query.Line.{Line}
use Rattle.mtn_base.specs.declared.id.Id.{Id}

-- one line more
pub line_more : (lines new : List Line) (ids : List Id) (i : ℕ) (l : Line) (x : Id) → i < length ids → x ≡ get_or ids i x → map (λ (k : Line). k.id) lines ≡ take i ids → l.id ≡ x → new ≡ lines ++ l ∷ [] →
    map (λ (k : Line). k.id) new ≡ take (i + 1) ids
line_more lines new ids i l x lt item so_far same is =
    ap (map (λ (k : Line). k.id)) is ∙ map-append (λ (k : Line). k.id) lines (l ∷ []) ∙ ap (λ ys. ys ++ l.id ∷ []) so_far ∙ ap (λ y. take i ids ++ y ∷ []) (same ∙ item) ∙ sym (take_more ids i x lt)
