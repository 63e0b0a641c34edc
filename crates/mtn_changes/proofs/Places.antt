-- The order of places, and lists of edges with one more.
use Rattle.std.proofs.Common.{◌≡◌, ℕ, ◌+◌, ◌<◌, List, [], ◌∷◌, ◌++◌, length, get_or, take, refl, sym, ap, subst, ◌∙◌, append_assoc}
use Rattle.std.specs.List.{flat_map}
use Rattle.std.specs.Cmp.{IsTotalOrder}
use Rattle.std.specs.Cmp.Lexicographic.{lists_total, nat_list_cmp_total}
use Rattle.std.proofs.lemmas.Cmp.{on_total, then_total, nat_cmp_total}
use Rattle.std.proofs.lemmas.List.{take_more, append-nil}
use Rattle.std.proofs.lemmas.Grind.{flat_map-append}
use Rattle.mtn_basic_io.specs.Spelling.{LineText}
use Rattle.mtn_changes.specs.declared.change.Edge.{Edge}
use Rattle.mtn_changes.specs.declared.target.Target.{Target}
use Rattle.mtn_changes.specs.Targets.{target_cmp}
use Rattle.mtn_changes.specs.RevisionText.{edge_stanzas}
use Rattle.mtn_changes.specs.Sorting.{IsSortedAs, AreSortedAs, EdgeWritten, EdgesWritten}

pub target_total : IsTotalOrder target_cmp
target_total =
    then_total (on_total (λ (s : Target). s.kind) nat_cmp_total) (then_total (on_total (λ (s : Target). s.path) (lists_total nat_list_cmp_total)) (on_total (λ (s : Target). s.key) nat_list_cmp_total))

one_more : (es fs : List Edge) (e f : Edge) → AreSortedAs es fs → f.parent ≡ e.parent → IsSortedAs e.changes f.changes → AreSortedAs (es ++ e ∷ []) (fs ++ f ∷ [])
one_more [] [] e f are same sorted = (same, sorted, tt)
one_more [] (y ∷ fs) e f are same sorted = absurd are
one_more (x ∷ es) [] e f are same sorted = absurd are
one_more (x ∷ es) (y ∷ fs) e f are same sorted = (are.0, are.1, one_more es fs e f are.2 same sorted)

pub edges_more : (before mid after : List (List LineText)) (edges : List Edge) (k : ℕ) (e : Edge) → EdgesWritten before (take k edges) mid → EdgeWritten mid e after → e ≡ get_or edges k e → k < length edges
    → EdgesWritten before (take (k + 1) edges) after
edges_more before mid after edges k e done more is lt =
    let last : Edge = record { parent = e.parent; changes = more.sorted } in
    let front : take (k + 1) edges ≡ take k edges ++ e ∷ [] = take_more edges k e lt ∙ ap (λ (x : Edge). take k edges ++ x ∷ []) (sym is) in
    record {
      sorted = done.sorted ++ last ∷ [];
      are = subst (λ (es : List Edge). AreSortedAs es (done.sorted ++ last ∷ [])) (sym front) (one_more (take k edges) done.sorted e last done.are refl more.is);
      spelled =
          more.spelled
          ∙ ap (λ (us : List (List LineText)). us ++ edge_stanzas last) done.spelled
          ∙ append_assoc before (flat_map edge_stanzas done.sorted) (edge_stanzas last)
          ∙ ap (λ (us : List (List LineText)). before ++ (flat_map edge_stanzas done.sorted ++ us)) (sym (append-nil (edge_stanzas last)))
          ∙ ap (λ (us : List (List LineText)). before ++ us) (sym (flat_map-append edge_stanzas done.sorted (last ∷ [])));
    }
