-- Nodes as the walk meets them, and the numbers that all have at its end.
use Rattle.std.specs.Prelude.{map, is_some, not, option_map, slice_get, Contains}
use Rattle.std.specs.List.{IsDistinct, position_from}
use Rattle.std.specs.declared.cmp.Ordering.TheVariants.{Less, Equal}
use Rattle.std.specs.Cmp.{first_so, tied_itself}
use Rattle.std.proofs.Common.{◌≡◌, ℕ, zero, suc, ◌+◌, ◌<◌, ◌≤◌, true, false, List, [], ◌∷◌, ◌++◌, length, take, drop, get_or, Option, Some, None, refl, sym, ◌∙◌, ap, subst, arith, inl, inr, length-append}
use Rattle.std.proofs.lemmas.List.{take-append-drop, take_more}
use Rattle.std.proofs.lemmas.List.Elements.{Contains-append_right, filter-append}
use Rattle.std.proofs.lemmas.Map.Keys.{IsDistinct-from_apart}
use Rattle.std.proofs.lemmas.Option.{slice_get-get_or}
use Rattle.mtn_base.specs.Names.{name_cmp, path_cmp, same_path}
use Rattle.mtn_base.specs.declared.name.NodeName.{NodeName}
use Rattle.mtn_marking.specs.Marking.{AreFor}
use Rattle.mtn_marking.specs.declared.node.NodeMarks.{NodeMarks}
use Rattle.mtn_marking.proofs.Zips.{got_at, take_past}
use Rattle.mtn_roster.specs.declared.entry.Entry.{Entry}
use Rattle.mtn_roster.specs.declared.walk.Stop.{Stop}
use Rattle.mtn_roster.specs.Tree.{Tree, entry_of, node_at, path_of, IsSane}
use Rattle.mtn_base.specs.Lists.{rises}
use Rattle.mtn_roster.specs.Walk.{by_path, AreStops}
use Rattle.mtn_roster.proofs.Forest.{same_some}
use Rattle.mtn_base.proofs.Orders.{names_total, paths_total}
use Rattle.mtn_base.proofs.Members.{taken}
use Rattle.mtn_roster.proofs.Ordered.{distinct_of, forest_of}
use Rattle.mtn_roster.proofs.Pathing.{path_leads}
use Rattle.mtn_roster.proofs.Paths.{exact_paths}
use Rattle.mtn_base.proofs.Sorting.{long_map, less_at, ordered-rises, in_ordered, of_ordered}
use Rattle.mtn_roster.proofs.Stops.{map-append, map-snoc}
use Rattle.mtn_base.proofs.Tests.{same_path-is, same_path-self}
use Rattle.mtn_roster_deltas.specs.Chain.{Entries}
use Rattle.mtn_roster_deltas.specs.Numbering.{all_of, fresh, number_among, unnumbered, or_next, number_by, number_in}
use Rattle.mtn_roster_deltas.specs.Noting.{positive, AreFilled, HaveNumbers}
use Rattle.mtn_roster_deltas.proofs.Ascending.{cut_of, place_by}
use Rattle.mtn_roster_deltas.proofs.Places.{marked_names, tree_names, get_map, some_is, contains_cons, contains_got, filter_keeps, is_name, place_there}

pub same_names : (t : Tree) (ms : List NodeMarks) → AreFor t ms → marked_names ms ≡ tree_names t
same_names [] [] h = refl
same_names [] (m ∷ ms) h = absurd h
same_names (e ∷ t) [] h = absurd h
same_names (e ∷ t) (m ∷ ms) h = λ i. h.0.name i ∷ same_names t ms h.1 i

mapped : {X Y : Type 0} (f : X → Y) (xs : List X) (y : Y) → Contains (map f xs) y → (x : X) × Contains xs x × (f x ≡ y)
mapped f [] y c = absurd (omega (arith, c.1))
mapped f (x ∷ xs) y c = elim (contains_cons (f x) (map f xs) y c) [
  | inl e ↦ (x, (0, omega arith, refl), e)
  | inr t ↦ let r = mapped f xs y t in (r.0, Contains-append_right (x ∷ []) xs r.0 r.1, r.2)
]

map_keeps : {X Y : Type 0} (f : X → Y) (xs : List X) (x : X) → Contains xs x → Contains (map f xs) (f x)
map_keeps f [] x c = absurd (omega (arith, c.1))
map_keeps f (z ∷ xs) x c = elim (contains_cons z xs x c) [
  | inl e ↦ subst (λ y. Contains (map f (z ∷ xs)) (f y)) e (0, omega arith, refl)
  | inr t ↦ Contains-append_right (f z ∷ []) (map f xs) (f x) (map_keeps f xs x t)
]

early : {X : Type 0} (i : ℕ) (xs : List X) (x : X) → Contains (take i xs) x → (j : ℕ) × (j < i) × (j < length xs) × (get_or xs j x ≡ x)
early zero xs x c = absurd (omega (arith, c.1))
early (suc i) [] x c = absurd (omega (arith, c.1))
early (suc i) (y ∷ xs) x c = elim (contains_cons y (take i xs) x c) [
  | inl e ↦ (0, omega arith, omega arith, e)
  | inr t ↦ let r = early i xs x t in (suc r.0, omega (arith, r.1), omega (arith, r.2), r.3)
]

-- the entry at a stop
read : (o : Option Entry) (p : Option Entry) → Some p ≡ option_map Some o → (e : Entry) × (o ≡ Some e) × (p ≡ Some e)
read None p h = absurd cc
read (Some e) p h = (e, refl, some_is h)

pub stop_is : (t : Tree) (stops : List Stop) → AreStops t stops → (i : ℕ) (d : Stop) → i < length stops →
    (e : Entry) × (slice_get (by_path t) i ≡ Some e) × (slice_get t (get_or stops i d).place ≡ Some e)
stop_is t stops are i d lt =
    read (slice_get (by_path t) i) (slice_get t (get_or stops i d).place)
    (sym (ap (option_map (λ (s : Stop). slice_get t s.place)) (slice_get-get_or stops i d lt)) ∙ sym (get_map (λ (s : Stop). slice_get t s.place) stops i)
    ∙ ap (λ l. slice_get l i) are.order ∙ get_map Some (by_path t) i)

module _ (t : Tree) (sane : IsSane t) where
  pub names_up : rises name_cmp (tree_names t) ≡ true
  names_up = first_so _ _ sane.ordered

  pub one_by_name : (e f : Entry) → Contains t e → Contains t f → e.name ≡ f.name → e ≡ f
  one_by_name e f a b same = same_some (distinct_of t names_up e (cut_of t e a)) (ap (entry_of t) same ∙ distinct_of t names_up f (cut_of t f b))

  own_paths : IsDistinct (λ (e : Entry) (f : Entry). same_path (path_of t e) (path_of t f)) t
  own_paths = IsDistinct-from_apart (λ (e : Entry) (f : Entry). same_path (path_of t e) (path_of t f)) t (λ i j d lt low.
      let li : i < length t = omega arith in
      let e = get_or t i d in
      let f = get_or t j d in
      let a = taken t i li in
      let b = taken t j low in
      elim (same_path (path_of t e) (path_of t f)) as (λ b. same_path (path_of t e) (path_of t f) ≡ b → b ≡ false) [
        | true ↦ λ g. absurd (
            let leads_e : node_at t (path_of t e) ≡ Some e = path_leads t (forest_of t sane) e.name e (subst (λ x. entry_of t x.name ≡ Some x) (sym (a.3 d)) (distinct_of t names_up a.0 a.2)) in
            let leads_f : node_at t (path_of t f) ≡ Some f = path_leads t (forest_of t sane) f.name f (subst (λ x. entry_of t x.name ≡ Some x) (sym (b.3 d)) (distinct_of t names_up b.0 b.2)) in
            let one : e ≡ f = same_some leads_e (ap (node_at t) (same_path-is (path_of t e) (path_of t f) g) ∙ leads_f) in
            let less : name_cmp e.name f.name ≡ Less = less_at name_cmp (λ (x : Entry). x.name) names_total t i j d names_up lt low in
            let tied : name_cmp e.name f.name ≡ Equal = ap (λ (x : Entry). name_cmp e.name x.name) (sym one) ∙ tied_itself names_total e.name in cc)
        | false ↦ λ g. refl
      ] refl)

  pub in_walk : (e : Entry) → Contains t e → Contains (by_path t) e
  in_walk e c = place_by (by_path t) e (in_ordered path_cmp (path_of t) paths_total same_path same_path-is same_path-self exact_paths t own_paths e (cut_of t e c))

  of_walk : (e : Entry) → Contains (by_path t) e → Contains t e
  of_walk e c = place_by t e (of_ordered path_cmp (path_of t) paths_total t e (cut_of (by_path t) e c))

  -- no node is met twice
  pub once : (i : ℕ) (e : Entry) → slice_get (by_path t) i ≡ Some e → Contains (tree_names (take i (by_path t))) e.name → ⊥
  once i e at c =
      let f = mapped (λ (x : Entry). x.name) (take i (by_path t)) e.name c in
      let j = early i (by_path t) f.0 f.1 in
      let g = got_at (by_path t) i e at in
      let one : f.0 ≡ e = one_by_name f.0 e (of_walk f.0 (j.0, j.2, j.3)) (of_walk e (contains_got (by_path t) i e at)) f.2 in
      let less = less_at path_cmp (path_of t) paths_total (by_path t) j.0 i e (ordered-rises path_cmp (path_of t) paths_total t) j.1 g.0 in
      let at_j : get_or (by_path t) j.0 e ≡ e = ap (get_or (by_path t) j.0) (sym one) ∙ j.3 ∙ one in
      let same : path_cmp (path_of t e) (path_of t e) ≡ Less = (let back = sym at_j in λ k. path_cmp (path_of t (back k)) (path_of t (g.1 k))) ∙ less in
      let tied = tied_itself paths_total (path_of t e) in cc

-- how many have none so far
pub fresh_grows : (es : Entries) (w : List Entry) (i : ℕ) → length (unnumbered es (tree_names (take i w))) ≤ length (unnumbered es (tree_names w))
fresh_grows es w i =
    let lacks = λ (n : NodeName). not (is_some (number_among es n)) in
    let e : unnumbered es (tree_names w) ≡ unnumbered es (tree_names (take i w)) ++ unnumbered es (tree_names (drop i w)) =
    ap (λ l. unnumbered es (tree_names l)) (sym (take-append-drop i w)) ∙ ap (unnumbered es) (map-append (λ (x : Entry). x.name) (take i w) (drop i w)) ∙ filter-append lacks (tree_names (take i w)) (tree_names (drop i w)) in
    omega (arith, ap length e, length-append (unnumbered es (tree_names (take i w))) (unnumbered es (tree_names (drop i w))))

pub met_more : (w : List Entry) (i : ℕ) (e : Entry) → slice_get w i ≡ Some e → tree_names (take (i + 1) w) ≡ tree_names (take i w) ++ e.name ∷ []
met_more w i e at =
    let g = got_at w i e at in
    ap tree_names (take_more w i e g.0 ∙ ap (λ z. take i w ++ z ∷ []) (sym g.1)) ∙ map-snoc (λ (x : Entry). x.name) (take i w) e

-- the next number at the end of the walk
pub all_met : (known : List Entries) (next : ℕ) (t : Tree) (ns : List ℕ) (free i : ℕ) → length (by_path t) ≤ i →
    AreFilled (all_of known) next (tree_names t) (tree_names (take i (by_path t))) ns free → free ≡ next + length (fresh known t)
all_met known next t ns free i le h = h.next_is ∙ ap (λ l. next + length (unnumbered (all_of known) (tree_names l))) (take_past (by_path t) i le)

-- all nodes have their numbers at the end of the walk
pub all_filled : (known : List Entries) (next : ℕ) (t : Tree) (ns : List ℕ) (free i : ℕ) → IsSane t → length (by_path t) ≤ i → length ns ≡ length t →
    AreFilled (all_of known) next (tree_names t) (tree_names (take i (by_path t))) ns free → HaveNumbers known next t ns
all_filled known next t ns free i sane le long h = record {
  long = long;
  each = λ k e at.
      let whole : take i (by_path t) ≡ by_path t = take_past (by_path t) i le in
      let told : number_in known next t e.name ≡ positive (get_or ns k 0) =
      ap (λ l. number_by next (all_of known) (unnumbered (all_of known) (tree_names l)) e.name) (sym whole) ∙ h.each k e.name (get_map (λ (x : Entry). x.name) t k ∙ ap (option_map (λ (x : Entry). x.name)) at) in
      let met : Contains (tree_names (by_path t)) e.name = map_keeps (λ (x : Entry). x.name) (by_path t) e (in_walk t sane e (contains_got t k e at)) in
      has (number_among (all_of known) e.name) refl (position_from (is_name e.name) 0 (fresh known t)) refl (get_or ns k 0) told met;
}
  where
    has : {n : NodeName} (o : Option ℕ) → number_among (all_of known) n ≡ o → (p : Option ℕ) → position_from (is_name n) 0 (fresh known t) ≡ p → (v : ℕ) → number_in known next t n ≡ positive v → Contains (tree_names (by_path t)) n →
        number_in known next t n ≡ Some v
    has {n} (Some m) e p g v told met = told ∙ some_of v m (sym told ∙ (λ i. or_next next (e i) (position_from (is_name n) 0 (fresh known t))))
      where
        some_of : (v m : ℕ) → positive v ≡ Some m → positive v ≡ Some v
        some_of zero m h = absurd cc
        some_of (suc v) m h = refl
    has {n} None e (Some k) g v told met = told ∙ some_of v (next + k) (sym told ∙ (λ i. or_next next (e i) (g i)))
      where
        some_of : (v m : ℕ) → positive v ≡ Some m → positive v ≡ Some v
        some_of zero m h = absurd cc
        some_of (suc v) m h = refl
    has {n} None e None g v told met = absurd (place_there n 0 (fresh known t) (filter_keeps (λ m. not (is_some (number_among (all_of known) m))) (tree_names (by_path t)) n met (ap (λ o. not (is_some o)) e)) g)

pub stops_long : (t : Tree) (stops : List Stop) → AreStops t stops → length stops ≡ length (by_path t)
stops_long t stops are = sym (long_map (λ (s : Stop). slice_get t s.place) stops) ∙ ap length are.order ∙ long_map Some (by_path t)
