-- The entries along the walk over a sane tree.
use Rattle.std.specs.Prelude.{option_map, option_copied, slice_get}
use Rattle.std.specs.List.{list_all, IsDistinct}
use Rattle.std.specs.declared.cmp.Ordering.TheVariants.{Less, Equal}
use Rattle.std.specs.Cmp.{first_so, second_so, tied_itself}
use Rattle.std.proofs.Common.{◌≡◌, ℕ, zero, suc, ◌<◌, Bool, true, false, List, [], ◌∷◌, ◌++◌, length, get_or, take, Option, Some, None, refl, sym, ◌∙◌, ap, subst, arith, inl, inr, Bor}
use Rattle.std.proofs.lemmas.Bool.{cases_lt}
use Rattle.std.proofs.lemmas.Option.{slice_get-get_or}
use Rattle.std.proofs.lemmas.Map.Keys.{IsDistinct-from_apart}
use Rattle.mtn_base.specs.Names.{path_cmp, name_cmp, same_path}
use Rattle.mtn_base.specs.declared.name.NodeName.{NodeName}
use Rattle.mtn_roster.specs.declared.entry.Entry.{Entry}
use Rattle.mtn_roster.specs.declared.walk.Stop.{Stop}
use Rattle.mtn_roster.specs.Tree.{Tree, IsSane, entry_of, node_at, path_of}
use Rattle.mtn_roster.specs.Walk.{by_path, IsAbove, AreStops}
use Rattle.mtn_base.proofs.Finding.{Split}
use Rattle.mtn_base.proofs.Members.{taken, place_of}
use Rattle.mtn_base.proofs.Tests.{same_path-is, same_path-self}
use Rattle.mtn_roster.proofs.Forest.{same_some, split_of}
use Rattle.mtn_base.proofs.Orders.{paths_total, names_total}
use Rattle.mtn_roster.proofs.Ordered.{forest_of}
use Rattle.mtn_roster.proofs.Paths.{exact_paths}
use Rattle.mtn_roster.proofs.Pathing.{path_leads}
use Rattle.mtn_base.proofs.Sorting.{long_map, less_at, of_ordered, in_ordered, ordered-rises}
use Rattle.mtn_roster.proofs.BySlot.{slot_is}
use Rattle.mtn_roster.proofs.Leading.{get_map, get_within}
use Rattle.mtn_roster.specs.Attrs.{are_keyed}

-- the entry of a name that was read
pub named_by : (o : Option Entry) (p : NodeName) → option_map (λ (e : Entry). e.name) o ≡ Some p → (d : Entry) × (o ≡ Some d) × (d.name ≡ p)
named_by None p h = absurd cc
named_by (Some d) p h = (d, refl, cc)

pub take_at : {X : Type 0} (xs : List X) (i k : ℕ) (x : X) → k < i → slice_get xs k ≡ Some x → slice_get (take i xs) k ≡ Some x
take_at [] i k x lt h = absurd cc
take_at (y ∷ xs) zero k x lt h = absurd (omega (arith, lt))
take_at (y ∷ xs) (suc i) zero x lt h = h
take_at (y ∷ xs) (suc i) (suc k) x lt h = take_at xs i k x (omega (arith, lt)) h

module _ (t : Tree) (stops : List Stop) (are : AreStops t stops) where
  reads : (i : ℕ) → option_map (λ (s : Stop). slice_get t s.place) (slice_get stops i) ≡ option_map Some (slice_get (by_path t) i)
  reads i = sym (get_map (λ (s : Stop). slice_get t s.place) stops i) ∙ ap (λ l. slice_get l i) are.order ∙ get_map Some (by_path t) i

  pub at_stop : (i : ℕ) (s : Stop) → slice_get stops i ≡ Some s → slice_get t s.place ≡ slice_get (by_path t) i
  at_stop i s h = one (slice_get (by_path t) i) (ap (option_map (λ (s : Stop). slice_get t s.place)) (sym h) ∙ reads i)
    where
      one : (o : Option Entry) → Some (slice_get t s.place) ≡ option_map Some o → slice_get t s.place ≡ o
      one None g = absurd cc
      one (Some e) g = cc

  pub past_end : (i : ℕ) → slice_get stops i ≡ None → slice_get (by_path t) i ≡ None
  past_end i h = none (slice_get (by_path t) i) (ap (option_map (λ (s : Stop). slice_get t s.place)) (sym h) ∙ reads i)
    where
      none : (o : Option Entry) → None ≡ option_map Some o → o ≡ None
      none None g = refl
      none (Some e) g = absurd cc

  pub as_long : length (by_path t) ≡ length stops
  as_long = sym (long_map Some (by_path t)) ∙ ap length (sym are.order) ∙ long_map (λ (s : Stop). slice_get t s.place) stops

  -- the number of its parent's stop
  pub above_at : (i : ℕ) (d : Stop) (e : Entry) → i < length stops → slice_get (by_path t) i ≡ Some e → IsAbove (by_path t) e.slot i (get_or stops i d).above
  above_at i d e low h =
      let s : Stop = get_or stops i d in
      let at : slice_get stops i ≡ Some s = slice_get-get_or stops i d low in
      subst (λ q. IsAbove (by_path t) q i s.above) (slot_is t s.place e (at_stop i s at ∙ h)) (are.parents i s at)

  -- the entry at a stop
  pub stop_has : (i : ℕ) (d : Stop) → i < length stops →
      (e : Entry) × (slice_get t (get_or stops i d).place ≡ Some e) × (slice_get (by_path t) i ≡ Some e) × IsAbove (by_path t) e.slot i (get_or stops i d).above
  stop_has i d low =
      let r = taken (by_path t) i (omega (arith, low, as_long)) in
      (r.0, at_stop i (get_or stops i d) (slice_get-get_or stops i d low) ∙ r.1, r.1, above_at i d r.0 low r.1)

module _ (t : Tree) (sane : IsSane t) where
  pub held : (i : ℕ) (e : Entry) → slice_get (by_path t) i ≡ Some e → entry_of t e.name ≡ Some e
  held i e h =
      let r = taken (by_path t) i (get_within (by_path t) i e h) in
      let is : r.0 ≡ e = same_some r.1 h in
      (forest_of t sane).distinct e (of_ordered path_cmp (path_of t) paths_total t e (subst (Split (by_path t)) is r.2))

  pub leads : (i : ℕ) (e : Entry) → slice_get (by_path t) i ≡ Some e → node_at t (path_of t e) ≡ Some e
  leads i e h = path_leads t (forest_of t sane) e.name e (held i e h)

  -- paths ascend along the walk
  pub less : (i j : ℕ) (d e : Entry) → i < j → slice_get (by_path t) i ≡ Some d → slice_get (by_path t) j ≡ Some e → path_cmp (path_of t d) (path_of t e) ≡ Less
  less i j d e lt h k =
      let low = get_within (by_path t) j e k in
      let a : get_or (by_path t) i d ≡ d = same_some (slice_get-get_or (by_path t) i d (omega arith)) h in
      let b : get_or (by_path t) j d ≡ e = same_some (slice_get-get_or (by_path t) j d low) k in
      ap (λ (x : Entry). path_cmp (path_of t x) (path_of t e)) (sym a) ∙ ap (λ (x : Entry). path_cmp (path_of t (get_or (by_path t) i d)) (path_of t x)) (sym b)
      ∙ less_at path_cmp (path_of t) paths_total (by_path t) i j d (ordered-rises path_cmp (path_of t) paths_total t) lt low

  pub not_less : (p q : List (List ℕ)) → p ≡ q → path_cmp p q ≡ Less → ⊥
  not_less p q e h = let z : path_cmp p q ≡ Equal = ap (path_cmp p) (sym e) ∙ tied_itself paths_total p in cc

  -- a path stands at one place of the walk
  pub one_stop : (i j : ℕ) (d e : Entry) → slice_get (by_path t) i ≡ Some d → slice_get (by_path t) j ≡ Some e → path_of t d ≡ path_of t e → i ≡ j
  one_stop i j d e h k same = elim (cases_lt i j) [
    | inl lt ↦ absurd (not_less (path_of t d) (path_of t e) same (less i j d e lt h k))
    | inr ge ↦ elim (cases_lt j i) [
      | inl lt ↦ absurd (not_less (path_of t e) (path_of t d) (sym same) (less j i e d lt k h))
      | inr le ↦ omega arith
    ]
  ]

  apart : IsDistinct (λ (e : Entry) (f : Entry). same_path (path_of t e) (path_of t f)) t
  apart = IsDistinct-from_apart (λ (e : Entry) (f : Entry). same_path (path_of t e) (path_of t f)) t (λ i j d lt low.
      let li : i < length t = omega arith in
      let a = taken t i li in
      let b = taken t j low in
      let e = get_or t i d in
      let f = get_or t j d in
      elim (same_path (path_of t e) (path_of t f)) as (λ b. same_path (path_of t e) (path_of t f) ≡ b → b ≡ false) [
        | false ↦ λ q. refl
        | true ↦ λ q. absurd (
            let forest = forest_of t sane in
            let he = forest.distinct e (subst (Split t) (sym (a.3 d)) a.2) in
            let hf = forest.distinct f (subst (Split t) (sym (b.3 d)) b.2) in
            let one : e ≡ f = same_some (path_leads t forest e.name e he) (ap (node_at t) (same_path-is (path_of t e) (path_of t f) q) ∙ path_leads t forest f.name f hf) in
            let less = less_at name_cmp (λ (e : Entry). e.name) names_total t i j d (first_so _ _ sane.ordered) lt low in
            let equal : name_cmp e.name f.name ≡ Equal = ap (λ (x : Entry). name_cmp e.name x.name) (sym one) ∙ tied_itself names_total e.name in
            cc)
      ] refl)

  -- each node is met
  pub met : (e : Entry) → entry_of t e.name ≡ Some e → Split (by_path t) e
  met e h = in_ordered path_cmp (path_of t) paths_total same_path same_path-is same_path-self exact_paths t apart e (split_of t e.name e h)

  pub reached : (e : Entry) → entry_of t e.name ≡ Some e → (i : ℕ) × (slice_get (by_path t) i ≡ Some e)
  reached e h =
      let q = place_of (by_path t) e (met e h) in
      (q.0, slice_get-get_or (by_path t) q.0 e q.1 ∙ ap Some (q.2 e))

-- what a look-up by a number gives
pub got : {X : Type 0} (xs : List X) (i : ℕ) (x : X) → i < length xs → x ≡ get_or xs i x → slice_get xs i ≡ Some x
got xs i x low is = slice_get-get_or xs i x low ∙ ap Some (sym is)

all_here : (p : Entry → Bool) (xs : List Entry) (x : Entry) → list_all p xs ≡ true → Split xs x → p x ≡ true
all_here p xs x h s = go s.before (ap (list_all p) (sym s.is) ∙ h)
  where
    go : (before : List Entry) → list_all p (before ++ x ∷ s.rest) ≡ true → p x ≡ true
    go [] g = first_so _ _ g
    go (b ∷ before) g = go before (second_so (p b) _ g)

-- the keys of a node ascend
pub keyed : (t : Tree) (sane : IsSane t) (e : Entry) → entry_of t e.name ≡ Some e → are_keyed e.attrs ≡ true
keyed t sane e h = all_here (λ (e : Entry). are_keyed e.attrs) t e (second_so _ _ sane.ordered) (split_of t e.name e h)

-- an entry that was unwrapped
pub unwrapped : (o : Option (Bor Entry)) (b : Bor Entry) (p : Option Entry) → o ≡ Some b → option_copied o ≡ p → p ≡ Some b.now
unwrapped o b p h g = sym g ∙ ap option_copied h
