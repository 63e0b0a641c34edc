-- Names and paths of entries at places.
use Rattle.std.specs.Prelude.{map, option_map, slice_get, filter_map}
use Rattle.std.specs.List.{filter, list_all, IsDistinct, cons_option}
use Rattle.std.specs.Ordering.{is_lt}
use Rattle.std.specs.declared.cmp.Ordering.TheVariants.{Equal}
use Rattle.std.specs.Cmp.{first_so, second_so, tied_itself}
use Rattle.std.proofs.Common.{◌≡◌, ℕ, zero, suc, ◌+◌, ◌<◌, true, false, List, [], ◌∷◌, ◌++◌, length, get_or, take, Option, Some, refl, sym, ◌∙◌, ap, subst, arith}
use Rattle.std.proofs.lemmas.List.{take_more}
use Rattle.std.proofs.lemmas.Option.{slice_get-get_or}
use Rattle.std.proofs.lemmas.Map.Keys.{IsDistinct-from_apart}
use Rattle.mtn_base.specs.Names.{bytes_cmp, same_bytes, name_cmp}
use Rattle.mtn_base.specs.declared.name.NodeName.{NodeName}
use Rattle.mtn_roster.specs.declared.entry.Entry.{Entry}
use Rattle.mtn_roster.specs.declared.entry.Slot.TheVariants.{Below}
use Rattle.mtn_roster.specs.declared.walk.Stop.{Stop}
use Rattle.mtn_roster.specs.Tree.{Tree, entry_of, IsSane}
use Rattle.mtn_base.specs.Lists.{rises}
use Rattle.mtn_roster.specs.Index.{IsIndex, slot_cmp, slot_in}
use Rattle.mtn_roster.specs.Walk.{by_path, path_at, is_below, component, children_of, AreStops}
use Rattle.mtn_base.proofs.Finding.{Split, later}
use Rattle.mtn_base.proofs.Members.{head, of_filter_map, in_filter_map, taken}
use Rattle.mtn_roster.proofs.Forest.{name_of, same_some}
use Rattle.mtn_base.proofs.Tests.{both_true, same_bytes-is, same_bytes-self}
use Rattle.mtn_base.proofs.Orders.{bytes_total, names_total, exact_bytes}
use Rattle.mtn_roster.proofs.Ordered.{forest_of}
use Rattle.mtn_base.proofs.Sorting.{lt_was, less_at, ordered-rises, of_ordered, in_ordered, one_sorted}
use Rattle.mtn_roster.proofs.BySlot.{slot_is, standing}
use Rattle.mtn_roster.proofs.Walking.{has, path_at-is, child_path, kids, of_filter, in_filter, filter_rises, below_slot, some_entries, sibling_less, in_index, of_index}
use Rattle.mtn_roster.proofs.Stops.{map-snoc, map-map}
use Rattle.mtn_roster.proofs.Leading.{get_within}

-- one more name
pub named_more : (t : Tree) (P : Type 0) (place : P → ℕ) (ps : List P) (i : ℕ) (p : P) (e : Entry) (names names' : List NodeName) (n : NodeName)
    → i < length ps → p ≡ get_or ps i p → place p < length t → e ≡ get_or t (place p) e → n ≡ (get_or t (place p) e).name
    → map Some names ≡ map (λ (q : P). option_map (λ (e : Entry). e.name) (slice_get t (place q))) (take i ps) → names' ≡ names ++ n ∷ []
    → map Some names' ≡ map (λ (q : P). option_map (λ (e : Entry). e.name) (slice_get t (place q))) (take (i + 1) ps)
named_more t P place ps i p e names names' n low at within is name was pushed =
    let f : P → Option NodeName = λ q. option_map (λ (e : Entry). e.name) (slice_get t (place q)) in
    let more : take (i + 1) ps ≡ take i ps ++ p ∷ [] = take_more ps i p low ∙ ap (λ x. take i ps ++ x ∷ []) (sym at) in
    let one : f p ≡ Some n = ap (option_map (λ (e : Entry). e.name)) (slice_get-get_or t (place p) e within) ∙ ap Some (sym name) in
    ap (map Some) pushed ∙ map-snoc Some names n ∙ ap (λ l. l ++ Some n ∷ []) was ∙ ap (λ x. map f (take i ps) ++ x ∷ []) (sym one)
    ∙ sym (map-snoc f (take i ps) p) ∙ ap (map f) (sym more)

pub some_apart : {X : Type 0} (xs ys : List X) → map Some xs ≡ map Some ys → xs ≡ ys
some_apart [] [] h = refl
some_apart [] (y ∷ ys) h = absurd cc
some_apart (x ∷ xs) [] h = absurd cc
some_apart (x ∷ xs) (y ∷ ys) h =
    let e : x ≡ y = cc in
    let g : map Some xs ≡ map Some ys = cc in
    let r = some_apart xs ys g in
    λ i. e i ∷ r i

-- the names of the entries that the places have
pub named : (t : Tree) (P : Type 0) (place : P → ℕ) (ps : List P) (es : List Entry) (names : List NodeName)
    → map (λ (p : P). slice_get t (place p)) ps ≡ map Some es → map Some names ≡ map (λ (q : P). option_map (λ (e : Entry). e.name) (slice_get t (place q))) ps
    → names ≡ map (λ (e : Entry). e.name) es
named t P place ps es names at is =
    some_apart names (map (λ (e : Entry). e.name) es)
    (is ∙ sym (map-map (λ (p : P). slice_get t (place p)) (option_map (λ (e : Entry). e.name)) ps) ∙ ap (map (option_map (λ (e : Entry). e.name))) at
    ∙ map-map Some (option_map (λ (e : Entry). e.name)) es ∙ sym (map-map (λ (e : Entry). e.name) Some es))

-- all places that have entries are places of the tree
pub all_within : (t : Tree) (P : Type 0) (place : P → ℕ) (ps : List P) (es : List Entry) → map (λ (p : P). slice_get t (place p)) ps ≡ map Some es → (k : ℕ) (d : P) → k < length ps → place (get_or ps k d) < length t
all_within t P place [] es h k d low = absurd (omega (arith, low))
all_within t P place (p ∷ ps) [] h k d low = absurd cc
all_within t P place (p ∷ ps) (e ∷ es) h zero d low = let q : slice_get t (place p) ≡ Some e = cc in get_within t (place p) e q
all_within t P place (p ∷ ps) (e ∷ es) h (suc k) d low = let g : map (λ (p : P). slice_get t (place p)) ps ≡ map Some es = cc in all_within t P place ps es g k d (omega (arith, low))

module _ (t : Tree) (sane : IsSane t) (ks : List ℕ) (index : IsIndex t ks) (n : NodeName) where
  abbrev run : List ℕ
  run = kids t sane ks index n

  run_within : (k : ℕ) → Split run k → k < length t
  run_within k s = of_index t sane ks index k (of_filter (λ k. is_below n (slot_in t k)) ks k s).0

  ascending : rises name_cmp (map (λ (e : Entry). e.name) t) ≡ true
  ascending = first_so _ _ sane.ordered

  abbrev found_below : List Entry
  found_below = filter (λ (e : Entry). is_below n e.slot) t

  below_of : (e : Entry) → Split found_below e → e.slot ≡ Below n (component e.slot)
  below_of e s = below_slot n e.slot (of_filter (λ (e : Entry). is_below n e.slot) t e s).1

  apart_below : IsDistinct (λ (e : Entry) (f : Entry). same_bytes (component e.slot) (component f.slot)) found_below
  apart_below = IsDistinct-from_apart (λ (e : Entry) (f : Entry). same_bytes (component e.slot) (component f.slot)) found_below (λ i j d lt low.
      let li : i < length found_below = omega arith in
      let a = taken found_below i li in
      let b = taken found_below j low in
      let e = get_or found_below i d in
      let f = get_or found_below j d in
      elim (same_bytes (component e.slot) (component f.slot)) as (λ b. same_bytes (component e.slot) (component f.slot) ≡ b → b ≡ false) [
        | false ↦ λ q. refl
        | true ↦ λ q. absurd (
            let se : Split found_below e = subst (Split found_below) (sym (a.3 d)) a.2 in
            let sf : Split found_below f = subst (Split found_below) (sym (b.3 d)) b.2 in
            let comps : component e.slot ≡ component f.slot = same_bytes-is (component e.slot) (component f.slot) q in
            let slots : e.slot ≡ f.slot = below_of e se ∙ ap (Below n) comps ∙ sym (below_of f sf) in
            let fe = (forest_of t sane).distinct e (of_filter (λ (e : Entry). is_below n e.slot) t e se).0 in
            let ff = (forest_of t sane).distinct f (of_filter (λ (e : Entry). is_below n e.slot) t f sf).0 in
            let name : e.name ≡ f.name = sane.sane.slots e.name f.name e f fe ff slots in
            let less = less_at name_cmp (λ (e : Entry). e.name) names_total found_below i j d (filter_rises (λ (e : Entry). is_below n e.slot) name_cmp (λ (e : Entry). e.name) t ascending) lt low in
            let equal : name_cmp e.name f.name ≡ Equal = ap (name_cmp e.name) (sym name) ∙ tied_itself names_total e.name in
            cc)
      ] refl)

  -- the components along a run of children ascend
  comps_rise : (cs : List ℕ) → ((k : ℕ) → Split cs k → (k < length t) × (is_below n (slot_in t k) ≡ true)) → rises slot_cmp (map (slot_in t) cs) ≡ true
      → rises bytes_cmp (map (λ (e : Entry). component e.slot) (filter_map (slice_get t) cs)) ≡ true
  comps_rise cs f h = subst (λ l. rises bytes_cmp l ≡ true) (same_comps cs (λ k s. (f k s).0)) (rise cs (λ k s. (f k s).1) h)
    where
      same_comps : (cs : List ℕ) → ((k : ℕ) → Split cs k → k < length t) → map (λ k. component (slot_in t k)) cs ≡ map (λ (e : Entry). component e.slot) (filter_map (slice_get t) cs)
      same_comps [] f = refl
      same_comps (k ∷ cs) f =
          let r = taken t k (f k (head k cs)) in
          ap (λ p. component p ∷ map (λ k. component (slot_in t k)) cs) (slot_is t k r.0 r.1)
          ∙ ap (λ l. component r.0.slot ∷ l) (same_comps cs (λ m s. f m (later k cs m s)))
          ∙ ap (λ x. map (λ (e : Entry). component e.slot) (cons_option x (filter_map (slice_get t) cs))) (sym r.1)

      lows : (k : ℕ) (cs : List ℕ) → is_below n (slot_in t k) ≡ true → ((m : ℕ) → Split cs m → is_below n (slot_in t m) ≡ true) → list_all (λ q. is_lt (slot_cmp (slot_in t k) q)) (map (slot_in t) cs) ≡ true
          → list_all (λ c. is_lt (bytes_cmp (component (slot_in t k)) c)) (map (λ k. component (slot_in t k)) cs) ≡ true
      lows k [] b f h = refl
      lows k (m ∷ cs) b f h =
          let less = lt_was _ (first_so _ _ h) in
          let sk = below_slot n (slot_in t k) b in
          let sm = below_slot n (slot_in t m) (f m (head m cs)) in
          both_true _ _ (ap is_lt (sibling_less n (component (slot_in t k)) (component (slot_in t m)) (ap (λ r. slot_cmp r (Below n (component (slot_in t m)))) (sym sk) ∙ ap (slot_cmp (slot_in t k)) (sym sm) ∙ less)))
          (lows k cs b (λ z s. f z (later m cs z s)) (second_so (is_lt (slot_cmp (slot_in t k) (slot_in t m))) _ h))

      rise : (cs : List ℕ) → ((k : ℕ) → Split cs k → is_below n (slot_in t k) ≡ true) → rises slot_cmp (map (slot_in t) cs) ≡ true → rises bytes_cmp (map (λ k. component (slot_in t k)) cs) ≡ true
      rise [] f h = refl
      rise (k ∷ cs) f h =
          both_true _ _ (lows k cs (f k (head k cs)) (λ z s. f z (later k cs z s)) (first_so _ _ h))
          (rise cs (λ z s. f z (later k cs z s)) (second_so (list_all (λ q. is_lt (slot_cmp (slot_in t k) q)) (map (slot_in t) cs)) _ h))

  -- the run of a node has its children
  pub run_has : map (slice_get t) run ≡ map Some (children_of t n)
  run_has =
      let es = filter_map (slice_get t) run in
      some_entries t sane ks index run run_within ∙ ap (map Some) (one_sorted bytes_cmp (λ (e : Entry). component e.slot) bytes_total es (children_of t n)
      (comps_rise run (λ k s. (run_within k s, (of_filter (λ k. is_below n (slot_in t k)) ks k s).1)) (filter_rises (λ k. is_below n (slot_in t k)) slot_cmp (slot_in t) ks index.rising))
      (ordered-rises bytes_cmp (λ (e : Entry). component e.slot) bytes_total found_below)
      (λ e s.
      let k = of_filter_map (slice_get t) run e s in
      let r = taken t k.0 (run_within k.0 k.1) in
      let is : r.0 ≡ e = same_some r.1 k.2 in
      let passes : is_below n e.slot ≡ true = ap (is_below n) (sym (slot_is t k.0 e k.2)) ∙ (of_filter (λ k. is_below n (slot_in t k)) ks k.0 k.1).1 in
      in_ordered bytes_cmp (λ (e : Entry). component e.slot) bytes_total same_bytes same_bytes-is same_bytes-self exact_bytes found_below apart_below e
      (in_filter (λ (e : Entry). is_below n e.slot) t e (subst (Split t) is r.2) passes))
      (λ e s.
      let f = of_filter (λ (e : Entry). is_below n e.slot) t e (of_ordered bytes_cmp (λ (e : Entry). component e.slot) bytes_total found_below e s) in
      let q = standing t e f.0 in
      in_filter_map (slice_get t) run q.0 e (in_filter (λ k. is_below n (slot_in t k)) ks q.0 (in_index t sane ks index q.0 q.1) (ap (is_below n) (slot_is t q.0 e q.2) ∙ f.1)) q.2))

module _ (t : Tree) (sane : IsSane t) where
  -- the path of what hangs below another
  pub path_below : (k u : ℕ) (parent : NodeName) (a : List ℕ) → k < length t → u < length t → slot_in t k ≡ Below parent a → slice_get t u ≡ entry_of t parent → path_at t k ≡ path_at t u ++ a ∷ []
  path_below k u parent a lk lu slot up =
      let e = taken t k lk in
      let d = taken t u lu in
      let name : d.0.name ≡ parent = name_of t parent d.0 (sym up ∙ d.1) in
      path_at-is t sane k e.0 e.1 ∙ child_path t sane d.0 e.0 a (has t sane u d.0 lu d.1) (has t sane k e.0 lk e.1) (sym (slot_is t k e.0 e.1) ∙ slot ∙ ap (λ n. Below n a) (sym name))
      ∙ ap (λ p. p ++ a ∷ []) (sym (path_at-is t sane u d.0 d.1))

  -- and that parent is there
  pub parent_there : (k : ℕ) (parent : NodeName) (a : List ℕ) → k < length t → slot_in t k ≡ Below parent a → (d : Entry) × (entry_of t parent ≡ Some d)
  parent_there k parent a lk slot =
      let e = taken t k lk in
      let d = sane.sane.parents e.0.name parent e.0 a (has t sane k e.0 lk e.1) (sym (slot_is t k e.0 e.1) ∙ slot) in
      (d.0, d.1)

pub reordered : (t s u : Tree) (ss rs : List Stop) → AreStops t ss → t ≡ s → ss ≡ rs → t ≡ u → map (λ (x : Stop). slice_get s x.place) rs ≡ map Some (by_path u)
reordered t s u ss rs h same stops view =
    subst (λ (v : Tree). map (λ (x : Stop). slice_get v x.place) rs ≡ map Some (by_path u)) same
    (subst (λ (l : List Stop). map (λ (x : Stop). slice_get t x.place) l ≡ map Some (by_path u)) stops
    (subst (λ (v : Tree). map (λ (x : Stop). slice_get t x.place) ss ≡ map Some (by_path v)) view h.order))

-- the run in the terms of what was read
pub run_held : (t s u : Tree) (ks run : List ℕ) (n : NodeName) (sane : IsSane t) (index : IsIndex t ks) → run ≡ filter (λ k. is_below n (slot_in t k)) ks → t ≡ s → t ≡ u → map (λ k. slice_get s k) run ≡ map Some (children_of u n)
run_held t s u ks run n sane index is same view =
    subst (λ (v : Tree). map (λ k. slice_get v k) run ≡ map Some (children_of u n)) same
    (subst (λ (v : Tree). map (λ k. slice_get t k) run ≡ map Some (children_of v n)) view
    (ap (map (λ k. slice_get t k)) is ∙ run_has t sane ks index n))

pub run_read : (a b c : Tree) (ks js run : List ℕ) (n : NodeName) → run ≡ filter (λ k. is_below n (slot_in b k)) js → b ≡ c → js ≡ ks → run ≡ filter (λ k. is_below n (slot_in c k)) ks
run_read a b c ks js r n h p q = h ∙ ap (λ (v : Tree). filter (λ k. is_below n (slot_in v k)) js) p ∙ ap (filter (λ k. is_below n (slot_in c k))) q
