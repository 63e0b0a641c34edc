-- What is looked for one after the other.
use Rattle.std.specs.Prelude.{slice_get, find, filter_map, is_none, option_map, option_and_then, if◌then◌else◌, All, Contains, max}
use Rattle.std.specs.List.{cons_option}
use Rattle.std.specs.FinMap.{get}
use Rattle.std.specs.BTreeSet.{BTreeSet, contains}
use Rattle.std.specs.Cmp.{tied_itself}
use Rattle.std.specs.Ordering.{is_eq}
use Rattle.std.specs.declared.cmp.Ordering.{Ordering}
use Rattle.std.specs.declared.cmp.Ordering.TheVariants.{Less, Equal, Greater}
use Rattle.mtn_base.specs.Hex.{id_of}
use Rattle.mtn_base.specs.Names.{bytes_cmp}
use Rattle.mtn_base.proofs.Orders.{bytes_total, exact_bytes}
use Rattle.std.proofs.Common.{◌≡◌, ◌≤◌, ◌<◌, ◌+◌, ℕ, zero, suc, Bool, true, false, cond, List, [], ◌∷◌, ◌++◌, length, take, get_or, append-nil, Option, Some, None, refl, sym, ap, ◌∙◌, subst, ◌⊎◌, inl, inr, arith}
use Rattle.std.proofs.lemmas.List.{take_all}
use Rattle.std.proofs.lemmas.List.Elements.{Contains-append_left, Contains-append_right, Contains-append_cases}
use Rattle.mtn_base.specs.declared.id.Id.{Id}
use Rattle.mtn_base.specs.declared.refusal.Cause.TheVariants.{UnknownParent}
use Rattle.mtn_changes.specs.declared.change.Change.{Change}
use Rattle.mtn_changes.specs.declared.change.Edge.{Edge}
use Rattle.mtn_changeset_laws.specs.Changes.{or_else}
use Rattle.mtn_history_laws.specs.History.{Revision, IsPlaceOf, parents_at}
use Rattle.mtn_make_roster.specs.Basis.{AreUncommonIn}
use Rattle.mtn_mark_laws.specs.Rule.{AreUncommon}
use Rattle.mtn_join.specs.Join.{id_cmp}
use Rattle.mtn_replay.specs.Making.{place_of, parents_of, unknown_parent, new_content, new_contents}
use Rattle.mtn_model.specs.Table.{Table}
use Rattle.mtn_history.specs.declared.pending.Pending.{Pending}
use Rattle.mtn_history.specs.declared.errors.HistoryError.{HistoryError}
use Rattle.mtn_history.specs.declared.errors.HistoryError.TheVariants.{Refused, Store}
use Rattle.mtn_put_revision.specs.Finding.{unknown_in, first_unknown, IsRefusal, IsUnknown, AreIdsAt}

-- the first that passes, in two lists one after the other
find_append : {X : Type 0} (test : X → Bool) (xs ys : List X) → find test (xs ++ ys) ≡ or_else (find test xs) (find test ys)
find_append test [] ys = refl
find_append test (x ∷ xs) ys = elim (test x) as (λ b. cond b (Some x) (find test (xs ++ ys)) ≡ or_else (cond b (Some x) (find test xs)) (find test ys)) [
  | true ↦ refl
  | false ↦ find_append test xs ys
]

find_cons : {X : Type 0} (test : X → Bool) (o : Option X) (xs : List X) → find test (cons_option o xs) ≡ or_else (option_and_then (λ x. if test x then Some x else None) o) (find test xs)
find_cons test None xs = refl
find_cons test (Some x) xs = elim (test x) as (λ b. cond b (Some x) (find test xs) ≡ or_else (cond b (Some x) None) (find test xs)) [
  | true ↦ refl
  | false ↦ refl
]

unheld : Table → Id → Bool
unheld files id = is_none (get files id.0)

first_cons : (files : Table) (c : Change) (cs : List Change) → first_unknown files (c ∷ cs) ≡ or_else (unknown_in files c) (first_unknown files cs)
first_cons files c cs = find_cons (λ (id : Id). is_none (get files id.0)) (new_content c) (filter_map new_content cs)

or_assoc : {X : Type 0} (a b c : Option X) → or_else (or_else a b) c ≡ or_else a (or_else b c)
or_assoc None b c = refl
or_assoc (Some x) b c = refl

first_append : (files : Table) (cs ds : List Change) → first_unknown files (cs ++ ds) ≡ or_else (first_unknown files cs) (first_unknown files ds)
first_append files [] ds = refl
first_append files (c ∷ cs) ds =
    first_cons files c (cs ++ ds) ∙ ap (or_else (unknown_in files c)) (first_append files cs ds)
    ∙ sym (or_assoc (unknown_in files c) (first_unknown files cs) (first_unknown files ds)) ∙ ap (λ o. or_else o (first_unknown files ds)) (sym (first_cons files c cs))

or_none : {X : Type 0} (a b : Option X) → a ≡ None → or_else a b ≡ b
or_none a b e = ap (λ o. or_else o b) e

-- a list up to a place, that element, and the rest
module _ {X : Type 0} where
  take_suc : (i : ℕ) (xs : List X) → take (suc i + 1) xs ≡ take (suc (i + 1)) xs
  take_suc i xs = let e : suc i + 1 ≡ suc (i + 1) = omega arith in ap (λ n. take n xs) e

  pub split_at : (xs : List X) (i : ℕ) (x : X) → slice_get xs i ≡ Some x → (rest : List X) × (xs ≡ take i xs ++ x ∷ rest) × (take (i + 1) xs ≡ take i xs ++ x ∷ [])
  split_at [] i x at = absurd cc
  split_at (y ∷ ys) zero x at = let same : y ≡ x = cc in (ys, ap (λ z. z ∷ ys) same, ap (λ z. z ∷ []) same)
  split_at (y ∷ ys) (suc i) x at = let r = split_at ys i x at in (r.0, ap (λ zs. y ∷ zs) r.1, (take_suc i (y ∷ ys) ∙ ap (λ zs. y ∷ zs) r.2))

  pub at_item : (xs : List X) (i : ℕ) (x y : X) → i < length xs → x ≡ get_or xs i y → slice_get xs i ≡ Some x
  at_item [] i x y lt e = absurd (omega (arith, lt))
  at_item (z ∷ xs) zero x y lt e = ap Some (sym e)
  at_item (z ∷ xs) (suc i) x y lt e = at_item xs i x y (omega (arith, lt)) e

-- the changes of an edge
pub first_here : (files : Table) (cs : List Change) (i : ℕ) (c : Change) (id : Id) → slice_get cs i ≡ Some c → first_unknown files (take i cs) ≡ None → Some id ≡ unknown_in files c → Some id ≡ first_unknown files cs
first_here files cs i c id at before here =
    let s = split_at cs i c at in
    sym (ap (first_unknown files) s.1 ∙ first_append files (take i cs) (c ∷ s.0) ∙ or_none (first_unknown files (take i cs)) (first_unknown files (c ∷ s.0)) before ∙ first_cons files c s.0
    ∙ ap (λ o. or_else o (first_unknown files s.0)) (sym here))

pub first_past : (files : Table) (cs : List Change) (i : ℕ) (c : Change) → slice_get cs i ≡ Some c → first_unknown files (take i cs) ≡ None → None ≡ unknown_in files c → first_unknown files (take (i + 1) cs) ≡ None
first_past files cs i c at before here =
    let s = split_at cs i c at in
    ap (first_unknown files) s.2 ∙ first_append files (take i cs) (c ∷ []) ∙ or_none (first_unknown files (take i cs)) (first_unknown files (c ∷ [])) before ∙ first_cons files c []
    ∙ ap (λ o. or_else o None) (sym here)

-- the edges of a revision
pub unknown_of_edges : Table → List Edge → Option Id
unknown_of_edges files edges = find (λ (id : Id). is_none (get files id.0)) (new_contents edges)

edges_cons : (files : Table) (e : Edge) (es : List Edge) → unknown_of_edges files (e ∷ es) ≡ or_else (first_unknown files e.changes) (unknown_of_edges files es)
unfolding unknown_of_edges
edges_cons files e es = find_append (λ (id : Id). is_none (get files id.0)) (filter_map new_content e.changes) (new_contents es)

edges_none : (files : Table) → unknown_of_edges files [] ≡ None
unfolding unknown_of_edges
edges_none files = refl

edges_append : (files : Table) (es gs : List Edge) → unknown_of_edges files (es ++ gs) ≡ or_else (unknown_of_edges files es) (unknown_of_edges files gs)
edges_append files [] gs = sym (or_none (unknown_of_edges files []) (unknown_of_edges files gs) (edges_none files))
edges_append files (e ∷ es) gs =
    edges_cons files e (es ++ gs) ∙ ap (or_else (first_unknown files e.changes)) (edges_append files es gs)
    ∙ sym (or_assoc (first_unknown files e.changes) (unknown_of_edges files es) (unknown_of_edges files gs)) ∙ ap (λ o. or_else o (unknown_of_edges files gs)) (sym (edges_cons files e es))

pub edge_here : (files : Table) (es : List Edge) (i : ℕ) (e : Edge) (id : Id) → slice_get es i ≡ Some e → unknown_of_edges files (take i es) ≡ None → Some id ≡ first_unknown files e.changes → Some id ≡ unknown_of_edges files es
edge_here files es i e id at before here =
    let s = split_at es i e at in
    sym (ap (unknown_of_edges files) s.1 ∙ edges_append files (take i es) (e ∷ s.0) ∙ or_none (unknown_of_edges files (take i es)) (unknown_of_edges files (e ∷ s.0)) before ∙ edges_cons files e s.0
    ∙ ap (λ o. or_else o (unknown_of_edges files s.0)) (sym here))

pub edge_past : (files : Table) (es : List Edge) (i : ℕ) (e : Edge) → slice_get es i ≡ Some e → unknown_of_edges files (take i es) ≡ None → None ≡ first_unknown files e.changes → unknown_of_edges files (take (i + 1) es) ≡ None
edge_past files es i e at before here =
    let s = split_at es i e at in
    ap (unknown_of_edges files) s.2 ∙ edges_append files (take i es) (e ∷ []) ∙ or_none (unknown_of_edges files (take i es)) (unknown_of_edges files (e ∷ [])) before ∙ edges_cons files e []
    ∙ ap (λ o. or_else o (unknown_of_edges files [])) (sym here) ∙ edges_none files

pub edges_begin : (files : Table) → unknown_of_edges files [] ≡ None
edges_begin files = edges_none files

pub edges_end : (files : Table) (es : List Edge) (i : ℕ) → length es ≤ i → unknown_of_edges files (take i es) ≡ None → unknown_of_edges files es ≡ None
edges_end files es i le h = ap (unknown_of_edges files) (sym (take_all i es le)) ∙ h

pub edges_found : (files : Table) (es : List Edge) (o : Option Id) → o ≡ unknown_of_edges files es → o ≡ find (λ (id : Id). is_none (get files id.0)) (new_contents es)
unfolding unknown_of_edges
edges_found files es o e = e

-- the parents of the edges
parent_place : List Revision → Edge → Option ℕ
parent_place h e = option_and_then (place_of h) e.parent

pub map_append : {X Y : Type 0} (g : X → Option Y) (xs ys : List X) → filter_map g (xs ++ ys) ≡ filter_map g xs ++ filter_map g ys
map_append g [] ys = refl
map_append g (x ∷ xs) ys = by (g x) (map_append g xs ys)
  where
    by : (o : Option _) → filter_map g (xs ++ ys) ≡ filter_map g xs ++ filter_map g ys → cons_option o (filter_map g (xs ++ ys)) ≡ cons_option o (filter_map g xs) ++ filter_map g ys
    by None e = e
    by (Some y) e = ap (λ zs. y ∷ zs) e

parents_append : (h : List Revision) (es gs : List Edge) → parents_of h (es ++ gs) ≡ parents_of h es ++ parents_of h gs
parents_append h es gs = map_append (λ (e : Edge). option_and_then (place_of h) e.parent) es gs

-- the parents of one edge
parents_one : (h : List Revision) (e : Edge) (o : Option ℕ) → option_and_then (place_of h) e.parent ≡ o → parents_of h (e ∷ []) ≡ cons_option o []
parents_one h e o is = ap (λ p. cons_option p []) is

pub parents_more : (h : List Revision) (es : List Edge) (i : ℕ) (e : Edge) (parent : Id) (at : ℕ) (ps : List ℕ) → slice_get es i ≡ Some e → e.parent ≡ Some parent → place_of h parent ≡ Some at →
    ps ≡ parents_of h (take i es) → ps ++ at ∷ [] ≡ parents_of h (take (i + 1) es)
parents_more h es i e parent at ps here named place so_far =
    let s = split_at es i e here in
    ap (λ l. l ++ at ∷ []) so_far ∙ ap (λ l. parents_of h (take i es) ++ l) (sym (parents_one h e (Some at) (ap (option_and_then (place_of h)) named ∙ place)))
    ∙ sym (ap (parents_of h) s.2 ∙ parents_append h (take i es) (e ∷ []))

pub parents_same : (h : List Revision) (es : List Edge) (i : ℕ) (e : Edge) (ps : List ℕ) → slice_get es i ≡ Some e → e.parent ≡ None → ps ≡ parents_of h (take i es) → ps ≡ parents_of h (take (i + 1) es)
parents_same h es i e ps here none so_far =
    let s = split_at es i e here in
    so_far ∙ sym (ap (parents_of h) s.2 ∙ parents_append h (take i es) (e ∷ []) ∙ ap (λ l. parents_of h (take i es) ++ l) (parents_one h e None (ap (option_and_then (place_of h)) none)) ∙ append-nil (parents_of h (take i es)))

-- the parents that the edges name, and the first that has no place
named : List Edge → List Id
named edges = filter_map (λ (e : Edge). e.parent) edges

lost : List Revision → List Edge → Option Id
lost h edges = find (λ id. is_none (place_of h id)) (named edges)

lost_none : (h : List Revision) → lost h [] ≡ None
unfolding lost named
lost_none h = refl

lost_append : (h : List Revision) (es gs : List Edge) → lost h (es ++ gs) ≡ or_else (lost h es) (lost h gs)
unfolding lost named
lost_append h es gs = ap (find (λ id. is_none (place_of h id))) (map_append (λ (e : Edge). e.parent) es gs) ∙ find_append (λ id. is_none (place_of h id)) (filter_map (λ (e : Edge). e.parent) es) (filter_map (λ (e : Edge). e.parent) gs)

lost_here : (h : List Revision) (e : Edge) (parent : Id) (es : List Edge) → e.parent ≡ Some parent → place_of h parent ≡ None → lost h (e ∷ es) ≡ Some parent
unfolding lost named
lost_here h e parent es is none =
    ap (λ o. find (λ id. is_none (place_of h id)) (cons_option o (filter_map (λ (x : Edge). x.parent) es))) is
    ∙ ap (λ b. cond b (Some parent) (find (λ id. is_none (place_of h id)) (filter_map (λ (x : Edge). x.parent) es))) (ap is_none none)

lost_past : (h : List Revision) (e : Edge) (parent : Id) (at : ℕ) → e.parent ≡ Some parent → place_of h parent ≡ Some at → lost h (e ∷ []) ≡ None
unfolding lost named
lost_past h e parent at is place =
    ap (λ o. find (λ id. is_none (place_of h id)) (cons_option o [])) is
    ∙ ap (λ b. cond b (Some parent) None) (ap is_none place)

lost_no : (h : List Revision) (e : Edge) → e.parent ≡ None → lost h (e ∷ []) ≡ None
unfolding lost named
lost_no h e is = ap (λ o. find (λ id. is_none (place_of h id)) (cons_option o [])) is

-- no parent is lost before an edge
pub NoneLost : List Revision → List Edge → Type 0
NoneLost h edges = lost h edges ≡ None

pub lost_begin : (h : List Revision) → NoneLost h []
unfolding NoneLost
lost_begin h = lost_none h

pub lost_more : (h : List Revision) (es : List Edge) (i : ℕ) (e : Edge) (parent : Id) (at : ℕ) → slice_get es i ≡ Some e → e.parent ≡ Some parent → place_of h parent ≡ Some at → NoneLost h (take i es) → NoneLost h (take (i + 1) es)
unfolding NoneLost
lost_more h es i e parent at here is place before = let s = split_at es i e here in
    ap (lost h) s.2 ∙ lost_append h (take i es) (e ∷ []) ∙ or_none (lost h (take i es)) (lost h (e ∷ [])) before ∙ lost_past h e parent at is place

pub lost_same : (h : List Revision) (es : List Edge) (i : ℕ) (e : Edge) → slice_get es i ≡ Some e → e.parent ≡ None → NoneLost h (take i es) → NoneLost h (take (i + 1) es)
unfolding NoneLost
lost_same h es i e here is before = let s = split_at es i e here in
    ap (lost h) s.2 ∙ lost_append h (take i es) (e ∷ []) ∙ or_none (lost h (take i es)) (lost h (e ∷ [])) before ∙ lost_no h e is

pub lost_end : (h : List Revision) (es : List Edge) → NoneLost h es → unknown_parent h es ≡ None
unfolding NoneLost lost named
lost_end h es none = ap (option_map UnknownParent) none

pub lost_at : (h : List Revision) (es : List Edge) (i : ℕ) (e : Edge) (parent : Id) (error : HistoryError) → slice_get es i ≡ Some e → e.parent ≡ Some parent → NoneLost h (take i es) → IsUnknown h parent error → IsRefusal (unknown_parent h es) error
unfolding NoneLost lost named
lost_at h es i e parent (Store x) here is before unknown = tt
lost_at h es i e parent (Refused cause) here is before unknown =
    let s = split_at es i e here in
    let at : lost h es ≡ Some parent = ap (lost h) s.1 ∙ lost_append h (take i es) (e ∷ s.0) ∙ or_none (lost h (take i es)) (lost h (e ∷ s.0)) before ∙ lost_here h e parent s.0 is unknown.1 in
    ap (option_map UnknownParent) at ∙ ap Some (sym unknown.0)

pub parents_end : (h : List Revision) (es : List Edge) (i : ℕ) (ps : List ℕ) → length es ≤ i → ps ≡ parents_of h (take i es) → ps ≡ parents_of h es
parents_end h es i ps le so_far = so_far ∙ ap (parents_of h) (take_all i es le)

pub lost_all : (h : List Revision) (es : List Edge) (i : ℕ) → length es ≤ i → NoneLost h (take i es) → unknown_parent h es ≡ None
lost_all h es i le none = lost_end h es (subst (NoneLost h) (take_all i es le) none)

-- ids of places, one more each time
id_same : (a b : Id) → bytes_cmp a.0 b.0 ≡ Equal → a ≡ b
id_same a b e = ap id_of (exact_bytes a.0 b.0 e)

is_equal : (r : Ordering) → is_eq r ≡ true → r ≡ Equal
is_equal Less e = absurd cc
is_equal Equal e = refl
is_equal Greater e = absurd cc

pub ids_none : (h : List Revision) (ids : BTreeSet Id) → ((i : Id) → contains id_cmp ids i ≡ false) → AreIdsAt h [] ids
ids_none h ids none i = ((λ t. absurd (let both : true ≡ false = sym t ∙ none i in cc)), λ c. absurd (omega (arith, c.1.1)))

one_place : (h : List Revision) (a b : Id) (r : ℕ) → IsPlaceOf h a r → IsPlaceOf h b r → a ≡ b
one_place h a b r x y = sym x.2 ∙ ap (λ (v : Revision). v.id) (one (slice_get h r) x.0 y.0 x.1 y.1) ∙ y.2
  where
    one : (o : Option Revision) (u v : Revision) → o ≡ Some u → o ≡ Some v → u ≡ v
    one o u v p q = cc

pub ids_more : (h : List Revision) (xs : List ℕ) (k at : ℕ) (id : Id) (old new : BTreeSet Id) → slice_get xs k ≡ Some at → IsPlaceOf h id at →
    ((i : Id) → contains id_cmp new i ≡ (if is_eq (id_cmp id i) then true else contains id_cmp old i)) → AreIdsAt h (take k xs) old → AreIdsAt h (take (k + 1) xs) new
ids_more h xs k at id old new here placed updates are i =
    let s = split_at xs k at here in (
      (λ t. forth (is_eq (id_cmp id i)) refl (sym (updates i) ∙ t) s.2),
      λ c. updates i ∙ by (Contains-append_cases (take k xs) (at ∷ []) c.0 (subst (λ l. Contains l c.0) s.2 c.1)) c.2,
    )
  where
    of_one : (b : ℕ) → Contains (at ∷ []) b → at ≡ b
    of_one b (zero, lt, e) = e
    of_one b (suc j, lt, e) = absurd (omega (arith, lt))

    forth : (b : Bool) → is_eq (id_cmp id i) ≡ b → cond b true (contains id_cmp old i) ≡ true → take (k + 1) xs ≡ take k xs ++ at ∷ [] → (b : ℕ) × Contains (take (k + 1) xs) b × IsPlaceOf h i b
    forth true e t is = (at, subst (λ l. Contains l at) (sym is) (Contains-append_right (take k xs) (at ∷ []) at (0, omega arith, refl)), subst (λ j. IsPlaceOf h j at) (id_same id i (is_equal (id_cmp id i) e)) placed)
    forth false e t is = let o = (are i).0 t in (o.0, subst (λ l. Contains l o.0) (sym is) (Contains-append_left (take k xs) (at ∷ []) o.0 o.1), o.2)

    held : contains id_cmp old i ≡ true → (b : Bool) → cond b true (contains id_cmp old i) ≡ true
    held t true = refl
    held t false = t

    by : {b : ℕ} → Contains (take k xs) b ⊎ Contains (at ∷ []) b → IsPlaceOf h i b → cond (is_eq (id_cmp id i)) true (contains id_cmp old i) ≡ true
    by {b} (inl c) there = held ((are i).1 (b, c, there)) (is_eq (id_cmp id i))
    by {b} (inr c) there =
        let same : at ≡ b = of_one b c in
        let ids : id ≡ i = one_place h id i at placed (subst (λ r. IsPlaceOf h i r) (sym same) there) in
        ap (λ t. cond t true (contains id_cmp old i)) (ap is_eq (ap (id_cmp id) (sym ids) ∙ tied_itself bytes_total id.0))

pub all_snoc : (P : ℕ → Type 0) (xs : List ℕ) (x : ℕ) → All P xs → P x → All P (xs ++ x ∷ [])
all_snoc P [] x all h zero d lt = h
all_snoc P [] x all h (suc k) d lt = absurd (omega (arith, lt))
all_snoc P (y ∷ ys) x all h zero d lt = all 0 d (omega arith)
all_snoc P (y ∷ ys) x all h (suc k) d lt = all_snoc P ys x (λ j e low. all (suc j) e (omega (arith, low))) h k d (omega (arith, lt))

pub uncommon_in : (h : List Revision) (p q : ℕ) (positions : List ℕ) (ids : BTreeSet Id) → AreUncommon (parents_at h) p q positions → AreIdsAt h positions ids → AreUncommonIn h p q (record { positions = positions; ids = ids })
uncommon_in h p q positions ids exact are = record { positions = exact; ids = are }

-- what is at most the greater of two positions of the log is one
pub within_count : (xs ys : List ℕ) (a b : ℕ) (p q : Pending) → ys ≡ xs → q ≡ p → a < p.count → b < p.count → All (λ x. x ≤ max a b) xs → All (λ x. x < q.count) ys
within_count xs ys a b p q is same left right all =
    subst (λ (zs : List ℕ). All (λ x. x < q.count) zs) (sym is) (subst (λ (r : Pending). All (λ x. x < r.count) xs) (sym same) (λ i d lt. let h = all i d lt in omega arith))
