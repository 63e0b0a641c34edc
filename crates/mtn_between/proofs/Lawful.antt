-- A canonical changeset is lawful, and its order is the only one.
use Rattle.std.specs.Prelude.{All, IsSome, map, reverse}
use Rattle.std.specs.List.{count_by, IsDistinct}
use Rattle.std.specs.List.Sorted.{IsSorted}
use Rattle.std.specs.declared.cmp.Ordering.{Ordering}
use Rattle.std.specs.declared.cmp.Ordering.TheVariants.{Less, Equal, Greater}
use Rattle.std.specs.Ordering.{nat_cmp, ordering_then, ordering_reverse, is_eq, is_lt}
use Rattle.std.specs.Cmp.{tied_itself}
use Rattle.std.specs.FinMap.{nat_cmp-IsAntisymmetric}
use Rattle.std.proofs.Common.{◌≡◌, ℕ, ◌+◌, ◌<◌, ◌≤◌, Bool, true, false, cond, List, [], ◌∷◌, ◌++◌, length, get_or, Option, Some, None, refl, sym, ◌∙◌, ap, subst, arith}
use Rattle.std.proofs.lemmas.List.{reverse-append, reverse-reverse}
use Rattle.std.proofs.lemmas.List.Elements.{All-nil, All-from_get_or}
use Rattle.std.proofs.lemmas.List.Sorted.{IsPermutation-refl, IsPermutation-sym}
use Rattle.std.proofs.lemmas.Map.Keys.{apart_from_distinct, IsDistinct-IsPermutation}
use Rattle.mtn_base.specs.Comps.{IsComp, AreComps}
use Rattle.mtn_base.specs.Names.{bytes_cmp, path_cmp}
use Rattle.mtn_changes.specs.declared.change.Change.{Change}
use Rattle.mtn_changes.specs.declared.change.Change.TheVariants.{Delete, Rename, AddDir, AddFile, Patch, Clear, Set}
use Rattle.mtn_changes.specs.declared.target.Target.{Target}
use Rattle.mtn_changes.specs.Changes.{IsChange, IsKey, rank}
use Rattle.mtn_changes.specs.ChangesText.{AreChanges}
use Rattle.mtn_changes.specs.Targets.{target_of, target_cmp, AreApart}
use Rattle.mtn_changes.specs.Sorting.{place_of, place_cmp, IsSortedAs, AreUnsorted}
use Rattle.mtn_changes.proofs.Places.{target_total}
use Rattle.mtn_changes.proofs.Sorted.{at, one_at, count_more, sorted_lawful}
use Rattle.mtn_changes.proofs.Unsorted.{equal}
use Rattle.mtn_roster.specs.declared.entry.Entry.{Entry}
use Rattle.mtn_base.specs.Lists.{rises}
use Rattle.mtn_roster.specs.Tree.{Tree, entry_of, node_up, node_at, attr_of, live_of, path_of, IsSane}
use Rattle.mtn_base.proofs.Finding.{Split, later}
use Rattle.mtn_base.proofs.Members.{head, taken}
use Rattle.mtn_roster.proofs.Forest.{chained, same_some, own, node_below, node_there}
use Rattle.mtn_base.proofs.Orders.{exact_bytes}
use Rattle.mtn_roster.proofs.Ordered.{forest_of}
use Rattle.mtn_roster.proofs.Paths.{exact_paths}
use Rattle.mtn_roster.proofs.Pathing.{path_leads}
use Rattle.mtn_base.proofs.Sorting.{goes, less_at, one_sorted, rising_by, rising_differ}
use Rattle.mtn_between.specs.Between.{between}
use Rattle.mtn_between.specs.Laws.{IsSpellable}
use Rattle.mtn_between.proofs.Standing.{IsOne, IsClear, IsSet, each_is}
use Rattle.mtn_between.proofs.Rising.{above, rest_rises}
use Rattle.mtn_between.proofs.Ordered.{ascends}

pub all_of_splits : {X : Type 0} (P : X → Type 0) (xs : List X) → ((x : X) → Split xs x → P x) → All P xs
all_of_splits P [] h = All-nil P
all_of_splits P (x ∷ xs) h = All-from_get_or P (x ∷ xs) x (λ i lt. let t = taken (x ∷ xs) i lt in subst P (sym (t.3 x)) (h t.0 t.2))

-- targets that compare alike are one
pub exact_targets : (s t : Target) → target_cmp s t ≡ Equal → s ≡ t
exact_targets s t h =
    let a = parts (nat_cmp s.kind t.kind) _ h in
    let b = parts (path_cmp s.path t.path) (bytes_cmp s.key t.key) a.1 in
    λ i. record { kind = nat_cmp-IsAntisymmetric s.kind t.kind a.0 i; path = exact_paths s.path t.path b.0 i; key = exact_bytes s.key t.key b.1 i }
  where
    parts : (x y : Ordering) → ordering_then x y ≡ Equal → (x ≡ Equal) × (y ≡ Equal)
    parts Less y g = absurd cc
    parts Equal y g = (refl, g)
    parts Greater y g = absurd cc

is_set : Change → Bool
is_set (Set p k v) = true
is_set (Delete p) = false
is_set (Rename p q) = false
is_set (AddDir p) = false
is_set (AddFile p c) = false
is_set (Patch p a b) = false
is_set (Clear p k) = false

set_of : (c : Change) → is_set c ≡ true → (p : List (List ℕ)) × (k : List ℕ) × (v : List ℕ) × (c ≡ Set p k v)
unfolding is_set
set_of (Set p k v) h = (p, k, v, refl)
set_of (Delete p) h = absurd cc
set_of (Rename p q) h = absurd cc
set_of (AddDir p) h = absurd cc
set_of (AddFile p c) h = absurd cc
set_of (Patch p a b) h = absurd cc
set_of (Clear p k) h = absurd cc

-- but for a set the rank is the kind of what changes
rank_of : (c : Change) → is_set c ≡ false → rank c ≡ (target_of c).kind
unfolding is_set
rank_of (Set p k v) h = absurd cc
rank_of (Delete p) h = refl
rank_of (Rename p q) h = refl
rank_of (AddDir p) h = refl
rank_of (AddFile p c) h = refl
rank_of (Patch p a b) h = refl
rank_of (Clear p k) h = refl

clear_of : (c : Change) → is_set c ≡ false → (target_of c).kind ≡ 6 → (p : List (List ℕ)) × (k : List ℕ) × (c ≡ Clear p k)
unfolding is_set
clear_of (Set p k v) h e = absurd cc
clear_of (Delete p) h e = absurd (omega (arith, e))
clear_of (Rename p q) h e = absurd (omega (arith, e))
clear_of (AddDir p) h e = absurd (omega (arith, e))
clear_of (AddFile p c) h e = absurd (omega (arith, e))
clear_of (Patch p a b) h e = absurd (omega (arith, e))
clear_of (Clear p k) h e = (p, k, refl)

-- a clear and a set of one key are not both in the list
abbrev NoClash : List Change → Type 0
NoClash cs = (p : List (List ℕ)) (k v : List ℕ) → Split cs (Clear p k) → Split cs (Set p k v) → ⊥

ranks_part : (c d : Change) → target_of c ≡ target_of d → rank c ≡ rank d → place_of c ≡ place_of d
ranks_part c d e r = λ i. record { kind = r i; path = (e i).path; key = (e i).key }

two_sets : (c d : Change) → is_set c ≡ true → is_set d ≡ true → rank c ≡ rank d
two_sets c d a b =
    let x = set_of c a in
    let y = set_of d b in
    ap rank x.3 ∙ ap rank (sym y.3)

clash : (cs : List Change) → NoClash cs → (c d : Change) → Split cs c → Split cs d → target_of c ≡ target_of d → is_set c ≡ true → is_set d ≡ false → ⊥
clash cs none c d sc sd e a b =
    let x = set_of c a in
    let kind : (target_of d).kind ≡ 6 = ap (λ (s : Target). s.kind) (sym e ∙ ap target_of x.3) in
    let y = clear_of d b kind in
    let targets : target_of (Set x.0 x.1 x.2) ≡ target_of (Clear y.0 y.1) = ap target_of (sym x.3) ∙ e ∙ ap target_of y.2 in
    let paths : x.0 ≡ y.0 = ap (λ (s : Target). s.path) targets in
    let keys : x.1 ≡ y.1 = ap (λ (s : Target). s.key) targets in
    none x.0 x.1 x.2 (subst (Split cs) (y.2 ∙ (λ i. Clear (sym paths i) (sym keys i))) sd) (subst (Split cs) x.3 sc)

-- two that change one thing have one place
one_place : (cs : List Change) → NoClash cs → (c d : Change) → Split cs c → Split cs d → target_of c ≡ target_of d → place_of c ≡ place_of d
one_place cs none c d sc sd e = ranks_part c d e (by (is_set c) (is_set d) refl refl)
  where
    by : (a b : Bool) → is_set c ≡ a → is_set d ≡ b → rank c ≡ rank d
    by true true x y = two_sets c d x y
    by true false x y = absurd (clash cs none c d sc sd e x y)
    by false true x y = absurd (clash cs none d c sd sc (sym e) y x)
    by false false x y = rank_of c x ∙ ap (λ (s : Target). s.kind) e ∙ sym (rank_of d y)

not_less : (c d : Change) → place_of c ≡ place_of d → place_cmp c d ≡ Less → ⊥
not_less c d e h = let z : place_cmp c d ≡ Equal = ap (target_cmp (place_of c)) (sym e) ∙ tied_itself target_total (place_of c) in absurd cc

none_counted : (s : Target) (cs : List Change) → ((d : Change) → Split cs d → at s d ≡ false) → count_by (at s) cs ≡ 0
none_counted s [] h = refl
none_counted s (d ∷ cs) h =
    let here : one_at s d ≡ 0 = ap (λ (b : Bool). cond b 1 0) (h d (head d cs)) in
    let rest : count_by (at s) cs ≡ 0 = none_counted s cs (λ c t. h c (later d cs c t)) in
    omega (arith, count_more s d cs, here, rest)

counts : (cs : List Change) → rises target_cmp (map place_of cs) ≡ true → NoClash cs → (s : Target) → count_by (at s) cs ≤ 1
counts [] up none s = omega arith
counts (c ∷ cs) up none s = by (at s c) refl (counts cs (rest_rises target_cmp place_of c cs up) (λ p k v t u. none p k v (later c cs _ t) (later c cs _ u)) s)
  where
    other : at s c ≡ true → (d : Change) → Split cs d → at s d ≡ false
    other h d t = told_so (at s d) refl
      where
        told_so : (b : Bool) → at s d ≡ b → b ≡ false
        told_so false g = refl
        told_so true g =
            let e : target_of c ≡ target_of d = exact_targets (target_of c) s (equal _ h) ∙ sym (exact_targets (target_of d) s (equal _ g)) in
            absurd (not_less c d (one_place (c ∷ cs) none c d (head c cs) (later c cs d t) e) (above target_cmp place_of c cs up d t))

    by : (b : Bool) → at s c ≡ b → count_by (at s) cs ≤ 1 → count_by (at s) (c ∷ cs) ≤ 1
    by true h most =
        let one : one_at s c ≡ 1 = ap (λ (b : Bool). cond b 1 0) h in
        let rest : count_by (at s) cs ≡ 0 = none_counted s cs (other h) in
        omega (arith, count_more s c cs, one, rest)
    by false h most =
        let zero : one_at s c ≡ 0 = ap (λ (b : Bool). cond b 1 0) h in
        omega (arith, count_more s c cs, zero, most)

-- the components of paths
pub comps_push : (cs : List (List ℕ)) (c : List ℕ) → AreComps cs → IsComp c → AreComps (cs ++ c ∷ [])
comps_push [] c h k = (k, tt)
comps_push (d ∷ cs) c h k = (h.0, comps_push cs c h.1 k)

module _ (t : Tree) (sane : IsSane t) (spell : IsSpellable t) where
  comps_up : (up : List (List ℕ)) (e : Entry) → node_up t up ≡ Some e → AreComps (reverse up)
  comps_up [] e h = tt
  comps_up (name ∷ up) e h =
      let f = forest_of t sane in
      let d = node_below t f name up e h in
      let c = spell.comps e.name d.0.name e name (node_there t f (name ∷ up) e h) d.2 in
      subst AreComps (sym (reverse-append (name ∷ []) up)) (comps_push (reverse up) name (comps_up up d.0 d.1) c)

  pub path_comps : (e : Entry) → entry_of t e.name ≡ Some e → AreComps (path_of t e)
  path_comps e h = subst AreComps (reverse-reverse (path_of t e)) (comps_up (reverse (path_of t e)) e (path_leads t (forest_of t sane) e.name e h))

  pub live_key : (e : Entry) (k v : List ℕ) → entry_of t e.name ≡ Some e → live_of e.attrs k ≡ Some v → IsKey k
  live_key e k v h live =
      let a = chained (λ (o : Option (List ℕ)). o) (attr_of e.attrs k) v live in
      spell.keys e.name e k h (subst IsSome (sym a.1) refl)

module _ (old new : Tree) (so : IsSane old) (sn : IsSane new) where
  no_clash : NoClash (between old new)
  no_clash p k v s t =
      let a : IsClear old new p k = each_is old new so sn (Clear p k) s in
      let b : IsSet old new p k v = each_is old new so sn (Set p k v) t in
      let same : a.f ≡ b.f = same_some (path_leads new (forest_of new sn) a.f.name a.f a.here) (ap (node_at new) (a.path ∙ sym b.path) ∙ path_leads new (forest_of new sn) b.f.name b.f b.here) in
      let z : None ≡ Some v = sym a.gone ∙ ap (λ (f : Entry). live_of f.attrs k) same ∙ b.live in
      absurd cc

  pub apart : AreApart (between old new)
  apart s = counts (between old new) (ascends old new so sn) no_clash s

  pub in_place_order : IsSorted place_cmp (between old new)
  in_place_order k d le lt =
      let less = less_at target_cmp place_of target_total (between old new) k (k + 1) d (ascends old new so sn) (omega arith) lt in
      ap is_lt (target_total.antisymm (place_of (get_or (between old new) (k + 1) d)) (place_of (get_or (between old new) k d))) ∙ ap (λ o. is_lt (ordering_reverse o)) less

  module _ (spell_old : IsSpellable old) (spell_new : IsSpellable new) where
    change_of : (c : Change) → IsOne old new c → IsChange c
    change_of (Delete p) r = subst AreComps r.path (path_comps old so spell_old r.e r.here)
    change_of (Rename p q) r = (
      subst AreComps r.from (path_comps old so spell_old r.e r.here),
      subst AreComps r.to (path_comps new sn spell_new r.f (own new r.e.name r.f r.there)),
    )
    change_of (AddDir p) r = subst AreComps r.path (path_comps new sn spell_new r.f r.here)
    change_of (AddFile p content) r = subst AreComps r.path (path_comps new sn spell_new r.f r.here)
    change_of (Patch p a b) r = subst AreComps r.path (path_comps new sn spell_new r.f r.here)
    change_of (Clear p k) r = (
      subst AreComps r.path (path_comps new sn spell_new r.f r.here),
      live_key old so spell_old r.e k r.value (own old r.f.name r.e r.was) r.live,
    )
    change_of (Set p k v) r = (
      subst AreComps r.path (path_comps new sn spell_new r.f r.here),
      live_key new sn spell_new r.f k v r.here r.live,
    )

    pub unsorted : AreUnsorted (between old new)
    unsorted = record {
      each = all_of_splits IsChange (between old new) (λ c s. change_of c (each_is old new so sn c s));
      apart = apart;
    }

    pub lawful : AreChanges (between old new)
    lawful = sorted_lawful (between old new) (between old new) unsorted (record { same = IsPermutation-refl (between old new); ordered = in_place_order })

-- the order of a list without two of one place is the only one
abbrev same_place : Target → Target → Bool
same_place s t = is_eq (target_cmp s t)

abbrev twin : Change → Change → Bool
twin c d = same_place (place_of c) (place_of d)

place_is : (s t : Target) → same_place s t ≡ true → s ≡ t
place_is s t h = exact_targets s t (equal _ h)

place_self : (s : Target) → same_place s s ≡ true
place_self s = ap is_eq (tied_itself target_total s)

twin_flips : (c d : Change) → twin c d ≡ twin d c
twin_flips c d = flips (target_cmp (place_of c) (place_of d)) ∙ ap is_eq (sym (target_total.antisymm (place_of d) (place_of c)))
  where
    flips : (o : Ordering) → is_eq o ≡ is_eq (ordering_reverse o)
    flips Less = refl
    flips Equal = refl
    flips Greater = refl

pub only_order : (es ks : List Change) → rises target_cmp (map place_of es) ≡ true → IsSortedAs es ks → ks ≡ es
only_order es ks up is =
    let differ = IsDistinct-IsPermutation twin twin_flips es ks is.same (rising_differ target_cmp place_of target_total same_place place_is place_self exact_targets es up) in
    one_sorted target_cmp place_of target_total ks es (rising_by target_cmp place_of target_total ks (strictly differ)) up (goes ks es (IsPermutation-sym es ks is.same)) (goes es ks is.same)
  where
    strictly : IsDistinct twin ks → (k : ℕ) (d : Change) → k + 1 < length ks → true ≡ is_lt (place_cmp (get_or ks k d) (get_or ks (k + 1) d))
    strictly differ k d lt = by (place_cmp (get_or ks k d) (get_or ks (k + 1) d)) refl
      where
        by : (o : Ordering) → place_cmp (get_or ks k d) (get_or ks (k + 1) d) ≡ o → true ≡ is_lt o
        by Less e = refl
        by Equal e =
            let same : twin (get_or ks k d) (get_or ks (k + 1) d) ≡ true = ap is_eq e in
            let other = apart_from_distinct twin ks k (k + 1) d differ (omega arith) lt in
            let z : true ≡ false = sym same ∙ other in
            absurd cc
        by Greater e =
            let flip : place_cmp (get_or ks (k + 1) d) (get_or ks k d) ≡ Less = target_total.antisymm (place_of (get_or ks (k + 1) d)) (place_of (get_or ks k d)) ∙ ap ordering_reverse e in
            let low : is_lt (place_cmp (get_or ks (k + 1) d) (get_or ks k d)) ≡ false = is.ordered k d (omega arith) lt in
            let z : true ≡ false = ap is_lt (sym flip) ∙ low in
            absurd cc
