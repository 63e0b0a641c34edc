-- The walk over a sane tree: what it has met, and what waits, the next first.
use Rattle.std.specs.Prelude.{map, filter_map, option_and_then, slice_get}
use Rattle.std.specs.List.{cons_option, filter, list_all, Contains, IsDistinct}
use Rattle.std.specs.declared.cmp.Ordering.{Ordering}
use Rattle.std.specs.declared.cmp.Ordering.TheVariants.{Less, Equal}
use Rattle.std.specs.Ordering.{is_lt, ordering_then}
use Rattle.std.specs.Cmp.{first_so, second_so, tied_itself}
use Rattle.std.proofs.Common.{◌≡◌, ℕ, ◌<◌, ◌≤◌, ◌⊎◌, inl, inr, Bool, true, false, cond, eqb, List, [], ◌∷◌, ◌++◌, length, get_or, Some, None, refl, sym, ◌∙◌, ap, subst, arith, append_assoc, append-nil}
use Rattle.std.proofs.lemmas.Bool.Decides.{nat_tests}
use Rattle.std.proofs.lemmas.List.Elements.{All-get_or}
use Rattle.std.proofs.lemmas.Map.Keys.{IsDistinct-from_apart}
use Rattle.std.proofs.lemmas.Map.Steps.{length-le_from_distinct_below}
use Rattle.mtn_base.specs.Names.{bytes_cmp, path_cmp, same_path}
use Rattle.mtn_base.specs.declared.name.NodeName.{NodeName}
use Rattle.mtn_roster.specs.declared.entry.Entry.{Entry}
use Rattle.mtn_roster.specs.declared.entry.Slot.{Slot}
use Rattle.mtn_roster.specs.declared.entry.Slot.TheVariants.{Root, Below}
use Rattle.mtn_roster.specs.Tree.{Tree, same_slot, entry_of, at_slot, child_of, node_at, path_up, path_of, IsSane}
use Rattle.mtn_base.specs.Lists.{rises}
use Rattle.mtn_roster.specs.Index.{IsIndex, slot_cmp, slot_in}
use Rattle.mtn_roster.specs.Walk.{by_path, path_at, is_below, component}
use Rattle.mtn_base.proofs.Finding.{Split, later, found, some_passes}
use Rattle.mtn_base.proofs.Members.{head, split_cons, of_append, in_left, in_right, of_filter_map, in_filter_map, taken, place_of}
use Rattle.mtn_base.proofs.Tests.{both_true, same_path-is, same_path-self, same_name-is, same_name-self}
use Rattle.mtn_roster.proofs.Slots.{same_slot-is}
use Rattle.mtn_roster.proofs.Forest.{IsForest, same_some, at_slot-of}
use Rattle.mtn_base.proofs.Orders.{names_total, paths_total}
use Rattle.mtn_roster.proofs.Ordered.{forest_of}
use Rattle.mtn_base.proofs.Sorting.{no_split, ordered-rises, of_ordered, in_ordered, one_sorted, low_at, rest_rises, less_at}
use Rattle.mtn_roster.proofs.BySlot.{slots_total, slot_is, standing, one_place}
use Rattle.mtn_roster.proofs.Pathing.{path_leads, path_of-at, node_at-push, node_at-none}
use Rattle.mtn_roster.proofs.Paths.{exact_paths, Ahead, ahead_less, ahead_further, prefix_less}

module _ {X : Type 0} (p : X → Bool) where
  pub of_filter : (xs : List X) (x : X) → Split (filter p xs) x → Split xs x × (p x ≡ true)
  of_filter [] x s = absurd (no_split x s)
  of_filter (y ∷ xs) x s =
      elim (p y) as (λ b. p y ≡ b → Split (cond b (y ∷ filter p xs) (filter p xs)) x → Split (y ∷ xs) x × (p x ≡ true)) [
        | true ↦ λ e u. elim (split_cons y (filter p xs) x u) [
          | inl q ↦ (subst (Split (y ∷ xs)) q (head y xs), subst (λ z. p z ≡ true) q e)
          | inr v ↦ let r = of_filter xs x v in (later y xs x r.0, r.1)
        ]
        | false ↦ λ e u. let r = of_filter xs x u in (later y xs x r.0, r.1)
      ] refl s

  pub in_filter : (xs : List X) (x : X) → Split xs x → p x ≡ true → Split (filter p xs) x
  in_filter [] x s h = absurd (no_split x s)
  in_filter (y ∷ xs) x s h =
      elim (p y) as (λ b. p y ≡ b → Split (cond b (y ∷ filter p xs) (filter p xs)) x) [
        | true ↦ λ e. elim (split_cons y xs x s) [ inl q ↦ subst (Split (y ∷ filter p xs)) q (head y (filter p xs)) | inr v ↦ later y (filter p xs) x (in_filter xs x v h) ]
        | false ↦ λ e. elim (split_cons y xs x s) [ inl q ↦ absurd (let z : p y ≡ true = ap p q ∙ h in cc) | inr v ↦ in_filter xs x v h ]
      ] refl

  all_filtered : {Y : Type 0} (q : Y → Bool) (f : X → Y) (xs : List X) → list_all q (map f xs) ≡ true → list_all q (map f (filter p xs)) ≡ true
  all_filtered q f [] h = refl
  all_filtered q f (x ∷ xs) h =
      elim (p x) as (λ b. list_all q (map f (cond b (x ∷ filter p xs) (filter p xs))) ≡ true) [
        | true ↦ both_true _ _ (first_so _ _ h) (all_filtered q f xs (second_so (q (f x)) _ h))
        | false ↦ all_filtered q f xs (second_so (q (f x)) _ h)
      ]

  pub filter_rises : {K : Type 0} (cmp : K → K → Ordering) (f : X → K) (xs : List X) → rises cmp (map f xs) ≡ true → rises cmp (map f (filter p xs)) ≡ true
  filter_rises cmp f [] h = refl
  filter_rises cmp f (x ∷ xs) h =
      elim (p x) as (λ b. rises cmp (map f (cond b (x ∷ filter p xs) (filter p xs))) ≡ true) [
        | true ↦ both_true _ _ (all_filtered (λ l. is_lt (cmp (f x) l)) f xs (first_so _ _ h)) (filter_rises cmp f xs (second_so (list_all (λ l. is_lt (cmp (f x) l)) (map f xs)) _ h))
        | false ↦ filter_rises cmp f xs (second_so (list_all (λ l. is_lt (cmp (f x) l)) (map f xs)) _ h)
      ]

all_snoc : {X Y : Type 0} (q : Y → Bool) (f : X → Y) (xs : List X) (x : X) → list_all q (map f xs) ≡ true → q (f x) ≡ true → list_all q (map f (xs ++ x ∷ [])) ≡ true
all_snoc q f [] x h g = both_true _ _ g refl
all_snoc q f (y ∷ xs) x h g = both_true _ _ (first_so _ _ h) (all_snoc q f xs x (second_so (q (f y)) _ h) g)

rises_snoc : {X K : Type 0} (cmp : K → K → Ordering) (f : X → K) (xs : List X) (x : X) → rises cmp (map f xs) ≡ true → ((y : X) → Split xs y → cmp (f y) (f x) ≡ Less) → rises cmp (map f (xs ++ x ∷ [])) ≡ true
rises_snoc cmp f [] x h g = refl
rises_snoc cmp f (y ∷ xs) x h g =
    both_true _ _ (all_snoc (λ l. is_lt (cmp (f y) l)) f xs x (first_so _ _ h) (ap is_lt (g y (head y xs))))
    (rises_snoc cmp f xs x (second_so (list_all (λ l. is_lt (cmp (f y) l)) (map f xs)) _ h) (λ z s. g z (later y xs z s)))

pub below_slot : (n : NodeName) (s : Slot) → is_below n s ≡ true → s ≡ Below n (component s)
below_slot n Root h = absurd cc
below_slot n (Below p a) h = ap (λ m. Below m a) (same_name-is p n h)

pub sibling_less : (n : NodeName) (a b : List ℕ) → slot_cmp (Below n a) (Below n b) ≡ Less → bytes_cmp a b ≡ Less
sibling_less n a b h = ap (λ o. ordering_then o (bytes_cmp a b)) (sym (tied_itself names_total n)) ∙ h

contained : {X : Type 0} (xs : List X) (x : X) → Contains xs x → Split xs x
contained xs x c = let r = taken xs c.0 c.1 in subst (Split xs) (sym (r.3 x) ∙ c.2) r.2

module _ (t : Tree) where
  -- each before each after it
  abbrev pub Apart : List ℕ → Type 0
  Apart [] = Unit {0}
  Apart (s ∷ w) = ((r : ℕ) → Split w r → Ahead ((path_at t) s) ((path_at t) r)) × Apart w

  abbrev pub IsOver : List (List ℕ) → List (List ℕ) → Type 0
  IsOver p q = (u : List (List ℕ)) × (q ≡ p ++ u)

  pub record IsWalking (o w : List ℕ) : Type 0 where
    pub rising : rises path_cmp (map (path_at t) o) ≡ true
    pub within : (k : ℕ) → Split o k → k < length t
    pub waits : (k : ℕ) → Split w k → k < length t
    pub before : (k s : ℕ) → Split o k → Split w s → path_cmp ((path_at t) k) ((path_at t) s) ≡ Less
    pub apart : Apart w
    pub all : (m : ℕ) → m < length t → Split o m ⊎ ((s : ℕ) × Split w s × IsOver ((path_at t) s) ((path_at t) m))

module _ (t : Tree) (sane : IsSane t) where
  forest : IsForest t
  forest = forest_of t sane

  pub has : (k : ℕ) (e : Entry) → k < length t → slice_get t k ≡ Some e → entry_of t e.name ≡ Some e
  has k e low at =
      let r = taken t k low in
      let is : r.0 ≡ e = same_some r.1 at in
      forest.distinct e (subst (Split t) is r.2)

  pub path_at-is : (k : ℕ) (e : Entry) → slice_get t k ≡ Some e → (path_at t) k ≡ path_of t e
  path_at-is k e at = ap (path_up t t) (slot_is t k e at)

  -- the path of a child
  pub child_path : (d e : Entry) (a : List ℕ) → entry_of t d.name ≡ Some d → entry_of t e.name ≡ Some e → e.slot ≡ Below d.name a → path_of t e ≡ path_of t d ++ a ∷ []
  child_path d e a hd he s =
      path_of-at t forest (path_of t d ++ a ∷ []) e
      (node_at-push t (path_of t d) a ∙ ap (option_and_then (child_of t a)) (path_leads t forest d.name d hd) ∙ ap (at_slot t) (sym s) ∙ at_slot-of t forest e.name e he)

module _ (t : Tree) (sane : IsSane t) (ks : List ℕ) (index : IsIndex t ks) where
  -- a place has t sane its path alone
  pub one_path_at : (j k : ℕ) → j < length t → k < length t → (path_at t) j ≡ (path_at t) k → j ≡ k
  one_path_at j k lj lk same =
      let a = taken t j lj in
      let b = taken t k lk in
      let p = path_leads t (forest t sane) a.0.name a.0 (has t sane j a.0 lj a.1) in
      let q = path_leads t (forest t sane) b.0.name b.0 (has t sane k b.0 lk b.1) in
      let paths : path_of t a.0 ≡ path_of t b.0 = sym (path_at-is t sane j a.0 a.1) ∙ same ∙ path_at-is t sane k b.0 b.1 in
      let one : a.0 ≡ b.0 = same_some p (ap (node_at t) paths ∙ q) in
      one_place t ks index j k lj lk (slot_is t j a.0 a.1 ∙ ap (λ (e : Entry). e.slot) one ∙ sym (slot_is t k b.0 b.1))

  abbrev pub kids : NodeName → List ℕ
  kids n = filter (λ k. is_below n (slot_in t k)) ks

  pub in_index : (k : ℕ) → k < length t → Split ks k
  in_index k low = contained ks k (index.all k low)

  pub of_index : (k : ℕ) → Split ks k → k < length t
  of_index k s = let q = place_of ks k s in subst (λ m. m < length t) (q.2 0) (All-get_or (λ k. k < length t) ks q.0 0 q.1 index.within)

  module _ (k : ℕ) (d : Entry) (low : k < length t) (at : slice_get t k ≡ Some d) where
    kid_within : (c : ℕ) → Split (kids d.name) c → c < length t
    kid_within c s = of_index c (of_filter (λ k. is_below d.name (slot_in t k)) ks c s).0

    kid_slot : (c : ℕ) → Split (kids d.name) c → slot_in t c ≡ Below d.name (component (slot_in t c))
    kid_slot c s = below_slot d.name (slot_in t c) (of_filter (λ k. is_below d.name (slot_in t k)) ks c s).1

    slot_path : (c : ℕ) (a : List ℕ) → c < length t → slot_in t c ≡ Below d.name a → (path_at t) c ≡ (path_at t) k ++ a ∷ []
    slot_path c a lc s =
        let e = taken t c lc in
        path_at-is t sane c e.0 e.1 ∙ child_path t sane d e.0 a (has t sane k d low at) (has t sane c e.0 lc e.1) (sym (slot_is t c e.0 e.1) ∙ s) ∙ ap (λ p. p ++ a ∷ []) (sym (path_at-is t sane k d at))

    kid_path : (c : ℕ) → Split (kids d.name) c → (path_at t) c ≡ (path_at t) k ++ component (slot_in t c) ∷ []
    kid_path c s = slot_path c (component (slot_in t c)) (kid_within c s) (kid_slot c s)

    apart_more : (cs w : List ℕ) → rises slot_cmp (map (slot_in t) cs) ≡ true → ((c : ℕ) → Split cs c → Split (kids d.name) c) → ((s : ℕ) → Split w s → Ahead ((path_at t) k) ((path_at t) s)) → Apart t w → Apart t (cs ++ w)
    apart_more [] w h f g a = a
    apart_more (c ∷ cs) w h f g a =
        let own = f c (head c cs) in
        let own_path = kid_path c own in (
          λ s u. elim (of_append cs w s u) [
            | inl v ↦
                let other = f s (later c cs s v) in
                let less = low_at slot_cmp (slot_in t) slots_total c cs s h v in
                record {
                  shared = (path_at t) k;
                  left = component (slot_in t c);
                  right = component (slot_in t s);
                  after = [];
                  other = [];
                  is = own_path;
                  other_is = kid_path s other;
                  less = sibling_less d.name (component (slot_in t c)) (component (slot_in t s)) (ap (λ r. slot_cmp r (Below d.name (component (slot_in t s)))) (sym (kid_slot c own)) ∙ ap (slot_cmp (slot_in t c)) (sym (kid_slot s other)) ∙ less);
                }
            | inr v ↦ subst (λ p. Ahead p ((path_at t) s)) (sym own_path) (ahead_further ((path_at t) k) ((path_at t) s) (component (slot_in t c) ∷ []) (g s v))
          ],
          apart_more cs w (rest_rises slot_cmp (slot_in t) slots_total c cs h) (λ z u. f z (later c cs z u)) g a,
        )

    below_here : (m : ℕ) → m < length t → (u : List (List ℕ)) → (path_at t) m ≡ (path_at t) k ++ u → (m ≡ k) ⊎ ((s : ℕ) × Split (kids d.name) s × IsOver t ((path_at t) s) ((path_at t) m))
    below_here m lm [] e = inl (one_path_at m k lm low (e ∙ append-nil ((path_at t) k)))
    below_here m lm (a ∷ u) e =
        let x = taken t m lm in
        let p : List (List ℕ) = (path_at t) k ++ a ∷ [] in
        let long : path_of t x.0 ≡ p ++ u = sym (path_at-is t sane m x.0 x.1) ∙ e ∙ sym (append_assoc ((path_at t) k) (a ∷ []) u) in
        let leads = path_leads t (forest t sane) x.0.name x.0 (has t sane m x.0 lm x.1) in
        elim (node_at t p) as (λ o. node_at t p ≡ o → (m ≡ k) ⊎ ((s : ℕ) × Split (kids d.name) s × IsOver t ((path_at t) s) ((path_at t) m))) [
          | None ↦ λ none. absurd (let z = sym leads ∙ ap (node_at t) long ∙ node_at-none t p u none in cc)
          | Some y ↦ λ some.
              let here : node_at t ((path_at t) k) ≡ Some d = ap (node_at t) (path_at-is t sane k d at) ∙ path_leads t (forest t sane) d.name d (has t sane k d low at) in
              let kid : at_slot t (Below d.name a) ≡ Some y = sym (node_at-push t ((path_at t) k) a ∙ ap (option_and_then (child_of t a)) here) ∙ some in
              let w = slot_there y a kid in
              let q = standing t y w.1 in
              let slot : slot_in t q.0 ≡ Below d.name a = slot_is t q.0 y q.2 ∙ w.0 in
              let passes : is_below d.name (slot_in t q.0) ≡ true = ap (is_below d.name) slot ∙ same_name-self d.name in
              inr (q.0, in_filter (λ k. is_below d.name (slot_in t k)) ks q.0 (in_index q.0 q.1) passes, (u, e ∙ sym (append_assoc ((path_at t) k) (a ∷ []) u) ∙ ap (λ r. r ++ u) (sym (slot_path q.0 a q.1 slot))))
        ] refl
      where
        slot_there : (y : Entry) (a : List ℕ) → at_slot t (Below d.name a) ≡ Some y → (y.slot ≡ Below d.name a) × Split t y
        slot_there y a h = let f = found (λ (e : Entry). same_slot e.slot (Below d.name a)) t y h in (same_slot-is y.slot (Below d.name a) f.passes, f.at)

    -- the next is met, and its children wait before the others
    pub walk_on : (o w : List ℕ) → IsWalking t o (k ∷ w) → IsWalking t (o ++ k ∷ []) (kids d.name ++ w)
    walk_on o w h = record {
      rising = rises_snoc path_cmp (path_at t) o k h.rising (λ y s. h.before y k s (head k w));
      within = λ m s. elim (of_append o (k ∷ []) m s) [ inl u ↦ h.within m u | inr u ↦ subst (λ n. n < length t) (only k m u) low ];
      waits = λ m s. elim (of_append (kids d.name) w m s) [ inl u ↦ kid_within m u | inr u ↦ h.waits m (later k w m u) ];
      before = λ m s a b. elim (of_append o (k ∷ []) m a) [
        | inl u ↦ elim (of_append (kids d.name) w s b) [
          | inl v ↦ paths_total.trans ((path_at t) m) ((path_at t) k) ((path_at t) s) (h.before m k u (head k w)) (to_kid s v)
          | inr v ↦ h.before m s u (later k w s v)
        ]
        | inr u ↦ subst (λ n. path_cmp ((path_at t) n) ((path_at t) s) ≡ Less) (only k m u) (elim (of_append (kids d.name) w s b) [
          | inl v ↦ to_kid s v
          | inr v ↦ ahead_less ((path_at t) k) ((path_at t) s) (h.apart.0 s v)
        ])
      ];
      apart = apart_more (kids d.name) w (filter_rises (λ k. is_below d.name (slot_in t k)) slot_cmp (slot_in t) ks index.rising) (λ c s. s) h.apart.0 h.apart.1;
      all = λ m lm. elim (h.all m lm) [
        | inl u ↦ inl (in_left o (k ∷ []) m u)
        | inr r ↦ elim (split_cons k w r.0 r.1) [
          | inl e ↦ elim (below_here m lm r.2.0 (r.2.1 ∙ ap (λ n. (path_at t) n ++ r.2.0) (sym e))) [
            | inl q ↦ inl (in_right o (k ∷ []) m (subst (Split (k ∷ [])) (sym q) (head k [])))
            | inr q ↦ inr (q.0, in_left (kids d.name) w q.0 q.1, q.2)
          ]
          | inr v ↦ inr (r.0, in_right (kids d.name) w r.0 v, r.2)
        ]
      ];
    }
      where
        only : (k m : ℕ) → Split (k ∷ []) m → k ≡ m
        only k m s = elim (split_cons k [] m s) [ inl e ↦ e | inr u ↦ absurd (no_split m u) ]

        to_kid : (s : ℕ) → Split (kids d.name) s → path_cmp ((path_at t) k) ((path_at t) s) ≡ Less
        to_kid s v = ap (path_cmp ((path_at t) k)) (kid_path s v) ∙ prefix_less ((path_at t) k) (component (slot_in t s)) []

  pub walk_begins : (r : ℕ) → r < length t → slot_in t r ≡ Root → IsWalking t [] (r ∷ [])
  walk_begins r low is = record {
    rising = refl;
    within = λ k s. absurd (no_split k s);
    waits = λ k s. elim (split_cons r [] k s) [ inl e ↦ subst (λ n. n < length t) e low | inr u ↦ absurd (no_split k u) ];
    before = λ k s a b. absurd (no_split k a);
    apart = (λ k s. absurd (no_split k s), tt);
    all = λ m lm. inr (r, head r [], ((path_at t) m, ap (λ p. p ++ (path_at t) m) (sym (ap (path_up t t) is))));
  }

  distinct_places : (o : List ℕ) → rises path_cmp (map (path_at t) o) ≡ true → IsDistinct eqb o
  distinct_places o h = IsDistinct-from_apart eqb o (λ i j d lt low.
      let less = less_at path_cmp (path_at t) paths_total o i j d h lt low in
      let x = get_or o i d in
      let y = get_or o j d in
      elim (eqb x y) as (λ b. eqb x y ≡ b → b ≡ false) [
        | true ↦ λ e. absurd (let q : x ≡ y = grind (arith, nat_tests, e) in let z : path_cmp ((path_at t) x) ((path_at t) y) ≡ Equal = ap (λ m. path_cmp ((path_at t) x) ((path_at t) m)) (sym q) ∙ tied_itself paths_total ((path_at t) x) in cc)
        | false ↦ λ e. refl
      ] refl)

  -- no more are met than there are
  pub walk_fits : (o w : List ℕ) → IsWalking t o w → length o ≤ length t
  walk_fits o w h = length-le_from_distinct_below o (length t) (distinct_places o h.rising) (λ q a.
      let f = some_passes (eqb q) o a in
      let e : q ≡ f.0 = same_number q f.0 f.1.passes in
      subst (λ m. m < length t) (sym e) (h.within f.0 f.1.at))
    where
      same_number : (a b : ℕ) → eqb a b ≡ true → a ≡ b
      same_number a b e = grind (arith, nat_tests, e)

  differ_by_path : IsDistinct (λ (e : Entry) (f : Entry). same_path (path_of t e) (path_of t f)) t
  differ_by_path = IsDistinct-from_apart (λ (e : Entry) (f : Entry). same_path (path_of t e) (path_of t f)) t (λ i j d lt low.
      let li : i < length t = omega arith in
      let a = taken t i li in
      let b = taken t j low in
      elim (same_path (path_of t (get_or t i d)) (path_of t (get_or t j d))) as (λ b. same_path (path_of t (get_or t i d)) (path_of t (get_or t j d)) ≡ b → b ≡ false) [
        | true ↦ λ e. absurd (
            let p : (path_at t) i ≡ (path_at t) j = path_at-is t sane i a.0 a.1 ∙ ap (path_of t) (sym (a.3 d)) ∙ same_path-is (path_of t (get_or t i d)) (path_of t (get_or t j d)) e ∙ ap (path_of t) (b.3 d) ∙ sym (path_at-is t sane j b.0 b.1) in
            let q : i ≡ j = one_path_at i j li low p in
            omega arith)
        | false ↦ λ e. refl
      ] refl)

  rises_entries : (o : List ℕ) → ((k : ℕ) → Split o k → k < length t) → rises path_cmp (map (path_at t) o) ≡ true → rises path_cmp (map (path_of t) (filter_map (slice_get t) o)) ≡ true
  rises_entries o f h = subst (λ l. rises path_cmp l ≡ true) (same_paths o f) h
    where
      same_paths : (o : List ℕ) → ((k : ℕ) → Split o k → k < length t) → map (path_at t) o ≡ map (path_of t) (filter_map (slice_get t) o)
      same_paths [] f = refl
      same_paths (k ∷ o) f =
          let r = taken t k (f k (head k o)) in
          let rest = same_paths o (λ m s. f m (later k o m s)) in
          ap (λ p. p ∷ map (path_at t) o) (path_at-is t sane k r.0 r.1) ∙ ap (λ l. path_of t r.0 ∷ l) rest ∙ ap (λ x. map (path_of t) (cons_option x (filter_map (slice_get t) o))) (sym r.1)

  pub some_entries : (o : List ℕ) → ((k : ℕ) → Split o k → k < length t) → map (slice_get t) o ≡ map Some (filter_map (slice_get t) o)
  some_entries [] f = refl
  some_entries (k ∷ o) f =
      let r = taken t k (f k (head k o)) in
      let rest = some_entries o (λ m s. f m (later k o m s)) in
      ap (λ x. x ∷ map (slice_get t) o) r.1 ∙ ap (λ l. Some r.0 ∷ l) rest ∙ ap (λ x. map Some (cons_option x (filter_map (slice_get t) o))) (sym r.1)

  -- all are met, in the order of their paths
  pub walk_ends : (o : List ℕ) → IsWalking t o [] → map (slice_get t) o ≡ map Some (by_path t)
  walk_ends o h =
      let es = filter_map (slice_get t) o in
      some_entries o h.within ∙ ap (map Some) (one_sorted path_cmp (path_of t) paths_total es (by_path t)
      (rises_entries o h.within h.rising) (ordered-rises path_cmp (path_of t) paths_total t)
      (λ e s.
      let k = of_filter_map (slice_get t) o e s in
      let r = taken t k.0 (h.within k.0 k.1) in
      in_ordered path_cmp (path_of t) paths_total same_path same_path-is same_path-self exact_paths t differ_by_path e (subst (Split t) (same_some r.1 k.2) r.2))
      (λ e s.
      let q = standing t e (of_ordered path_cmp (path_of t) paths_total t e s) in
      elim (h.all q.0 q.1) [
        | inl u ↦ in_filter_map (slice_get t) o q.0 e u q.2
        | inr r ↦ absurd (no_split r.0 r.1)
      ]))
