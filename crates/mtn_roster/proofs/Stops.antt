-- The loop of the walk.
use Rattle.std.specs.Prelude.{map, reverse, slice_get}
use Rattle.std.proofs.Common.{◌≡◌, ℕ, zero, suc, ◌+◌, ◌-◌, ◌<◌, ◌≤◌, List, [], ◌∷◌, ◌++◌, length, get_or, Some, refl, sym, ◌∙◌, ap, subst, inl, inr, arith, length-append, append-nil, append_assoc, drop, drop-cons, add-one}
use Rattle.std.proofs.lemmas.List.{reverse-append, reverse-reverse}
use Rattle.std.proofs.Math.Seq.{drop-length}
use Rattle.std.proofs.lemmas.Option.{slice_get-get_or}
use Rattle.mtn_roster.specs.declared.entry.Entry.{Entry}
use Rattle.mtn_roster.specs.declared.entry.Slot.TheVariants.{Root}
use Rattle.mtn_roster.specs.declared.walk.Stop.{Stop}
use Rattle.mtn_roster.specs.Tree.{Tree, same_slot, root_of, IsSane}
use Rattle.mtn_roster.specs.Index.{IsIndex, slot_in}
use Rattle.mtn_roster.specs.Walk.{is_below, AreStops}
use Rattle.mtn_base.proofs.Finding.{Split, later, found}
use Rattle.mtn_base.proofs.Members.{head, split_cons, taken}
use Rattle.mtn_roster.proofs.Slots.{same_slot-is}
use Rattle.mtn_base.proofs.Sorting.{no_split, long_map}
use Rattle.mtn_roster.proofs.BySlot.{slot_is}
use Rattle.mtn_roster.proofs.Walking.{IsWalking, kids, of_filter, walk_begins, walk_on, walk_ends, walk_fits}
use Rattle.mtn_roster.proofs.Leading.{IsLed, led_begins, led_on, led_ends}

abbrev place_of_stop : Stop → ℕ
place_of_stop s = s.place

-- what holds of what stands at each place, and of one more
pub one_more : {X : Type 0} (P : ℕ → X → Type 0) (xs : List X) (x d : X) → ((k : ℕ) → k < length xs → P k (get_or xs k d)) → P (length xs) x
    → (k : ℕ) → k < length xs + 1 → P k (get_or (xs ++ x ∷ []) k d)
one_more P [] x d each own zero low = own
one_more P [] x d each own (suc k) low = absurd (omega (arith, low))
one_more P (y ∷ ys) x d each own zero low = each 0 (omega arith)
one_more P (y ∷ ys) x d each own (suc k) low = one_more (λ j v. P (suc j) v) ys x d (λ j l. each (suc j) (omega (arith, l))) own k (omega (arith, low))

pub map-snoc : {X Y : Type 0} (f : X → Y) (xs : List X) (x : X) → map f (xs ++ x ∷ []) ≡ map f xs ++ f x ∷ []
map-snoc f [] x = refl
map-snoc f (y ∷ xs) x = ap (λ l. f y ∷ l) (map-snoc f xs x)

pub map-append : {X Y : Type 0} (f : X → Y) (xs ys : List X) → map f (xs ++ ys) ≡ map f xs ++ map f ys
map-append f [] ys = refl
map-append f (x ∷ xs) ys = ap (λ l. f x ∷ l) (map-append f xs ys)

pub map-map : {X Y Z : Type 0} (f : X → Y) (g : Y → Z) (xs : List X) → map g (map f xs) ≡ map (λ x. g (f x)) xs
map-map f g [] = refl
map-map f g (x ∷ xs) = ap (λ l. g (f x) ∷ l) (map-map f g xs)

map-self : {X : Type 0} (f : X → X) (same : (x : X) → f x ≡ x) (xs : List X) → map f xs ≡ xs
map-self f same [] = refl
map-self f same (x ∷ xs) = ap (λ y. y ∷ map f xs) (same x) ∙ ap (λ l. x ∷ l) (map-self f same xs)

map-reverse : {X Y : Type 0} (f : X → Y) (xs : List X) → map f (reverse xs) ≡ reverse (map f xs)
map-reverse f [] = refl
map-reverse f (x ∷ xs) = ap (map f) (reverse-append (x ∷ []) xs) ∙ map-append f (reverse xs) (x ∷ []) ∙ ap (λ l. l ++ f x ∷ []) (map-reverse f xs) ∙ sym (reverse-append (f x ∷ []) (map f xs))

of_map : {X Y : Type 0} (f : X → Y) (xs : List X) (y : Y) → Split (map f xs) y → (x : X) × Split xs x × (f x ≡ y)
of_map f [] y s = absurd (no_split y s)
of_map f (x ∷ xs) y s = elim (split_cons (f x) (map f xs) y s) [ inl e ↦ (x, head x xs, e) | inr u ↦ let r = of_map f xs y u in (r.0, later x xs r.0 r.1, r.2) ]

abbrev pub stop_at : ℕ → ℕ → Stop
stop_at above k = record { place = k; above = above }

-- what waits after a push of the children, the next first
waiting_is : (ws : List Stop) (above : ℕ) (run : List ℕ) → reverse (ws ++ map (stop_at above) (reverse run)) ≡ map (stop_at above) run ++ reverse ws
waiting_is ws above run =
    reverse-append ws (map (stop_at above) (reverse run))
    ∙ ap (λ l. l ++ reverse ws) (ap reverse (map-reverse (stop_at above) run) ∙ reverse-reverse (map (stop_at above) run))

module _ (t : Tree) (sane : IsSane t) (ks : List ℕ) (index : IsIndex t ks) where
  abbrev pub IsOnWay : List Stop → List Stop → Type 0
  IsOnWay ss ws = IsWalking t (map place_of_stop ss) (map place_of_stop (reverse ws)) × IsLed t ss (reverse ws)

  pub begins : (ss ws : List Stop) (r : ℕ) → ss ≡ [] → ws ≡ stop_at 0 r ∷ [] → r < length t → slice_get t r ≡ root_of t → IsOnWay ss ws
  begins ss ws r none one low at =
      let x = taken t r low in
      let root : root_of t ≡ Some x.0 = sym at ∙ x.1 in
      let slot : slot_in t r ≡ Root = slot_is t r x.0 x.1 ∙ same_slot-is x.0.slot Root (found (λ (e : Entry). same_slot e.slot Root) t x.0 root).passes in
      subst (λ l. IsOnWay l ws) (sym none) (subst (IsOnWay []) (sym one) (walk_begins t sane ks index r low slot, led_begins t (stop_at 0 r) slot))

  pub waits_within : (ss ws rest : List Stop) (x : Stop) → ws ≡ rest ++ x ∷ [] → IsOnWay ss ws → x.place < length t
  waits_within ss ws rest x is h =
      h.0.waits x.place (subst (λ l. Split (map place_of_stop l) x.place) (sym (reverse-append rest (x ∷ [])) ∙ ap reverse (sym is)) (head x.place (map place_of_stop (reverse rest))))

  pub goes_on : (ss ws rest ss' ws' : List Stop) (x : Stop) (e : Entry) (run : List ℕ) (above : ℕ) → above ≡ length ss → ws ≡ rest ++ x ∷ [] → IsOnWay ss ws → e ≡ get_or t x.place e → run ≡ kids t sane ks index e.name
      → ws' ≡ rest ++ map (stop_at above) (reverse run) → ss' ≡ ss ++ x ∷ [] → IsOnWay ss' ws'
  goes_on ss ws rest ss' ws' x e run above count is h at found pushed met =
      let low = waits_within ss ws rest x is h in
      let there : slice_get t x.place ≡ Some e = slice_get-get_or t x.place e low ∙ ap Some (sym at) in
      let back : reverse ws ≡ x ∷ reverse rest = ap reverse is ∙ reverse-append rest (x ∷ []) in
      let walking : IsWalking t (map place_of_stop ss) (x.place ∷ map place_of_stop (reverse rest)) = subst (λ l. IsWalking t (map place_of_stop ss) (map place_of_stop l)) back h.0 in
      let led : IsLed t ss (x ∷ reverse rest) = subst (IsLed t ss) back h.1 in
      let kid_list : List ℕ = kids t sane ks index e.name in
      let new_stops : List Stop = map (stop_at (length ss)) kid_list in
      let new_back : reverse ws' ≡ new_stops ++ reverse rest = ap reverse (pushed ∙ ap (λ n. rest ++ map (stop_at n) (reverse run)) count) ∙ waiting_is rest (length ss) run ∙ ap (λ l. map (stop_at (length ss)) l ++ reverse rest) found in
      let places : map place_of_stop (new_stops ++ reverse rest) ≡ kid_list ++ map place_of_stop (reverse rest) =
      map-append place_of_stop new_stops (reverse rest) ∙ ap (λ l. l ++ map place_of_stop (reverse rest)) (map-map (stop_at (length ss)) place_of_stop kid_list ∙ map-self (λ k. k) (λ k. refl) kid_list) in (
        subst (λ l. IsWalking t l (map place_of_stop (reverse ws'))) (sym (ap (map place_of_stop) met ∙ map-snoc place_of_stop ss x))
            (subst (IsWalking t (map place_of_stop ss ++ x.place ∷ [])) (sym (ap (map place_of_stop) new_back ∙ places))
            (walk_on t sane ks index x.place e low there (map place_of_stop ss) (map place_of_stop (reverse rest)) walking)),
        subst (λ l. IsLed t l (reverse ws')) (sym met) (subst (IsLed t (ss ++ x ∷ [])) (sym new_back)
            (led_on t ss (reverse rest) new_stops x e led there (λ s u.
            let r = of_map (stop_at (length ss)) kid_list s u in
            let f = of_filter (λ k. is_below e.name (slot_in t k)) ks r.0 r.1 in
            (ap (λ (s : Stop). s.above) (sym r.2), ap (λ (s : Stop). is_below e.name (slot_in t s.place)) (sym r.2) ∙ f.1)))),
      )

  pub nearer : (ss ss' ws' : List Stop) (x : Stop) → ss' ≡ ss ++ x ∷ [] → IsOnWay ss' ws' → length t - length ss' < length t - length ss
  nearer ss ss' ws' x met h =
      let fits = walk_fits t sane ks index (map place_of_stop ss') (map place_of_stop (reverse ws')) h.0 in
      omega (arith, fits, long_map place_of_stop ss', ap length met, length-append ss (x ∷ []))

  pub ends : (ss ws : List Stop) → ws ≡ [] → IsOnWay ss ws → AreStops t ss
  ends ss ws none h =
      led_ends t ss (sym (map-map place_of_stop (slice_get t) ss) ∙ walk_ends t sane ks index (map place_of_stop ss) (subst (λ l. IsWalking t (map place_of_stop ss) (map place_of_stop (reverse l))) none h.0))
      (subst (λ l. IsLed t ss (reverse l)) none h.1)

-- pushing the children, the last first
pub pushed_none : (ws : List Stop) (above : ℕ) (run : List ℕ) → ws ≡ ws ++ map (stop_at above) (reverse (drop (length run) run))
pushed_none ws above run = sym (ap (λ l. ws ++ map (stop_at above) (reverse l)) (drop-length run) ∙ append-nil ws)

pub pushed_more : (ws now now' : List Stop) (above : ℕ) (run : List ℕ) (left before : ℕ) → left ≡ before + 1 → left ≤ length run
    → now ≡ ws ++ map (stop_at above) (reverse (drop left run)) → now' ≡ now ++ stop_at above (get_or run before 0) ∷ [] → now' ≡ ws ++ map (stop_at above) (reverse (drop before run))
pushed_more ws now now' above run left before step fits is pushed =
    let low : before < length run = omega (arith, step, fits) in
    let all : drop before run ≡ get_or run before 0 ∷ drop left run = drop-cons run before 0 low ∙ ap (λ n. get_or run before 0 ∷ drop n run) (sym (step ∙ add-one before)) in
    pushed ∙ ap (λ l. l ++ stop_at above (get_or run before 0) ∷ []) is
    ∙ append_assoc ws (map (stop_at above) (reverse (drop left run))) (stop_at above (get_or run before 0) ∷ [])
    ∙ ap (λ l. ws ++ l) (sym (map-snoc (stop_at above) (reverse (drop left run)) (get_or run before 0)))
    ∙ ap (λ l. ws ++ map (stop_at above) l) (sym (reverse-append (get_or run before 0 ∷ []) (drop left run)))
    ∙ ap (λ l. ws ++ map (stop_at above) (reverse l)) (sym all)
