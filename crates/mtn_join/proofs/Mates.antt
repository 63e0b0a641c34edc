-- The pairs of two trees with the same paths, by places.
use Rattle.std.specs.Prelude.{not, if◌then◌else◌, reverse, slice_get, slice_index, option_copied, IsSome}
use Rattle.std.specs.Option.{option_map_or}
use Rattle.std.specs.Cmp.{first_so, tied_itself}
use Rattle.std.specs.declared.cmp.Ordering.TheVariants.{Equal}
use Rattle.std.proofs.Common.{◌≡◌, ℕ, ◌+◌, ◌<◌, ◌≤◌, ◌≢◌, Bool, true, false, List, [], ◌∷◌, ◌++◌, length, get_or, set, get_or-set_other, get_or-set_same, length-set, Option, None, Some, Bor, map, append_assoc, refl, sym, ◌∙◌, ap, subst, inl, inr, arith}
use Rattle.std.proofs.lemmas.Bool.{cases_lt}
use Rattle.std.proofs.lemmas.Option.{slice_get-get_or}
use Rattle.mtn_base.specs.Names.{same_id, name_cmp}
use Rattle.mtn_base.specs.declared.id.Id.{Id}
use Rattle.mtn_base.specs.declared.name.NodeName.{NodeName}
use Rattle.mtn_base.proofs.Orders.{names_total}
use Rattle.mtn_base.proofs.Members.{taken}
use Rattle.mtn_base.proofs.Sorting.{less_at}
use Rattle.mtn_roster.specs.declared.entry.Entry.{Entry}
use Rattle.mtn_roster.specs.declared.entry.Slot.{Slot}
use Rattle.mtn_roster.specs.declared.entry.Slot.TheVariants.{Root, Below}
use Rattle.mtn_roster.specs.declared.walk.Stop.{Stop}
use Rattle.mtn_roster.specs.Tree.{Tree, IsSane, entry_of, node_at, path_up, path_of}
use Rattle.mtn_roster.specs.Walk.{by_path, AreStops}
use Rattle.mtn_roster.proofs.Along.{leads, as_long, at_stop, one_stop, reached}
use Rattle.mtn_roster.proofs.Forest.{name_of, node_there, same_some}
use Rattle.mtn_roster.proofs.Leading.{get_within}
use Rattle.mtn_roster.proofs.Ordered.{forest_of}
use Rattle.mtn_roster.proofs.Pathing.{path_leads, path_of-at}
use Rattle.mtn_roster.proofs.Stops.{map-snoc}
use Rattle.mtn_roster.proofs.Walking.{child_path, has}
use Rattle.mtn_changeset_laws.specs.Joining.{joined_name, joined_slot, counterpart, other_attrs}
use Rattle.mtn_join.specs.Pairing.{both_attrs, ArePaired, AreMates, paired_slot, paired_entry, unordered_entry}
use Rattle.mtn_join.proofs.Alike.{ends_alike, no_end}

-- the parent of a node that hangs below one
parent_of : (t : Tree) → IsSane t → (x : Entry) (p : NodeName) (n : List ℕ) → entry_of t x.name ≡ Some x → x.slot ≡ Below p n
    → (d : Entry) × (entry_of t p ≡ Some d) × (d.name ≡ p) × (path_of t x ≡ path_of t d ++ n ∷ [])
parent_of t sane x p n h slot =
    let d = sane.sane.parents x.name p x n h slot in
    let name : d.0.name ≡ p = name_of t p d.0 d.1 in
    (d.0, d.1, name, child_path t sane d.0 x n (ap (entry_of t) name ∙ d.1) h (slot ∙ ap (λ m. Below m n) (sym name)))

picked : (b : Bool) (p q p' q' : NodeName) (n m : List ℕ) → p' ≡ p → q' ≡ q → n ≡ m → (if b then Below p n else Below q m) ≡ Below (if b then p' else q') n
picked true p q p' q' n m hp hq hn = λ i. Below (sym hp i) n
picked false p q p' q' n m hp hq hn = λ i. Below (sym hq i) (sym hn i)

module _ (l r : Tree) (sl : IsSane l) (sr : IsSane r) where
  -- the joined slot of a node, by the slots of its pair
  slot_of_pair : (new : Id) (x y : Entry) → entry_of l x.name ≡ Some x → entry_of r y.name ≡ Some y → path_of l x ≡ path_of r y → (s t : Slot) → x.slot ≡ s → y.slot ≡ t → paired_slot new s t ≡ joined_slot l r new s
  slot_of_pair new x y hx hy same Root t xs ys = refl
  slot_of_pair new x y hx hy same (Below p n) Root xs ys =
      let d = parent_of l sl x p n hx xs in
      absurd (no_end (path_of l d.0) n (sym (ap (path_up r r) ys) ∙ sym same ∙ d.3))
  slot_of_pair new x y hx hy same (Below p n) (Below q m) xs ys =
      let d = parent_of l sl x p n hx xs in
      let e = parent_of r sr y q m hy ys in
      let parts = ends_alike (path_of l d.0) (path_of r e.0) n m (sym d.3 ∙ same ∙ e.3) in
      let other : counterpart l r d.0 ≡ Some e.0 = ap (node_at r) parts.0 ∙ path_leads r (forest_of r sr) e.0.name e.0 (ap (entry_of r) e.2 ∙ e.1) in
      picked (not (same_id p.birth new)) p q d.0.name e.0.name n m d.2 e.2 parts.1
      ∙ ap (λ b. Below (if b then d.0.name else e.0.name) n) (ap (λ (z : NodeName). not (same_id z.birth new)) (sym d.2))
      ∙ ap (λ o. Below (joined_name new d.0 o) n) (sym other)
      ∙ ap (λ o. Below (option_map_or (λ (z : Entry). joined_name new z (counterpart l r z)) o p) n) (sym d.1)

  -- what a pair is joined to
  pub made_of : (new : Id) (x y : Entry) → entry_of l x.name ≡ Some x → counterpart l r x ≡ Some y → paired_entry new x y ≡ unordered_entry l r new x
  made_of new x y hx other =
      let hy : entry_of r y.name ≡ Some y = node_there r (forest_of r sr) (reverse (path_of l x)) y other in
      let same : path_of l x ≡ path_of r y = sym (path_of-at r (forest_of r sr) (path_of l x) y other) in
      let slot = slot_of_pair new x y hx hy same x.slot y.slot refl refl in
      λ j. record {
        name = joined_name new x (sym other j);
        slot = slot j;
        body = x.body;
        attrs = both_attrs x.attrs (other_attrs (sym other j));
      }

  one_place_below : (i j : ℕ) (x : Entry) → slice_get l i ≡ Some x → slice_get l j ≡ Some x → i < j → ⊥
  one_place_below i j x hi hj lt =
      let low = get_within l j x hj in
      let a : get_or l i x ≡ x = same_some (slice_get-get_or l i x (omega arith)) hi in
      let b : get_or l j x ≡ x = same_some (slice_get-get_or l j x low) hj in
      let less = less_at name_cmp (λ (e : Entry). e.name) names_total l i j x (first_so _ _ sl.ordered) lt low in
      let equal : name_cmp (get_or l i x).name (get_or l j x).name ≡ Equal =
      ap (λ (z : Entry). name_cmp z.name (get_or l j x).name) (a ∙ sym b) ∙ tied_itself names_total (get_or l j x).name in
      cc

  -- a node stands at one place
  one_place : (i j : ℕ) (x : Entry) → slice_get l i ≡ Some x → slice_get l j ≡ Some x → i ≡ j
  one_place i j x hi hj = elim (cases_lt i j) [
    | inl lt ↦ absurd (one_place_below i j x hi hj lt)
    | inr ge ↦ elim (cases_lt j i) [
      | inl lt ↦ absurd (one_place_below j i x hj hi lt)
      | inr le ↦ omega arith
    ]
  ]

  module _ (walk beside : List Stop) (aw : AreStops l walk) (ab : AreStops r beside) (paired : ArePaired l r) where
    -- the first stops of the walks, noted by places
    abbrev pub AreNoted : ℕ → List ℕ → Type 0
    AreNoted at mates = (j : ℕ) (s u : Stop) → j < at → slice_get walk j ≡ Some s → slice_get beside j ≡ Some u → slice_index mates s.place ≡ u.place

    -- both walks have a stop there
    pub stop_in : (j : ℕ) → j < length walk → j < length beside
    stop_in j lt = let p = paired j (subst (λ n. j < n) (sym (as_long l walk aw)) lt) in subst (λ n. j < n) (as_long r beside ab) (get_within (by_path r) j p.y p.right_at)

    -- one more stop
    pub noted_more : (mates : List ℕ) → length mates ≡ length l → (at : ℕ) → at < length walk → AreNoted at mates → (d : Stop) →
        (length (set mates (get_or walk at d).place (get_or beside at d).place) ≡ length l) × AreNoted (at + 1) (set mates (get_or walk at d).place (get_or beside at d).place)
    noted_more mates long at low noted d =
        let s : Stop = get_or walk at d in
        let u : Stop = get_or beside at d in
        let ws = slice_get-get_or walk at d low in
        let bs = slice_get-get_or beside at d (stop_in at low) in
        let x = taken (by_path l) at (subst (λ n. at < n) (sym (as_long l walk aw)) low) in
        let here = at_stop l walk aw at s ws ∙ x.1 in
        let within : s.place < length mates = subst (λ n. s.place < n) (sym long) (get_within l s.place x.0 here) in (
          length-set mates s.place u.place ∙ long,
          λ j s' u' lt hs hu. elim (cases_lt j at) [
            | inl below ↦
                let apart : s'.place ≢ s.place = λ same.
                let there : slice_get (by_path l) j ≡ Some x.0 = sym (at_stop l walk aw j s' hs) ∙ ap (slice_get l) same ∙ here in
                let one : j ≡ at = one_stop l sl j at x.0 x.0 there x.1 refl in omega (arith, below, one) in
                rw get_or-set_other (noted j s' u' below hs hu)
            | inr ge ↦
                let is : j ≡ at = omega arith in
                let ss : s' ≡ s = same_some hs (ap (slice_get walk) is ∙ ws) in
                let uu : u' ≡ u = same_some hu (ap (slice_get beside) is ∙ bs) in
                ap (λ (z : Stop). slice_index (set mates s.place u.place) z.place) ss ∙ get_or-set_same mates s.place u.place 0 within ∙ ap (λ (z : Stop). z.place) (sym uu)
          ],
        )

    pub all_noted : (mates : List ℕ) → length mates ≡ length l → (at : ℕ) → length walk ≤ at → AreNoted at mates → AreMates l r mates
    all_noted mates long at past noted = record { long = long; each = each }
      where
        each : (k : ℕ) (x : Entry) → slice_get l k ≡ Some x → (y : Entry) × (slice_get r (slice_index mates k) ≡ Some y) × (counterpart l r x ≡ Some y)
        each k x h =
            let low = get_within l k x h in
            let stop = reached l sl x (has l sl k x low h) in
            let pair = paired stop.0 (get_within (by_path l) stop.0 x stop.1) in
            let is : pair.x ≡ x = same_some pair.left_at stop.1 in
            let lw : stop.0 < length walk = subst (λ n. stop.0 < n) (as_long l walk aw) (get_within (by_path l) stop.0 x stop.1) in
            let lb = stop_in stop.0 lw in
            let none : Stop = record { place = 0; above = 0 } in
            let s : Stop = get_or walk stop.0 none in
            let u : Stop = get_or beside stop.0 none in
            let ws = slice_get-get_or walk stop.0 none lw in
            let bs = slice_get-get_or beside stop.0 none lb in
            let here : slice_get l s.place ≡ Some x = at_stop l walk aw stop.0 s ws ∙ stop.1 in
            let place : s.place ≡ k = one_place s.place k x here h in
            let index : slice_index mates k ≡ u.place = ap (slice_index mates) (sym place) ∙ noted stop.0 s u (omega (arith, lw, past)) ws bs in (
              pair.y,
              ap (slice_get r) index ∙ at_stop r beside ab stop.0 u bs ∙ pair.right_at,
              ap (node_at r) (ap (path_of l) (sym is) ∙ pair.path) ∙ leads r sr stop.0 pair.y pair.right_at,
            )

  at_middle : (ys rest all : List Entry) (x : Entry) → ys ++ all ≡ l → all ≡ x ∷ rest → slice_get l (length ys) ≡ Some x
  at_middle ys rest all x split front = ap (λ t. slice_get t (length ys)) (sym split ∙ ap (λ t. ys ++ t) front) ∙ go ys
    where
      go : (ys : List Entry) → slice_get (ys ++ x ∷ rest) (length ys) ≡ Some x
      go [] = refl
      go (y ∷ ys) = go ys

  -- the mate of the entry whose turn it is
  pub mate_there : (mates : List ℕ) → AreMates l r mates → (ys rest all : List Entry) (x : Entry) (k at : ℕ) (o : Option (Bor Entry)) → ys ++ all ≡ l → all ≡ x ∷ rest → k ≡ length ys → at ≡ get_or mates k at → option_copied o ≡ slice_get r at
      → (y : Entry) × (option_copied o ≡ Some y) × (counterpart l r x ≡ Some y) × (entry_of l x.name ≡ Some x)
  mate_there mates are ys rest all x k at o split front count read found =
      let here = at_middle ys rest all x split front in
      let y = are.each (length ys) x here in
      let low = get_within l (length ys) x here in
      let within : length ys < length mates = subst (λ n. length ys < n) (sym are.long) low in
      let same : at ≡ slice_index mates (length ys) =
      read ∙ ap (λ n. get_or mates n at) count ∙ same_some (slice_get-get_or mates (length ys) at within) (slice_get-get_or mates (length ys) 0 within) in
      (y.0, found ∙ ap (slice_get r) same ∙ y.1, y.2, has l sl (length ys) x low here)

  -- one more entry
  pub one_joined : (new : Id) (mates : List ℕ) → AreMates l r mates → (ys rest all : List Entry) (x e : Entry) (k at : ℕ) (o : Option (Bor Entry)) (b : Bor Entry) (made made' : List Entry) → ys ++ all ≡ l → all ≡ x ∷ rest → k ≡ length ys
      → at ≡ get_or mates k at → option_copied o ≡ slice_get r at → o ≡ Some b → e ≡ paired_entry new x b.now → made ≡ map (unordered_entry l r new) ys → made' ≡ made ++ e ∷ []
      → ((ys ++ x ∷ []) ++ rest ≡ l) × (made' ≡ map (unordered_entry l r new) (ys ++ x ∷ []))
  one_joined new mates are ys rest all x e k at o b made made' split front count read found got is was more =
      let m = mate_there mates are ys rest all x k at o split front count read found in
      let y : b.now ≡ m.0 = same_some {o = option_copied o} (ap option_copied got) m.1 in
      let joined : e ≡ unordered_entry l r new x = is ∙ ap (paired_entry new x) y ∙ made_of new x m.0 m.3 m.2 in (
        append_assoc ys (x ∷ []) rest ∙ ap (λ t. ys ++ t) (sym front) ∙ split,
        more ∙ (λ i. was i ++ joined i ∷ []) ∙ sym (map-snoc (unordered_entry l r new) ys x),
      )

pub some_copied : (o : Option (Bor Entry)) (y : Entry) → option_copied o ≡ Some y → IsSome o
some_copied None y h = absurd cc
some_copied (Some b) y h = refl
