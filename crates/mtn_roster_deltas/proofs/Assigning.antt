-- Entries under numbers spell their marked tree.
use Rattle.std.specs.Prelude.{map, option_map, slice_get, Contains}
use Rattle.std.specs.List.{AllByRecursion, AllZip, IsDistinct, position_from}
use Rattle.std.specs.List.Sorted.{IsPermutation, IsSortedBy}
use Rattle.std.specs.FinMap.{nat_cmp-IsAntisymmetric}
use Rattle.std.specs.declared.cmp.Ordering.TheVariants.{Less, Equal, Greater}
use Rattle.std.specs.Ordering.{is_lt, nat_cmp, ordering_reverse}
use Rattle.std.specs.Cmp.{first_so, nat_cmp_total}
use Rattle.std.proofs.Common.{◌≡◌, ℕ, suc, ◌+◌, ◌<◌, ◌≤◌, Bool, true, false, cond, List, [], ◌∷◌, length, get_or, Option, Some, None, refl, sym, ◌∙◌, ap, subst, arith}
use Rattle.std.proofs.lemmas.List.Elements.{Contains-append_right}
use Rattle.std.proofs.lemmas.List.Sorted.{IsPermutation-sym, Contains-permutation}
use Rattle.std.proofs.lemmas.Map.Keys.{apart_from_distinct, IsDistinct-IsPermutation}
use Rattle.mtn_base.specs.Names.{name_cmp, same_name}
use Rattle.mtn_base.specs.declared.name.NodeName.{NodeName}
use Rattle.mtn_marking.specs.Marking.{MarkedTree, AreFor}
use Rattle.mtn_marking.specs.declared.node.NodeMarks.{NodeMarks}
use Rattle.mtn_marking.proofs.Fitting.{for_long}
use Rattle.mtn_marking.proofs.Zips.{got_at}
use Rattle.mtn_records.specs.declared.entry.NumberedEntry.{NumberedEntry}
use Rattle.mtn_roster.specs.declared.entry.Entry.{Entry}
use Rattle.mtn_roster.specs.declared.entry.Slot.{Slot}
use Rattle.mtn_roster.specs.declared.entry.Slot.TheVariants.{Root, Below}
use Rattle.mtn_roster.specs.Tree.{Tree, entry_of, IsSane}
use Rattle.mtn_base.specs.Lists.{rises}
use Rattle.mtn_base.proofs.Finding.{found}
use Rattle.mtn_base.proofs.Orders.{names_total, exact_names}
use Rattle.mtn_base.proofs.Members.{any_default, taken}
use Rattle.mtn_roster.proofs.Ordered.{distinct_of}
use Rattle.mtn_base.proofs.Sorting.{rec_at, rising_by, rising_differ, sorted_is}
use Rattle.mtn_base.proofs.Tests.{same_name-is, same_name-self}
use Rattle.mtn_roster_deltas.specs.Chain.{Entries, ascend, entry_at, number_of}
use Rattle.mtn_roster_deltas.specs.Spelled.{IsSlotOf, IsEntryOf, Spells, by_node, marks_of, node_of}
use Rattle.mtn_roster_deltas.specs.Numbering.{all_of, fresh, number_among, number_in, or_next, AreKnown, IsNumbering}
use Rattle.mtn_roster_deltas.specs.Noting.{HaveNumbers, AreNumbered, IsNumberedOf, IsNumberedSlot}
use Rattle.mtn_roster_deltas.proofs.Ascending.{cut_of, place_by}
use Rattle.mtn_roster_deltas.proofs.ByNode.{one_node}
use Rattle.mtn_roster_deltas.proofs.Differing.{entry_is}
use Rattle.mtn_roster_deltas.proofs.Places.{among_was, contains_got, is_name, some_is, tree_names}

-- sorted numbers that differ ascend
module _ {X : Type 0} (key : X → ℕ) where
  pub steps_up : (ks : List X) → IsSortedBy (λ x y. is_lt (nat_cmp (key x) (key y))) ks → ((i j : ℕ) (d : X) → i < j → j < length ks → key (get_or ks i d) ≡ key (get_or ks j d) → ⊥) → rises nat_cmp (map key ks) ≡ true
  steps_up ks sorted apart = rising_by nat_cmp key nat_cmp_total ks (λ k d lt.
      let x = key (get_or ks k d) in
      let y = key (get_or ks (k + 1) d) in
      elim (nat_cmp x y) as (λ r. nat_cmp x y ≡ r → true ≡ is_lt r) [
        | Less ↦ λ h. refl
        | Equal ↦ λ h. absurd (apart k (k + 1) d (omega arith) lt (nat_cmp-IsAntisymmetric x y h))
        | Greater ↦ λ h. absurd (let a : nat_cmp y x ≡ Less = nat_cmp_total.antisymm y x ∙ ap ordering_reverse h in let b = ap is_lt a in let c = sorted k d (omega arith) lt in cc)
      ] refl)

-- the place of a name in a list tells the name
place_tells : (n m : NodeName) (i k : ℕ) (ms : List NodeName) → position_from (is_name n) i ms ≡ Some k → position_from (is_name m) i ms ≡ Some k → n ≡ m
place_tells n m i k [] h g = absurd cc
place_tells n m i k (x ∷ ms) h g =
    elim (same_name x n) as (λ b. same_name x n ≡ b → cond b (Some i) (position_from (is_name n) (i + 1) ms) ≡ Some k → n ≡ m) [
      | true ↦ λ a h. elim (same_name x m) as (λ c. same_name x m ≡ c → cond c (Some i) (position_from (is_name m) (i + 1) ms) ≡ Some k → n ≡ m) [
        | true ↦ λ b g. sym (same_name-is x n a) ∙ same_name-is x m b
        | false ↦ λ b g. absurd (let z = from (i + 1) m ms k g in let e : i ≡ k = some_is h in omega (arith, z, e))
      ] refl g
      | false ↦ λ a h. elim (same_name x m) as (λ c. same_name x m ≡ c → cond c (Some i) (position_from (is_name m) (i + 1) ms) ≡ Some k → n ≡ m) [
        | true ↦ λ b g. absurd (let z = from (i + 1) n ms k h in let e : i ≡ k = some_is g in omega (arith, z, e))
        | false ↦ λ b g. place_tells n m (i + 1) k ms h g
      ] refl g
    ] refl h
  where
    from : (j : ℕ) (q : NodeName) (ms : List NodeName) (l : ℕ) → position_from (is_name q) j ms ≡ Some l → j ≤ l
    from j q [] l e = absurd cc
    from j q (y ∷ ms) l e = elim (same_name y q) as (λ b. cond b (Some j) (position_from (is_name q) (j + 1) ms) ≡ Some l → j ≤ l) [
      | true ↦ λ e. let z : j ≡ l = some_is e in omega (arith, z)
      | false ↦ λ e. let z = from (j + 1) q ms l e in omega (arith, z)
    ] e

-- a number and where it comes from
module _ (known : List Entries) (next : ℕ) (t : Tree) (are : AreKnown known next) where
  abbrev at_place : NodeName → Option ℕ
  at_place n = position_from (is_name n) 0 (fresh known t)

  -- numbers are above 0
  pub number_above : (n : NodeName) (v : ℕ) → number_in known next t n ≡ Some v → 0 < v
  number_above n v h = go (number_among (all_of known) n) refl (at_place n) refl h
    where
      go : (o : Option ℕ) → number_among (all_of known) n ≡ o → (p : Option ℕ) → at_place n ≡ p → or_next next o p ≡ Some v → 0 < v
      go (Some m) e p g q = let f = among_was (all_of known) n m e in let z : m ≡ v = some_is q in omega (arith, are.from_one f.0 f.1, f.3, z)
      go None e (Some k) g q = let z : next + k ≡ v = some_is q in omega (arith, are.next_from_one, z)
      go None e None g q = absurd cc

  -- two nodes have two numbers
  pub number_tells : (n m : NodeName) (v : ℕ) → number_in known next t n ≡ Some v → number_in known next t m ≡ Some v → n ≡ m
  number_tells n m v h g = go (number_among (all_of known) n) refl (at_place n) refl h (number_among (all_of known) m) refl (at_place m) refl g
    where
      go : (o : Option ℕ) → number_among (all_of known) n ≡ o → (p : Option ℕ) → at_place n ≡ p → or_next next o p ≡ Some v →
          (q : Option ℕ) → number_among (all_of known) m ≡ q → (r : Option ℕ) → at_place m ≡ r → or_next next q r ≡ Some v → n ≡ m
      go (Some a) e p ep h (Some b) f r er g =
          let x = among_was (all_of known) n a e in
          let y = among_was (all_of known) m b f in
          let za : a ≡ v = some_is h in
          let zb : b ≡ v = some_is g in
          sym x.2 ∙ are.one_node x.0 y.0 x.1 y.1 (x.3 ∙ za ∙ sym zb ∙ sym y.3) ∙ y.2
      go (Some a) e p ep h None f (Some k) er g =
          absurd (let x = among_was (all_of known) n a e in let za : a ≡ v = some_is h in let zb : next + k ≡ v = some_is g in omega (arith, are.below x.0 x.1, x.3, za, zb))
      go (Some a) e p ep h None f None er g = absurd cc
      go None e (Some j) ep h (Some b) f r er g =
          absurd (let y = among_was (all_of known) m b f in let za : next + j ≡ v = some_is h in let zb : b ≡ v = some_is g in omega (arith, are.below y.0 y.1, y.3, za, zb))
      go None e (Some j) ep h None f (Some k) er g =
          let za : next + j ≡ v = some_is h in
          let zb : next + k ≡ v = some_is g in
          let same : k ≡ j = omega (arith, za, zb) in
          place_tells n m 0 j (fresh known t) ep (er ∙ ap Some same)
      go None e (Some j) ep h None f None er g = absurd cc
      go None e None ep h q f r er g = absurd cc

pub each_by : (P : NumberedEntry → Type 0) (xs : Entries) → ((e : NumberedEntry) → Contains xs e → P e) → AllByRecursion P xs
each_by P [] h = tt
each_by P (x ∷ xs) h = (h x (0, omega arith, refl), each_by P xs (λ e c. h e (Contains-append_right (x ∷ []) xs e c)))

-- all of what the steps made
module _ (t : MarkedTree) (ns : List ℕ) (raw new : Entries) (fits : AreFor t.tree t.marks) (sane : IsSane t.tree)
    (long : length raw ≡ length t.tree) (all : AreNumbered t ns raw) (moved : IsPermutation raw new) where
  -- what stands at a place
  at : (k : ℕ) → k < length t.tree → (n : Entry) × (m : NodeMarks) × (e : NumberedEntry) × (slice_get t.tree k ≡ Some n) × (slice_get t.marks k ≡ Some m) × (slice_get raw k ≡ Some e) × IsNumberedOf t.tree ns (get_or ns k 0) n m e
  at k lt =
      let a = taken t.tree k lt in
      let b = taken t.marks k (subst (λ l. k < l) (for_long t.tree t.marks fits) lt) in
      let c = taken raw k (subst (λ l. k < l) (sym long) lt) in
      (a.0, b.0, c.0, a.1, b.1, c.1, all.each k a.0 b.0 c.0 a.1 b.1 c.1)

  of_raw : (e : NumberedEntry) → Contains raw e → (k : ℕ) × (k < length t.tree) × (slice_get raw k ≡ Some e)
  of_raw e c =
      let g = taken raw c.0 c.1 in
      (c.0, subst (λ l. c.0 < l) long c.1, g.1 ∙ ap Some (sym (g.3 e) ∙ c.2))

  into_new : (e : NumberedEntry) → Contains raw e → Contains new e
  into_new e c = Contains-permutation raw new e moved c

  of_new : (e : NumberedEntry) → Contains new e → Contains raw e
  of_new e c = Contains-permutation new raw e (IsPermutation-sym raw new moved) c

  nodes_of_raw : (xs : Entries) (u : Tree) → length xs ≡ length u → ((k : ℕ) (n : Entry) (e : NumberedEntry) → slice_get u k ≡ Some n → slice_get xs k ≡ Some e → n.name ≡ e.node) → map node_of xs ≡ tree_names u
  nodes_of_raw [] [] l h = refl
  nodes_of_raw [] (n ∷ u) l h = absurd (omega (arith, l))
  nodes_of_raw (x ∷ xs) [] l h = absurd (omega (arith, l))
  nodes_of_raw (x ∷ xs) (n ∷ u) l h = λ i. sym (h 0 n x refl refl) i ∷ nodes_of_raw xs u (omega (arith, l)) (λ k m e p q. h (suc k) m e p q) i

  raw_nodes : map node_of raw ≡ tree_names t.tree
  raw_nodes = nodes_of_raw raw t.tree long (λ k n e p q.
      let a = at k (got_at t.tree k n p).0 in
      let sn : a.0 ≡ n = some_is (sym a.3 ∙ p) in
      let se : a.2 ≡ e = some_is (sym a.5 ∙ q) in
      ap (λ (x : Entry). x.name) (sym sn) ∙ a.6.name ∙ ap node_of se)

  raw_rises : rises name_cmp (map node_of raw) ≡ true
  raw_rises = ap (rises name_cmp) raw_nodes ∙ first_so _ _ sane.ordered

  raw_apart : IsDistinct one_node raw
  raw_apart = rising_differ name_cmp node_of names_total same_name same_name-is same_name-self exact_names raw raw_rises

  flips : (x y : NumberedEntry) → one_node x y ≡ one_node y x
  flips x y = tests (same_name x.node y.node) (same_name y.node x.node) refl refl
    where
      tests : (a b : Bool) → same_name x.node y.node ≡ a → same_name y.node x.node ≡ b → a ≡ b
      tests true true p q = refl
      tests false false p q = refl
      tests true false p q = absurd (let e = same_name-is x.node y.node p in let z = ap (same_name y.node) e ∙ same_name-self y.node in cc)
      tests false true p q = absurd (let e = same_name-is y.node x.node q in let z = ap (same_name x.node) e ∙ same_name-self x.node in cc)

  new_apart : IsDistinct one_node new
  new_apart = IsDistinct-IsPermutation one_node flips raw new moved raw_apart

  by_node_is : by_node new ≡ raw
  by_node_is =
      sym (sorted_is name_cmp node_of names_total same_name same_name-is same_name-self exact_names new raw (IsPermutation-sym raw new moved) new_apart raw_rises)

  zipped : (xs : Entries) (u : Tree) → length xs ≡ length u → ((k : ℕ) (n : Entry) (e : NumberedEntry) → slice_get u k ≡ Some n → slice_get xs k ≡ Some e → IsEntryOf new e n) → AllZip (IsEntryOf new) xs u
  zipped [] [] l h = tt
  zipped [] (n ∷ u) l h = absurd (omega (arith, l))
  zipped (x ∷ xs) [] l h = absurd (omega (arith, l))
  zipped (x ∷ xs) (n ∷ u) l h = (h 0 n x refl refl, zipped xs u (omega (arith, l)) (λ k m e p q. h (suc k) m e p q))

  marks_are : (xs : Entries) (ms : List NodeMarks) → length xs ≡ length ms → ((k : ℕ) (m : NodeMarks) (e : NumberedEntry) → slice_get ms k ≡ Some m → slice_get xs k ≡ Some e → m ≡ marks_of e) → ms ≡ map marks_of xs
  marks_are [] [] l h = refl
  marks_are [] (m ∷ ms) l h = absurd (omega (arith, l))
  marks_are (x ∷ xs) [] l h = absurd (omega (arith, l))
  marks_are (x ∷ xs) (m ∷ ms) l h = λ i. h 0 m x refl refl i ∷ marks_are xs ms (omega (arith, l)) (λ k n e p q. h (suc k) n e p q) i

  -- numbers in order tell the nodes apart
  module _ (up : ascend new ≡ true) (one : AllByRecursion (λ (e : NumberedEntry). 0 < e.number) new) where
    -- the parent's number leads to its entry
    slot_is : (e : NumberedEntry) (s : Slot) → ((parent : NodeName) (name : List ℕ) → s ≡ Below parent name → (d : Entry) × (entry_of t.tree parent ≡ Some d)) → IsNumberedSlot t.tree ns s e.parent e.name → IsSlotOf new e s
    slot_is e Root there h = h
    slot_is e (Below parent name) parents h =
        let d = parents parent name refl in
        let f = found (λ (x : Entry). same_name x.name parent) t.tree d.0 d.1 in
        let c = place_by t.tree d.0 f.at in
        let g = taken t.tree c.0 c.1 in
        let is : slice_get t.tree c.0 ≡ Some d.0 = g.1 ∙ ap Some (sym (g.3 d.0) ∙ c.2) in
        let named : d.0.name ≡ parent = same_name-is d.0.name parent f.passes in
        let a = at c.0 c.1 in
        let dn : a.0 ≡ d.0 = some_is (sym a.3 ∙ is) in
        let num : e.parent ≡ get_or ns c.0 0 = h.0 c.0 d.0 is named in
        let there : Contains new a.2 = into_new a.2 (contains_got raw c.0 a.2 a.5) in
        let above : 0 < a.2.number = rec_at (λ (x : NumberedEntry). 0 < x.number) new a.2 one (cut_of new a.2 there) in
        let got : entry_at new e.parent ≡ Some a.2 = entry_is new up e.parent a.2 there (a.6.number_is ∙ sym num) in (
          omega (arith, above, a.6.number_is, num),
          ap (option_map node_of) got ∙ ap Some (sym a.6.name ∙ ap (λ (x : Entry). x.name) dn ∙ named),
          h.1,
          h.2,
        )

    entry_told : (k : ℕ) (n : Entry) (e : NumberedEntry) → slice_get t.tree k ≡ Some n → slice_get raw k ≡ Some e → IsEntryOf new e n
    entry_told k n e p q =
        let a = at k (got_at t.tree k n p).0 in
        let sn : a.0 ≡ n = some_is (sym a.3 ∙ p) in
        let se : a.2 ≡ e = some_is (sym a.5 ∙ q) in
        let own : IsEntryOf new a.2 a.0 = record {
          name = a.6.name;
          slot = slot_is a.2 a.0.slot (λ parent name is. let r = sane.sane.parents a.0.name parent a.0 name (own_entry a.0 (contains_got t.tree k a.0 a.3)) is in (r.0, r.1)) a.6.slot;
          body = a.6.body;
          attrs = a.6.attrs;
        } in
        subst (λ (x : Entry). IsEntryOf new e x) sn (subst (λ (x : NumberedEntry). IsEntryOf new x a.0) se own)
      where
        own_entry : (d : Entry) → Contains t.tree d → entry_of t.tree d.name ≡ Some d
        own_entry d c = distinct_of t.tree (first_so _ _ sane.ordered) d (cut_of t.tree d c)

    pub spelled : Spells new t
    spelled = record {
      ascending = up;
      from_one = one;
      apart = new_apart;
      tree = subst (λ xs. AllZip (IsEntryOf new) xs t.tree) (sym by_node_is) (zipped raw t.tree long entry_told);
      marks = marks_are raw t.marks (long ∙ for_long t.tree t.marks fits) (λ k m e p q.
          let a = at k (subst (λ l. k < l) (sym (for_long t.tree t.marks fits)) (got_at t.marks k m p).0) in
          let sm : a.1 ≡ m = some_is (sym a.4 ∙ p) in
          let se : a.2 ≡ e = some_is (sym a.5 ∙ q) in
          sym sm ∙ a.6.marks ∙ ap marks_of se) ∙ ap (map marks_of) (sym by_node_is);
      sane = sane;
    }

  -- known numbers and the next ones
  module _ (known : List Entries) (next : ℕ) (have : HaveNumbers known next t.tree ns) where
    numbered : (e : NumberedEntry) → Contains raw e → number_in known next t.tree e.node ≡ Some e.number
    numbered e c =
        let k = of_raw e c in
        let a = at k.0 k.1 in
        let same : a.2 ≡ e = some_is (sym a.5 ∙ k.2) in
        subst (λ (x : NumberedEntry). number_in known next t.tree x.node ≡ Some x.number) same
        (ap (number_in known next t.tree) (sym a.6.name) ∙ have.each k.0 a.0 a.3 ∙ ap Some (sym a.6.number_is))

    pub assigned : Spells new t → IsNumbering known next t new
    assigned spells = record {
      spells = spells;
      numbers = each_by (λ (e : NumberedEntry). number_in known next t.tree e.node ≡ Some e.number) new (λ e c. numbered e (of_new e c));
    }

    module _ (are : AreKnown known next) (sorted : IsSortedBy (λ x y. is_lt (nat_cmp x.number y.number)) new) where
      up : ascend new ≡ true
      up = steps_up number_of new sorted (λ i j d lt low same.
          let x = taken new i (omega arith) in
          let y = taken new j low in
          let cx = contains_got new i x.0 x.1 in
          let cy = contains_got new j y.0 y.1 in
          let nx = numbered x.0 (of_new x.0 cx) in
          let ny = numbered y.0 (of_new y.0 cy) in
          let eq : x.0.number ≡ y.0.number = ap number_of (sym (x.3 d)) ∙ same ∙ ap number_of (y.3 d) in
          let node : x.0.node ≡ y.0.node = number_tells known next t.tree are x.0.node y.0.node x.0.number nx (ny ∙ ap Some (sym eq)) in
          apart_at new i j x.0 y.0 new_apart lt low x.1 y.1 node)
        where
          apart_at : (xs : Entries) (i j : ℕ) (x y : NumberedEntry) → IsDistinct one_node xs → i < j → j < length xs → slice_get xs i ≡ Some x → slice_get xs j ≡ Some y → x.node ≡ y.node → ⊥
          apart_at xs i j x y d lt low p q same =
              let gx = got_at xs i x p in
              let gy = got_at xs j y q in
              let z : one_node (get_or xs i x) (get_or xs j x) ≡ false = apart_from_distinct one_node xs i j x d lt low in
              let gy' : y ≡ get_or xs j x = gy.1 ∙ any_default xs j y x low in
              let w : one_node x y ≡ false = (λ k. one_node (gx.1 k) (gy' k)) ∙ z in
              let v = ap (same_name x.node) (sym same) ∙ same_name-self x.node in cc

      pub in_order : (ascend new ≡ true) × AllByRecursion (λ (e : NumberedEntry). 0 < e.number) new
      in_order = (up, each_by (λ (e : NumberedEntry). 0 < e.number) new (λ e c. number_above known next t.tree are e.node e.number (numbered e (of_new e c))))
