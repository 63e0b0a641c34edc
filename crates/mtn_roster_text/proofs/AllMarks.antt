-- The positions of all marks are those of the marks of each scalar.
use Rattle.std.specs.Prelude.{Contains, find, map, option_and_then, option_map, slice_get, unwrap_or}
use Rattle.std.specs.List.{flat_map}
use Rattle.std.specs.List.Retain.{IsFiltered, DiffersFromLast}
use Rattle.std.specs.List.Sorted.{IsPermutation, IsSorted, IsStrictlyIncreasing}
use Rattle.std.specs.Ordering.{nat_cmp}
use Rattle.std.proofs.Common.{◌≡◌, ◌↔◌, inl, inr, ℕ, ◌<◌, true, List, [], ◌∷◌, Option, Some, None, eqb, refl, sym, ap, ◌∙◌, subst}
use Rattle.std.proofs.lemmas.List.Filters.{dedup_is}
use Rattle.std.proofs.lemmas.List.Kept.{Contains-dedup_nat, Contains-from_dedup}
use Rattle.std.proofs.lemmas.List.Sorted.{Contains-permutation, IsPermutation-sym}
use Rattle.std.proofs.lemmas.Map.Keys.{IsStrictlyIncreasing-dedup}
use Rattle.mtn_base.specs.Names.{bytes_cmp, name_cmp, same_bytes, same_name}
use Rattle.mtn_base.specs.declared.name.NodeName.{NodeName}
use Rattle.mtn_history_laws.specs.Scalars.{Scalar, node_of}
use Rattle.mtn_history_laws.specs.Scalars.Scalar.{SlotOf, ContentOf, AttrOf}
use Rattle.mtn_base.proofs.IdOrder.{contains_split, split_contains}
use Rattle.mtn_marking.specs.Marking.{Marks, AreFor, IsFor, attr_marks_of, marking_of, marks_of}
use Rattle.mtn_marking.specs.declared.node.AttrMarks.{AttrMarks}
use Rattle.mtn_marking.specs.declared.node.Marking.{Marking}
use Rattle.mtn_marking.specs.declared.node.NodeMarks.{NodeMarks}
use Rattle.mtn_marking.proofs.ByName.{name_of}
use Rattle.mtn_marking.proofs.Keyed.{found_there}
use Rattle.mtn_marking.proofs.Telling.{key_in}
use Rattle.mtn_roster.specs.Tree.{Tree, IsSane}
use Rattle.mtn_base.specs.Lists.{rises}
use Rattle.mtn_marking.proofs.Fitting.{for_long}
use Rattle.mtn_roster.proofs.Along.{got}
use Rattle.mtn_base.proofs.Finding.{Split, found, later}
use Rattle.mtn_base.proofs.Orders.{bytes_total, exact_bytes}
use Rattle.mtn_base.proofs.Members.{head, in_left, in_right, of_append, place_of, split_cons, taken}
use Rattle.mtn_roster.proofs.Ordered.{forest_of}
use Rattle.mtn_base.proofs.Sorting.{no_split}
use Rattle.mtn_base.proofs.Tests.{same_bytes-is, same_bytes-self}
use Rattle.mtn_roster_text.specs.Positions.{IsMarkIn, all_positions, positions_of}
use Rattle.mtn_roster_text.proofs.Walked.{keys_rise, marked_there, marking_at}

module _ {X Y : Type 0} (f : X → List Y) where
  of_flat_map : (xs : List X) (y : Y) → Split (flat_map f xs) y → (x : X) × Split xs x × Split (f x) y
  of_flat_map [] y s = absurd (no_split y s)
  of_flat_map (x ∷ xs) y s = elim (of_append (f x) (flat_map f xs) y s) [
    | inl a ↦ (x, head x xs, a)
    | inr b ↦ let r = of_flat_map xs y b in (r.0, later x xs r.0 r.1, r.2)
  ]

  in_flat_map : (xs : List X) (x : X) (y : Y) → Split xs x → Split (f x) y → Split (flat_map f xs) y
  in_flat_map [] x y at s = absurd (no_split x at)
  in_flat_map (z ∷ xs) x y at s = elim (split_cons z xs x at) [
    | inl e ↦ in_left (f z) (flat_map f xs) y (subst (λ w. Split (f w) y) (sym e) s)
    | inr t ↦ in_right (f z) (flat_map f xs) y (in_flat_map xs x y t s)
  ]

-- a set that is there
set_there : (o : Option (List ℕ)) (x : ℕ) → Split (unwrap_or o []) x → (set : List ℕ) × (o ≡ Some set) × Split set x
set_there None x s = absurd (no_split x s)
set_there (Some set) x s = (set, refl, s)

of_map : {A B : Type 0} (f : A → B) (o : Option A) (b : B) → option_map f o ≡ Some b → (a : A) × (o ≡ Some a) × (f a ≡ b)
of_map f None b h = absurd cc
of_map f (Some a) b h = (a, refl, cc)

of_then : {A B : Type 0} (f : A → Option B) (o : Option A) (b : B) → option_and_then f o ≡ Some b → (a : A) × (o ≡ Some a) × (f a ≡ Some b)
of_then f None b h = absurd cc
of_then f (Some a) b h = (a, refl, h)

node_found : (ms : Marks) (n : NodeName) (m : Marking) → marking_of ms n ≡ Some m → (x : NodeMarks) × Split ms x × (x.marking ≡ m)
node_found ms n m h =
    let r = of_map (λ (x : NodeMarks). x.marking) (find (λ (x : NodeMarks). same_name x.name n) ms) m h in
    (r.0, (found (λ (x : NodeMarks). same_name x.name n) ms r.0 r.1).at, r.2)

attr_found : (attrs : List AttrMarks) (k set : List ℕ) → attr_marks_of attrs k ≡ Some set → (a : AttrMarks) × Split attrs a × (a.marks ≡ set)
attr_found attrs k set h =
    let r = of_map (λ (a : AttrMarks). a.marks) (find (λ (a : AttrMarks). same_bytes a.key k) attrs) set h in
    (r.0, (found (λ (a : AttrMarks). same_bytes a.key k) attrs r.0 r.1).at, r.2)

-- the marks of a key that stands there
keyed_marks : (attrs : List AttrMarks) → rises bytes_cmp (map key_in attrs) ≡ true → (a : AttrMarks) → Split attrs a → attr_marks_of attrs a.key ≡ Some a.marks
keyed_marks attrs up a s =
    let q = place_of attrs a s in
    ap (option_map (λ (m : AttrMarks). m.marks)) (found_there bytes_cmp key_in same_bytes bytes_total same_bytes-is same_bytes-self exact_bytes attrs up q.0 a (got attrs q.0 a q.1 (sym (q.2 a))))

module _ (ms : Marks) where
  -- the marks of a node are those of its scalars
  of_node : (m : NodeMarks) → marking_of ms m.name ≡ Some m.marking → rises bytes_cmp (map key_in m.marking.attrs) ≡ true → (x : ℕ) → Split (positions_of m.marking) x → IsMarkIn ms x
  of_node m is up x s = elim (of_append m.marking.slot _ x s) [
    | inl a ↦ (SlotOf m.name, m.marking.slot, ap (option_and_then (marks_of (SlotOf m.name))) is, split_contains m.marking.slot x a)
    | inr b ↦ elim (of_append (unwrap_or m.marking.content []) _ x b) [
      | inl c ↦ let t = set_there m.marking.content x c in (ContentOf m.name, t.0, ap (option_and_then (marks_of (ContentOf m.name))) is ∙ t.1, split_contains t.0 x t.2)
      | inr d ↦ let a = of_flat_map (λ (a : AttrMarks). a.marks) m.marking.attrs x d in
          (AttrOf m.name a.0.key, a.0.marks, ap (option_and_then (marks_of (AttrOf m.name a.0.key))) is ∙ keyed_marks m.marking.attrs up a.0 a.1, split_contains a.0.marks x a.2)
    ]
  ]

  in_node : (s : Scalar) (m : Marking) (set : List ℕ) (x : ℕ) → marks_of s m ≡ Some set → Split set x → Split (positions_of m) x
  in_node (SlotOf n) m set x is at = in_left m.slot _ x (let same : set ≡ m.slot = cc in subst (λ l. Split l x) same at)
  in_node (ContentOf n) m set x is at = in_right m.slot _ x (in_left (unwrap_or m.content []) _ x (subst (λ (o : Option (List ℕ)). Split (unwrap_or o []) x) (sym is) at))
  in_node (AttrOf n k) m set x is at =
      let a = attr_found m.attrs k set is in
      in_right m.slot _ x (in_right (unwrap_or m.content []) _ x (in_flat_map (λ (a : AttrMarks). a.marks) m.attrs a.0 x a.1 (subst (λ l. Split l x) (sym a.2) at)))

  pub each_marked : ((m : NodeMarks) → Split ms m → (marking_of ms m.name ≡ Some m.marking) × (rises bytes_cmp (map key_in m.marking.attrs) ≡ true)) → (x : ℕ) → Contains (all_positions ms) x ↔ IsMarkIn ms x
  each_marked each x = (
    λ c.
        let a = of_flat_map (λ (n : NodeMarks). positions_of n.marking) ms x (contains_split (all_positions ms) x c) in
        let e = each a.0 a.1 in
        of_node a.0 e.0 e.1 x a.2,
    λ m.
        let n = of_then (marks_of m.0) (marking_of ms (node_of m.0)) m.1 m.2 in
        let at = node_found ms (node_of m.0) n.0 n.1 in
        split_contains (all_positions ms) x (in_flat_map (λ (n : NodeMarks). positions_of n.marking) ms at.0 x at.1
        (subst (λ (k : Marking). Split (positions_of k) x) (sym at.2) (in_node m.0 n.0 m.1 x n.2 (contains_split m.1 x m.3)))),
  )

-- each node of the marks is one of the tree
pub all_marks : (t : Tree) (ms : Marks) → IsSane t → AreFor t ms → rises name_cmp (map name_of ms) ≡ true → (x : ℕ) → Contains (all_positions ms) x ↔ IsMarkIn ms x
all_marks t ms sane are up = each_marked ms each
  where
    each : (m : NodeMarks) → Split ms m → (marking_of ms m.name ≡ Some m.marking) × (rises bytes_cmp (map key_in m.marking.attrs) ≡ true)
    each m s =
        let q = place_of ms m s in
        let at : slice_get ms q.0 ≡ Some m = got ms q.0 m q.1 (sym (q.2 m)) in
        let e = taken t q.0 (subst (λ n. q.0 < n) (sym (for_long t ms are)) q.1) in
        let there = marked_there t ms are q.0 e.0 e.1 in
        let same : there.0 ≡ m = (let both = sym there.1 ∙ at in cc) in
        (marking_at ms up q.0 m at m.name refl, keys_rise t sane e.0 m ((forest_of t sane).distinct e.0 e.2) (subst (IsFor e.0) same there.2))

-- they are sorted, and what repeats is taken out
pub once_each : (found sorted once : List ℕ) → IsPermutation found sorted → IsSorted nat_cmp sorted → IsFiltered (DiffersFromLast eqb) [] sorted once → IsStrictlyIncreasing once × ((x : ℕ) → Contains once x ↔ Contains found x)
once_each found sorted once moved up kept =
    let is = dedup_is eqb sorted once kept in (
      subst IsStrictlyIncreasing (sym is) (IsStrictlyIncreasing-dedup sorted up),
      λ x. (
        λ c. Contains-permutation sorted found x (IsPermutation-sym found sorted moved) (Contains-from_dedup eqb sorted x (subst (λ l. Contains l x) is c)),
        λ c. subst (λ l. Contains l x) (sym is) (Contains-dedup_nat sorted x (Contains-permutation found sorted x moved c)),
      ),
    )
