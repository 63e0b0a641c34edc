-- Known numbers with those of one more tree, and numbers among more lists.
use Rattle.std.specs.Prelude.{map, filter, not, is_some, option_map, Contains, IsSome}
use Rattle.std.specs.List.{AllZip, position_from}
use Rattle.std.specs.FinMap.Entries.{by_order}
use Rattle.std.specs.declared.cmp.Ordering.{Ordering}
use Rattle.std.specs.declared.cmp.Ordering.TheVariants.{Less, Equal, Greater}
use Rattle.std.proofs.Common.{◌≡◌, ℕ, suc, ◌+◌, ◌<◌, ◌≤◌, Bool, true, false, cond, List, [], ◌∷◌, ◌++◌, length, Option, Some, None, refl, sym, ◌∙◌, ap, subst, arith, inl, inr, append-nil}
use Rattle.std.proofs.lemmas.Grind.{flat_map-append}
use Rattle.std.proofs.lemmas.List.Elements.{All-from_recursion, All-contains, Contains-append_left, Contains-append_right, Contains-append_cases}
use Rattle.mtn_base.specs.Names.{name_cmp, path_cmp, same_name}
use Rattle.mtn_base.specs.declared.name.NodeName.{NodeName}
use Rattle.mtn_marking.specs.Marking.{MarkedTree}
use Rattle.mtn_records.specs.declared.entry.NumberedEntry.{NumberedEntry}
use Rattle.mtn_roster.specs.declared.entry.Entry.{Entry}
use Rattle.mtn_roster.specs.Tree.{Tree, entry_of, path_of}
use Rattle.mtn_base.specs.Lists.{placed, ordered}
use Rattle.mtn_roster.specs.Walk.{by_path}
use Rattle.mtn_base.proofs.Finding.{found, finds_some}
use Rattle.mtn_base.proofs.Orders.{names_total, exact_names, paths_total}
use Rattle.mtn_base.proofs.Sorting.{in_ordered, of_ordered, long_map}
use Rattle.mtn_base.proofs.Tests.{same_name-is, same_name-self}
use Rattle.mtn_roster_deltas.specs.Chain.{Entries, number_of}
use Rattle.mtn_roster_deltas.specs.Spelled.{IsEntryOf, Spells, by_node, node_of}
use Rattle.mtn_roster_deltas.specs.Numbering.{all_of, fresh, number_among, number_in, or_next, AreKnown, IsNumbering}
use Rattle.mtn_roster_deltas.proofs.Ascending.{cut_of, place_by}
use Rattle.mtn_roster_deltas.proofs.Assigning.{each_by, number_above, number_tells}
use Rattle.mtn_roster_deltas.proofs.Places.{among_was, contains_cons, is_name, some_is, tree_names}

pub none_known : AreKnown [] 1
none_known = record {
  next_from_one = omega arith;
  from_one = λ e c. absurd (omega (arith, c.1));
  below = λ e c. absurd (omega (arith, c.1));
  one_number = λ e f c d same. absurd (omega (arith, c.1));
  one_node = λ e f c d same. absurd (omega (arith, c.1));
}

-- an entry of one of the lists
pub in_all : (known : List Entries) (es : Entries) (e : NumberedEntry) → Contains known es → Contains es e → Contains (all_of known) e
in_all [] es e c d = absurd (omega (arith, c.1))
in_all (xs ∷ known) es e c d = elim (contains_cons xs known es c) [
  | inl is ↦ Contains-append_left xs (all_of known) e (subst (λ l. Contains l e) (sym is) d)
  | inr t ↦ Contains-append_right xs (all_of known) e (in_all known es e t d)
]

-- an entry's number is that of its node, where each node has one
pub among_is : (es : Entries) → ((e f : NumberedEntry) → Contains es e → Contains es f → e.node ≡ f.node → e.number ≡ f.number) → (e : NumberedEntry) → Contains es e → number_among es e.node ≡ Some e.number
among_is es one e c =
    let test = λ (f : NumberedEntry). same_name f.node e.node in
    let s = finds_some test es e (cut_of es e c) (same_name-self e.node) in
    let f = found test es s.0 s.1 in
    ap (option_map number_of) s.1 ∙ ap Some (one s.0 e (place_by es s.0 f.at) c (same_name-is s.0.node e.node f.passes))

pub known_is : (known : List Entries) (next : ℕ) (es : Entries) (e : NumberedEntry) (n : NodeName) → AreKnown known next → Contains known es → Contains es e → e.node ≡ n → number_among (all_of known) n ≡ Some e.number
known_is known next es e n are c d is = ap (number_among (all_of known)) (sym is) ∙ among_is (all_of known) are.one_number e (in_all known es e c d)

place_within : (n : NodeName) (i : ℕ) (ms : List NodeName) (k : ℕ) → position_from (is_name n) i ms ≡ Some k → k < i + length ms
place_within n i [] k h = absurd cc
place_within n i (m ∷ ms) k h =
    elim (same_name m n) as (λ b. cond b (Some i) (position_from (is_name n) (i + 1) ms) ≡ Some k → k < i + suc (length ms)) [
      | true ↦ λ g. let z : i ≡ k = some_is g in omega (arith, z)
      | false ↦ λ g. omega (arith, place_within n (i + 1) ms k g)
    ] h

module _ (known : List Entries) (next : ℕ) (t : MarkedTree) (new : Entries) (are : AreKnown known next) (is : IsNumbering known next t new) where
  below_next : (n : NodeName) (v : ℕ) → number_in known next t.tree n ≡ Some v → v < next + length (fresh known t.tree)
  below_next n v h = go (number_among (all_of known) n) refl (position_from (is_name n) 0 (fresh known t.tree)) refl h
    where
      go : (o : Option ℕ) → number_among (all_of known) n ≡ o → (p : Option ℕ) → position_from (is_name n) 0 (fresh known t.tree) ≡ p → or_next next o p ≡ Some v → v < next + length (fresh known t.tree)
      go (Some m) e p g q = let f = among_was (all_of known) n m e in let z : m ≡ v = some_is q in omega (arith, are.below f.0 f.1, f.3, z)
      go None e (Some k) g q = let z : next + k ≡ v = some_is q in omega (arith, place_within n 0 (fresh known t.tree) k g, z)
      go None e None g q = absurd cc

  more : all_of (known ++ new ∷ []) ≡ all_of known ++ new
  more = flat_map-append (λ (es : Entries). es) known (new ∷ []) ∙ ap (λ l. all_of known ++ l) (append-nil new)

  own : (e : NumberedEntry) → Contains (all_of (known ++ new ∷ [])) e → number_in known next t.tree e.node ≡ Some e.number
  own e c = elim (Contains-append_cases (all_of known) new e (subst (λ l. Contains l e) more c)) [
    | inl a ↦ ap (λ o. or_next next o (position_from (is_name e.node) 0 (fresh known t.tree))) (among_is (all_of known) are.one_number e a)
    | inr b ↦ let each = λ (f : NumberedEntry). number_in known next t.tree f.node ≡ Some f.number in All-contains each new e (All-from_recursion each new is.numbers) b
  ]

  pub all_known : AreKnown (known ++ new ∷ []) (next + length (fresh known t.tree))
  all_known = record {
    next_from_one = omega (arith, are.next_from_one);
    from_one = λ e c. number_above known next t.tree are e.node e.number (own e c);
    below = λ e c. below_next e.node e.number (own e c);
    one_number = λ e f c d same. some_is (sym (own e c) ∙ ap (number_in known next t.tree) same ∙ own f d);
    one_node = λ e f c d same. number_tells known next t.tree are e.node f.node e.number (own e c) (own f d ∙ ap Some (sym same));
  }

-- what stands beside an element
module _ {A B : Type 0} (R : A → B → Type 0) where
  pub beside : (xs : List A) (ys : List B) → AllZip R xs ys → (x : A) → Contains xs x → (y : B) × Contains ys y × R x y
  beside [] ys z x c = absurd (omega (arith, c.1))
  beside (a ∷ xs) [] z x c = absurd z
  beside (a ∷ xs) (b ∷ ys) z x c = elim (contains_cons a xs x c) [
    | inl e ↦ (b, (0, omega arith, refl), subst (λ w. R w b) e z.0)
    | inr t ↦ let r = beside xs ys z.1 x t in (r.0, Contains-append_right (b ∷ []) ys r.0 r.1, r.2)
  ]

  beside_back : (xs : List A) (ys : List B) → AllZip R xs ys → (y : B) → Contains ys y → (x : A) × Contains xs x × R x y
  beside_back xs [] z y c = absurd (omega (arith, c.1))
  beside_back [] (b ∷ ys) z y c = absurd z
  beside_back (a ∷ xs) (b ∷ ys) z y c = elim (contains_cons b ys y c) [
    | inl e ↦ (a, (0, omega arith, refl), subst (R a) e z.0)
    | inr t ↦ let r = beside_back xs ys z.1 y t in (r.0, Contains-append_right (a ∷ []) xs r.0 r.1, r.2)
  ]

some_of : {X : Type 0} (o : Option X) → IsSome o → (x : X) × (o ≡ Some x)
some_of None h = absurd cc
some_of (Some x) h = (x, refl)

pub entry_there : (t : Tree) (e : Entry) → Contains t e → IsSome (entry_of t e.name)
entry_there t e c = ap is_some (finds_some (λ (x : Entry). same_name x.name e.name) t e (cut_of t e c) (same_name-self e.name)).1

-- a tree has the nodes of the entries that spell it
module _ (es : Entries) (t : MarkedTree) (s : Spells es t) where
  pub spelled_there : (e : NumberedEntry) → Contains es e → IsSome (entry_of t.tree e.node)
  spelled_there e c =
      let there = place_by (by_node es) e (in_ordered name_cmp node_of names_total same_name same_name-is same_name-self exact_names es s.apart e (cut_of es e c)) in
      let b = beside (IsEntryOf es) (by_node es) t.tree s.tree e there in
      subst (λ n. IsSome (entry_of t.tree n)) b.2.name (entry_there t.tree b.0 b.1)

  -- and no others
  pub there_spelled : (n : NodeName) → IsSome (entry_of t.tree n) → (e : NumberedEntry) × Contains es e × (e.node ≡ n)
  there_spelled n h =
      let x = some_of (entry_of t.tree n) h in
      let f = found (λ (e : Entry). same_name e.name n) t.tree x.0 x.1 in
      let b = beside_back (IsEntryOf es) (by_node es) t.tree s.tree x.0 (place_by t.tree x.0 f.at) in
      (b.0, place_by es b.0 (of_ordered name_cmp node_of names_total es b.0 (cut_of (by_node es) b.0 b.1)), sym b.2.name ∙ same_name-is x.0.name n f.passes)

  -- known lists with these entries have a number for each node
  pub has_known : (known : List Entries) → Contains known es → (n : NodeName) → IsSome (entry_of t.tree n) → IsSome (number_among (all_of known) n)
  has_known known c n h =
      let e = there_spelled n h in
      let test = λ (f : NumberedEntry). same_name f.node n in
      ap (λ o. is_some (option_map number_of o)) (finds_some test (all_of known) e.0 (cut_of (all_of known) e.0 (in_all known es e.0 c e.1)) (ap (λ m. same_name m n) e.2 ∙ same_name-self n)).1

filter_same : {X Y : Type 0} (p q : Y → Bool) (f : X → Y) (xs : List X) → ((x : X) → Contains xs x → p (f x) ≡ q (f x)) → filter p (map f xs) ≡ filter q (map f xs)
filter_same p q f [] same = refl
filter_same p q f (x ∷ xs) same =
    let rest = filter_same p q f xs (λ y c. same y (Contains-append_right (x ∷ []) xs y c)) in
    λ i. cond (same x (0, omega arith, refl) i) (f x ∷ rest i) (rest i)

-- lists that have the same numbers for the nodes of a tree
module _ (known all : List Entries) (t : Tree) (same : (n : NodeName) → IsSome (entry_of t n) → number_among (all_of known) n ≡ number_among (all_of all) n) where
  pub same_fresh : fresh known t ≡ fresh all t
  same_fresh = filter_same (λ n. not (is_some (number_among (all_of known) n))) (λ n. not (is_some (number_among (all_of all) n))) (λ (e : Entry). e.name) (by_path t) (λ e c.
      ap (λ o. not (is_some o)) (same e.name (entry_there t e (place_by t e (of_ordered path_cmp (path_of t) paths_total t e (cut_of (by_path t) e c))))))

  pub same_number : (next : ℕ) (n : NodeName) → IsSome (entry_of t n) → number_in known next t n ≡ number_in all next t n
  same_number next n there = λ i. or_next next (same n there i) (position_from (is_name n) 0 (same_fresh i))

pub numbering_over : (known all : List Entries) (next : ℕ) (t : MarkedTree) (new : Entries) → ((n : NodeName) → IsSome (entry_of t.tree n) → number_among (all_of known) n ≡ number_among (all_of all) n) →
    IsNumbering known next t new → IsNumbering all next t new
numbering_over known all next t new same is =
    let each = λ (e : NumberedEntry). number_in known next t.tree e.node ≡ Some e.number in
    record {
      spells = is.spells;
      numbers = each_by (λ (e : NumberedEntry). number_in all next t.tree e.node ≡ Some e.number) new (λ e c.
          sym (same_number known all t.tree same next e.node (spelled_there new t is.spells e c)) ∙ All-contains each new e (All-from_recursion each new is.numbers) c);
    }

-- how many are fresh at most
filter_long : {X : Type 0} (test : X → Bool) (xs : List X) → length (filter test xs) ≤ length xs
filter_long test [] = omega arith
filter_long test (x ∷ xs) = elim (test x) as (λ b. length (cond b (x ∷ filter test xs) (filter test xs)) ≤ suc (length xs)) [
  | true ↦ omega (arith, filter_long test xs)
  | false ↦ omega (arith, filter_long test xs)
]

module _ {X K : Type 0} (cmp : K → K → Ordering) (key : X → K) where
  placed_long : (x : X) (xs : List X) → length (placed cmp key x xs) ≤ suc (length xs)
  placed_long x [] = omega arith
  placed_long x (y ∷ ys) = elim (cmp (key x) (key y)) as (λ r. length (by_order r (x ∷ y ∷ ys) (x ∷ ys) (y ∷ placed cmp key x ys)) ≤ suc (suc (length ys))) [
    | Less ↦ omega arith
    | Equal ↦ omega arith
    | Greater ↦ omega (arith, placed_long x ys)
  ]

  ordered_long : (xs : List X) → length (ordered cmp key xs) ≤ length xs
  ordered_long [] = omega arith
  ordered_long (x ∷ xs) = omega (arith, placed_long x (ordered cmp key xs), ordered_long xs)

pub walk_long : (t : Tree) → length (by_path t) ≤ length t
walk_long t = ordered_long path_cmp (path_of t) t

pub fresh_long : (known : List Entries) (t : Tree) → length (fresh known t) ≤ length t
fresh_long known t =
    omega (arith, filter_long (λ n. not (is_some (number_among (all_of known) n))) (tree_names (by_path t)), long_map (λ (e : Entry). e.name) (by_path t), ordered_long path_cmp (path_of t) t)
