-- What entries spell.
use Rattle.std.specs.Prelude.{map, not, is_some}
use Rattle.std.specs.List.{list_all, AllByRecursion, AllZip, IsDistinct}
use Rattle.std.specs.Cmp.{first_so, second_so}
use Rattle.std.proofs.Common.{◌≡◌, ℕ, zero, suc, ◌<◌, Bool, true, Bor, List, [], ◌∷◌, length, get_or, Some, refl, sym, ◌∙◌, ap, subst, arith}
use Rattle.mtn_base.specs.Names.{bytes_cmp, name_cmp, same_bytes, same_name}
use Rattle.mtn_base.specs.declared.name.NodeName.{NodeName}
use Rattle.mtn_marking.specs.Marking.{MarkedTree, AreFor}
use Rattle.mtn_marking.specs.declared.node.NodeMarks.{NodeMarks}
use Rattle.mtn_marking.proofs.Telling.{key_in, key_of}
use Rattle.mtn_records.specs.declared.entry.NumberedAttr.{NumberedAttr}
use Rattle.mtn_records.specs.declared.entry.NumberedBody.{NumberedBody}
use Rattle.mtn_records.specs.declared.entry.NumberedBody.TheVariants as numbered
use Rattle.mtn_records.specs.declared.entry.NumberedEntry.{NumberedEntry}
use Rattle.mtn_roster.specs.declared.entry.Body.{Body}
use Rattle.mtn_roster.specs.declared.entry.Entry.{Entry}
use Rattle.mtn_roster.specs.declared.entry.Slot.{Slot}
use Rattle.mtn_roster.specs.declared.entry.Slot.TheVariants.{Root, Below}
use Rattle.mtn_base.specs.Lists.{rises, ordered}
use Rattle.mtn_roster.specs.Tree.{entry_of, is_dir_body, IsSane, IsSaneMap}
use Rattle.mtn_roster.specs.Building.{IsBuildable, KeysDiffer, tree_of, with_keys_in_order}
use Rattle.mtn_roster.proofs.Building.{made_sane}
use Rattle.mtn_base.proofs.Orders.{bytes_total, exact_bytes, names_total, exact_names}
use Rattle.mtn_base.proofs.Sorting.{rising_differ}
use Rattle.mtn_base.proofs.Tests.{both_true, same_name-is, same_name-self, same_bytes-is, same_bytes-self}
use Rattle.mtn_roster_deltas.specs.Chain.{Entries, ascend}
use Rattle.mtn_roster_deltas.specs.Parts.{numbered_key, IsKeyedEntryOf}
use Rattle.mtn_roster_deltas.specs.Spelled.{IsSlotOf, IsEntryOf, Spells, attr_of, attr_marks_of, body_of, content_marks_of, by_node, marks_of, node_of}
use Rattle.mtn_roster_deltas.proofs.ByNode.{ordered_rising, by_node_rises, one_node, seen}

abbrev name_of : Entry → NodeName
name_of n = n.name

pub one_slot : (es : Entries) (e : NumberedEntry) (s r : Slot) → IsSlotOf es e s → IsSlotOf es e r → s ≡ r
one_slot es e Root Root a b = refl
one_slot es e Root (Below parent name) a b = absurd (omega (arith, a.0, b.0))
one_slot es e (Below parent name) Root a b = absurd (omega (arith, a.0, b.0))
one_slot es e (Below parent name) (Below above as_name) a b =
    let up : Some parent ≡ Some above = sym a.1 ∙ b.1 in
    let same : parent ≡ above = cc in
    λ i. Below (same i) ((sym a.2 ∙ b.2) i)

pub one_entry : (es : Entries) (e : NumberedEntry) (n m : Entry) → IsEntryOf es e n → IsEntryOf es e m → n ≡ m
one_entry es e n m a b = λ i. record {
  name = (a.name ∙ sym b.name) i;
  slot = one_slot es e n.slot m.slot a.slot b.slot i;
  body = (a.body ∙ sym b.body) i;
  attrs = (a.attrs ∙ sym b.attrs) i;
}

one_zip : {A B : Type 0} (R : A → B → Type 0) → ((x : A) (y z : B) → R x y → R x z → y ≡ z) → (xs : List A) (ys zs : List B) → AllZip R xs ys → AllZip R xs zs → ys ≡ zs
one_zip R one [] [] [] a b = refl
one_zip R one [] [] (z ∷ zs) a b = absurd b
one_zip R one [] (y ∷ ys) zs a b = absurd a
one_zip R one (x ∷ xs) [] zs a b = absurd a
one_zip R one (x ∷ xs) (y ∷ ys) [] a b = absurd b
one_zip R one (x ∷ xs) (y ∷ ys) (z ∷ zs) a b = λ i. one x y z a.0 b.0 i ∷ one_zip R one xs ys zs a.1 b.1 i

pub one_tree : (es : Entries) (t u : MarkedTree) → Spells es t → Spells es u → t ≡ u
one_tree es t u a b = λ i. record {
  tree = one_zip (IsEntryOf es) (one_entry es) (by_node es) t.tree u.tree a.tree b.tree i;
  marks = (a.marks ∙ sym b.marks) i;
}

-- lists that go together, element by element
pub zip_at : {A B : Type 0} (R : A → B → Type 0) (xs : List A) (ys : List B) (i : ℕ) (x : A) → AllZip R xs ys → i < length xs → x ≡ get_or xs i x → (y : B) × R x y
zip_at R [] ys i x z lt is = absurd (omega (arith, lt))
zip_at R (a ∷ xs) [] i x z lt is = absurd z
zip_at {B = B} R (a ∷ xs) (b ∷ ys) zero x z lt is = subst (λ w. (y : B) × R w y) (sym is) (b, z.0)
zip_at R (a ∷ xs) (b ∷ ys) (suc i) x z lt is = zip_at R xs ys i x z.1 (omega (arith, lt)) is

zip_seen : {A B C : Type 0} (R : B → C → Type 0) (f : A → B) (xs : List A) (ys : List C) → AllZip (λ x y. R (f x) y) xs ys → AllZip R (map f xs) ys
zip_seen R f [] [] z = tt
zip_seen R f [] (y ∷ ys) z = absurd z
zip_seen R f (x ∷ xs) [] z = absurd z
zip_seen R f (x ∷ xs) (y ∷ ys) z = (z.0, zip_seen R f xs ys z.1)

zip_were : {A B C : Type 0} (R : B → C → Type 0) (f : A → B) (xs : List A) (ys : List C) → AllZip R (map f xs) ys → AllZip (λ x y. R (f x) y) xs ys
zip_were R f [] [] z = tt
zip_were R f [] (y ∷ ys) z = absurd z
zip_were R f (x ∷ xs) [] z = absurd z
zip_were R f (x ∷ xs) (y ∷ ys) z = (z.0, zip_were R f xs ys z.1)

zip_each : {A B : Type 0} (R S : A → B → Type 0) → ((x : A) (y : B) → R x y → S x y) → (xs : List A) (ys : List B) → AllZip R xs ys → AllZip S xs ys
zip_each R S step [] [] z = tt
zip_each R S step [] (y ∷ ys) z = absurd z
zip_each R S step (x ∷ xs) [] z = absurd z
zip_each R S step (x ∷ xs) (y ∷ ys) z = (step x y z.0, zip_each R S step xs ys z.1)

-- the keys as they are seen
plain_keys : (attrs : List NumberedAttr) → map key_of (map attr_of attrs) ≡ map numbered_key attrs
plain_keys [] = refl
plain_keys (a ∷ attrs) = ap (λ l. a.key ∷ l) (plain_keys attrs)

marked_keys : (attrs : List NumberedAttr) → map key_in (map attr_marks_of attrs) ≡ map numbered_key attrs
marked_keys [] = refl
marked_keys (a ∷ attrs) = ap (λ l. a.key ∷ l) (marked_keys attrs)

abbrev keys_rise : Entry → Bool
keys_rise n = rises bytes_cmp (map key_of n.attrs)

module _ (es : Entries) where
  own_keys : (e : NumberedEntry) (n : Entry) → IsEntryOf es e n → map key_of n.attrs ≡ map numbered_key e.attrs
  own_keys e n h = ap (map key_of) h.attrs ∙ plain_keys e.attrs

  zip_keyed : (xs : Entries) (ns : List Entry) → AllZip (IsEntryOf es) xs ns → list_all keys_rise ns ≡ true → AllZip (IsKeyedEntryOf es) xs ns
  zip_keyed [] [] z h = tt
  zip_keyed [] (n ∷ ns) z h = absurd z
  zip_keyed (x ∷ xs) [] z h = absurd z
  zip_keyed (x ∷ xs) (n ∷ ns) z h =
      (record { entry = z.0; keys = ap (rises bytes_cmp) (sym (own_keys x n z.0)) ∙ first_so _ _ h }, zip_keyed xs ns z.1 (second_so (keys_rise n) _ h))

  all_keyed : (xs : Entries) (ns : List Entry) → AllZip (IsKeyedEntryOf es) xs ns → list_all keys_rise ns ≡ true
  all_keyed [] [] z = refl
  all_keyed [] (n ∷ ns) z = absurd z
  all_keyed (x ∷ xs) [] z = absurd z
  all_keyed (x ∷ xs) (n ∷ ns) z = both_true _ _ (ap (rises bytes_cmp) (own_keys x n z.0.entry) ∙ z.0.keys) (all_keyed xs ns z.1)

  zip_names : (xs : Entries) (ns : List Entry) → AllZip (IsEntryOf es) xs ns → map name_of ns ≡ map node_of xs
  zip_names [] [] z = refl
  zip_names [] (n ∷ ns) z = absurd z
  zip_names (x ∷ xs) [] z = absurd z
  zip_names (x ∷ xs) (n ∷ ns) z = λ i. z.0.name i ∷ zip_names xs ns z.1 i

  has_content : (b : NumberedBody) (c : Body) → c ≡ body_of b → is_some (content_marks_of b) ≡ not (is_dir_body c)
  has_content numbered.Dir c h = ap (λ d. not (is_dir_body d)) (sym h)
  has_content (numbered.File content marks) c h = ap (λ d. not (is_dir_body d)) (sym h)

  zip_fits : (xs : Entries) (ns : List Entry) → AllZip (IsEntryOf es) xs ns → AreFor ns (map marks_of xs)
  zip_fits [] [] z = tt
  zip_fits [] (n ∷ ns) z = absurd z
  zip_fits (x ∷ xs) [] z = absurd z
  zip_fits (x ∷ xs) (n ∷ ns) z =
      (record { name = sym z.0.name; content = has_content x.body n.body z.0.body; keys = marked_keys x.attrs ∙ sym (own_keys x n z.0) }, zip_fits xs ns z.1)

-- a tree in order is the tree of its entries
kept_in_order : (ns : List Entry) → list_all keys_rise ns ≡ true → map with_keys_in_order ns ≡ ns
kept_in_order [] h = refl
kept_in_order (n ∷ ns) h =
    λ i. record n { attrs = ordered_rising bytes_cmp key_of n.attrs (first_so _ _ h) i } ∷ kept_in_order ns (second_so (keys_rise n) _ h) i

tree_of-in_order : (ns : List Entry) → rises name_cmp (map name_of ns) ≡ true → list_all keys_rise ns ≡ true → tree_of ns ≡ ns
tree_of-in_order ns up keys = ap (ordered name_cmp name_of) (kept_in_order ns keys) ∙ ordered_rising name_cmp name_of ns up

keys_differ : (ns : List Entry) → list_all keys_rise ns ≡ true → AllByRecursion KeysDiffer ns
keys_differ [] h = tt
keys_differ (n ∷ ns) h =
    (rising_differ bytes_cmp key_of bytes_total same_bytes same_bytes-is same_bytes-self exact_bytes n.attrs (first_so _ _ h), keys_differ ns (second_so (keys_rise n) _ h))

buildable : (t : List Entry) → IsSane t → IsBuildable t
buildable t s =
    let up : rises name_cmp (map name_of t) ≡ true = first_so _ _ s.ordered in
    let keys : list_all keys_rise t ≡ true = second_so (rises name_cmp (map name_of t)) _ s.ordered in
    record {
      names = rising_differ name_cmp name_of names_total same_name same_name-is same_name-self exact_names t up;
      keys = keys_differ t keys;
      sane = subst (λ (u : List Entry). IsSaneMap (entry_of u)) (sym (tree_of-in_order t up keys)) s.sane;
    }

-- entries in the order of their nodes, and what a tree has of them
module _ (es : Entries) (sorted : List (Bor NumberedEntry)) (order : map seen sorted ≡ by_node es) where
  abbrev IsPlain : Bor NumberedEntry → Entry → Type 0
  IsPlain b = IsKeyedEntryOf es b.now

  pub spelled_plain : (t : MarkedTree) → Spells es t → AllZip IsPlain sorted t.tree
  spelled_plain t s =
      zip_were (IsKeyedEntryOf es) seen sorted t.tree (subst (λ xs. AllZip (IsKeyedEntryOf es) xs t.tree) (sym order)
      (zip_keyed es (by_node es) t.tree s.tree (second_so (rises name_cmp (map name_of t.tree)) _ s.sane.ordered)))

  abbrev IsNode : Bor NumberedEntry → Entry → Type 0
  IsNode b = IsEntryOf es b.now

  -- a tree that is there, beside them
  pub spelled_nodes : (t : MarkedTree) → Spells es t → AllZip IsNode sorted t.tree
  spelled_nodes t s = zip_were (IsEntryOf es) seen sorted t.tree (subst (λ xs. AllZip (IsEntryOf es) xs t.tree) (sym order) s.tree)

  module _ (t : List Entry) (sane : IsSane t) (nodes : AllZip IsNode sorted t) where
    pub nodes_are : AllZip (IsEntryOf es) (by_node es) t
    nodes_are = subst (λ xs. AllZip (IsEntryOf es) xs t) order (zip_seen (IsEntryOf es) seen sorted t nodes)

    pub nodes_keyed : AllZip IsPlain sorted t
    nodes_keyed =
        zip_were (IsKeyedEntryOf es) seen sorted t (subst (λ xs. AllZip (IsKeyedEntryOf es) xs t) (sym order)
        (zip_keyed es (by_node es) t nodes_are (second_so (rises name_cmp (map name_of t)) _ sane.ordered)))

  module _ (plain : List Entry) (all : AllZip IsPlain sorted plain) where
    keyed : AllZip (IsKeyedEntryOf es) (by_node es) plain
    keyed = subst (λ xs. AllZip (IsKeyedEntryOf es) xs plain) order (zip_seen (IsKeyedEntryOf es) seen sorted plain all)

    zipped : AllZip (IsEntryOf es) (by_node es) plain
    zipped = zip_each (IsKeyedEntryOf es) (IsEntryOf es) (λ x y h. h.entry) (by_node es) plain keyed

    pub spelled_builds : (t : MarkedTree) → Spells es t → IsBuildable plain
    spelled_builds t s = subst IsBuildable (one_zip (IsEntryOf es) (one_entry es) (by_node es) t.tree plain s.tree zipped) (buildable t.tree s.sane)

    pub plain_is_tree : tree_of plain ≡ plain
    plain_is_tree = tree_of-in_order plain (ap (rises name_cmp) (zip_names es (by_node es) plain zipped) ∙ by_node_rises es) (all_keyed es (by_node es) plain keyed)

    module _ (marks : List NodeMarks) (told : marks ≡ map (λ (b : Bor NumberedEntry). marks_of b.now) sorted) where
      pub marks_told : marks ≡ map marks_of (by_node es)
      marks_told = told ∙ sym (map_twice sorted) ∙ ap (map marks_of) order
        where
          map_twice : (bs : List (Bor NumberedEntry)) → map marks_of (map seen bs) ≡ map (λ (b : Bor NumberedEntry). marks_of b.now) bs
          map_twice [] = refl
          map_twice (b ∷ bs) = ap (λ l. marks_of b.now ∷ l) (map_twice bs)

      pub marks_rise : rises name_cmp (map (λ (n : NodeMarks). n.name) marks) ≡ true
      marks_rise = ap (λ ms. rises name_cmp (map (λ (n : NodeMarks). n.name) ms)) marks_told ∙ ap (rises name_cmp) (names (by_node es)) ∙ by_node_rises es
        where
          names : (xs : Entries) → map (λ (n : NodeMarks). n.name) (map marks_of xs) ≡ map node_of xs
          names [] = refl
          names (x ∷ xs) = ap (λ l. x.node ∷ l) (names xs)

      module _ (roster : List Entry) (built : roster ≡ tree_of plain) where
        same : roster ≡ plain
        same = built ∙ plain_is_tree

        pub they_fit : AreFor roster marks
        they_fit = subst (λ t. AreFor t marks) (sym same) (subst (AreFor plain) (sym marks_told) (zip_fits es (by_node es) plain zipped))

        pub they_spell : ascend es ≡ true → AllByRecursion (λ (e : NumberedEntry). 0 < e.number) es → IsDistinct one_node es → IsBuildable plain → Spells es (record { tree = roster; marks = marks })
        they_spell up one apart made = record {
          ascending = up;
          from_one = one;
          apart = apart;
          tree = subst (AllZip (IsEntryOf es) (by_node es)) (sym same) zipped;
          marks = marks_told;
          sane = subst IsSane (sym built) (made_sane plain made.sane);
        }

  -- with their marks they spell that tree
  module _ (t : List Entry) (sane : IsSane t) (nodes : AllZip IsNode sorted t) (marks : List NodeMarks) (told : marks ≡ map (λ (b : Bor NumberedEntry). marks_of b.now) sorted) where
    pub beside_rise : rises name_cmp (map (λ (n : NodeMarks). n.name) marks) ≡ true
    beside_rise = marks_rise t (nodes_keyed t sane nodes) marks told

    pub beside_spell : ascend es ≡ true → AllByRecursion (λ (e : NumberedEntry). 0 < e.number) es → IsDistinct one_node es → Spells es (record { tree = t; marks = marks })
    beside_spell up one apart = record {
      ascending = up;
      from_one = one;
      apart = apart;
      tree = nodes_are t sane nodes;
      marks = marks_told t (nodes_keyed t sane nodes) marks told;
      sane = sane;
    }
