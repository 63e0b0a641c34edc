-- Numbers beside a tree, and the entries that they tell.
use Rattle.std.specs.Prelude.{map, option_map, slice_get, Contains}
use Rattle.std.specs.List.{AllZip, IsDistinct}
use Rattle.std.specs.List.Sorted.{IsPermutation, IsSortedBy}
use Rattle.std.specs.FinMap.{nat_cmp-IsAntisymmetric}
use Rattle.std.specs.declared.cmp.Ordering.TheVariants.{Equal}
use Rattle.std.specs.Ordering.{is_lt, nat_cmp}
use Rattle.std.specs.Cmp.{first_so, second_so, tied_itself, nat_cmp_total}
use Rattle.std.proofs.Common.{◌≡◌, ◌==◌, ℕ, zero, suc, ◌<◌, Bool, true, false, cond, nat_eq, List, [], ◌∷◌, length, get_or, Some, None, refl, sym, ◌∙◌, ap, subst, arith}
use Rattle.std.proofs.lemmas.List.Elements.{Contains-append_right}
use Rattle.std.proofs.lemmas.Map.Keys.{apart_from_distinct, IsDistinct-IsPermutation, IsDistinct-from_apart}
use Rattle.mtn_base.specs.Lists.{rises, ordered}
use Rattle.mtn_base.specs.Names.{name_cmp, same_name}
use Rattle.mtn_base.specs.declared.name.NodeName.{NodeName}
use Rattle.mtn_base.proofs.Finding.{found, Split}
use Rattle.mtn_base.proofs.Members.{any_default, taken}
use Rattle.mtn_base.proofs.Orders.{names_total, exact_names}
use Rattle.mtn_base.proofs.Sorting.{in_ordered, less_at, of_ordered, one_sorted, ordered-rises, rec_at, sorted_is}
use Rattle.mtn_base.proofs.Tests.{same_name-is, same_name-self}
use Rattle.mtn_marking.specs.Marking.{AreFor, Marks, MarkedTree}
use Rattle.mtn_marking.specs.declared.node.NodeMarks.{NodeMarks}
use Rattle.mtn_marking.proofs.Fitting.{for_long}
use Rattle.mtn_records.specs.declared.entry.NumberedAttr.{NumberedAttr}
use Rattle.mtn_records.specs.declared.entry.NumberedBody.{NumberedBody}
use Rattle.mtn_records.specs.declared.entry.NumberedBody.TheVariants as numbered
use Rattle.mtn_records.specs.declared.entry.NumberedEntry.{NumberedEntry}
use Rattle.mtn_roster.specs.declared.entry.Body.{Body}
use Rattle.mtn_roster.specs.declared.entry.Entry.{Entry}
use Rattle.mtn_roster.specs.declared.entry.Slot.{Slot}
use Rattle.mtn_roster.specs.declared.entry.Slot.TheVariants.{Root, Below}
use Rattle.mtn_roster.specs.Tree.{Tree, entry_of, IsSane}
use Rattle.mtn_roster.proofs.Ordered.{distinct_of}
use Rattle.mtn_roster_deltas.specs.Beside.{AreBeside, attrs_with, body_with, entries_at_places, entries_beside, entries_with, entry_with, name_in, number_above, number_beside}
use Rattle.mtn_roster_deltas.specs.Chain.{Entries, entry_at, number_of}
use Rattle.mtn_roster_deltas.specs.Noting.{AreNoted, AreNumbered, AreOne, IsNumberedSlot}
use Rattle.mtn_roster_deltas.specs.Numbering.{number_among}
use Rattle.mtn_roster_deltas.specs.Spelled.{IsEntryOf, IsSlotOf, Spells, attr_marks_of, attr_of, body_of, by_node, content_marks_of, marks_of, node_of}
use Rattle.mtn_roster_deltas.proofs.Ascending.{cut_of, own_number, place_by, same_number-is, same_number-self}
use Rattle.mtn_roster_deltas.proofs.Assigning.{steps_up}
use Rattle.mtn_roster_deltas.proofs.ByNode.{by_node_rises}
use Rattle.mtn_roster_deltas.proofs.Known.{among_is, beside}
use Rattle.mtn_roster_deltas.proofs.Places.{contains_got, get_map, names_apart, some_is, tree_names, was_positive}

-- an element of a list at its place
got_of : {X : Type 0} (xs : List X) (x : X) (c : Contains xs x) → slice_get xs c.0 ≡ Some x
got_of xs x c = let t = taken xs c.0 c.1 in t.1 ∙ ap Some (sym (t.3 x) ∙ c.2)

-- a node of the tree has the number at its place
number_here : (t : Tree) (ns : List ℕ) (k : ℕ) (e : Entry) → rises name_cmp (tree_names t) ≡ true → slice_get t k ≡ Some e → number_beside t ns e.name ≡ get_or ns k 0
number_here [] ns k e up h = absurd cc
number_here (x ∷ t) [] k e up h = refl
number_here (x ∷ t) (m ∷ ns) zero e up h =
    let same : x ≡ e = some_is h in
    ap (λ b. cond b m (number_beside t ns e.name)) (ap (λ (y : Entry). same_name y.name e.name) same ∙ same_name-self e.name)
number_here (x ∷ t) (m ∷ ns) (suc k) e up h =
    ap (λ b. cond b m (number_beside t ns e.name)) other ∙ number_here t ns k e (second_so _ _ up) h
  where
    other : same_name x.name e.name ≡ false
    other = elim (same_name x.name e.name) as (λ b. same_name x.name e.name ≡ b → b ≡ false) [
      | true ↦ λ g. absurd (let z = names_apart (tree_names (x ∷ t)) up 0 (suc k) e.name (ap Some (same_name-is x.name e.name g)) (get_map (λ (y : Entry). y.name) t k ∙ ap (option_map (λ (y : Entry). y.name)) h) in omega (arith, z))
      | false ↦ λ g. refl
    ] refl

body_is : (n : Body) (b : NumberedBody) → n ≡ body_of b → body_with n (content_marks_of b) ≡ b
body_is n numbered.Dir h = ap (λ c. body_with c None) h
body_is n (numbered.File content marks) h = ap (λ c. body_with c (Some marks)) h

attrs_are : (attrs : List NumberedAttr) → attrs_with (map attr_of attrs) (map attr_marks_of attrs) ≡ attrs
attrs_are [] = refl
attrs_are (a ∷ attrs) = ap (λ l. a ∷ l) (attrs_are attrs)

-- an entry is what the tree and the numbers have of its node
entry_told : (number : NodeName → ℕ) (n : Entry) (m : NodeMarks) (e : NumberedEntry) → number e.node ≡ e.number → n.name ≡ e.node → number_above number n.slot ≡ e.parent → name_in n.slot ≡ e.name →
    n.body ≡ body_of e.body → n.attrs ≡ map attr_of e.attrs → m ≡ marks_of e → entry_with number n m ≡ e
entry_told number n m e num name parent as_name body attrs marks =
    ap (entry_with number n) marks ∙ (λ i. record {
      number = (ap number name ∙ num) i;
      birth_at = e.birth_at;
      node = name i;
      parent = parent i;
      name = as_name i;
      slot_marks = e.slot_marks;
      body = body_is n.body e.body body i;
      attrs = (ap (λ l. attrs_with l (map attr_marks_of e.attrs)) attrs ∙ attrs_are e.attrs) i;
    })

abbrev same_numbers : NumberedEntry → NumberedEntry → Bool
same_numbers e f = e.number == f.number

-- the numbers of entries that spell the tree
module _ (es : Entries) (t : MarkedTree) (s : Spells es t) where
  in_order : (e : NumberedEntry) → Split es e → Split (by_node es) e
  in_order e c = in_ordered name_cmp node_of names_total same_name same_name-is same_name-self exact_names es s.apart e c

  from_order : (e : NumberedEntry) → Split (by_node es) e → Split es e
  from_order e c = of_ordered name_cmp node_of names_total es e c

  names_rise : rises name_cmp (tree_names t.tree) ≡ true
  names_rise = first_so _ _ s.sane.ordered

  -- entries of one node are one
  pub one_number : (e f : NumberedEntry) → Contains es e → Contains es f → e.node ≡ f.node → e.number ≡ f.number
  one_number e f c d same =
      let i = place_by (by_node es) e (in_order e (cut_of es e c)) in
      let j = place_by (by_node es) f (in_order f (cut_of es f d)) in
      let gi = got_of (by_node es) e i in
      let gj = got_of (by_node es) f j in
      let k = names_apart (map node_of (by_node es)) (by_node_rises es) i.0 j.0 e.node (get_map node_of (by_node es) i.0 ∙ ap (option_map node_of) gi)
      (get_map node_of (by_node es) j.0 ∙ ap (option_map node_of) gj ∙ ap Some (sym same)) in
      ap number_of (some_is (sym gi ∙ ap (slice_get (by_node es)) k ∙ gj))

  are_one : AreOne es
  are_one = record { number = one_number; above = λ e c. rec_at (λ (x : NumberedEntry). 0 < x.number) es e s.from_one (cut_of es e c) }

  -- what was noted of a list with these entries alone
  pub noted_of : (list : Entries) (names : List NodeName) (ns : List ℕ) → list ≡ es → names ≡ tree_names t.tree → (AreOne list → AreNoted list names ns) → AreNoted es (tree_names t.tree) ns
  noted_of list names ns is named told = subst (λ l. AreNoted es l ns) named (subst (λ l. AreNoted l names ns) is (told (subst AreOne (sym is) are_one)))

  module _ (ns : List ℕ) (long : length ns ≡ length t.tree) (noted : AreNoted es (tree_names t.tree) ns) where
    abbrev number : NodeName → ℕ
    number = number_beside t.tree ns

    number_told : (e : NumberedEntry) → Contains es e → number e.node ≡ e.number
    number_told e c =
        let b = beside (IsEntryOf es) (by_node es) t.tree s.tree e (place_by (by_node es) e (in_order e (cut_of es e c))) in
        let k = b.1.0 in
        let at = got_of t.tree b.0 b.1 in
        let told = noted.each k b.0.name (get_map (λ (x : Entry). x.name) t.tree k ∙ ap (option_map (λ (x : Entry). x.name)) at) in
        ap number (sym b.2.name) ∙ number_here t.tree ns k b.0 names_rise at
        ∙ (was_positive (get_or ns k 0) e.number (sym told ∙ ap (number_among es) b.2.name ∙ among_is es one_number e c)).0

    parent_told : (e : NumberedEntry) (p : Slot) → IsSlotOf es e p → number_above number p ≡ e.parent
    parent_told e Root h = sym h.0
    parent_told e (Below parent name) h =
        elim (entry_at es e.parent) as (λ o. entry_at es e.parent ≡ o → option_map node_of o ≡ Some parent → number parent ≡ e.parent) [
          | None ↦ λ g q. absurd cc
          | Some f ↦ λ g q.
              let at = found (λ (x : NumberedEntry). x.number == e.parent) es f g in
              ap number (sym (some_is q)) ∙ number_told f (place_by es f at.at) ∙ same_number-is f.number e.parent at.passes
        ] refl h.1

    name_told : (e : NumberedEntry) (p : Slot) → IsSlotOf es e p → name_in p ≡ e.name
    name_told e Root h = sym h.1
    name_told e (Below parent name) h = sym h.2

    all_told : (xs : Entries) (us : Tree) → AllZip (IsEntryOf es) xs us → ((e : NumberedEntry) → Contains xs e → Contains es e) → entries_with number us (map marks_of xs) ≡ xs
    all_told [] [] z within = refl
    all_told [] (u ∷ us) z within = absurd z
    all_told (x ∷ xs) [] z within = absurd z
    all_told (x ∷ xs) (u ∷ us) z within =
        let first = entry_told number u (marks_of x) x (number_told x (within x (0, omega arith, refl))) z.0.name (parent_told x u.slot z.0.slot) (name_told x u.slot z.0.slot) z.0.body z.0.attrs refl in
        let rest = all_told xs us z.1 (λ e c. within e (Contains-append_right (x ∷ []) xs e c)) in
        λ i. first i ∷ rest i

    places_told : entries_at_places t ns ≡ by_node es
    places_told = ap (entries_with number t.tree) s.marks ∙ all_told (by_node es) t.tree s.tree (λ e c. place_by es e (from_order e (cut_of (by_node es) e c)))

    numbers_apart : IsDistinct same_numbers (by_node es)
    numbers_apart = IsDistinct-from_apart same_numbers (by_node es) (λ i j d lt low.
        let ks = by_node es in
        let x = get_or ks i d in
        let y = get_or ks j d in
        let less = less_at name_cmp node_of names_total ks i j d (by_node_rises es) lt low in
        let in_i : Contains ks x = (i, omega (arith, lt, low), any_default ks i x d (omega (arith, lt, low))) in
        let in_j : Contains ks y = (j, low, any_default ks j y d low) in
        elim (same_numbers x y) as (λ b. same_numbers x y ≡ b → b ≡ false) [
          | true ↦ λ e. absurd (
              let ox = own_number es s.ascending x (from_order x (cut_of ks x in_i)) in
              let oy = own_number es s.ascending y (from_order y (cut_of ks y in_j)) in
              let one : x ≡ y = some_is (sym ox ∙ ap (entry_at es) (same_number-is x.number y.number e) ∙ oy) in
              let tied : name_cmp x.node y.node ≡ Equal = ap (λ (z : NumberedEntry). name_cmp x.node z.node) (sym one) ∙ tied_itself names_total x.node in
              cc)
          | false ↦ λ e. refl
        ] refl)

    pub they_stand : AreBeside t ns
    they_stand = record { long = long; apart = subst (IsDistinct same_numbers) (sym places_told) numbers_apart }

    pub they_tell : entries_beside t ns ≡ es
    they_tell =
        ap (ordered nat_cmp number_of) places_told
        ∙ sym (one_sorted nat_cmp number_of nat_cmp_total es (ordered nat_cmp number_of (by_node es)) s.ascending (ordered-rises nat_cmp number_of nat_cmp_total (by_node es))
        (λ e c. in_ordered nat_cmp number_of nat_cmp_total nat_eq same_number-is same_number-self nat_cmp-IsAntisymmetric (by_node es) numbers_apart e (in_order e c))
        (λ e c. from_order e (of_ordered nat_cmp number_of nat_cmp_total (by_node es) e c)))

-- entries that are made of the tree and the numbers
module _ (t : MarkedTree) (ns : List ℕ) (fits : AreFor t.tree t.marks) (sane : IsSane t.tree) (are : AreBeside t ns) (raw new : Entries)
    (long : length raw ≡ length t.tree) (all : AreNumbered t ns raw) (moved : IsPermutation raw new) where
  abbrev numbers : NodeName → ℕ
  numbers = number_beside t.tree ns

  rise : rises name_cmp (tree_names t.tree) ≡ true
  rise = first_so _ _ sane.ordered

  above_made : (e : NumberedEntry) (p : Slot) → ((parent : NodeName) (name : List ℕ) → p ≡ Below parent name → (d : Entry) × (entry_of t.tree parent ≡ Some d)) → IsNumberedSlot t.tree ns p e.parent e.name → number_above numbers p ≡ e.parent
  above_made e Root there h = sym h.0
  above_made e (Below parent name) there h =
      let d = there parent name refl in
      let f = found (λ (x : Entry). same_name x.name parent) t.tree d.0 d.1 in
      let c = place_by t.tree d.0 f.at in
      let at = got_of t.tree d.0 c in
      let named : d.0.name ≡ parent = same_name-is d.0.name parent f.passes in
      ap numbers (sym named) ∙ number_here t.tree ns c.0 d.0 rise at ∙ sym (h.0 c.0 d.0 at named)

  name_made : (e : NumberedEntry) (p : Slot) → IsNumberedSlot t.tree ns p e.parent e.name → name_in p ≡ e.name
  name_made e Root h = sym h.1
  name_made e (Below parent name) h = sym h.1

  entry_made : (k : ℕ) (n : Entry) (m : NodeMarks) (e : NumberedEntry) → slice_get t.tree k ≡ Some n → slice_get t.marks k ≡ Some m → slice_get raw k ≡ Some e → entry_with numbers n m ≡ e
  entry_made k n m e at_n at_m at_e =
      let told = all.each k n m e at_n at_m at_e in
      let own = distinct_of t.tree rise n (cut_of t.tree n (contains_got t.tree k n at_n)) in
      entry_told numbers n m e (ap numbers (sym told.name) ∙ number_here t.tree ns k n rise at_n ∙ sym told.number_is) told.name
      (above_made e n.slot (λ parent name is. let r = sane.sane.parents n.name parent n name own is in (r.0, r.1)) told.slot) (name_made e n.slot told.slot) told.body told.attrs told.marks

  all_made : (us : Tree) (ms : Marks) (xs : Entries) → length us ≡ length ms → length xs ≡ length us →
      ((k : ℕ) (n : Entry) (m : NodeMarks) (e : NumberedEntry) → slice_get us k ≡ Some n → slice_get ms k ≡ Some m → slice_get xs k ≡ Some e → entry_with numbers n m ≡ e) → entries_with numbers us ms ≡ xs
  all_made [] ms [] l r each = refl
  all_made [] ms (x ∷ xs) l r each = absurd (omega (arith, r))
  all_made (u ∷ us) [] xs l r each = absurd (omega (arith, l))
  all_made (u ∷ us) (m ∷ ms) [] l r each = absurd (omega (arith, r))
  all_made (u ∷ us) (m ∷ ms) (x ∷ xs) l r each =
      let rest = all_made us ms xs (omega (arith, l)) (omega (arith, r)) (λ k a b c p q w. each (suc k) a b c p q w) in
      λ i. each 0 u m x refl refl refl i ∷ rest i

  raw_is : entries_at_places t ns ≡ raw
  raw_is = all_made t.tree t.marks raw (for_long t.tree t.marks fits) long entry_made

  raw_apart : IsDistinct same_numbers raw
  raw_apart = subst (IsDistinct same_numbers) raw_is are.apart

  flips : (x y : NumberedEntry) → same_numbers x y ≡ same_numbers y x
  flips x y = tests (same_numbers x y) (same_numbers y x) refl refl
    where
      tests : (a b : Bool) → same_numbers x y ≡ a → same_numbers y x ≡ b → a ≡ b
      tests true true p q = refl
      tests false false p q = refl
      tests true false p q = absurd (let e = same_number-is x.number y.number p in let z = ap (nat_eq y.number) e ∙ same_number-self y.number in cc)
      tests false true p q = absurd (let e = same_number-is y.number x.number q in let z = ap (nat_eq x.number) e ∙ same_number-self x.number in cc)

  pub made_beside : IsSortedBy (λ x y. is_lt (nat_cmp x.number y.number)) new → new ≡ entries_beside t ns
  made_beside sorted =
      let dist = IsDistinct-IsPermutation same_numbers flips raw new moved raw_apart in
      let up = steps_up number_of new sorted (λ i j d lt low same.
      let z = apart_from_distinct same_numbers new i j d dist lt low in
      let x = get_or new i d in
      let y = get_or new j d in
      let w : same_numbers x y ≡ true = ap (nat_eq x.number) (sym same) ∙ same_number-self x.number in cc) in
      sorted_is nat_cmp number_of nat_cmp_total nat_eq same_number-is same_number-self nat_cmp-IsAntisymmetric raw new moved raw_apart up ∙ ap (ordered nat_cmp number_of) (sym raw_is)
