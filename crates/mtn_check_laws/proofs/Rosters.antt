-- What is kept of a revision is one, where its marks stand in order.
use Rattle.std.specs.Prelude.{map, find, option_map, option_and_then, Contains}
use Rattle.std.specs.List.{AllByRecursion, AllZip, AllPairs, IsDistinct}
use Rattle.std.specs.List.Sorted.{IsStrictlyIncreasing}
use Rattle.std.proofs.Common.{◌≡◌, ◌<◌, ℕ, suc, Bool, true, false, cond, List, [], ◌∷◌, ◌++◌, length, take, Option, Some, None, refl, sym, ap, ◌∙◌, subst, ⊎_elim, arith}
use Rattle.std.proofs.lemmas.List.Elements.{All-from_recursion, All-contains}
use Rattle.std.proofs.lemmas.List.Kept.{AllPairs-from_increasing}
use Rattle.std.proofs.lemmas.Map.Keys.{IsDistinct-head, IsDistinct-tail}
use Rattle.mtn_base.specs.Names.{name_cmp, bytes_cmp, same_name, same_bytes}
use Rattle.mtn_base.specs.declared.name.NodeName.{NodeName}
use Rattle.mtn_history_laws.specs.History.{Revision, IsPlaceOf, IsGrown}
use Rattle.mtn_history_laws.specs.Scalars.{Scalar}
use Rattle.mtn_history_laws.specs.Scalars.Scalar.{SlotOf, ContentOf, AttrOf}
use Rattle.mtn_marking.specs.Graph.{AreMarksOf, IsMarkedAt}
use Rattle.mtn_marking.specs.Marking.{Marks, marking_of}
use Rattle.mtn_marking.specs.Marking.{marks_of as marks_by}
use Rattle.mtn_marking.specs.declared.node.AttrMarks.{AttrMarks}
use Rattle.mtn_marking.specs.declared.node.NodeMarks.{NodeMarks}
use Rattle.mtn_roster.specs.declared.entry.Attr.{Attr}
use Rattle.mtn_roster.specs.declared.entry.Entry.{Entry}
use Rattle.mtn_roster.specs.declared.entry.Slot.{Slot}
use Rattle.mtn_roster.specs.declared.entry.Slot.TheVariants.{Root, Below}
use Rattle.mtn_roster.specs.Tree.{Tree, entry_of}
use Rattle.mtn_base.specs.Lists.{rises}
use Rattle.mtn_roster.proofs.Along.{keyed}
use Rattle.mtn_base.proofs.Orders.{names_total, exact_names, bytes_total, exact_bytes}
use Rattle.mtn_roster.proofs.Ordered.{forest_of}
use Rattle.mtn_base.proofs.Sorting.{in_ordered, one_sorted, rising_differ}
use Rattle.mtn_base.proofs.Tests.{same_name-is, same_name-self, same_bytes-is, same_bytes-self}
use Rattle.mtn_roster_deltas.specs.Chain.{Entries, entry_at, number_of}
use Rattle.mtn_roster_deltas.specs.Numbering.{number_in, IsNumbering}
use Rattle.mtn_roster_deltas.specs.Spelled.{node_of, by_node, body_of, content_marks_of, attr_of, attr_marks_of, IsSlotOf, IsEntryOf, marks_of}
use Rattle.mtn_roster_deltas.proofs.Ascending.{cut_of, place_by}
use Rattle.mtn_roster_deltas.proofs.ByNode.{by_node_rises}
use Rattle.mtn_roster_deltas.proofs.Differing.{entry_was}
use Rattle.mtn_roster_deltas.proofs.Known.{spelled_there, there_spelled}
use Rattle.mtn_roster_deltas.proofs.Places.{contains_cons}
use Rattle.mtn_records.specs.declared.entry.NumberedAttr.{NumberedAttr}
use Rattle.mtn_records.specs.declared.entry.NumberedBody.{NumberedBody}
use Rattle.mtn_records.specs.declared.entry.NumberedBody.TheVariants as numbered
use Rattle.mtn_records.specs.declared.entry.NumberedEntry.{NumberedEntry}
use Rattle.std.specs.Cmp.{nat_cmp_total}
use Rattle.std.specs.Ordering.{nat_cmp}
use Rattle.mtn_history.specs.Revisions.{Kept, next_of, all_entries}
use Rattle.mtn_check_laws.specs.Fronts.{IsKeptNext}
use Rattle.mtn_check_laws.specs.Sets.{IsSetOf, HasSets, HaveSets}

-- ascending lists with the same members are one
low_all : (x : ℕ) (xs : List ℕ) (z : ℕ) → AllPairs (λ a b. a < b) (x ∷ xs) → Contains xs z → x < z
low_all x xs z pairs c = subst (λ n. x < n) c.2 (pairs 0 (suc c.0) z (omega arith) (omega (arith, c.1)))

low_rest : (x : ℕ) (xs : List ℕ) → AllPairs (λ a b. a < b) (x ∷ xs) → AllPairs (λ a b. a < b) xs
low_rest x xs pairs i j d lt low = pairs (suc i) (suc j) d (omega (arith, lt)) (omega (arith, low))

at_head : {X : Type 0} (x : X) (xs : List X) → Contains (x ∷ xs) x
at_head x xs = (0, omega arith, refl)

in_rest : {X : Type 0} (a : X) (xs : List X) (x : X) → Contains xs x → Contains (a ∷ xs) x
in_rest a xs x c = (suc c.0, omega (arith, c.1), c.2)

same_members : (xs ys : List ℕ) → AllPairs (λ a b. a < b) xs → AllPairs (λ a b. a < b) ys → ((z : ℕ) → Contains xs z → Contains ys z) → ((z : ℕ) → Contains ys z → Contains xs z) → xs ≡ ys
same_members [] [] p q to back = refl
same_members [] (y ∷ ys) p q to back = absurd (let c = back y (at_head y ys) in omega (arith, c.1))
same_members (x ∷ xs) [] p q to back = absurd (let c = to x (at_head x xs) in omega (arith, c.1))
same_members (x ∷ xs) (y ∷ ys) p q to back =
    let one : x ≡ y = ⊎_elim (λ e. sym e) (λ c. ⊎_elim (λ e. e)
    (λ d. absurd (let low = low_all y ys x q c in let high = low_all x xs y p d in omega (arith, low, high)))
    (contains_cons x xs y (back y (at_head y ys)))) (contains_cons y ys x (to x (at_head x xs))) in
    let rest = same_members xs ys (low_rest x xs p) (low_rest y ys q)
    (λ z c. ⊎_elim (λ e. absurd (let low = low_all x xs z p c in omega (arith, low, one, e))) (λ d. d) (contains_cons y ys z (to z (in_rest x xs z c))))
    (λ z c. ⊎_elim (λ e. absurd (let low = low_all y ys z q c in omega (arith, low, one, e))) (λ d. d) (contains_cons x xs z (back z (in_rest y ys z c)))) in
    λ i. one i ∷ rest i

-- what is looked for by the key of an element is what is made of it
module _ {X Y : Type 0} (f : X → Y) (test : X → Y → Bool) (self : (x : X) → test x (f x) ≡ true) where
  find_own : (xs : List X) → IsDistinct (λ a b. test b (f a)) xs → (x : X) → Contains xs x → find (test x) (map f xs) ≡ Some (f x)
  find_own [] d x c = absurd (omega (arith, c.1))
  find_own (a ∷ xs) d x c = ⊎_elim
      (λ e. ap (λ b. cond b (Some (f a)) (find (test x) (map f xs))) (ap (λ z. test z (f a)) (sym e) ∙ self a) ∙ ap (λ z. Some (f z)) e)
      (λ r. ap (λ b. cond b (Some (f a)) (find (test x) (map f xs)))
      (let each : X → Type 0 = λ b. test b (f a) ≡ false in All-contains each xs x (All-from_recursion each xs (IsDistinct-head (λ a b. test b (f a)) a xs d)) r)
      ∙ find_own xs (IsDistinct-tail (λ a b. test b (f a)) a xs d) x r)
      (contains_cons a xs x c)

pub all_from : {X : Type 0} (P : X → Type 0) (xs : List X) → ((x : X) → Contains xs x → P x) → AllByRecursion P xs
all_from P [] each = tt
all_from P (x ∷ xs) each = (each x (at_head x xs), all_from P xs (λ y c. each y (in_rest x xs y c)))

-- what stands beside an element
beside : {A B : Type 0} (R : A → B → Type 0) (xs : List A) (ys : List B) → AllZip R xs ys → (x : A) → Contains xs x → (y : B) × Contains ys y × R x y
beside R [] ys z x c = absurd (omega (arith, c.1))
beside R (a ∷ xs) [] z x c = absurd z
beside {B = B} R (a ∷ xs) (b ∷ ys) z x c = ⊎_elim
    (λ e. (b, at_head b ys, subst (λ w. R w b) e z.0))
    (λ t. let r = beside R xs ys z.1 x t in (r.0, in_rest b ys r.0 r.1, r.2))
    (contains_cons a xs x c)

keys_through : (xs : List NumberedAttr) → map (λ (a : Attr). a.key) (map attr_of xs) ≡ map (λ (a : NumberedAttr). a.key) xs
keys_through [] = refl
keys_through (x ∷ xs) = ap (λ l. x.key ∷ l) (keys_through xs)

module _ (log : List Revision) (grown : IsGrown log) (r : ℕ) (known : List Entries) (next : ℕ) (tree : Tree) where
  -- one set of marks of a scalar
  one_set : (s : Scalar) (xs ys : List ℕ) → AreMarksOf log r s (Some xs) → AreMarksOf log r s (Some ys) → IsStrictlyIncreasing xs → IsStrictlyIncreasing ys → xs ≡ ys
  one_set s xs ys a b up vp = same_members xs ys (AllPairs-from_increasing xs up) (AllPairs-from_increasing ys vp)
      (λ z c. (b.1 z).1 ((a.1 z).0 c)) (λ z c. (a.1 z).1 ((b.1 z).0 c))

  one_body : (s : Scalar) (x y : NumberedBody) → body_of x ≡ body_of y → AreMarksOf log r s (content_marks_of x) → AreMarksOf log r s (content_marks_of y) → IsSetOf x → IsSetOf y → x ≡ y
  one_body s numbered.Dir numbered.Dir e a b u v = refl
  one_body s numbered.Dir (numbered.File d n) e a b u v = absurd cc
  one_body s (numbered.File c m) numbered.Dir e a b u v = absurd cc
  one_body s (numbered.File c m) (numbered.File d n) e a b u v =
      let content : c ≡ d = cc in
      let marks = one_set s m n a b u v in
      λ i. numbered.File (content i) (marks i)

  abbrev IsMarkedBy : NodeName → NumberedAttr → Type 0
  IsMarkedBy n a = AreMarksOf log r (AttrOf n a.key) (Some a.marks)

  abbrev IsUp : NumberedAttr → Type 0
  IsUp a = IsStrictlyIncreasing a.marks

  one_attrs : (n : NodeName) (xs ys : List NumberedAttr) → map attr_of xs ≡ map attr_of ys → AllByRecursion (IsMarkedBy n) xs → AllByRecursion (IsMarkedBy n) ys → AllByRecursion IsUp xs → AllByRecursion IsUp ys → xs ≡ ys
  one_attrs n [] [] e a b u v = refl
  one_attrs n [] (y ∷ ys) e a b u v = absurd cc
  one_attrs n (x ∷ xs) [] e a b u v = absurd cc
  one_attrs n (x ∷ xs) (y ∷ ys) e a b u v =
      let first : attr_of x ≡ attr_of y = cc in
      let key : x.key ≡ y.key = ap (λ (a : Attr). a.key) first in
      let value : x.value ≡ y.value = ap (λ (a : Attr). a.value) first in
      let rest : map attr_of xs ≡ map attr_of ys = cc in
      let marks = one_set (AttrOf n x.key) x.marks y.marks a.0 (subst (λ k. AreMarksOf log r (AttrOf n k) (Some y.marks)) (sym key) b.0) u.0 v.0 in
      let more = one_attrs n xs ys rest a.1 b.1 u.1 v.1 in
      λ i. record { key = key i; value = value i; marks = marks i } ∷ more i

  -- entries of the tree with its marks and numbers
  pub record IsSide (es : Entries) : Type 0 where
    pub marks : Marks
    pub marked : IsMarkedAt log r (record { tree = tree; marks = marks })
    pub numbered : IsNumbering known next (record { tree = tree; marks = marks }) es
    pub sets : HaveSets es

  own_number : (es : Entries) → IsSide es → (e : NumberedEntry) → Contains es e → number_in known next tree e.node ≡ Some e.number
  own_number es a e c = let each = λ (f : NumberedEntry). number_in known next tree f.node ≡ Some f.number in All-contains each es e (All-from_recursion each es a.numbered.numbers) c

  parent_number : (es : Entries) → IsSide es → (e : NumberedEntry) (parent : NodeName) → option_map node_of (entry_at es e.parent) ≡ Some parent → number_in known next tree parent ≡ Some e.parent
  parent_number es a e parent is = by (entry_at es e.parent) refl is
    where
      by : (o : Option NumberedEntry) → entry_at es e.parent ≡ o → option_map node_of o ≡ Some parent → number_in known next tree parent ≡ Some e.parent
      by None at h = absurd cc
      by (Some x) at h =
          let t = entry_was es e.parent x at in
          let same : x.node ≡ parent = cc in
          ap (number_in known next tree) (sym same) ∙ own_number es a x t.0 ∙ ap Some t.1

  one_slot : (es fs : Entries) → IsSide es → IsSide fs → (e f : NumberedEntry) (s : Slot) → IsSlotOf es e s → IsSlotOf fs f s → (e.parent ≡ f.parent) × (e.name ≡ f.name)
  one_slot es fs a b e f Root x y = (x.0 ∙ sym y.0, x.1 ∙ sym y.1)
  one_slot es fs a b e f (Below parent name) x y =
      let t = sym (parent_number es a e parent x.1) ∙ parent_number fs b f parent y.1 in
      let same : e.parent ≡ f.parent = cc in
      (same, x.2 ∙ sym y.2)

  -- what a node's entry is by
  record IsBy (es : Entries) (e : NumberedEntry) (n : Entry) : Type 0 where
    entry : IsEntryOf es e n
    there : entry_of tree e.node ≡ Some n
    birth : IsPlaceOf log e.node.birth e.birth_at
    slot : AreMarksOf log r (SlotOf e.node) (Some e.slot_marks)
    content : AreMarksOf log r (ContentOf e.node) (content_marks_of e.body)
    attrs : AllByRecursion (IsMarkedBy e.node) e.attrs
    sets : HasSets e

  told_by : (es : Entries) → IsSide es → (e : NumberedEntry) → Contains es e → (n : Entry) × IsBy es e n
  told_by es a e c =
      let spells = a.numbered.spells in
      let there = place_by (by_node es) e (in_ordered name_cmp node_of names_total same_name same_name-is same_name-self exact_names es spells.apart e (cut_of es e c)) in
      let b = beside (IsEntryOf es) (by_node es) tree spells.tree e there in
      let held : entry_of tree b.0.name ≡ Some b.0 = (forest_of tree spells.sane).distinct b.0 (cut_of tree b.0 b.1) in
      let distinct = rising_differ name_cmp node_of names_total same_name same_name-is same_name-self exact_names (by_node es) (by_node_rises es) in
      let found = find_own marks_of (λ (x : NumberedEntry) (m : NodeMarks). same_name m.name x.node) (λ x. same_name-self x.node) (by_node es) distinct e there in
      let marking : marking_of a.marks e.node ≡ Some (marks_of e).marking =
      ap (λ (ms : Marks). marking_of ms e.node) spells.marks ∙ ap (λ o. option_map (λ (m : NodeMarks). m.marking) o) found in
      let keys : rises bytes_cmp (map (λ (x : NumberedAttr). x.key) e.attrs) ≡ true =
      ap (rises bytes_cmp) (sym (ap (map (λ (x : Attr). x.key)) b.2.attrs ∙ keys_through e.attrs)) ∙ keyed tree spells.sane b.0 held in
      let apart = rising_differ bytes_cmp (λ (x : NumberedAttr). x.key) bytes_total same_bytes same_bytes-is same_bytes-self exact_bytes e.attrs keys in (
        b.0,
        record {
          entry = b.2;
          there = ap (entry_of tree) (sym b.2.name) ∙ held;
          birth = a.marked.births e.node (marks_of e).marking marking;
          slot = subst (AreMarksOf log r (SlotOf e.node)) (ap (option_and_then (marks_by (SlotOf e.node))) marking) (a.marked.marks (SlotOf e.node));
          content = subst (AreMarksOf log r (ContentOf e.node)) (ap (option_and_then (marks_by (ContentOf e.node))) marking) (a.marked.marks (ContentOf e.node));
          attrs = all_from (IsMarkedBy e.node) e.attrs (λ x at. subst (AreMarksOf log r (AttrOf e.node x.key))
              (ap (option_and_then (marks_by (AttrOf e.node x.key))) marking ∙ ap (λ o. option_map (λ (m : AttrMarks). m.marks) o)
              (find_own attr_marks_of (λ (y : NumberedAttr) (m : AttrMarks). same_bytes m.key y.key) (λ y. same_bytes-self y.key) e.attrs apart x at))
              (a.marked.marks (AttrOf e.node x.key)));
          sets = All-contains HasSets es e (All-from_recursion HasSets es a.sets) c;
        },
      )

  one_entry : (es fs : Entries) → IsSide es → IsSide fs → (e f : NumberedEntry) → Contains es e → Contains fs f → e.node ≡ f.node → e ≡ f
  one_entry es fs a b e f ce cf node =
      let x = told_by es a e ce in
      let y = told_by fs b f cf in
      let t = sym x.1.there ∙ ap (entry_of tree) node ∙ y.1.there in
      let n : x.0 ≡ y.0 = cc in
      let numbers = sym (own_number es a e ce) ∙ ap (number_in known next tree) node ∙ own_number fs b f cf in
      let number : e.number ≡ f.number = cc in
      let birth : e.birth_at ≡ f.birth_at = grown.differ e.node.birth e.birth_at f.birth_at x.1.birth (subst (λ (m : NodeName). IsPlaceOf log m.birth f.birth_at) (sym node) y.1.birth) in
      let slots = one_slot es fs a b e f x.0.slot x.1.entry.slot (subst (λ (m : Entry). IsSlotOf fs f m.slot) (sym n) y.1.entry.slot) in
      let parent : e.parent ≡ f.parent = slots.0 in
      let name : e.name ≡ f.name = slots.1 in
      let slot : e.slot_marks ≡ f.slot_marks = one_set (SlotOf e.node) e.slot_marks f.slot_marks x.1.slot (subst (λ m. AreMarksOf log r (SlotOf m) (Some f.slot_marks)) (sym node) y.1.slot) x.1.sets.slot y.1.sets.slot in
      let body : e.body ≡ f.body = one_body (ContentOf e.node) e.body f.body (sym x.1.entry.body ∙ ap (λ (m : Entry). m.body) n ∙ y.1.entry.body)
      x.1.content (subst (λ m. AreMarksOf log r (ContentOf m) (content_marks_of f.body)) (sym node) y.1.content) x.1.sets.body y.1.sets.body in
      let attrs : e.attrs ≡ f.attrs = one_attrs e.node e.attrs f.attrs (sym x.1.entry.attrs ∙ ap (λ (m : Entry). m.attrs) n ∙ y.1.entry.attrs)
      x.1.attrs (subst (λ m. AllByRecursion (IsMarkedBy m) f.attrs) (sym node) y.1.attrs) x.1.sets.attrs y.1.sets.attrs in
      λ i. record { number = number i; birth_at = birth i; node = node i; parent = parent i; name = name i; slot_marks = slot i; body = body i; attrs = attrs i }

  member : (es fs : Entries) → IsSide es → IsSide fs → (e : NumberedEntry) → Contains es e → Contains fs e
  member es fs a b e c =
      let there = spelled_there es (record { tree = tree; marks = a.marks }) a.numbered.spells e c in
      let f = there_spelled fs (record { tree = tree; marks = b.marks }) b.numbered.spells e.node there in
      subst (Contains fs) (sym (one_entry es fs a b e f.0 c f.1 (sym f.2))) f.1

  pub one_list : (es fs : Entries) → IsSide es → IsSide fs → es ≡ fs
  one_list es fs a b = one_sorted nat_cmp number_of nat_cmp_total es fs a.numbered.spells.ascending b.numbered.spells.ascending
      (λ e s. cut_of fs e (member es fs a b e (place_by es e s)))
      (λ e s. cut_of es e (member fs es b a e (place_by fs e s)))

-- what is kept of one more revision is one
pub one_kept : (h : List Revision) (ks : List Kept) (v : Revision) (a b : Kept) → IsGrown (h ++ v ∷ []) → IsKeptNext h ks v a → IsKeptNext h ks v b → HaveSets a.entries → HaveSets b.entries → a ≡ b
one_kept h ks v a b grown x y sets_a sets_b =
    let entries : a.entries ≡ b.entries = one_list (h ++ v ∷ []) grown (length h) (all_entries (take (length h) ks)) (next_of (take (length h) ks)) v.tree a.entries b.entries
    (record { marks = x.marks; marked = x.marked; numbered = x.numbered; sets = sets_a }) (record { marks = y.marks; marked = y.marked; numbered = y.numbered; sets = sets_b }) in
    λ i. record { entries = entries i; next = (x.next ∙ sym y.next) i; depth = (x.depth ∙ sym y.depth) i }
