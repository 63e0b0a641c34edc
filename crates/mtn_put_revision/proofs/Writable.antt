-- The record of a tree that a history may have next can be written.
use Rattle.std.specs.Prelude.{All, Contains, IsSome, find, is_some, map, option_map, option_and_then}
use Rattle.std.specs.List.{AllZip, list_all}
use Rattle.std.specs.List.Sorted.{IsStrictlyIncreasing}
use Rattle.std.specs.Cmp.{IsTotalOrder, second_so, tied_itself, nat_cmp_total}
use Rattle.std.specs.Ordering.{is_lt, nat_cmp}
use Rattle.std.specs.declared.cmp.Ordering.{Ordering}
use Rattle.std.specs.declared.cmp.Ordering.TheVariants.{Less}
use Rattle.std.proofs.Common.{◌≡◌, ◌≤◌, ◌<◌, ◌+◌, ◌^◌, ℕ, zero, suc, Bool, true, false, cond, List, [], ◌∷◌, ◌++◌, length, get_or, Option, Some, None, refl, sym, ◌∙◌, ap, subst, inl, inr, arith}
use Rattle.std.proofs.lemmas.Bool.Decides.{nat_tests}
use Rattle.std.proofs.lemmas.List.{length-append}
use Rattle.std.proofs.lemmas.List.Elements.{All-contains_itself, recursion_from_All}
use Rattle.std.proofs.lemmas.List.Kept.{AllPairs-from_increasing}
use Rattle.std.proofs.lemmas.Map.Keys.{IsStrictlyIncreasing-from_sorted}
use Rattle.mtn_ancestry.specs.Ancestors.{ParentsAreEarlier}
use Rattle.mtn_base.specs.Comps.{AreComps}
use Rattle.mtn_base.specs.Lists.{rises}
use Rattle.mtn_base.specs.Names.{bytes_cmp, name_cmp, same_bytes, same_name}
use Rattle.mtn_base.specs.Paths.{path_text}
use Rattle.mtn_base.specs.declared.name.NodeName.{NodeName}
use Rattle.mtn_base.proofs.Finding.{Split, later, found, finds_some}
use Rattle.mtn_base.proofs.Members.{head, split_cons}
use Rattle.mtn_base.proofs.Orders.{bytes_total, exact_names, names_total}
use Rattle.mtn_base.proofs.Sorting.{all_at, in_ordered, less_at, low_at, no_split, rest_rises, sorted_strictly}
use Rattle.mtn_base.proofs.Tests.{same_bytes-is, same_bytes-self, same_name-is, same_name-self}
use Rattle.mtn_entry_laws.specs.Entries.{IsLawfulEntry}
use Rattle.mtn_history_laws.specs.History.{Revision, parents_at}
use Rattle.mtn_history_laws.specs.Scalars.{Scalar, Value, value_at}
use Rattle.mtn_history_laws.specs.Scalars.Scalar.{SlotOf, ContentOf, AttrOf}
use Rattle.mtn_history_laws.proofs.Scalars.{never_back}
use Rattle.mtn_history_laws.proofs.Telling.{tell_value}
use Rattle.mtn_mark_laws.specs.Marks.{IsMarkOf}
use Rattle.mtn_mark_laws.specs.Marks.IsMarkOf.{here, onward}
use Rattle.mtn_mark_laws.proofs.Covering.{covers}
use Rattle.mtn_marking.specs.Graph.{AreMarksOf}
use Rattle.mtn_marking.specs.Marking.{MarkedTree, attr_marks_of as marks_of_key, marking_of, marks_of as marks_of_scalar, marks_in}
use Rattle.mtn_marking.specs.declared.node.AttrMarks.{AttrMarks}
use Rattle.mtn_marking.specs.declared.node.NodeMarks.{NodeMarks}
use Rattle.mtn_records.specs.Bounds.{AreUpTo, IsAttrWithin, IsBodyWithin, IsEntryWithin, IsWithin}
use Rattle.mtn_records.specs.Entries.{AreEntries, IsAttr, IsBody, IsEntry, IsHead, IsPath}
use Rattle.mtn_records.specs.Fields.{IsField, IsNumber, IsOption, IsSet}
use Rattle.mtn_records.specs.Records.{AreNumbers, IsRosterRecord}
use Rattle.mtn_records.specs.declared.entry.NumberedAttr.{NumberedAttr}
use Rattle.mtn_records.specs.declared.entry.NumberedBody.{NumberedBody}
use Rattle.mtn_records.specs.declared.entry.NumberedBody.TheVariants.{Dir, File}
use Rattle.mtn_records.specs.declared.entry.NumberedEntry.{NumberedEntry}
use Rattle.mtn_records.specs.declared.record.RosterRecord.{RosterRecord}
use Rattle.mtn_records.specs.declared.record.RosterRecord.TheVariants.{Whole, Delta}
use Rattle.mtn_replay.proofs.Places.{inside}
use Rattle.mtn_roster.specs.declared.entry.Attr.{Attr}
use Rattle.mtn_roster.specs.declared.entry.Entry.{Entry}
use Rattle.mtn_roster.specs.declared.entry.Slot.{Slot}
use Rattle.mtn_roster.specs.declared.entry.Slot.TheVariants.{Root, Below}
use Rattle.mtn_roster.specs.Tree.{attr_of as value_of_key, entry_of}
use Rattle.mtn_roster.proofs.Ordered.{forest_of}
use Rattle.mtn_roster_deltas.specs.Chain.{Entries, ascend, number_of}
use Rattle.mtn_roster_deltas.specs.Difference.{IsDeltaTo}
use Rattle.mtn_roster_deltas.specs.Spelled.{IsEntryOf, IsSlotOf, Spells, attr_marks_of, attr_of, by_node, content_marks_of, marks_of, node_of}
use Rattle.mtn_roster_deltas.proofs.Ascending.{cut_of, lt_by, map_same}
use Rattle.mtn_roster_deltas.proofs.ByNode.{by_node_rises}
use Rattle.mtn_put_revision.specs.Writing.{AreTyped, IsNextTree, IsTyped, IsTypedAttr, IsTypedBody, IsTypedEntry}

-- elements of a rising list that have one key are one
module _ {X K : Type 0} (cmp : K → K → Ordering) (key : X → K) (o : IsTotalOrder cmp) where
  not_below : (a b : X) → key a ≡ key b → cmp (key a) (key b) ≡ Less → ⊥
  not_below a b same less = let p = subst (λ k. cmp k (key b) ≡ Less) same less in let q = tied_itself o (key b) in cc

  one_by_key : (xs : List X) → rises cmp (map key xs) ≡ true → (x y : X) → Split xs x → Split xs y → key x ≡ key y → x ≡ y
  one_by_key [] up x y s t e = absurd (no_split x s)
  one_by_key (z ∷ xs) up x y s t e = elim (split_cons z xs x s) [
    | inl zx ↦ elim (split_cons z xs y t) [
      | inl zy ↦ sym zx ∙ zy
      | inr ty ↦ absurd (not_below z y (ap key zx ∙ e) (low_at cmp key o z xs y up ty))
    ]
    | inr sx ↦ elim (split_cons z xs y t) [
      | inl zy ↦ absurd (not_below z x (ap key zy ∙ sym e) (low_at cmp key o z xs x up sx))
      | inr ty ↦ one_by_key xs (rest_rises cmp key o z xs up) x y sx ty e
    ]
  ]

find_map : {X Y : Type 0} (p : Y → Bool) (g : X → Y) (xs : List X) → find p (map g xs) ≡ option_map g (find (λ x. p (g x)) xs)
find_map p g [] = refl
find_map p g (x ∷ xs) = elim (p (g x)) as (λ b. cond b (Some (g x)) (find p (map g xs)) ≡ option_map g (cond b (Some x) (find (λ z. p (g z)) xs))) [ true ↦ refl | false ↦ find_map p g xs ]

found_one : {X : Type 0} (test : X → Bool) (xs : List X) (x : X) → Split xs x → test x ≡ true → ((y : X) → Split xs y → test y ≡ true → y ≡ x) → find test xs ≡ Some x
found_one test xs x s t one = let f = finds_some test xs x s t in let g = found test xs f.0 f.1 in f.1 ∙ ap Some (one f.0 g.at g.passes)

beside : {A B : Type 0} (R : A → B → Type 0) (xs : List A) (ys : List B) → AllZip R xs ys → (x : A) → Split xs x → (y : B) × Split ys y × R x y
beside R [] ys z x s = absurd (no_split x s)
beside R (a ∷ xs) [] z x s = absurd z
beside R (a ∷ xs) (b ∷ ys) z x s = elim (split_cons a xs x s) [
  | inl e ↦ (b, head b ys, subst (λ w. R w b) e z.0)
  | inr t ↦ let r = beside R xs ys z.1 x t in (r.0, later b ys r.0 r.1, r.2)
]

some_of : {X : Type 0} (o : Option X) → IsSome o → (x : X) × (o ≡ Some x)
some_of None h = absurd cc
some_of (Some x) h = (x, refl)

all_by : {X : Type 0} (P : X → Type 0) (xs : List X) → ((x : X) → Contains xs x → P x) → All P xs
all_by P xs each k d fits = each (get_or xs k d) (All-contains_itself xs k d fits)

-- no mark is above the position that has it
mark_low : {V : Type 0} (parents : ℕ → List ℕ) (value : ℕ → Option V) → ParentsAreEarlier parents → {r x : ℕ} → IsMarkOf V parents value r x → x ≤ r
mark_low parents value earlier (here k) = omega arith
mark_low parents value earlier {r} (onward {p = p} not c e m) = let low = mark_low parents value earlier m in let lt = earlier r p c in omega (arith, low, lt)

-- ascending positions up to one are no more than it and those before it
rank : (xs : List ℕ) → IsStrictlyIncreasing xs → (k d : ℕ) → k < length xs → k ≤ get_or xs k d
rank xs rising zero d fits = omega arith
rank xs rising (suc k) d fits = let low = rank xs rising k d (omega (arith, fits)) in let up = AllPairs-from_increasing xs rising k (suc k) d (omega arith) fits in omega (arith, low, up)

few_up_to : (xs : List ℕ) (at : ℕ) → IsStrictlyIncreasing xs → AreUpTo at xs → length xs ≤ at + 1
few_up_to [] at rising low = omega arith
few_up_to (x ∷ xs) at rising low =
    let r = rank (x ∷ xs) rising (length xs) 0 (omega arith) in
    let l = low (length xs) 0 (omega arith) in
    omega (arith, r, l)

small : (n at : ℕ) → n ≤ at → at < 2147483648 → n < 2 ^ 64
small n at le low = omega (arith, le, low)

short_count : (n at : ℕ) → n ≤ at + 1 → at < 2147483648 → n < 2 ^ 32
short_count n at le low = omega (arith, le, low)

short_text : (n : ℕ) → n ≤ 67108864 → n < 2 ^ 32
short_text n le = omega (arith, le)

short_word : (n : ℕ) → n ≤ 255 → n < 2 ^ 32
short_word n le = omega (arith, le)

keys_same : (xs : List NumberedAttr) → map (λ (a : Attr). a.key) (map attr_of xs) ≡ map (λ (a : NumberedAttr). a.key) xs
keys_same [] = refl
keys_same (a ∷ xs) = ap (λ l. a.key ∷ l) (keys_same xs)

-- attributes by rising keys
module _ (xs : List NumberedAttr) (up : rises bytes_cmp (map (λ (a : NumberedAttr). a.key) xs) ≡ true) (a : NumberedAttr) (s : Split xs a) where
  own_key : find (λ (b : NumberedAttr). same_bytes b.key a.key) xs ≡ Some a
  own_key = found_one (λ (b : NumberedAttr). same_bytes b.key a.key) xs a s (same_bytes-self a.key) (λ b sb e. one_by_key bytes_cmp (λ (x : NumberedAttr). x.key) bytes_total xs up b a sb s (same_bytes-is b.key a.key e))

  own_value : value_of_key (map attr_of xs) a.key ≡ Some a.value
  own_value = ap (option_map (λ (x : Attr). x.value)) (find_map (λ (x : Attr). same_bytes x.key a.key) attr_of xs ∙ ap (option_map attr_of) own_key)

  own_marks : marks_of_key (map attr_marks_of xs) a.key ≡ Some a.marks
  own_marks = ap (option_map (λ (x : AttrMarks). x.marks)) (find_map (λ (x : AttrMarks). same_bytes x.key a.key) attr_marks_of xs ∙ ap (option_map attr_marks_of) own_key)

-- what a tree knows of an entry that spells it
record IsKnown (t : MarkedTree) (es : Entries) (e : NumberedEntry) : Type 0 where
  node : Entry
  there : entry_of t.tree e.node ≡ Some node
  among : Split t.tree node
  spelled : IsEntryOf es e node
  marking : marking_of t.marks e.node ≡ Some (marks_of e).marking

known_of : (t : MarkedTree) (es : Entries) → Spells es t → (e : NumberedEntry) → Contains es e → IsKnown t es e
known_of t es s e c =
    let at = in_ordered name_cmp node_of names_total same_name same_name-is same_name-self exact_names es s.apart e (cut_of es e c) in
    let b = beside (IsEntryOf es) (by_node es) t.tree s.tree e at in
    let one = found_one (λ (f : NumberedEntry). same_name f.node e.node) (by_node es) e at (same_name-self e.node) (λ f sf is. one_by_key name_cmp node_of names_total (by_node es) (by_node_rises es) f e sf at (same_name-is f.node e.node is)) in
    record {
      node = b.0;
      there = subst (λ n. entry_of t.tree n ≡ Some b.0) b.2.name ((forest_of t.tree s.sane).distinct b.0 b.1);
      among = b.1;
      spelled = b.2;
      marking = ap (λ ms. marking_of ms e.node) s.marks ∙ ap (option_map (λ (m : NodeMarks). m.marking)) (find_map (λ (m : NodeMarks). same_name m.name e.node) marks_of (by_node es) ∙ ap (option_map marks_of) one);
    }

module _ (h : List Revision) (v : Revision) (t : MarkedTree) (next : IsNextTree h v t) (es : Entries) (s : Spells es t) (at : ℕ) (is : length h ≡ at) (low : at < 2147483648) where
  -- the marks of a scalar that is there
  marks_fit : (x : Scalar) (marks : List ℕ) → IsStrictlyIncreasing marks → AreMarksOf (h ++ v ∷ []) (length h) x (Some marks) → IsSet marks × AreUpTo at marks
  marks_fit x marks rising are =
      let log = h ++ v ∷ [] in
      let up : AreUpTo at marks = all_by (λ p. p ≤ at) marks (λ p c. subst (λ n. p ≤ n) is (mark_low (parents_at log) (value_at log x) next.grown.earlier ((are.1 p).0 c))) in
      let value = some_of (value_at log x (length h)) are.0 in
      let mark = (covers Value tell_value (parents_at log) next.grown.earlier (value_at log x) (never_back log next.grown x) (length h) value.0 value.1).0 in
      let c = (are.1 mark.0).1 mark.1 in (
        record {
          some = omega (arith, c.1);
          few = short_count (length marks) at (few_up_to marks at rising up) low;
          each = recursion_from_All IsNumber marks (λ k d fits. small (get_or marks k d) at (up k d fits) low);
          ascending = rising;
        },
        up,
      )

  module _ (e : NumberedEntry) (typed : IsTypedEntry e) (k : IsKnown t es e) where
    scalar_fits : (x : Scalar) (marks : List ℕ) → IsStrictlyIncreasing marks → marks_in t.marks x ≡ Some marks → IsSet marks × AreUpTo at marks
    scalar_fits x marks rising told = marks_fit x marks rising (subst (AreMarksOf (h ++ v ∷ []) (length h) x) told (next.marked.marks x))

    slot_fits : IsSet e.slot_marks × AreUpTo at e.slot_marks
    slot_fits = scalar_fits (SlotOf e.node) e.slot_marks typed.slot (ap (option_and_then (marks_of_scalar (SlotOf e.node))) k.marking)

    body_fits : (b : NumberedBody) → e.body ≡ b → IsTypedBody b → IsBody b × IsBodyWithin at b
    body_fits Dir same ty = (tt, tt)
    body_fits (File content marks) same ty =
        let told : marks_in t.marks (ContentOf e.node) ≡ Some marks = ap (option_and_then (marks_of_scalar (ContentOf e.node))) k.marking ∙ ap content_marks_of same in
        let fits = scalar_fits (ContentOf e.node) marks ty.1 told in
        ((ty.0, fits.0), fits.1)

    keys_rise : rises bytes_cmp (map (λ (a : NumberedAttr). a.key) e.attrs) ≡ true
    keys_rise =
        let all = second_so _ _ s.sane.ordered in
        let one = all_at (λ (x : Entry). rises bytes_cmp (map (λ (a : Attr). a.key) x.attrs)) (λ x. x) t.tree k.node (ap (list_all (λ (x : Entry). rises bytes_cmp (map (λ (a : Attr). a.key) x.attrs))) (map_same t.tree) ∙ all) k.among in
        ap (rises bytes_cmp) (sym (keys_same e.attrs)) ∙ ap (λ (xs : List Attr). rises bytes_cmp (map (λ (a : Attr). a.key) xs)) (sym k.spelled.attrs) ∙ one

    lawful : IsLawfulEntry k.node
    lawful = next.entries e.node k.node k.there

    attr_fits : (a : NumberedAttr) → Contains e.attrs a → IsTypedAttr a → IsAttr a × IsAttrWithin at a
    attr_fits a c ty =
        let cut = cut_of e.attrs a c in
        let value = ap (λ (xs : List Attr). value_of_key xs a.key) k.spelled.attrs ∙ own_value e.attrs keys_rise a cut in
        let told : marks_in t.marks (AttrOf e.node a.key) ≡ Some a.marks = ap (option_and_then (marks_of_scalar (AttrOf e.node a.key))) k.marking ∙ own_marks e.attrs keys_rise a cut in
        let fits = scalar_fits (AttrOf e.node a.key) a.marks ty told in
        ((short_word (length a.key) (lawful.keys a.key (ap is_some value)).short, (by a.value value, fits.0)), fits.1)
      where
        by : (o : Option (List ℕ)) → value_of_key k.node.attrs a.key ≡ Some o → IsOption IsField o
        by None told = tt
        by (Some w) told = short_text (length w) (lawful.values a.key w told)

    slot_named : (x : Slot) → IsSlotOf es e x → IsField e.name × (e.parent ≡ 0 → e.name ≡ [])
    slot_named Root h = (subst IsField (sym h.1) (omega arith), λ z. h.1)
    slot_named (Below parent name) h = (subst IsField (sym h.2) (short_word (length name) h.3.short), λ z. absurd (omega (arith, z, h.0)))

    birth_low : e.birth_at ≤ at
    birth_low =
        let place = next.marked.births e.node (marks_of e).marking k.marking in
        let lt = inside (h ++ v ∷ []) e.birth_at place.0 place.1 in
        let long = length-append h (v ∷ []) in
        omega (arith, lt, long, is)

    path_fits : IsPath e.node.path
    path_fits = (subst (λ (n : NodeName). AreComps n.path) k.spelled.name lawful.birth, subst (λ (n : NodeName). IsField (path_text n.path)) k.spelled.name (short_text (length (path_text k.node.name.path)) lawful.short))

    head_fits : IsHead e
    head_fits = (typed.number, (small e.birth_at at birth_low low, ((typed.birth, path_fits), (tt, (typed.parent, ((slot_named k.node.slot k.spelled.slot).0, slot_fits.0))))))

    attrs_fit : All (λ (a : NumberedAttr). IsAttr a × IsAttrWithin at a) e.attrs
    attrs_fit i d fits = attr_fits (get_or e.attrs i d) (All-contains_itself e.attrs i d fits) (typed.attrs i d fits)

    entry_fits : IsEntry e × IsEntryWithin at e
    entry_fits =
        let body = body_fits e.body refl typed.body in (
          record {
            head = head_fits;
            body = body.0;
            attrs = record { few = typed.many; each = recursion_from_All IsAttr e.attrs (λ i d fits. (attrs_fit i d fits).0) };
            root = (slot_named k.node.slot k.spelled.slot).1;
            keys = λ i d fits. less_at bytes_cmp (λ (a : NumberedAttr). a.key) bytes_total e.attrs i (i + 1) d keys_rise (omega arith) fits;
          },
          record { birth = birth_low; slot = slot_fits.1; body = body.1; attrs = λ i d fits. (attrs_fit i d fits).1 },
        )

  less_is : (a b : ℕ) → nat_cmp a b ≡ Less → a < b
  less_is a b less = let e = sym (lt_by a b) ∙ ap is_lt less in grind (arith, nat_tests, e)

  -- some of the entries, by ascending numbers
  entries_fit : (cs : Entries) → ((e : NumberedEntry) → Contains cs e → Contains es e) → AreTyped cs → ascend cs ≡ true → AreEntries cs × All (IsEntryWithin at) cs
  entries_fit cs sub typed up =
      let each : All (λ (e : NumberedEntry). IsEntry e × IsEntryWithin at e) cs = λ i d fits. entry_fits (get_or cs i d) (typed.1 i d fits) (known_of t es s (get_or cs i d) (sub (get_or cs i d) (All-contains_itself cs i d fits))) in (
        record {
          list = record { few = typed.0; each = recursion_from_All IsEntry cs (λ i d fits. (each i d fits).0) };
          ascending = λ i d fits. less_is _ _ (less_at nat_cmp number_of nat_cmp_total cs i (i + 1) d up (omega arith) fits);
        },
        λ i d fits. (each i d fits).1,
      )

  pub whole_fits : AreTyped es → IsRosterRecord (Whole es) × IsWithin at (Whole es)
  whole_fits typed = entries_fit es (λ e c. c) typed s.ascending

  pub delta_fits : (below : Entries) (base depth : ℕ) (r : RosterRecord) → base < at → IsDeltaTo below base depth es r → IsTyped r → IsRosterRecord r × IsWithin at r
  delta_fits below base depth r lt d typed = subst (λ x. IsRosterRecord x × IsWithin at x) (sym d.is) (by (subst IsTyped d.is typed))
    where
      by : IsTyped (Delta base depth d.gone d.changed) → IsRosterRecord (Delta base depth d.gone d.changed) × IsWithin at (Delta base depth d.gone d.changed)
      by ty =
          let cs = entries_fit d.changed (λ e c. (d.difference.changed_are e c).0) ty.2 d.difference.changed_ascend in
          let gone : AreNumbers d.gone = record {
            list = record { few = ty.1.0; each = recursion_from_All IsNumber d.gone ty.1.1 };
            ascending = IsStrictlyIncreasing-from_sorted d.gone (sorted_strictly nat_cmp d.gone d.difference.gone_ascend);
          } in
          ((small base at (omega (arith, lt)) low, (ty.0, (gone, cs.0))), (lt, cs.1))
