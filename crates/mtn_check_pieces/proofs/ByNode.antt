-- Marks by the rule are so node by node, and those of one tree are alike.
use Rattle.std.specs.Prelude.{map, find, slice_get, option_map, option_and_then}
use Rattle.std.specs.List.{AllZip}
use Rattle.std.proofs.Common.{◌≡◌, ℕ, zero, suc, ◌<◌, true, List, [], ◌∷◌, length, Option, Some, None, refl, sym, ap, ◌∙◌, subst}
use Rattle.mtn_base.specs.Lists.{rises}
use Rattle.mtn_base.specs.Names.{name_cmp, bytes_cmp, same_name, same_bytes}
use Rattle.mtn_base.specs.declared.name.NodeName.{NodeName}
use Rattle.mtn_base.proofs.Orders.{names_total, exact_names, bytes_total, exact_bytes}
use Rattle.mtn_base.proofs.Sorting.{long_map}
use Rattle.mtn_base.proofs.Tests.{same_name-is, same_name-self, same_bytes-is, same_bytes-self}
use Rattle.std.specs.Cmp.{first_so}
use Rattle.mtn_history_laws.specs.Scalars.{Scalar, Value, value_of, value_in}
use Rattle.mtn_history_laws.specs.Scalars.Scalar.{SlotOf, ContentOf, AttrOf}
use Rattle.mtn_roster.specs.declared.entry.Entry.{Entry}
use Rattle.mtn_roster.specs.Tree.{Tree, IsSane, entry_of}
use Rattle.mtn_roster.proofs.Along.{keyed}
use Rattle.mtn_marking.specs.declared.node.AttrMarks.{AttrMarks}
use Rattle.mtn_marking.specs.declared.node.Marking.{Marking}
use Rattle.mtn_marking.specs.declared.node.NodeMarks.{NodeMarks}
use Rattle.mtn_marking.specs.Marking.{Marks, Basis, IsFor, AreFor, marks_of, marks_in, marking_of, attr_marks_of, birth_by, AreByRule, AreAllByRule, HaveBirths}
use Rattle.mtn_marking.specs.Parts.{IsMarkedNode}
use Rattle.mtn_marking.proofs.Keyed.{found_there}
use Rattle.mtn_marking.proofs.ByName.{name_of}
use Rattle.mtn_marking.proofs.Telling.{key_of, key_in}
use Rattle.mtn_check_pieces.specs.Same.{BothHaveSame, IsLikeAttr, IsLike, AreLike}
use Rattle.mtn_roster_deltas.proofs.Zipping.{zip_long, zip_get, zip_places, place_within, at_place}

abbrev entry_name : Entry → NodeName
entry_name e = e.name

-- the names of a tree ascend
names_rise : (t : Tree) → IsSane t → rises name_cmp (map entry_name t) ≡ true
names_rise t sane = first_so _ _ sane.ordered

same_names : (t : Tree) (ms : Marks) → AreFor t ms → map name_of ms ≡ map entry_name t
same_names [] [] f = refl
same_names [] (m ∷ ms) f = absurd f
same_names (e ∷ t) [] f = absurd f
same_names (e ∷ t) (m ∷ ms) f = λ i. f.0.name i ∷ same_names t ms f.1 i

module _ (t : Tree) (sane : IsSane t) where
  -- what stands at a place of the tree is found by its name
  pub own_entry : (k : ℕ) (e : Entry) → slice_get t k ≡ Some e → entry_of t e.name ≡ Some e
  own_entry k e at = found_there name_cmp entry_name same_name names_total same_name-is same_name-self exact_names t (names_rise t sane) k e at

  -- and so of its marks
  module _ (ms : Marks) (fit : AreFor t ms) where
    own_node : (k : ℕ) (m : NodeMarks) → slice_get ms k ≡ Some m → find (λ (x : NodeMarks). same_name x.name m.name) ms ≡ Some m
    own_node k m at = found_there name_cmp name_of same_name names_total same_name-is same_name-self exact_names ms (ap (rises name_cmp) (same_names t ms fit) ∙ names_rise t sane) k m at

    own_marking : (k : ℕ) (e : Entry) (m : NodeMarks) → slice_get ms k ≡ Some m → m.name ≡ e.name → marking_of ms e.name ≡ Some m.marking
    own_marking k e m at name = ap (marking_of ms) (sym name) ∙ ap (option_map (λ (x : NodeMarks). x.marking)) (own_node k m at)

    -- each node has the marks of the rule and its birth
    pub by_node : (b : Basis) → AreAllByRule b t ms → HaveBirths b t ms → AllZip (IsMarkedNode b) t ms
    by_node b rule births = zip_places (IsMarkedNode b) t ms (zip_long IsFor t ms fit) each
      where
        each : (k : ℕ) (e : Entry) (m : NodeMarks) → slice_get t k ≡ Some e → slice_get ms k ≡ Some m → IsMarkedNode b e m
        each k e m at am =
            let f = zip_get IsFor t ms k e m fit at am in
            let there = own_entry k e at in
            let marked = own_marking k e m am f.name in
            let birth : Some m.marking.birth ≡ Some (birth_by b e.name) =
            sym (ap (option_map (λ (x : Marking). x.birth)) marked) ∙ births e.name ∙ ap (option_map (λ (x : Entry). birth_by b e.name)) there in
            record {
              fits = f;
              birth = cc;
              each = λ s own.
                  let value : value_in t s ≡ value_of s e = ap (λ n. option_and_then (value_of s) (entry_of t n)) own ∙ ap (option_and_then (value_of s)) there in
                  let marks : marks_in ms s ≡ marks_of s m.marking = ap (λ n. option_and_then (marks_of s) (marking_of ms n)) own ∙ ap (option_and_then (marks_of s)) marked in
                  subst (λ v. AreByRule b s v (marks_of s m.marking)) value (subst (AreByRule b s (value_in t s)) marks (rule s));
            }

-- the rule gives one set
rule_same : (b : Basis) (s : Scalar) (v : Option Value) (a c : Option (List ℕ)) → AreByRule b s v a → AreByRule b s v c → BothHaveSame a c
rule_same b s None None None p q = tt
rule_same b s None None (Some c) p q = absurd q
rule_same b s None (Some a) c p q = absurd p
rule_same b s (Some v) None c p q = absurd p
rule_same b s (Some v) (Some a) None p q = absurd q
rule_same b s (Some v) (Some a) (Some c) p q = λ x. (λ h. (q x).1 ((p x).0 h), λ h. (p x).1 ((q x).0 h))

keys_length : (xs ys : List AttrMarks) → map key_in xs ≡ map key_in ys → length xs ≡ length ys
keys_length xs ys e = sym (long_map key_in xs) ∙ ap length e ∙ long_map key_in ys

keys_get : (xs ys : List AttrMarks) (k : ℕ) (x y : AttrMarks) → map key_in xs ≡ map key_in ys → slice_get xs k ≡ Some x → slice_get ys k ≡ Some y → x.key ≡ y.key
keys_get xs ys k x y e ax ay =
    let t : Some x.key ≡ Some y.key = sym (key_at xs k x ax) ∙ ap (λ (l : List (List ℕ)). slice_get l k) e ∙ key_at ys k y ay in cc
  where
    key_at : (zs : List AttrMarks) (i : ℕ) (z : AttrMarks) → slice_get zs i ≡ Some z → slice_get (map key_in zs) i ≡ Some z.key
    key_at [] i z at = absurd cc
    key_at (w ∷ zs) zero z at = let d : w ≡ z = cc in ap (λ (u : AttrMarks). Some u.key) d
    key_at (w ∷ zs) (suc i) z at = key_at zs i z at

-- an attribute's marks are found by its key
own_attr : (xs : List AttrMarks) → rises bytes_cmp (map key_in xs) ≡ true → (k : ℕ) (x : AttrMarks) → slice_get xs k ≡ Some x → attr_marks_of xs x.key ≡ Some x.marks
own_attr xs rise k x at =
    ap (option_map (λ (a : AttrMarks). a.marks)) (found_there bytes_cmp key_in same_bytes bytes_total same_bytes-is same_bytes-self exact_bytes xs rise k x at)

module _ (b : Basis) (e : Entry) (keys : rises bytes_cmp (map key_of e.attrs) ≡ true) (m n : NodeMarks) (p : IsMarkedNode b e m) (q : IsMarkedNode b e n) where
  like_attrs : AllZip IsLikeAttr m.marking.attrs n.marking.attrs
  like_attrs = zip_places IsLikeAttr m.marking.attrs n.marking.attrs (keys_length m.marking.attrs n.marking.attrs one) each
    where
      one : map key_in m.marking.attrs ≡ map key_in n.marking.attrs
      one = p.fits.keys ∙ sym q.fits.keys

      each : (k : ℕ) (x y : AttrMarks) → slice_get m.marking.attrs k ≡ Some x → slice_get n.marking.attrs k ≡ Some y → IsLikeAttr x y
      each k x y ax ay =
          let key = keys_get m.marking.attrs n.marking.attrs k x y one ax ay in
          let mine = own_attr m.marking.attrs (ap (rises bytes_cmp) p.fits.keys ∙ keys) k x ax in
          let other = own_attr n.marking.attrs (ap (rises bytes_cmp) q.fits.keys ∙ keys) k y ay in
          let s = AttrOf e.name x.key in
          record {
            key = key;
            marks = rule_same b s (value_of s e) (Some x.marks) (Some y.marks)
                (subst (AreByRule b s (value_of s e)) mine (p.each s refl))
                (subst (AreByRule b s (value_of s e)) (ap (attr_marks_of n.marking.attrs) key ∙ other) (q.each s refl));
          }

  like_node : IsLike m n
  like_node = record {
    name = p.fits.name ∙ sym q.fits.name;
    birth = p.birth ∙ sym q.birth;
    slot = rule_same b (SlotOf e.name) (value_of (SlotOf e.name) e) (Some m.marking.slot) (Some n.marking.slot) (p.each (SlotOf e.name) refl) (q.each (SlotOf e.name) refl);
    content = rule_same b (ContentOf e.name) (value_of (ContentOf e.name) e) m.marking.content n.marking.content (p.each (ContentOf e.name) refl) (q.each (ContentOf e.name) refl);
    attrs = like_attrs;
  }

-- the marks and births of a tree on one basis are alike
pub like_marks : (t : Tree) → IsSane t → (b : Basis) (c s : Marks) → AllZip (IsMarkedNode b) t c → AllZip (IsMarkedNode b) t s → AreLike c s
like_marks t sane b c s zc zs = zip_places IsLike c s (sym (zip_long (IsMarkedNode b) t c zc) ∙ zip_long (IsMarkedNode b) t s zs) each
  where
    each : (k : ℕ) (m n : NodeMarks) → slice_get c k ≡ Some m → slice_get s k ≡ Some n → IsLike m n
    each k m n am an =
        let within : k < length t = subst (λ l. k < l) (sym (zip_long (IsMarkedNode b) t c zc)) (place_within c k m am) in
        let e = at_place t k within in
        like_node b e.0 (keyed t sane e.0 (own_entry t sane k e.0 e.1)) m n
        (zip_get (IsMarkedNode b) t c k e.0 m zc e.1 am) (zip_get (IsMarkedNode b) t s k e.0 n zs e.1 an)
