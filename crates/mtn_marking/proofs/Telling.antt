-- What tests of values tell, and what a look-up of an attribute does.
use Rattle.std.specs.Prelude.{IsTrue, map, find, option_map, slice_get}
use Rattle.std.proofs.Common.{◌≡◌, ◌↔◌, ℕ, zero, suc, true, List, [], ◌∷◌, Option, Some, sym, ◌∙◌, ap, subst}
use Rattle.mtn_base.specs.Names.{same_bytes, bytes_cmp}
use Rattle.mtn_history_laws.specs.Scalars.Value.{AttrValue}
use Rattle.mtn_roster.specs.declared.entry.Attr.{Attr}
use Rattle.mtn_base.specs.Lists.{rises}
use Rattle.mtn_roster.specs.Tree.{attr_of}
use Rattle.mtn_base.proofs.Finding.{found}
use Rattle.mtn_base.proofs.Orders.{bytes_total, exact_bytes}
use Rattle.mtn_base.proofs.Tests.{same_bytes-is, same_bytes-self}
use Rattle.mtn_marking.specs.declared.node.AttrMarks.{AttrMarks}
use Rattle.mtn_marking.specs.declared.side.Have.{Have}
use Rattle.mtn_marking.specs.Marking.{side, attr_marks_of}
use Rattle.mtn_marking.specs.Parts.{TellsSide}
use Rattle.mtn_marking.proofs.Keyed.{found_there}

abbrev pub key_of : Attr → List ℕ
key_of a = a.key

abbrev pub key_in : AttrMarks → List ℕ
key_in a = a.key

-- equal keys at equal places
pub same_key : (attrs : List Attr) (marks : List AttrMarks) → map key_in marks ≡ map key_of attrs → (i : ℕ) (a : Attr) (m : AttrMarks) →
    slice_get attrs i ≡ Some a → slice_get marks i ≡ Some m → m.key ≡ a.key
same_key [] marks e i a m ea em = absurd cc
same_key (b ∷ attrs) [] e i a m ea em = absurd cc
same_key (b ∷ attrs) (n ∷ marks) e zero a m ea em = let d : b ≡ a = cc in let f : n ≡ m = cc in let g : n.key ≡ b.key = cc in sym (ap key_in f) ∙ g ∙ ap key_of d
same_key (b ∷ attrs) (n ∷ marks) e (suc i) a m ea em = let t : map key_in marks ≡ map key_of attrs = cc in same_key attrs marks t i a m ea em

-- what stands at the place of a key
pub attr_there : (attrs : List Attr) (marks : List AttrMarks) → rises bytes_cmp (map key_of attrs) ≡ true → map key_in marks ≡ map key_of attrs →
    (k : List ℕ) (i : ℕ) (a : Attr) (m : AttrMarks) → slice_get attrs i ≡ Some a → slice_get marks i ≡ Some m →
    slice_get attrs i ≡ find (λ (a : Attr). same_bytes a.key k) attrs →
    (attr_of attrs k ≡ Some a.value) × (attr_marks_of marks k ≡ Some m.marks)
attr_there attrs marks h e k i a m ea em f =
    let hit : find (λ (a : Attr). same_bytes a.key k) attrs ≡ Some a = sym f ∙ ea in
    let key : a.key ≡ k = same_bytes-is a.key k (found (λ (a : Attr). same_bytes a.key k) attrs a hit).passes in
    let there = found_there bytes_cmp key_in same_bytes bytes_total same_bytes-is same_bytes-self exact_bytes marks (ap (rises bytes_cmp) e ∙ h) i m em in
    let hit' : find (λ (m : AttrMarks). same_bytes m.key k) marks ≡ Some m =
    subst (λ q. find (λ (m : AttrMarks). same_bytes m.key q) marks ≡ Some m) (same_key attrs marks e i a m ea em ∙ key) there in
    (ap (option_map (λ (a : Attr). a.value)) hit, ap (option_map (λ (m : AttrMarks). m.marks)) hit')

pub told_attr : (v w : Option (List ℕ)) (o : Option (Option (List ℕ))) (marks : Option (List ℕ)) (set : List ℕ) (h : Have) →
    o ≡ Some w → marks ≡ Some set → IsTrue h.equal ↔ (v ≡ w) → h.marks.now ≡ set → TellsSide (AttrValue v) (side (option_map AttrValue o) marks) (Some h)
told_attr v w o marks set h eo em t e =
    subst (λ z. TellsSide (AttrValue v) (side (option_map AttrValue z) marks) (Some h)) (sym eo)
    (subst (λ z. TellsSide (AttrValue v) (side (Some (AttrValue w)) z) (Some h)) (sym em)
    ((λ k. ap AttrValue (t.0 k), λ d. t.1 (let g : v ≡ w = cc in g)), e))
