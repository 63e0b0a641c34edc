-- Marks that are for a tree are those of exactly its nodes and their scalars.
use Rattle.std.specs.Prelude.{◌↔◌, IsSome, is_some, not, map, find, option_map, option_and_then}
use Rattle.std.proofs.Common.{◌≡◌, Bool, true, false, cond, List, [], ◌∷◌, Option, Some, refl, sym, ◌∙◌, ap, ℕ}
use Rattle.mtn_base.specs.Names.{same_bytes}
use Rattle.mtn_base.specs.declared.name.NodeName.{NodeName}
use Rattle.mtn_history_laws.specs.Scalars.{Scalar, node_of, content_of, value_of, value_in}
use Rattle.mtn_history_laws.specs.Scalars.Scalar.{SlotOf, ContentOf, AttrOf}
use Rattle.mtn_history_laws.specs.Scalars.Value.{ContentValue, AttrValue}
use Rattle.mtn_roster.specs.declared.entry.Attr.{Attr}
use Rattle.mtn_roster.specs.declared.entry.Body.{Body}
use Rattle.mtn_roster.specs.declared.entry.Body.TheVariants.{Dir, File}
use Rattle.mtn_roster.specs.declared.entry.Entry.{Entry}
use Rattle.mtn_roster.specs.Tree.{Tree, entry_of, attr_of, is_dir_body}
use Rattle.mtn_marking.specs.declared.node.AttrMarks.{AttrMarks}
use Rattle.mtn_marking.specs.declared.node.NodeMarks.{NodeMarks}
use Rattle.mtn_marking.specs.Marking.{Marks, IsFor, AreFor, marking_of, marks_of, marks_in, attr_marks_of}
use Rattle.mtn_marking.proofs.Telling.{key_of, key_in}
use Rattle.mtn_marking.proofs.Zips.{at_name}

both_ways : {A B : Type 0} (a : Option A) (b : Option B) → is_some a ≡ is_some b → IsSome a ↔ IsSome b
both_ways a b e = (λ h. sym e ∙ h, λ h. e ∙ h)

content_same : (body : Body) (m : Option (List ℕ)) → is_some m ≡ not (is_dir_body body) → is_some (option_map ContentValue (content_of body)) ≡ is_some m
content_same Dir m e = sym e
content_same (File content) m e = sym e

attr_same : (attrs : List Attr) (marks : List AttrMarks) → map key_in marks ≡ map key_of attrs → (k : List ℕ) →
    is_some (option_map AttrValue (attr_of attrs k)) ≡ is_some (attr_marks_of marks k)
attr_same [] [] e k = refl
attr_same [] (m ∷ marks) e k = absurd cc
attr_same (a ∷ attrs) [] e k = absurd cc
attr_same (a ∷ attrs) (m ∷ marks) e k =
    let key : m.key ≡ a.key = cc in
    let rest : map key_in marks ≡ map key_of attrs = cc in
    at a m (find (λ (a : Attr). same_bytes a.key k) attrs) (find (λ (m : AttrMarks). same_bytes m.key k) marks) (same_bytes a.key k) (attr_same attrs marks rest k)
    ∙ ap (λ q. is_some (option_map (λ (m : AttrMarks). m.marks) (cond (same_bytes q k) (Some m) (find (λ (m : AttrMarks). same_bytes m.key k) marks)))) (sym key)
  where
    at : (a : Attr) (m : AttrMarks) (oa : Option Attr) (om : Option AttrMarks) (r : Bool) →
        is_some (option_map AttrValue (option_map (λ (a : Attr). a.value) oa)) ≡ is_some (option_map (λ (m : AttrMarks). m.marks) om) →
        is_some (option_map AttrValue (option_map (λ (a : Attr). a.value) (cond r (Some a) oa))) ≡ is_some (option_map (λ (m : AttrMarks). m.marks) (cond r (Some m) om))
    at a m oa om true h = refl
    at a m oa om false h = h

scalar_same : (s : Scalar) (e : Entry) (m : NodeMarks) → IsFor e m → IsSome (value_of s e) ↔ IsSome (marks_of s m.marking)
scalar_same (SlotOf n) e m h = (λ _. refl, λ _. refl)
scalar_same (ContentOf n) e m h = both_ways (option_map ContentValue (content_of e.body)) m.marking.content (content_same e.body m.marking.content h.content)
scalar_same (AttrOf n k) e m h = both_ways (option_map AttrValue (attr_of e.attrs k)) (attr_marks_of m.marking.attrs k) (attr_same e.attrs m.marking.attrs h.keys k)

pub nodes_exact : (t : Tree) (ms : Marks) → AreFor t ms → (n : NodeName) → IsSome (entry_of t n) ↔ IsSome (marking_of ms n)
nodes_exact t ms h n = at_name IsFor (λ e m f. f.name) n (λ e m. IsSome e ↔ IsSome m) (λ k. k, λ k. k) (λ e m g f. (λ _. refl, λ _. refl)) t ms h

pub scalars_exact : (t : Tree) (ms : Marks) → AreFor t ms → (s : Scalar) → IsSome (value_in t s) ↔ IsSome (marks_in ms s)
scalars_exact t ms h s =
    at_name IsFor (λ e m f. f.name) (node_of s) (λ e m. IsSome (option_and_then (value_of s) e) ↔ IsSome (option_and_then (marks_of s) m)) (λ k. k, λ k. k)
    (λ e m g f. scalar_same s e m f) t ms h
