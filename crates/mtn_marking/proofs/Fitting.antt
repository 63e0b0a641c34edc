-- What the tests of a marking against a roster tell.
use Rattle.std.specs.Prelude.{◌↔◌, IsTrue, map, not, is_some}
use Rattle.std.proofs.Common.{◌≡◌, ℕ, zero, suc, ◌+◌, ◌<◌, ◌≤◌, Bool, true, false, List, [], ◌∷◌, ◌++◌, length, take, get_or, refl, sym, ◌∙◌, ap, subst, arith}
use mathlib.Core.Bool.{beq}
use Rattle.std.specs.Cmp.Lexicographic.{bytes_decides}
use Rattle.std.proofs.lemmas.List.{take_more}
use Rattle.mtn_base.specs.Names.{same_bytes, same_name}
use Rattle.mtn_roster.specs.declared.entry.Attr.{Attr}
use Rattle.mtn_roster.specs.declared.entry.Entry.{Entry}
use Rattle.mtn_roster.specs.Tree.{Tree, is_dir}
use Rattle.mtn_roster.proofs.Stops.{map-snoc}
use Rattle.mtn_base.proofs.Tests.{same_name-is, same_name-self}
use Rattle.mtn_marking.specs.declared.node.AttrMarks.{AttrMarks}
use Rattle.mtn_marking.specs.declared.node.NodeMarks.{NodeMarks}
use Rattle.mtn_marking.specs.Marking.{Marks, IsFor, AreFor}
use Rattle.mtn_marking.specs.Parts.{IsForAt}
use Rattle.mtn_marking.proofs.Telling.{key_of, key_in}
use Rattle.mtn_marking.proofs.Zips.{take_past}

-- one more key of each
pub keys_more : (attrs : List Attr) (marks : List AttrMarks) (i : ℕ) (a : Attr) (m : AttrMarks) → i < length attrs → i < length marks →
    a ≡ get_or attrs i a → m ≡ get_or marks i m → a.key ≡ m.key →
    map key_in (take i marks) ≡ map key_of (take i attrs) → map key_in (take (i + 1) marks) ≡ map key_of (take (i + 1) attrs)
keys_more attrs marks i a m la lm ea em e h =
    ap (map key_in) (take_more marks i m lm ∙ ap (λ z. take i marks ++ z ∷ []) (sym em)) ∙ map-snoc key_in (take i marks) m
    ∙ (λ j. h j ++ sym e j ∷ [])
    ∙ sym (ap (map key_of) (take_more attrs i a la ∙ ap (λ z. take i attrs ++ z ∷ []) (sym ea)) ∙ map-snoc key_of (take i attrs) a)

pub keys_all : (attrs : List Attr) (marks : List AttrMarks) (i : ℕ) → length attrs ≡ length marks → length attrs ≤ i →
    map key_in (take i marks) ≡ map key_of (take i attrs) → map key_in marks ≡ map key_of attrs
keys_all attrs marks i e le h =
    ap (map key_in) (sym (take_past marks i (subst (λ n. n ≤ i) e le))) ∙ h ∙ ap (map key_of) (take_past attrs i le)

pub keys_long : (attrs : List Attr) (marks : List AttrMarks) → map key_in marks ≡ map key_of attrs → length attrs ≡ length marks
keys_long [] [] h = refl
keys_long [] (m ∷ marks) h = absurd cc
keys_long (a ∷ attrs) [] h = absurd cc
keys_long (a ∷ attrs) (m ∷ marks) h = let t : map key_in marks ≡ map key_of attrs = cc in ap suc (keys_long attrs marks t)

pub like : (a b : Bool) → beq a b ≡ true → a ≡ b
like true true h = refl
like true false h = absurd cc
like false true h = absurd cc
like false false h = refl

pub not_like : (a b : Bool) → beq a b ≡ false → a ≡ b → ⊥
not_like true true h e = cc
not_like true false h e = cc
not_like false true h e = cc
not_like false false h e = cc

pub equal_by : (a b : List ℕ) (ne : Bool) → ne ≡ not (same_bytes a b) → ne ≡ false → a ≡ b
equal_by a b ne e f = (bytes_decides a b).0 (not_false (same_bytes a b) (sym e ∙ f))
  where
    not_false : (r : Bool) → not r ≡ false → r ≡ true
    not_false true g = refl
    not_false false g = absurd cc

pub unequal_by : (a b : List ℕ) (ne : Bool) → ne ≡ not (same_bytes a b) → ne ≡ true → a ≡ b → ⊥
unequal_by a b ne e f d = let g : not (same_bytes a b) ≡ false = ap not ((bytes_decides a b).1 d) in cc

unlike : (a b : Bool) → (a ≡ b → ⊥) → a ≡ not b
unlike true true h = absurd (h refl)
unlike true false h = refl
unlike false true h = refl
unlike false false h = absurd (h refl)

never_not : (b : Bool) → b ≡ not b → ⊥
never_not true h = cc
never_not false h = cc

module _ (e : Entry) (m : NodeMarks) where
  pub other_name : same_name m.name e.name ≡ false → IsFor e m → ⊥
  other_name h f =
      let a : same_name m.name e.name ≡ true = ap (λ n. same_name n e.name) f.name ∙ same_name-self e.name in
      cc

  pub other_kind : is_some m.marking.content ≡ is_dir e → IsFor e m → ⊥
  other_kind h f = never_not (is_dir e) (sym h ∙ f.content)

  pub by_keys : (r : Bool) → same_name m.name e.name ≡ true → (is_some m.marking.content ≡ is_dir e → ⊥) →
      IsTrue r ↔ (map key_in m.marking.attrs ≡ map key_of e.attrs) → IsTrue r ↔ IsFor e m
  by_keys r name kind keys = (
    λ t. record { name = same_name-is m.name e.name name; content = unlike (is_some m.marking.content) (is_dir e) kind; keys = keys.0 t },
    λ f. keys.1 f.keys,
  )

pub for_long : (t : Tree) (ms : Marks) → AreFor t ms → length t ≡ length ms
for_long [] [] h = refl
for_long [] (m ∷ ms) h = absurd h
for_long (e ∷ t) [] h = absurd h
for_long (e ∷ t) (m ∷ ms) h = ap suc (for_long t ms h.1)

pub for_each : (t : Tree) (ms : Marks) → AreFor t ms → (k : ℕ) → k < length t → IsForAt t ms k
for_each [] ms h k lt = absurd (omega (arith, lt))
for_each (e ∷ t) [] h k lt = absurd h
for_each (e ∷ t) (m ∷ ms) h zero lt = h.0
for_each (e ∷ t) (m ∷ ms) h (suc k) lt = for_each t ms h.1 k (omega (arith, lt))

pub for_all : (t : Tree) (ms : Marks) → length t ≡ length ms → ((k : ℕ) → k < length t → IsForAt t ms k) → AreFor t ms
for_all [] [] e h = tt
for_all [] (m ∷ ms) e h = absurd (omega (arith, e))
for_all (x ∷ t) [] e h = absurd (omega (arith, e))
for_all (x ∷ t) (m ∷ ms) e h = (h 0 (omega arith), for_all t ms (omega (arith, e)) (λ k lt. h (suc k) (omega (arith, lt))))
