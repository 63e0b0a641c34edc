-- A node of a marked tree: its entry and its marking stand at one place.
use Rattle.std.specs.Prelude.{map, find, option_map, slice_get}
use Rattle.std.specs.List.{list_all}
use Rattle.std.specs.Cmp.{first_so, second_so}
use Rattle.std.proofs.Common.{◌≡◌, ℕ, zero, suc, ◌<◌, true, [], ◌∷◌, length, Some, None, sym, ◌∙◌, subst, arith}
use Rattle.mtn_base.specs.Names.{same_name, name_cmp, bytes_cmp}
use Rattle.mtn_base.specs.declared.name.NodeName.{NodeName}
use Rattle.mtn_roster.specs.declared.entry.Attr.{Attr}
use Rattle.mtn_roster.specs.declared.entry.Entry.{Entry}
use Rattle.mtn_roster.specs.Tree.{Tree, entry_of, IsSane}
use Rattle.mtn_base.specs.Lists.{rises}
use Rattle.mtn_base.proofs.Finding.{found}
use Rattle.mtn_base.proofs.Orders.{names_total, exact_names}
use Rattle.mtn_base.proofs.Tests.{same_name-is, same_name-self}
use Rattle.mtn_marking.specs.declared.node.NodeMarks.{NodeMarks}
use Rattle.mtn_marking.specs.Marking.{Marks, IsFor, AreFor, known_in, paired}
use Rattle.mtn_marking.proofs.Keyed.{found_there}

pub for_at : (t : Tree) (ms : Marks) → AreFor t ms → (i : ℕ) (e : Entry) (m : NodeMarks) → slice_get t i ≡ Some e → slice_get ms i ≡ Some m → IsFor e m
for_at [] ms h i e m et em = absurd cc
for_at (f ∷ t) [] h i e m et em = absurd h
for_at (f ∷ t) (n ∷ ms) h zero e m et em = let d : f ≡ e = cc in let g : n ≡ m = cc in subst (λ z. IsFor z m) d (subst (IsFor f) g h.0)
for_at (f ∷ t) (n ∷ ms) h (suc i) e m et em = for_at t ms h.1 i e m et em

pub not_lacking : (t : Tree) (ms : Marks) → AreFor t ms → (i : ℕ) → i < length ms → None ≡ slice_get t i → ⊥
not_lacking [] [] h i lt e = omega (arith, lt)
not_lacking [] (n ∷ ms) h i lt e = h
not_lacking (f ∷ t) [] h i lt e = h
not_lacking (f ∷ t) (n ∷ ms) h zero lt e = cc
not_lacking (f ∷ t) (n ∷ ms) h (suc i) lt e = not_lacking t ms h.1 i (omega (arith, lt)) e

pub keys_rise : (t : Tree) → IsSane t → (i : ℕ) (e : Entry) → slice_get t i ≡ Some e → rises bytes_cmp (map (λ (a : Attr). a.key) e.attrs) ≡ true
keys_rise t sane = at t (second_so (rises name_cmp (map (λ (e : Entry). e.name) t)) _ sane.ordered)
  where
    at : (us : Tree) → list_all (λ (e : Entry). rises bytes_cmp (map (λ (a : Attr). a.key) e.attrs)) us ≡ true → (i : ℕ) (e : Entry) → slice_get us i ≡ Some e →
        rises bytes_cmp (map (λ (a : Attr). a.key) e.attrs) ≡ true
    at [] h i e is = absurd cc
    at (f ∷ us) h zero e is = let d : f ≡ e = cc in subst (λ (z : Entry). rises bytes_cmp (map (λ (a : Attr). a.key) z.attrs) ≡ true) d (first_so _ _ h)
    at (f ∷ us) h (suc i) e is = at us (second_so (rises bytes_cmp (map (λ (a : Attr). a.key) f.attrs)) _ h) i e is

pub names_rise : (t : Tree) → IsSane t → rises name_cmp (map (λ (e : Entry). e.name) t) ≡ true
names_rise t sane = first_so _ _ sane.ordered

pub known_at : (t : Tree) (ms : Marks) → IsSane t → AreFor t ms → (n : NodeName) (i : ℕ) (e : Entry) (m : NodeMarks) →
    slice_get t i ≡ Some e → slice_get ms i ≡ Some m → slice_get ms i ≡ find (λ (m : NodeMarks). same_name m.name n) ms →
    Some (e, m.marking) ≡ known_in (record { tree = t; marks = ms }) n
known_at t ms sane for n i e m et em f =
    let hit : find (λ (m : NodeMarks). same_name m.name n) ms ≡ Some m = sym f ∙ em in
    let name : m.name ≡ n = same_name-is m.name n (found (λ (m : NodeMarks). same_name m.name n) ms m hit).passes in
    let there = found_there name_cmp (λ (e : Entry). e.name) same_name names_total same_name-is same_name-self exact_names t (names_rise t sane) i e et in
    let entry : entry_of t n ≡ Some e = subst (λ q. entry_of t q ≡ Some e) (sym (for_at t ms for i e m et em).name ∙ name) there in
    sym (λ j. paired (entry j) (option_map (λ (m : NodeMarks). m.marking) (hit j)))
