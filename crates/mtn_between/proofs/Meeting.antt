-- The nodes along a walk, and their mates.
use Rattle.std.specs.Prelude.{IfSome, option_map, option_and_then, slice_get}
use Rattle.std.proofs.Common.{◌≡◌, ℕ, zero, suc, ◌+◌, ◌<◌, true, List, [], ◌∷◌, ◌++◌, length, get_or, Option, Some, None, refl, sym, ◌∙◌, ap, subst, arith, inl, inr}
use Rattle.std.proofs.lemmas.Bool.{cases_lt}
use Rattle.std.proofs.lemmas.Option.{slice_get-get_or}
use Rattle.mtn_base.specs.Names.{same_name}
use Rattle.mtn_base.specs.declared.name.NodeName.{NodeName}
use Rattle.mtn_roster.specs.declared.entry.Entry.{Entry}
use Rattle.mtn_roster.specs.declared.walk.Stop.{Stop}
use Rattle.std.specs.Option.{option_map_or}
use Rattle.mtn_roster.specs.Attrs.{are_keyed}
use Rattle.mtn_between.specs.Between.{attrs_before}
use Rattle.mtn_roster.specs.Tree.{Tree, entry_of, IsSane}
use Rattle.mtn_roster.specs.Walk.{by_path, AreStops}
use Rattle.mtn_base.proofs.Finding.{Split}
use Rattle.mtn_base.proofs.Members.{taken}
use Rattle.mtn_base.proofs.Tests.{same_name-is}
use Rattle.mtn_roster.proofs.Forest.{same_some, own}
use Rattle.mtn_roster.proofs.Ordered.{forest_of}
use Rattle.mtn_roster.proofs.Leading.{get_within}
use Rattle.mtn_roster.proofs.Along.{as_long, at_stop, held, keyed}
use Rattle.mtn_between.specs.declared.side.Side.{Side}
use Rattle.mtn_between.specs.declared.side.Met.{Met}
use Rattle.mtn_between.specs.Walking.{AreMates, IsWalked, IsStanding, IsMet, tree_of, other_of, mate_at, entry_of_node, entry_in}

-- the entry at a place is that of its name
pub at_place_is : (t : Tree) → IsSane t → (k : ℕ) (e : Entry) → slice_get t k ≡ Some e → entry_of t e.name ≡ Some e
at_place_is t sane k e h =
    let r = taken t k (get_within t k e h) in
    (forest_of t sane).distinct e (subst (Split t) (same_some r.1 h) r.2)

pub stands_so : (t : Tree) → IsSane t → (k : ℕ) (e : Entry) (n : NodeName) → slice_get t k ≡ Some e → same_name e.name n ≡ true → slice_get t k ≡ entry_of t n
stands_so t sane k e n h same = h ∙ sym (at_place_is t sane k e h) ∙ ap (entry_of t) (same_name-is e.name n same)

get_left : {X : Type 0} (ys xs : List X) (k : ℕ) → k < length xs → slice_get (xs ++ ys) k ≡ slice_get xs k
get_left ys [] k low = absurd (omega (arith, low))
get_left ys (x ∷ xs) zero low = refl
get_left ys (x ∷ xs) (suc k) low = get_left ys xs k (omega (arith, low))

-- one mate more
module _ (t other : Tree) where
  abbrev pub Mated : ℕ → List (Option ℕ) → Type 0
  Mated n mates = (k : ℕ) (e : Entry) → k < n → slice_get t k ≡ Some e → option_and_then (slice_get other) (option_and_then (λ (m : Option ℕ). m) (slice_get mates k)) ≡ entry_of other e.name

  get_last : {X : Type 0} (xs : List X) (x : X) → slice_get (xs ++ x ∷ []) (length xs) ≡ Some x
  get_last [] x = refl
  get_last (y ∷ xs) x = get_last xs x

  pub more_mates : (n : ℕ) (mates next : List (Option ℕ)) (m : Option ℕ) (e : Entry) → length mates ≡ n → Mated n mates → slice_get t n ≡ Some e → option_and_then (slice_get other) m ≡ entry_of other e.name →
      next ≡ mates ++ m ∷ [] → Mated (n + 1) next
  more_mates n mates next m e long was at is pushed k f low h = elim (cases_lt k n) [
    | inl lt ↦
        ap (λ l. option_and_then (slice_get other) (option_and_then (λ (m : Option ℕ). m) (slice_get l k))) pushed
        ∙ ap (λ o. option_and_then (slice_get other) (option_and_then (λ (m : Option ℕ). m) o)) (get_left (m ∷ []) mates k (omega (arith, lt, long)))
        ∙ was k f lt h
    | inr ge ↦
        let same : k ≡ length mates = omega (arith, ge, low, long) in
        let one : e ≡ f = same_some at (ap (slice_get t) (sym long ∙ sym same) ∙ h) in
        ap (λ l. option_and_then (slice_get other) (option_and_then (λ (m : Option ℕ). m) (slice_get l k))) pushed
        ∙ ap (λ i. option_and_then (slice_get other) (option_and_then (λ (m : Option ℕ). m) (slice_get (mates ++ m ∷ []) i))) same
        ∙ ap (λ o. option_and_then (slice_get other) (option_and_then (λ (m : Option ℕ). m) o)) (get_last mates m)
        ∙ is
        ∙ ap (λ (x : Entry). entry_of other x.name) one
  ]

  -- the mate of the node at a stop
  pub mate_of : (walk : List Stop) (mates : List (Option ℕ)) → AreStops t walk → AreMates t other mates → (at : ℕ) (e : Entry) → slice_get (by_path t) at ≡ Some e →
      option_and_then (slice_get other) (mate_at walk mates at) ≡ entry_of other e.name
  mate_of walk mates are mated at e h =
      let low : at < length walk = omega (arith, get_within (by_path t) at e h, as_long t walk are) in
      let s : Stop = get_or walk at (record { place = 0; above = 0 }) in
      let here : slice_get walk at ≡ Some s = slice_get-get_or walk at (record { place = 0; above = 0 }) low in
      ap (λ o. option_and_then (slice_get other) (option_and_then (λ (s : Stop). option_and_then (λ (m : Option ℕ). m) (slice_get mates s.place)) o)) here
      ∙ mated.each s.place e (at_stop t walk are at s here ∙ h)

pub met_is : (side : Side) → IsWalked side → IsSane (tree_of side) → (at : ℕ) (met : Met) (place : Option ℕ) → slice_get (by_path (tree_of side)) at ≡ Some (entry_in met) →
    IsStanding (tree_of side) met.node → place ≡ mate_at side.walk.now side.mates.now at →
    option_map entry_of_node met.mate ≡ option_and_then (slice_get (other_of side)) place → IfSome met.mate (IsStanding (other_of side)) → IsMet (tree_of side) (other_of side) met
met_is side walked sane at met place h stands is mate mate_stands = record {
  here = held (tree_of side) sane at (entry_in met) h;
  place = stands;
  mate = mate ∙ ap (option_and_then (slice_get (other_of side))) is ∙ mate_of (tree_of side) (other_of side) side.walk.now side.mates.now walked.stops walked.mates at (entry_in met) h;
  mate_place = mate_stands;
}

-- the keys of what a node had ascend
pub keys_had : (old : Tree) → IsSane old → (f : Entry) → are_keyed (attrs_before old f) ≡ true
keys_had old sane f = by (entry_of old f.name) refl
  where
    by : (o : Option Entry) → entry_of old f.name ≡ o → are_keyed (option_map_or (λ (e : Entry). e.attrs) o []) ≡ true
    by None h = refl
    by (Some e) h = keyed old sane e (own old f.name e h)
