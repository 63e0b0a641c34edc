-- Each stop of a walk knows an earlier one for its parent.
use Rattle.std.specs.Prelude.{map, option_map, slice_get}
use Rattle.std.proofs.Common.{◌≡◌, ℕ, zero, suc, ◌<◌, ◌≤◌, inl, inr, List, [], ◌∷◌, ◌++◌, length, Option, Some, None, refl, sym, ◌∙◌, ap, subst, arith, length-append, true}
use Rattle.std.proofs.lemmas.Bool.{cases_lt}
use Rattle.mtn_roster.specs.declared.entry.Entry.{Entry}
use Rattle.mtn_roster.specs.declared.entry.Slot.{Slot}
use Rattle.mtn_roster.specs.declared.entry.Slot.TheVariants.{Root, Below}
use Rattle.mtn_roster.specs.declared.walk.Stop.{Stop}
use Rattle.mtn_roster.specs.Tree.{Tree}
use Rattle.mtn_roster.specs.Index.{slot_in}
use Rattle.mtn_roster.specs.Walk.{by_path, is_below, IsAbove, AreStops}
use Rattle.mtn_base.proofs.Finding.{Split, later}
use Rattle.mtn_base.proofs.Members.{head, split_cons, of_append}
use Rattle.mtn_roster.proofs.Forest.{same_some}
use Rattle.mtn_base.proofs.Sorting.{no_split}
use Rattle.mtn_base.proofs.Tests.{same_name-is}

module _ {X : Type 0} where
  pub get_left : (xs ys : List X) (i : ℕ) (x : X) → slice_get xs i ≡ Some x → slice_get (xs ++ ys) i ≡ Some x
  get_left [] ys i x h = absurd cc
  get_left (y ∷ xs) ys zero x h = h
  get_left (y ∷ xs) ys (suc i) x h = get_left xs ys i x h

  pub get_seam : (xs : List X) (x : X) → slice_get (xs ++ x ∷ []) (length xs) ≡ Some x
  get_seam [] x = refl
  get_seam (y ∷ xs) x = get_seam xs x

  pub get_snoc : (xs : List X) (x y : X) (i : ℕ) → slice_get (xs ++ x ∷ []) i ≡ Some y → i < length xs → slice_get xs i ≡ Some y
  get_snoc [] x y i h low = absurd (omega (arith, low))
  get_snoc (z ∷ xs) x y zero h low = h
  get_snoc (z ∷ xs) x y (suc i) h low = get_snoc xs x y i h (omega (arith, low))

  pub get_within : (xs : List X) (i : ℕ) (x : X) → slice_get xs i ≡ Some x → i < length xs
  get_within [] i x h = absurd cc
  get_within (y ∷ xs) zero x h = omega arith
  get_within (y ∷ xs) (suc i) x h = omega (arith, get_within xs i x h)

pub get_map : {X Y : Type 0} (f : X → Y) (xs : List X) (i : ℕ) → slice_get (map f xs) i ≡ option_map f (slice_get xs i)
get_map f [] i = refl
get_map f (x ∷ xs) zero = refl
get_map f (x ∷ xs) (suc i) = get_map f xs i

module _ (t : Tree) where
  abbrev pub Knows : List Stop → ℕ → ℕ → Slot → Type 0
  Knows ss i above Root = Unit {0}
  Knows ss i above (Below parent name) = (above < i) × ((r : Stop) × (d : Entry) × (slice_get ss above ≡ Some r) × (slice_get t r.place ≡ Some d) × (d.name ≡ parent))

  pub record IsLed (ss ws : List Stop) : Type 0 where
    pub met : (i : ℕ) (s : Stop) → slice_get ss i ≡ Some s → Knows ss i s.above (slot_in t s.place)
    pub waits : (s : Stop) → Split ws s → Knows ss (length ss) s.above (slot_in t s.place)

  knows_more : (ss : List Stop) (x : Stop) (i j above : ℕ) (q : Slot) → i ≤ j → Knows ss i above q → Knows (ss ++ x ∷ []) j above q
  knows_more ss x i j above Root le k = tt
  knows_more ss x i j above (Below p n) le k = (omega (arith, k.0), (k.1.0, k.1.1, get_left ss (x ∷ []) above k.1.0 k.1.2, k.1.3, k.1.4))

  knows_kid : (ss : List Stop) (x : Stop) (d : Entry) (q : Slot) → slice_get t x.place ≡ Some d → is_below d.name q ≡ true → Knows (ss ++ x ∷ []) (length (ss ++ x ∷ [])) (length ss) q
  knows_kid ss x d Root at h = tt
  knows_kid ss x d (Below p n) at h = (omega (arith, length-append ss (x ∷ [])), (x, d, get_seam ss x, at, sym (same_name-is p d.name h)))

  -- the next is met, and its children wait
  pub led_on : (ss ws kids : List Stop) (x : Stop) (d : Entry) → IsLed ss (x ∷ ws) → slice_get t x.place ≡ Some d
      → ((s : Stop) → Split kids s → (s.above ≡ length ss) × (is_below d.name (slot_in t s.place) ≡ true)) → IsLed (ss ++ x ∷ []) (kids ++ ws)
  led_on ss ws kids x d led at k = record {
    met = λ i s h. elim (cases_lt i (length ss)) [
      | inl lt ↦ knows_more ss x i i s.above (slot_in t s.place) (omega arith) (led.met i s (get_snoc ss x s i h lt))
      | inr ge ↦
          let low = get_within (ss ++ x ∷ []) i s h in
          let e : i ≡ length ss = omega (arith, length-append ss (x ∷ []), low, ge) in
          let same : x ≡ s = same_some (get_seam ss x) (ap (slice_get (ss ++ x ∷ [])) (sym e) ∙ h) in
          subst (λ (z : Stop). Knows (ss ++ x ∷ []) i z.above (slot_in t z.place)) same
          (knows_more ss x (length ss) i x.above (slot_in t x.place) ge (led.waits x (head x ws)))
    ];
    waits = λ s u. elim (of_append kids ws s u) [
      | inl v ↦ let q = k s v in subst (λ a. Knows (ss ++ x ∷ []) (length (ss ++ x ∷ [])) a (slot_in t s.place)) (sym q.0) (knows_kid ss x d (slot_in t s.place) at q.1)
      | inr v ↦ knows_more ss x (length ss) (length (ss ++ x ∷ [])) s.above (slot_in t s.place) (omega (arith, length-append ss (x ∷ []))) (led.waits s (later x ws s v))
    ];
  }

  pub led_begins : (x : Stop) → slot_in t x.place ≡ Root → IsLed [] (x ∷ [])
  led_begins x root = record {
    met = λ i s h. absurd cc;
    waits = λ s u. elim (split_cons x [] s u) [
      | inl e ↦ subst (λ (z : Stop). Knows [] zero z.above (slot_in t z.place)) e (subst (Knows [] zero x.above) (sym root) tt)
      | inr v ↦ absurd (no_split s v)
    ];
  }

  some_is : (o : Option Entry) (d : Entry) → option_map Some o ≡ Some (Some d) → o ≡ Some d
  some_is None d h = absurd cc
  some_is (Some e) d h = cc

  pub led_ends : (ss : List Stop) → map (λ (s : Stop). slice_get t s.place) ss ≡ map Some (by_path t) → IsLed ss [] → AreStops t ss
  led_ends ss order led = record {
    order = order;
    parents = λ i s h. go i s.above (slot_in t s.place) (led.met i s h);
  }
    where
      go : (i above : ℕ) (q : Slot) → Knows ss i above q → IsAbove (by_path t) q i above
      go i above Root k = tt
      go i above (Below p n) k =
          let e : option_map Some (slice_get (by_path t) above) ≡ Some (Some k.1.1) =
          sym (get_map Some (by_path t) above) ∙ ap (λ l. slice_get l above) (sym order) ∙ get_map (λ (s : Stop). slice_get t s.place) ss above
          ∙ ap (option_map (λ (s : Stop). slice_get t s.place)) k.1.2 ∙ ap Some k.1.3 in
          (k.0, ap (option_map (λ (e : Entry). e.name)) (some_is (slice_get (by_path t) above) k.1.1 e) ∙ ap Some k.1.4)
