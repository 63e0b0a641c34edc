-- Nodes that hang alike in two walks that agreed so far have one path.
use Rattle.std.specs.Prelude.{reverse, slice_get, ◌==◌, ◌&&◌}
use Rattle.std.proofs.Common.{◌≡◌, ℕ, ◌+◌, ◌<◌, inl, inr, true, false, List, [], ◌∷◌, ◌++◌, Some, sym, ◌∙◌, ap, subst, arith}
use Rattle.std.proofs.lemmas.List.{reverse-append, reverse-reverse}
use Rattle.std.proofs.lemmas.Bool.{cases_lt}
use Rattle.std.proofs.lemmas.Bool.Decides.{nat_tests}
use Rattle.std.specs.Cmp.{first_so, second_so}
use Rattle.mtn_base.specs.Names.{same_bytes}
use Rattle.mtn_base.specs.declared.name.NodeName.{NodeName}
use Rattle.mtn_roster.specs.declared.entry.Entry.{Entry}
use Rattle.mtn_roster.specs.declared.entry.Slot.{Slot}
use Rattle.mtn_roster.specs.declared.entry.Slot.TheVariants.{Root, Below}
use Rattle.mtn_roster.specs.Tree.{Tree, IsSane, path_up, path_of}
use Rattle.mtn_roster.specs.Walk.{by_path, IsAbove}
use Rattle.mtn_roster.proofs.Forest.{same_some}
use Rattle.mtn_base.proofs.Tests.{both_true, same_bytes-is, same_bytes-self}
use Rattle.mtn_roster.proofs.Walking.{child_path}
use Rattle.mtn_join.specs.Pairing.{IsPairedAt, hangs_alike}
use Rattle.mtn_roster.proofs.Along.{held, named_by, one_stop}

pub ends_alike : (p q : List (List ℕ)) (a b : List ℕ) → p ++ a ∷ [] ≡ q ++ b ∷ [] → (p ≡ q) × (a ≡ b)
ends_alike p q a b h =
    let r : a ∷ reverse p ≡ b ∷ reverse q = sym (reverse-append p (a ∷ [])) ∙ ap reverse h ∙ reverse-append q (b ∷ []) in
    let last : a ≡ b = cc in
    let front : reverse p ≡ reverse q = cc in
    (sym (reverse-reverse p) ∙ ap reverse front ∙ reverse-reverse q, last)

pub no_end : (q : List (List ℕ)) (b : List ℕ) → [] ≡ q ++ b ∷ [] → ⊥
no_end [] b h = cc
no_end (c ∷ q) b h = cc

same_number : (a b : ℕ) → (a == b) ≡ true → a ≡ b
same_number a b h = grind (arith, nat_tests, h)

number_self : (a b : ℕ) → a ≡ b → (a == b) ≡ true
number_self a b h = grind (arith, nat_tests, h)

module _ (l r : Tree) (sl : IsSane l) (sr : IsSane r) (i : ℕ) (x y : Entry) (a b : ℕ) (paired : (k : ℕ) → k < i → IsPairedAt l r k)
    (xi : slice_get (by_path l) i ≡ Some x) (yi : slice_get (by_path r) i ≡ Some y) where
  -- the path of what hangs below an earlier stop
  below_left : (p : NodeName) (n : List ℕ) (above : ℕ) → x.slot ≡ Below p n → IsAbove (by_path l) (Below p n) i above → (d : Entry) × (slice_get (by_path l) above ≡ Some d) × (path_of l x ≡ path_of l d ++ n ∷ [])
  below_left p n above slot known =
      let d = named_by (slice_get (by_path l) above) p known.1 in
      (d.0, d.1, child_path l sl d.0 x n (held l sl above d.0 d.1) (held l sl i x xi) (slot ∙ ap (λ m. Below m n) (sym d.2)))

  below_right : (q : NodeName) (m : List ℕ) (above : ℕ) → y.slot ≡ Below q m → IsAbove (by_path r) (Below q m) i above → (d : Entry) × (slice_get (by_path r) above ≡ Some d) × (path_of r y ≡ path_of r d ++ m ∷ [])
  below_right q m above slot known =
      let d = named_by (slice_get (by_path r) above) q known.1 in
      (d.0, d.1, child_path r sr d.0 y m (held r sr above d.0 d.1) (held r sr i y yi) (slot ∙ ap (λ o. Below o m) (sym d.2)))

  pub alike : (s t : Slot) → x.slot ≡ s → y.slot ≡ t → IsAbove (by_path l) s i a → IsAbove (by_path r) t i b → hangs_alike s a t b ≡ true → path_of l x ≡ path_of r y
  alike Root Root xs ys ka kb h = ap (path_up l l) xs ∙ ap (path_up r r) (sym ys)
  alike Root (Below q m) xs ys ka kb h = absurd cc
  alike (Below p n) Root xs ys ka kb h = absurd cc
  alike (Below p n) (Below q m) xs ys ka kb h =
      let d = below_left p n a xs ka in
      let e = below_right q m b ys kb in
      let one : a ≡ b = same_number a b (first_so _ _ h) in
      let comps : n ≡ m = same_bytes-is n m (second_so (a == b) _ h) in
      let pair = paired a ka.0 in
      let dx : d.0 ≡ pair.x = same_some d.1 pair.left_at in
      let ey : pair.y ≡ e.0 = same_some pair.right_at (ap (slice_get (by_path r)) one ∙ e.1) in
      let above : path_of l d.0 ≡ path_of r e.0 = ap (path_of l) dx ∙ pair.path ∙ ap (path_of r) ey in
      d.2 ∙ ap (λ w. w ++ n ∷ []) above ∙ ap (λ c. path_of r e.0 ++ c ∷ []) comps ∙ sym e.2

  pub unlike : (s t : Slot) → x.slot ≡ s → y.slot ≡ t → IsAbove (by_path l) s i a → IsAbove (by_path r) t i b → hangs_alike s a t b ≡ false → path_of l x ≡ path_of r y → ⊥
  unlike Root Root xs ys ka kb h same = absurd cc
  unlike Root (Below q m) xs ys ka kb h same =
      let e = below_right q m b ys kb in
      no_end (path_of r e.0) m (sym (ap (path_up l l) xs) ∙ same ∙ e.2)
  unlike (Below p n) Root xs ys ka kb h same =
      let d = below_left p n a xs ka in
      no_end (path_of l d.0) n (sym (ap (path_up r r) ys) ∙ sym same ∙ d.2)
  unlike (Below p n) (Below q m) xs ys ka kb h same =
      let d = below_left p n a xs ka in
      let e = below_right q m b ys kb in
      let parts = ends_alike (path_of l d.0) (path_of r e.0) n m (sym d.2 ∙ same ∙ e.2) in
      let pair = paired a ka.0 in
      let dx : d.0 ≡ pair.x = same_some d.1 pair.left_at in
      let one : a ≡ b = one_stop r sr a b pair.y e.0 pair.right_at e.1 (sym pair.path ∙ ap (path_of l) (sym dx) ∙ parts.0) in
      let yes : (a == b && same_bytes n m) ≡ true = both_true _ _ (number_self a b one) (ap (same_bytes n) (sym parts.1) ∙ same_bytes-self n) in
      let z : true ≡ false = sym yes ∙ h in cc

-- what holds below a number, and of it, holds below the next
pub next_too : (P : ℕ → Type 0) (i : ℕ) → ((k : ℕ) → k < i → P k) → P i → (k : ℕ) → k < i + 1 → P k
next_too P i below here k lt = elim (cases_lt k i) [
  | inl low ↦ below k low
  | inr ge ↦ let same : k ≡ i = omega arith in subst P (sym same) here
]
