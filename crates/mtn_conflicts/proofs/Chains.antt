-- Places lead where names do; and the flags of the nodes that are in a loop.
use Rattle.std.specs.Prelude.{◌↔◌, IsTrue, map, option_and_then, slice_get, slice_index}
use Rattle.std.specs.List.{All, list_all}
use Rattle.std.specs.declared.cmp.Ordering.TheVariants.{Equal}
use Rattle.std.specs.Ordering.{is_lt}
use Rattle.std.specs.Cmp.{first_so, second_so, tied_itself}
use Rattle.std.proofs.Common.{◌≡◌, ℕ, zero, suc, ◌+◌, ◌<◌, ◌≤◌, Bool, true, false, List, [], ◌∷◌, ◌++◌, length, get_or, Option, Some, None, inl, inr, ⊎_elim, refl, sym, ◌∙◌, ap, subst, arith}
use Rattle.std.proofs.lemmas.Bool.{cases_lt}
use Rattle.std.proofs.lemmas.List.Elements.{All-from_get_or}
use Rattle.mtn_base.specs.Names.{name_cmp}
use Rattle.mtn_base.specs.declared.name.NodeName.{NodeName}
use Rattle.mtn_marking.proofs.Zips.{got_at}
use Rattle.mtn_roster.specs.Building.{climbed}
use Rattle.mtn_base.specs.Lists.{rises}
use Rattle.mtn_roster.proofs.Forest.{chained}
use Rattle.mtn_roster.proofs.Marking.{climbed-add}
use Rattle.mtn_base.proofs.Orders.{names_total}
use Rattle.mtn_base.proofs.Members.{taken}
use Rattle.mtn_base.proofs.Sorting.{lt_was, all_at}
use Rattle.mtn_decide.specs.declared.decision.Decision.{Decision}
use Rattle.mtn_decide.specs.Decisions.{decision_of}
use Rattle.mtn_conflicts.specs.Parts.{AreFlags, AreSeen, AreUps, IsRound, IsUpTo}
use Rattle.mtn_conflicts.specs.Slots.{IsInLoop, parent_in, parent_of, climbed as chain}
use Rattle.mtn_conflicts.proofs.Looping.{climbed_within}
use Rattle.mtn_conflicts.proofs.Nodes.{name_of, found_name, distinct}

past_end : {X : Type 0} (xs : List X) (i : ℕ) → slice_get xs i ≡ None → length xs ≤ i
past_end [] i h = omega arith
past_end (x ∷ xs) zero h = absurd cc
past_end (x ∷ xs) (suc i) h = let r = past_end xs i h in omega arith

lesser : (d : Decision) (es : List Decision) → list_all (λ l. is_lt (name_cmp d.name l)) (map name_of es) ≡ true → (j : ℕ) (x : Decision) → d ≡ x → slice_get es j ≡ Some x → ⊥
lesser d es low j x g q =
    let t = taken es j (got_at es j x q).0 in
    let same : t.0 ≡ x = (let f = t.1 in cc) in
    let lt = lt_was _ (all_at (λ l. is_lt (name_cmp d.name l)) name_of es t.0 low t.2) in
    let tie : name_cmp d.name t.0.name ≡ Equal = ap (name_cmp d.name) (ap name_of (same ∙ sym g)) ∙ tied_itself names_total d.name in
    cc

pub one_place : (ds : List Decision) → rises name_cmp (map name_of ds) ≡ true → (i j : ℕ) (x : Decision) → slice_get ds i ≡ Some x → slice_get ds j ≡ Some x → i ≡ j
one_place [] h i j x p q = absurd cc
one_place (d ∷ ds) h zero zero x p q = refl
one_place (d ∷ ds) h zero (suc j) x p q = absurd (lesser d ds (first_so (list_all (λ l. is_lt (name_cmp d.name l)) (map name_of ds)) _ h) j x (let g : d ≡ x = cc in g) q)
one_place (d ∷ ds) h (suc i) zero x p q = absurd (lesser d ds (first_so (list_all (λ l. is_lt (name_cmp d.name l)) (map name_of ds)) _ h) i x (let g : d ≡ x = cc in g) p)
one_place (d ∷ ds) h (suc i) (suc j) x p q = ap suc (one_place ds (second_so (list_all (λ l. is_lt (name_cmp d.name l)) (map name_of ds)) _ h) i j x p q)

module _ (ds : List Decision) (rising : rises name_cmp (map name_of ds) ≡ true) (ups : List ℕ) (are : AreUps ds ups) where
  own_name : (k : ℕ) (d : Decision) → slice_get ds k ≡ Some d → decision_of ds d.name ≡ Some d
  own_name k d h =
      let t = taken ds k (got_at ds k d h).0 in
      let g : t.0 ≡ d = (let f = t.1 in cc) in
      subst (λ x. decision_of ds x.name ≡ Some x) g (distinct ds rising t.0 t.2)

  up_fits : (o : Option NodeName) (up : ℕ) → IsUpTo ds o up → up < length ds + 1
  up_fits None up h = omega (arith, h)
  up_fits (Some p) up h = ⊎_elim (λ a. omega (arith, a.0)) (λ b. omega (arith, b.0)) h

  pub ups_within : All (λ k. k < length ups) ups
  ups_within = All-from_get_or (λ k. k < length ups) ups 0 (λ i lt. elim (cases_lt i (length ds)) [
    | inl low ↦ let t = taken ds i low in let a = up_fits (parent_in t.0.slot) (slice_index ups i) (are.each i t.0 t.1) in omega (arith, a, are.long)
    | inr high ↦
        let e : i ≡ length ds = omega (arith, high, lt, are.long) in
        let f : slice_index ups i ≡ length ds = ap (slice_index ups) e ∙ are.end in
        omega (arith, f, are.long)
  ])

  last_step : (s k : ℕ) → climbed ups (suc s) k ≡ slice_index ups (climbed ups s k)
  last_step s k = ap (λ m. climbed ups m k) (one s) ∙ climbed-add ups s 1 k
    where
      one : (s : ℕ) → suc s ≡ s + 1
      one s = omega arith

  no_node : (j : ℕ) (e : Decision) → j ≡ length ds → slice_get ds j ≡ Some e → ⊥
  no_node j e h is = let l = (got_at ds j e is).0 in omega (arith, l, h)

  by_name : (s k : ℕ) (d : Decision) → slice_get ds k ≡ Some d → (m : NodeName) (e : Decision) → chain ds s d.name ≡ Some m → decision_of ds m ≡ Some e → slice_get ds (climbed ups s k) ≡ Some e
  by_name zero k d h m e c is =
      let q : d.name ≡ m = cc in
      let a : decision_of ds m ≡ Some d = subst (λ x. decision_of ds x ≡ Some d) q (own_name k d h) in
      let g : d ≡ e = cc in
      h ∙ ap Some g
  by_name (suc s) k d h m e c is =
      let t = chained (parent_of ds) (chain ds s d.name) m c in
      let f = chained (λ (x : Decision). parent_in x.slot) (decision_of ds t.0) m t.2 in
      let at = by_name s k d h t.0 f.0 t.1 f.1 in
      let up : IsUpTo ds (Some m) (slice_index ups (climbed ups s k)) = subst (λ o. IsUpTo ds o (slice_index ups (climbed ups s k))) f.2 (are.each (climbed ups s k) f.0 at) in
      ap (slice_get ds) (last_step s k) ∙ ⊎_elim (λ a. a.1 ∙ is) (λ b. absurd (let x = b.1 in cc)) up

  by_place : (s k : ℕ) (d : Decision) → slice_get ds k ≡ Some d → (e : Decision) → slice_get ds (climbed ups s k) ≡ Some e → chain ds s d.name ≡ Some e.name
  by_place zero k d h e is = let g : d ≡ e = cc in ap (λ (x : Decision). Some x.name) g
  by_place (suc s) k d h e is = from (λ f g. by_place s k d h f g) (slice_get ds (climbed ups s k)) refl
    where
      is' : slice_get ds (slice_index ups (climbed ups s k)) ≡ Some e
      is' = ap (slice_get ds) (sym (last_step s k)) ∙ is

      up : (f : Decision) → slice_get ds (climbed ups s k) ≡ Some f → chain ds s d.name ≡ Some f.name → (o : Option NodeName) → parent_in f.slot ≡ o → IsUpTo ds o (slice_index ups (climbed ups s k)) → chain ds (suc s) d.name ≡ Some e.name
      up f g there None x y = absurd (no_node (slice_index ups (climbed ups s k)) e y is')
      up f g there (Some p) x y = ⊎_elim
          (λ a.
          let at_p : decision_of ds p ≡ Some e = sym a.1 ∙ is' in
          ap (option_and_then (parent_of ds)) there ∙ ap (option_and_then (λ (z : Decision). parent_in z.slot)) (own_name (climbed ups s k) f g) ∙ x ∙ ap Some (sym (found_name ds p e at_p)))
          (λ b. absurd (no_node (slice_index ups (climbed ups s k)) e b.0 is')) y

      from : ((f : Decision) → slice_get ds (climbed ups s k) ≡ Some f → chain ds s d.name ≡ Some f.name) → (o : Option Decision) → slice_get ds (climbed ups s k) ≡ o → chain ds (suc s) d.name ≡ Some e.name
      from before None g =
          let low : k < length ups = (let l = (got_at ds k d h).0 in omega (arith, l, are.long)) in
          let a = past_end ds (climbed ups s k) g in
          let b = climbed_within ups ups_within s k low in
          let i : climbed ups s k ≡ length ds = omega (arith, a, b, are.long) in
          absurd (no_node (slice_index ups (climbed ups s k)) e (ap (slice_index ups) i ∙ are.end) is')
      from before (Some f) g = up f g (before f g) (parent_in f.slot) refl (are.each (climbed ups s k) f g)

  -- a node is in a loop exactly where the way up from its place returns
  pub loop_told : (k : ℕ) (d : Decision) → slice_get ds k ≡ Some d → IsRound ups k ↔ IsInLoop ds d
  loop_told k d at = (
    λ t. (t.0, by_place (suc t.0) k d at d (ap (slice_get ds) t.1 ∙ at)),
    λ t.
        let there = by_name (suc t.0) k d at d.name d t.1 (own_name k d at) in
        (t.0, one_place ds rising (climbed ups (suc t.0) k) k d there at),
  )

-- flags, told place by place
pub flags_from : (P : Decision → Type 0) (ds : List Decision) (fs : List Bool) → length fs ≡ length ds →
    ((k : ℕ) (d : Decision) → slice_get ds k ≡ Some d → IsTrue (get_or fs k false) ↔ P d) → AreFlags P ds fs
flags_from P [] [] e h = tt
flags_from P [] (f ∷ fs) e h = absurd (omega (arith, e))
flags_from P (d ∷ ds) [] e h = absurd (omega (arith, e))
flags_from P (d ∷ ds) (f ∷ fs) e h = (h 0 d refl, flags_from P ds fs (omega (arith, e)) (λ k. h (suc k)))

-- no mark, and no flag
pub seen_none : (ups marks : List ℕ) (fs : List Bool) → length marks ≡ length ups → ((k : ℕ) → slice_index marks k ≡ 0) → ((k : ℕ) → get_or fs k false ≡ false) → AreSeen ups marks fs
seen_none ups marks fs e none down = record {
  long = e;
  closed = λ k lt h. let z = none k in absurd (omega (arith, z, h));
  told = λ k lt h. let z = none k in absurd (omega (arith, z, h));
  rest = λ k lt h. down k;
}

pub loops_flagged : (ds : List Decision) → rises name_cmp (map name_of ds) ≡ true → (ups marks : List ℕ) → AreUps ds ups → (fs : List Bool) → length fs ≡ length ds →
    ((k : ℕ) → k < length ds → 0 < slice_index marks k) → AreSeen ups marks fs → AreFlags (IsInLoop ds) ds fs
loops_flagged ds rising ups marks are fs long all seen =
    flags_from (IsInLoop ds) ds fs long (λ k d at.
    let lt = (got_at ds k d at).0 in
    let told = loop_told ds rising ups are k d at in
    let flag = seen.told k (omega (arith, lt, long)) (all k lt) in (
      λ t. told.0 (flag.0 t),
      λ p. flag.1 (told.1 p),
    ))

-- one more flag that is not raised
pub down_more : (fs : List Bool) → ((k : ℕ) → get_or fs k false ≡ false) → (k : ℕ) → get_or (fs ++ false ∷ []) k false ≡ false
down_more [] h zero = refl
down_more [] h (suc k) = refl
down_more (f ∷ fs) h zero = h 0
down_more (f ∷ fs) h (suc k) = down_more fs (λ j. h (suc j)) k
