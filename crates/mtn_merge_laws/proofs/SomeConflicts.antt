-- Decisions have a list of conflicts each.
use Rattle.std.specs.Prelude.{◌↔◌, IsTrue, map, slice_get, slice_index}
use Rattle.std.proofs.Common.{◌≡◌, ◌≢◌, ◌<◌, ◌+◌, ℕ, zero, suc, Bool, true, false, List, [], ◌∷◌, ◌++◌, length, Option, Some, None, inl, inr, refl, sym, ◌∙◌, ap, subst, arith}
use Rattle.std.proofs.Math.Decide.{ℕ_discrete}
use mathlib.Core.List.{List-discrete}
use Rattle.mtn_ancestry.proofs.Members.{find_below}
use Rattle.mtn_base.specs.Names.{name_cmp}
use Rattle.mtn_base.specs.declared.id.Id.{Id}
use Rattle.mtn_base.specs.declared.name.NodeName.{NodeName}
use Rattle.mtn_base.specs.Lists.{rises}
use Rattle.mtn_base.proofs.Finding.{Split, later}
use Rattle.mtn_base.proofs.Members.{head, split_cons, taken, place_of}
use Rattle.mtn_base.proofs.Sorting.{no_split}
use Rattle.mtn_history_laws.specs.Scalars.Value.{SlotValue}
use Rattle.mtn_history_laws.specs.Scalars.{Value}
use Rattle.mtn_history_laws.proofs.Telling.{tell_value}
use Rattle.mtn_roster.specs.declared.entry.Slot.{Slot}
use Rattle.mtn_roster.specs.declared.entry.Slot.TheVariants.{Root, Below}
use Rattle.mtn_roster.specs.Building.{climbed}
use Rattle.mtn_roster.specs.Tree.{mtn}
use Rattle.mtn_decide.specs.declared.decision.AttrChoice.{AttrChoice}
use Rattle.mtn_decide.specs.declared.decision.AttrChoice.TheVariants.{Fixed as FixedAttr, Clash as AttrClash}
use Rattle.mtn_decide.specs.declared.decision.AttrDecision.{AttrDecision}
use Rattle.mtn_decide.specs.declared.decision.ContentChoice.{ContentChoice}
use Rattle.mtn_decide.specs.declared.decision.ContentChoice.TheVariants.{Absent, Fixed as FixedContent, Clash as ContentClash}
use Rattle.mtn_decide.specs.declared.decision.Decision.{Decision}
use Rattle.mtn_decide.specs.declared.decision.SlotChoice.{SlotChoice}
use Rattle.mtn_decide.specs.declared.decision.SlotChoice.TheVariants.{Fixed, Clash}
use Rattle.mtn_decide.specs.Decisions.{Merge, IsInOrder, decision_of}
use Rattle.mtn_conflicts.specs.declared.item.Item.{Item}
use Rattle.mtn_conflicts.specs.declared.lists.Conflicts.{Conflicts}
use Rattle.mtn_conflicts.specs.Lists.{AreItemsOf, AreConflictsOf, IsAttrTorn, IsContentTorn, slot_item, attr_item, content_item, pending_item, all_attrs}
use Rattle.mtn_conflicts.specs.Lists.AreItemsOf.{end, listed, passed}
use Rattle.mtn_conflicts.specs.Parts.{AreUps, IsUpTo, IsRound}
use Rattle.mtn_conflicts.specs.Slots.{HasRoot, IsMisnamed, IsInLoop, IsOrphaned, IsDuplicate, IsTorn, parent_in}
use Rattle.mtn_conflicts.proofs.Chains.{ups_within, loop_told}
use Rattle.mtn_conflicts.proofs.Looping.{up_within, soon}
use Rattle.mtn_conflicts.proofs.Nodes.{found_at, found_name, distinct}

some_items : {X : Type 0} (P : X → Type 0) (item : X → Item) (xs : List X) → ((x : X) → Split xs x → Dec (P x)) → (items : List Item) × AreItemsOf P item xs items
some_items P item [] tell = ([], end)
some_items P item (x ∷ xs) tell =
    let rest = some_items P item xs (λ y s. tell y (later x xs y s)) in
    elim (tell x (head x xs)) [
      | yes p ↦ (item x ∷ rest.0, listed p rest.1)
      | no n ↦ (rest.0, passed n rest.1)
    ]

-- an element has P, or none
tell_split : {X : Type 0} (P : X → Type 0) (xs : List X) → ((x : X) → Dec (P x)) → Dec ((x : X) × Split xs x × P x)
tell_split P [] tell = no (λ t. no_split t.0 t.1)
tell_split {X} P (x ∷ xs) tell = elim (tell x) [
  | yes p ↦ yes (x, head x xs, p)
  | no n ↦ elim (tell_split P xs tell) [
    | yes t ↦ yes (t.0, later x xs t.0 t.1, t.2)
    | no m ↦ no (λ t. none n m t.0 t.1 t.2)
  ]
]
  where
    none : (P x → ⊥) → ((y : X) × Split xs y × P y → ⊥) → (y : X) → Split (x ∷ xs) y → P y → ⊥
    none n m y s p = elim (split_cons x xs y s) [ inl e ↦ n (subst P (sym e) p) | inr u ↦ m (y, u, p) ]

tell_bytes : (a b : List ℕ) → Dec (a ≡ b)
tell_bytes = List-discrete ℕ_discrete

slot_in : Slot → Value → Slot
slot_in s (SlotValue t) = t
slot_in s _ = s

tell_slot : (a b : Slot) → Dec (a ≡ b)
unfolding slot_in
tell_slot a b = elim (tell_value (SlotValue a) (SlotValue b)) [ yes e ↦ yes (ap (slot_in a) e) | no n ↦ no (λ e. n (ap SlotValue e)) ]

-- a name is that of the slot below it
parent_of_slot : NodeName → Slot → NodeName
parent_of_slot n Root = n
parent_of_slot n (Below p name) = p

tell_name : (a b : NodeName) → Dec (a ≡ b)
unfolding parent_of_slot
tell_name a b = elim (tell_slot (Below a []) (Below b [])) [ yes e ↦ yes (ap (parent_of_slot a) e) | no n ↦ no (λ e. n (ap (λ (p : NodeName). Below p []) e)) ]

abbrev HasSlot : Slot → Decision → Type 0
HasSlot s d = d.slot ≡ Fixed s

abbrev fixed : Slot → SlotChoice → Slot
fixed z (Fixed t) = t
fixed z (Clash l r) = z

tell_has : (s : Slot) (d : Decision) → Dec (HasSlot s d)
tell_has s d = go d.slot
  where
    go : (c : SlotChoice) → Dec (c ≡ Fixed s)
    go (Fixed t) = elim (tell_slot t s) [ yes e ↦ yes (ap Fixed e) | no n ↦ no (λ e. n (ap (fixed t) e)) ]
    go (Clash l r) = no (λ e. cc)

tell_torn : (d : Decision) → Dec (IsTorn d)
tell_torn d = go d.slot
  where
    go : (c : SlotChoice) → Dec ((l : Slot) × (r : Slot) × (c ≡ Clash l r))
    go (Fixed s) = no (λ t. let e = t.2 in cc)
    go (Clash l r) = yes (l, r, refl)

tell_content : (d : Decision) → Dec (IsContentTorn d)
tell_content d = go d.content
  where
    go : (c : ContentChoice) → Dec ((l : Id) × (r : Id) × (c ≡ ContentClash l r))
    go Absent = no (λ t. let e = t.2 in cc)
    go (FixedContent c) = no (λ t. let e = t.2 in cc)
    go (ContentClash l r) = yes (l, r, refl)

tell_attr : (a : NodeName × AttrDecision) → Dec (IsAttrTorn a)
tell_attr a = go a.1.choice
  where
    go : (c : AttrChoice) → Dec ((l : Option (List ℕ)) × (r : Option (List ℕ)) × (c ≡ AttrClash l r))
    go (FixedAttr v) = no (λ t. let e = t.2 in cc)
    go (AttrClash l r) = yes (l, r, refl)

module _ (ds : List Decision) (rising : rises name_cmp (map (λ (d : Decision). d.name) ds) ≡ true) where
  tell_root : Dec (HasRoot ds)
  tell_root = elim (tell_split (HasSlot Root) ds (tell_has Root)) [
    | yes t ↦ yes (t.0.name, t.0, distinct ds rising t.0 t.1, t.2)
    | no n ↦ no (λ t. n (t.1, found_at ds t.0 t.1 t.2, t.3))
  ]

  abbrev Mis : SlotChoice → Type 0
  Mis c = (p : NodeName) × (r : Decision) × (c ≡ Fixed (Below p mtn)) × (decision_of ds p ≡ Some r) × (r.slot ≡ Fixed Root)

  tell_misnamed : (d : Decision) → Dec (IsMisnamed ds d)
  tell_misnamed d = go d.slot
    where
      parent : (p : NodeName) (o : Option Decision) → decision_of ds p ≡ o → Dec ((r : Decision) × (decision_of ds p ≡ Some r) × (r.slot ≡ Fixed Root))
      parent p None e = no (λ t. let f = t.1 in cc)
      parent p (Some r) e = elim (tell_has Root r) [ yes k ↦ yes (r, e, k) | no n ↦ no (λ t. n (let same : t.0 ≡ r = (let f = t.1 in cc) in subst (λ (x : Decision). x.slot ≡ Fixed Root) same t.2)) ]

      at : (p : NodeName) (name : List ℕ) → Dec (name ≡ mtn) → Dec ((r : Decision) × (decision_of ds p ≡ Some r) × (r.slot ≡ Fixed Root)) → Dec (Mis (Fixed (Below p name)))
      at p name (yes e) (yes t) = yes (p, t.0, ap (λ n. Fixed (Below p n)) e, t.1, t.2)
      at p name (no n) b = no (λ t. n (let f = t.2 in cc))
      at p name (yes e) (no n) = no (λ t. n (t.1, (let same : t.0 ≡ p = (let f = t.2 in cc) in subst (λ z. decision_of ds z ≡ Some t.1) same t.3), t.4))

      go : (c : SlotChoice) → Dec (Mis c)
      go (Fixed Root) = no (λ t. let e = t.2 in cc)
      go (Fixed (Below p name)) = at p name (tell_bytes name mtn) (parent p (decision_of ds p) refl)
      go (Clash l r) = no (λ t. let e = t.2 in cc)

  abbrev Lost : SlotChoice → Type 0
  Lost c = (p : NodeName) × (name : List ℕ) × (c ≡ Fixed (Below p name)) × (decision_of ds p ≡ None)

  tell_orphaned : (d : Decision) → Dec (IsOrphaned ds d)
  tell_orphaned d = go d.slot
    where
      at : (p : NodeName) (name : List ℕ) (o : Option Decision) → decision_of ds p ≡ o → Dec (Lost (Fixed (Below p name)))
      at p name None e = yes (p, name, refl, e)
      at p name (Some r) e = no (λ t. let same : t.0 ≡ p = (let f = t.2 in cc) in let g = ap (decision_of ds) same in let k = t.3 in cc)

      go : (c : SlotChoice) → Dec (Lost c)
      go (Fixed Root) = no (λ t. let e = t.2 in cc)
      go (Fixed (Below p name)) = at p name (decision_of ds p) refl
      go (Clash l r) = no (λ t. let e = t.2 in cc)

  abbrev Twin : Decision → Slot → Decision → Type 0
  Twin d s e = (e.name ≢ d.name) × (e.slot ≡ Fixed s)

  tell_duplicate : (d : Decision) → Dec (IsDuplicate ds d)
  tell_duplicate d = go d.slot refl
    where
      tell_twin : (s : Slot) (e : Decision) → Dec (Twin d s e)
      tell_twin s e = elim (tell_name e.name d.name) [
        | yes k ↦ no (λ t. t.0 k)
        | no n ↦ elim (tell_has s e) [ yes k ↦ yes (n, k) | no m ↦ no (λ t. m t.1) ]
      ]

      go : (c : SlotChoice) → d.slot ≡ c → Dec (IsDuplicate ds d)
      go (Clash l r) is = no (λ t. let e = t.3 in cc)
      go (Fixed s) is = elim (tell_split (Twin d s) ds (tell_twin s)) [
        | yes t ↦ yes (s, t.0.name, t.0, is, distinct ds rising t.0 t.1, t.2.0, t.2.1)
        | no n ↦ no (λ t.
            let same : t.0 ≡ s = (let f = t.3 in cc) in
            n (t.2, found_at ds t.1 t.2 t.4, (λ e. t.5 (sym (found_name ds t.1 t.2 t.4) ∙ e), subst (λ z. t.2.slot ≡ Fixed z) same t.6)))
      ]

  -- ---- loops, by the places of parents

  up_of : (o : Option NodeName) → (up : ℕ) × IsUpTo ds o up
  up_of None = (length ds, refl)
  up_of (Some p) = go (decision_of ds p) refl
    where
      go : (o : Option Decision) → decision_of ds p ≡ o → (up : ℕ) × IsUpTo ds (Some p) up
      go None e = (length ds, inr (refl, e))
      go (Some d) e =
          let k = place_of ds d (found_at ds p d e) in
          let t = taken ds k.0 k.1 in
          (k.0, inl (k.1, t.1 ∙ ap Some (sym (t.3 d) ∙ k.2 d) ∙ sym e))

  ups : List ℕ
  ups = map (λ (d : Decision). (up_of (parent_in d.slot)).0) ds ++ length ds ∷ []

  long_ups : (es : List Decision) (x : ℕ) → length (map (λ (d : Decision). (up_of (parent_in d.slot)).0) es ++ x ∷ []) ≡ length es + 1
  long_ups [] x = refl
  long_ups (e ∷ es) x = let r = long_ups es x in omega (arith, r)

  at_ups : (es : List Decision) (x k : ℕ) (d : Decision) → slice_get es k ≡ Some d → slice_index (map (λ (d : Decision). (up_of (parent_in d.slot)).0) es ++ x ∷ []) k ≡ (up_of (parent_in d.slot)).0
  at_ups [] x k d e = absurd cc
  at_ups (y ∷ es) x zero d e = let q : y ≡ d = cc in ap (λ (z : Decision). (up_of (parent_in z.slot)).0) q
  at_ups (y ∷ es) x (suc k) d e = at_ups es x k d e

  end_ups : (es : List Decision) (x : ℕ) → slice_index (map (λ (d : Decision). (up_of (parent_in d.slot)).0) es ++ x ∷ []) (length es) ≡ x
  end_ups [] x = refl
  end_ups (e ∷ es) x = end_ups es x

  are_ups : AreUps ds ups
  unfolding ups
  are_ups = record {
    long = long_ups ds (length ds);
    each = λ k d e. subst (IsUpTo ds (parent_in d.slot)) (sym (at_ups ds (length ds) k d e)) (up_of (parent_in d.slot)).1;
    end = end_ups ds (length ds);
  }

  tell_round : (k : ℕ) → k < length ups → Dec (IsRound ups k)
  tell_round k lt = elim (find_below (λ t. climbed ups (suc t) k ≡ k) (length ups) (λ t _. ℕ_discrete (climbed ups (suc t) k) k)) [
    | yes t ↦ yes (t.0, t.2)
    | no n ↦ no (λ r.
        let within = ups_within ds rising ups are_ups in
        let s = soon ups within (slice_index ups k) r.0 (up_within ups within k lt) in
        n (s.0, s.1, s.2 ∙ r.1))
  ]

  tell_loop : (d : Decision) → Split ds d → Dec (IsInLoop ds d)
  tell_loop d s =
      let k = place_of ds d s in
      let t = taken ds k.0 k.1 in
      let at : slice_get ds k.0 ≡ Some d = t.1 ∙ ap Some (sym (t.3 d) ∙ k.2 d) in
      let told = loop_told ds rising ups are_ups k.0 d at in
      elim (tell_round k.0 (omega (arith, k.1, are_ups.long))) [ yes r ↦ yes (told.0 r) | no n ↦ no (λ l. n (told.1 l)) ]

pub some_conflicts : (m : Merge) → IsInOrder m → (c : Conflicts) × AreConflictsOf m c
some_conflicts m order =
    let ds = m.nodes in
    let a = some_items (IsMisnamed ds) slot_item ds (λ d _. tell_misnamed ds order.names d) in
    let b = some_items (IsInLoop ds) slot_item ds (tell_loop ds order.names) in
    let c = some_items (IsOrphaned ds) slot_item ds (λ d _. tell_orphaned ds order.names d) in
    let d = some_items IsTorn slot_item ds (λ d _. tell_torn d) in
    let e = some_items (IsDuplicate ds) slot_item ds (λ d _. tell_duplicate ds order.names d) in
    let f = some_items IsAttrTorn attr_item (all_attrs ds) (λ x _. tell_attr x) in
    let g = some_items IsContentTorn content_item ds (λ d _. tell_content d) in
    let root = flag (tell_root ds order.names) in (
      record { missing_root = root.0; invalid_name = a.0; directory_loop = b.0; orphaned_node = c.0; multiple_name = d.0; duplicate_name = e.0; attribute = f.0; content = g.0; dropped_modified = map pending_item m.pending },
      record { missing_root = root.1; invalid_name = a.1; directory_loop = b.1; orphaned_node = c.1; multiple_name = d.1; duplicate_name = e.1; attribute = f.1; content = g.1; dropped_modified = refl },
    )
  where
    flag : Dec (HasRoot m.nodes) → (b : Bool) × (IsTrue b ↔ (¬ HasRoot m.nodes))
    flag (yes r) = (false, (λ h. absurd (let z = h in cc), λ n. absurd (n r)))
    flag (no n) = (true, (λ h. n, λ k. refl))
