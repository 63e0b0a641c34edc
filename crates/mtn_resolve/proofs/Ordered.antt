-- Overridden decisions are in order.
use Rattle.std.specs.Prelude.{filter, filter_map, map, option_map, option_and_then, not, ◌||◌, IsSome}
use Rattle.std.specs.Option.{option_map_or}
use Rattle.std.specs.List.{list_all, cons_option}
use Rattle.std.specs.declared.cmp.Ordering.{Ordering}
use Rattle.std.specs.Ordering.{is_lt}
use Rattle.std.specs.Cmp.{first_so, second_so}
use Rattle.std.proofs.Common.{◌≡◌, ℕ, Bool, true, false, cond, List, [], ◌∷◌, Option, Some, None, ◌⊎◌, inl, inr, refl, sym, ◌∙◌, ap, subst}
use Rattle.mtn_base.specs.Names.{name_cmp, bytes_cmp}
use Rattle.mtn_base.specs.declared.id.Id.{Id}
use Rattle.mtn_base.specs.declared.name.NodeName.{NodeName}
use Rattle.mtn_roster.specs.declared.entry.Attr.{Attr}
use Rattle.mtn_roster.specs.declared.entry.Body.{Body}
use Rattle.mtn_roster.specs.declared.entry.Body.TheVariants.{Dir, File}
use Rattle.mtn_roster.specs.Attrs.{are_keyed}
use Rattle.mtn_roster.specs.Tree.{is_dir_body}
use Rattle.mtn_base.specs.Lists.{rises}
use Rattle.mtn_base.proofs.Finding.{Split, later}
use Rattle.mtn_base.proofs.Members.{head, split_cons, of_append}
use Rattle.mtn_base.proofs.Orders.{names_total}
use Rattle.mtn_base.proofs.Sorting.{no_split, ordered-rises, of_ordered}
use Rattle.mtn_base.proofs.Tests.{both_true, told}
use Rattle.mtn_decide.specs.declared.decision.AttrChoice.TheVariants.{Fixed as FixedAttr}
use Rattle.mtn_decide.specs.declared.decision.AttrDecision.{AttrDecision}
use Rattle.mtn_decide.specs.declared.decision.ContentChoice.{ContentChoice}
use Rattle.mtn_decide.specs.declared.decision.ContentChoice.TheVariants.{Absent, Fixed, Clash}
use Rattle.mtn_decide.specs.declared.decision.Decision.{Decision}
use Rattle.mtn_decide.specs.declared.decision.Pending.{Pending}
use Rattle.mtn_decide.specs.Decisions.{Merge, IsInOrder, decision_of, pending_of, has_keys_in_order, is_absent, is_file_in_order}
use Rattle.mtn_conflicts.proofs.Before.{same_test}
use Rattle.mtn_conflicts.proofs.Renamed.{of_map, one_of}
use Rattle.mtn_resolve.specs.declared.resolution.Resolution.{Resolution}
use Rattle.mtn_resolve.specs.Subjects.{content_of, resolution_of}
use Rattle.mtn_resolve.specs.Overriding.{is_dropped, is_kept, new_node, new_content, live_attr, content_in, with_content, pick_in, reborn_of, living, still_pending, overridden}
use Rattle.mtn_resolve.proofs.Looking.{or_else, look_filter, look_living, look_over}
use Rattle.mtn_resolve.proofs.Staying.{keys_stay}

-- a test of all is one of those that a filter leaves
all_left : {X : Type 0} (p q : X → Bool) (xs : List X) → list_all p xs ≡ true → list_all p (filter q xs) ≡ true
all_left p q [] h = refl
all_left p q (x ∷ xs) h = elim (q x) as (λ b. list_all p (cond b (x ∷ filter q xs) (filter q xs)) ≡ true) [
  | true ↦ both_true _ _ (first_so _ _ h) (all_left p q xs (second_so (p x) _ h))
  | false ↦ all_left p q xs (second_so (p x) _ h)
]

module _ {X K : Type 0} (cmp : K → K → Ordering) (key : X → K) (q : X → Bool) where
  low_left : (k : K) (xs : List X) → list_all (λ l. is_lt (cmp k l)) (map key xs) ≡ true → list_all (λ l. is_lt (cmp k l)) (map key (filter q xs)) ≡ true
  low_left k [] h = refl
  low_left k (x ∷ xs) h = elim (q x) as (λ b. list_all (λ l. is_lt (cmp k l)) (map key (cond b (x ∷ filter q xs) (filter q xs))) ≡ true) [
    | true ↦ both_true _ _ (first_so _ _ h) (low_left k xs (second_so (is_lt (cmp k (key x))) _ h))
    | false ↦ low_left k xs (second_so (is_lt (cmp k (key x))) _ h)
  ]

  -- what a filter leaves ascends
  pub rises_left : (xs : List X) → rises cmp (map key xs) ≡ true → rises cmp (map key (filter q xs)) ≡ true
  rises_left [] h = refl
  rises_left (x ∷ xs) h = elim (q x) as (λ b. rises cmp (map key (cond b (x ∷ filter q xs) (filter q xs))) ≡ true) [
    | true ↦ both_true _ _ (low_left (key x) xs (first_so _ _ h)) (rises_left xs (second_so (list_all (λ l. is_lt (cmp (key x) l)) (map key xs)) _ h))
    | false ↦ rises_left xs (second_so (list_all (λ l. is_lt (cmp (key x) l)) (map key xs)) _ h)
  ]

-- an element that a filter leaves is one, and passes
pub of_filter : {X : Type 0} (q : X → Bool) (xs : List X) (x : X) → Split (filter q xs) x → Split xs x × (q x ≡ true)
of_filter q [] x s = absurd (no_split x s)
of_filter q (y ∷ xs) x s = elim (told (q y)) [
  | inl e ↦ elim (split_cons y (filter q xs) x (subst (λ b. Split (cond b (y ∷ filter q xs) (filter q xs)) x) e s)) [
    | inl g ↦ (subst (Split (y ∷ xs)) g (head y xs), ap q (sym g) ∙ e)
    | inr u ↦ let r = of_filter q xs x u in (later y xs x r.0, r.1)
  ]
  | inr e ↦ let r = of_filter q xs x (subst (λ b. Split (cond b (y ∷ filter q xs) (filter q xs)) x) e s) in (later y xs x r.0, r.1)
]

-- what holds of each element holds of all
all_of : {X : Type 0} (p : X → Bool) (xs : List X) → ((x : X) → Split xs x → p x ≡ true) → list_all p xs ≡ true
all_of p [] h = refl
all_of p (x ∷ xs) h = both_true _ _ (h x (head x xs)) (all_of p xs (λ y s. h y (later x xs y s)))

same_of : {X Y : Type 0} (f g : X → Y) (xs : List X) → ((x : X) → Split xs x → f x ≡ g x) → map f xs ≡ map g xs
same_of f g [] h = refl
same_of f g (x ∷ xs) h = λ i. h x (head x xs) i ∷ same_of f g xs (λ y s. h y (later x xs y s)) i

-- the keys of live attributes ascend
low_live : (k : List ℕ) (as' : List Attr) → list_all (λ l. is_lt (bytes_cmp k l)) (map (λ (a : Attr). a.key) as') ≡ true →
    list_all (λ l. is_lt (bytes_cmp k l)) (map (λ (a : AttrDecision). a.key) (filter_map live_attr as')) ≡ true
low_live k [] h = refl
low_live k (a ∷ as') h =
    let rest = low_live k as' (second_so (is_lt (bytes_cmp k a.key)) _ h) in
    elim a.value as (λ v. list_all (λ l. is_lt (bytes_cmp k l)) (map (λ (b : AttrDecision). b.key) (cons_option (option_map (λ (w : List ℕ). record { key = a.key; choice = FixedAttr (Some w) }) v) (filter_map live_attr as'))) ≡ true) [
      | None ↦ rest
      | Some v ↦ both_true _ _ (first_so _ _ h) rest
    ]

live_rises : (as' : List Attr) → are_keyed as' ≡ true → rises bytes_cmp (map (λ (a : AttrDecision). a.key) (filter_map live_attr as')) ≡ true
live_rises [] h = refl
live_rises (a ∷ as') h =
    let rest = live_rises as' (second_so (list_all (λ l. is_lt (bytes_cmp a.key l)) (map (λ (b : Attr). b.key) as')) _ h) in
    elim a.value as (λ v. rises bytes_cmp (map (λ (b : AttrDecision). b.key) (cons_option (option_map (λ (w : List ℕ). record { key = a.key; choice = FixedAttr (Some w) }) v) (filter_map live_attr as'))) ≡ true) [
      | None ↦ rest
      | Some v ↦ both_true _ _ (low_live a.key as' (first_so _ _ h)) rest
    ]

absent_body : (b : Body) → is_absent (content_in b) ≡ is_dir_body b
absent_body Dir = refl
absent_body (File c) = refl

absent_with : (pick : Id) (c : ContentChoice) → is_absent (with_content pick c) ≡ is_absent c
absent_with pick Absent = refl
absent_with pick (Fixed c) = refl
absent_with pick (Clash l r) = refl

module _ (m : Merge) (rs : List Resolution) (order : IsInOrder m) where
  -- a living node is a live one, or a pending one that is reborn
  of_living : (d : Decision) → Split (living rs m) d → Split m.nodes d ⊎ ((p : Pending) × Split m.pending p × (reborn_of p ≡ d))
  of_living d s = elim (of_append (filter (λ (d : Decision). not (is_dropped rs d.name)) m.nodes) (map reborn_of (filter (λ (p : Pending). is_kept rs p.entry.name) m.pending)) d s) [
    | inl u ↦ inl (of_filter (λ (d : Decision). not (is_dropped rs d.name)) m.nodes d u).0
    | inr u ↦
        let v = of_map reborn_of (filter (λ (p : Pending). is_kept rs p.entry.name) m.pending) d u in
        inr (v.0, (of_filter (λ (p : Pending). is_kept rs p.entry.name) m.pending v.0 v.1).0, v.2)
  ]

  -- a node after resolutions is a living one with new scalars
  of_over : (e : Decision) → Split (overridden rs m).nodes e → (d : Decision) × Split (living rs m) d × (new_node rs d ≡ e)
  of_over e s = of_map (new_node rs) (living rs m) e (of_ordered name_cmp (λ (d : Decision). d.name) names_total (map (new_node rs) (living rs m)) e s)

  keys_living : (d : Decision) → Split (living rs m) d → has_keys_in_order d ≡ true
  keys_living d s = elim (of_living d s) [
    | inl u ↦ one_of has_keys_in_order m.nodes d order.keys u
    | inr t ↦ subst (λ (x : Decision). has_keys_in_order x ≡ true) t.2
        (live_rises t.0.entry.attrs (second_so (not (is_dir_body t.0.entry.body)) _ (one_of is_file_in_order m.pending t.0 order.files t.1)))
  ]

  keys_over : (e : Decision) → Split (overridden rs m).nodes e → has_keys_in_order e ≡ true
  keys_over e s =
      let v = of_over e s in
      subst (λ (x : Decision). has_keys_in_order x ≡ true) v.2 (ap (rises bytes_cmp) (keys_stay rs v.0.name v.0.attrs) ∙ keys_living v.0 v.1)

  kind_living : (d : Decision) → Split (living rs m) d → is_absent d.content ≡ d.is_dir
  kind_living d s = elim (of_living d s) [
    | inl u ↦ same_test (λ (d : Decision). is_absent d.content) (λ (d : Decision). d.is_dir) m.nodes order.kinds d u
    | inr t ↦ subst (λ (x : Decision). is_absent x.content ≡ x.is_dir) t.2 (absent_body t.0.entry.body)
  ]

  absent_stays : (n : NodeName) (c : ContentChoice) → is_absent (new_content rs n c) ≡ is_absent c
  absent_stays n c = go (option_and_then pick_in (resolution_of rs (content_of n)))
    where
      go : (o : Option Id) → is_absent (option_map_or (λ pick. with_content pick c) o c) ≡ is_absent c
      go None = refl
      go (Some pick) = absent_with pick c

  kind_over : (e : Decision) → Split (overridden rs m).nodes e → is_absent e.content ≡ e.is_dir
  kind_over e s =
      let v = of_over e s in
      subst (λ (x : Decision). is_absent x.content ≡ x.is_dir) v.2 (absent_stays v.0.name v.0.content ∙ kind_living v.0 v.1)

  look_pending : (n : NodeName) → pending_of (still_pending rs m.pending) n ≡ cond (not (is_dropped rs n || is_kept rs n)) (pending_of m.pending n) None
  look_pending n = look_filter (λ (p : Pending). p.entry.name) (λ k. not (is_dropped rs k || is_kept rs k)) m.pending n

  apart_over : (n : NodeName) → IsSome (decision_of (overridden rs m).nodes n) → pending_of (still_pending rs m.pending) n ≡ None
  apart_over n h = look_pending n ∙ go (is_dropped rs n) (is_kept rs n) (decision_of m.nodes n) refl (subst IsSome (look_over m rs n ∙ ap (option_map (new_node rs)) (look_living m rs n)) h)
    where
      go : (x k : Bool) (o : Option Decision) → decision_of m.nodes n ≡ o → IsSome (option_map (new_node rs) (or_else (cond (not x) o None) (option_map reborn_of (cond k (pending_of m.pending n) None)))) →
          cond (not (x || k)) (pending_of m.pending n) None ≡ None
      go true k o e g = refl
      go false true o e g = refl
      go false false (Some d) e g = order.apart n (subst IsSome (sym e) refl)
      go false false None e g = absurd cc

  pub in_order : IsInOrder (overridden rs m)
  in_order = record {
    names = ordered-rises name_cmp (λ (d : Decision). d.name) names_total (map (new_node rs) (living rs m));
    keys = all_of has_keys_in_order (overridden rs m).nodes keys_over;
    kinds = same_of (λ (d : Decision). is_absent d.content) (λ (d : Decision). d.is_dir) (overridden rs m).nodes kind_over;
    pending_names = rises_left name_cmp (λ (p : Pending). p.entry.name) (λ (p : Pending). not (is_dropped rs p.entry.name || is_kept rs p.entry.name)) m.pending order.pending_names;
    files = all_left is_file_in_order (λ (p : Pending). not (is_dropped rs p.entry.name || is_kept rs p.entry.name)) m.pending order.files;
    apart = apart_over;
  }
