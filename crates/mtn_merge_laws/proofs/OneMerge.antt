-- Two merges that decide the same are one.
use Rattle.std.specs.Prelude.{IsSome, find, map, option_map, option_and_then}
use Rattle.std.proofs.Common.{◌≡◌, ℕ, true, List, Option, Some, None, refl, sym, ◌∙◌, ap, subst}
use Rattle.std.proofs.lemmas.Option.{same_Some}
use Rattle.mtn_base.specs.Names.{name_cmp, same_name, bytes_cmp, same_bytes}
use Rattle.mtn_base.specs.declared.name.NodeName.{NodeName}
use Rattle.mtn_base.specs.Lists.{rises}
use Rattle.mtn_base.proofs.Finding.{found}
use Rattle.mtn_base.proofs.Orders.{names_total, bytes_total}
use Rattle.mtn_base.proofs.Tests.{same_name-is, same_name-self, same_bytes-is, same_bytes-self}
use Rattle.mtn_history_laws.specs.Scalars.{Scalar, Value, node_of}
use Rattle.mtn_history_laws.specs.Scalars.Scalar.{SlotOf, ContentOf, AttrOf}
use Rattle.mtn_history_laws.specs.Scalars.Value.{SlotValue, ContentValue, AttrValue}
use Rattle.mtn_roster.specs.declared.entry.Slot.{Slot}
use Rattle.mtn_decide.specs.declared.decision.AttrChoice.{AttrChoice}
use Rattle.mtn_decide.specs.declared.decision.AttrChoice.TheVariants.{Fixed as FixedAttr, Clash as AttrClash}
use Rattle.mtn_decide.specs.declared.decision.AttrDecision.{AttrDecision}
use Rattle.mtn_decide.specs.declared.decision.ContentChoice.{ContentChoice}
use Rattle.mtn_decide.specs.declared.decision.ContentChoice.TheVariants.{Absent, Fixed as FixedContent, Clash as ContentClash}
use Rattle.mtn_decide.specs.declared.decision.Decision.{Decision}
use Rattle.mtn_decide.specs.declared.decision.Pending.{Pending}
use Rattle.mtn_decide.specs.declared.decision.SlotChoice.{SlotChoice}
use Rattle.mtn_decide.specs.declared.decision.SlotChoice.TheVariants.{Fixed as FixedSlot, Clash as SlotClash}
use Rattle.mtn_decide.specs.Decisions.{Merge, IsInOrder, decision_of, pending_of, choice_of, is_absent, has_keys_in_order}
use Rattle.mtn_decide.specs.Verdicts.{Verdict, IsMergeBy, slot_verdict, content_verdict, attr_verdict, verdict_of, verdict_in}
use Rattle.mtn_decide.specs.Verdicts.Verdict.{Settled, Clashing}
use Rattle.mtn_conflicts.proofs.Before.{same_test}
use Rattle.mtn_conflicts.proofs.Nodes.{found_at, found_name}
use Rattle.mtn_conflicts.proofs.Renamed.{one_of}
use Rattle.mtn_merge_laws.proofs.Looks.{one_by_looks, one_option}

-- ---- what a verdict says

slot_in : Slot → Value → Slot
slot_in s (SlotValue t) = t
slot_in s _ = s

slot_back : SlotChoice → Verdict → SlotChoice
slot_back c (Settled (SlotValue s)) = FixedSlot s
slot_back c (Clashing (SlotValue l) (SlotValue r)) = SlotClash l r
slot_back c _ = c

slot_is : (z c : SlotChoice) → slot_back z (slot_verdict c) ≡ c
unfolding slot_back
slot_is z (FixedSlot s) = refl
slot_is z (SlotClash l r) = refl

one_slot : (c d : SlotChoice) → slot_verdict c ≡ slot_verdict d → c ≡ d
one_slot c d e = sym (slot_is c c) ∙ ap (slot_back c) e ∙ slot_is c d

content_back : Option Verdict → ContentChoice
content_back (Some (Settled (ContentValue c))) = FixedContent c
content_back (Some (Clashing (ContentValue l) (ContentValue r))) = ContentClash l r
content_back _ = Absent

content_is : (c : ContentChoice) → content_back (content_verdict c) ≡ c
unfolding content_back
content_is Absent = refl
content_is (FixedContent c) = refl
content_is (ContentClash l r) = refl

one_content : (c d : ContentChoice) → content_verdict c ≡ content_verdict d → c ≡ d
one_content c d e = sym (content_is c) ∙ ap content_back e ∙ content_is d

attr_back : AttrChoice → Verdict → AttrChoice
attr_back c (Settled (AttrValue v)) = FixedAttr v
attr_back c (Clashing (AttrValue l) (AttrValue r)) = AttrClash l r
attr_back c _ = c

attr_is : (z c : AttrChoice) → attr_back z (attr_verdict c) ≡ c
unfolding attr_back
attr_is z (FixedAttr v) = refl
attr_is z (AttrClash l r) = refl

one_attr : (o u : Option AttrChoice) → option_map attr_verdict o ≡ option_map attr_verdict u → o ≡ u
one_attr None None e = refl
one_attr None (Some d) e = absurd cc
one_attr (Some c) None e = absurd cc
one_attr (Some c) (Some d) e = ap Some (sym (attr_is c c) ∙ ap (attr_back c) (same_Some (attr_verdict c) (attr_verdict d) e) ∙ attr_is c d)

-- ---- attributes

one_found : (xs ys : List AttrDecision) (k : List ℕ) → choice_of xs k ≡ choice_of ys k → (o u : Option AttrDecision) → find (λ (a : AttrDecision). same_bytes a.key k) xs ≡ o → find (λ (a : AttrDecision). same_bytes a.key k) ys ≡ u →
    option_map (λ (a : AttrDecision). a.choice) o ≡ option_map (λ (a : AttrDecision). a.choice) u → o ≡ u
one_found xs ys k e None None h g c = refl
one_found xs ys k e None (Some b) h g c = absurd cc
one_found xs ys k e (Some a) None h g c = absurd cc
one_found xs ys k e (Some a) (Some b) h g c =
    let key : a.key ≡ b.key = same_bytes-is a.key k (found (λ (x : AttrDecision). same_bytes x.key k) xs a h).passes ∙ sym (same_bytes-is b.key k (found (λ (x : AttrDecision). same_bytes x.key k) ys b g).passes) in
    let choice : a.choice ≡ b.choice = same_Some _ _ c in
    ap Some (λ i. record { key = key i; choice = choice i })

one_attrs : (xs ys : List AttrDecision) → rises bytes_cmp (map (λ (a : AttrDecision). a.key) xs) ≡ true → rises bytes_cmp (map (λ (a : AttrDecision). a.key) ys) ≡ true →
    ((k : List ℕ) → choice_of xs k ≡ choice_of ys k) → xs ≡ ys
one_attrs xs ys up also alike =
    one_by_looks bytes_cmp same_bytes (λ (a : AttrDecision). a.key) bytes_total same_bytes-is same_bytes-self xs ys up also
    (λ k. one_found xs ys k (alike k) (find (λ (a : AttrDecision). same_bytes a.key k) xs) (find (λ (a : AttrDecision). same_bytes a.key k) ys) refl refl (alike k))

module _ {lives : NodeName → Type 0} {has : Scalar → Verdict → Type 0} {waits : NodeName → Pending → Type 0} (m n : Merge) (om : IsInOrder m) (on : IsInOrder n)
    (im : IsMergeBy lives has waits m) (in' : IsMergeBy lives has waits n) where
  one_verdict : (s : Scalar) → verdict_in m s ≡ verdict_in n s
  one_verdict s = one_option (verdict_in m s) (verdict_in n s) (λ v e. (in'.scalars s v).1 ((im.scalars s v).0 e)) (λ v e. (im.scalars s v).1 ((in'.scalars s v).0 e))

  both : (k : NodeName) (d e : Decision) → decision_of m.nodes k ≡ Some d → decision_of n.nodes k ≡ Some e → d ≡ e
  both k d e h g = λ i. record {
    name = name i;
    is_dir = dir i;
    slot = slot i;
    content = content i;
    attrs = attrs i;
    reborn = reborn i;
  }
    where
      name : d.name ≡ e.name
      name = found_name m.nodes k d h ∙ sym (found_name n.nodes k e g)

      verdict : (s : Scalar) → node_of s ≡ k → verdict_of s d ≡ verdict_of s e
      verdict s at =
          sym (ap (option_and_then (verdict_of s)) (ap (decision_of m.nodes) at ∙ h)) ∙ one_verdict s ∙ ap (option_and_then (verdict_of s)) (ap (decision_of n.nodes) at ∙ g)

      slot : d.slot ≡ e.slot
      slot = one_slot d.slot e.slot (same_Some (slot_verdict d.slot) (slot_verdict e.slot) (verdict (SlotOf k) refl))

      content : d.content ≡ e.content
      content = one_content d.content e.content (verdict (ContentOf k) refl)

      kind_m : is_absent d.content ≡ d.is_dir
      kind_m = same_test (λ (x : Decision). is_absent x.content) (λ (x : Decision). x.is_dir) m.nodes om.kinds d (found_at m.nodes k d h)

      kind_n : is_absent e.content ≡ e.is_dir
      kind_n = same_test (λ (x : Decision). is_absent x.content) (λ (x : Decision). x.is_dir) n.nodes on.kinds e (found_at n.nodes k e g)

      dir : d.is_dir ≡ e.is_dir
      dir = sym kind_m ∙ ap is_absent content ∙ kind_n

      choices : (key : List ℕ) → choice_of d.attrs key ≡ choice_of e.attrs key
      choices key = one_attr (choice_of d.attrs key) (choice_of e.attrs key) (verdict (AttrOf k key) refl)

      rise_m : rises bytes_cmp (map (λ (a : AttrDecision). a.key) d.attrs) ≡ true
      rise_m = one_of has_keys_in_order m.nodes d om.keys (found_at m.nodes k d h)

      rise_n : rises bytes_cmp (map (λ (a : AttrDecision). a.key) e.attrs) ≡ true
      rise_n = one_of has_keys_in_order n.nodes e on.keys (found_at n.nodes k e g)

      attrs : d.attrs ≡ e.attrs
      attrs = one_attrs d.attrs e.attrs rise_m rise_n choices

      reborn : d.reborn ≡ e.reborn
      reborn = im.unborn k d h ∙ sym (in'.unborn k e g)

  one_at : (k : NodeName) (o u : Option Decision) → decision_of m.nodes k ≡ o → decision_of n.nodes k ≡ u → o ≡ u
  one_at k None None h g = refl
  one_at k (Some d) None h g = absurd (let z = subst IsSome g ((in'.live k).1 ((im.live k).0 (subst IsSome (sym h) refl))) in cc)
  one_at k None (Some e) h g = absurd (let z = subst IsSome h ((im.live k).1 ((in'.live k).0 (subst IsSome (sym g) refl))) in cc)
  one_at k (Some d) (Some e) h g = ap Some (both k d e h g)

  nodes : m.nodes ≡ n.nodes
  nodes = one_by_looks name_cmp same_name (λ (d : Decision). d.name) names_total same_name-is same_name-self m.nodes n.nodes om.names on.names
      (λ k. one_at k (decision_of m.nodes k) (decision_of n.nodes k) refl refl)

  pending : m.pending ≡ n.pending
  pending = one_by_looks name_cmp same_name (λ (p : Pending). p.entry.name) names_total same_name-is same_name-self m.pending n.pending om.pending_names on.pending_names
      (λ k. one_option (pending_of m.pending k) (pending_of n.pending k) (λ p e. (in'.pending k p).1 ((im.pending k p).0 e)) (λ p e. (im.pending k p).1 ((in'.pending k p).0 e)))

  pub one_merge : m ≡ n
  one_merge = λ i. record { nodes = nodes i; pending = pending i }
