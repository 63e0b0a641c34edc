-- A merge of two revisions of a history decides something.
use Rattle.std.specs.Cmp.{second_so}
use Rattle.std.specs.Prelude.{◌↔◌, ◌<◌, IsSome, length, map, find, slice_get, not, option_map, option_and_then}
use Rattle.std.proofs.Common.{◌≡◌, ◌⊎◌, ℕ, Bool, true, false, List, [], ◌++◌, Option, Some, None, inl, inr, ⊎_elim, refl, sym, ◌∙◌, ap, subst}
use Rattle.std.proofs.lemmas.Option.{same_Some}
use Rattle.mtn_base.specs.Names.{name_cmp, same_name, bytes_cmp, same_bytes}
use Rattle.mtn_base.specs.declared.id.Id.{Id}
use Rattle.mtn_base.specs.declared.name.NodeName.{NodeName}
use Rattle.mtn_base.specs.Lists.{rises}
use Rattle.mtn_base.proofs.Finding.{Split, found}
use Rattle.mtn_base.proofs.Members.{in_left, in_right}
use Rattle.mtn_base.proofs.Orders.{names_total, bytes_total, exact_names, exact_bytes}
use Rattle.mtn_base.proofs.Tests.{both_true, same_name-is, same_name-self, same_bytes-is, same_bytes-self}
use Rattle.mtn_history_laws.specs.History.{Revision, IsGrown, revision_tree, tree_at, entry_at}
use Rattle.mtn_history_laws.specs.Scalars.{Scalar, Value, WinsAt, node_of, value_of, value_at, content_of}
use Rattle.mtn_history_laws.specs.Scalars.Scalar.{SlotOf, ContentOf, AttrOf}
use Rattle.mtn_history_laws.specs.Scalars.Value.{SlotValue, ContentValue, AttrValue}
use Rattle.mtn_roster.specs.Attrs.{are_keyed}
use Rattle.mtn_roster.specs.declared.entry.Attr.{Attr}
use Rattle.mtn_roster.specs.declared.entry.Entry.{Entry}
use Rattle.mtn_roster.specs.declared.entry.Slot.{Slot}
use Rattle.mtn_roster.specs.Tree.{entry_of, attr_of, is_dir}
use Rattle.mtn_decide.specs.declared.decision.AttrChoice.{AttrChoice}
use Rattle.mtn_decide.specs.declared.decision.AttrChoice.TheVariants.{Fixed as FixedAttr, Clash as AttrClash}
use Rattle.mtn_decide.specs.declared.decision.AttrDecision.{AttrDecision}
use Rattle.mtn_decide.specs.declared.decision.ContentChoice.{ContentChoice}
use Rattle.mtn_decide.specs.declared.decision.ContentChoice.TheVariants.{Absent, Fixed as FixedContent, Clash as ContentClash}
use Rattle.mtn_decide.specs.declared.decision.Decision.{Decision}
use Rattle.mtn_decide.specs.declared.decision.Pending.{Pending}
use Rattle.mtn_decide.specs.declared.decision.SlotChoice.{SlotChoice}
use Rattle.mtn_decide.specs.declared.decision.SlotChoice.TheVariants.{Fixed as FixedSlot, Clash as SlotClash}
use Rattle.mtn_decide.specs.Decisions.{Merge, IsInOrder, decision_of, pending_of, choice_of, is_absent, has_keys_in_order, is_file_in_order}
use Rattle.mtn_decide.specs.Graph.{IsDecided, IsLive, IsLiveWith, IsPending, IsMergeOf}
use Rattle.mtn_decide.specs.Graph.IsPending.{of_left, of_right}
use Rattle.mtn_decide.specs.Graph.IsDecided.{common, left_alone, right_alone, left_wins, right_wins, clash}
use Rattle.mtn_decide.specs.Verdicts.{Verdict, slot_verdict, content_verdict, attr_verdict, verdict_of}
use Rattle.mtn_decide.specs.Verdicts.Verdict.{Settled, Clashing}
use Rattle.mtn_conflicts.proofs.Renamed.{in_map, one_of}
use Rattle.mtn_marking.proofs.Zips.{got_at}
use Rattle.mtn_merge_laws.proofs.Built.{all_of, same_maps, built, built_rises, built_has, built_from}
use Rattle.mtn_merge_laws.proofs.SomeVerdict.{IsVerdict, both, some_verdict, tell_live, tell_wins_at}

-- ---- verdicts of one kind

-- both values of a verdict have P
abbrev IsOf : (Value → Type 0) → Verdict → Type 0
IsOf P (Settled v) = P v
IsOf P (Clashing l r) = P l × P r

abbrev IsSlotValue : Value → Type 0
IsSlotValue v = (s : Slot) × (v ≡ SlotValue s)

abbrev IsContentValue : Value → Type 0
IsContentValue v = (c : Id) × (v ≡ ContentValue c)

abbrev IsAttrValue : Value → Type 0
IsAttrValue v = (a : Option (List ℕ)) × (v ≡ AttrValue a)

slot_choice : (v : Verdict) → IsOf IsSlotValue v → (c : SlotChoice) × (slot_verdict c ≡ v)
slot_choice (Settled v) h = (FixedSlot h.0, ap Settled (sym h.1))
slot_choice (Clashing l r) h = (SlotClash h.0.0 h.1.0, λ i. Clashing (sym h.0.1 i) (sym h.1.1 i))

content_choice : (o : Option Verdict) → ((v : Verdict) → o ≡ Some v → IsOf IsContentValue v) → (c : ContentChoice) × (content_verdict c ≡ o)
content_choice None h = (Absent, refl)
content_choice (Some (Settled v)) h = let k = h (Settled v) refl in (FixedContent k.0, ap (λ (x : Value). Some (Settled x)) (sym k.1))
content_choice (Some (Clashing l r)) h = let k = h (Clashing l r) refl in (ContentClash k.0.0 k.1.0, λ i. Some (Clashing (sym k.0.1 i) (sym k.1.1 i)))

attr_choice : (v : Verdict) → IsOf IsAttrValue v → (c : AttrChoice) × (attr_verdict c ≡ v)
attr_choice (Settled v) h = (FixedAttr h.0, ap Settled (sym h.1))
attr_choice (Clashing l r) h = (AttrClash h.0.0 h.1.0, λ i. Clashing (sym h.0.1 i) (sym h.1.1 i))

module _ (h : List Revision) (grown : IsGrown h) (p q : ℕ) where
  -- a value that is decided is one of the scalar
  of_scalar : (P : Value → Type 0) (s : Scalar) → ((r : ℕ) (v : Value) → value_at h s r ≡ Some v → P v) → (v : Verdict) → IsDecided h p q s v → IsOf P v
  of_scalar P s is _ (common {v = v} e f) = is p v e
  of_scalar P s is _ (left_alone {v = v} e f) = is p v e
  of_scalar P s is _ (right_alone {w = w} e f) = is q w f
  of_scalar P s is _ (left_wins {v = v} e f n l) = is p v e
  of_scalar P s is _ (right_wins {w = w} e f n l r) = is q w f
  of_scalar P s is _ (clash {v = v} {w = w} e f n l r) = (is p v e, is q w f)

  at_entry : (P : Value → Type 0) (s : Scalar) → ((e : Entry) (v : Value) → value_of s e ≡ Some v → P v) → (r : ℕ) (v : Value) → value_at h s r ≡ Some v → P v
  at_entry P s is r v k = go (entry_at h r (node_of s)) k
    where
      go : (o : Option Entry) → option_and_then (value_of s) o ≡ Some v → P v
      go None e = absurd cc
      go (Some x) e = is x v e

  slot_value : (n : NodeName) (e : Entry) (v : Value) → value_of (SlotOf n) e ≡ Some v → IsSlotValue v
  slot_value n e v k = (e.slot, sym (same_Some (SlotValue e.slot) v k))

  content_value : (n : NodeName) (e : Entry) (v : Value) → value_of (ContentOf n) e ≡ Some v → IsContentValue v
  content_value n e v k = go (content_of e.body) k
    where
      go : (o : Option Id) → option_map ContentValue o ≡ Some v → IsContentValue v
      go None f = absurd cc
      go (Some c) f = (c, sym (same_Some (ContentValue c) v f))

  attr_value : (n : NodeName) (key : List ℕ) (e : Entry) (v : Value) → value_of (AttrOf n key) e ≡ Some v → IsAttrValue v
  attr_value n key e v k = go (attr_of e.attrs key) k
    where
      go : (o : Option (Option (List ℕ))) → option_map AttrValue o ≡ Some v → IsAttrValue v
      go None f = absurd cc
      go (Some a) f = (a, sym (same_Some (AttrValue a) v f))

  verdict : Scalar → Option Verdict
  verdict s = (some_verdict h grown p q s).0

  is_verdict : (s : Scalar) → IsVerdict h grown p q s (verdict s)
  unfolding verdict
  is_verdict s = (some_verdict h grown p q s).1

  -- ---- what is decided of a live node

  there : (s : Scalar) (r : ℕ) (e : Entry) → entry_at h r (node_of s) ≡ Some e → value_at h s r ≡ value_of s e
  there s r e k = ap (option_and_then (value_of s)) k

  slot_there : (n : NodeName) → IsLive h p q n → (v : Verdict) × (verdict (SlotOf n) ≡ Some v)
  slot_there n lives = go (verdict (SlotOf n)) refl
    where
      none : (v : Verdict) → verdict (SlotOf n) ≡ None → IsDecided h p q (SlotOf n) v → ⊥
      none v e d = let k = (is_verdict (SlotOf n) v).1 d in cc

      tell : verdict (SlotOf n) ≡ None → (o u : Option Entry) → entry_at h p n ≡ o → entry_at h q n ≡ u → IsLiveWith h p q n o u → (v : Verdict) × (verdict (SlotOf n) ≡ Some v)
      tell k (Some e) None f g l = absurd (none (Settled (SlotValue e.slot)) k (left_alone (there (SlotOf n) p e f) (ap (option_and_then (value_of (SlotOf n))) g)))
      tell k None (Some e) f g l = absurd (none (Settled (SlotValue e.slot)) k (right_alone (ap (option_and_then (value_of (SlotOf n))) f) (there (SlotOf n) q e g)))
      tell k None None f g l = absurd l
      tell k (Some e) (Some x) f g l =
          let t = both h grown p q (SlotOf n) (SlotValue e.slot) (SlotValue x.slot) (there (SlotOf n) p e f) (there (SlotOf n) q x g) in
          absurd (none t.0 k t.1.0)

      go : (o : Option Verdict) → verdict (SlotOf n) ≡ o → (v : Verdict) × (verdict (SlotOf n) ≡ Some v)
      go (Some v) e = (v, e)
      go None e = tell e (entry_at h p n) (entry_at h q n) refl refl lives

  module _ (n : NodeName) where
    slot_of_kind : (v : Verdict) → verdict (SlotOf n) ≡ Some v → IsOf IsSlotValue v
    slot_of_kind v e = of_scalar IsSlotValue (SlotOf n) (at_entry IsSlotValue (SlotOf n) (slot_value n)) v ((is_verdict (SlotOf n) v).0 e)

    content_of_kind : (v : Verdict) → verdict (ContentOf n) ≡ Some v → IsOf IsContentValue v
    content_of_kind v e = of_scalar IsContentValue (ContentOf n) (at_entry IsContentValue (ContentOf n) (content_value n)) v ((is_verdict (ContentOf n) v).0 e)

    attr_of_kind : (k : List ℕ) (v : Verdict) → verdict (AttrOf n k) ≡ Some v → IsOf IsAttrValue v
    attr_of_kind k v e = of_scalar IsAttrValue (AttrOf n k) (at_entry IsAttrValue (AttrOf n k) (attr_value n k)) v ((is_verdict (AttrOf n k) v).0 e)

    -- what is decided of a key
    key_by : (k : List ℕ) (o : Option Verdict) → verdict (AttrOf n k) ≡ o → Option AttrDecision
    key_by k None e = None
    key_by k (Some v) e = Some (record { key = k; choice = (attr_choice v (attr_of_kind k v e)).0 })

    key_of : List ℕ → Option AttrDecision
    key_of k = key_by k (verdict (AttrOf n k)) refl

    key_is : (k : List ℕ) (a : AttrDecision) → key_of k ≡ Some a → a.key ≡ k
    unfolding key_of key_by
    key_is k a = go (verdict (AttrOf n k)) refl
      where
        go : (o : Option Verdict) (e : verdict (AttrOf n k) ≡ o) → key_by k o e ≡ Some a → a.key ≡ k
        go None e h = absurd cc
        go (Some v) e h = sym (ap (λ (x : AttrDecision). x.key) (same_Some _ a h))

    key_verdict : (k : List ℕ) → option_map (λ (a : AttrDecision). attr_verdict a.choice) (key_of k) ≡ verdict (AttrOf n k)
    unfolding key_of key_by
    key_verdict k = go (verdict (AttrOf n k)) refl
      where
        go : (o : Option Verdict) (e : verdict (AttrOf n k) ≡ o) → option_map (λ (a : AttrDecision). attr_verdict a.choice) (key_by k o e) ≡ o
        go None e = refl
        go (Some v) e = ap Some (attr_choice v (attr_of_kind k v e)).1

    -- ---- the keys that a side has

    keys_in : Option Entry → List (List ℕ)
    keys_in None = []
    keys_in (Some e) = map (λ (a : Attr). a.key) e.attrs

    keys : List (List ℕ)
    keys = keys_in (entry_at h p n) ++ keys_in (entry_at h q n)

    key_there : (k : List ℕ) (o : Option Entry) (v : Value) → option_and_then (value_of (AttrOf n k)) o ≡ Some v → Split (keys_in o) k
    unfolding keys_in
    key_there k None v e = absurd cc
    key_there k (Some x) v e = go (find (λ (a : Attr). same_bytes a.key k) x.attrs) refl e
      where
        go : (o : Option Attr) → find (λ (a : Attr). same_bytes a.key k) x.attrs ≡ o → option_map AttrValue (option_map (λ (a : Attr). a.value) o) ≡ Some v → Split (map (λ (a : Attr). a.key) x.attrs) k
        go None f g = absurd cc
        go (Some a) f g =
            let there = found (λ (b : Attr). same_bytes b.key k) x.attrs a f in
            subst (Split (map (λ (b : Attr). b.key) x.attrs)) (same_bytes-is a.key k there.passes) (in_map (λ (b : Attr). b.key) x.attrs a there.at)

    -- a scalar that is decided a side has
    on_a_side : (s : Scalar) (v : Verdict) → IsDecided h p q s v → ((w : Value) × (value_at h s p ≡ Some w)) ⊎ ((w : Value) × (value_at h s q ≡ Some w))
    on_a_side s _ (common {v = v} e f) = inl (v, e)
    on_a_side s _ (left_alone {v = v} e f) = inl (v, e)
    on_a_side s _ (right_alone {w = w} e f) = inr (w, f)
    on_a_side s _ (left_wins {v = v} e f k l) = inl (v, e)
    on_a_side s _ (right_wins {w = w} e f k l r) = inr (w, f)
    on_a_side s _ (clash {v = v} e f k l r) = inl (v, e)

    all_keys : (k : List ℕ) (a : AttrDecision) → key_of k ≡ Some a → Split keys k
    unfolding key_of key_by keys
    all_keys k a = go (verdict (AttrOf n k)) refl
      where
        go : (o : Option Verdict) (e : verdict (AttrOf n k) ≡ o) → key_by k o e ≡ Some a → Split (keys_in (entry_at h p n) ++ keys_in (entry_at h q n)) k
        go None e g = absurd cc
        go (Some v) e g = ⊎_elim
            (λ (t : (w : Value) × (value_at h (AttrOf n k) p ≡ Some w)). in_left (keys_in (entry_at h p n)) (keys_in (entry_at h q n)) k (key_there k (entry_at h p n) t.0 t.1))
            (λ (t : (w : Value) × (value_at h (AttrOf n k) q ≡ Some w)). in_right (keys_in (entry_at h p n)) (keys_in (entry_at h q n)) k (key_there k (entry_at h q n) t.0 t.1))
            (on_a_side (AttrOf n k) v ((is_verdict (AttrOf n k) v).0 e))

    attrs : List AttrDecision
    attrs = built bytes_cmp same_bytes (λ (a : AttrDecision). a.key) bytes_total exact_bytes same_bytes-is same_bytes-self key_of key_is keys all_keys

    attrs_rise : rises bytes_cmp (map (λ (a : AttrDecision). a.key) attrs) ≡ true
    unfolding attrs
    attrs_rise = built_rises bytes_cmp same_bytes (λ (a : AttrDecision). a.key) bytes_total exact_bytes same_bytes-is same_bytes-self key_of key_is keys all_keys

    attrs_have : (k : List ℕ) → option_map attr_verdict (choice_of attrs k) ≡ verdict (AttrOf n k)
    unfolding attrs
    attrs_have k =
        ap (λ o. option_map attr_verdict (option_map (λ (a : AttrDecision). a.choice) o))
        (built_has bytes_cmp same_bytes (λ (a : AttrDecision). a.key) bytes_total exact_bytes same_bytes-is same_bytes-self key_of key_is keys all_keys k)
        ∙ joined (key_of k) ∙ key_verdict k
      where
        joined : (o : Option AttrDecision) → option_map attr_verdict (option_map (λ (a : AttrDecision). a.choice) o) ≡ option_map (λ (a : AttrDecision). attr_verdict a.choice) o
        joined None = refl
        joined (Some a) = refl

    -- ---- the decision of a live node

    content : (c : ContentChoice) × (content_verdict c ≡ verdict (ContentOf n))
    content = content_choice (verdict (ContentOf n)) content_of_kind

    module _ (lives : IsLive h p q n) where
      slot : (c : SlotChoice) × (slot_verdict c ≡ (slot_there n lives).0)
      slot = slot_choice (slot_there n lives).0 (slot_of_kind (slot_there n lives).0 (slot_there n lives).1)

      node : Decision
      node = record { name = n; is_dir = is_absent content.0; slot = slot.0; content = content.0; attrs = attrs; reborn = false }

      node_name : node.name ≡ n
      unfolding node
      node_name = refl

      node_kind : is_absent node.content ≡ node.is_dir
      unfolding node
      node_kind = refl

      node_born : node.reborn ≡ false
      unfolding node
      node_born = refl

      node_keys : has_keys_in_order node ≡ true
      unfolding node
      node_keys = attrs_rise

      node_says : (s : Scalar) → node_of s ≡ n → verdict_of s node ≡ verdict s
      unfolding node
      node_says (SlotOf k) e = ap Some slot.1 ∙ sym (slot_there n lives).1 ∙ ap (λ (m : NodeName). verdict (SlotOf m)) (sym e)
      node_says (ContentOf k) e = content.1 ∙ ap (λ (m : NodeName). verdict (ContentOf m)) (sym e)
      node_says (AttrOf k key) e = attrs_have key ∙ ap (λ (m : NodeName). verdict (AttrOf m key)) (sym e)

  -- ---- all live nodes

  node_by : (n : NodeName) → Dec (IsLive h p q n) → Option Decision
  node_by n (yes l) = Some (node n l)
  node_by n (no d) = None

  node_at : NodeName → Option Decision
  node_at n = node_by n (tell_live h grown p q n)

  record IsNodeOf (n : NodeName) (d : Decision) : Type 0 where
    lives : IsLive h p q n
    is : d ≡ node n lives

  node_from : (n : NodeName) (d : Decision) → node_at n ≡ Some d → IsNodeOf n d
  unfolding node_at node_by
  node_from n d = go (tell_live h grown p q n)
    where
      go : (t : Dec (IsLive h p q n)) → node_by n t ≡ Some d → IsNodeOf n d
      go (yes l) e = record { lives = l; is = sym (same_Some (node n l) d e) }
      go (no k) e = absurd cc

  node_name_is : (n : NodeName) (d : Decision) → node_at n ≡ Some d → d.name ≡ n
  node_name_is n d e = let f = node_from n d e in ap (λ (x : Decision). x.name) f.is ∙ node_name n f.lives

  names_in : ℕ → List NodeName
  names_in r = map (λ (e : Entry). e.name) (tree_at h r)

  name_there : (r : ℕ) (n : NodeName) (e : Entry) → entry_at h r n ≡ Some e → Split (names_in r) n
  unfolding names_in
  name_there r n e k =
      let f = found (λ (x : Entry). same_name x.name n) (tree_at h r) e k in
      subst (Split (map (λ (x : Entry). x.name) (tree_at h r))) (same_name-is e.name n f.passes) (in_map (λ (x : Entry). x.name) (tree_at h r) e f.at)

  names : List NodeName
  names = names_in p ++ names_in q

  seen : (n : NodeName) (o u : Option Entry) → entry_at h p n ≡ o → entry_at h q n ≡ u → IsSome o ⊎ IsSome u → Split names n
  unfolding names
  seen n (Some e) u f g some = in_left (names_in p) (names_in q) n (name_there p n e f)
  seen n None (Some e) f g some = in_right (names_in p) (names_in q) n (name_there q n e g)
  seen n None None f g some = absurd (⊎_elim (λ z. let y = z in cc) (λ z. let y = z in cc) some)

  live_seen : (n : NodeName) (o u : Option Entry) → IsLiveWith h p q n o u → IsSome o ⊎ IsSome u
  live_seen n (Some e) u l = inl refl
  live_seen n None (Some e) l = inr refl
  live_seen n None None l = absurd l

  all_nodes : (n : NodeName) (d : Decision) → node_at n ≡ Some d → Split names n
  all_nodes n d e = let f = node_from n d e in seen n (entry_at h p n) (entry_at h q n) refl refl (live_seen n (entry_at h p n) (entry_at h q n) f.lives)

  pub nodes : List Decision
  nodes = built name_cmp same_name (λ (d : Decision). d.name) names_total exact_names same_name-is same_name-self node_at node_name_is names all_nodes

  nodes_rise : rises name_cmp (map (λ (d : Decision). d.name) nodes) ≡ true
  unfolding nodes
  nodes_rise = built_rises name_cmp same_name (λ (d : Decision). d.name) names_total exact_names same_name-is same_name-self node_at node_name_is names all_nodes

  nodes_have : (n : NodeName) → decision_of nodes n ≡ node_at n
  unfolding nodes
  nodes_have n = built_has name_cmp same_name (λ (d : Decision). d.name) names_total exact_names same_name-is same_name-self node_at node_name_is names all_nodes n

  nodes_from : (d : Decision) → Split nodes d → IsNodeOf d.name d
  unfolding nodes
  nodes_from d s = node_from d.name d (built_from name_cmp same_name (λ (d : Decision). d.name) names_total exact_names same_name-is same_name-self node_at node_name_is names all_nodes d s)

  node_live : (n : NodeName) → IsSome (decision_of nodes n) → IsLive h p q n
  node_live n some = go (node_at n) refl (subst IsSome (nodes_have n) some)
    where
      go : (o : Option Decision) → node_at n ≡ o → IsSome o → IsLive h p q n
      go None e z = absurd (let y = z in cc)
      go (Some d) e z = (node_from n d e).lives

  live_node : (n : NodeName) → IsLive h p q n → (d : Decision) × (decision_of nodes n ≡ Some d) × IsNodeOf n d
  unfolding node_at node_by
  live_node n l = let t = go (tell_live h grown p q n) refl in (t.0, nodes_have n ∙ t.1, node_from n t.0 t.1)
    where
      go : (t : Dec (IsLive h p q n)) → tell_live h grown p q n ≡ t → (d : Decision) × (node_at n ≡ Some d)
      go (yes k) e = (node n k, ap (node_by n) e)
      go (no k) e = absurd (k l)

  -- ---- pending files

  dead_of : (n : NodeName) (x : Pending) → IsPending h p q n x → IsLive h p q n → ⊥
  dead_of n _ (of_left e d dead lost) l = dead l
  dead_of n _ (of_right e d dead lost) l = dead l

  same_at : (r : ℕ) (n : NodeName) (x y : Entry) → entry_at h r n ≡ Some x → entry_at h r n ≡ Some y → x ≡ y
  same_at r n x y e f = same_Some x y (sym e ∙ f)

  none_at : (r : ℕ) (n : NodeName) (x : Entry) → entry_at h r n ≡ None → entry_at h r n ≡ Some x → ⊥
  none_at r n x e f = cc

  abbrev IsWaiting : NodeName → Option Pending → Type 0
  IsWaiting n o = (x : Pending) → (o ≡ Some x) ↔ IsPending h p q n x

  no_pending : (n : NodeName) → ((x : Pending) → IsPending h p q n x → ⊥) → IsWaiting n None
  no_pending n none x = (λ e. absurd cc, λ i. absurd (none x i))

  one_pending : (n : NodeName) (y : Pending) → IsPending h p q n y → ((x : Pending) → IsPending h p q n x → x ≡ y) → IsWaiting n (Some y)
  one_pending n y is only x = (λ e. subst (IsPending h p q n) (same_Some y x e) is, λ i. ap Some (sym (only x i)))

  module _ (n : NodeName) (dead : IsLive h p q n → ⊥) where
    nowhere : entry_at h p n ≡ None → entry_at h q n ≡ None → (x : Pending) → IsPending h p q n x → ⊥
    nowhere e f _ (of_left {e = y} k d l w) = none_at p n y e k
    nowhere e f _ (of_right {e = y} k d l w) = none_at q n y f k

    module _ (y : Entry) (e : entry_at h p n ≡ Some y) (f : entry_at h q n ≡ None) where
      left_dir : is_dir y ≡ true → (x : Pending) → IsPending h p q n x → ⊥
      left_dir dir _ (of_left {e = z} k d l w) = let same = ap is_dir (same_at p n y z e k) in cc
      left_dir dir _ (of_right {e = z} k d l w) = none_at q n z f k

      left_lost : WinsAt h (ContentOf n) q p → (x : Pending) → IsPending h p q n x → ⊥
      left_lost w _ (of_left k d l nw) = nw w
      left_lost w _ (of_right {e = z} k d l nw) = none_at q n z f k

      left_only : (x : Pending) → IsPending h p q n x → x ≡ record { entry = y; from_left = true }
      left_only _ (of_left {e = z} k d l nw) = λ i. record { entry = same_at p n z y k e i; from_left = true }
      left_only _ (of_right {e = z} k d l nw) = absurd (none_at q n z f k)

      left_file : (b : Bool) → is_dir y ≡ b → Dec (WinsAt h (ContentOf n) q p) → (o : Option Pending) × IsWaiting n o
      left_file true dir t = (None, no_pending n (left_dir dir))
      left_file false dir (yes w) = (None, no_pending n (left_lost w))
      left_file false dir (no nw) = (Some (record { entry = y; from_left = true }), one_pending n (record { entry = y; from_left = true }) (of_left e dir dead nw) left_only)

    module _ (y : Entry) (e : entry_at h p n ≡ None) (f : entry_at h q n ≡ Some y) where
      right_dir : is_dir y ≡ true → (x : Pending) → IsPending h p q n x → ⊥
      right_dir dir _ (of_left {e = z} k d l w) = none_at p n z e k
      right_dir dir _ (of_right {e = z} k d l w) = let same = ap is_dir (same_at q n y z f k) in cc

      right_lost : WinsAt h (ContentOf n) p q → (x : Pending) → IsPending h p q n x → ⊥
      right_lost w _ (of_left {e = z} k d l nw) = none_at p n z e k
      right_lost w _ (of_right k d l nw) = nw w

      right_only : (x : Pending) → IsPending h p q n x → x ≡ record { entry = y; from_left = false }
      right_only _ (of_left {e = z} k d l nw) = absurd (none_at p n z e k)
      right_only _ (of_right {e = z} k d l nw) = λ i. record { entry = same_at q n z y k f i; from_left = false }

      right_file : (b : Bool) → is_dir y ≡ b → Dec (WinsAt h (ContentOf n) p q) → (o : Option Pending) × IsWaiting n o
      right_file true dir t = (None, no_pending n (right_dir dir))
      right_file false dir (yes w) = (None, no_pending n (right_lost w))
      right_file false dir (no nw) = (Some (record { entry = y; from_left = false }), one_pending n (record { entry = y; from_left = false }) (of_right f dir dead nw) right_only)

    waiting_at : (o u : Option Entry) → entry_at h p n ≡ o → entry_at h q n ≡ u → (t : Option Pending) × IsWaiting n t
    waiting_at None None e f = (None, no_pending n (nowhere e f))
    waiting_at (Some y) None e f = left_file y e f (is_dir y) refl (tell_wins_at h grown p q (ContentOf n) q p)
    waiting_at None (Some y) e f = right_file y e f (is_dir y) refl (tell_wins_at h grown p q (ContentOf n) p q)
    waiting_at (Some y) (Some z) e f = absurd (dead (subst (λ u. IsLiveWith h p q n (entry_at h p n) u) (sym f) (subst (λ o. IsLiveWith h p q n o (Some z)) (sym e) tt)))

  waiting_by : (n : NodeName) → Dec (IsLive h p q n) → (o : Option Pending) × IsWaiting n o
  waiting_by n (yes l) = (None, no_pending n (λ x i. dead_of n x i l))
  waiting_by n (no d) = waiting_at n d (entry_at h p n) (entry_at h q n) refl refl

  waiting : NodeName → Option Pending
  waiting n = (waiting_by n (tell_live h grown p q n)).0

  is_waiting : (n : NodeName) → IsWaiting n (waiting n)
  unfolding waiting
  is_waiting n = (waiting_by n (tell_live h grown p q n)).1

  pending_name : (n : NodeName) (x : Pending) → IsPending h p q n x → x.entry.name ≡ n
  pending_name n _ (of_left {e = e} k d l w) = same_name-is e.name n (found (λ (x : Entry). same_name x.name n) (tree_at h p) e k).passes
  pending_name n _ (of_right {e = e} k d l w) = same_name-is e.name n (found (λ (x : Entry). same_name x.name n) (tree_at h q) e k).passes

  pending_file : (n : NodeName) (x : Pending) → IsPending h p q n x → is_dir x.entry ≡ false
  pending_file n _ (of_left k d l w) = d
  pending_file n _ (of_right k d l w) = d

  pending_there : (n : NodeName) (x : Pending) → IsPending h p q n x → (r : ℕ) × (entry_at h r n ≡ Some x.entry)
  pending_there n _ (of_left k d l w) = (p, k)
  pending_there n _ (of_right k d l w) = (q, k)

  pending_seen : (n : NodeName) (x : Pending) → IsPending h p q n x → Split names n
  unfolding names
  pending_seen n _ (of_left {e = e} k d l w) = in_left (names_in p) (names_in q) n (name_there p n e k)
  pending_seen n _ (of_right {e = e} k d l w) = in_right (names_in p) (names_in q) n (name_there q n e k)

  waits : (n : NodeName) (x : Pending) → waiting n ≡ Some x → IsPending h p q n x
  waits n x e = (is_waiting n x).0 e

  pub pending : List Pending
  pending = built name_cmp same_name (λ (x : Pending). x.entry.name) names_total exact_names same_name-is same_name-self waiting (λ n x e. pending_name n x (waits n x e)) names (λ n x e. pending_seen n x (waits n x e))

  pending_rises : rises name_cmp (map (λ (x : Pending). x.entry.name) pending) ≡ true
  unfolding pending
  pending_rises = built_rises name_cmp same_name (λ (x : Pending). x.entry.name) names_total exact_names same_name-is same_name-self waiting (λ n x e. pending_name n x (waits n x e)) names (λ n x e. pending_seen n x (waits n x e))

  pending_has : (n : NodeName) → pending_of pending n ≡ waiting n
  unfolding pending
  pending_has n = built_has name_cmp same_name (λ (x : Pending). x.entry.name) names_total exact_names same_name-is same_name-self waiting (λ n x e. pending_name n x (waits n x e)) names (λ n x e. pending_seen n x (waits n x e)) n

  pending_from : (x : Pending) → Split pending x → IsPending h p q x.entry.name x
  unfolding pending
  pending_from x s = waits x.entry.name x (built_from name_cmp same_name (λ (x : Pending). x.entry.name) names_total exact_names same_name-is same_name-self waiting (λ n x e. pending_name n x (waits n x e)) names (λ n x e. pending_seen n x (waits n x e)) x s)

  keyed : (r : ℕ) (n : NodeName) (e : Entry) → entry_at h r n ≡ Some e → are_keyed e.attrs ≡ true
  keyed r n e k = go (slice_get h r) refl
    where
      at : (o : Option Revision) → slice_get h r ≡ o → entry_of (revision_tree o) n ≡ Some e → r < length h
      at None f g = absurd cc
      at (Some v) f g = (got_at h r v f).0

      go : (o : Option Revision) → slice_get h r ≡ o → are_keyed e.attrs ≡ true
      go o f =
          let sane = grown.sane r (at (slice_get h r) refl k) in
          one_of (λ (x : Entry). are_keyed x.attrs) (tree_at h r) e (second_so (rises name_cmp (map (λ (x : Entry). x.name) (tree_at h r))) _ sane.ordered)
          (found (λ (x : Entry). same_name x.name n) (tree_at h r) e k).at

  file_in_order : (x : Pending) → Split pending x → is_file_in_order x ≡ true
  file_in_order x s =
      let is = pending_from x s in
      let there = pending_there x.entry.name x is in
      both_true (not (is_dir x.entry)) (are_keyed x.entry.attrs) (ap not (pending_file x.entry.name x is)) (keyed there.0 x.entry.name x.entry there.1)

  -- ---- the merge

  pub in_order : IsInOrder (record { nodes = nodes; pending = pending })
  in_order = record {
    names = nodes_rise;
    keys = all_of has_keys_in_order nodes (λ d s. let f = nodes_from d s in subst (λ (x : Decision). has_keys_in_order x ≡ true) (sym f.is) (node_keys d.name f.lives));
    kinds = same_maps (λ (d : Decision). is_absent d.content) (λ (d : Decision). d.is_dir) nodes
        (λ d s. let f = nodes_from d s in subst (λ (x : Decision). is_absent x.content ≡ x.is_dir) (sym f.is) (node_kind d.name f.lives));
    pending_names = pending_rises;
    files = all_of is_file_in_order pending file_in_order;
    apart = λ n some. apart n (node_live n some) (pending_of pending n) refl;
  }
    where
      apart : (n : NodeName) → IsLive h p q n → (o : Option Pending) → pending_of pending n ≡ o → pending_of pending n ≡ None
      apart n l None e = e
      apart n l (Some x) e = absurd (dead_of n x (waits n x (sym (pending_has n) ∙ e)) l)

  pub is_merge : IsMergeOf h p q (record { nodes = nodes; pending = pending })
  is_merge = record {
    live = λ n. (node_live n, λ l. let t = live_node n l in subst IsSome (sym t.1) refl);
    scalars = λ s v. (says s v, λ t. said s v t.0 t.1);
    unborn = λ n d e. let f = node_from n d (sym (nodes_have n) ∙ e) in ap (λ (x : Decision). x.reborn) f.is ∙ node_born n f.lives;
    pending = λ n x. (λ e. waits n x (sym (pending_has n) ∙ e), λ i. pending_has n ∙ (is_waiting n x).1 i);
  }
    where
      says : (s : Scalar) (v : Verdict) → option_and_then (verdict_of s) (decision_of nodes (node_of s)) ≡ Some v → IsLive h p q (node_of s) × IsDecided h p q s v
      says s v e = go (decision_of nodes (node_of s)) refl e
        where
          go : (o : Option Decision) → decision_of nodes (node_of s) ≡ o → option_and_then (verdict_of s) o ≡ Some v → IsLive h p q (node_of s) × IsDecided h p q s v
          go None f g = absurd cc
          go (Some d) f g =
              let is = node_from (node_of s) d (sym (nodes_have (node_of s)) ∙ f) in
              (is.lives, (is_verdict s v).0 (sym (node_says (node_of s) is.lives s refl) ∙ ap (verdict_of s) (sym is.is) ∙ g))

      said : (s : Scalar) (v : Verdict) → IsLive h p q (node_of s) → IsDecided h p q s v → option_and_then (verdict_of s) (decision_of nodes (node_of s)) ≡ Some v
      said s v l d =
          let t = live_node (node_of s) l in
          ap (option_and_then (verdict_of s)) t.1 ∙ ap (verdict_of s) t.2.is ∙ node_says (node_of s) t.2.lives s refl ∙ (is_verdict s v).1 d

pub some_merge : (h : List Revision) (p q : ℕ) → IsGrown h → (m : Merge) × IsInOrder m × IsMergeOf h p q m
some_merge h p q grown = (record { nodes = nodes h grown p q; pending = pending h grown p q }, in_order h grown p q, is_merge h grown p q)
