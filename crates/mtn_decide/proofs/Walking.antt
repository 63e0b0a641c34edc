-- What the walks make: of attributes, of nodes and of pending files.
use Rattle.std.specs.Prelude.{◌↔◌, map, find, not, option_map, slice_get}
use Rattle.std.proofs.Common.{◌≡◌, ℕ, zero, suc, ◌+◌, ◌<◌, ◌≤◌, length, arith, true, List, [], ◌∷◌, ◌++◌, Option, Some, None, refl, sym, ◌∙◌, ap, subst}
use Rattle.mtn_base.specs.Names.{bytes_cmp, name_cmp, same_bytes, same_name}
use Rattle.mtn_base.specs.declared.name.NodeName.{NodeName}
use Rattle.mtn_history_laws.specs.Scalars.{Value, content_of}
use Rattle.mtn_history_laws.specs.Scalars.Scalar.{ContentOf}
use Rattle.mtn_history_laws.specs.Scalars.Value.{ContentValue, AttrValue}
use Rattle.mtn_mark_laws.specs.Rule.{Side}
use Rattle.mtn_marking.specs.Marking.{MarkedTree, paired, marking_of, side, side_of, attr_marks_of}
use Rattle.mtn_marking.specs.declared.node.AttrMarks.{AttrMarks}
use Rattle.mtn_marking.specs.declared.node.Marking.{Marking}
use Rattle.mtn_marking.proofs.Keyed.{found_there}
use Rattle.mtn_roster.specs.declared.entry.Attr.{Attr}
use Rattle.mtn_roster.specs.declared.entry.Body.{Body}
use Rattle.mtn_roster.specs.declared.entry.Body.TheVariants.{Dir, File}
use Rattle.mtn_roster.specs.declared.entry.Entry.{Entry}
use Rattle.mtn_roster.specs.Tree.{is_dir, is_dir_body}
use Rattle.mtn_base.specs.Lists.{rises}
use Rattle.mtn_base.proofs.Tests.{both_true, same_name-is, same_name-self, same_bytes-is, same_bytes-self}
use Rattle.mtn_base.proofs.Orders.{names_total, bytes_total, exact_bytes}
use Rattle.mtn_decide.specs.declared.decision.AttrDecision.{AttrDecision}
use Rattle.mtn_decide.specs.declared.decision.Decision.{Decision}
use Rattle.mtn_decide.specs.declared.decision.Pending.{Pending}
use Rattle.mtn_decide.specs.Decisions.{is_absent, has_keys_in_order, is_file_in_order}
use Rattle.mtn_decide.specs.Verdicts.{Verdict, attr_verdict}
use Rattle.mtn_decide.specs.Sets.{LivesWith, IsVerdict, IsPendingWith}
use Rattle.mtn_decide.specs.Sets.IsPendingWith.{of_left, of_right}
use Rattle.mtn_decide.specs.declared.fate.Fate.{Fate}
use Rattle.mtn_decide.specs.declared.fate.Fate.TheVariants.{Live, Held, Gone}
use Rattle.mtn_decide.specs.declared.known.SideAttr.{SideAttr}
use Rattle.mtn_decide.specs.declared.known.AttrTurn.{AttrTurn}
use Rattle.mtn_decide.specs.declared.known.AttrTurn.TheVariants.{Left as LeftAttr, Right as RightAttr, Both as BothAttrs}
use Rattle.mtn_decide.specs.Parts.{AreKeyedAlike, IsAttrAt, IsAttrTurn, attr_side, attr_left, attr_right, attr_key, attr_steps, attr_side_in, AreAttrsWith, IsDecisionWith, IsFate, IsOrderly}
use Rattle.mtn_decide.proofs.Merging.{IsMerged, nothing_merged, all_merged, merged_x, merged_y, merged_both}
use Rattle.mtn_decide.proofs.Merging.IsMadeAt.{one}
use Rattle.mtn_decide.proofs.Single.{no_verdict, one_verdict, none_pending, both_pending, left_pending, right_pending}

abbrev pub key_of : Attr → List ℕ
key_of a = a.key

abbrev pub decided_key : AttrDecision → List ℕ
decided_key a = a.key

abbrev pub entry_name : Entry → NodeName
entry_name e = e.name

abbrev pub decision_name : Decision → NodeName
decision_name d = d.name

abbrev pub pending_name : Pending → NodeName
pending_name p = p.entry.name

-- what is decided of an attribute, by the attributes that the sides have
abbrev pub side_by : List AttrMarks → List ℕ → Option Attr → Option (Side Value)
side_by ms k a = side (option_map AttrValue (option_map (λ (a : Attr). a.value) a)) (attr_marks_of ms k)

abbrev pub IsAttrWith : (only_left only_right : List ℕ) (lm rm : List AttrMarks) → List ℕ → Option Attr → Option Attr → Option AttrDecision → Type 0
IsAttrWith only_left only_right lm rm k l r None = (side_by lm k l ≡ None) × (side_by rm k r ≡ None)
IsAttrWith only_left only_right lm rm k l r (Some d) = IsVerdict only_left only_right (side_by lm k l) (side_by rm k r) (attr_verdict d.choice)

abbrev pub AnyAttr : AttrDecision → Type 0
AnyAttr d = Unit {0}

abbrev pub AreAttrsMerged : (only_left only_right : List ℕ) (la : List Attr) (lm : List AttrMarks) (ra : List Attr) (rm : List AttrMarks) → (i j : ℕ) → List AttrDecision → Type 0
AreAttrsMerged only_left only_right la lm ra rm i j ds =
    IsMerged bytes_cmp same_bytes bytes_total same_bytes-is same_bytes-self key_of key_of decided_key (IsAttrWith only_left only_right lm rm) AnyAttr la ra i j ds

-- lists with the same keys, at one place
pub same_at : {X Y K : Type 0} (kx : X → K) (ky : Y → K) (xs : List X) (ys : List Y) → map ky ys ≡ map kx xs → (i : ℕ) (x : X) (y : Y) → slice_get xs i ≡ Some x → slice_get ys i ≡ Some y → ky y ≡ kx x
same_at kx ky [] ys e i x y ex ey = absurd cc
same_at kx ky (a ∷ xs) [] e i x y ex ey = absurd cc
same_at kx ky (a ∷ xs) (b ∷ ys) e zero x y ex ey = let h : ky b ≡ kx a = cc in let d : a ≡ x = cc in let g : b ≡ y = cc in sym (ap ky g) ∙ h ∙ ap kx d
same_at kx ky (a ∷ xs) (b ∷ ys) e (suc i) x y ex ey = same_at kx ky xs ys (let h : map ky ys ≡ map kx xs = cc in h) i x y ex ey

marks_key : AttrMarks → List ℕ
marks_key m = m.key

pub got_by : {A B : Type 0} (f : A → B) (o : Option A) (b : B) → option_map f o ≡ Some b → (a : A) × (o ≡ Some a) × (f a ≡ b)
got_by f None b h = absurd cc
got_by f (Some a) b h = (a, refl, (let d : f a ≡ b = cc in d))

-- the attribute at a place, as its side has it
marks_at : (as' : List Attr) (ms : List AttrMarks) → AreKeyedAlike as' ms → (i : ℕ) (k : SideAttr) → IsAttrAt as' ms i k → side_by ms k.attr.now.key (Some k.attr.now) ≡ Some (attr_side k)
marks_at as' ms alike i k at =
    let m = got_by (λ (m : AttrMarks). m.marks) (slice_get ms i) k.marks.now at.1 in
    let key : m.0.key ≡ k.attr.now.key = same_at (λ (a : Attr). a.key) (λ (m : AttrMarks). m.key) as' ms alike.same i k.attr.now m.0 at.0 m.1 in
    let rising : rises bytes_cmp (map (λ (m : AttrMarks). m.key) ms) ≡ true = ap (rises bytes_cmp) alike.same ∙ alike.rising in
    let there = found_there bytes_cmp (λ (m : AttrMarks). m.key) same_bytes bytes_total same_bytes-is same_bytes-self exact_bytes ms rising i m.0 m.1 in
    let found : attr_marks_of ms k.attr.now.key ≡ Some k.marks.now = ap (option_map (λ (m : AttrMarks). m.marks)) (subst (λ q. find (λ (m : AttrMarks). same_bytes m.key q) ms ≡ Some m.0) key there) ∙ ap Some m.2 in
    ap (side (Some (AttrValue k.attr.now.value))) found

module _ (ol or : List ℕ) (la : List Attr) (lm : List AttrMarks) (ra : List Attr) (rm : List AttrMarks) (hl : AreKeyedAlike la lm) (hr : AreKeyedAlike ra rm) where
  pub attrs_start : AreAttrsMerged ol or la lm ra rm 0 0 []
  attrs_start = nothing_merged bytes_cmp same_bytes bytes_total same_bytes-is same_bytes-self key_of key_of decided_key (IsAttrWith ol or lm rm) AnyAttr la ra (λ q. (refl, refl))

  module _ (i j : ℕ) (ds : List AttrDecision) (d : AttrDecision) (m : AreAttrsMerged ol or la lm ra rm i j ds) where
    moved : (a a' b b' : ℕ) → a ≡ a' → b ≡ b' → {out : List AttrDecision} → AreAttrsMerged ol or la lm ra rm a' b' out → AreAttrsMerged ol or la lm ra rm a b out
    moved a a' b b' e f {out = out} h = subst (λ x. AreAttrsMerged ol or la lm ra rm x b out) (sym e) (subst (λ y. AreAttrsMerged ol or la lm ra rm a' y out) (sym f) h)

    pub attr_step : (t : AttrTurn) → IsAttrTurn la lm ra rm i j (Some t) → d.key ≡ attr_key t → IsVerdict ol or (attr_left t) (attr_right t) (attr_verdict d.choice) →
        AreAttrsMerged ol or la lm ra rm (i + (attr_steps t).0) (j + (attr_steps t).1) (ds ++ d ∷ [])
    attr_step (LeftAttr k) at key v =
        moved (i + 1) (suc i) (j + 0) j (omega arith) (omega arith)
        (merged_x bytes_cmp same_bytes bytes_total same_bytes-is same_bytes-self key_of key_of decided_key (IsAttrWith ol or lm rm) AnyAttr la ra hl.rising hr.rising i j ds m k.attr.now.key (Some d) (d ∷ []) (one key tt)
        k.attr.now at.0.0 refl at.1 (subst (λ l. IsVerdict ol or l None (attr_verdict d.choice)) (sym (marks_at la lm hl i k at.0)) v))
    attr_step (RightAttr k) at key v =
        moved (i + 0) i (j + 1) (suc j) (omega arith) (omega arith)
        (merged_y bytes_cmp same_bytes bytes_total same_bytes-is same_bytes-self key_of key_of decided_key (IsAttrWith ol or lm rm) AnyAttr la ra hl.rising hr.rising i j ds m k.attr.now.key (Some d) (d ∷ []) (one key tt)
        k.attr.now at.0.0 refl at.1 (subst (λ r. IsVerdict ol or None r (attr_verdict d.choice)) (sym (marks_at ra rm hr j k at.0)) v))
    attr_step (BothAttrs k n) at key v =
        moved (i + 1) (suc i) (j + 1) (suc j) (omega arith) (omega arith)
        (merged_both bytes_cmp same_bytes bytes_total same_bytes-is same_bytes-self key_of key_of decided_key (IsAttrWith ol or lm rm) AnyAttr la ra hl.rising hr.rising i j ds m k.attr.now.key (Some d) (d ∷ []) (one key tt)
        k.attr.now n.attr.now at.0.0 at.1.0 refl (sym at.2)
        (subst (λ l. IsVerdict ol or l (side_by rm k.attr.now.key (Some n.attr.now)) (attr_verdict d.choice)) (sym (marks_at la lm hl i k at.0))
        (subst (λ r. IsVerdict ol or (Some (attr_side k)) r (attr_verdict d.choice)) (sym (subst (λ q. side_by rm q (Some n.attr.now) ≡ Some (attr_side n)) (sym at.2) (marks_at ra rm hr j n at.1))) v)))

  pub attrs_end : (i j : ℕ) (ds : List AttrDecision) → AreAttrsMerged ol or la lm ra rm i j ds → IsAttrTurn la lm ra rm i j None → AreAttrsWith ol or (attr_side_in la lm) (attr_side_in ra rm) ds
  attrs_end i j ds m at = record {
    rising = m.rising;
    each = λ k v. told_by k (find (λ (a : AttrDecision). same_bytes a.key k) ds) v
        (all_merged bytes_cmp same_bytes bytes_total same_bytes-is same_bytes-self key_of key_of decided_key (IsAttrWith ol or lm rm) AnyAttr la ra i j ds at.0 at.1 m k);
  }
    where
      told_by : (k : List ℕ) (o : Option AttrDecision) (v : Verdict) →
          IsAttrWith ol or lm rm k (find (λ (a : Attr). same_bytes a.key k) la) (find (λ (a : Attr). same_bytes a.key k) ra) o →
          (option_map attr_verdict (option_map (λ (a : AttrDecision). a.choice) o) ≡ Some v) ↔ IsVerdict ol or (attr_side_in la lm k) (attr_side_in ra rm k) v
      told_by k None v h = (λ e. absurd cc, λ is. absurd (no_verdict ol or v (subst (λ l. IsVerdict ol or l None v) h.0 (subst (λ r. IsVerdict ol or (attr_side_in la lm k) r v) h.1 is))))
      told_by k (Some d) v h = (
        λ e. let q : attr_verdict d.choice ≡ v = cc in subst (IsVerdict ol or (attr_side_in la lm k) (attr_side_in ra rm k)) q h,
        λ is. ap Some (one_verdict ol or (attr_side_in la lm k) (attr_side_in ra rm k) (attr_verdict d.choice) v h is),
      )

-- what is made of nodes
module _ (ol or : List ℕ) (left right : MarkedTree) where
  abbrev pub l_of : NodeName → Option Entry → Option (Entry × Marking)
  l_of q e = paired e (marking_of left.marks q)

  abbrev pub r_of : NodeName → Option Entry → Option (Entry × Marking)
  r_of q e = paired e (marking_of right.marks q)

  abbrev pub IsNodeWith : NodeName → Option (Entry × Marking) → Option (Entry × Marking) → Option Decision → Type 0
  IsNodeWith q l r None = ¬ LivesWith ol or l r
  IsNodeWith q l r (Some d) = LivesWith ol or l r × IsDecisionWith ol or q l r d

  abbrev pub IsHeldWith : NodeName → Option (Entry × Marking) → Option (Entry × Marking) → Option Pending → Type 0
  IsHeldWith q l r None = (p : Pending) → ¬ IsPendingWith ol or q l r p
  IsHeldWith q l r (Some p) = IsPendingWith ol or q l r p

  abbrev pub GoodNode : Decision → Type 0
  GoodNode d = (is_absent d.content ≡ d.is_dir) × (has_keys_in_order d ≡ true)

  abbrev pub GoodHeld : Pending → Type 0
  GoodHeld p = is_file_in_order p ≡ true

  abbrev pub AreNodesMerged : (i j : ℕ) → List Decision → Type 0
  AreNodesMerged = IsMerged name_cmp same_name names_total same_name-is same_name-self entry_name entry_name decision_name (λ q a b o. IsNodeWith q (l_of q a) (r_of q b) o) GoodNode left.tree right.tree

  abbrev pub AreHeldMerged : (i j : ℕ) → List Pending → Type 0
  AreHeldMerged = IsMerged name_cmp same_name names_total same_name-is same_name-self entry_name entry_name pending_name (λ q a b o. IsHeldWith q (l_of q a) (r_of q b) o) GoodHeld left.tree right.tree

  pub nodes_start : AreNodesMerged 0 0 []
  nodes_start = nothing_merged name_cmp same_name names_total same_name-is same_name-self entry_name entry_name decision_name (λ q a b o. IsNodeWith q (l_of q a) (r_of q b) o) GoodNode left.tree right.tree (λ q z. z)

  pub held_start : AreHeldMerged 0 0 []
  held_start = nothing_merged name_cmp same_name names_total same_name-is same_name-self entry_name entry_name pending_name (λ q a b o. IsHeldWith q (l_of q a) (r_of q b) o) GoodHeld left.tree right.tree (λ q p. none_pending ol or q p)

abbrev pub live_option : Fate → Option Decision
live_option (Live d) = Some d
live_option (Held p) = None
live_option Gone = None

abbrev pub held_option : Fate → Option Pending
held_option (Live d) = None
held_option (Held p) = Some p
held_option Gone = None

module _ (ol or : List ℕ) (left right : MarkedTree) (n : NodeName) (l r : Option (Entry × Marking)) (orderly_l : IsOrderly l) (orderly_r : IsOrderly r) where
  pub no_pending : (p : Pending) → LivesWith ol or l r → IsPendingWith ol or n l r p → ⊥
  no_pending p = go l r p
    where
      go : (l r : Option (Entry × Marking)) (p : Pending) → LivesWith ol or l r → IsPendingWith ol or n l r p → ⊥
      go (Some k) (Some m) p live h = both_pending ol or n k m p h
      go (Some k) None _ live (of_left s b a) = b live
      go None (Some k) _ live (of_right s b a) = b live
      go None None p live h = live

  pub node_part : (f : Fate) → IsFate ol or n l r f → IsNodeWith ol or left right n l r (live_option f)
  node_part (Live d) h = h
  node_part (Held p) h = h.0
  node_part Gone h = h.0

  pub held_part' : (f : Fate) → IsFate ol or n l r f → IsHeldWith ol or left right n l r (held_option f)
  held_part' (Live d) h = λ p. no_pending p h.0
  held_part' (Held p) h = h.1
  held_part' Gone h = h.1

  pub good_pending : (p : Pending) → IsPendingWith ol or n l r p → is_file_in_order p ≡ true
  good_pending p = go l r orderly_l orderly_r
    where
      file : (k : Entry × Marking) (x : Side Value) → side_of (ContentOf n) (Some k) ≡ Some x → not (is_dir k.0) ≡ true
      file k x = at k.0.body k.1.content
        where
          at : (body : Body) (m : Option (List ℕ)) → side (option_map ContentValue (content_of body)) m ≡ Some x → not (is_dir_body body) ≡ true
          at Dir m e = absurd cc
          at (File c) m e = refl

      go : (l r : Option (Entry × Marking)) → IsOrderly l → IsOrderly r → IsPendingWith ol or n l r p → is_file_in_order p ≡ true
      go (Some k) (Some m) x y h = absurd (both_pending ol or n k m p h)
      go (Some k) None x y h = let e = left_pending ol or n k p h in ap is_file_in_order e ∙ both_true _ _ (file_of k p h) x.rising
        where
          file_of : (k : Entry × Marking) (q : Pending) → IsPendingWith ol or n (Some k) None q → not (is_dir k.0) ≡ true
          file_of k _ (of_left {l = z} s b a) = file k z s
      go None (Some k) x y h = let e = right_pending ol or n k p h in ap is_file_in_order e ∙ both_true _ _ (file_of k p h) y.rising
        where
          file_of : (k : Entry × Marking) (q : Pending) → IsPendingWith ol or n None (Some k) q → not (is_dir k.0) ≡ true
          file_of k _ (of_right {r = z} s b a) = file k z s
      go None None x y h = absurd (none_pending ol or n p h)

  pub name_of_pending : (p : Pending) → IsPendingWith ol or n l r p → ((k : Entry × Marking) → l ≡ Some k → k.0.name ≡ n) → ((k : Entry × Marking) → r ≡ Some k → k.0.name ≡ n) → p.entry.name ≡ n
  name_of_pending p h nl nr = go l r refl refl h
    where
      go : (l' r' : Option (Entry × Marking)) → l ≡ l' → r ≡ r' → IsPendingWith ol or n l' r' p → p.entry.name ≡ n
      go (Some k) (Some m) x y h = absurd (both_pending ol or n k m p h)
      go (Some k) None x y h = ap pending_name (left_pending ol or n k p h) ∙ nl k x
      go None (Some k) x y h = ap pending_name (right_pending ol or n k p h) ∙ nr k y
      go None None x y h = absurd (none_pending ol or n p h)

-- a turn stays within the lists, and does something
pub within : {X : Type 0} (xs : List X) (i : ℕ) (x : X) → slice_get xs i ≡ Some x → i < length xs
within [] i x h = absurd cc
within (y ∷ xs) zero x h = omega arith
within (y ∷ xs) (suc i) x h = let r = within xs i x h in omega arith

pub record WalkSteps (i j m n a b : ℕ) : Type 0 where
  pub left : i + a ≤ m
  pub right : j + b ≤ n
  pub some : 0 < a + b

pub attr_steps_fit : (la : List Attr) (lm : List AttrMarks) (ra : List Attr) (rm : List AttrMarks) (i j : ℕ) (t : AttrTurn) → i ≤ length la → j ≤ length ra →
    IsAttrTurn la lm ra rm i j (Some t) → WalkSteps i j (length la) (length ra) (attr_steps t).0 (attr_steps t).1
attr_steps_fit la lm ra rm i j (LeftAttr k) hi hj at = let h = within la i k.attr.now at.0.0 in record { left = omega arith; right = omega arith; some = omega arith }
attr_steps_fit la lm ra rm i j (RightAttr k) hi hj at = let h = within ra j k.attr.now at.0.0 in record { left = omega arith; right = omega arith; some = omega arith }
attr_steps_fit la lm ra rm i j (BothAttrs k n) hi hj at = let h = within la i k.attr.now at.0.0 in let g = within ra j n.attr.now at.1.0 in record { left = omega arith; right = omega arith; some = omega arith }
