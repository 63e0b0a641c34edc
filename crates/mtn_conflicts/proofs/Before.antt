-- The tree of the live nodes is sane where no list on slots has an item.
use Rattle.std.specs.Prelude.{map}
use Rattle.std.specs.List.{list_all}
use Rattle.std.specs.Cmp.{first_so, second_so}
use Rattle.std.proofs.Common.{◌≡◌, Bool, true, List, [], ◌∷◌, Option, Some, refl, sym, ◌∙◌, ap, subst, inl, inr}
use Rattle.mtn_base.specs.Names.{bytes_cmp, name_cmp}
use Rattle.mtn_base.specs.declared.name.NodeName.{NodeName}
use Rattle.mtn_roster.specs.Tree.{entry_of, is_dir_body, mtn, EndsAtRoot, IsSane, IsSaneMap}
use Rattle.mtn_base.specs.Lists.{rises}
use Rattle.mtn_roster.specs.declared.entry.Attr.{Attr}
use Rattle.mtn_roster.specs.declared.entry.Entry.{Entry}
use Rattle.mtn_roster.specs.declared.entry.Slot.{Slot}
use Rattle.mtn_roster.specs.declared.entry.Slot.TheVariants.{Root, Below}
use Rattle.mtn_base.proofs.Finding.{Split}
use Rattle.mtn_base.proofs.Members.{split_cons}
use Rattle.mtn_base.proofs.Sorting.{no_split}
use Rattle.mtn_base.proofs.Tests.{both_true}
use Rattle.mtn_decide.specs.declared.decision.AttrDecision.{AttrDecision}
use Rattle.mtn_decide.specs.declared.decision.ContentChoice.{ContentChoice}
use Rattle.mtn_decide.specs.declared.decision.ContentChoice.TheVariants.{Absent, Fixed as FixedContent, Clash as ContentClash}
use Rattle.mtn_decide.specs.declared.decision.Decision.{Decision}
use Rattle.mtn_decide.specs.declared.decision.SlotChoice.TheVariants.{Fixed}
use Rattle.mtn_decide.specs.Decisions.{Merge, IsInOrder, decision_of, is_absent, has_keys_in_order}
use Rattle.mtn_conflicts.specs.Result.{decided_attr, decided_body, decided_slot, decided_entry, tree_before, ParentsAreDirs}
use Rattle.mtn_conflicts.proofs.Nodes.{name_of, found_at, node_before, has_entry}
use Rattle.mtn_conflicts.proofs.Clear.{IsTidy}
use Rattle.mtn_conflicts.proofs.Ending.{chains_end, up_from}

absent_dir : (c : ContentChoice) → is_absent c ≡ true → is_dir_body (decided_body c) ≡ true
absent_dir Absent h = refl
absent_dir (FixedContent c) h = absurd cc
absent_dir (ContentClash l r) h = absurd cc

-- what two lists of tests say of one element
pub same_test : {X : Type 0} (f g : X → Bool) (xs : List X) → map f xs ≡ map g xs → (x : X) → Split xs x → f x ≡ g x
same_test f g [] e x s = absurd (no_split x s)
same_test f g (y ∷ xs) e x s =
    let a : f y ≡ g y = cc in
    let b : map f xs ≡ map g xs = cc in
    elim (split_cons y xs x s) [
      | inl d ↦ subst (λ z. f z ≡ g z) d a
      | inr u ↦ same_test f g xs b x u
    ]

-- keys of decided attributes
pub keys_before : (as' : List AttrDecision) → map (λ (a : Attr). a.key) (map decided_attr as') ≡ map (λ (a : AttrDecision). a.key) as'
keys_before [] = refl
keys_before (a ∷ as') = ap (λ l. a.key ∷ l) (keys_before as')

pub names_before : (ds : List Decision) → map (λ (e : Entry). e.name) (tree_before ds) ≡ map name_of ds
names_before [] = refl
names_before (d ∷ ds) = ap (λ l. d.name ∷ l) (names_before ds)

abbrev pub has_rising_keys : Entry → Bool
has_rising_keys e = rises bytes_cmp (map (λ (a : Attr). a.key) e.attrs)

pub all_keyed : (ds : List Decision) → list_all has_keys_in_order ds ≡ true → list_all has_rising_keys (tree_before ds) ≡ true
all_keyed [] h = refl
all_keyed (d ∷ ds) h = both_true _ _ (ap (rises bytes_cmp) (keys_before d.attrs) ∙ first_so _ _ h) (all_keyed ds (second_so (has_keys_in_order d) _ h))

module _ (m : Merge) (order : IsInOrder m) (tidy : IsTidy m.nodes) (dirs : ParentsAreDirs m.nodes) where
  abbrev ds : List Decision
  ds = m.nodes

  abbrev t : NodeName → Option Entry
  t = entry_of (tree_before ds)

  pub is_dir_of : (n : NodeName) (d : Decision) → decision_of ds n ≡ Some d → d.is_dir ≡ true → is_dir_body (decided_body d.content) ≡ true
  is_dir_of n d h is = absent_dir d.content (same_test (λ (d : Decision). is_absent d.content) (λ (d : Decision). d.is_dir) ds order.kinds d (found_at ds n d h) ∙ is)

  -- the slot that is decided
  pub slot_is : (n : NodeName) (d : Decision) → decision_of ds n ≡ Some d → (s : Slot) → decided_slot d.slot ≡ s → d.slot ≡ Fixed s
  slot_is n d h s e =
      let f = tidy.fixed n d h in
      f.1 ∙ ap Fixed (sym (ap decided_slot f.1) ∙ e)

  pub before_sane : IsSaneMap t
  before_sane = record {
    root = let r = tidy.root in (r.0, decided_entry r.1, has_entry ds r.0 r.1 r.2, ap decided_slot r.3, is_dir_of r.0 r.1 r.2 (dirs.root r.0 r.1 r.2 r.3));
    one_root = λ n q e f h k a b. slots n q e f h k (a ∙ sym b);
    parents = λ n p e name h is.
        let d = node_before ds n e h in
        let s : d.0.slot ≡ Fixed (Below p name) = slot_is n d.0 d.1 (Below p name) (ap (λ (x : Entry). x.slot) d.2 ∙ is) in
        let u = tidy.parent n p name d.0 d.1 s in
        (decided_entry u.0, has_entry ds p u.0 u.1, is_dir_of p u.0 u.1 (dirs.parents n p u.0 (up_from ds tidy n p name d.0 d.1 s) u.1));
    slots = slots;
    rooted = λ n e h.
        let d = node_before ds n e h in
        subst (λ (x : Entry). EndsAtRoot t x.slot) d.2 (chains_end ds tidy n d.0 d.1);
    not_mtn = λ n p e r h k top is.
        let d = node_before ds n e h in
        let c = node_before ds p r k in
        tidy.no_mtn n p d.0 c.0 d.1 (slot_is n d.0 d.1 (Below p mtn) (ap (λ (x : Entry). x.slot) d.2 ∙ is)) c.1 (slot_is p c.0 c.1 Root (ap (λ (x : Entry). x.slot) c.2 ∙ top));
  }
    where
      slots : (n q : NodeName) (e f : Entry) → t n ≡ Some e → t q ≡ Some f → e.slot ≡ f.slot → n ≡ q
      slots n q e f h k same =
          let d = node_before ds n e h in
          let c = node_before ds q f k in
          let u = slot_is n d.0 d.1 e.slot (ap (λ (x : Entry). x.slot) d.2) in
          let v = slot_is q c.0 c.1 e.slot (ap (λ (x : Entry). x.slot) c.2 ∙ sym same) in
          tidy.apart n q d.0 c.0 e.slot d.1 c.1 u v

  pub before_is_sane : IsSane (tree_before ds)
  before_is_sane = record {
    ordered = both_true _ _ (ap (rises name_cmp) (names_before ds) ∙ order.names) (all_keyed ds order.keys);
    sane = before_sane;
  }
