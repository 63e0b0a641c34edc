-- Lists of items, as they grow.
use Rattle.std.specs.Prelude.{map}
use Rattle.std.proofs.Common.{◌≡◌, ℕ, ◌+◌, ◌<◌, ◌≤◌, List, [], ◌∷◌, ◌++◌, length, get_or, take, sym, ◌∙◌, ap, subst, inl, inr, append_assoc}
use Rattle.std.proofs.lemmas.List.{take_more, append-nil}
use Rattle.mtn_base.specs.declared.name.NodeName.{NodeName}
use Rattle.mtn_marking.proofs.Zips.{take_past}
use Rattle.mtn_base.proofs.Finding.{Split}
use Rattle.mtn_base.proofs.Members.{split_cons, of_append}
use Rattle.mtn_base.proofs.Sorting.{no_split}
use Rattle.mtn_roster.proofs.Stops.{map-snoc}
use Rattle.mtn_decide.specs.declared.decision.AttrDecision.{AttrDecision}
use Rattle.mtn_decide.specs.declared.decision.Decision.{Decision}
use Rattle.mtn_conflicts.specs.declared.item.Item.{Item}
use Rattle.mtn_conflicts.specs.Lists.{AreItemsOf, IsAttrTorn, attr_item, attrs_of, all_attrs}
use Rattle.mtn_conflicts.specs.Lists.AreItemsOf.{end, listed, passed}

module _ {X : Type 0} (P : X → Type 0) (item : X → Item) where
  one_more : (xs : List X) (items : List Item) (x : X) → P x → AreItemsOf P item xs items → AreItemsOf P item (xs ++ x ∷ []) (items ++ item x ∷ [])
  one_more _ _ x p end = listed p end
  one_more _ _ x p (listed {xs = xs} {items = items} q h) = listed q (one_more xs items x p h)
  one_more _ _ x p (passed {xs = xs} {items = items} n h) = passed n (one_more xs items x p h)

  none_more : (xs : List X) (items : List Item) (x : X) → ¬ P x → AreItemsOf P item xs items → AreItemsOf P item (xs ++ x ∷ []) items
  none_more _ _ x p end = passed p end
  none_more _ _ x p (listed {xs = xs} {items = items} q h) = listed q (none_more xs items x p h)
  none_more _ _ x p (passed {xs = xs} {items = items} n h) = passed n (none_more xs items x p h)

  next : (xs : List X) (i : ℕ) (x : X) → i < length xs → x ≡ get_or xs i x → take i xs ++ x ∷ [] ≡ take (i + 1) xs
  next xs i x lt is = sym (take_more xs i x lt ∙ ap (λ z. take i xs ++ z ∷ []) (sym is))

  pub items_more : (xs : List X) (i : ℕ) (x : X) (items items' : List Item) (y : Item) → i < length xs → x ≡ get_or xs i x → P x → AreItemsOf P item (take i xs) items →
      y ≡ item x → items' ≡ items ++ y ∷ [] → AreItemsOf P item (take (i + 1) xs) items'
  items_more xs i x items items' y lt is p h e f =
      subst (λ l. AreItemsOf P item (take (i + 1) xs) l) (sym (f ∙ ap (λ z. items ++ z ∷ []) e))
      (subst (λ l. AreItemsOf P item l (items ++ item x ∷ [])) (next xs i x lt is) (one_more (take i xs) items x p h))

  pub items_skip : (xs : List X) (i : ℕ) (x : X) (items : List Item) → i < length xs → x ≡ get_or xs i x → ¬ P x → AreItemsOf P item (take i xs) items → AreItemsOf P item (take (i + 1) xs) items
  items_skip xs i x items lt is p h = subst (λ l. AreItemsOf P item l items) (next xs i x lt is) (none_more (take i xs) items x p h)

  pub items_all : (xs : List X) (i : ℕ) (items items' : List Item) → length xs ≤ i → items' ≡ items → AreItemsOf P item (take i xs) items → AreItemsOf P item xs items'
  items_all xs i items items' le e h = subst (λ l. AreItemsOf P item l items') (take_past xs i le) (subst (AreItemsOf P item (take i xs)) (sym e) h)

-- no element has P, one by one
module _ {X : Type 0} (P : X → Type 0) where
  pub none_next : (xs : List X) (i : ℕ) (x : X) → i < length xs → x ≡ get_or xs i x → ((d : X) → Split (take i xs) d → P d → ⊥) → (P x → ⊥) → (d : X) → Split (take (i + 1) xs) d → P d → ⊥
  none_next xs i x lt is h n d s p =
      elim (of_append (take i xs) (x ∷ []) d (subst (λ l. Split l d) (take_more xs i x lt ∙ ap (λ z. take i xs ++ z ∷ []) (sym is)) s)) [
        | inl u ↦ h d u p
        | inr u ↦ elim (split_cons x [] d u) [ inl e ↦ n (subst P (sym e) p) | inr v ↦ no_split d v ]
      ]

  pub none_all : (xs : List X) (i : ℕ) → length xs ≤ i → ((d : X) → Split (take i xs) d → P d → ⊥) → (d : X) → Split xs d → P d → ⊥
  none_all xs i le h d s p = h d (subst (λ l. Split l d) (sym (take_past xs i le)) s) p

-- attributes of one node behind those of others
abbrev pair_of : NodeName → AttrDecision → NodeName × AttrDecision
pair_of n a = (n, a)

attrs_next : (n : NodeName) (before : List (NodeName × AttrDecision)) (as' : List AttrDecision) (i : ℕ) (a : AttrDecision) → i < length as' → a ≡ get_or as' i a →
    (before ++ map (pair_of n) (take i as')) ++ (n, a) ∷ [] ≡ before ++ map (pair_of n) (take (i + 1) as')
attrs_next n before as' i a lt is =
    append_assoc before (map (pair_of n) (take i as')) ((n, a) ∷ [])
    ∙ ap (λ l. before ++ l) (sym (map-snoc (pair_of n) (take i as') a))
    ∙ ap (λ l. before ++ map (pair_of n) l) (sym (take_more as' i a lt ∙ ap (λ z. take i as' ++ z ∷ []) (sym is)))

pub attrs_more : (n : NodeName) (before : List (NodeName × AttrDecision)) (as' : List AttrDecision) (i : ℕ) (a : AttrDecision) (items items' : List Item) (y : Item) → i < length as' → a ≡ get_or as' i a →
    IsAttrTorn (n, a) → AreItemsOf IsAttrTorn attr_item (before ++ map (λ (a : AttrDecision). (n, a)) (take i as')) items → y ≡ attr_item (n, a) → items' ≡ items ++ y ∷ [] →
    AreItemsOf IsAttrTorn attr_item (before ++ map (λ (a : AttrDecision). (n, a)) (take (i + 1) as')) items'
attrs_more n before as' i a items items' y lt is p h e f =
    subst (λ l. AreItemsOf IsAttrTorn attr_item (before ++ map (pair_of n) (take (i + 1) as')) l) (sym (f ∙ ap (λ z. items ++ z ∷ []) e))
    (subst (λ l. AreItemsOf IsAttrTorn attr_item l (items ++ attr_item (n, a) ∷ [])) (attrs_next n before as' i a lt is) (one_more IsAttrTorn attr_item (before ++ map (pair_of n) (take i as')) items (n, a) p h))

pub attrs_skip : (n : NodeName) (before : List (NodeName × AttrDecision)) (as' : List AttrDecision) (i : ℕ) (a : AttrDecision) (items : List Item) → i < length as' → a ≡ get_or as' i a →
    ¬ IsAttrTorn (n, a) → AreItemsOf IsAttrTorn attr_item (before ++ map (λ (a : AttrDecision). (n, a)) (take i as')) items →
    AreItemsOf IsAttrTorn attr_item (before ++ map (λ (a : AttrDecision). (n, a)) (take (i + 1) as')) items
attrs_skip n before as' i a items lt is p h =
    subst (λ l. AreItemsOf IsAttrTorn attr_item l items) (attrs_next n before as' i a lt is) (none_more IsAttrTorn attr_item (before ++ map (pair_of n) (take i as')) items (n, a) p h)

all_attrs-snoc : (ds : List Decision) (d : Decision) → all_attrs (ds ++ d ∷ []) ≡ all_attrs ds ++ attrs_of d
all_attrs-snoc [] d = append-nil (attrs_of d)
all_attrs-snoc (c ∷ ds) d = ap (λ l. attrs_of c ++ l) (all_attrs-snoc ds d) ∙ sym (append_assoc (attrs_of c) (all_attrs ds) (attrs_of d))

pub nodes_more : (ds : List Decision) (i : ℕ) (d : Decision) (items items' : List Item) → i < length ds → d ≡ get_or ds i d → AreItemsOf IsAttrTorn attr_item (all_attrs (take i ds)) items →
    ((before : List (NodeName × AttrDecision)) → AreItemsOf IsAttrTorn attr_item before items → AreItemsOf IsAttrTorn attr_item (before ++ attrs_of d) items') →
    AreItemsOf IsAttrTorn attr_item (all_attrs (take (i + 1) ds)) items'
nodes_more ds i d items items' lt is h step =
    subst (λ l. AreItemsOf IsAttrTorn attr_item l items')
    (sym (all_attrs-snoc (take i ds) d) ∙ ap all_attrs (sym (take_more ds i d lt ∙ ap (λ z. take i ds ++ z ∷ []) (sym is)))) (step (all_attrs (take i ds)) h)
