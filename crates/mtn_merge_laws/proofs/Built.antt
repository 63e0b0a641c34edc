-- A list in the order of a key that has at each key what a function gives.
use Rattle.std.specs.Prelude.{map, find, filter_map}
use Rattle.std.specs.List.{list_all, cons_option}
use Rattle.std.specs.Cmp.{IsTotalOrder}
use Rattle.std.specs.declared.cmp.Ordering.{Ordering}
use Rattle.std.specs.declared.cmp.Ordering.TheVariants.{Equal}
use Rattle.std.proofs.Common.{◌≡◌, Bool, true, false, cond, List, [], ◌∷◌, ◌++◌, Option, Some, None, refl, sym, ◌∙◌, ap, subst}
use Rattle.mtn_base.specs.Lists.{ordered, rises}
use Rattle.mtn_base.proofs.Finding.{Split, later}
use Rattle.mtn_base.proofs.Members.{head}
use Rattle.mtn_base.proofs.Placed.{find-placed}
use Rattle.mtn_base.proofs.Sorting.{ordered-rises}
use Rattle.mtn_base.proofs.Tests.{both_true}
use Rattle.mtn_merge_laws.proofs.Looks.{own}

pub all_of : {X : Type 0} (p : X → Bool) (xs : List X) → ((x : X) → Split xs x → p x ≡ true) → list_all p xs ≡ true
all_of p [] h = refl
all_of p (x ∷ xs) h = both_true (p x) (list_all p xs) (h x (head x xs)) (all_of p xs (λ y s. h y (later x xs y s)))

pub same_maps : {X Y : Type 0} (f g : X → Y) (xs : List X) → ((x : X) → Split xs x → f x ≡ g x) → map f xs ≡ map g xs
same_maps f g [] h = refl
same_maps f g (x ∷ xs) h = λ i. h x (head x xs) i ∷ same_maps f g xs (λ y s. h y (later x xs y s)) i

module _ {X K : Type 0} (cmp : K → K → Ordering) (same : K → K → Bool) (key : X → K) (total : IsTotalOrder cmp) (exact : (a b : K) → cmp a b ≡ Equal → a ≡ b)
    (same_is : (a b : K) → same a b ≡ true → a ≡ b) (same_self : (a : K) → same a a ≡ true)
    (g : K → Option X) (key_is : (k : K) (x : X) → g k ≡ Some x → key x ≡ k) where
  abbrev look : List X → K → Option X
  look xs k = find (λ (x : X). same (key x) k) xs

  abbrev is_in : List K → K → Bool
  is_in [] k = false
  is_in (j ∷ js) k = cond (same j k) true (is_in js k)

  has : (ks : List K) (k : K) → Split ks k → is_in ks k ≡ true
  has ks k s = subst (λ l. is_in l k ≡ true) (sym s.is) (in_ s.before)
    where
      front : (b : Bool) (rest : Bool) → rest ≡ true → cond b true rest ≡ true
      front true rest h = refl
      front false rest h = h

      in_ : (before : List K) → is_in (before ++ k ∷ s.rest) k ≡ true
      in_ [] = ap (λ b. cond b true (is_in s.rest k)) (same_self k)
      in_ (j ∷ before) = front (same j k) (is_in (before ++ k ∷ s.rest) k) (in_ before)

  abbrev absent : Option X
  absent = None

  either : (b : Bool) → cond b absent absent ≡ absent
  either true = refl
  either false = refl

  nothing : (b : Bool) (k : K) → g k ≡ None → cond b (g k) None ≡ g k
  nothing b k e = ap (λ o. cond b o None) e ∙ either b ∙ sym e

  made : (ks : List K) (k : K) → look (filter_map g ks) k ≡ cond (is_in ks k) (g k) None
  made [] k = refl
  made (j ∷ js) k = by (made js k) (g j) refl (same j k) refl
    where
      at : look (filter_map g js) k ≡ cond (is_in js k) (g k) None → (x : X) → g j ≡ Some x → (b : Bool) → same j k ≡ b →
          cond (same (key x) k) (Some x) (look (filter_map g js) k) ≡ cond (cond b true (is_in js k)) (g k) None
      at rest x e true h =
          ap (λ c. cond c (Some x) (look (filter_map g js) k)) (ap (λ z. same z k) (key_is j x e) ∙ h) ∙ sym e ∙ ap g (same_is j k h)
      at rest x e false h = ap (λ c. cond c (Some x) (look (filter_map g js) k)) (ap (λ z. same z k) (key_is j x e) ∙ h) ∙ rest

      by : look (filter_map g js) k ≡ cond (is_in js k) (g k) None → (o : Option X) → g j ≡ o → (b : Bool) → same j k ≡ b →
          look (cons_option o (filter_map g js)) k ≡ cond (cond b true (is_in js k)) (g k) None
      by rest None e true h = rest ∙ nothing (is_in js k) k (sym (ap g (same_is j k h)) ∙ e)
      by rest None e false h = rest
      by rest (Some x) e b h = at rest x e b h

  look_ordered : (xs : List X) (k : K) → look (ordered cmp key xs) k ≡ look xs k
  look_ordered [] k = refl
  look_ordered (x ∷ xs) k = find-placed cmp key same same_is total exact x (ordered cmp key xs) k ∙ ap (cond (same (key x) k) (Some x)) (look_ordered xs k)

  module _ (ks : List K) (all : (k : K) (x : X) → g k ≡ Some x → Split ks k) where
    pub built : List X
    built = ordered cmp key (filter_map g ks)

    pub built_rises : rises cmp (map key built) ≡ true
    unfolding built
    built_rises = ordered-rises cmp key total (filter_map g ks)

    pub built_has : (k : K) → look built k ≡ g k
    unfolding built
    built_has k = look_ordered (filter_map g ks) k ∙ made ks k ∙ go (g k) refl
      where
        go : (o : Option X) → g k ≡ o → cond (is_in ks k) (g k) None ≡ g k
        go None e = nothing (is_in ks k) k e
        go (Some x) e = ap (λ b. cond b (g k) None) (has ks k (all k x e))

    -- each of its elements the function gives
    pub built_from : (x : X) → Split built x → g (key x) ≡ Some x
    built_from x s = sym (built_has (key x)) ∙ own cmp same key total same_is same_self built built_rises x s
