-- What one turn of a loop adds.
use Rattle.std.proofs.Common.{◌≡◌, sym, ap, ◌∙◌, subst, ℕ, ◌+◌, ◌<◌, List, [], ◌∷◌, ◌++◌, length, take, get_or}
use Rattle.std.specs.List.{AllByRecursion, flat_map}
use Rattle.std.proofs.lemmas.List.{append_assoc, flat_map_more, take_more}
use Rattle.std.proofs.lemmas.List.Elements.{All-from_recursion}
use Rattle.mtn_records.specs.Fields.{number_text, list_text}

module _ {A : Type 0} (xs : List A) (i : ℕ) (x : A) (low : i < length xs) (is : x ≡ get_or xs i x) where
  front_more : take i xs ++ x ∷ [] ≡ take (i + 1) xs
  front_more = ap (λ y. take i xs ++ y ∷ []) is ∙ sym (take_more xs i x low)

  -- one copy more
  pub copied_more : (some more : List A) (copy : A) → some ≡ take i xs → copy ≡ x → more ≡ some ++ copy ∷ [] → more ≡ take (i + 1) xs
  copied_more some more copy p q r = r ∙ ap (λ l. l ++ copy ∷ []) p ∙ ap (λ y. take i xs ++ y ∷ []) q ∙ front_more

  -- the text of one item more
  pub item_behind : (t : A → List ℕ) (out one all : List ℕ) → one ≡ out ++ flat_map t (take i xs) → all ≡ one ++ t x → all ≡ out ++ flat_map t (take (i + 1) xs)
  item_behind t out one all p q = q ∙ ap (λ l. l ++ t x) p ∙ flat_map_more t out (take i xs) x ∙ ap (λ l. out ++ flat_map t l) front_more

  pub item_formed : (f : A → Type 0) → AllByRecursion f xs → f x
  item_formed f all = subst f (sym is) (All-from_recursion f xs all i x low)

-- all items behind their count
pub list_behind : {A : Type 0} (t : A → List ℕ) (xs seen : List A) (out one all : List ℕ) → seen ≡ xs → one ≡ out ++ number_text (length seen) → all ≡ one ++ flat_map t seen → all ≡ out ++ list_text t xs
list_behind t xs seen out one all same p q =
    q ∙ ap (λ l. l ++ flat_map t seen) p ∙ append_assoc out (number_text (length seen)) (flat_map t seen) ∙ ap (λ l. out ++ list_text t l) same
