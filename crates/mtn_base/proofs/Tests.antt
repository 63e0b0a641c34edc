-- What the tests on ids, paths and names say.
use Rattle.std.specs.Prelude.{◌&&◌}
use Rattle.std.proofs.Common.{◌≡◌, ℕ, Bool, true, false, List, refl, ap, ◌∙◌, ◌⊎◌, inl, inr}
use Rattle.std.specs.Cmp.{first_so, second_so}
use Rattle.std.specs.Cmp.Lexicographic.{pointwise_decides, bytes_decides}
use Rattle.mtn_base.specs.Names.{same_bytes, same_id, same_path, same_name}
use Rattle.mtn_base.specs.declared.id.Id.{Id}
use Rattle.mtn_base.specs.declared.name.NodeName.{NodeName}

-- a test came out so or so
pub told : (b : Bool) → (b ≡ true) ⊎ (b ≡ false)
told true = inl refl
told false = inr refl

pub both_true : (a b : Bool) → a ≡ true → b ≡ true → (a && b) ≡ true
both_true a b e f = ap (λ x. x && b) e ∙ f

pub same_path-is : (p q : List (List ℕ)) → same_path p q ≡ true → p ≡ q
same_path-is p q h = (pointwise_decides bytes_decides p q).0 h

pub same_path-self : (p : List (List ℕ)) → same_path p p ≡ true
same_path-self p = (pointwise_decides bytes_decides p p).1 refl

pub same_id-is : (a b : Id) → same_id a b ≡ true → a ≡ b
same_id-is a b h = λ i. record { 0 = (bytes_decides a.0 b.0).0 h i }

pub same_id-self : (a : Id) → same_id a a ≡ true
same_id-self a = (bytes_decides a.0 a.0).1 refl

pub same_name-is : (a b : NodeName) → same_name a b ≡ true → a ≡ b
same_name-is a b h = λ i. record { birth = same_id-is a.birth b.birth (first_so _ _ h) i; path = same_path-is a.path b.path (second_so (same_id a.birth b.birth) _ h) i }

pub same_name-self : (a : NodeName) → same_name a a ≡ true
same_name-self a = both_true _ _ (same_id-self a.birth) (same_path-self a.path)

pub same_bytes-is : (a b : List ℕ) → same_bytes a b ≡ true → a ≡ b
same_bytes-is a b h = (bytes_decides a b).0 h

pub same_bytes-self : (a : List ℕ) → same_bytes a a ≡ true
same_bytes-self a = (bytes_decides a a).1 refl
