-- What has another mark than an entry is another.
use Rattle.std.specs.BTreeMap.{is_at}
use Rattle.std.proofs.Common.{◌≡◌, ℕ, Bool, true, false, cond, List, Option, Some, None, refl, sym, ◌∙◌, ap}
use Rattle.mtn_base.specs.Names.{path_cmp, name_cmp, same_path, same_name}
use Rattle.mtn_base.specs.declared.name.NodeName.{NodeName}
use Rattle.mtn_base.proofs.Tests.{same_path-is, same_name-is}
use Rattle.mtn_apply.specs.Spare.{is_spare}
use Rattle.mtn_apply.proofs.Positions.{at_path, at_name}

apart : false ≡ true → ⊥
apart e = absurd cc

other_path : (s : List Bool) (p q : List (List ℕ)) → is_spare s p ≡ false → is_spare s q ≡ true → same_path p q ≡ false
other_path s p q taken h = elim (same_path p q) as (λ b. same_path p q ≡ b → b ≡ false) [
  | false ↦ λ is. refl
  | true ↦ λ is. absurd (apart (sym taken ∙ ap (is_spare s) (same_path-is p q is) ∙ h))
] refl

other_name : (s : List Bool) (m n : NodeName) → is_spare s m.path ≡ false → is_spare s n.path ≡ true → same_name m n ≡ false
other_name s m n taken h = elim (same_name m n) as (λ b. same_name m n ≡ b → b ≡ false) [
  | false ↦ λ is. refl
  | true ↦ λ is. absurd (apart (sym taken ∙ ap (λ (k : NodeName). is_spare s k.path) (same_name-is m n is) ∙ h))
] refl

pub still_path : (s : List Bool) (p q : List (List ℕ)) (v : ℕ) (was now : Option ℕ) → now ≡ cond (is_at (path_cmp p) q) (Some v) was → is_spare s p ≡ false → is_spare s q ≡ true → was ≡ None → now ≡ None
still_path s p q v was now up taken h none = up ∙ ap (λ (b : Bool). cond b (Some v) was) (at_path p q ∙ other_path s p q taken h) ∙ none

pub still_name : (s : List Bool) (m n : NodeName) (v : ℕ) (was now : Option ℕ) → now ≡ cond (is_at (name_cmp m) n) (Some v) was → is_spare s m.path ≡ false → is_spare s n.path ≡ true → was ≡ None → now ≡ None
still_name s m n v was now up taken h none = up ∙ ap (λ (b : Bool). cond b (Some v) was) (at_name m n ∙ other_name s m n taken h) ∙ none
