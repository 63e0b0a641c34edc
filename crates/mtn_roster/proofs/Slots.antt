-- What the test on slots says.
use Rattle.std.specs.Prelude.{◌&&◌, IsTrue}
use Rattle.std.proofs.Common.{◌≡◌, ◌↔◌, ℕ, Bool, true, List, refl, sym, ◌∙◌, ap, subst}
use Rattle.std.specs.Cmp.{first_so, second_so}
use Rattle.std.specs.Cmp.Lexicographic.{bytes_decides}
use Rattle.mtn_base.specs.Names.{same_bytes, same_name}
use Rattle.mtn_base.specs.declared.name.NodeName.{NodeName}
use Rattle.mtn_base.proofs.Tests.{both_true, same_name-is, same_name-self}
use Rattle.mtn_roster.specs.declared.entry.Slot.{Slot}
use Rattle.mtn_roster.specs.declared.entry.Slot.TheVariants.{Root, Below}
use Rattle.mtn_roster.specs.Tree.{same_slot}

pub same_slot-is : (a b : Slot) → same_slot a b ≡ true → a ≡ b
same_slot-is Root Root h = refl
same_slot-is Root (Below q b) h = absurd cc
same_slot-is (Below p a) Root h = absurd cc
same_slot-is (Below p a) (Below q b) h = λ i. Below (same_name-is p q (first_so _ _ h) i) ((bytes_decides a b).0 (second_so (same_name p q) _ h) i)

pub same_slot-self : (a : Slot) → same_slot a a ≡ true
same_slot-self Root = refl
same_slot-self (Below p a) = both_true _ _ (same_name-self p) ((bytes_decides a a).1 refl)

pub told_slot : (s t : Slot) (r : Bool) → r ≡ same_slot s t → IsTrue r ↔ (s ≡ t)
told_slot s t r e = (λ h. same_slot-is s t (sym e ∙ h), λ d. e ∙ subst (λ z. same_slot s z ≡ true) d (same_slot-self s))

pub slot_then : (s t : Slot) (p q : NodeName) (a b : List ℕ) (r : Bool) → s ≡ Below p a → t ≡ Below q b → same_name p q ≡ r → same_slot s t ≡ (r && same_bytes a b)
slot_then s t p q a b r es et h = (λ i. same_slot (es i) (et i)) ∙ ap (λ x. x && same_bytes a b) h
