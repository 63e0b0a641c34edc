-- Equality of ids, slots and values of scalars can be told.
use Rattle.std.proofs.Common.{◌≡◌, ℕ, List, Option, Some, None, ap, refl}
use Rattle.std.proofs.Math.Decide.{ℕ_discrete}
use mathlib.Core.List.{List-discrete}
use Rattle.mtn_base.specs.declared.id.Id.{Id}
use Rattle.mtn_base.specs.declared.name.NodeName.{NodeName}
use Rattle.mtn_roster.specs.declared.entry.Slot.{Slot}
use Rattle.mtn_roster.specs.declared.entry.Slot.TheVariants.{Root, Below}
use Rattle.mtn_history_laws.specs.Scalars.{Value}
use Rattle.mtn_history_laws.specs.Scalars.Value.{SlotValue, ContentValue, AttrValue}

tell_bytes : (a b : List ℕ) → Dec (a ≡ b)
tell_bytes = List-discrete ℕ_discrete

tell_path : (a b : List (List ℕ)) → Dec (a ≡ b)
tell_path = List-discrete tell_bytes

pub tell_id : (a b : Id) → Dec (a ≡ b)
tell_id a b = elim (tell_bytes a.0 b.0) [ yes e ↦ yes (λ i. record { 0 = e i }) | no n ↦ no (λ d. n (ap (λ (x : Id). x.0) d)) ]

tell_name : (a b : NodeName) → Dec (a ≡ b)
tell_name a b =
    elim (tell_id a.birth b.birth) [
      | yes e ↦ elim (tell_path a.path b.path) [
        | yes f ↦ yes (λ i. record { birth = e i; path = f i })
        | no n ↦ no (λ d. n (ap (λ (x : NodeName). x.path) d))
      ]
      | no n ↦ no (λ d. n (ap (λ (x : NodeName). x.birth) d))
    ]

tell_slot : (a b : Slot) → Dec (a ≡ b)
tell_slot Root Root = yes refl
tell_slot Root (Below p c) = no (λ d. cc)
tell_slot (Below p c) Root = no (λ d. cc)
tell_slot (Below p c) (Below q d) =
    elim (tell_name p q) [
      | yes e ↦ elim (tell_bytes c d) [ yes f ↦ yes cc | no n ↦ no (λ g. n cc) ]
      | no n ↦ no (λ g. n cc)
    ]

tell_option : {A : Type 0} → ((a b : A) → Dec (a ≡ b)) → (a b : Option A) → Dec (a ≡ b)
tell_option tell None None = yes refl
tell_option tell None (Some b) = no (λ d. cc)
tell_option tell (Some a) None = no (λ d. cc)
tell_option tell (Some a) (Some b) = elim (tell a b) [ yes e ↦ yes (ap Some e) | no n ↦ no (λ g. n cc) ]

pub tell_value : (a b : Value) → Dec (a ≡ b)
tell_value (SlotValue a) (SlotValue b) = elim (tell_slot a b) [ yes e ↦ yes (ap SlotValue e) | no n ↦ no (λ g. n cc) ]
tell_value (ContentValue a) (ContentValue b) = elim (tell_id a b) [ yes e ↦ yes (ap ContentValue e) | no n ↦ no (λ g. n cc) ]
tell_value (AttrValue a) (AttrValue b) = elim (tell_option tell_bytes a b) [ yes e ↦ yes (ap AttrValue e) | no n ↦ no (λ g. n cc) ]
tell_value (SlotValue a) (ContentValue b) = no (λ g. cc)
tell_value (SlotValue a) (AttrValue b) = no (λ g. cc)
tell_value (ContentValue a) (SlotValue b) = no (λ g. cc)
tell_value (ContentValue a) (AttrValue b) = no (λ g. cc)
tell_value (AttrValue a) (SlotValue b) = no (λ g. cc)
tell_value (AttrValue a) (ContentValue b) = no (λ g. cc)
