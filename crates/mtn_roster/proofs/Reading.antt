-- What is read at a place.
use Rattle.std.specs.Option.{option_map_or}
use Rattle.std.specs.List.{HoldsAt}
use Rattle.std.proofs.Common.{◌≡◌, ℕ, ◌+◌, ◌<◌, ◌≤◌, List, [], ◌∷◌, ◌++◌, length, get_or, take, Some, sym, ◌∙◌, ap}
use Rattle.std.proofs.lemmas.List.{take_more}
use Rattle.std.proofs.lemmas.Option.{slice_get-get_or, slice_get_past}
use Rattle.mtn_roster.specs.declared.entry.Entry.{Entry}
use Rattle.mtn_roster.specs.declared.entry.Slot.{Slot}
use Rattle.mtn_roster.specs.declared.entry.Slot.TheVariants.{Root}
use Rattle.mtn_roster.specs.Tree.{Tree}
use Rattle.mtn_roster.specs.Index.{slot_in}
use Rattle.mtn_roster.proofs.BySlot.{slot_is}

-- outside a tree the slot is the root's
pub slot_past : (t : Tree) (k : ℕ) → length t ≤ k → Root ≡ slot_in t k
slot_past t k high = sym (ap (λ o. option_map_or (λ (e : Entry). e.slot) o Root) (slice_get_past t k high))

-- the slot of the entry that was read
pub slot_read : (t : Tree) (k : ℕ) (e : Entry) → k < length t → e ≡ get_or t k e → e.slot ≡ slot_in t k
slot_read t k e low is = sym (slot_is t k e (slice_get-get_or t k e low ∙ ap Some (sym is)))

pub slot_found : (t : Tree) (k : ℕ) (e : Entry) (s : Slot) → (k < length t) × HoldsAt (λ (d : Entry). e ≡ d) t k → e.slot ≡ s → s ≡ slot_in t k
slot_found t k e s at is = sym is ∙ slot_read t k e at.0 (at.1 e)

-- one more copy
pub copied_more : {X : Type 0} (xs copies copies' : List X) (i : ℕ) (x y : X) → i < length xs → x ≡ get_or xs i x → y ≡ x → copies ≡ take i xs → copies' ≡ copies ++ y ∷ [] → copies' ≡ take (i + 1) xs
copied_more xs copies copies' i x y low at same was pushed =
    pushed ∙ ap (λ l. l ++ y ∷ []) was ∙ ap (λ z. take i xs ++ z ∷ []) (same ∙ at) ∙ sym (take_more xs i x low)
