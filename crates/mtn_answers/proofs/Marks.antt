-- Each mark is an event of a revision of the history.
use Rattle.std.specs.Prelude.{slice_get}
use Rattle.std.proofs.Common.{◌≡◌, ℕ, List, Option, Some, None, refl, ap}
use Rattle.mtn_base.specs.declared.id.Id.{Id}
use Rattle.mtn_history_laws.specs.History.{Revision, revision_tree, IsPlaceOf}
use Rattle.mtn_history_laws.specs.Scalars.{Scalar, Value, IsMark, value_at, value_in}
use Rattle.mtn_mark_laws.specs.Marks.{IsMarked, IsMarkOf, fresh, changed, chosen, here, onward}

-- a mark is an event
pub mark_event : {parents : ℕ → List ℕ} {value : ℕ → Option Value} {r x : ℕ} → IsMarkOf Value parents value r x → IsMarked Value parents value x
mark_event (here m) = m
mark_event (onward quiet c same m) = mark_event m

pub event_value : {parents : ℕ → List ℕ} {value : ℕ → Option Value} {x : ℕ} → IsMarked Value parents value x → (v : Value) × (value x ≡ Some v)
event_value (fresh {v = v} is none) = (v, is)
event_value (changed {v = v} is differ) = (v, is)
event_value (chosen {v = v} is p q a b c d e m) = (v, is)

-- a mark is a revision of the history
pub mark_placed : (h : List Revision) (s : Scalar) (r x : ℕ) → IsMark h s r x → (id : Id) × IsPlaceOf h id x
mark_placed h s r x m = by (slice_get h x) refl (event_value (mark_event m))
  where
    by : (o : Option Revision) → slice_get h x ≡ o → (v : Value) × (value_at h s x ≡ Some v) → (id : Id) × IsPlaceOf h id x
    by (Some q) e is = (q.id, (q, e, refl))
    by None e is = absurd (let none : value_at h s x ≡ None = ap (λ (q : Option Revision). value_in (revision_tree q) s) e in let v : value_at h s x ≡ Some is.0 = is.1 in cc)
