-- The positions of births that a marking gives.
use Rattle.std.specs.Prelude.{Contains, slice_get}
use Rattle.std.proofs.Common.{◌≡◌, ℕ, ◌<◌, length, List, [], ◌∷◌, ◌++◌, Some, None, ◌∙◌, ap, subst}
use Rattle.mtn_base.specs.declared.id.Id.{Id}
use Rattle.mtn_base.specs.declared.name.NodeName.{NodeName}
use Rattle.mtn_mark_laws.proofs.Stable.{get_kept, get_last}
use Rattle.mtn_roster.specs.declared.entry.Entry.{Entry}
use Rattle.mtn_roster.specs.Tree.{entry_of}
use Rattle.mtn_history_laws.specs.History.{Revision, revision_parents, revision_tree, entry_at, IsPlaceOf, IsGrown}
use Rattle.mtn_history_laws.proofs.Telling.{tell_id}
use Rattle.mtn_history_laws.proofs.Scalars.{some_of}

module _ (log : List Revision) (new : Revision) (grown : IsGrown (log ++ new ∷ [])) where
  place_is : (id : Id) → IsPlaceOf (log ++ new ∷ []) id (length log) → new.id ≡ id
  place_is id t =
      let g : slice_get (log ++ new ∷ []) (length log) ≡ Some t.0 = t.1 in
      let h : slice_get (log ++ new ∷ []) (length log) ≡ Some new = get_last log new in
      let k : new ≡ t.0 = cc in ap (λ (x : Revision). x.id) k ∙ t.2

  -- a node that no parent has is born here
  pub born_here : (n : NodeName) (e : Entry) → entry_of new.tree n ≡ Some e →
      ((p : ℕ) → Contains new.parents p → entry_at log p n ≡ None) → IsPlaceOf (log ++ new ∷ []) n.birth (length log)
  born_here n e h none =
      elim (tell_id new.id n.birth) [
        | yes g ↦ (new, get_last log new, g)
        | no ne ↦ absurd (
            let t = grown.kept (length log) n e (ap (λ o. entry_of (revision_tree o) n) (get_last log new) ∙ h) (λ k. ne (place_is n.birth k)) in
            let c : Contains new.parents t.0 = subst (λ ps. Contains ps t.0) (ap revision_parents (get_last log new)) t.1 in
            let l : t.0 < length log = grown.earlier (length log) t.0 t.1 in
            let a : entry_at (log ++ new ∷ []) t.0 n ≡ None = ap (λ o. entry_of (revision_tree o) n) (get_kept log (new ∷ []) t.0 l) ∙ none t.0 c in
            let s = some_of (entry_at (log ++ new ∷ []) t.0 n) t.2 in
            let b = s.1 in cc)
      ]

  -- a birth keeps its position
  pub birth_kept : (n : NodeName) (b : ℕ) → b < length log → IsPlaceOf log n.birth b → IsPlaceOf (log ++ new ∷ []) n.birth b
  birth_kept n b l t = (t.0, get_kept log (new ∷ []) b l ∙ t.1, t.2)
