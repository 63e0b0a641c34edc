-- The births of the nodes of a tree, place by place.
use Rattle.std.specs.Prelude.{slice_get}
use Rattle.std.proofs.Common.{◌≡◌, ℕ, ◌<◌, ◌≤◌, Bool, true, false, length, ◌∙◌, ap, arith}
use Rattle.mtn_base.specs.Names.{same_id}
use Rattle.mtn_base.specs.declared.id.Id.{Id}
use Rattle.mtn_base.specs.declared.name.NodeName.{NodeName}
use Rattle.mtn_roster.specs.declared.entry.Entry.{Entry}
use Rattle.mtn_roster.specs.Tree.{Tree}
use Rattle.mtn_base.specs.Lists.{is_some_with}
use Rattle.mtn_base.proofs.Finding.{passing_some}
use Rattle.mtn_roster.proofs.Forest.{name_of, split_of}
use Rattle.mtn_roster.proofs.BySlot.{standing}
use Rattle.mtn_base.proofs.Tests.{same_id-is, same_id-self}
use Rattle.mtn_changeset_laws.specs.Laws.{IsOldTree, NoneBornIn}
use Rattle.mtn_changeset_laws.proofs.AfterSane.{forest_before}
use Rattle.mtn_apply.proofs.OldKeys.{placed_in}

module _ (t : Tree) (new : Id) where
  abbrev pub born_at : ℕ → Bool
  born_at k = is_some_with (λ (e : Entry). same_id e.name.birth new) (slice_get t k)

  pub none_is : (count : ℕ) → length t ≤ count → ((k : ℕ) → k < count → born_at k ≡ false) → NoneBornIn t new
  none_is count low none n e there born =
      let q = standing t e (split_of t n e there) in
      let own : e.name.birth ≡ new = ap (λ (m : NodeName). m.birth) (name_of t n e there) ∙ born in
      let passes : born_at q.0 ≡ true = ap (is_some_with (λ (e : Entry). same_id e.name.birth new)) q.2 ∙ ap (λ i. same_id i new) own ∙ same_id-self new in
      let fails = none q.0 (omega (arith, q.1, low)) in
      cc

  pub one_is : IsOldTree t → (k : ℕ) → born_at k ≡ true → NoneBornIn t new → ⊥
  one_is old k h none =
      let x = passing_some (λ (e : Entry). same_id e.name.birth new) (slice_get t k) h in
      let e : Entry = x.0 in
      none e.name e ((forest_before t old).distinct e (placed_in t k e x.1)) (same_id-is e.name.birth new x.2)
