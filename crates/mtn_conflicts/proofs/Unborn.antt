-- Where no node is reborn, the merged tree is that of the names before.
use Rattle.std.specs.Prelude.{map}
use Rattle.std.specs.List.{list_any}
use Rattle.std.specs.Option.{option_map_or}
use Rattle.std.proofs.Common.{◌≡◌, Bool, false, if◌then◌else◌, List, [], ◌∷◌, ◌++◌, Option, Some, None, refl, ap, ◌∙◌, subst}
use Rattle.mtn_base.specs.declared.id.Id.{Id}
use Rattle.mtn_base.specs.declared.name.NodeName.{NodeName}
use Rattle.mtn_base.proofs.Finding.{Split, either_false}
use Rattle.mtn_conflicts.specs.Result.{decided_attr, decided_body, decided_entry, decided_slot, new_entry, new_name, new_slot, tree_before}
use Rattle.mtn_conflicts.proofs.Nodes.{found_at, found_name}
use Rattle.mtn_decide.specs.declared.decision.Decision.{Decision}
use Rattle.mtn_decide.specs.Decisions.{decision_of}
use Rattle.mtn_roster.specs.declared.entry.Slot.{Slot}
use Rattle.mtn_roster.specs.declared.entry.Slot.TheVariants.{Root, Below}
use Rattle.mtn_roster.specs.Tree.{path_of}

any_split : {X : Type 0} (f : X → Bool) (before : List X) (x : X) (rest : List X) → list_any f (before ++ x ∷ rest) ≡ false → f x ≡ false
any_split f [] x rest e = (either_false (f x) (list_any f rest) e).0
any_split f (y ∷ before) x rest e = any_split f before x rest (either_false (f y) (list_any f (before ++ x ∷ rest)) e).1

module _ (ds : List Decision) (none : list_any (λ (d : Decision). d.reborn) ds ≡ false) (id : Id) where
  unborn : (d : Decision) → Split ds d → d.reborn ≡ false
  unborn d s = any_split (λ (e : Decision). e.reborn) s.before d s.rest (subst (λ l. list_any (λ (e : Decision). e.reborn) l ≡ false) s.is none)

  own_name : (d : Decision) → d.reborn ≡ false → new_name ds id d ≡ d.name
  own_name d e = ap (λ b. if b then record { birth = id; path = path_of (tree_before ds) (decided_entry d) } else d.name) e

  own_slot : (s : Slot) → new_slot ds id s ≡ s
  own_slot Root = refl
  own_slot (Below parent name) = ap (λ (p : NodeName). Below p name) (by (decision_of ds parent) refl)
    where
      by : (o : Option Decision) → decision_of ds parent ≡ o → option_map_or (new_name ds id) o parent ≡ parent
      by None e = refl
      by (Some d) e = own_name d (unborn d (found_at ds parent d e)) ∙ found_name ds parent d e

  own_entries : (es : List Decision) → list_any (λ (d : Decision). d.reborn) es ≡ false → map (new_entry ds id) es ≡ map decided_entry es
  own_entries [] e = refl
  own_entries (d ∷ es) e =
      let w = either_false d.reborn (list_any (λ (z : Decision). z.reborn) es) e in
      let name = own_name d w.0 in
      let slot = own_slot (decided_slot d.slot) in
      let rest = own_entries es w.1 in
      λ i. record { name = name i; slot = slot i; body = decided_body d.content; attrs = map decided_attr d.attrs } ∷ rest i

  pub as_before : map (new_entry ds id) ds ≡ tree_before ds
  as_before = own_entries ds none
