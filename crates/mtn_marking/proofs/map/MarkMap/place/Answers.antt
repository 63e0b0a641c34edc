-- The closure compares the names, and the names ascend.
use Rattle.std.proofs.Common.{rules, ◌≡◌, ◌∙◌, Result, Ok, Err, ℕ, true, map, length, ap, subst}
use Rattle.std.specs.Prelude.{find, slice_get, option_and_then}
use Rattle.std.specs.List.Sorted.{IsBinarySearchResult, IsSearchInRange}
use Rattle.std.specs.Result.{result_ok}
use Rattle.std.proofs.lemmas.Fn.{always_returns_same}
use Rattle.mtn_base.specs.Names.{name_cmp, same_name}
use Rattle.mtn_base.specs.declared.name.NodeName.{NodeName}
use Rattle.mtn_base.specs.Lists.{rises}
use Rattle.mtn_marking.specs.declared.node.NodeMarks.{NodeMarks}
use Rattle.mtn_marking.specs.Marking.{Marks}
use Rattle.mtn_marking.proofs.ByName.{name_of, halved_names}
use Rattle.mtn_marking.proofs.map.MarkMap.place.Goals as goal

-- what was searched is what the map holds, and that is what contracts see of it
seen_as : (held inside view : Marks) → held ≡ inside → inside ≡ view → rises name_cmp (map name_of inside) ≡ true → (n : NodeName) (r : Result ℕ ℕ) →
    IsSearchInRange r (length held) → IsBinarySearchResult (λ m. name_cmp (name_of m) n) held r →
    option_and_then (slice_get view) (result_ok r) ≡ find (λ (m : NodeMarks). same_name m.name n) view
seen_as held inside view e f h n r lt at =
    subst (λ (l : Marks). option_and_then (slice_get l) (result_ok r) ≡ find (λ (m : NodeMarks). same_name m.name n) l) (e ∙ f)
    (halved_names held (ap (λ (l : Marks). rises name_cmp (map name_of l)) e ∙ h) n r lt at)

pub returns-in-Ok-clause-node : goal.returns-in-Ok-clause-node
returns-in-Ok-clause-node c =
    seen_as c.deref.result.now c.self.inside.items.items c.args.self.now c.deref.ensures.value c.self.view_is c.self.invariant c.args.name.now (Ok c.in-Ok.place) c.in-Ok.ensures.bound
    (c.in-Ok.ensures.position (λ (m : NodeMarks). name_cmp m.name c.args.name.now) (always_returns_same _ _ _ (λ a r g called. (search rules, search rules))))

pub returns-in-Err-clause-node : goal.returns-in-Err-clause-node
returns-in-Err-clause-node c =
    seen_as c.deref.result.now c.self.inside.items.items c.args.self.now c.deref.ensures.value c.self.view_is c.self.invariant c.args.name.now (Err c.in-Err.field-0) c.in-Err.ensures.bound
    (c.in-Err.ensures.position (λ (m : NodeMarks). name_cmp m.name c.args.name.now) (always_returns_same _ _ _ (λ a r g called. (search rules, search rules))))
