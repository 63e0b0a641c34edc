-- Positions noted for the places of old nodes.
use Rattle.std.specs.Prelude.{slice_get, option_and_then}
use Rattle.std.specs.declared.cmp.Ordering.TheVariants.{Less, Equal}
use Rattle.std.specs.Cmp.{tied_itself}
use Rattle.std.proofs.Common.{◌≡◌, ℕ, ◌+◌, ◌<◌, Bool, true, false, cond, List, length, get_or, set, Option, Some, refl, sym, ◌∙◌, ap, arith, inl, inr}
use Rattle.std.proofs.lemmas.Bool.{cases_lt}
use Rattle.mtn_base.specs.Names.{name_cmp, same_name}
use Rattle.mtn_roster.specs.declared.entry.Entry.{Entry}
use Rattle.mtn_roster.specs.Tree.{Tree}
use Rattle.mtn_base.proofs.Members.{taken}
use Rattle.mtn_base.proofs.Orders.{names_total}
use Rattle.mtn_base.proofs.Sorting.{less_at}
use Rattle.mtn_base.proofs.Tests.{same_name-is, same_name-self}
use Rattle.mtn_changeset_laws.specs.Laws.{IsOldTree}
use Rattle.mtn_apply.specs.Maps.{of_place}
use Rattle.mtn_apply.specs.Index.{first_from}
use Rattle.mtn_apply.proofs.Builds.{up_before}
use Rattle.mtn_apply.proofs.Links.{get-set_at, get-set_other, get_in}
use Rattle.mtn_apply.proofs.Positions.{one_before}

get_is : {X : Type 0} (xs : List X) (k : ℕ) (x d : X) → slice_get xs k ≡ Some x → get_or xs k d ≡ x
get_is xs k x d h =
    let r = taken xs k (get_in xs k x h) in
    let is : r.0 ≡ x = (let a = sym r.1 ∙ h in cc) in
    r.3 d ∙ is

-- the first from a position on, by the one there
pub first_before : {X : Type 0} (f : X → Bool) (xs : List X) (k : ℕ) (x : X) → slice_get xs k ≡ Some x → first_from f xs k ≡ cond (f x) (Some k) (first_from f xs (k + 1))
first_before f xs k x h = one_before f xs (k + 1) k x refl (get_in xs k x h) (sym (get_is xs k x x h))

module _ (old : Tree) (sane : IsOldTree old) where
  -- names ascend, so that of two places the nodes differ
  not_below : (j k : ℕ) (f e : Entry) → slice_get old j ≡ Some f → slice_get old k ≡ Some e → f.name ≡ e.name → j < k → ⊥
  not_below j k f e fs es same lt =
      let less = less_at name_cmp (λ (e : Entry). e.name) names_total old j k e (up_before old sane) lt (get_in old k e es) in
      let fs' = get_is old j f e fs in
      let es' = get_is old k e e es in
      let less' : name_cmp f.name e.name ≡ Less = ap (λ (x : Entry). name_cmp x.name e.name) (sym fs') ∙ ap (λ (y : Entry). name_cmp (get_or old j e).name y.name) (sym es') ∙ less in
      let equal : name_cmp f.name e.name ≡ Equal = ap (name_cmp f.name) (sym same) ∙ tied_itself names_total f.name in
      cc

  one_node : (j k : ℕ) (f e : Entry) → slice_get old j ≡ Some f → slice_get old k ≡ Some e → f.name ≡ e.name → j ≡ k
  one_node j k f e fs es same = elim (cases_lt j k) [
    | inl lt ↦ absurd (not_below j k f e fs es same lt)
    | inr ge ↦ elim (cases_lt k j) [
      | inl gt ↦ absurd (not_below k j e f es fs (sym same) gt)
      | inr le ↦ omega arith
    ]
  ]

  other_node : (j k : ℕ) (f e : Entry) → slice_get old j ≡ Some f → slice_get old k ≡ Some e → same_name f.name e.name ≡ false → k ≡ j → ⊥
  other_node j k f e fs es apart is =
      let one : f ≡ e = (let a = sym fs ∙ ap (slice_get old) (sym is) ∙ es in cc) in
      let same : same_name f.name e.name ≡ true = ap (λ (x : Entry). same_name f.name x.name) (sym one) ∙ same_name-self f.name in
      cc

  -- a position noted for the node at a place is that of the nodes of its name
  pub noted : (positions : List (Option ℕ)) (j k at : ℕ) (f e : Entry) → slice_get old j ≡ Some f → slice_get old k ≡ Some e → j < length positions →
      of_place (set positions j (Some at)) k ≡ cond (same_name f.name e.name) (Some at) (of_place positions k)
  noted positions j k at f e fs es low =
      elim (same_name f.name e.name) as (λ b. same_name f.name e.name ≡ b → of_place (set positions j (Some at)) k ≡ cond b (Some at) (of_place positions k)) [
        | true ↦ λ q.
            ap (of_place (set positions j (Some at))) (sym (one_node j k f e fs es (same_name-is f.name e.name q)))
            ∙ ap (option_and_then (λ o. o)) (get-set_at positions j (Some at) low)
        | false ↦ λ q. ap (option_and_then (λ o. o)) (get-set_other positions j k (Some at) (other_node j k f e fs es q))
      ] refl
