-- The least key above another, of the pending records and the keeper's.
use Rattle.std.specs.Prelude.{IfSome, ◌&&◌, not}
use Rattle.std.proofs.Common.{◌≡◌, ℕ, Bool, true, false, cond, List, Option, Some, None, refl, sym, ap, ◌∙◌, subst}
use Rattle.std.specs.FinMap.{get-empty, slice_cmp-IsAntisymmetric, nat_cmp-IsAntisymmetric}
use Rattle.std.specs.Cmp.Lexicographic.{slice_cmp}
use Rattle.std.specs.Ordering.{is_lt, nat_cmp, ordering_reverse}
use Rattle.std.specs.declared.cmp.Ordering.{Ordering}
use Rattle.std.specs.declared.cmp.Ordering.TheVariants.{Less, Equal, Greater}
use Rattle.std.proofs.lemmas.Cmp.{nat_list_cmp_total}
use Rattle.mtn_model.specs.Table.{Contents, body_at, nothing}
use Rattle.mtn_ports.specs.Kept.{IsAbove, IsAboveIf, IsBodyIf, IsLeast, IsNextKey, over, with_all}
use Rattle.mtn_ports.specs.declared.batch.Put.{Put}
use Rattle.mtn_ports.proofs.KeptLemmas.{body_at-over, least_has_body, newest}
use Rattle.mtn_history.specs.Asking.{first_key}

over_none : (x : Option (List ℕ)) → over x None ≡ x
over_none (Some b) = refl
over_none None = refl

over_some : (x : Option (List ℕ)) (b : List ℕ) → (y : List ℕ) × (over x (Some b) ≡ Some y)
over_some (Some y) b = (y, refl)
over_some None b = (b, refl)

less : (o : Ordering) → is_lt o ≡ true → o ≡ Less
less Less e = refl
less Equal e = absurd cc
less Greater e = absurd cc

-- what is below one that is not above another is below that other
below_both : (other kept pending : List ℕ) → is_lt (slice_cmp nat_cmp pending kept) ≡ false → IsAbove other kept → IsAbove other pending
below_both other kept pending far above = by (slice_cmp nat_cmp pending kept) refl far
  where
    by : (o : Ordering) → slice_cmp nat_cmp pending kept ≡ o → is_lt o ≡ false → IsAbove other pending
    by Less is e = absurd cc
    by Equal is e = subst (IsAbove other) (sym (slice_cmp-IsAntisymmetric nat_cmp-IsAntisymmetric pending kept is)) above
    by Greater is e = nat_list_cmp_total.trans other kept pending above (nat_list_cmp_total.antisymm kept pending ∙ ap ordering_reverse is)

module _ (c : Contents) (ps : List Put) (table : ℕ) (after : List ℕ) where
  abbrev pending : List ℕ → Option (List ℕ)
  pending k = body_at (with_all nothing ps) table k

  pending_is : (k : List ℕ) → pending k ≡ newest table k None ps
  pending_is k = body_at-over nothing ps table k ∙ ap (over (newest table k None ps)) (get-empty (slice_cmp nat_cmp) k) ∙ over_none (newest table k None ps)

  both_are : (k : List ℕ) → body_at (with_all c ps) table k ≡ over (pending k) (body_at c table k)
  both_are k = body_at-over c ps table k ∙ ap (λ x. over x (body_at c table k)) (sym (pending_is k))

  none_pending : (k : List ℕ) → pending k ≡ None → body_at (with_all c ps) table k ≡ body_at c table k
  none_pending k none = both_are k ∙ ap (λ x. over x (body_at c table k)) none

  some_pending : (k b : List ℕ) → pending k ≡ Some b → body_at (with_all c ps) table k ≡ Some b
  some_pending k b some = both_are k ∙ ap (λ x. over x (body_at c table k)) some

  some_kept : (k b : List ℕ) → body_at c table k ≡ Some b → (y : List ℕ) × (body_at (with_all c ps) table k ≡ Some y)
  some_kept k b some = let o = over_some (pending k) b in (o.0, both_are k ∙ ap (over (pending k)) some ∙ o.1)

  -- none is pending
  none_next : (found : Bool) (key : List ℕ) → IsLeast (with_all nothing ps) table after None → IsNextKey c table after found key → IsNextKey (with_all c ps) table after found key
  none_next true key least next = (some_kept key next.0.0 next.0.1, λ other a b. none_pending other (least other a) ∙ next.1 other a b)
  none_next false key least next = λ other a. none_pending other (least other a) ∙ next other a

  -- the lesser of both is the next
  first_next : (found : Bool) (key first : List ℕ) → IsLeast (with_all nothing ps) table after (Some first) → IsNextKey c table after found key → IsNextKey (with_all c ps) table after true (first_key found key first)
  first_next false key first least next = ((least.1.0, some_pending first least.1.0 least.1.1), λ other a b. none_pending other (least.2 other a b) ∙ next other a)
  first_next true key first least next = by (is_lt (slice_cmp nat_cmp first key)) refl
    where
      by : (b : Bool) → is_lt (slice_cmp nat_cmp first key) ≡ b → IsNextKey (with_all c ps) table after true (cond (true && not b) key first)
      by true is = (
        (least.1.0, some_pending first least.1.0 least.1.1),
        λ other a b. none_pending other (least.2 other a b) ∙ next.1 other a (nat_list_cmp_total.trans other first key b (less (slice_cmp nat_cmp first key) is)),
      )
      by false is =
          (some_kept key next.0.0 next.0.1, λ other a b. none_pending other (least.2 other a (below_both other key first is b)) ∙ next.1 other a b)

  -- the body under it, where none is pending
  none_body : (found : Bool) (key body : List ℕ) → IsLeast (with_all nothing ps) table after None → IsAboveIf after found key → IsBodyIf c table found key body → IsBodyIf (with_all c ps) table found key body
  none_body true key body least above told = none_pending key (least key above) ∙ told
  none_body false key body least above told = tt

  -- what these records put under a key, over any contents
  abbrev Finds : List ℕ → Option (List ℕ) → Type 0
  Finds key held = (d : Contents) → body_at (with_all d ps) table key ≡ over held (body_at d table key)

  never_first : (first : List ℕ) → IsLeast (with_all nothing ps) table after (Some first) → Finds first None → ⊥
  never_first first least finds = least_has_body pending after first least (finds nothing ∙ get-empty (slice_cmp nat_cmp) first)

  -- the body under the lesser of both
  first_body : (found : Bool) (key first was body : List ℕ) (held : Option (List ℕ)) → IsLeast (with_all nothing ps) table after (Some first) → IsBodyIf c table found key was →
      Finds (first_key found key first) held → Some body ≡ over held (Some was) → body_at (with_all c ps) table (first_key found key first) ≡ Some body
  first_body found key first was body (Some own) least told finds is = finds c ∙ sym is
  first_body false key first was body None least told finds is = absurd (never_first first least finds)
  first_body true key first was body None least told finds is = by (is_lt (slice_cmp nat_cmp first key)) finds
    where
      by : (b : Bool) → Finds (cond (true && not b) key first) None → body_at (with_all c ps) table (cond (true && not b) key first) ≡ Some body
      by true finds = absurd (never_first first least finds)
      by false finds = finds c ∙ told ∙ sym is

-- the same where the records are told
pub next_alone : (told : Option Contents) (ps : List Put) (table : ℕ) (after key : List ℕ) (found : Bool) → IsLeast (with_all nothing ps) table after None →
    IfSome told (λ c. IsNextKey c table after found key) → IfSome told (λ c. IsNextKey (with_all c ps) table after found key)
next_alone None ps table after key found least next = tt
next_alone (Some c) ps table after key found least next = none_next c ps table after found key least next

pub next_first : (told : Option Contents) (ps : List Put) (table : ℕ) (after key first taken : List ℕ) (found : Bool) → IsLeast (with_all nothing ps) table after (Some first) → taken ≡ first_key found key first →
    IfSome told (λ c. IsNextKey c table after found key) → IfSome told (λ c. IsNextKey (with_all c ps) table after true taken)
next_first None ps table after key first taken found least is next = tt
next_first (Some c) ps table after key first taken found least is next =
    subst (IsNextKey (with_all c ps) table after true) (sym is) (first_next c ps table after found key first least next)

-- and it stands above, whatever is told
pub first_above : (ps : List Put) (table : ℕ) (after key first taken : List ℕ) (found : Bool) → IsLeast (with_all nothing ps) table after (Some first) → taken ≡ first_key found key first → IsAboveIf after found key → IsAbove after taken
first_above ps table after key first taken true least is above = subst (IsAbove after) (sym is) (by (is_lt (slice_cmp nat_cmp first key)))
  where
    by : (b : Bool) → IsAbove after (cond (true && not b) key first)
    by true = least.0
    by false = above
first_above ps table after key first taken false least is above = subst (IsAbove after) (sym is) least.0

pub body_alone : (told : Option Contents) (ps : List Put) (table : ℕ) (after key body : List ℕ) (found : Bool) → IsLeast (with_all nothing ps) table after None → IsAboveIf after found key →
    IfSome told (λ c. IsBodyIf c table found key body) → IfSome told (λ c. IsBodyIf (with_all c ps) table found key body)
body_alone None ps table after key body found least above own = tt
body_alone (Some c) ps table after key body found least above own = none_body c ps table after found key body least above own

pub body_first : (told : Option Contents) (ps : List Put) (table : ℕ) (after key first taken shown was body : List ℕ) (found : Bool) (held : Option (List ℕ)) → IsLeast (with_all nothing ps) table after (Some first) → taken ≡ first_key found key first → shown ≡ taken →
    IfSome told (λ c. IsBodyIf c table found key was) → ((d : Contents) → body_at (with_all d ps) table shown ≡ over held (body_at d table shown)) → Some body ≡ over held (Some was) →
    IfSome told (λ c. IsBodyIf (with_all c ps) table true taken body)
body_first None ps table after key first taken shown was body found held least takes shows own finds is = tt
body_first (Some c) ps table after key first taken shown was body found held least takes shows own finds is =
    subst (λ k. body_at (with_all c ps) table k ≡ Some body) (sym takes)
    (first_body c ps table after found key first was body held least own
    (subst (λ k. (d : Contents) → body_at (with_all d ps) table k ≡ over held (body_at d table k)) (shows ∙ takes) finds) is)
