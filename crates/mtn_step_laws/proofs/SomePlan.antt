-- A merge comes to something.
use Rattle.std.specs.Prelude.{find, is_none, option_map}
use Rattle.std.specs.Ordering.{is_lt}
use Rattle.std.proofs.Common.{◌≡◌, ◌≢◌, ◌≤◌, ◌<◌, ◌+◌, ℕ, zero, suc, Bool, true, false, cond, List, [], ◌∷◌, length, Option, Some, None, Result, Ok, Err, inl, inr, refl, sym, ap, ◌∙◌, arith}
use Rattle.std.proofs.lemmas.Bool.{cases_lt}
use Rattle.mtn_answers.specs.Queries.{first_unknown}
use Rattle.mtn_base.specs.Ids.{by_id}
use Rattle.mtn_base.specs.declared.id.Id.{Id}
use Rattle.mtn_base.specs.declared.name.NodeName.{NodeName}
use Rattle.mtn_base.specs.declared.refusal.Cause.{Cause}
use Rattle.mtn_base.specs.declared.refusal.Cause.TheVariants.{TextTooLong, UnknownRevision}
use Rattle.mtn_base.specs.Names.{same_name}
use Rattle.mtn_base.proofs.Finding.{Split, found}
use Rattle.mtn_base.proofs.Sorting.{no_split}
use Rattle.mtn_base.proofs.Members.{split_cons}
use Rattle.mtn_base.proofs.Tests.{same_name-is}
use Rattle.mtn_changeset_laws.specs.Changes.{or_else}
use Rattle.mtn_changeset_laws.specs.Laws.{NoneBornIn}
use Rattle.mtn_conflicts.specs.declared.item.Item.{Item}
use Rattle.mtn_conflicts.specs.declared.lists.Conflicts.{Conflicts}
use Rattle.mtn_conflicts.specs.Lists.{AreConflictsOf, IsNone}
use Rattle.mtn_conflicts.specs.Result.{result_of}
use Rattle.mtn_decide.specs.Decisions.{Merge, IsInOrder}
use Rattle.mtn_history_laws.specs.History.{Revision, IsGrown}
use Rattle.mtn_model.specs.Table.{Table}
use Rattle.mtn_replay.specs.Making.{place_of, parent_tree}
use Rattle.mtn_resolve.specs.declared.error.OverrideError.{OverrideError}
use Rattle.mtn_resolve.specs.declared.error.OverrideError.TheVariants as one
use Rattle.mtn_resolve.specs.declared.error.ResolveTextError.{ResolveTextError}
use Rattle.mtn_resolve.specs.declared.error.ResolveTextError.TheVariants as text
use Rattle.mtn_resolve.specs.declared.resolution.Resolution.{Resolution}
use Rattle.mtn_resolve.specs.Faults.{AreFitting}
use Rattle.mtn_resolve.specs.Overriding.{overridden}
use Rattle.mtn_resolve.proofs.Ordered.{in_order}
use Rattle.mtn_roster.specs.declared.entry.Entry.{Entry}
use Rattle.mtn_roster.specs.Tree.{Tree}
use Rattle.mtn_plans.specs.Given.{IsChecked, IsGiven, IsRead, override_cause, text_cause, unknown_pick}
use Rattle.mtn_plans.specs.Plans.{Plan, IsUnborn, Ends, EndsUnless, LooksAtSides, Looks, Merges, PlansGiven, PlansPayload, PlansSides, Unless, limit_refusal, merge_text, merged_or}
use Rattle.mtn_plans.specs.Sides.{IsMergeAt, left_of, right_of, related, side_refusal}
use Rattle.mtn_plans.specs.declared.outcome.MergeOutcome.TheVariants.{Conflicted}
use Rattle.mtn_merge_laws.proofs.SomeMerge.{some_merge}
use Rattle.mtn_merge_laws.proofs.SomeConflicts.{some_conflicts}
use Rattle.mtn_merge_laws.proofs.SomeReading.{some_reading}
use Rattle.mtn_merge_laws.proofs.SomeOverride.{some_override}

-- ---- what is given

text_caused : (e : ResolveTextError) → e ≢ text.NoMemory → (c : Cause) × (text_cause e ≡ Some c)
text_caused (text.NotText offset) some = (_, refl)
text_caused (text.BadStanza number) some = (_, refl)
text_caused (text.BadOrder number) some = (_, refl)
text_caused (text.Repeated number) some = (_, refl)
text_caused text.NoMemory some = absurd (some refl)

override_caused : (e : OverrideError) → e ≢ one.NoMemory → (c : Cause) × (override_cause e ≡ Some c)
override_caused (one.UnknownNode number) some = (_, refl)
override_caused (one.NotADirectory number) some = (_, refl)
override_caused (one.NotAConflict number) some = (_, refl)
override_caused one.NoMemory some = absurd (some refl)

abbrev Given : Type 0
Given = Result (List Resolution) Cause

some_read : (payload : List ℕ) → (given : Given) × IsRead payload given
some_read payload = elim (cases_lt 67108864 (length payload)) [
  | inl long ↦ (Err (TextTooLong (length payload)), inl (long, refl))
  | inr short ↦ elim (some_reading payload) [
    | inl t ↦ (Ok t.0, (short, record { reads = t.1; stanzas = t.2 }))
    | inr t ↦ let cause = text_caused t.0 t.1 in (Err cause.0, inr (short, record { fault = t.0; faulty = t.2; named = cause.1 }))
  ]
]

some_given : (resolves : Bool) (payload : List ℕ) → (given : Given) × IsGiven resolves payload given
some_given false payload = (Ok [], refl)
some_given true payload = some_read payload

some_checked : (files : Table) (m : Merge) (c : Conflicts) (rs : List Resolution) → (o : Option Cause) × IsChecked files m c rs o
some_checked files m c rs = elim (some_override m c rs) [
  | inl fits ↦ (unknown_pick files rs, go (unknown_pick files rs) refl fits)
  | inr t ↦ let cause = override_caused t.0 t.1 in (Some cause.0, inl (record { fault = t.0; unfit = t.2; named = cause.1 }))
]
  where
    go : (o : Option Cause) → unknown_pick files rs ≡ o → AreFitting m c rs → IsChecked files m c rs o
    go None e fits = (fits, e)
    go (Some x) e fits = inr (fits, e)

-- ---- an id that is no birth: one that is longer than all

abbrev ones : ℕ → List ℕ
ones zero = []
ones (suc n) = 1 ∷ ones n

long_ones : (n : ℕ) → length (ones n) ≡ n
long_ones zero = refl
long_ones (suc n) = ap suc (long_ones n)

abbrev longest : Tree → ℕ
longest [] = 0
longest (e ∷ es) = length e.name.birth.0 + longest es

no_longer : (t : Tree) (e : Entry) → Split t e → length e.name.birth.0 ≤ longest t
no_longer [] e s = absurd (no_split e s)
no_longer (x ∷ t) e s = elim (split_cons x t e s) [
  | inl g ↦ let same = ap (λ (z : Entry). length z.name.birth.0) g in omega (arith, same)
  | inr u ↦ let le = no_longer t e u in omega (arith, le)
]

unborn : (t : Tree) (n : ℕ) → longest t < n → NoneBornIn t (record { 0 = ones n })
unborn t n more k e there is =
    let f = found (λ (x : Entry). same_name x.name k) t e there in
    let le = no_longer t e f.at in
    let name : e.name ≡ k = same_name-is e.name k f.passes in
    let same : length e.name.birth.0 ≡ n = ap (λ (x : NodeName). length x.birth.0) name ∙ ap (λ (x : Id). length x.0) is ∙ long_ones n in
    omega (arith, le, same, more)

some_unborn : (h : List Revision) (l r : Id) → (x : Id) × IsUnborn h l r x
some_unborn h l r =
    let n = longest (parent_tree h (Some l)) + longest (parent_tree h (Some r)) + 1 in
    (record { 0 = ones n }, (unborn (parent_tree h (Some l)) n (omega arith), unborn (parent_tree h (Some r)) n (omega arith)))

-- ---- whether there are conflicts

tell_empty : (items : List Item) → Dec (items ≡ [])
tell_empty [] = yes refl
tell_empty (x ∷ xs) = no (λ e. cc)

tell_false : (b : Bool) → Dec (b ≡ false)
tell_false true = no (λ e. cc)
tell_false false = yes refl

both : {A B : Type 0} → Dec A → Dec B → Dec (A × B)
both (yes a) (yes b) = yes (a, b)
both (no n) b = no (λ t. n t.0)
both (yes a) (no n) = no (λ t. n t.1)

tell_none : (d : Conflicts) → Dec (IsNone d)
tell_none d = elim (both (tell_false d.missing_root) (both (tell_empty d.invalid_name) (both (tell_empty d.directory_loop) (both (tell_empty d.orphaned_node) (both (tell_empty d.multiple_name) (both (tell_empty d.duplicate_name) (both (tell_empty d.attribute) (both (tell_empty d.content) (tell_empty d.dropped_modified))))))))) [
  | yes t ↦ yes (record {
    missing_root = t.0;
    invalid_name = t.1.0;
    directory_loop = t.1.1.0;
    orphaned_node = t.1.1.1.0;
    multiple_name = t.1.1.1.1.0;
    duplicate_name = t.1.1.1.1.1.0;
    attribute = t.1.1.1.1.1.1.0;
    content = t.1.1.1.1.1.1.1.0;
    dropped_modified = t.1.1.1.1.1.1.1.1;
  })
  | no n ↦ no (λ k. n (k.missing_root, (k.invalid_name, (k.directory_loop, (k.orphaned_node, (k.multiple_name, (k.duplicate_name, (k.attribute, (k.content, k.dropped_modified)))))))))
]

-- ---- over one history

module _ (f : List ℕ → List ℕ) (files : Table) (h : List Revision) (grown : IsGrown h) (l r : Id) (p q : ℕ) (at_left : place_of h l ≡ Some p) (at_right : place_of h r ≡ Some q) where
  decided : (m : Merge) × IsMergeAt h l r m
  decided = let m = some_merge h p q grown in (m.0, record { left = p; right = q; at_left = at_left; at_right = at_right; order = m.1; decides = m.2 })

  some_end : (m : Merge) → IsInOrder m → (plan : Plan) × Ends f h l r m plan
  some_end m order = by (tell_none d.0)
    where
      d : (c : Conflicts) × AreConflictsOf m c
      d = some_conflicts m order

      by : Dec (IsNone d.0) → (plan : Plan) × Ends f h l r m plan
      by (no n) = (Ok (Conflicted l r d.0), record { conflicts = d.0; are = d.1; ends = inl (record { some = n; is = refl }) })
      by (yes none) =
          let x = some_unborn h l r in
          let t = result_of m x.0 in
          (merged_or (limit_refusal f h l r t) (merge_text f h l r t), record { conflicts = d.0; are = d.1; ends = inr (record { none = none; tree = t; makes = (x.0, x.1, refl); is = refl }) })

  some_unless : (m : Merge) → IsInOrder m → (rs : List Resolution) (o : Option Cause) → (plan : Plan) × EndsUnless f h l r o rs m plan
  some_unless m order rs (Some x) = (Err x, refl)
  some_unless m order rs None = some_end (overridden rs m) (in_order m rs order)

  some_of_sides : (rs : List Resolution) → (plan : Plan) × PlansSides f h l r files rs plan
  some_of_sides rs =
      let m = decided in
      let c = some_conflicts m.0 m.1.order in
      let k = some_checked files m.0 c.0 rs in
      let e = some_unless m.0 m.1.order rs k.0 in
      (e.0, record { merge = m.0; decides = m.1; conflicts = c.0; are = c.1; refusal = k.0; checked = k.1; ends = e.1 })

  some_of_given : (given : Given) → (plan : Plan) × PlansGiven f h l r files given plan
  some_of_given (Err c) = (Err c, refl)
  some_of_given (Ok rs) = some_of_sides rs

  pub some_of_payload : (resolves : Bool) (payload : List ℕ) → (plan : Plan) × PlansPayload f h l r files resolves payload plan
  some_of_payload resolves payload =
      let given = some_given resolves payload in
      let plan = some_of_given given.0 in
      (plan.0, (given.0, given.1, plan.1))

  pub some_look : (plan : Plan) × LooksAtSides h l r plan
  some_look =
      let m = decided in
      let c = some_conflicts m.0 m.1.order in
      (Ok (Conflicted l r c.0), record { merge = m.0; decides = m.1; conflicts = c.0; are = c.1; is = refl })

-- ---- sides that are not refused are held

record ArePlaced (h : List Revision) (l r : Id) : Type 0 where
  p : ℕ
  q : ℕ
  at_left : place_of h l ≡ Some p
  at_right : place_of h r ≡ Some q

no_first : (o : Option Id) (u : Option Cause) → or_else (option_map UnknownRevision o) u ≡ None → o ≡ None
no_first None u e = refl
no_first (Some x) u e = absurd cc

placed : (h : List Revision) (a b : Id) → side_refusal h a b ≡ None → ArePlaced h a b
placed h a b e = by (place_of h a) (place_of h b) refl refl (no_first (first_unknown h (a ∷ b ∷ [])) (related h (left_of a b) (right_of a b)) e)
  where
    by : (o u : Option ℕ) → place_of h a ≡ o → place_of h b ≡ u → first_unknown h (a ∷ b ∷ []) ≡ None → ArePlaced h a b
    by (Some p) (Some q) f g k = record { p = p; q = q; at_left = f; at_right = g }
    by None u f g k = absurd (let z : Some a ≡ None = sym (ap (λ o. cond (is_none o) (Some a) (find (λ id. is_none (place_of h id)) (b ∷ []))) f) ∙ k in cc)
    by (Some p) None f g k = absurd (let z : Some b ≡ None = sym (ap (λ o. cond (is_none o) (Some a) (find (λ id. is_none (place_of h id)) (b ∷ []))) f ∙ ap (λ o. cond (is_none o) (Some b) None) g) ∙ k in cc)

turned : (h : List Revision) (a b : Id) → ArePlaced h a b → ArePlaced h (left_of a b) (right_of a b)
turned h a b t = by (is_lt (by_id b a))
  where
    by : (x : Bool) → ArePlaced h (cond x b a) (cond x a b)
    by true = record { p = t.q; q = t.p; at_left = t.at_right; at_right = t.at_left }
    by false = t

module _ (f : List ℕ → List ℕ) (files : Table) (h : List Revision) (grown : IsGrown h) (a b : Id) where
  pub some_plan : (resolves : Bool) (payload : List ℕ) → (plan : Plan) × Merges f files h a b resolves payload plan
  some_plan resolves payload = go (side_refusal h a b) refl
    where
      go : (o : Option Cause) → side_refusal h a b ≡ o → (plan : Plan) × Unless o (PlansPayload f h (left_of a b) (right_of a b) files resolves payload) plan
      go (Some c) e = (Err c, refl)
      go None e = let t = turned h a b (placed h a b e) in some_of_payload f files h grown (left_of a b) (right_of a b) t.p t.q t.at_left t.at_right resolves payload

  pub some_looked : (plan : Plan) × Looks h a b plan
  some_looked = go (side_refusal h a b) refl
    where
      go : (o : Option Cause) → side_refusal h a b ≡ o → (plan : Plan) × Unless o (LooksAtSides h (left_of a b) (right_of a b)) plan
      go (Some c) e = (Err c, refl)
      go None e = let t = turned h a b (placed h a b e) in some_look f files h grown (left_of a b) (right_of a b) t.p t.q t.at_left t.at_right
