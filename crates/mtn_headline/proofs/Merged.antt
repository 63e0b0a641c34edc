-- A merge in order is decided by its lists.
use Rattle.std.specs.Prelude.{IsSome, nat_lt, if◌then◌else◌, find, slice_get, option_map}
use Rattle.std.specs.FinMap.{get}
use Rattle.std.proofs.lemmas.Bool.{cases_lt}
use Rattle.std.proofs.lemmas.Bool.Decides.{nat_tests}
use Rattle.std.proofs.lemmas.Option.{same_Some}
use Rattle.std.proofs.Common.{◌≡◌, ◌⊎◌, ◌≤◌, ◌<◌, ℕ, Bool, true, false, List, [], ◌∷◌, ◌++◌, length, Option, Some, None, Ok, inl, inr, refl, sym, ap, ◌∙◌, subst, arith}
use Rattle.mtn_base.specs.Hex.{id_of}
use Rattle.mtn_base.specs.declared.id.Id.{Id}
use Rattle.mtn_base.specs.Names.{same_bytes}
use Rattle.mtn_base.specs.declared.refusal.Cause.{Cause}
use Rattle.mtn_base.specs.declared.refusal.Cause.TheVariants.{Collision, TextTooLong}
use Rattle.mtn_base.proofs.Finding.{found}
use Rattle.mtn_base.proofs.Members.{taken, place_of as place_in}
use Rattle.mtn_basic_io.specs.Spelling.{spelling}
use Rattle.mtn_between.specs.Laws.{IsContentIn}
use Rattle.mtn_between.specs.Merging.{IsMerged}
use Rattle.mtn_changes.specs.declared.change.Revision.{Revision as Spelled}
use Rattle.mtn_changes.specs.declared.error.ChangeTextError.TheVariants as error
use Rattle.mtn_changes.proofs.OneValue.{no_revision_fault, same_revision}
use Rattle.mtn_conflicts.specs.declared.lists.Conflicts.{Conflicts}
use Rattle.mtn_conflicts.specs.Lists.{AreConflictsOf, IsNone}
use Rattle.mtn_conflicts.specs.Result.{result_of}
use Rattle.mtn_decide.specs.Decisions.{Merge}
use Rattle.mtn_history_laws.specs.History.{Revision, tree_at}
use Rattle.mtn_manifest.specs.Manifest.{manifest_of}
use Rattle.mtn_merging.specs.MergeEdges.{merge_edges}
use Rattle.mtn_model.specs.Outcome.{Outcome}
use Rattle.mtn_model.specs.State.{Logged, State}
use Rattle.mtn_step_laws.proofs.Accepting.{text_none}
use Rattle.mtn_plans.specs.Given.{IsGiven}
use Rattle.mtn_plans.specs.Plans.{Ends, IsUnborn, Merges, Plan, PlansPayload, Unless, limit_refusal, merge_revision, merge_text, merged_or, text_refusal}
use Rattle.mtn_plans.specs.Sides.{left_of, right_of}
use Rattle.mtn_plans.specs.declared.outcome.MergeOutcome.TheVariants.{Conflicted}
use Rattle.mtn_replay.specs.Accepting.{Decides, fault_cause, logged_beside, refusal_beside}
use Rattle.mtn_replay.specs.Lawful.{IsHistory, IsLawful, IsNext, Spells}
use Rattle.mtn_replay.specs.Making.{is_above, log_full, made, made_tree, place_of, refusal_of, too_long, too_many}
use Rattle.mtn_replay.specs.Texts.{text_under}
use Rattle.mtn_replay.proofs.Histories.{history_more, one_history}
use Rattle.std.specs.Cmp.Lexicographic.{bytes_decides}
use Rattle.mtn_replay.proofs.Places.{within as inside}
use Rattle.mtn_marking.proofs.Zips.{got_at}
use Rattle.mtn_resolve.specs.declared.resolution.Resolution.{Resolution}
use Rattle.mtn_resolve.specs.Overriding.{overridden}
use Rattle.mtn_resolve.specs.Texts.{AreResolutions}
use Rattle.mtn_roster.specs.Tree.{Tree, IsSane}
use Rattle.mtn_step.specs.Step.{Ended, Ending, Planned, PutsRevision, Steps, conflict_text, conflicted, id_line, unless}
use Rattle.mtn_step.specs.declared.call.Call.TheVariants.{Merge as MergeCall}
use Rattle.mtn_step_laws.proofs.OnePlan.{one_plan}
use Rattle.mtn_headline.specs.Merging.{IsMergeInOrder, IsMergedBy, IsNewRevision, IsWithinLimits}
use Rattle.mtn_order.specs.Free.{MakesIds}
use Rattle.mtn_headline.proofs.Ids.{merge_stanzas}
use Rattle.mtn_planned_trees.proofs.Planned as planned

-- resolutions that are given are lawful
lawful_given : (resolves : Bool) (payload : List ℕ) (rs : List Resolution) → IsGiven resolves payload (Ok rs) → AreResolutions [] rs
lawful_given false payload rs e = let q : rs ≡ [] = cc in subst (AreResolutions []) (sym q) tt
lawful_given true payload rs e = e.1.reads.lawful

no_cause : (c : Cause) → fault_cause error.NoMemory ≡ Some c → ⊥
no_cause c e = cc

module _ (f : List ℕ → List ℕ) (s : State) (h : List Revision) (a b : Id) (resolves : Bool) (payload : List ℕ) (o : Outcome) (is : IsHistory f s.files s.log h)
    (order : IsMergeInOrder s h a b resolves payload) (d : Conflicts) (are : AreConflictsOf (overridden order.resolutions order.merge) d) where
  abbrev l : Id
  l = left_of a b

  abbrev r : Id
  r = right_of a b

  abbrev decisions : Merge
  decisions = overridden order.resolutions order.merge

  -- the plan of a merge whose ends are these
  plan_of : (plan : Plan) → Ends f h l r decisions plan → Merges f s.files h a b resolves payload plan
  plan_of plan ends = subst (λ u. Unless u (PlansPayload f h l r s.files resolves payload) plan) (sym order.sides) (
    Ok order.resolutions,
    order.given,
    record {
      merge = order.merge;
      decides = order.decides;
      conflicts = order.before;
      are = order.are;
      refusal = None;
      checked = order.checked;
      ends = ends;
    },
  )

  abbrev MergedBy : Ending → Type 0
  MergedBy ends = Planned (Merges f s.files h a b resolves payload) (Ended ends s o)

  -- what is done is done by that plan
  by_plan : (ends : Ending) (plan : Plan) → Ends f h l r decisions plan → MergedBy ends → Ended ends s o plan
  by_plan ends plan of there = subst (Ended ends s o) (one_plan f s.files s.log h is a b resolves payload there.0 plan there.1 (plan_of plan of)) there.2

  pub left_in_conflict : (ends : Ending) → MergedBy ends → ¬ IsNone d → o ≡ conflicted s (conflict_text l r d)
  left_in_conflict ends there some = by_plan ends (Ok (Conflicted l r d)) (record { conflicts = d; are = are; ends = inl (record { some = some; is = refl }) }) there

  of_merge : Steps f (MergeCall a b resolves) payload s o → MergedBy (PutsRevision f)
  of_merge does = subst (λ g. Planned (Merges f s.files g a b resolves payload) (Ended (PutsRevision f) s o)) (one_history f s.files s.log does.0 h does.1 is) does.2

  pub in_conflict : Steps f (MergeCall a b resolves) payload s o → ¬ IsNone d → o ≡ conflicted s (conflict_text l r d)
  in_conflict does some = left_in_conflict (PutsRevision f) (of_merge does) some

  module _ (ids : MakesIds f) (lawful : IsLawful f s) (none : IsNone d) (x : Id) (ux : IsUnborn h l r x) (within : IsWithinLimits f s h l r (result_of decisions x)) where
    lawful_rs : AreResolutions [] order.resolutions
    lawful_rs = lawful_given resolves payload order.resolutions order.given

    abbrev t : Tree
    t = result_of decisions x

    abbrev text : List ℕ
    text = merge_text f h l r t

    abbrev new : Id
    new = id_of (f text)

    abbrev u : Tree
    u = result_of decisions new

    abbrev p : ℕ
    p = order.decides.left

    abbrev q : ℕ
    q = order.decides.right

    pub text_ends : (ends : Ending) → MergedBy ends → ends text s o
    text_ends ends there = subst (Ended ends s o) (ap (λ z. merged_or z text) within.limits)
        (by_plan ends (merged_or (limit_refusal f h l r t) text) (record { conflicts = d; are = are; ends = inr (record { none = none; tree = t; makes = (x, ux, refl); is = refl }) }) there)

    -- ---- the limits

    parts : (too_many t ≡ None) × ((too_long t ≡ None) × (text_refusal text ≡ None))
    parts = planned.parts f s.files s.log h is a b order.sides order.merge order.decides order.resolutions order.before order.checked lawful_rs d are none x ux within.limits

    short : length text ≤ 67108864
    short = elim (cases_lt 67108864 (length text)) [
      | inl lt ↦ absurd (too_large lt)
      | inr le ↦ le
    ]
      where
        too_large : 67108864 < length text → ⊥
        too_large lt =
            let test : nat_lt 67108864 (length text) ≡ true = grind (arith, nat_tests) in
            let z : Some (TextTooLong (length text)) ≡ None = ap (λ w. if w then Some (TextTooLong (length text)) else None) (sym test) ∙ parts.1.1 in cc

    -- ---- a text that is held

    some_held : text_under s.log (f text) ≡ Some text → (k : ℕ) × (m : Logged) × (slice_get s.log k ≡ Some m) × (m.text ≡ text)
    some_held e = go (find (λ (m : Logged). same_bytes m.id (f text)) s.log) refl e
      where
        go : (z : Option Logged) → find (λ (m : Logged). same_bytes m.id (f text)) s.log ≡ z → option_map (λ (m : Logged). m.text) z ≡ Some text → (k : ℕ) × (m : Logged) × (slice_get s.log k ≡ Some m) × (m.text ≡ text)
        go None e g = absurd cc
        go (Some m) e g =
            let at = place_in s.log m (found (λ (m : Logged). same_bytes m.id (f text)) s.log m e).at in
            let k = taken s.log at.0 at.1 in
            (at.0, m, k.1 ∙ ap Some (sym (k.3 m) ∙ at.2 m), same_Some m.text text g)

    spelled_held : text_under s.log (f text) ≡ Some text → (read : Spelled) × Spells text read
    spelled_held e =
        let m = some_held e in
        let v = inside h m.0 (subst (λ n. m.0 < n) (sym is.long) ((got_at s.log m.0 m.1 m.2).0)) in
        let next = is.each m.0 m.1 v.0 m.2 v.1 in
        (next.read, subst (λ (x : List ℕ). Spells x next.read) m.3 next.spells)

    -- ---- a new text

    module _ (fresh : place_of h new ≡ None) where
      shown : IsMerged (tree_at h p) (tree_at h q) new (is_above h (Some l)) (is_above h (Some r)) u
      shown = planned.shown f s.files s.log h is a b order.sides order.merge order.decides order.resolutions order.before order.checked lawful_rs d are none x ux within.limits fresh

      held : (content : Id) → IsContentIn u content → IsSome (get s.files content.0)
      held = planned.held f s.files s.log h is a b order.sides order.merge order.decides order.resolutions order.before order.checked lawful_rs d are none x ux within.limits fresh

      spells : Spells text (merge_revision f h l r u)
      spells = planned.spells f s.files s.log h is a b order.sides order.merge order.decides order.resolutions order.before order.checked lawful_rs d are none x ux within.limits fresh
          (merge_stanzas f ids s.files lawful.files s.log h is l r p q u (id_of (f (spelling (manifest_of u)))) order.decides.at_left order.decides.at_right shown.sane held
          (let named = ids (spelling (manifest_of u)) in (named.twenty, named.bytes)))

      refusal_none : log_full h ≡ None → refusal_of f s.files h new (merge_revision f h l r u) ≡ None
      refusal_none = planned.refusal_none f s.files s.log h is a b order.sides order.merge order.decides order.resolutions order.before order.checked lawful_rs d are none x ux within.limits fresh

      revision : Revision
      revision = made h new (merge_edges h l r u)

      next : log_full h ≡ None → IsNext f s.files h (record { id = f text; text = text }) (made h new (merge_edges h l r u))
      next room = record { short = short; id = refl; fresh = fresh; read = merge_revision f h l r u; spells = spells; accepted = refusal_none room; made = refl }

      tree : made_tree h new (merge_edges h l r u) ≡ u
      tree = planned.tree f s.files s.log h is a b order.sides order.merge order.decides order.resolutions order.before order.checked lawful_rs d are none x ux within.limits fresh

      made_new : log_full h ≡ None → text_under s.log (f text) ≡ None → o ≡ unless None s (logged_beside None f s text) (id_line (f text)) → IsNewRevision f h decisions text o
      made_new room under e = record {
        status = ap (λ (z : Outcome). z.status) e;
        output = ap (λ (z : Outcome). z.output) e;
        revision = made h new (merge_edges h l r u);
        history = subst (λ (z : Outcome). IsHistory f z.state.files z.state.log (h ++ made h new (merge_edges h l r u) ∷ [])) (sym e)
            (history_more f s.files s.log h (record { id = f text; text = text }) (made h new (merge_edges h l r u)) is (next room));
        id = refl;
        tree = tree;
        sane = subst IsSane (sym tree) shown.sane;
      }

    -- ---- what is decided of the text

    no_long : {Z : Type 0} → 67108864 < length text → Z
    no_long lt = absurd (omega (arith, lt, short))

    readable : (v : Spelled) → Spells text v → (refusal : Option Cause) (after : State) → Decides f s text refusal after →
        (refusal ≡ refusal_beside (text_under s.log (f text)) f s.files h text v) × (after ≡ logged_beside (text_under s.log (f text)) f s text)
    readable v told refusal after (inl z) = no_long z.long
    readable v told refusal after (inr (inl z)) =
        absurd (no_cause z.cause (ap fault_cause (sym (no_revision_fault text v z.fault told.stanzas told.reads z.faulty)) ∙ z.named))
    readable v told refusal after (inr (inr z)) =
        let same = same_revision text z.read v z.spells.stanzas told.stanzas z.spells.reads told.reads in
        let one = one_history f s.files s.log z.history h z.spelled is in
        (z.is ∙ ap (λ (y : Spelled). refusal_beside (text_under s.log (f text)) f s.files z.history text y) same ∙ ap (λ (g : List Revision). refusal_beside (text_under s.log (f text)) f s.files g text v) one, z.after)

    pub put_merged : PutsRevision f text s o → IsMergedBy f s h decisions text o
    put_merged put = by within.room put
      where
        by : (text_under s.log (f text) ≡ Some text) ⊎ ((text_under s.log (f text) ≡ None) × (log_full h ≡ None)) → PutsRevision f text s o → IsMergedBy f s h decisions text o
        by (inl under) z =
            let there = spelled_held under in
            let told = readable there.0 there.1 z.refusal z.after z.decides in
            let refusal : z.refusal ≡ None = told.0 ∙ ap (λ v. refusal_beside v f s.files h text there.0) under ∙ ap (λ y. if y then None else Some (Collision (id_of (f text)))) ((bytes_decides text text).1 refl) in
            let after : z.after ≡ s = told.1 ∙ ap (λ v. logged_beside v f s text) under in
            inl (z.is ∙ ap (λ v. unless v s z.after (id_line (f text))) refusal ∙ ap (λ (y : State). unless None s y (id_line (f text))) after)
        by (inr under) z =
            let fresh = text_none f s.files s.log h (id_of (f text)) is under.0 in
            let told = readable (merge_revision f h l r u) (spells fresh) z.refusal z.after z.decides in
            let refusal : z.refusal ≡ None = told.0 ∙ ap (λ v. refusal_beside v f s.files h text (merge_revision f h l r u)) under.0 ∙ refusal_none fresh under.1 in
            let after : z.after ≡ logged_beside None f s text = told.1 ∙ ap (λ v. logged_beside v f s text) under.0 in
            inr (made_new fresh under.1 under.0 (z.is ∙ ap (λ v. unless v s z.after (id_line (f text))) refusal ∙ ap (λ (y : State). unless None s y (id_line (f text))) after))

    pub is_merged : Steps f (MergeCall a b resolves) payload s o → IsMergedBy f s h decisions text o
    is_merged does = put_merged (text_ends (PutsRevision f) (of_merge does))
