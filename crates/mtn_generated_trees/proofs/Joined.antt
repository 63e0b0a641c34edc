-- A merge of the tips is never refused but for a collision.
use Rattle.std.specs.Prelude.{bytes_eq, find, if◌then◌else◌, nat_le, option_map, slice_get}
use Rattle.std.specs.declared.cmp.Ordering.TheVariants.{Less}
use Rattle.std.proofs.lemmas.Bool.Decides.{nat_tests}
use Rattle.std.proofs.lemmas.Slice.Eq.{bytes_eq-Decides}
use Rattle.std.proofs.Common.{◌≡◌, ◌<◌, ◌≤◌, ◌^◌, ◌⊎◌, ℕ, Bool, true, false, List, [], ◌∷◌, ◌++◌, length, length-append, Option, Some, None, Ok, refl, sym, ◌∙◌, ap, subst, inl, inr, arith}
use Rattle.mtn_base.specs.Hex.{id_of}
use Rattle.mtn_base.specs.Names.{bytes_cmp, same_bytes}
use Rattle.mtn_base.specs.declared.id.Id.{Id}
use Rattle.mtn_base.specs.declared.refusal.Cause.{Cause}
use Rattle.mtn_base.specs.declared.refusal.Cause.TheVariants.{Collision, LogFull}
use Rattle.mtn_base.proofs.Finding.{found}
use Rattle.mtn_base.proofs.Members.{place_of as place_in, taken}
use Rattle.mtn_changes.specs.declared.change.Revision.{Revision as Spelled}
use Rattle.mtn_changes.specs.declared.error.ChangeTextError.TheVariants as error
use Rattle.mtn_changes.proofs.OneValue.{no_revision_fault, same_revision}
use Rattle.mtn_conflicts.specs.Result.{result_of}
use Rattle.mtn_generated.specs.Growing.{GrowthAnswer, Carries, MergesTips, PutsText, grown, grown_or}
use Rattle.mtn_generated.specs.Numbered.{Tips, tips_after}
use Rattle.mtn_generated.specs.Numbered.Work.{Joins}
use Rattle.mtn_history_laws.specs.History.{IsGrown, IsPlaceOf, Revision, revision_tree, tree_at}
use Rattle.mtn_merging.specs.MergeEdges.{merge_edges}
use Rattle.mtn_model.specs.State.{Logged, State}
use Rattle.mtn_order.specs.Free.{MakesIds}
use Rattle.mtn_planned_trees.proofs.Ordering.{lesser}
use Rattle.mtn_plans.specs.Plans.{Merges, Plan, merge_revision, merge_text, merged_or}
use Rattle.mtn_plans.specs.Sides.{left_of, right_of}
use Rattle.mtn_plans.specs.declared.outcome.MergeOutcome.TheVariants.{Merged}
use Rattle.mtn_replay.specs.Accepting.{Decides, fault_cause, logged_beside, refusal_beside}
use Rattle.mtn_replay.specs.Lawful.{IsHistory, IsLawful, IsNext, Spells}
use Rattle.mtn_replay.specs.Making.{log_full, made, place_of}
use Rattle.mtn_replay.specs.Texts.{text_under}
use Rattle.mtn_replay.proofs.Histories.{history_is_grown, history_more, last_at, one_history}
use Rattle.mtn_replay.proofs.Places.{no_place, place_has, within}
use Rattle.mtn_roster.specs.Tree.{Tree}
use Rattle.mtn_step_laws.proofs.Accepting.{text_none}
use Rattle.mtn_generated_trees.specs.Formed.{IsFormed}
use Rattle.mtn_generated_trees.specs.Joined.{AreAt, IsJoined, IsOneTip}
use Rattle.mtn_generated_trees.specs.Joining.{AreTips, MergesThem}
use Rattle.mtn_generated_trees.proofs.Apart.{may_merge}
use Rattle.mtn_generated_trees.proofs.Merging as merging
use Rattle.mtn_generated_trees.proofs.Planning.{IsPlanned, merges_them, places, planned}

no_cause : (c : Cause) → fault_cause error.NoMemory ≡ Some c → ⊥
no_cause c e = cc

-- the first place of an id that stands somewhere
found_place : (h : List Revision) → IsGrown h → (id : Id) (k : ℕ) → IsPlaceOf h id k → place_of h id ≡ Some k
found_place h grown id k at = by (place_of h id) refl
  where
    by : (o : Option ℕ) → place_of h id ≡ o → o ≡ Some k
    by None e = absurd (no_place h id e k at)
    by (Some q) e = ap Some (grown.differ id q k (place_has h id q e) at)

-- the text that a log has under an id
held_at : (log : List Logged) (id text : List ℕ) → text_under log id ≡ Some text → (k : ℕ) × (l : Logged) × (k < length log) × (slice_get log k ≡ Some l) × (l.text ≡ text)
held_at log id text e = by (find (λ (l : Logged). same_bytes l.id id) log) refl e
  where
    by : (o : Option Logged) → find (λ (l : Logged). same_bytes l.id id) log ≡ o → option_map (λ (l : Logged). l.text) o ≡ Some text → (k : ℕ) × (l : Logged) × (k < length log) × (slice_get log k ≡ Some l) × (l.text ≡ text)
    by None e g = absurd cc
    by (Some m) e g =
        let at = place_in log m (found (λ (l : Logged). same_bytes l.id id) log m e).at in
        let k = taken log at.0 at.1 in
        (at.0, m, at.1, k.1 ∙ ap Some (sym (k.3 m) ∙ at.2 m), (let y : m.text ≡ text = cc in y))

module _ (f : List ℕ → List ℕ) (ids : MakesIds f) (s : State) (law : IsLawful f s) (h : List Revision) (is : IsHistory f s.files s.log h) (room : length s.log < 2147483648)
    (tips : Tips) (p l r : ℕ) (at : AreAt h tips l r) (kin : AreTips h p l r) (i m k n : ℕ) (small : i < 2 ^ 64) (low : m < 2 ^ 64) (small_too : k < 2 ^ 64) (low_too : n < 2 ^ 64) (of_left : IsFormed f i m (tree_at h l)) (of_right : IsFormed f k n (tree_at h r)) where
  abbrev gr : IsGrown h
  gr = history_is_grown f s.files s.log h is

  abbrev a : Id
  a = left_of tips.left tips.right

  abbrev b : Id
  b = right_of tips.left tips.right

  module _ (plan : Plan) (u : IsPlanned h gr p l r kin tips.left tips.right at.left_at at.right_at f plan) where
    abbrev them : MergesThem h l r u.merge
    them = merges_them h gr p l r kin tips.left tips.right at.left_at at.right_at u.merge u.at

    abbrev result : Tree
    result = result_of u.merge u.x

    abbrev text : List ℕ
    text = merge_text f h a b result

    abbrev new : Id
    new = id_of (f text)

    abbrev revision : Spelled
    revision = merge_revision f h a b result

    sides : ((u.at.left ≡ l) × (u.at.right ≡ r)) ⊎ ((u.at.left ≡ r) × (u.at.right ≡ l))
    sides = places h gr p l r kin tips.left tips.right at.left_at at.right_at u.merge u.at

    plan_is : plan ≡ Ok (Merged text)
    plan_is = u.is ∙ ap (λ o. merged_or o text)
        (merging.limits f s h is p l r kin a b u.merge u.at them u.conflicts u.are u.none u.x u.unborn ids law.files i m k n small low small_too low_too sides of_left of_right)

    short : length text ≤ 67108864
    short = merging.short f s h is p l r kin a b u.merge u.at them u.conflicts u.are u.none u.x u.unborn ids law.files i m k n small low small_too low_too sides of_left of_right

    form : IsFormed f i n result
    form = merging.form f s h is p l r kin a b u.merge u.at them u.conflicts u.are u.none u.x u.unborn ids law.files i m k n small low small_too low_too sides of_left of_right

    up : bytes_cmp a.0 b.0 ≡ Less
    up = lesser h gr tips.left tips.right u.at.left u.at.at_left (may_merge h gr p l r kin tips.left tips.right at.left_at at.right_at)

    spells : Spells text revision
    spells = merging.spells f s h is p l r kin a b u.merge u.at them u.conflicts u.are u.none u.x u.unborn ids law.files up

    has_room : log_full h ≡ None
    has_room =
        let long = is.long in
        let test : nat_le 2147483648 (length h) ≡ false = grind (arith, nat_tests) in
        ap (λ t. if t then Some (LogFull (length h)) else None) test

    -- ---- what is decided of the text

    record IsTold (refusal : Option Cause) (after : State) : Type 0 where
      refused : refusal ≡ refusal_beside (text_under s.log (f text)) f s.files h text revision
      leaves : after ≡ logged_beside (text_under s.log (f text)) f s text

    told : (refusal : Option Cause) (after : State) → Decides f s text refusal after → IsTold refusal after
    told refusal after (inl z) = absurd (let long = z.long in let fits = short in omega (arith, long, fits))
    told refusal after (inr (inl z)) = absurd (no_cause z.cause (ap fault_cause (sym (no_revision_fault text revision z.fault spells.stanzas spells.reads z.faulty)) ∙ z.named))
    told refusal after (inr (inr z)) =
        let read : z.read ≡ revision = same_revision text z.read revision z.spells.stanzas spells.stanzas z.spells.reads spells.reads in
        let one : z.history ≡ h = one_history f s.files s.log z.history h z.spelled is in
        record { refused = z.is ∙ (λ x. refusal_beside (text_under s.log (f text)) f s.files (one x) text (read x)); leaves = z.after }

    abbrev one_tip : Tips
    one_tip = tips_after Joins new tips

    -- a new text ends the log
    added : place_of h new ≡ None → IsOneTip f i n s (grown (logged_beside None f s text) one_tip)
    added fresh = record { longer = omega (arith, length-append s.log (record { id = f text; text = text } ∷ [])); one = refl; last = refl; history = h ++ made h new (merge_edges h a b result) ∷ []; spelled = spelled; place = length h; at = there; form = subst (IsFormed f i n) (sym tree) form }
      where
        next : IsNext f s.files h (record { id = f text; text = text }) (made h new (merge_edges h a b result))
        next = record {
          short = short;
          id = refl;
          fresh = fresh;
          read = revision;
          spells = spells;
          accepted = merging.not_refused f s h is p l r kin a b u.merge u.at them u.conflicts u.are u.none u.x u.unborn ids law.files i m k n small low small_too low_too sides of_left of_right (no_place h new fresh) has_room;
          made = refl;
        }

        spelled : IsHistory f s.files (s.log ++ record { id = f text; text = text } ∷ []) (h ++ made h new (merge_edges h a b result) ∷ [])
        spelled = history_more f s.files s.log h (record { id = f text; text = text }) (made h new (merge_edges h a b result)) is next

        there : place_of (h ++ made h new (merge_edges h a b result) ∷ []) new ≡ Some (length h)
        there = found_place (h ++ made h new (merge_edges h a b result) ∷ []) (history_is_grown f s.files (s.log ++ record { id = f text; text = text } ∷ []) (h ++ made h new (merge_edges h a b result) ∷ []) spelled) new (length h)
            (made h new (merge_edges h a b result), last_at h (made h new (merge_edges h a b result)), refl)

        tree : tree_at (h ++ made h new (merge_edges h a b result) ∷ []) (length h) ≡ result
        tree = ap revision_tree (last_at h (made h new (merge_edges h a b result)))
            ∙ merging.new_tree f s h is p l r kin a b u.merge u.at them u.conflicts u.are u.none u.x u.unborn ids law.files i m k n small low small_too low_too sides of_left of_right (no_place h new fresh)

    -- a text that is held stays
    kept : text_under s.log (f text) ≡ Some text → IsOneTip f i n s (grown s one_tip)
    kept under =
        let q = held_at s.log (f text) text under in
        let lt = q.2 in
        let v = within h q.0 (let long = is.long in omega (arith, lt, long)) in
        let it = merging.held_tree f s h is p l r kin a b u.merge u.at them u.conflicts u.are u.none u.x u.unborn ids law.files i m k n small low small_too low_too sides of_left of_right up q.0 q.1 v.0 q.3 v.1 q.4 in
        record {
          longer = omega arith;
          one = refl;
          last = refl;
          history = h;
          spelled = is;
          place = q.0;
          at = found_place h gr new q.0 (v.0, v.1, it.0);
          form = subst (IsFormed f i n) (sym (ap revision_tree v.1 ∙ it.1)) form;
        }

    answered : (answer : GrowthAnswer) → PutsText f Joins tips s text answer → IsJoined f i n s answer
    answered answer put = by (text_under s.log (f text)) refl
      where
        t : IsTold put.refusal put.after
        t = told put.refusal put.after put.decides

        said : (o : Option Cause) (y : State) → put.refusal ≡ o → put.after ≡ y → answer ≡ grown_or o (grown y one_tip)
        said o y e g = put.is ∙ (λ x. grown_or (e x) (grown (g x) one_tip))

        by_bytes : (held : List ℕ) → text_under s.log (f text) ≡ Some held → (b : Bool) → bytes_eq held text ≡ b → IsJoined f i n s answer
        by_bytes held e true same =
            let is_text : held ≡ text = (bytes_eq-Decides held text).0 same in
            let none : put.refusal ≡ None = t.refused ∙ ap (λ o. refusal_beside o f s.files h text revision) e ∙ ap (λ q. if q then None else Some (Collision new)) same in
            let stays : put.after ≡ s = t.leaves ∙ ap (λ o. logged_beside o f s text) e in
            inl (grown s one_tip, said None s none stays, kept (e ∙ ap Some is_text))
        by_bytes held e false other =
            let some : put.refusal ≡ Some (Collision new) = t.refused ∙ ap (λ o. refusal_beside o f s.files h text revision) e ∙ ap (λ q. if q then None else Some (Collision new)) other in
            inr (new, said (Some (Collision new)) put.after some refl)

        by : (o : Option (List ℕ)) → text_under s.log (f text) ≡ o → IsJoined f i n s answer
        by (Some held) e = by_bytes held e (bytes_eq held text) refl
        by None e =
            let fresh = text_none f s.files s.log h new is e in
            let none : put.refusal ≡ None = t.refused ∙ ap (λ o. refusal_beside o f s.files h text revision) e
            ∙ merging.not_refused f s h is p l r kin a b u.merge u.at them u.conflicts u.are u.none u.x u.unborn ids law.files i m k n small low small_too low_too sides of_left of_right (no_place h new fresh) has_room in
            let more : put.after ≡ logged_beside None f s text = t.leaves ∙ ap (λ o. logged_beside o f s text) e in
            inl (grown (logged_beside None f s text) one_tip, said None (logged_beside None f s text) none more, added fresh)

  pub joined : (answer : GrowthAnswer) → MergesTips f Joins tips s answer → IsJoined f i n s answer
  joined answer does =
      let same = one_history f s.files s.log does.history h does.spelled is in
      let u = planned h gr p l r kin tips.left tips.right at.left_at at.right_at f s.files does.plan (subst (λ g. Merges f s.files g tips.left tips.right false [] does.plan) same does.planned) in
      answered does.plan u answer (subst (λ y. Carries f Joins tips s y answer) (plan_is does.plan u) does.carried)
