-- A commit does what putting its text does, and a merge of heads what a merge of the two least does.
use Rattle.std.proofs.Common.{◌≡◌, ℕ, Bool, List, [], ◌∷◌, Option, Some, None, Ok, Err, inl, inr, refl, ap, ◌∙◌, subst}
use Rattle.mtn_base.specs.Hex.{id_of}
use Rattle.mtn_base.specs.declared.id.Id.{Id}
use Rattle.mtn_base.specs.declared.refusal.Cause.{Cause}
use Rattle.mtn_changeset_laws.specs.Changes.{or_else}
use Rattle.mtn_history_laws.specs.History.{Revision}
use Rattle.mtn_model.specs.Outcome.{Outcome}
use Rattle.mtn_model.specs.State.{State}
use Rattle.mtn_plans.specs.Plans.{IsUnborn, Merges, Plan, merge_text}
use Rattle.mtn_plans.specs.declared.outcome.MergeOutcome.TheVariants.{Conflicted, Merged}
use Rattle.mtn_replay.specs.Lawful.{IsHistory, IsLawful}
use Rattle.mtn_replay.proofs.Histories.{one_history}
use Rattle.mtn_step.specs.Certifying.{AreHeads, merge_said, said_certs, said_refusal, with_certs}
use Rattle.mtn_step.specs.Step.{conflict_text, conflicted, done, id_line, refused, unless, Commits, Ended, HeadsMerged, Planned, PutsRevision, Steps}
use Rattle.mtn_step.specs.declared.call.Call.TheVariants.{Merge, MergeHeads}
use Rattle.mtn_step.specs.declared.call.Said.{Said}
use Rattle.mtn_step_laws.proofs.Outcomes.{one_heads}
use Rattle.mtn_conflicts.specs.declared.lists.Conflicts.{Conflicts}
use Rattle.mtn_conflicts.specs.Lists.{AreConflictsOf, IsNone}
use Rattle.mtn_conflicts.specs.Result.{result_of}
use Rattle.mtn_decide.specs.Decisions.{Merge as Decided}
use Rattle.mtn_model.specs.declared.status.Status.TheVariants as status
use Rattle.mtn_order.specs.Free.{MakesIds}
use Rattle.mtn_plans.specs.Sides.{left_of, right_of}
use Rattle.mtn_resolve.specs.Overriding.{overridden}
use Rattle.mtn_headline.specs.Merging.{IsMergeInOrder, IsMergedBy, IsWithinLimits}
use Rattle.mtn_headline.specs.Saying.{IsSaidToo}
use Rattle.mtn_headline.proofs.Merged.{left_in_conflict, put_merged, text_ends}

module _ (f : List ℕ → List ℕ) (said : Said) (s : State) (o : Outcome) where
  pub commit_is : (text : List ℕ) → Commits f said text s o → (m : Outcome) × PutsRevision f text s m × IsSaidToo said (id_of (f text)) s m o
  commit_is text does = (unless does.refusal s does.after (id_line (f text)), record { refusal = does.refusal; after = does.after; decides = does.decides; is = refl }, by does.refusal does.is)
    where
      by : (r : Option Cause) → o ≡ unless (or_else r (said_refusal said)) s (with_certs does.after (said_certs (id_of (f text)) said)) (id_line (f text)) →
          IsSaidToo said (id_of (f text)) s (unless r s does.after (id_line (f text))) o
      by None e = record { fails = λ other. absurd (other refl); answers = λ ok. refl; holds = λ ok. e }
      by (Some cause) e = record { fails = λ other. e; answers = λ ok. absurd cc; holds = λ ok. absurd cc }

  abbrev Without : (Outcome → Type 0) → Type 0
  Without Does = (m : Outcome) × (id : Id) × Does m × IsSaidToo said id s m o

  -- an outcome that is not Ok
  other : (m : Outcome) → o ≡ m → (m.status ≡ status.Ok → ⊥) → IsSaidToo said (id_of []) s m o
  other m e not = record { fails = λ n. e; answers = λ ok. absurd (not ok); holds = λ ok. absurd (not ok) }

  ended_is : (plan : Plan) → Ended (Commits f said) s o plan → Without (λ m. Ended (PutsRevision f) s m plan)
  ended_is (Err cause) e = (refused cause s, id_of [], refl, other (refused cause s) e (λ ok. cc))
  ended_is (Ok (Conflicted l r d)) e = (conflicted s (conflict_text l r d), id_of [], refl, other (conflicted s (conflict_text l r d)) e (λ ok. cc))
  ended_is (Ok (Merged text)) e = let m = commit_is text e in (m.0, id_of (f text), m.1, m.2)

  pub planned_is : (Is : Plan → Type 0) → Planned Is (Ended (Commits f said) s o) → Without (λ m. Planned Is (Ended (PutsRevision f) s m))
  planned_is Is e = let m = ended_is e.0 e.2 in (m.0, m.1, (e.0, e.1, m.2), m.3)

module _ (f : List ℕ → List ℕ) (s : State) (h : List Revision) (branch author date : List ℕ) (key : Id) (resolves : Bool) (payload : List ℕ) (l r : Id) (rest : List Id) (o : Outcome)
    (is : IsHistory f s.files s.log h) (heads : AreHeads s h branch (l ∷ r ∷ rest)) (does : Steps f (MergeHeads branch author date key resolves) payload s o) where
  abbrev said : Said
  said = merge_said key author branch date l r

  -- a merge of the two least
  of_least : Planned (Merges f s.files h l r resolves payload) (Ended (Commits f said) s o)
  of_least =
      let there = subst (λ g. (ids : List Id) × AreHeads s g branch ids
      × HeadsMerged (λ left right. Merges f s.files g left right resolves payload) (λ left right. Commits f (merge_said key author branch date left right)) s o ids) (one_history f s.files s.log does.0 h does.1 is) does.2 in
      subst (HeadsMerged (λ left right. Merges f s.files h left right resolves payload) (λ left right. Commits f (merge_said key author branch date left right)) s o)
      (one_heads s h branch there.0 (l ∷ r ∷ rest) there.1 heads) there.2

  pub merge_heads_is : (m : Outcome) × (id : Id) × Steps f (Merge l r resolves) payload s m × IsSaidToo said id s m o
  merge_heads_is = let m = planned_is f said s o (Merges f s.files h l r resolves payload) of_least in (m.0, m.1, (h, is, m.2), m.3)

  module _ (order : IsMergeInOrder s h l r resolves payload) (d : Conflicts) (are : AreConflictsOf (overridden order.resolutions order.merge) d) where
    abbrev decisions : Decided
    decisions = overridden order.resolutions order.merge

    pub heads_in_conflict : ¬ IsNone d → o ≡ conflicted s (conflict_text (left_of l r) (right_of l r) d)
    heads_in_conflict some = left_in_conflict f s h l r resolves payload o is order d are (Commits f said) of_least some

    abbrev text : Id → List ℕ
    text x = merge_text f h (left_of l r) (right_of l r) (result_of decisions x)

    pub heads_merged : MakesIds f → IsLawful f s → IsNone d → (x : Id) → IsUnborn h (left_of l r) (right_of l r) x → IsWithinLimits f s h (left_of l r) (right_of l r) (result_of decisions x) → said_refusal said ≡ None →
        (m : Outcome) × IsMergedBy f s h decisions (text x) m × (o ≡ done (with_certs m.state (said_certs (id_of (f (text x))) said)) m.output)
    heads_merged ids lawful none x ux within short =
        let commits = text_ends f s h l r resolves payload o is order d are ids lawful none x ux within (Commits f said) of_least in
        let m = commit_is f said s o (text x) commits in
        let merged = put_merged f s h l r resolves payload m.0 is order d are ids lawful none x ux within m.1 in
        (m.0, merged, m.2.holds (is_ok m.0 merged) ∙ ap (λ q. unless q s (with_certs m.0.state (said_certs (id_of (f (text x))) said)) m.0.output) short)
      where
        is_ok : (m : Outcome) → IsMergedBy f s h decisions (text x) m → m.status ≡ status.Ok
        is_ok m (inl e) = ap (λ (z : Outcome). z.status) e
        is_ok m (inr new) = new.status
