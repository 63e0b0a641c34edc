-- A command has an outcome.
use Rattle.std.proofs.Common.{◌≡◌, ℕ, Bool, List, [], ◌∷◌, Option, Some, None, Ok, Err, refl}
use Rattle.mtn_answers.specs.Queries.{first_unknown, ids_of}
use Rattle.mtn_answers.specs.Views.{TextAnswer, IsContentChanged, IsRoster, corresponding_at, manifest_at}
use Rattle.mtn_answers.specs.declared.query.Query.{Query}
use Rattle.mtn_answers.proofs.Existing.{some_answer, some_graph}
use Rattle.mtn_answers.proofs.MarksExist.{some_content, some_roster}
use Rattle.mtn_base.specs.declared.id.Id.{Id}
use Rattle.mtn_base.specs.declared.refusal.Cause.{Cause}
use Rattle.mtn_history_laws.specs.History.{Revision, IsGrown}
use Rattle.mtn_model.specs.Outcome.{Outcome}
use Rattle.mtn_model.specs.State.{State}
use Rattle.mtn_replay.specs.Lawful.{IsLawful}
use Rattle.mtn_replay.specs.Texts.{text_under}
use Rattle.mtn_replay.proofs.Histories.{history_is_grown}
use Rattle.mtn_plans.specs.Plans.{Looks, LooksAtSides, Merges, Plan, Unless}
use Rattle.mtn_plans.specs.Sides.{left_of, right_of, side_refusal}
use Rattle.mtn_plans.specs.declared.outcome.MergeOutcome.TheVariants.{Conflicted, Merged}
use Rattle.mtn_answers.specs.Queries.{IsProperlyAbove}
use Rattle.mtn_answers.proofs.Deciding.{tell_properly}
use Rattle.mtn_step.specs.Certifying.{AreHeads, merge_said}
use Rattle.mtn_key_table_laws.proofs.Given.{some_table}
use Rattle.mtn_step.specs.Step.{Asked, Commits, Ended, Ending, HeadsMerged, Listed, OfHistory, PutsRevision, Shown, Steps, Viewed, told}
use Rattle.mtn_step.specs.declared.call.Said.{Said}
use Rattle.mtn_step.specs.declared.call.Call.{Call}
use Rattle.mtn_step.specs.declared.call.Call.TheVariants.{PutFile, PutRevision, GetFile, GetRevision, GetManifestOf, GetRoster, GetContentChanged, GetCorrespondingPath, Ask, Graph, Merge, ShowConflicts, Cert, Certs, Key, Heads, Branches, Commit, MergeHeads, Packets, Read, Generate, Check, Migrate}
use Rattle.mtn_step_laws.proofs.Generating.{some_generated}
use Rattle.mtn_step_laws.proofs.SomeGeneration.{some_of}
use Rattle.mtn_step_laws.proofs.CertLists.{some_branches, some_certs, some_heads}
use Rattle.mtn_exports.specs.Exports.{IsExported}
use Rattle.mtn_exports.proofs.Sending.{some_export}
use Rattle.mtn_step_laws.proofs.SomeDecision.{some_decision}
use Rattle.mtn_step_laws.proofs.SomeImport.{some_reading}
use Rattle.mtn_step_laws.proofs.SomePlan.{some_looked, some_plan}

module _ (f : List ℕ → List ℕ) (s : State) (lawful : IsLawful f s) where
  grown : IsGrown lawful.history
  grown = history_is_grown f s.files s.log lawful.history lawful.log

  viewed : (Is : List Revision → TextAnswer → Type 0) → (answer : TextAnswer) × Is lawful.history answer → (o : Outcome) × OfHistory f s (λ h. Viewed (Is h) s o)
  viewed Is answer = (told s answer.0, (lawful.history, lawful.log, (answer.0, answer.1, refl)))

  asked : (query : Query) → (unknown : Option Id) → first_unknown lawful.history (ids_of query) ≡ unknown → (o : Outcome) × Asked lawful.history query s unknown o
  asked query (Some id) e = (_, refl)
  asked query None e = let answer = some_answer lawful.history grown query e in (_, (answer.0, answer.1, refl))

  some_put : (text : List ℕ) → (o : Outcome) × PutsRevision f text s o
  some_put text = let d = some_decision f s lawful text in (_, record { refusal = d.0; after = d.1; decides = d.2; is = refl })

  some_commit : (said : Said) (text : List ℕ) → (o : Outcome) × Commits f said text s o
  some_commit said text = let d = some_decision f s lawful text in (_, record { refusal = d.0; after = d.1; decides = d.2; is = refl })

  some_ended : (ends : Ending) → ((text : List ℕ) → (o : Outcome) × ends text s o) → (plan : Plan) → (o : Outcome) × Ended ends s o plan
  some_ended ends some (Err cause) = (_, refl)
  some_ended ends some (Ok (Conflicted l r c)) = (_, refl)
  some_ended ends some (Ok (Merged text)) = some text

  some_shown : (a b : Id) (plan : Plan) → Looks lawful.history a b plan → (o : Outcome) × Shown s o plan
  some_shown a b (Err cause) is = (_, refl)
  some_shown a b (Ok (Conflicted l r c)) is = (_, refl)
  some_shown a b (Ok (Merged text)) is = absurd (no_text (side_refusal lawful.history a b) is)
    where
      no_text : (o : Option Cause) → Unless o (LooksAtSides lawful.history (left_of a b) (right_of a b)) (Ok (Merged text)) → ⊥
      no_text (Some c) e = cc
      no_text None e = let z = e.is in cc

  some_listed : (id : Id) (held : Option (List ℕ)) → (o : Outcome) × Listed s id o held
  some_listed id None = (_, refl)
  some_listed id (Some text) = let list = some_certs s.certs id in (_, (list.0, list.1, refl))

  heads : (branch : List ℕ) → (ids : List Id) × AreHeads s lawful.history branch ids
  heads branch = some_heads s.certs (IsProperlyAbove lawful.history) (tell_properly lawful.history grown) branch

  some_merged : (resolves : Bool) (payload : List ℕ) (said : Id → Id → Said) (ids : List Id) →
      (o : Outcome) × HeadsMerged (λ l r. Merges f s.files lawful.history l r resolves payload) (λ l r. Commits f (said l r)) s o ids
  some_merged resolves payload said [] = (_, refl)
  some_merged resolves payload said (head ∷ []) = (_, refl)
  some_merged resolves payload said (l ∷ r ∷ rest) =
      let plan = some_plan f s.files lawful.history grown l r resolves payload in
      let o = some_ended (Commits f (said l r)) (some_commit (said l r)) plan.0 in
      (o.0, (plan.0, plan.1, o.1))

  pub some_of_step : (call : Call) (payload : List ℕ) → (o : Outcome) × Steps f call payload s o
  some_of_step PutFile payload = (_, refl)
  some_of_step PutRevision payload = some_put payload
  some_of_step (GetFile id) payload = (_, refl)
  some_of_step (GetRevision id) payload = (_, refl)
  some_of_step (GetManifestOf id) payload = viewed (λ h answer. answer ≡ manifest_at h id) (manifest_at lawful.history id, refl)
  some_of_step (GetRoster id) payload = viewed (λ h answer. IsRoster h id answer) (some_roster lawful.history grown id)
  some_of_step (GetContentChanged id path) payload = viewed (λ h answer. IsContentChanged h id path answer) (some_content lawful.history grown id path)
  some_of_step (GetCorrespondingPath id path other) payload = viewed (λ h answer. answer ≡ corresponding_at h id path other) (corresponding_at lawful.history id path other, refl)
  some_of_step (Ask query) payload = let a = asked query (first_unknown lawful.history (ids_of query)) refl in (a.0, (lawful.history, lawful.log, a.1))
  some_of_step Graph payload = let g = some_graph lawful.history grown in (_, (lawful.history, lawful.log, (g.0, g.1, refl)))
  some_of_step (Merge a b resolves) payload =
      let plan = some_plan f s.files lawful.history grown a b resolves payload in
      let o = some_ended (PutsRevision f) some_put plan.0 in
      (o.0, (lawful.history, lawful.log, (plan.0, plan.1, o.1)))
  some_of_step (ShowConflicts a b) payload =
      let plan = some_looked f s.files lawful.history grown a b in
      let o = some_shown a b plan.0 plan.1 in
      (o.0, (lawful.history, lawful.log, (plan.0, plan.1, o.1)))
  some_of_step (Cert revision name key value signature) payload = (_, refl)
  some_of_step (Certs id) payload = some_listed id (text_under s.log id.0)
  some_of_step (Key id name) payload = (_, refl)
  some_of_step (Heads branch) payload = let ids = heads branch in (_, (lawful.history, lawful.log, (ids.0, ids.1, refl)))
  some_of_step Branches payload = let branches = some_branches s.certs in (_, (branches.0, branches.1, refl))
  some_of_step (Commit said) payload = some_commit said payload
  some_of_step (MergeHeads branch author date key resolves) payload =
      let ids = heads branch in
      let o = some_merged resolves payload (merge_said key author branch date) ids.0 in
      (o.0, (lawful.history, lawful.log, (ids.0, ids.1, o.1)))
  some_of_step (Packets id have) payload = viewed (λ h answer. IsExported s h id have answer) (some_export f s lawful.history lawful.log (λ x. some_certs s.certs x) id have)
  some_of_step Read payload = some_reading f s payload lawful
  some_of_step (Generate n) payload = let answer = some_of f n s lawful in let o = some_generated n s answer.0 in (o.0, (answer.0, answer.1, o.1))
  some_of_step Check payload = (_, refl)
  some_of_step Migrate payload = let given = some_table payload in (_, (given.0, given.1, refl))
