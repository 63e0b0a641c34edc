-- A command has one outcome.
use Rattle.std.proofs.Common.{◌≡◌, ℕ, Bool, List, [], ◌∷◌, Option, Some, None, Ok, Err, sym, ap, ◌∙◌, subst}
use Rattle.mtn_model.specs.State.{State}
use Rattle.mtn_replay.specs.Lawful.{IsLawful}
use Rattle.mtn_step.specs.declared.call.Call.{Call}
use Rattle.mtn_step.specs.declared.call.Call.TheVariants.{PutFile, PutRevision, GetFile, GetRevision, GetManifestOf, GetRoster, GetContentChanged, GetCorrespondingPath, Ask, Graph, Merge, ShowConflicts, Cert, Certs, Key, Heads, Branches, Commit, MergeHeads, Packets, Read, Generate, Check, Migrate}
use Rattle.mtn_history_laws.specs.History.{Revision}
use Rattle.mtn_replay.proofs.Histories.{one_history}
use Rattle.mtn_answers.specs.Views.{TextAnswer}
use Rattle.mtn_answers.specs.Views.{IsContentChanged, IsRoster, corresponding_at, manifest_at}
use Rattle.mtn_answers.proofs.Unique.{one_content, one_roster}
use Rattle.mtn_model.specs.Outcome.{Outcome}
use Rattle.mtn_step.specs.Certifying.{AreBranches, AreHeads, certs_text, merge_said, value_lines}
use Rattle.mtn_step.specs.Step.{Asked, Commits, Ended, Ending, Graphed, HeadsMerged, Listed, OfHistory, Planned, PutsRevision, Shown, Steps, Viewed, done, id_lines, line_text, not_migrated, refused, told}
use Rattle.std.specs.List.{flat_map}
use Rattle.mtn_base.specs.declared.id.Id.{Id}
use Rattle.mtn_plans.specs.Plans.{Looks, Merges, Plan}
use Rattle.mtn_plans.specs.declared.outcome.MergeOutcome.TheVariants.{Conflicted, Merged}
use Rattle.mtn_replay.specs.Lawful.{IsHistory}
use Rattle.mtn_replay.specs.Texts.{text_under}
use Rattle.mtn_answers.specs.Queries.{IsProperlyAbove}
use Rattle.mtn_base.specs.Ids.{by_id}
use Rattle.mtn_base.specs.Names.{bytes_cmp}
use Rattle.mtn_base.proofs.IdOrder.{by_id_total}
use Rattle.mtn_base.proofs.Orders.{bytes_total}
use Rattle.mtn_branches.specs.Branches.{IsBranch, IsHead, IsMember}
use Rattle.mtn_branches.proofs.HeadLemmas.{one_list_by}
use Rattle.mtn_certs.specs.Order.{cert_cmp}
use Rattle.mtn_certs.proofs.Certs.{certs_total}
use Rattle.mtn_model.specs.State.{Holds}
use Rattle.mtn_step.specs.declared.call.Said.{Said}
use Rattle.mtn_step_laws.proofs.Decided.{one_commit, one_decided}
use Rattle.mtn_exports.specs.Exports.{IsExported}
use Rattle.mtn_exports.proofs.Sending.{one_export}
use Rattle.mtn_key_table_laws.proofs.Given.{one_table}
use Rattle.mtn_step_laws.proofs.Generating.{one_generated}
use Rattle.mtn_step_laws.proofs.OneGeneration.{one_of}
use Rattle.mtn_step_laws.proofs.OneImport.{one_reading}
use Rattle.mtn_step_laws.proofs.OnePlan.{one_looked, one_plan}
use Rattle.mtn_answers.proofs.Orders.{one_answer, one_graph}
use Rattle.mtn_answers.specs.declared.query.Query.{Query}
use Rattle.mtn_answers.specs.Queries.{first_unknown, ids_of}

-- over one history a query is answered once
one_asked : (h : List Revision) (query : Query) (s : State) (unknown : Option Id) (o p : Outcome) → Asked h query s unknown o → Asked h query s unknown p → o ≡ p
one_asked h query s (Some id) o p is also = is ∙ sym also
one_asked h query s None o p is also = is.2 ∙ ap (λ ids. done s (id_lines ids)) (one_answer h query is.0 also.0 is.1 also.1) ∙ sym also.2

one_graphed : (h : List Revision) (s : State) (o p : Outcome) → Graphed h s o → Graphed h s p → o ≡ p
one_graphed h s o p is also = is.2 ∙ ap (λ lines. done s (flat_map line_text lines)) (one_graph h is.0 also.0 is.1 also.1) ∙ sym also.2

-- the log spells one history
of_one : (f : List ℕ → List ℕ) (s : State) (P Q : List Revision → Type 0) → OfHistory f s P → OfHistory f s Q → (h : List Revision) × P h × Q h
of_one f s P Q is also = (is.0, is.2, subst Q (sym (one_history f s.files s.log is.0 also.0 is.1 also.1)) also.2)

-- a question has one outcome, where it has one answer over a history
one_viewed : (f : List ℕ → List ℕ) (s : State) (Is : List Revision → TextAnswer → Type 0) (o p : Outcome) → ((h : List Revision) (a b : TextAnswer) → Is h a → Is h b → a ≡ b) →
    OfHistory f s (λ h. Viewed (Is h) s o) → OfHistory f s (λ h. Viewed (Is h) s p) → o ≡ p
one_viewed f s Is o p one is also =
    let both = of_one f s (λ h. Viewed (Is h) s o) (λ h. Viewed (Is h) s p) is also in
    both.1.2 ∙ ap (told s) (one both.0 both.1.0 both.2.0 both.1.1 both.2.1) ∙ sym both.2.2

-- a text comes to one thing
one_put : (f : List ℕ → List ℕ) (text : List ℕ) (s : State) (o p : Outcome) → PutsRevision f text s o → PutsRevision f text s p → o ≡ p
one_put f text s o p is also = is.is ∙ one_decided f s text is.refusal also.refusal is.after also.after is.decides also.decides ∙ sym also.is

-- a plan is carried out in one way
one_ended : (ends : Ending) → ((text : List ℕ) (s : State) (o p : Outcome) → ends text s o → ends text s p → o ≡ p) → (s : State) (o p : Outcome) (plan : Plan) → Ended ends s o plan → Ended ends s p plan → o ≡ p
one_ended ends one s o p (Err cause) is also = is ∙ sym also
one_ended ends one s o p (Ok (Conflicted l r c)) is also = is ∙ sym also
one_ended ends one s o p (Ok (Merged text)) is also = one text s o p is also

one_shown : (s : State) (o p : Outcome) (plan : Plan) → Shown s o plan → Shown s p plan → o ≡ p
one_shown s o p (Err cause) is also = is ∙ sym also
one_shown s o p (Ok (Conflicted l r c)) is also = is ∙ sym also
one_shown s o p (Ok (Merged text)) is also = absurd is

-- over one history there is one plan
one_carried : (Is Does Also : Plan → Type 0) (o p : Outcome) → ((v w : Plan) → Is v → Is w → v ≡ w) → ((plan : Plan) → Does plan → Also plan → o ≡ p) → Planned Is Does → Planned Is Also → o ≡ p
one_carried Is Does Also o p one then is also = then is.0 is.2 (subst Also (one also.0 is.0 also.1 is.1) also.2)

both_histories : (f : List ℕ → List ℕ) (s : State) (P Q : List Revision → Type 0) → OfHistory f s P → OfHistory f s Q → (h : List Revision) × IsHistory f s.files s.log h × (P h × Q h)
both_histories f s P Q is also = (is.0, is.1, (is.2, subst Q (sym (one_history f s.files s.log is.0 also.0 is.1 also.1)) also.2))

-- a set has one list of the certificates of a revision
one_listed : (s : State) (id : Id) (o p : Outcome) (held : Option (List ℕ)) → Listed s id o held → Listed s id p held → o ≡ p
one_listed s id o p None is also = is ∙ sym also
one_listed s id o p (Some text) is also =
    is.2 ∙ ap (λ certs. done s (certs_text s certs)) (one_list_by cert_cmp certs_total (λ c. Holds s.certs c × (c.revision ≡ id)) is.0 also.0 is.1 also.1) ∙ sym also.2

one_branches : (s : State) (o p : Outcome) → (branches : List (List ℕ)) × AreBranches s branches × (o ≡ done s (value_lines branches)) → (branches : List (List ℕ)) × AreBranches s branches × (p ≡ done s (value_lines branches)) → o ≡ p
one_branches s o p is also = is.2 ∙ ap (λ branches. done s (value_lines branches)) (one_list_by bytes_cmp bytes_total (IsBranch (Holds s.certs)) is.0 also.0 is.1 also.1) ∙ sym also.2

-- a branch has one list of heads
pub one_heads : (s : State) (h : List Revision) (branch : List ℕ) (a b : List Id) → AreHeads s h branch a → AreHeads s h branch b → a ≡ b
one_heads s h branch a b is also = one_list_by by_id by_id_total (IsHead (IsProperlyAbove h) (IsMember (Holds s.certs) branch)) a b is also

abbrev Headed : List ℕ → (List Id → Outcome → Type 0) → List Revision → State → Outcome → Type 0
Headed branch Does h s o = (ids : List Id) × AreHeads s h branch ids × Does ids o

of_heads : (f : List ℕ → List ℕ) (s : State) (branch : List ℕ) (Does : List Revision → List Id → Outcome → Type 0) (o p : Outcome) → ((h : List Revision) (ids : List Id) → IsHistory f s.files s.log h → Does h ids o → Does h ids p → o ≡ p) →
    OfHistory f s (λ h. Headed branch (Does h) h s o) → OfHistory f s (λ h. Headed branch (Does h) h s p) → o ≡ p
of_heads f s branch Does o p one is also =
    let t = both_histories f s (λ h. Headed branch (Does h) h s o) (λ h. Headed branch (Does h) h s p) is also in
    let a = t.2.0 in
    let b = t.2.1 in
    one t.0 a.0 t.1 a.2 (subst (λ ids. Does t.0 ids p) (one_heads s t.0 branch b.0 a.0 b.1 a.1) b.2)

one_merged : (f : List ℕ → List ℕ) (s : State) (h : List Revision) (resolves : Bool) (payload : List ℕ) (said : Id → Id → Said) (ids : List Id) (o p : Outcome) → IsHistory f s.files s.log h →
    HeadsMerged (λ l r. Merges f s.files h l r resolves payload) (λ l r. Commits f (said l r)) s o ids → HeadsMerged (λ l r. Merges f s.files h l r resolves payload) (λ l r. Commits f (said l r)) s p ids → o ≡ p
one_merged f s h resolves payload said [] o p history is also = is ∙ sym also
one_merged f s h resolves payload said (head ∷ []) o p history is also = is ∙ sym also
one_merged f s h resolves payload said (l ∷ r ∷ rest) o p history is also =
    one_carried (Merges f s.files h l r resolves payload) (Ended (Commits f (said l r)) s o) (Ended (Commits f (said l r)) s p) o p (one_plan f s.files s.log h history l r resolves payload)
    (one_ended (Commits f (said l r)) (one_commit f (said l r)) s o p) is also

-- one line a command
pub one_of_step : (f : List ℕ → List ℕ) (s : State) (call : Call) (payload : List ℕ) (o p : Outcome) → IsLawful f s → Steps f call payload s o → Steps f call payload s p → o ≡ p
one_of_step f s PutFile payload o p lawful is also = is ∙ sym also
one_of_step f s PutRevision payload o p lawful is also = is.is ∙ one_decided f s payload is.refusal also.refusal is.after also.after is.decides also.decides ∙ sym also.is
one_of_step f s (GetFile id) payload o p lawful is also = is ∙ sym also
one_of_step f s (GetRevision id) payload o p lawful is also = is ∙ sym also
one_of_step f s (GetManifestOf id) payload o p lawful is also = one_viewed f s (λ h answer. answer ≡ manifest_at h id) o p (λ h a b x y. x ∙ sym y) is also
one_of_step f s (GetRoster id) payload o p lawful is also = one_viewed f s (λ h answer. IsRoster h id answer) o p (λ h a b x y. one_roster h id a b x y) is also
one_of_step f s (GetContentChanged id path) payload o p lawful is also = one_viewed f s (λ h answer. IsContentChanged h id path answer) o p (λ h a b x y. one_content h id path a b x y) is also
one_of_step f s (GetCorrespondingPath id path other) payload o p lawful is also = one_viewed f s (λ h answer. answer ≡ corresponding_at h id path other) o p (λ h a b x y. x ∙ sym y) is also
one_of_step f s (Ask query) payload o p lawful is also =
    let one = of_one f s (λ h. Asked h query s (first_unknown h (ids_of query)) o) (λ h. Asked h query s (first_unknown h (ids_of query)) p) is also in
    one_asked one.0 query s (first_unknown one.0 (ids_of query)) o p one.1 one.2
one_of_step f s Graph payload o p lawful is also =
    let one = of_one f s (λ h. Graphed h s o) (λ h. Graphed h s p) is also in
    one_graphed one.0 s o p one.1 one.2
one_of_step f s (Merge a b resolves) payload o p lawful is also =
    let t = both_histories f s (λ h. Planned (Merges f s.files h a b resolves payload) (Ended (PutsRevision f) s o)) (λ h. Planned (Merges f s.files h a b resolves payload) (Ended (PutsRevision f) s p)) is also in
    one_carried (Merges f s.files t.0 a b resolves payload) (Ended (PutsRevision f) s o) (Ended (PutsRevision f) s p) o p (one_plan f s.files s.log t.0 t.1 a b resolves payload) (one_ended (PutsRevision f) (one_put f) s o p) t.2.0 t.2.1
one_of_step f s (ShowConflicts a b) payload o p lawful is also =
    let t = both_histories f s (λ h. Planned (Looks h a b) (Shown s o)) (λ h. Planned (Looks h a b) (Shown s p)) is also in
    one_carried (Looks t.0 a b) (Shown s o) (Shown s p) o p (one_looked f s.files s.log t.0 t.1 a b) (one_shown s o p) t.2.0 t.2.1
one_of_step f s (Cert revision name key value signature) payload o p lawful is also = is ∙ sym also
one_of_step f s (Certs id) payload o p lawful is also = one_listed s id o p (text_under s.log id.0) is also
one_of_step f s (Key id name) payload o p lawful is also = is ∙ sym also
one_of_step f s (Heads branch) payload o p lawful is also = of_heads f s branch (λ h ids q. q ≡ done s (id_lines ids)) o p (λ h ids history x y. x ∙ sym y) is also
one_of_step f s Branches payload o p lawful is also = one_branches s o p is also
one_of_step f s (Commit said) payload o p lawful is also = one_commit f said payload s o p is also
one_of_step f s (MergeHeads branch author date key resolves) payload o p lawful is also =
    let said = merge_said key author branch date in
    of_heads f s branch (λ h ids q. HeadsMerged (λ l r. Merges f s.files h l r resolves payload) (λ l r. Commits f (said l r)) s q ids) o p (λ h ids history x y. one_merged f s h resolves payload said ids o p history x y) is also
one_of_step f s (Packets id have) payload o p lawful is also = one_viewed f s (λ h answer. IsExported s h id have answer) o p (λ h a b x y. one_export s h id have a b x y) is also
one_of_step f s Read payload o p lawful is also = one_reading f payload s o p is also
one_of_step f s (Generate n) payload o p lawful is also = one_generated n s o p is.0 also.0 (one_of f n s is.0 also.0 is.1 also.1) is.2 also.2
one_of_step f s Check payload o p lawful is also = is ∙ sym also
one_of_step f s Migrate payload o p lawful is also = is.2 ∙ ap (λ given. refused (not_migrated given) s) (one_table payload is.0 also.0 is.1 also.1) ∙ sym also.2
