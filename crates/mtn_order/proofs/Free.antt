-- No command but three depends on the order of the log.
use Rattle.std.specs.FinMap.{get}
use Rattle.std.proofs.Common.{◌≡◌, ℕ, List, false, refl, sym, ap, ◌∙◌, subst}
use Rattle.mtn_base.specs.declared.refusal.Cause.TheVariants.{UnknownFile, UnknownRevision}
use Rattle.mtn_model.specs.Outcome.{Outcome}
use Rattle.mtn_step.specs.Step.{found, id_line, not_migrated, refused, unless, PutsRevision, Steps}
use Rattle.mtn_step.specs.declared.call.Call.{Call}
use Rattle.mtn_step.specs.declared.call.Call.TheVariants.{PutFile, PutRevision, GetFile, GetRevision, GetManifestOf, GetRoster, GetContentChanged, GetCorrespondingPath, Ask, Graph, Merge, ShowConflicts, Cert, Certs, Key, Heads, Branches, Commit, MergeHeads, Packets, Read, Generate, Check, Migrate}
use Rattle.mtn_step_laws.proofs.Outcomes.{one_of_step}
use Rattle.mtn_replay.specs.Files.{file_refusal, with_file}
use Rattle.mtn_replay.specs.Texts.{text_under}
use Rattle.mtn_model.specs.State.{State}
use Rattle.mtn_renaming.specs.Order.{IsSameUpToOrder}
use Rattle.mtn_answers.specs.Views.{corresponding_at, manifest_at, IsContentChanged, IsRoster}
use Rattle.mtn_step.specs.Certifying.{merge_said, signature_of}
use Rattle.mtn_order.specs.Free.{in_log_order, IsOrderFree, IsSameOutcome, KeepsIds}
use Rattle.mtn_order.proofs.Certs.{branches_there, certified_there, commits_free, heads_free, listed_there, merges_heads_free, named_there}
use Rattle.mtn_order.proofs.Framing.{asked_free, graphed_free, is_outcome, same_found, same_refused, same_unless, viewed_free}
use Rattle.mtn_order.proofs.Generating.{checks_free, generates_free}
use Rattle.mtn_order.proofs.Importing.{reading_free}
use Rattle.mtn_order.proofs.Plans.{merge_free, shows_free}
use Rattle.mtn_order.proofs.Revisions.{puts_free}
use Rattle.mtn_order.proofs.States.{same_file_refusal, same_with_file}
use Rattle.mtn_order.proofs.Texts.{same_text}
use Rattle.mtn_order.proofs.Views.{kept_content, kept_roster, same_corresponding, same_manifest}

-- one line a command
pub step_free : (f : List ℕ → List ℕ) (call : Call) (payload : List ℕ) → in_log_order call ≡ false → KeepsIds f call → IsOrderFree f (Steps f call payload)
step_free f PutFile payload free ids s t o same does =
    let line = id_line (f payload) in
    let r = file_refusal f s payload in
    let p = unless r t (with_file f t payload) line in
    (p, ap (λ q. unless q t (with_file f t payload) line) (sym (same_file_refusal f s t payload same)), is_outcome f o (unless r s (with_file f s payload) line) p does (same_unless f s t same r (with_file f s payload) (with_file f t payload) line (same_with_file f s t payload same)))
step_free f PutRevision payload free ids s t o same does = puts_free f payload s t o same does
step_free f (GetFile id) payload free ids s t o same does =
    let held = get s.files id.0 in
    let p = found (UnknownFile id) t held in
    (p, ap (λ files. found (UnknownFile id) t (get files id.0)) same.files, is_outcome f o (found (UnknownFile id) s held) p does (same_found f s t same (UnknownFile id) held))
step_free f (GetRevision id) payload free ids s t o same does =
    let held = text_under s.log id.0 in
    let p = found (UnknownRevision id) t held in
    (p, ap (found (UnknownRevision id) t) (sym (same_text f t.files t.log same.other.history same.other.log s.log id.0 same.texts)), is_outcome f o (found (UnknownRevision id) s held) p does (same_found f s t same (UnknownRevision id) held))
step_free f (GetManifestOf id) payload free ids s t o same does =
    viewed_free f (λ h answer. answer ≡ manifest_at h id) (λ h g to back is answer e. e ∙ sym (same_manifest h g to back is id)) s t o same does
step_free f (GetRoster id) payload free ids s t o same does =
    viewed_free f (λ h answer. IsRoster h id answer) (λ h g to back is answer e. kept_roster h g to back is id answer e) s t o same does
step_free f (GetContentChanged id path) payload free ids s t o same does =
    viewed_free f (λ h answer. IsContentChanged h id path answer) (λ h g to back is answer e. kept_content h g to back is id path answer e) s t o same does
step_free f (GetCorrespondingPath id path other) payload free ids s t o same does =
    viewed_free f (λ h answer. answer ≡ corresponding_at h id path other) (λ h g to back is answer e. e ∙ sym (same_corresponding h g to back is id path other)) s t o same does
step_free f (Ask query) payload free ids s t o same does = asked_free f query free s t o same does
step_free f Graph payload free ids s t o same does = graphed_free f s t o same does
step_free f (Merge a b resolves) payload free ids s t o same does = merge_free f a b resolves payload (PutsRevision f) (puts_free f) s t o same does
step_free f (ShowConflicts a b) payload free ids s t o same does = shows_free f a b s t o same does
step_free f (Cert revision name key value signature) payload free ids s t o same does = certified_there f s t same revision key name value (signature_of signature) o ids.0.0 ids.0.1 does
step_free f (Certs id) payload free ids s t o same does = listed_there f s t same id o does
step_free f (Key id name) payload free ids s t o same does = named_there f s t same id name o ids.0 does
step_free f (Heads branch) payload free ids s t o same does = heads_free f branch s t o same does
step_free f Branches payload free ids s t o same does = branches_there f s t same o does
step_free f (Commit said) payload free ids s t o same does = commits_free f said payload (ids.1 refl payload) ids.0 s t o same does
step_free f (MergeHeads branch author date key resolves) payload free ids s t o same does =
    merges_heads_free f (ids.1 refl) (merge_said key author branch date) (λ l r. ids.0) resolves payload branch s t o same does
step_free f (Packets id have) payload free ids s t o same does = absurd (let e = free in cc)
step_free f Read payload free ids s t o same does = reading_free f payload s t o same does
step_free f (Generate n) payload free ids s t o same does = generates_free f n s t o same does
step_free f Check payload free ids s t o same does = checks_free f s t o same does
step_free f Migrate payload free ids s t o same does =
    let cause = not_migrated does.0 in
    (refused cause t, (does.0, does.1, refl), is_outcome f o (refused cause s) (refused cause t) does.2 (same_refused f s t same cause))

-- so any two outcomes are the same
pub steps_same : (f : List ℕ → List ℕ) (call : Call) (payload : List ℕ) → in_log_order call ≡ false → KeepsIds f call → (s t : State) (o p : Outcome) → IsSameUpToOrder f s t → Steps f call payload s o → Steps f call payload t p → IsSameOutcome f o p
steps_same f call payload free ids s t o p same does also =
    let q = step_free f call payload free ids s t o same does in
    subst (IsSameOutcome f o) (one_of_step f t call payload q.0 p same.other q.1 also) q.2
