use Rattle.std.proofs.Common.{◌≡◌, Err, Ok, refl, sym, ap, ◌∙◌, subst}
use Rattle.std.proofs.lemmas.Result.{err_from_is_err_and}
use Rattle.mtn_base.specs.declared.refusal.Cause.TheVariants.{UnknownRevision}
use Rattle.mtn_basic_io.specs.Spelling.{spelling}
use Rattle.mtn_history_laws.specs.History.{tree_at}
use Rattle.mtn_manifest.specs.Manifest.{manifest_of}
use Rattle.mtn_marking.specs.Marking.{MarkedTree}
use Rattle.mtn_roster.specs.Tree.{Tree}
use Rattle.mtn_answers.specs.Views.{over}
use Rattle.mtn_roster_queries.specs.Answers.{Gives}
use Rattle.mtn_answers.specs.Views.{manifest_at}
use Rattle.mtn_roster_queries.proofs.Views.{not_found, answer_at}
use Rattle.mtn_roster_queries.proofs.manifest.get_manifest_of.Goals as goal

pub returns-in_err-held-clause-found : goal.returns-in_err-held-clause-found
returns-in_err-held-clause-found g c f s d =
    let h = d.stands.history in
    let id = c.args.id in
    let p = err_from_is_err_and c.from_residual.result c.from_residual.ensures.1 in
    subst (Gives (λ answer. answer ≡ manifest_at h id)) (sym (p.1 ∙ ap Err p.2))
    (not_found h id (λ o answer. answer ≡ over (UnknownRevision id) o (λ r. Ok (spelling (manifest_of (tree_at h r))))) refl c.in_err-held.field-0.0 (c.in_err-held.ensures.found f s d))

pub returns-clause-found : goal.returns-clause-found
returns-clause-found g c f s d =
    let h = d.stands.history in
    let id = c.args.id in
    let found = c.in_ok-held.ensures.found f s d in
    answer_at h id (λ o answer. answer ≡ over (UnknownRevision id) o (λ r. Ok (spelling (manifest_of (tree_at h r))))) c.in_ok-held.field-0-0 (Ok c.in_ok-text_of.field-0) found.0
    (ap Ok (c.in_ok-text_of.ensures ∙ ap (λ (t : Tree). spelling (manifest_of t)) (c.roster.ensures.tree ∙ ap (λ (x : MarkedTree). x.tree) c.marked.ensures ∙ sym found.1.tree)))
