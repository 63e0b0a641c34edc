-- What a draft that has taken a text brings.
use Rattle.std.specs.Prelude.{IfSome, MatchBool}
use Rattle.std.specs.FinMap.{get-empty}
use Rattle.std.specs.Cmp.Lexicographic.{slice_cmp}
use Rattle.std.specs.Ordering.{nat_cmp}
use Rattle.std.proofs.Common.{◌≡◌, ℕ, Bool, true, false, List, Option, Some, None, Ok, Err, sym, ap, ◌∙◌, subst}
use Rattle.mtn_base.specs.declared.refusal.Cause.{Cause}
use Rattle.mtn_model.specs.State.{State}
use Rattle.mtn_model.specs.Table.{Contents, body_at}
use Rattle.mtn_ports.specs.Kept.{Same, with_all}
use Rattle.mtn_records.specs.Fields.{number_text}
use Rattle.mtn_history.specs.Stands.{IsNew, StandsFor}
use Rattle.mtn_history.specs.declared.errors.HistoryError.TheVariants.{Refused}
use Rattle.mtn_history.specs.declared.pending.Pending.{Pending}
use Rattle.mtn_put_revision.specs.Accepting.{KeepsRevision}
use Rattle.mtn_check_log.specs.Positions.{AreBroughtIn, IsTaken}
use Rattle.mtn_check_log.specs.declared.due.Records.{Records}

-- records among which there is one are not those of a new store
pub standing : (f : List ℕ → List ℕ) (d : Contents) (t : State) (table : ℕ) (key body : List ℕ) (b : Bool) → MatchBool b (IsNew d t) (StandsFor f d t) → body_at d table key ≡ Some body → StandsFor f d t
standing f d t table key body true new held =
    absurd (let both : Some body ≡ None = sym held ∙ ap (λ (e : Contents). body_at e table key) new.records ∙ get-empty (slice_cmp nat_cmp) key in cc)
standing f d t table key body false stands held = stands

pub brings : (f : List ℕ → List ℕ) (mid told : Option Contents) (p : Pending) (s : State) (r : ℕ) (text : List ℕ) (records : Records) (c : Contents) → Same mid told → told ≡ Some c →
    (mid ≡ Some c → KeepsRevision f c s text (Ok tt) p) → IfSome told (λ e. AreBroughtIn (with_all e p.batch) r records) →
    IsTaken f s r text (with_all c p.batch) (Ok (Some records))
brings f mid told p s r text records c same at keeps found =
    let k = keeps (same c at) in
    let here : AreBroughtIn (with_all c p.batch) r records = subst (λ o. IfSome o (λ e. AreBroughtIn (with_all e p.batch) r records)) at found in
    (k.0, k.1, standing f (with_all c p.batch) k.0 4 (number_text r) records.log.items p.is_new k.2.stands here.0, here)

pub refused_again : (f : List ℕ → List ℕ) (c : Contents) (s : State) (r : ℕ) (text : List ℕ) (cause : Cause) (p : Pending) → KeepsRevision f c s text (Err (Refused cause)) p → IsTaken f s r text (with_all c p.batch) (Ok None)
refused_again f c s r text cause p k = (cause, k.0, k.1)
