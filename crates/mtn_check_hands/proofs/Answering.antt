-- What a draft over the records below a position tells of the front there.
use Rattle.std.specs.Prelude.{IfOk, IfSome, slice_get}
use Rattle.std.proofs.Common.{◌≡◌, ◌<◌, ℕ, false, List, [], length, Option, Some, None, Result, Ok, Err, refl, sym, ap, ◌∙◌, subst}
use Rattle.mtn_model.specs.State.{State}
use Rattle.mtn_model.specs.Table.{Contents}
use Rattle.mtn_ports.specs.Kept.{with_all}
use Rattle.mtn_records.specs.declared.record.LogRecord.{LogRecord}
use Rattle.mtn_roster_deltas.specs.Chain.{Entries}
use Rattle.mtn_history.specs.Logs.{IsLogOf}
use Rattle.mtn_history.specs.Revisions.{Kept}
use Rattle.mtn_history.specs.Rosters.{Rebuilds}
use Rattle.mtn_history.specs.Stands.{IsFounded, StandsFor}
use Rattle.mtn_history.specs.declared.errors.StoreError.{StoreError}
use Rattle.mtn_history.specs.declared.pending.Pending.{Pending}
use Rattle.mtn_history.specs.Remembered.{RebuiltRoster}
use Rattle.mtn_put_revision.proofs.Grounds.{rebuilt_at}
use Rattle.mtn_check_laws.specs.Fronts.{Front, IsFrontAt}
use Rattle.mtn_check_laws.proofs.Cutting.{stands_walk}
use Rattle.mtn_check_laws.proofs.Sound.{to_end}
use Rattle.mtn_check_laws.proofs.Standing.{front_stands}
use Rattle.mtn_check_log.proofs.Accepted.{same_fronts}
use Rattle.mtn_check_log.proofs.Standing.{below_stands}
use Rattle.mtn_check_log.specs.Below.{below}
use Rattle.mtn_check_log.specs.Positions.{state_of}
use Rattle.mtn_check_records.specs.Reading.{IsHandOf}
use Rattle.mtn_check_hands.specs.Reading.{IsAnswer, IsAnswerBelow, front_with}
use Rattle.mtn_check_hands.specs.declared.asked.Answer.{Answer}
use Rattle.mtn_check_hands.specs.declared.asked.Asked.{Asked}

one_kept : (o : Option Kept) (a b : Kept) → o ≡ Some a → o ≡ Some b → a ≡ b
one_kept o a b x y = cc

-- a record of the log and what was rebuilt beside it
pub hand_is : (f : List ℕ → List ℕ) (told : Option Contents) (p : Pending) (s : State) (d : IsFounded f told p s) (at : ℕ) (log : LogRecord) (x : RebuiltRoster) (es : Entries) → es ≡ x.entries → at < p.count →
    IsLogOf d.stands.history d.stands.kept at log → IfSome told (λ c. Rebuilds (with_all c p.batch) at x) →
    IsHandOf (front_with s.log d.stands.history d.stands.kept) at (record { id = log.id; next = log.next_node; depth = x.depth; entries = es })
hand_is f told p s d at log x es all lt is made =
    let has = rebuilt_at f told p s d at x.entries x.roster x.depth lt made in
    let same : is.kept ≡ has.kept = one_kept (slice_get d.stands.kept at) is.kept has.kept is.beside has.there in
    let next : has.kept.next ≡ log.next_node = ap (λ (k : Kept). k.next) (sym same) ∙ sym is.next in
    record { revision = is.revision; made = is.stands; same = sym is.id; kept = has.there ∙ (λ i. Some (record { entries = (sym has.entries ∙ sym all) i; next = next i; depth = sym has.deep i })) }

-- a draft with nothing pending stands on what its keeper's records stand for
pub over_state : (f : List ℕ → List ℕ) (told : Option Contents) (c : Contents) (p : Pending) (s : State) (asked : Asked) (r : Result Answer StoreError) (stands : StandsFor f c s) → told ≡ Some c → p.batch ≡ [] → p.is_new ≡ false → p.count ≡ length s.log →
    ((g : List ℕ → List ℕ) (t : State) (d : IsFounded g told p t) → IfOk r (IsAnswer (front_with t.log d.stands.history d.stands.kept) asked)) → IfOk r (IsAnswer (front_with s.log stands.base.history stands.base.kept) asked)
over_state f told c p s asked r stands tells none old count found =
    let same : p ≡ record p { batch = []; is_new = false } = λ i. record p { batch = none i; is_new = old i } in
    let over = subst (λ (x : Pending). (g : List ℕ → List ℕ) (t : State) (d : IsFounded g told x t) → IfOk r (IsAnswer (front_with t.log d.stands.history d.stands.kept) asked)) same found in
    over f s (record { records = c; tells = tells; draft = record { count = count; stands = stands }; count = count; stands = stands.base })

-- what is told over the state that the records below a position stand for
abbrev pub OverState : Option Contents → ℕ → Asked → Result Answer StoreError → Type 0
OverState told n asked r = (f : List ℕ → List ℕ) (c : Contents) (s : State) (stands : StandsFor f (below n c) s) → told ≡ Some c → n ≡ length s.log → IfOk r (IsAnswer (front_with s.log stands.base.history stands.base.kept) asked)

below_front : (told : Option Contents) (at : ℕ) (asked : Asked) (r : Result Answer StoreError) → OverState told at asked r → IfSome told (λ c. IfOk r (IsAnswerBelow c at asked))
below_front None at asked r found = tt
below_front (Some c) at asked (Err e) found = tt
below_front (Some c) at asked (Ok a) found = λ f n front begun walked.
    let stands = front_stands f c at front walked in
    let shown : StandsFor f (below at c) (state_of c front) = below_stands f c at front stands n begun in
    let shown_front : Front = front_with front.log shown.base.history shown.base.kept in
    let again : IsFrontAt f (below at c) at shown_front = subst (λ m. IsFrontAt f (below at c) m shown_front) stands.long (stands_walk f (below at c) (length front.log) shown_front (to_end f (below at c) (state_of c front) shown)) in
    let same : front ≡ shown_front = same_fronts f c (below at c) refl at front shown_front walked again refl in
    subst (λ (x : Front). IsAnswer x asked a) (sym same) (found f c (state_of c front) shown refl (sym stands.long))

pub below_front_at : (told : Option Contents) (n at : ℕ) (asked : Asked) (r : Result Answer StoreError) → n ≡ at → OverState told n asked r → IfSome told (λ c. IfOk r (IsAnswerBelow c at asked))
below_front_at told n at asked r same found = below_front told at asked r (subst (λ m. OverState told m asked r) same found)
