-- What is told of a position, as its verdict.
use Rattle.std.specs.Prelude.{IfErr, IfOk, IfSome, OnOk, bytes_eq, not}
use Rattle.std.proofs.lemmas.Slice.Eq.{bytes_eq-Decides}
use Rattle.std.proofs.Common.{◌≡◌, ℕ, Bool, true, false, List, ◌++◌, length, Option, Some, None, Result, Ok, Err, refl, sym, ap, ◌∙◌, subst, inr}
use Rattle.mtn_model.specs.State.{State}
use Rattle.mtn_model.specs.Table.{Contents}
use Rattle.mtn_ports.specs.Kept.{Same}
use Rattle.mtn_records.specs.Fields.{number_text}
use Rattle.mtn_records.specs.declared.record.LogRecord.{LogRecord}
use Rattle.mtn_history.specs.Errors.{IfDamage}
use Rattle.mtn_history.specs.Stands.{StandsFor}
use Rattle.mtn_history.specs.declared.memory.Memory.{Memory}
use Rattle.mtn_history.specs.declared.errors.Damage.{Damage}
use Rattle.mtn_history.specs.declared.errors.Damage.TheVariants.{Bad}
use Rattle.mtn_history.specs.declared.errors.StoreError.{StoreError}
use Rattle.mtn_history.specs.declared.errors.StoreError.TheVariants.{Failed, Damaged, NoMemory}
use Rattle.mtn_check_laws.specs.FirstDamage.{IsBegun, IsDamageAt}
use Rattle.mtn_check_laws.specs.Fronts.{Front, IsFrontAt}
use Rattle.mtn_check_laws.proofs.Standing.{front_stands}
use Rattle.mtn_check_log.specs.Below.{below}
use Rattle.mtn_check_log.specs.Positions.{state_of, IsAgain, IsEntryAt, IsKnownBehind, IsMisplaced, IsOtherAt, IsRecordOf, IsRight, IsSameAt, IsTextOf, IsUntold, IsWrong}
use Rattle.mtn_check_log.specs.declared.due.Due.{Due}
use Rattle.mtn_check_log.proofs.Showing.{both_told}
use Rattle.mtn_check_log.proofs.Standing.{below_stands}
use Rattle.mtn_check_log.proofs.Verdicts.{untold_damage, other_id, refused, right, known, other}

-- bytes that were told apart
pub differs : (ne : Bool) (a b : List ℕ) → ne ≡ true → ne ≡ not (bytes_eq a b) → a ≡ b → ⊥
differs ne a b is test same = let both : true ≡ false = sym is ∙ test ∙ ap not ((bytes_eq-Decides a b).1 same) in cc

-- of a damage, or of none
pub map_damage : (e : StoreError) (P Q : Damage → Type 0) → ((d : Damage) → P d → Q d) → IfDamage e P → IfDamage e Q
map_damage Failed P Q f p = tt
map_damage (Damaged d) P Q f p = f d p
map_damage NoMemory P Q f p = tt

abbrev pub AreWrong : (List ℕ → List ℕ) → ℕ → StoreError → Contents → Type 0
AreWrong f r e c = IfDamage e (λ d. (n : ℕ) → IsWrong f c n r d)

pub told_untold : (f : List ℕ → List ℕ) (old new : Option Contents) (r : ℕ) (entry : LogRecord) (log : List ℕ) (e : StoreError) → Same old new → IfSome old (λ c. IsEntryAt c r entry log) →
    IfSome new (λ c. IfDamage e (IsUntold c r entry.id.0 log)) → IfSome new (AreWrong f r e)
told_untold f old new r entry log e same at wrong =
    both_told old new (λ c. IsEntryAt c r entry log) (λ c. IfDamage e (IsUntold c r entry.id.0 log)) (AreWrong f r e) same
    (λ c is bad. map_damage e (IsUntold c r entry.id.0 log) (λ d. (n : ℕ) → IsWrong f c n r d) (λ d untold n begun front walked. untold_damage f c n r begun front walked entry log is d untold) bad) at wrong

both_of : (told : Option Contents) (P Q R : Contents → Type 0) → ((c : Contents) → P c → Q c → R c) → IfSome told P → IfSome told Q → IfSome told R
both_of None P Q R f p q = tt
both_of (Some c) P Q R f p q = f c p q

pub told_misplaced : (f : List ℕ → List ℕ) (told : Option Contents) (r : ℕ) (entry : LogRecord) (log body : List ℕ) (e : StoreError) → IfSome told (λ c. IsEntryAt c r entry log) →
    IfSome told (λ c. IsRecordOf c r entry.id.0 body) → ((text : List ℕ) → body ≡ number_text r ++ text → ⊥) → IfDamage e (λ d. d ≡ Bad 3 entry.id.0 body) → IfSome told (AreWrong f r e)
told_misplaced f told r entry log body e at stands none bad =
    both_of told (λ c. IsEntryAt c r entry log) (λ c. IsRecordOf c r entry.id.0 body) (AreWrong f r e)
    (λ c is held. map_damage e (λ d. d ≡ Bad 3 entry.id.0 body) (λ d. (n : ℕ) → IsWrong f c n r d)
    (λ d shown n begun front walked. untold_damage f c n r begun front walked entry log is d (inr (held.new, subst (IsMisplaced c r entry.id.0) (sym shown) (refl, refl, held.held, none)))) bad)
    at stands

-- what accepting the text again comes to, over any state that what is shown stands for
abbrev pub IsOver : (List ℕ → List ℕ) → Option Contents → ℕ → List ℕ → Result (Option Due) StoreError → Type 0
IsOver f told r text result = (c : Contents) (s : State) → told ≡ Some c → StandsFor f (below r c) s → r ≡ length s.log → IsAgain f s r text result

-- so over the state of the front
over_front : (f : List ℕ → List ℕ) (told : Option Contents) (r : ℕ) (text : List ℕ) (result : Result (Option Due) StoreError) → IsOver f told r text result →
    (c : Contents) → told ≡ Some c → (n : ℕ) → IsBegun f c n → (front : Front) → IsFrontAt f c r front → IsAgain f (state_of c front) r text result
over_front f told r text result over c at n begun front walked =
    let stands = front_stands f c r front walked in over c (state_of c front) at (below_stands f c r front stands n begun) (sym stands.long)

pub told_never : (f : List ℕ → List ℕ) (told : Option Contents) (r : ℕ) (text : List ℕ) (e : StoreError) → IsOver f told r text (Err e) → IfSome told (AreWrong f r e)
told_never f None r text e over = tt
told_never f (Some c) r text Failed over = tt
told_never f (Some c) r text NoMemory over = tt
told_never f (Some c) r text (Damaged d) over = λ n begun front walked. absurd (over_front f (Some c) r text (Err (Damaged d)) over c refl n begun front walked)

module _ (f : List ℕ → List ℕ) (r : ℕ) (entry : LogRecord) (log body text : List ℕ) where
  abbrev pub Entered : Contents → Type 0
  Entered c = IsEntryAt c r entry log

  abbrev pub Spelled : Contents → Type 0
  Spelled c = IsTextOf c r entry.id.0 body text

  pub told_other_id : (told : Option Contents) (e : StoreError) → IfSome told Entered → IfSome told Spelled → (f text ≡ entry.id.0 → ⊥) → IfDamage e (λ d. d ≡ Bad 3 entry.id.0 body) → IfSome told (AreWrong f r e)
  told_other_id told e at found never shown =
      both_of told Entered Spelled (AreWrong f r e)
      (λ c is held. map_damage e (λ d. d ≡ Bad 3 entry.id.0 body) (λ d. (n : ℕ) → IsWrong f c n r d)
      (λ d same n begun front walked. subst (IsDamageAt f c r front) (sym same) (other_id f c n r begun front walked entry log is body text held never)) shown)
      at found

  module _ (own : entry.id.0 ≡ f text) where
    pub told_refused : (old new : Option Contents) (e : StoreError) → Same old new → IfSome old Entered → IfSome old Spelled → IsOver f new r text (Ok None) → IfDamage e (λ d. d ≡ Bad 3 entry.id.0 body) → IfSome new (AreWrong f r e)
    told_refused old None e same at found over shown = tt
    told_refused old (Some c) e same at found over shown =
        let is : Entered c = subst (λ o. IfSome o Entered) (same c refl) at in
        let held : Spelled c = subst (λ o. IfSome o Spelled) (same c refl) found in
        map_damage e (λ d. d ≡ Bad 3 entry.id.0 body) (λ d. (n : ℕ) → IsWrong f c n r d)
        (λ d bad_is n begun front walked. let k = over_front f (Some c) r text (Ok None) over c refl n begun front walked in
        subst (IsDamageAt f c r front) (sym bad_is) (refused f c n r begun front walked entry log is body text held own k.0 k.1 k.2)) shown

    module _ (due : Due) (old mid : Option Contents) (same : Same old mid) (at : IfSome old Entered) (found : IfSome old Spelled) (over : IsOver f mid r text (Ok (Some due))) where
      right_of : (c : Contents) → mid ≡ Some c → IsSameAt c r log due.records → (n : ℕ) → IsRight f c n r
      right_of c told is n begun front walked =
          let entered : Entered c = subst (λ o. IfSome o Entered) (same c told) at in
          let held : Spelled c = subst (λ o. IfSome o Spelled) (same c told) found in
          let k = over_front f mid r text (Ok (Some due)) over c told n begun front walked in
          right f c n r begun front walked entry log entered body text held own due.records k.0 k.1 k.2 k.3 k.4.0.0 k.4.0.1 is

      wrong_of : (c : Contents) → mid ≡ Some c → (d : Damage) → IsOtherAt c r log due.records d → (n : ℕ) → IsWrong f c n r d
      wrong_of c told d is n begun front walked =
          let entered : Entered c = subst (λ o. IfSome o Entered) (same c told) at in
          let held : Spelled c = subst (λ o. IfSome o Spelled) (same c told) found in
          let k = over_front f mid r text (Ok (Some due)) over c told n begun front walked in
          other f c n r begun front walked entry log entered body text held own due.records k.0 k.1 k.2 k.3 k.4.0.0 k.4.0.1 d is

      known_of : (c : Contents) → mid ≡ Some c → IsSameAt c r log due.records → (n : ℕ) → IsKnownBehind f c n r due.memory
      known_of c told is n begun front walked =
          let entered : Entered c = subst (λ o. IfSome o Entered) (same c told) at in
          let held : Spelled c = subst (λ o. IfSome o Spelled) (same c told) found in
          let k = over_front f mid r text (Ok (Some due)) over c told n begun front walked in
          known f c n r begun front walked entry log entered body text held own due.records k.0 k.1 k.2 k.3 k.4.0.0 k.4.0.1 is due.memory k.4.1

      pub told_known : (new : Option Contents) (result : Result Memory StoreError) → Same mid new → IfSome new (λ c. OnOk result (IsSameAt c r log due.records)) → IfOk result (λ m. m ≡ due.memory) →
          IfSome new (λ c. IfOk result (λ m. (n : ℕ) → IsKnownBehind f c n r m))
      told_known None result later is memory = tt
      told_known (Some c) (Err e) later is memory = tt
      told_known (Some c) (Ok m) later is memory = subst (λ x. (n : ℕ) → IsKnownBehind f c n r x) (sym memory) (known_of c (later c refl) is)

      pub told_right : (new : Option Contents) (result : Result Memory StoreError) → Same mid new → IfSome new (λ c. OnOk result (IsSameAt c r log due.records)) → IfSome new (λ c. OnOk result ((n : ℕ) → IsRight f c n r))
      told_right None result later is = tt
      told_right (Some c) (Err e) later is = tt
      told_right (Some c) (Ok done) later is = right_of c (later c refl) is

      pub told_wrong : (new : Option Contents) (result : Result Memory StoreError) → Same mid new → IfSome new (λ c. IfErr result (λ e. IfDamage e (IsOtherAt c r log due.records))) →
          IfSome new (λ c. IfErr result (λ e. AreWrong f r e c))
      told_wrong None result later is = tt
      told_wrong (Some c) (Ok done) later is = tt
      told_wrong (Some c) (Err e) later is = map_damage e (IsOtherAt c r log due.records) (λ d. (n : ℕ) → IsWrong f c n r d) (λ d o. wrong_of c (later c refl) d o) is
