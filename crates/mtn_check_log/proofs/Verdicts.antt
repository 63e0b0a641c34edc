-- What is found at a position comes to a step of the walk, or to the first damage there.
use Rattle.std.specs.List.{flat_map}
use Rattle.std.specs.Prelude.{IsSome}
use Rattle.std.proofs.Common.{◌≡◌, ◌<◌, ℕ, ◌+◌, suc, List, [], ◌∷◌, ◌++◌, length, drop, Option, Some, None, refl, sym, ap, ◌∙◌, subst, inl, inr, add-one, arith}
use Rattle.std.proofs.lemmas.List.{drop_at}
use Rattle.mtn_ancestry.specs.Log.{list_of}
use Rattle.mtn_base.specs.Hex.{id_of}
use Rattle.mtn_base.specs.declared.id.Id.{Id}
use Rattle.mtn_history_laws.specs.History.{Revision, IsGrown}
use Rattle.mtn_model.specs.State.{Logged, State}
use Rattle.mtn_model.specs.Table.{Contents, body_at}
use Rattle.mtn_records.specs.Bounds.{IsLogAt, IsRosterAt}
use Rattle.mtn_records.specs.Fields.{id_text, number_text}
use Rattle.mtn_records.specs.Records.{byte_text, log_text, roster_text}
use Rattle.mtn_records.specs.declared.record.LogRecord.{LogRecord}
use Rattle.mtn_records.specs.declared.record.RosterRecord.{RosterRecord}
use Rattle.mtn_replay.specs.Accepting.{Decides}
use Rattle.mtn_replay.specs.Lawful.{IsNext}
use Rattle.mtn_replay.specs.Making.{place_of}
use Rattle.mtn_replay.specs.Texts.{text_under}
use Rattle.mtn_replay.proofs.Histories.{history_is_grown, history_more}
use Rattle.mtn_replay.proofs.Places.{within, inside}
use Rattle.mtn_history.specs.Memory.{Knows}
use Rattle.mtn_history.specs.declared.memory.Memory.{Memory}
use Rattle.mtn_history.specs.Logs.{IsLogged, RepeatedAt}
use Rattle.mtn_history.specs.Revisions.{Kept, IsRosterOf}
use Rattle.mtn_history.specs.Stands.{StandsFor}
use Rattle.mtn_history.specs.declared.errors.Damage.{Damage}
use Rattle.mtn_history.specs.declared.errors.Damage.TheVariants.{Bad, Missing}
use Rattle.mtn_history.proofs.PlaceLemmas.{placed_is}
use Rattle.mtn_history.proofs.TextLemmas.{text_missing}
use Rattle.mtn_check_laws.specs.FirstDamage.{IsBegun, IsDamageAt, at_log, at_text, at_telling, at_roster, TextDamageAt}
use Rattle.mtn_check_laws.specs.Fronts.{Front, Step, with_step, IsEntered, IsTextAt, IsTold, IsKeptNext, IsFrontAt, IsStepAt, StandsTo}
use Rattle.mtn_check_laws.specs.Sets.{HaveSets}
use Rattle.mtn_check_laws.proofs.Due.{due_sets, front_sets, one_due}
use Rattle.mtn_check_laws.proofs.Rosters.{one_kept}
use Rattle.mtn_check_laws.proofs.Standing.{front_stands}
use Rattle.mtn_check_laws.proofs.Walks.{one_body, one_log}
use Rattle.mtn_check_log.specs.Below.{below}
use Rattle.mtn_check_log.specs.Positions.{state_of, IsEntryAt, IsMisplaced, IsOtherAt, IsSameAt, IsTextOf, IsUntold}
use Rattle.mtn_check_log.specs.declared.due.Records.{Records}
use Rattle.mtn_check_log.proofs.Accepted.{due_step, never_refused, taken}
use Rattle.mtn_check_log.proofs.Carrying.{known_too}
use Rattle.mtn_check_log.proofs.Standing.{below_stands, short, text_only}

module _ (f : List ℕ → List ℕ) (c : Contents) (n r : ℕ) (begun : IsBegun f c n) (front : Front) (walked : IsFrontAt f c r front) where
  stands : StandsTo f c r front
  stands = front_stands f c r front walked

  shown : StandsFor f (below r c) (state_of c front)
  shown = below_stands f c r front stands n begun

  -- an id whose text is not shown is new
  pub fresh : (id : Id) → body_at (below r c) 3 id.0 ≡ None → place_of front.history id ≡ None
  fresh id none =
      sym (placed_is f (c 2) (below r c 3) front.log front.history stands.spelled shown.base.texts (below r c) refl r (let s = short f c r front stands in omega (arith, s)) (sym stands.long) id None [] none)

  pub untold : (id : List ℕ) → body_at (below r c) 3 id ≡ None → text_under front.log id ≡ None
  untold id none = text_missing front.log (below r c 3) id shown.base.texts none

  module _ (entry : LogRecord) (log : List ℕ) (at : IsEntryAt c r entry log) where
    logged : IsLogged c r entry
    logged = record { body = log; held = at.held; text = at.formed }

    entered : body_at (below r c) 3 entry.id.0 ≡ None → IsEntered c r front entry
    entered none = record { logged = logged; fresh = fresh entry.id none }

    -- an earlier revision has the id
    repeated : (body : List ℕ) → body_at (below r c) 3 entry.id.0 ≡ Some body → RepeatedAt c r (Bad 4 (number_text r) log)
    repeated body there =
        let o = text_only f c r front stands entry.id.0 body there in
        let lt : o.0 < length front.log = inside front.log o.0 o.1 o.2 in
        let v = within front.history o.0 (omega (arith, lt, stands.spelled.long)) in
        let k = within front.kept o.0 (omega (arith, lt, stands.spelled.long, stands.revisions.long)) in
        let b = stands.log o.0 v.0 k.0 v.1 k.1 in
        let named : v.0.id ≡ entry.id = ap (λ (x : Revision). x.id) (stands.spelled.each o.0 o.1 v.0 o.2 v.1).made ∙ ap id_of o.3 in
        (refl, refl, at.held, (entry, at.formed, (o.0, record { id = v.0.id; next_node = k.0.next; parents = b.2.parents }, omega (arith, lt, stands.long), record { body = b.0; held = b.1; text = b.2.text }, named)))

    misplaced : (d : Damage) → IsMisplaced c r entry.id.0 d → TextDamageAt f c r front entry d
    misplaced (Bad table key body) is = (is.0, is.1, ap (body_at c 3) is.1 ∙ is.2, λ l v same spelled next. is.3 l.text spelled)
    misplaced (Missing table key) is = (is.0, is.1, ap (body_at c 3) is.1 ∙ is.2)

    some_body : (o : Option (List ℕ)) → IsSome o → (body : List ℕ) × (o ≡ Some body)
    some_body None is = absurd cc
    some_body (Some body) is = (body, refl)

    -- no text was found
    pub untold_damage : (d : Damage) → IsUntold c r entry.id.0 log d → IsDamageAt f c r front d
    untold_damage d (inl is) = let b = some_body (body_at (below r c) 3 entry.id.0) is.0 in subst (IsDamageAt f c r front) (sym is.1) (at_log (inr (repeated b.0 b.1)))
    untold_damage d (inr is) = at_text entry (entered is.0) (misplaced d is.1)

    module _ (body text : List ℕ) (found : IsTextOf c r entry.id.0 body text) where
      held : body_at c 3 entry.id.0 ≡ Some (number_text r ++ text)
      held = found.held ∙ ap Some found.placed

      same_text : (other : List ℕ) → body ≡ number_text r ++ other → other ≡ text
      same_text other is = sym (drop_at (number_text r) other 8 refl) ∙ ap (drop 8) (sym is ∙ found.placed) ∙ drop_at (number_text r) text 8 refl

      damaged_text : ((l : Logged) (v : Revision) → l.id ≡ entry.id.0 → l.text ≡ text → IsNext f (c 2) front.history l v → ⊥) → IsDamageAt f c r front (Bad 3 entry.id.0 body)
      damaged_text never = at_text entry (entered found.new) (refl, refl, found.held, λ l v same spelled next. never l v same (same_text l.text spelled) next)

      -- the id is another than the text's
      pub other_id : (f text ≡ entry.id.0 → ⊥) → IsDamageAt f c r front (Bad 3 entry.id.0 body)
      other_id never = damaged_text (λ l v same is next. never (ap f (sym is) ∙ next.id ∙ same))

      module _ (own : entry.id.0 ≡ f text) where
        new : text_under front.log (f text) ≡ None
        new = untold (f text) (ap (body_at (below r c) 3) (sym own) ∙ found.new)

        -- the text is not lawful
        pub refused : (cause : _) (t : State) → Decides f (state_of c front) text (Some cause) t → IsDamageAt f c r front (Bad 3 entry.id.0 body)
        refused cause t decides = damaged_text (λ l v same is next.
            never_refused f c c r front walked text new cause t v (subst (λ (x : Logged). IsNext f (c 2) front.history x v) (λ i. record { id = (same ∙ own) i; text = is i }) next) decides)

        module _ (due : Records) (d : Contents) (t : State) (decides : Decides f (state_of c front) text None t) (over : StandsFor f d t)
            (due_log : body_at d 4 (number_text r) ≡ Some due.log.items) (due_roster : body_at d 5 (number_text r) ≡ Some due.roster.items) where
          pub due_at : (s : Step) × (s.logged ≡ record { id = f text; text = text }) × IsStepAt f d r front s × (c 2 ≡ d 2)
          due_at = due_step f c d r front walked text new t decides over

          abbrev pub s : Step
          s = due_at.0

          step : IsStepAt f d r front s
          step = due_at.2

          files : d 2 ≡ c 2
          files = sym due_at.3

          text_at : IsTextAt f c r front entry.id s.logged s.revision
          text_at = record {
            same = ap (λ (l : Logged). l.id) due_at.1 ∙ sym own;
            held = held ∙ ap (λ (l : Logged). Some (number_text r ++ l.text)) (sym due_at.1);
            lawful = subst (λ u. IsNext f u front.history s.logged s.revision) files step.text.lawful;
          }

          own_log : step.entered.logged.body ≡ due.log.items
          own_log = one_body (body_at d 4 (number_text r)) step.entered.logged.body due.log.items step.entered.logged.held due_log

          own_roster : step.roster.body ≡ due.roster.items
          own_roster = one_body (body_at d 5 (number_text r)) step.roster.body due.roster.items step.roster.held due_roster

          same_entry : log ≡ due.log.items → step.entry ≡ entry
          same_entry is = one_log r r log step.entry entry (subst (λ b. IsLogAt r b step.entry) (own_log ∙ sym is) step.entered.logged.text) at.formed

          told : log ≡ due.log.items → IsTold front entry s.revision
          told is = subst (λ e. IsTold front e s.revision) (same_entry is) step.told

          -- the records are those that are due
          pub right_step : IsSameAt c r log due → IsStepAt f c r front s
          right_step is = record {
            entry = entry;
            entered = entered found.new;
            text = text_at;
            told = told is.same;
            roster = record { kept = step.roster.kept; body = step.roster.body; held = is.held ∙ ap Some (sym own_roster); is = step.roster.is };
          }

          pub right : IsSameAt c r log due → (s : Step) × IsStepAt f c r front s
          right is = (s, right_step is)

          -- the state that they end is that of the longer front
          pub longer_state : t ≡ state_of c (with_step front s)
          longer_state = taken f (state_of c front) t text new decides ∙ ap (λ (l : Logged). state_of c (record front { log = front.log ++ l ∷ [] })) (sym due_at.1)

          -- and what is remembered of them is true of all that is shown with them
          pub known : IsSameAt c r log due → (m : Memory) → Knows m d → Knows m (below (r + 1) c)
          known is m knows =
              let longer : Front = with_step front s in
              let on : IsFrontAt f c (suc r) longer = (front, s, walked, right_step is, refl) in
              let shows : StandsFor f (below (suc r) c) (state_of c longer) = below_stands f c (suc r) longer (front_stands f c (suc r) longer on) n begun in
              subst (λ q. Knows m (below q c)) (sym (add-one r)) (known_too f d (below (suc r) c) (state_of c longer) (subst (StandsFor f d) longer_state over) shows m knows)

          -- another record of the log
          same_id : entry.id ≡ step.entry.id
          same_id = λ i. record { 0 = (own ∙ sym (ap (λ (l : Logged). l.id) due_at.1) ∙ step.text.same) i }

          log_of : (e : LogRecord) → IsTold front e s.revision → e.id ≡ step.entry.id → log_text e ≡ log_text step.entry
          log_of e is same =
              let next : e.next_node ≡ step.entry.next_node = is.next ∙ sym step.told.next in
              let parents : list_of e.parents ≡ list_of step.entry.parents = is.parents ∙ sym step.told.parents in
              λ i. id_text (same i) ++ (number_text (next i) ++ (byte_text (length (parents i)) ++ flat_map number_text (parents i)))

          told_other : (log ≡ due.log.items → ⊥) → IsTold front entry s.revision → ⊥
          told_other never is = never (at.formed.whole ∙ log_of entry is same_id ∙ sym step.entered.logged.text.whole ∙ own_log)

          -- another roster
          grown : IsGrown (front.history ++ s.revision ∷ [])
          grown = history_is_grown f (c 2) (front.log ++ s.logged ∷ []) (front.history ++ s.revision ∷ []) (history_more f (c 2) front.log front.history s.logged s.revision stands.spelled text_at.lawful)

          sets_of : (k : Kept) (x : List ℕ) (roster : RosterRecord) → IsRosterAt r x roster → IsRosterOf front.kept s.revision.parents k roster → HaveSets k.entries
          sets_of k x roster formed is = due_sets front.kept s.revision.parents k roster (front_sets f c r front walked) is formed.formed

          roster_other : (x : List ℕ) → (x ≡ due.roster.items → ⊥) → (k : Kept) (roster : RosterRecord) → IsKeptNext front.history front.kept s.revision k → IsRosterAt r x roster → IsRosterOf front.kept s.revision.parents k roster → ⊥
          roster_other x never k roster kept formed is =
              let same : k ≡ s.kept =
              one_kept front.history front.kept s.revision k s.kept grown kept step.roster.kept (sets_of k x roster formed is) (sets_of s.kept step.roster.body step.roster.is.roster step.roster.is.text step.roster.is.is) in
              let one : roster ≡ step.roster.is.roster =
              one_due front.kept s.revision.parents s.kept roster step.roster.is.roster (subst (λ (z : Kept). IsRosterOf front.kept s.revision.parents z roster) same is) step.roster.is.is in
              never (formed.whole ∙ ap roster_text one ∙ sym step.roster.is.text.whole ∙ own_roster)

          pub other : (w : Damage) → IsOtherAt c r log due w → IsDamageAt f c r front w
          other (Bad table key body) (inl is) =
              at_telling entry s.logged s.revision (entered found.new) text_at (is.0, is.1, ap (body_at c 4) is.1 ∙ at.held ∙ ap Some (sym is.2), told_other is.3)
          other (Bad table key body) (inr is) =
              at_roster entry s.logged s.revision (entered found.new) text_at (told is.0) (is.1, is.2, ap (body_at c 5) is.2 ∙ is.3, λ k roster kept formed of. roster_other body is.4 k roster kept formed of)
          other (Missing table key) is = at_roster entry s.logged s.revision (entered found.new) text_at (told is.0) (is.1, is.2, ap (body_at c 5) is.2 ∙ is.3)
