-- The records below a position are those of one front.
use Rattle.std.specs.Prelude.{slice_get}
use Rattle.std.proofs.Common.{◌≡◌, ◌+◌, ℕ, zero, suc, true, List, [], ◌∷◌, ◌++◌, length, take, Option, Some, refl, sym, ap, ◌∙◌, subst}
use Rattle.std.proofs.lemmas.List.{append-nil}
use Rattle.mtn_base.specs.Hex.{id_of}
use Rattle.mtn_changes.specs.declared.change.Revision.{Revision as Spelled}
use Rattle.mtn_changes.proofs.OneValue.{same_revision}
use Rattle.mtn_roster_deltas.specs.Chain.{ascend}
use Rattle.mtn_roster_deltas.specs.Difference.{IsDifference}
use Rattle.mtn_roster_deltas.specs.Numbering.{fresh}
use Rattle.mtn_roster_deltas.proofs.Differing.{difference_applies}
use Rattle.mtn_history_laws.specs.History.{Revision}
use Rattle.mtn_replay.specs.Lawful.{IsNext}
use Rattle.mtn_replay.specs.Making.{made}
use Rattle.mtn_replay.proofs.Histories.{Place, in_front, at_back, place, kept_at, last_at}
use Rattle.mtn_model.specs.State.{Logged}
use Rattle.mtn_model.specs.Table.{Contents, Table, body_at}
use Rattle.mtn_records.specs.Apart.{fronts}
use Rattle.mtn_records.specs.Bounds.{IsLogAt, IsRosterAt}
use Rattle.mtn_records.specs.Fields.{number_text}
use Rattle.mtn_records.specs.Records.{log_text, roster_text}
use Rattle.mtn_records.specs.RecordsApart.{log_apart, roster_apart}
use Rattle.mtn_records.specs.declared.record.LogRecord.{LogRecord}
use Rattle.mtn_records.specs.declared.record.RosterRecord.{RosterRecord}
use Rattle.mtn_records.specs.declared.record.RosterRecord.TheVariants.{Whole, Delta}
use Rattle.mtn_history.specs.Logs.{IsLogged}
use Rattle.mtn_history.specs.Revisions.{Kept, next_of, all_entries, depth_on, IsRosterOf}
use Rattle.mtn_check_laws.specs.Fronts.{Front, Step, with_step, IsStepAt, IsFrontAt}

pub one_body : (o : Option (List ℕ)) (a b : List ℕ) → o ≡ Some a → o ≡ Some b → a ≡ b
one_body o a b x y = cc

-- the two records of one body are one
pub one_log : (r q : ℕ) (body : List ℕ) (a b : LogRecord) → IsLogAt r body a → IsLogAt q body b → a ≡ b
one_log r q body a b x y = let both = log_apart a b [] [] x.formed y.formed (append-nil (log_text a) ∙ sym x.whole ∙ y.whole ∙ sym (append-nil (log_text b))) in both.0

pub one_logged : (c : Contents) (r : ℕ) (a b : LogRecord) → IsLogged c r a → IsLogged c r b → a ≡ b
one_logged c r a b x y = one_log r r x.body a b x.text (subst (λ t. IsLogAt r t b) (one_body (body_at c 4 (number_text r)) y.body x.body y.held x.held) y.text)

pub one_roster : (r : ℕ) (a b : List ℕ) (x y : RosterRecord) → a ≡ b → IsRosterAt r a x → IsRosterAt r b y → x ≡ y
one_roster r a b x y same s t = let both = roster_apart x y [] [] s.formed t.formed (append-nil (roster_text x) ∙ sym s.whole ∙ same ∙ t.whole ∙ sym (append-nil (roster_text y))) in both.0

-- behind one number stands one text
pub one_rest : (r : ℕ) (o : Option (List ℕ)) (s t : List ℕ) → o ≡ Some (number_text r ++ s) → o ≡ Some (number_text r ++ t) → s ≡ t
one_rest r o s t x y = (fronts 8 (number_text r) (number_text r) s t refl refl (one_body o (number_text r ++ s) (number_text r ++ t) x y)).1

-- two that follow one history are one
pub one_next : (f : List ℕ → List ℕ) (files : Table) (h : List Revision) (l m : Logged) (v w : Revision) → l ≡ m → IsNext f files h l v → IsNext f files h m w → v ≡ w
one_next f files h l m v w is a b0 =
    let b : IsNext f files h l w = subst (λ x. IsNext f files h x w) (sym is) b0 in
    let same : a.read ≡ b.read = same_revision l.text a.read b.read a.spells.stanzas b.spells.stanzas a.spells.reads b.spells.reads in
    a.made ∙ ap (λ (r : Spelled). made h (id_of l.id) r.edges) same ∙ sym b.made

-- the entries of each revision ascend
abbrev pub AllAscend : List Kept → Type 0
AllAscend ks = (q : ℕ) (k : Kept) → slice_get ks q ≡ Some k → ascend k.entries ≡ true

none_ascend : AllAscend []
none_ascend q k at = absurd cc

ascend_more : (ks : List Kept) (new : Kept) → AllAscend ks → ascend new.entries ≡ true → AllAscend (ks ++ new ∷ [])
ascend_more ks new up rises q k at = by q at (place ks new k q at)
  where
    by : (j : ℕ) → slice_get (ks ++ new ∷ []) j ≡ Some k → Place ks j → ascend k.entries ≡ true
    by j e (in_front lt) = up j k (sym (kept_at ks new j lt) ∙ e)
    by j e at_back = let same : new ≡ k = let t = sym (last_at ks new) ∙ e in cc in subst (λ (x : Kept). ascend x.entries ≡ true) same rises

-- one record gives one list of entries
pub one_entries : (ks : List Kept) (parents : List ℕ) (a b : Kept) (x : RosterRecord) → AllAscend ks → ascend a.entries ≡ true → ascend b.entries ≡ true →
    IsRosterOf ks parents a x → IsRosterOf ks parents b x → a.entries ≡ b.entries
one_entries ks parents a b (Whole es) up ua ub ra rb = sym ra.1 ∙ rb.1
one_entries ks [] a b (Delta base depth gone changed) up ua ub ra rb = absurd ra
one_entries ks (p ∷ ps) a b (Delta base depth gone changed) up ua ub ra rb =
    let below = ra.3 in
    let under = rb.3 in
    let same : under.0 ≡ below.0 = let t = sym under.1 ∙ below.1 in cc in
    let x = difference_applies below.0.entries a.entries gone changed (up p below.0 below.1) ua below.2 in
    let y = difference_applies below.0.entries b.entries gone changed (up p below.0 below.1) ub (subst (λ (k : Kept). IsDifference k.entries b.entries gone changed) same under.2) in
    let t = sym x ∙ y in cc

abbrev earlier : Front → List Kept
earlier front = take (length front.history) front.kept

module _ (f : List ℕ → List ℕ) (c : Contents) where
  -- the records of a position give one revision more
  one_step : (r : ℕ) (front : Front) (a b : Step) → AllAscend front.kept → IsStepAt f c r front a → IsStepAt f c r front b → a ≡ b
  one_step r front a b up x y =
      let entry : x.entry ≡ y.entry = one_logged c r x.entry y.entry x.entered.logged y.entered.logged in
      let id : a.logged.id ≡ b.logged.id = x.text.same ∙ ap (λ (e : LogRecord). e.id.0) entry ∙ sym y.text.same in
      let text : a.logged.text ≡ b.logged.text = one_rest r (body_at c 3 x.entry.id.0) a.logged.text b.logged.text x.text.held (ap (λ (e : LogRecord). body_at c 3 e.id.0) entry ∙ y.text.held) in
      let logged : a.logged ≡ b.logged = λ i. record { id = id i; text = text i } in
      let v : a.revision ≡ b.revision = one_next f (c 2) front.history a.logged b.logged a.revision b.revision logged x.text.lawful y.text.lawful in
      let next : a.kept.next ≡ b.kept.next = x.roster.kept.next ∙ ap (λ (w : Revision). next_of (earlier front) + length (fresh (all_entries (earlier front)) w.tree)) v ∙ sym y.roster.kept.next in
      let depth : a.kept.depth ≡ b.kept.depth = x.roster.kept.depth ∙ ap (λ (w : Revision). depth_on front.kept w.parents) v ∙ sym y.roster.kept.depth in
      let body : x.roster.body ≡ y.roster.body = one_body (body_at c 5 (number_text r)) x.roster.body y.roster.body x.roster.held y.roster.held in
      let roster : y.roster.is.roster ≡ x.roster.is.roster = one_roster r y.roster.body x.roster.body y.roster.is.roster x.roster.is.roster (sym body) y.roster.is.text x.roster.is.text in
      let other : IsRosterOf front.kept a.revision.parents b.kept x.roster.is.roster =
      subst (λ (w : Revision). IsRosterOf front.kept w.parents b.kept x.roster.is.roster) (sym v) (subst (IsRosterOf front.kept b.revision.parents b.kept) roster y.roster.is.is) in
      let entries : a.kept.entries ≡ b.kept.entries =
      one_entries front.kept a.revision.parents a.kept b.kept x.roster.is.roster up x.roster.kept.numbered.spells.ascending y.roster.kept.numbered.spells.ascending x.roster.is.is other in
      λ i. record { logged = logged i; revision = v i; kept = record { entries = entries i; next = next i; depth = depth i } }

  pub all_ascend : (r : ℕ) (front : Front) → IsFrontAt f c r front → AllAscend front.kept
  all_ascend zero front is = subst (λ (x : Front). AllAscend x.kept) (sym is) none_ascend
  all_ascend (suc r) front (before, s, walked, step, is) =
      subst (λ (x : Front). AllAscend x.kept) (sym is) (ascend_more before.kept s.kept (all_ascend r before walked) step.roster.kept.numbered.spells.ascending)

  pub one_front : (r : ℕ) (a b : Front) → IsFrontAt f c r a → IsFrontAt f c r b → a ≡ b
  one_front zero a b x y = x ∙ sym y
  one_front (suc r) a b (p, s, walked, step, is) (q, t, walked', step', is') =
      let before : p ≡ q = one_front r p q walked walked' in
      let same : s ≡ t = one_step r p s t (all_ascend r p walked) step (subst (λ x. IsStepAt f c r x t) (sym before) step') in
      is ∙ (λ i. with_step (before i) (same i)) ∙ sym is'
