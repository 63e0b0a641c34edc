-- The records of one position more lead from those of a front to those of a longer one.
use Rattle.std.specs.Prelude.{slice_get, Contains}
use Rattle.std.specs.Option.{option_map_or}
use Rattle.std.proofs.Common.{◌≡◌, ◌≤◌, ◌<◌, ◌+◌, ℕ, zero, suc, List, [], ◌∷◌, ◌++◌, length, take, Some, refl, sym, ap, ◌∙◌, subst, arith}
use Rattle.std.proofs.lemmas.List.{length-append, take_all, take-append-le}
use Rattle.mtn_base.specs.Hex.{id_of}
use Rattle.mtn_roster_deltas.specs.Numbering.{fresh, IsNumbering}
use Rattle.mtn_history_laws.specs.History.{Revision, revision_parents, IsGrown}
use Rattle.mtn_replay.proofs.Histories.{Place, in_front, at_back, place, kept_at, last_at, history_none, history_more, history_is_grown}
use Rattle.mtn_replay.proofs.Places.{inside}
use Rattle.mtn_marking.proofs.Staying.{marked_kept}
use Rattle.mtn_model.specs.State.{Logged}
use Rattle.mtn_model.specs.Table.{Contents, body_at}
use Rattle.mtn_records.specs.Bounds.{IsLogAt}
use Rattle.mtn_records.specs.Fields.{number_text}
use Rattle.mtn_records.specs.declared.record.RosterRecord.{RosterRecord}
use Rattle.mtn_records.specs.declared.record.RosterRecord.TheVariants.{Whole, Delta}
use Rattle.mtn_history.specs.Revisions.{Kept, next_of, all_entries, depth_on, deeper, IsKept, AreKept, IsLogBody, IsRosterOf, IsRosterBody}
use Rattle.mtn_check_laws.specs.Fronts.{Front, no_front, Step, with_step, IsKeptNext, IsStepAt, IsFrontAt, StandsTo}

same_front : {X : Type 0} (xs : List X) (y : X) (r : ℕ) → r ≤ length xs → take r (xs ++ y ∷ []) ≡ take r xs
same_front xs y r le = take-append-le r xs (y ∷ []) le

pub stays_at : {X : Type 0} (xs : List X) (y x : X) (r : ℕ) → slice_get xs r ≡ Some x → slice_get (xs ++ y ∷ []) r ≡ Some x
stays_at xs y x r at = kept_at xs y r (inside xs r x at) ∙ at

depth_kept : (ks : List Kept) (new : Kept) (parents : List ℕ) → ((p : ℕ) → Contains parents p → p < length ks) → depth_on (ks ++ new ∷ []) parents ≡ depth_on ks parents
depth_kept ks new [] known = refl
depth_kept ks new (p ∷ ps) known = ap (λ o. option_map_or (λ (k : Kept). deeper k.depth) o 0) (kept_at ks new p (known p (0, omega arith, refl)))

-- what is kept of a revision stays behind which more is kept
kept_stays : (h : List Revision) (ks : List Kept) (new : Kept) (r : ℕ) (v : Revision) (k : Kept) → r ≤ length ks → ((p : ℕ) → Contains v.parents p → p < length ks) →
    IsKept h ks r v k → IsKept h (ks ++ new ∷ []) r v k
kept_stays h ks new r v k le known is =
    let front : take r (ks ++ new ∷ []) ≡ take r ks = same_front ks new r le in
    record {
      marks = is.marks;
      marked = is.marked;
      numbered = subst (λ l. IsNumbering (all_entries l) (next_of l) (record { tree = v.tree; marks = is.marks }) k.entries) (sym front) is.numbered;
      next = is.next ∙ ap (λ l. next_of l + length (fresh (all_entries l) v.tree)) (sym front);
      depth = is.depth ∙ sym (depth_kept ks new v.parents known);
    }

kept_more : (h : List Revision) (ks : List Kept) (v : Revision) (new : Kept) → IsGrown (h ++ v ∷ []) → AreKept h ks → IsKeptNext h ks v new → AreKept (h ++ v ∷ []) (ks ++ new ∷ [])
kept_more h ks v new grown kept next = record {
  long = length-append ks (new ∷ []) ∙ ap (λ n. n + 1) kept.long ∙ sym (length-append h (v ∷ []));
  each = λ r w k hv hk. each r w k hv hk (place h v w r hv);
}
  where
    parents_in : (r : ℕ) (w : Revision) → slice_get (h ++ v ∷ []) r ≡ Some w → r ≤ length ks → (p : ℕ) → Contains w.parents p → p < length ks
    parents_in r w at le p c = let lt = grown.earlier r p (subst (λ ps. Contains ps p) (sym (ap revision_parents at)) c) in omega (arith, lt, le)

    each : (r : ℕ) (w : Revision) (k : Kept) → slice_get (h ++ v ∷ []) r ≡ Some w → slice_get (ks ++ new ∷ []) r ≡ Some k → Place h r → IsKept (h ++ v ∷ []) (ks ++ new ∷ []) r w k
    each r w k hv hk (in_front lt) =
        let under : r < length ks = subst (λ n. r < n) (sym kept.long) lt in
        let o = kept.each r w k (sym (kept_at h v r lt) ∙ hv) (sym (kept_at ks new r under) ∙ hk) in
        kept_stays (h ++ v ∷ []) ks new r w k (omega (arith, under)) (parents_in r w hv (omega (arith, under))) record {
          marks = o.marks;
          marked = marked_kept h v grown r lt (record { tree = w.tree; marks = o.marks }) o.marked;
          numbered = o.numbered;
          next = o.next;
          depth = o.depth;
        }
    each r w k hv hk at_back =
        let one : v ≡ w = let e = sym (last_at h v) ∙ hv in cc in
        let two : new ≡ k = let e = sym (last_at ks new) ∙ ap (slice_get (ks ++ new ∷ [])) kept.long ∙ hk in cc in
        subst (λ (x : Revision). IsKept (h ++ v ∷ []) (ks ++ new ∷ []) (length h) x k) one (subst (λ (x : Kept). IsKept (h ++ v ∷ []) (ks ++ new ∷ []) (length h) v x) two
        (kept_stays (h ++ v ∷ []) ks new (length h) v new (omega (arith, kept.long)) (parents_in (length h) v (last_at h v) (omega (arith, kept.long))) next))

-- a roster's record stands on the same as before
roster_kept : (ks : List Kept) (new : Kept) (parents : List ℕ) (k : Kept) (x : RosterRecord) → IsRosterOf ks parents k x → IsRosterOf (ks ++ new ∷ []) parents k x
roster_kept ks new parents k (Whole es) is = is
roster_kept ks new [] k (Delta base depth g ch) is = is
roster_kept ks new (p ∷ ps) k (Delta base depth g ch) is = (is.0, is.1, is.2, (is.3.0, stays_at ks new is.3.0 p is.3.1, is.3.2))

body_kept : (ks : List Kept) (new : Kept) (r : ℕ) (w : Revision) (k : Kept) (x : List ℕ) → IsRosterBody ks r w k x → IsRosterBody (ks ++ new ∷ []) r w k x
body_kept ks new r w k x is = record { roster = is.roster; is = roster_kept ks new w.parents k is.roster is.is; text = is.text }

module _ (f : List ℕ → List ℕ) (c : Contents) (r : ℕ) (front : Front) (s : Step) (stands : StandsTo f c r front) (step : IsStepAt f c r front s) where
  abbrev h : List Revision
  h = front.history

  abbrev ks : List Kept
  ks = front.kept

  long_h : length h ≡ r
  long_h = stands.spelled.long ∙ stands.long

  long_ks : length ks ≡ r
  long_ks = stands.revisions.long ∙ long_h

  same_id : s.revision.id ≡ step.entry.id
  same_id = ap (λ (v : Revision). v.id) step.text.lawful.made ∙ ap id_of step.text.same

  next_is : step.entry.next_node ≡ s.kept.next
  next_is =
      step.told.next
      ∙ ap (λ (l : List Kept). next_of l + length (fresh (all_entries l) s.revision.tree)) (sym (take_all (length h) ks (omega (arith, stands.revisions.long))))
      ∙ sym step.roster.kept.next

  own_log : IsLogBody r s.revision s.kept step.entered.logged.body
  own_log = record {
    parents = step.entry.parents;
    same = step.told.parents;
    text = subst (IsLogAt r step.entered.logged.body) (λ i. record { id = sym same_id i; next_node = next_is i; parents = step.entry.parents }) step.entered.logged.text;
  }

  text_at : (q : ℕ) (l : Logged) → slice_get (front.log ++ s.logged ∷ []) q ≡ Some l → Place front.log q → body_at c 3 l.id ≡ Some (number_text q ++ l.text)
  text_at q l at (in_front lt) = stands.texts q l (sym (kept_at front.log s.logged q lt) ∙ at)
  text_at q l at at_back =
      let same : s.logged ≡ l = let t = sym (last_at front.log s.logged) ∙ at in cc in
      subst (λ (x : Logged). body_at c 3 x.id ≡ Some (number_text (length front.log) ++ x.text)) same
      (ap (body_at c 3) step.text.same ∙ step.text.held ∙ ap (λ n. Some (number_text n ++ s.logged.text)) (sym stands.long))

  under : (q : ℕ) → q < length h → q < length ks
  under q lt = subst (λ n. q < n) (sym stands.revisions.long) lt

  last_kept : (k : Kept) → slice_get (ks ++ s.kept ∷ []) (length h) ≡ Some k → s.kept ≡ k
  last_kept k hk = let e = sym (last_at ks s.kept) ∙ ap (slice_get (ks ++ s.kept ∷ [])) stands.revisions.long ∙ hk in cc

  last_revision : (v : Revision) → slice_get (h ++ s.revision ∷ []) (length h) ≡ Some v → s.revision ≡ v
  last_revision v hv = let e = sym (last_at h s.revision) ∙ hv in cc

  log_at : (q : ℕ) (v : Revision) (k : Kept) → slice_get (h ++ s.revision ∷ []) q ≡ Some v → slice_get (ks ++ s.kept ∷ []) q ≡ Some k → Place h q →
      (body : List ℕ) × (body_at c 4 (number_text q) ≡ Some body) × IsLogBody q v k body
  log_at q v k hv hk (in_front lt) = stands.log q v k (sym (kept_at h s.revision q lt) ∙ hv) (sym (kept_at ks s.kept q (under q lt)) ∙ hk)
  log_at q v k hv hk at_back =
      subst (λ n. (body : List ℕ) × (body_at c 4 (number_text n) ≡ Some body) × IsLogBody n v k body) (sym long_h) (
        step.entered.logged.body,
        step.entered.logged.held,
        subst (λ (x : Revision). IsLogBody r x k step.entered.logged.body) (last_revision v hv) (subst (λ (x : Kept). IsLogBody r s.revision x step.entered.logged.body) (last_kept k hk) own_log),
      )

  roster_at : (q : ℕ) (v : Revision) (k : Kept) → slice_get (h ++ s.revision ∷ []) q ≡ Some v → slice_get (ks ++ s.kept ∷ []) q ≡ Some k → Place h q →
      (body : List ℕ) × (body_at c 5 (number_text q) ≡ Some body) × IsRosterBody (ks ++ s.kept ∷ []) q v k body
  roster_at q v k hv hk (in_front lt) =
      let o = stands.rosters q v k (sym (kept_at h s.revision q lt) ∙ hv) (sym (kept_at ks s.kept q (under q lt)) ∙ hk) in
      (o.0, o.1, body_kept ks s.kept q v k o.0 o.2)
  roster_at q v k hv hk at_back =
      subst (λ n. (body : List ℕ) × (body_at c 5 (number_text n) ≡ Some body) × IsRosterBody (ks ++ s.kept ∷ []) n v k body) (sym long_h) (
        step.roster.body,
        step.roster.held,
        body_kept ks s.kept r v k step.roster.body
            (subst (λ (x : Revision). IsRosterBody ks r x k step.roster.body) (last_revision v hv) (subst (λ (x : Kept). IsRosterBody ks r s.revision x step.roster.body) (last_kept k hk) step.roster.is)),
      )

  -- one revision more over records that stand for a front of the log
  pub one_more : StandsTo f c (suc r) (with_step front s)
  one_more =
      let more = history_more f (c 2) front.log h s.logged s.revision stands.spelled step.text.lawful in
      let grown = history_is_grown f (c 2) (front.log ++ s.logged ∷ []) (h ++ s.revision ∷ []) more in
      record {
        long = omega (arith, length-append front.log (s.logged ∷ []), stands.long);
        spelled = more;
        revisions = kept_more h ks s.revision s.kept grown stands.revisions step.roster.kept;
        texts = λ q l at. text_at q l at (place front.log s.logged l q at);
        log = λ q v k hv hk. log_at q v k hv hk (place h s.revision v q hv);
        rosters = λ q v k hv hk. roster_at q v k hv hk (place h s.revision v q hv);
      }

none_stand : (f : List ℕ → List ℕ) (c : Contents) → StandsTo f c 0 no_front
none_stand f c = record {
  long = refl;
  spelled = history_none f (c 2);
  revisions = record { long = refl; each = λ r v k hv hk. absurd cc };
  texts = λ q l at. absurd cc;
  log = λ q v k hv hk. absurd cc;
  rosters = λ q v k hv hk. absurd cc;
}

-- so the records that a walk went over stand for its front
pub front_stands : (f : List ℕ → List ℕ) (c : Contents) (r : ℕ) (front : Front) → IsFrontAt f c r front → StandsTo f c r front
front_stands f c zero front is = subst (StandsTo f c 0) (sym is) (none_stand f c)
front_stands f c (suc r) front (before, s, walked, step, is) = subst (StandsTo f c (suc r)) (sym is) (one_more f c r before s (front_stands f c r before walked) step)
