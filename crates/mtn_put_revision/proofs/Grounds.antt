-- What reads over a draft tell of the history that it stands on.
use Rattle.std.specs.Prelude.{IfSome, slice_get}
use Rattle.std.proofs.Common.{◌≡◌, ◌≤◌, ◌<◌, ◌+◌, ◌^◌, ◌⊎◌, ⊎_elim, inl, inr, ℕ, zero, suc, List, [], ◌∷◌, length, Option, Some, None, refl, sym, ap, ◌∙◌, subst, arith}
use Rattle.mtn_base.specs.declared.id.Id.{Id}
use Rattle.mtn_history_laws.specs.History.{IsPlaceOf}
use Rattle.mtn_replay.proofs.Histories.{log_is_short}
use Rattle.mtn_replay.specs.Making.{place_of}
use Rattle.mtn_marking.specs.Marking.{MarkedTree}
use Rattle.mtn_roster_deltas.specs.Chain.{Entries}
use Rattle.mtn_model.specs.State.{State}
use Rattle.mtn_model.specs.Table.{Contents}
use Rattle.mtn_ports.specs.Kept.{Same, with_all}
use Rattle.mtn_records.specs.declared.record.LogRecord.{LogRecord}
use Rattle.mtn_history.specs.Errors.{IfDamage}
use Rattle.mtn_history.specs.Logs.{IsLogged, IsHeldAt, UnloggedAt}
use Rattle.mtn_history.specs.Places.{IsPlaced}
use Rattle.mtn_history.specs.Revisions.{Kept, next_from, next_of}
use Rattle.mtn_history.specs.Rosters.{IsRebuilt, IsRosterHeld, IsRosterThere, UnmadeBelow}
use Rattle.mtn_history.specs.Damage.{IsBad}
use Rattle.mtn_history.proofs.MarkedLemmas.{log_bad, roster_bad}
use Rattle.mtn_history.specs.Stands.{IsFounded}
use Rattle.mtn_history.specs.declared.errors.Damage.{Damage}
use Rattle.mtn_history.specs.declared.errors.StoreError.{StoreError}
use Rattle.mtn_history.specs.declared.errors.StoreError.TheVariants.{Failed, Damaged, NoMemory}
use Rattle.mtn_history.specs.declared.pending.Pending.{Pending}
use Rattle.mtn_history.proofs.Founding.{back, told_of, history, own, grown, counted, texts_of, log_of, rosters_of}
use Rattle.mtn_history.proofs.LogLemmas.{read_is, there, there_kept, never_wrong}
use Rattle.mtn_history.proofs.PlaceLemmas.{placed_is, never_unplaced}
use Rattle.mtn_history.proofs.RosterLemmas.{rebuilt_is, never_unmade}
use Rattle.mtn_replay.proofs.Places.{within}
use Rattle.mtn_put_revision.specs.Finding.{IsFound, IsUnfit, IsUnfounded}
use Rattle.mtn_put_revision.proofs.Bases.{HasKept}

small : (n : ℕ) → n ≤ 2147483648 → n < 2 ^ 64
small n le = omega (arith, le)

last_next : (n r : ℕ) (ks : List Kept) (k : Kept) → slice_get ks r ≡ Some k → suc r ≡ length ks → next_from n ks ≡ k.next
last_next n r [] k at long = absurd (omega (arith, long))
last_next n zero (x ∷ []) k at long = let same : x ≡ k = cc in ap (λ (y : Kept). y.next) same
last_next n zero (x ∷ y ∷ ks) k at long = absurd (omega (arith, long))
last_next n (suc r) (x ∷ ks) k at long = last_next x.next r ks k at (omega (arith, long))

module _ (f : List ℕ → List ℕ) (told : Option Contents) (p : Pending) (s : State) (d : IsFounded f told p s) where
  -- such a draft shows none of the damages
  pub never_found : (x : Damage) → IsFound told p (own f told p s d) x → ⊥
  never_found x found =
      ⊎_elim (never_unplaced s.log (own f told p s d 3) (texts_of f told p s d) (own f told p s d) refl p.count x d.count)
      (⊎_elim (never_wrong (own f told p s d) (history f told p s d) d.stands.kept (grown f told p s d) d.stands.revisions.long (log_of f told p s d) p.count x (counted f told p s d))
      (⊎_elim (never_unmade (own f told p s d) (history f told p s d) d.stands.kept d.stands.revisions (rosters_of f told p s d) p.count x (counted f told p s d))
      (λ (u : IsUnfit told p x). u.unfit f s d))) found

  -- the place of an id
  pub at_place : (id : Id) (at : Option ℕ) (text : List ℕ) → IfSome told (λ c. IsPlaced (with_all c p.batch) p.count id at text) → at ≡ place_of (history f told p s d) id
  at_place id at text placed =
      placed_is f s.files (own f told p s d 3) s.log (history f told p s d) d.stands.spelled (texts_of f told p s d) (own f told p s d) refl p.count
      (subst (λ n. n < 2 ^ 64) (sym d.count) (small (length s.log) (log_is_short f s.files s.log (history f told p s d) d.stands.spelled))) d.count id at text
      (told_of told d.records (λ c. IsPlaced (with_all c p.batch) p.count id at text) d.tells placed)

  read_at : (r : ℕ) (log : LogRecord) → IfSome told (λ c. IsLogged (with_all c p.batch) r log) → IsLogged (own f told p s d) r log
  read_at r log read = told_of told d.records (λ c. IsLogged (with_all c p.batch) r log) d.tells read

  -- the id at a place
  pub id_told : (r : ℕ) (log : LogRecord) → r < p.count → IfSome told (λ c. IsLogged (with_all c p.batch) r log) → IsPlaceOf (history f told p s d) log.id r
  id_told r log lt read =
      let low : r < length (history f told p s d) = subst (λ n. r < n) (counted f told p s d) lt in
      let is = read_is (own f told p s d) (history f told p s d) d.stands.kept (grown f told p s d) d.stands.revisions.long (log_of f told p s d) r log (read_at r log read) low in
      let t = there (own f told p s d) (history f told p s d) d.stands.kept (grown f told p s d) d.stands.revisions.long (log_of f told p s d) r low in
      (t.0, t.3, sym is.0)

  -- the next number behind the last record
  pub next_told : (r : ℕ) (log : LogRecord) → r + 1 ≡ p.count → IfSome told (λ c. IsLogged (with_all c p.batch) r log) → log.next_node ≡ next_of d.stands.kept
  next_told r log last read =
      let low : r < length (history f told p s d) = subst (λ n. r < n) (counted f told p s d) (omega (arith, last)) in
      let is = read_is (own f told p s d) (history f told p s d) d.stands.kept (grown f told p s d) d.stands.revisions.long (log_of f told p s d) r log (read_at r log read) low in
      let t = there (own f told p s d) (history f told p s d) d.stands.kept (grown f told p s d) d.stands.revisions.long (log_of f told p s d) r low in
      let at = there_kept (own f told p s d) (history f told p s d) d.stands.kept (grown f told p s d) d.stands.revisions.long (log_of f told p s d) r low in
      is.2 ∙ sym (last_next 1 r d.stands.kept t.1 at (omega (arith, last, counted f told p s d, d.stands.revisions.long)))

  -- what was rebuilt at a place
  pub rebuilt_at : (r : ℕ) (es : Entries) (t : MarkedTree) (depth : ℕ) → r < p.count → IfSome told (λ c. IsRebuilt (with_all c p.batch) r es t depth) → HasKept d.stands.history d.stands.kept r es t depth
  rebuilt_at r es t depth lt made =
      let low : r < length (history f told p s d) = subst (λ n. r < n) (counted f told p s d) lt in
      let v = within (history f told p s d) r low in
      let k = within d.stands.kept r (subst (λ n. r < n) (sym d.stands.revisions.long) low) in
      let is = rebuilt_is (own f told p s d) (history f told p s d) d.stands.kept d.stands.revisions (rosters_of f told p s d) r v.0 k.0 es t depth v.1 k.1
      (told_of told d.records (λ c. IsRebuilt (with_all c p.batch) r es t depth) d.tells made) in
      record { kept = k.0; there = k.1; entries = is.0; marked = is.1; deep = is.2 }

-- an empty draft has no next number but 1
pub next_of_none : (f : List ℕ → List ℕ) (told : Option Contents) (p : Pending) (s : State) (d : IsFounded f told p s) → p.count ≡ 0 → 1 ≡ next_of d.stands.kept
next_of_none f told p s d none = by d.stands.kept (d.stands.revisions.long ∙ sym (counted f told p s d) ∙ none)
  where
    by : (ks : List Kept) → length ks ≡ 0 → 1 ≡ next_of ks
    by [] e = refl
    by (k ∷ ks) e = absurd (omega (arith, e))

-- a damage of a roster is one that was found
pub unmade_found : (told : Option Contents) (p : Pending) (at : ℕ) (e : StoreError) → at < p.count → IfSome told (λ c. IfDamage e (UnmadeBelow (at + 1) (with_all c p.batch))) → IfSome told (λ c. IfDamage e (IsFound told p (with_all c p.batch)))
unmade_found None p at e lt h = tt
unmade_found (Some c) p at Failed lt h = tt
unmade_found (Some c) p at NoMemory lt h = tt
unmade_found (Some c) p at (Damaged x) lt h = inr (inr (inl (record { place = h.place; below = omega (arith, h.below, lt); wrong = h.wrong })))

-- a record that is held, of records that stand for no state
unfit_error : (told : Option Contents) (c : Contents) (p : Pending) (r : ℕ) (e : StoreError) (Held : Damage → Type 0) → told ≡ Some c → r < p.count → ((x : Damage) → Held x → IsBad x) →
    ((x : Damage) → Held x → IsHeldAt (with_all c p.batch) r x ⊎ IsRosterHeld (with_all c p.batch) r x) → IsUnfounded told p → IfDamage e Held → IfDamage e (IsFound told p (with_all c p.batch))
unfit_error told c p r Failed Held tells low bad by unfit h = tt
unfit_error told c p r NoMemory Held tells low bad by unfit h = tt
unfit_error told c p r (Damaged x) Held tells low bad by unfit h = inr (inr (inr (record { place = r; below = low; bad = bad x h; records = c; tells = tells; held = by x h; unfit = unfit })))

-- a fact of what was pending, of what is pending under an equal name
pub moved : (P : Pending → Type 0) (p q : Pending) → p ≡ q → P p → P q
moved P p q is h = subst P is h

-- what a draft stands for at the end it stood for before, under an equal name of what is pending
pub back_plain : (f : List ℕ → List ℕ) (old new : Option Contents) (p q : Pending) (s : State) → q ≡ p → Same old new → IsFounded f new p s → IsFounded f old p s
back_plain f old new p q s is same d = back f old new p s same d

-- a draft that stands for no state did not before
pub unfounded_on : (old new : Option Contents) (p : Pending) → Same old new → IsUnfounded old p → IsUnfounded new p
unfounded_on old new p same unfit f s d = unfit f s (back f old new p s same d)

pub unfit_log : (told : Option Contents) (p : Pending) (r : ℕ) (log : LogRecord) (e : StoreError) → r < p.count → IfSome told (λ c. IsLogged (with_all c p.batch) r log) → IsUnfounded told p →
    IfSome told (λ c. IfDamage e (IsHeldAt (with_all c p.batch) r)) → IfSome told (λ c. IfDamage e (IsFound told p (with_all c p.batch)))
unfit_log None p r log e low read unfit h = tt
unfit_log (Some c) p r log e low read unfit h =
    unfit_error (Some c) c p r e (IsHeldAt (with_all c p.batch) r) refl low (λ x held. log_bad (with_all c p.batch) r log x read held) (λ x held. inl held) unfit h

pub unfit_roster : (told : Option Contents) (p : Pending) (r : ℕ) (e : StoreError) → r < p.count → IfSome told (λ c. IsRosterThere (with_all c p.batch) r) → IsUnfounded told p →
    IfSome told (λ c. IfDamage e (IsRosterHeld (with_all c p.batch) r)) → IfSome told (λ c. IfDamage e (IsFound told p (with_all c p.batch)))
unfit_roster None p r e low there unfit h = tt
unfit_roster (Some c) p r e low there unfit h =
    unfit_error (Some c) c p r e (IsRosterHeld (with_all c p.batch) r) refl low (λ x held. roster_bad (with_all c p.batch) r x there held) (λ x held. inr held) unfit h

-- a record of the log that is none is one that was found
pub unlogged_found : (told : Option Contents) (p : Pending) (at : ℕ) (e : StoreError) → at < p.count → IfSome told (λ c. IfDamage e (UnloggedAt (with_all c p.batch) at)) → IfSome told (λ c. IfDamage e (IsFound told p (with_all c p.batch)))
unlogged_found None p at e lt h = tt
unlogged_found (Some c) p at Failed lt h = tt
unlogged_found (Some c) p at NoMemory lt h = tt
unlogged_found (Some c) p at (Damaged x) lt h = inr (inl (record { place = at; below = lt; wrong = inl h }))
