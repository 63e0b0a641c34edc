-- The log, read record by record.
use Rattle.std.specs.Prelude.{IfSome, is_some, Contains, slice_get, option_map}
use Rattle.std.proofs.Common.{◌≡◌, ◌<◌, ◌+◌, ℕ, true, List, [], ◌∷◌, ◌++◌, length, Option, Some, None, refl, sym, ap, ◌∙◌, subst, ◌⊎◌, ⊎_elim, inl, inr, arith}
use Rattle.std.proofs.lemmas.List.{length-append, append-nil}
use Rattle.mtn_ancestry.specs.Log.{id_at, list_of}
use Rattle.mtn_ancestry.specs.declared.pos.LogEntry.{LogEntry}
use Rattle.mtn_model.specs.Table.{Contents, body_at}
use Rattle.mtn_ports.specs.Kept.{Same, with_all}
use Rattle.mtn_ports.specs.declared.batch.Put.{Put}
use Rattle.mtn_records.specs.Fields.{number_text}
use Rattle.mtn_records.specs.Bounds.{IsLogAt, IsLogWithin}
use Rattle.mtn_records.specs.declared.record.LogRecord.{LogRecord}
use Rattle.mtn_history.specs.declared.errors.StoreError.{StoreError}
use Rattle.mtn_history.specs.declared.errors.StoreError.TheVariants.{Failed, Damaged, NoMemory}
use Rattle.mtn_history.specs.declared.errors.Damage.TheVariants.{Bad, Missing}
use Rattle.mtn_history.specs.Errors.{IfDamage}
use Rattle.mtn_history.specs.Logs.{IsLogged, UnloggedAt, RepeatedAt, IsHeldAt, WrongBelow, IsReadTo}
use Rattle.mtn_replay.specs.Graphs.{IsGraphOf}
use Rattle.mtn_replay.proofs.Histories.{Place, in_front, at_back, place, kept_at, last_at}
use Rattle.mtn_replay.proofs.Places.{inside, within}
use Rattle.mtn_history_laws.specs.History.{Revision, IsGrown}
use Rattle.mtn_records.specs.Records.{log_text}
use Rattle.mtn_records.specs.RecordsApart.{log_apart}
use Rattle.mtn_history.specs.Damage.{IsShown}
use Rattle.mtn_history.specs.Revisions.{Kept, AreLogged, IsLogBody}
use Rattle.mtn_history.specs.declared.errors.Damage.{Damage}

one_body : (o : Option (List ℕ)) (a b : List ℕ) → o ≡ Some a → o ≡ Some b → a ≡ b
one_body o a b x y = cc

-- a fact of the records as they were told before holds of them as they are told now
pub told_on : (old new : Option Contents) (P : Contents → Type 0) → Same old new → IfSome old P → (c : Contents) → new ≡ Some c → P c
told_on old new P same holds c at = subst (λ o. IfSome o P) (same c at) holds

-- the entry of a place
entry_of : (entries : List LogEntry) (q : ℕ) (o : Option LogEntry) → slice_get entries q ≡ o → (id : _) → option_map (λ (e : LogEntry). e.id) o ≡ Some id → (e : LogEntry) × (slice_get entries q ≡ Some e) × (e.id ≡ id)
entry_of entries q None is id h = absurd cc
entry_of entries q (Some e) is id h = (e, is, let same : e.id ≡ id = cc in same)

-- what stands at `at` is wrong
wrong_at : (c : Contents) (n at : ℕ) (e : StoreError) → at < n → IfDamage e (UnloggedAt c at) → IfDamage e (WrongBelow n c)
wrong_at c n at Failed lt h = tt
wrong_at c n at NoMemory lt h = tt
wrong_at c n at (Damaged d) lt h = record { place = at; below = lt; wrong = inl h }

pub unlogged : (new : Option Contents) (ps : List Put) (n at : ℕ) (e : StoreError) → at < n → IfSome new (λ c. IfDamage e (UnloggedAt (with_all c ps) at)) → IfSome new (λ c. IfDamage e (WrongBelow n (with_all c ps)))
unlogged None ps n at e lt h = tt
unlogged (Some c) ps n at e lt h = wrong_at (with_all c ps) n at e lt h

repeats : (c : Contents) (n at q : ℕ) (entries : List LogEntry) (log : LogRecord) (e : StoreError) → at < n → IsReadTo c at entries → IsLogged c at log → id_at entries q ≡ Some log.id →
    IfDamage e (IsHeldAt c at) → IfDamage e (WrongBelow n c)
repeats c n at q entries log Failed lt read logged found held = tt
repeats c n at q entries log NoMemory lt read logged found held = tt
repeats c n at q entries log (Damaged (Missing table key)) lt read logged found held =
    absurd (let both : None ≡ Some logged.body = sym held.2 ∙ ap (body_at c 4) held.1 ∙ logged.held in cc)
repeats c n at q entries log (Damaged (Bad table key body)) lt read logged found held =
    let e = entry_of entries q (slice_get entries q) refl log.id found in
    let r = read.each q e.0 e.1 in
    let same : body ≡ logged.body = one_body (body_at c 4 key) body logged.body held.2 (ap (body_at c 4) held.1 ∙ logged.held) in
    let lower : q < at = subst (λ k. q < k) read.long (inside entries q e.0 e.1) in
    let again : r.0.id ≡ log.id = sym (ap (λ (x : LogEntry). x.id) r.2) ∙ e.2 in
    record { place = at; below = lt; wrong = inr (held.0, held.1, held.2, (log, subst (λ b. IsLogAt at b log) (sym same) logged.text, (q, r.0, lower, r.1, again))) }

pub repeated : (mid0 mid1 new : Option Contents) (ps : List Put) (n at q : ℕ) (entries : List LogEntry) (log : LogRecord) (e : StoreError) → at < n → Same mid0 mid1 → Same mid1 new →
    IfSome mid0 (λ c. IsReadTo (with_all c ps) at entries) → IfSome mid1 (λ c. IsLogged (with_all c ps) at log) → id_at entries q ≡ Some log.id →
    IfSome new (λ c. IfDamage e (IsHeldAt (with_all c ps) at)) → IfSome new (λ c. IfDamage e (WrongBelow n (with_all c ps)))
repeated mid0 mid1 None ps n at q entries log e lt s0 s1 read logged found held = tt
repeated mid0 mid1 (Some c) ps n at q entries log e lt s0 s1 read logged found held =
    repeats (with_all c ps) n at q entries log e lt (told_on mid0 mid1 (λ d. IsReadTo (with_all d ps) at entries) s0 read c (s1 c refl))
    (told_on mid1 (Some c) (λ d. IsLogged (with_all d ps) at log) s1 logged c refl) found held

-- what was looked for is there
pub found_at : {P : ℕ → Type 0} (o : Option ℕ) → is_some o ≡ true → IfSome o P → (q : ℕ) × P q
found_at None is h = absurd cc
found_at (Some q) is h = (q, h)

-- one more record
read_next : (c : Contents) (at : ℕ) (entries : List LogEntry) (log : LogRecord) → IsReadTo c at entries → IsLogged c at log → IsReadTo c (at + 1) (entries ++ record { id = log.id; parents = log.parents } ∷ [])
read_next c at entries log read logged = record {
  long = omega (arith, length-append entries (record { id = log.id; parents = log.parents } ∷ []), read.long);
  each = λ r e here. by r e here (place entries (record { id = log.id; parents = log.parents }) e r here);
}
  where
    by : (r : ℕ) (e : LogEntry) → slice_get (entries ++ record { id = log.id; parents = log.parents } ∷ []) r ≡ Some e → Place entries r → (l : LogRecord) × IsLogged c r l × (e ≡ record { id = l.id; parents = l.parents })
    by r e here (in_front lt) = read.each r e (sym (kept_at entries _ r lt) ∙ here)
    by r e here at_back = (log, subst (λ k. IsLogged c k log) (sym read.long) logged, let t = sym here ∙ last_at entries (record { id = log.id; parents = log.parents }) in cc)

pub read_more : (mid new : Option Contents) (ps : List Put) (at : ℕ) (entries more : List LogEntry) (log : LogRecord) → Same mid new →
    IfSome mid (λ c. IsReadTo (with_all c ps) at entries) → IfSome new (λ c. IsLogged (with_all c ps) at log) → more ≡ entries ++ record { id = log.id; parents = log.parents } ∷ [] →
    IfSome new (λ c. IsReadTo (with_all c ps) (at + 1) more)
read_more mid None ps at entries more log same read logged is = tt
read_more mid (Some c) ps at entries more log same read logged is =
    subst (IsReadTo (with_all c ps) (at + 1)) (sym is) (read_next (with_all c ps) at entries log (told_on mid (Some c) (λ d. IsReadTo (with_all d ps) at entries) same read c refl) logged)

-- parents below the record's position are in the graph
pub known : (at : ℕ) (entries : List LogEntry) (log : LogRecord) → IsLogWithin at log → length entries ≡ at → (p : ℕ) → Contains (list_of log.parents) p → p < length entries
known at entries log below long p c = subst (λ n. p < n) (sym long) (subst (λ x. x < at) c.2 (below c.0 p c.1))

pub one_longer : (at : ℕ) (entries more : List LogEntry) (e : LogEntry) → length entries ≡ at → more ≡ entries ++ e ∷ [] → length more ≡ at + 1
one_longer at entries more e long is = ap length is ∙ omega (arith, length-append entries (e ∷ []), long)

-- the two records of one body are one
one_log : (r q : ℕ) (body : List ℕ) (a b : LogRecord) → IsLogAt r body a → IsLogAt q body b → a ≡ b
one_log r q body a b x y = let both = log_apart a b [] [] x.formed y.formed (append-nil (log_text a) ∙ sym x.whole ∙ y.whole ∙ sym (append-nil (log_text b))) in both.0

-- the record of the log at a place
module _ (c : Contents) (h : List Revision) (ks : List Kept) (grown : IsGrown h) (long : length ks ≡ length h) (logged : AreLogged h ks (c 4)) where
  pub there : (r : ℕ) → r < length h → (v : Revision) × (k : Kept) × (body : List ℕ) × (slice_get h r ≡ Some v) × (body_at c 4 (number_text r) ≡ Some body) × IsLogBody r v k body
  there r lt =
      let v = within h r lt in
      let k = within ks r (subst (λ n. r < n) (sym long) lt) in
      let b = logged.each r v.0 k.0 v.1 k.1 in
      (v.0, k.0, b.0, v.1, b.1, b.2)

  pub there_kept : (r : ℕ) (lt : r < length h) → slice_get ks r ≡ Some (there r lt).1
  unfolding there
  there_kept r lt = (within ks r (subst (λ n. r < n) (sym long) lt)).1

  never_unlogged : (r : ℕ) (d : Damage) → r < length h → UnloggedAt c r d → ⊥
  never_unlogged r (Bad table key body) lt wrong =
      let t = there r lt in
      let same : body ≡ t.2 = one_body (body_at c 4 key) body t.2 wrong.2 (ap (body_at c 4) wrong.1 ∙ t.4) in
      wrong.3 (record { id = t.0.id; next_node = t.1.next; parents = t.5.parents }) (subst (λ b. IsLogAt r b (record { id = t.0.id; next_node = t.1.next; parents = t.5.parents })) (sym same) t.5.text)
  never_unlogged r (Missing table key) lt wrong = let t = there r lt in absurd (let both : None ≡ Some t.2 = sym wrong.2 ∙ ap (body_at c 4) wrong.1 ∙ t.4 in cc)

  -- a record that was read is that of the revision
  pub read_is : (r : ℕ) (log : LogRecord) → IsLogged c r log → (lt : r < length h) → (log.id ≡ (there r lt).0.id) × (list_of log.parents ≡ (there r lt).0.parents) × (log.next_node ≡ (there r lt).1.next)
  read_is r log is lt =
      let t = there r lt in
      let same : is.body ≡ t.2 = one_body (body_at c 4 (number_text r)) is.body t.2 is.held t.4 in
      let one : log ≡ record { id = t.0.id; next_node = t.1.next; parents = t.5.parents } = one_log r r is.body log (record { id = t.0.id; next_node = t.1.next; parents = t.5.parents }) is.text (subst (λ b. IsLogAt r b (record { id = t.0.id; next_node = t.1.next; parents = t.5.parents })) (sym same) t.5.text) in
      (ap (λ (l : LogRecord). l.id) one, ap (λ (l : LogRecord). list_of l.parents) one ∙ t.5.same, ap (λ (l : LogRecord). l.next_node) one)

  never_repeated : (r : ℕ) (d : Damage) → r < length h → RepeatedAt c r d → ⊥
  never_repeated r (Bad table key body) lt wrong =
      let log = wrong.3.0 in
      let earlier = wrong.3.2 in
      let lower : earlier.0 < length h = omega (arith, lt, earlier.2) in
      let a = read_is r log (record { body = body; held = ap (body_at c 4) (sym wrong.1) ∙ wrong.2; text = wrong.3.1 }) lt in
      let b = read_is earlier.0 earlier.1 earlier.3 lower in
      let same : earlier.0 ≡ r = grown.differ log.id earlier.0 r ((there earlier.0 lower).0, (there earlier.0 lower).3, sym b.0 ∙ earlier.4) ((there r lt).0, (there r lt).3, sym a.0) in
      omega (arith, same, earlier.2)
  never_repeated r (Missing table key) lt wrong = wrong

  pub never_wrong : (n : ℕ) (d : Damage) → n ≡ length h → WrongBelow n c d → ⊥
  never_wrong n d is wrong =
      let lt : wrong.place < length h = subst (λ m. wrong.place < m) is wrong.below in
      ⊎_elim (never_unlogged wrong.place d lt) (never_repeated wrong.place d lt) wrong.wrong

  -- the graph that was read is that of the history
  pub read_tells : (entries : List LogEntry) → IsReadTo c (length h) entries → IsGraphOf h entries
  read_tells entries read = record {
    long = read.long;
    each = λ r e v here at.
        let l = read.each r e here in
        let lt = inside h r v at in
        let is = read_is r l.0 l.1 lt in
        let one : (there r lt).0 ≡ v = let t = sym (there r lt).3 ∙ at in cc in
        (ap (λ (x : LogEntry). x.id) l.2 ∙ is.0 ∙ ap (λ (x : Revision). x.id) one, ap (λ (x : LogEntry). list_of x.parents) l.2 ∙ is.1 ∙ ap (λ (x : Revision). x.parents) one);
  }

-- a damage of the log or of a text is one of no state
pub shown_log : (c : Contents) (r : ℕ) (d : Damage) → UnloggedAt c r d ⊎ RepeatedAt c r d → IsShown c d
shown_log c r (Bad table key body) (inl w) = ap (λ t. body_at c t key) w.0 ∙ w.2
shown_log c r (Bad table key body) (inr w) = ap (λ t. body_at c t key) w.0 ∙ w.2
shown_log c r (Missing table key) (inl w) = ap (λ t. body_at c t key) w.0 ∙ w.2
shown_log c r (Missing table key) (inr w) = absurd w
