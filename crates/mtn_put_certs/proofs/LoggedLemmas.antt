-- A certificate of a revision that the log does not have: what is shown for it is one of the draft's records.
use Rattle.std.specs.Prelude.{Contains, IfErr, IfSome, IsSome, option_map, slice_get}
use Rattle.std.proofs.Common.{◌≡◌, ◌<◌, inl, inr, ℕ, List, Option, Some, None, Result, Err, sym, ap, ◌∙◌, subst, arith}
use Rattle.mtn_ancestry.specs.declared.pos.LogEntry.{LogEntry}
use Rattle.mtn_base.specs.declared.id.Id.{Id}
use Rattle.mtn_branches.specs.Graphs.{IsHeldBy}
use Rattle.mtn_certs.specs.Certificates.{Certificate}
use Rattle.mtn_history_laws.specs.History.{IsPlaceOf, Revision}
use Rattle.mtn_history.specs.Certificates.{CertDamage, IsCertKey, cert_key}
use Rattle.mtn_history.specs.Damage.{IsDamage}
use Rattle.mtn_history.specs.Errors.{IfDamage}
use Rattle.mtn_history.specs.Logs.{IsHeldAt, IsLogged, IsReadTo, WrongBelow}
use Rattle.mtn_history.specs.Marked.{IsCounted}
use Rattle.mtn_history.specs.Places.{IsFoundAt, IsPlaced, UnplacedBelow}
use Rattle.mtn_history.specs.Stands.{IsFounded, Stands}
use Rattle.mtn_history.specs.declared.errors.Damage.{Damage}
use Rattle.mtn_history.specs.declared.errors.Damage.TheVariants.{Bad, Missing}
use Rattle.mtn_history.specs.declared.errors.StoreError.{StoreError}
use Rattle.mtn_history.specs.declared.errors.StoreError.TheVariants.{Damaged, Failed, NoMemory}
use Rattle.mtn_history.specs.declared.pending.Pending.{Pending}
use Rattle.mtn_history.proofs.Founding.{told_of}
use Rattle.mtn_history.proofs.MarkedLemmas.{counted_some, founded_stands, log_bad, named_is}
use Rattle.mtn_model.specs.State.{State}
use Rattle.mtn_model.specs.Table.{Contents, body_at}
use Rattle.mtn_ports.specs.Kept.{with_all}
use Rattle.mtn_records.specs.declared.record.LogRecord.{LogRecord}
use Rattle.mtn_replay.proofs.Places.{place_has, within}
use Rattle.mtn_put_certs.specs.Reading.{AreRecorded, IsCertHeld, IsRecorded}
use Rattle.mtn_put_certs.proofs.CertLemmas.{are_parts, one_key}

-- a fact of the damage by another
pub as_damage : (e : StoreError) (P Q : Damage → Type 0) → ((d : Damage) → P d → Q d) → IfDamage e P → IfDamage e Q
as_damage (Damaged d) P Q leads fact = leads d fact
as_damage Failed P Q leads fact = tt
as_damage NoMemory P Q leads fact = tt

-- the certificate's own record, where its revision has no text
own_damage : (c : Contents) (x : Certificate) (d : Damage) → IsRecorded c x → body_at c 3 x.revision.0 ≡ None → IsCertHeld c x d → CertDamage c d
own_damage c x (Missing table key) recorded none held = held
own_damage c x (Bad table key body) recorded none held = (held.0, held.2, inr speaks_of_none)
  where
    speaks_of_none : (cert : Certificate) (text : List ℕ) → IsCertKey key cert → body_at c 3 cert.revision.0 ≡ Some text → ⊥
    speaks_of_none cert text is spoken_of =
        let k = recorded.key in
        let same : cert ≡ x = one_key cert x (are_parts cert is.lawful is.revision is.made_by) (are_parts x k.lawful k.revision k.made_by) (sym is.whole ∙ held.1) in
        let some : body_at c 3 x.revision.0 ≡ Some text = subst (λ (y : Certificate). body_at c 3 y.revision.0 ≡ Some text) same spoken_of in
        let both : None ≡ Some text = sym none ∙ some in
        cc

pub shows_cert : (c : Contents) (p q : Pending) (x : Certificate) (told : Option Contents) (shown : Id) (o : Option ℕ) (text : List ℕ) (e : StoreError) → q ≡ p → shown ≡ x.revision → told ≡ Some c → o ≡ None → IsRecorded (with_all c p.batch) x →
    IfSome told (λ d. IsPlaced (with_all d p.batch) p.count shown o text) → (IsSome (body_at (with_all c q.batch) 8 (cert_key x)) → IfDamage e (IsCertHeld (with_all c q.batch) x)) → IfDamage e (IsDamage (with_all c p.batch))
shows_cert c p q x told shown o text e same shows tells is recorded placed held =
    let at : IsPlaced (with_all c p.batch) p.count shown o text = told_of told c (λ d. IsPlaced (with_all d p.batch) p.count shown o text) tells placed in
    let none : body_at (with_all c p.batch) 3 x.revision.0 ≡ None = subst (λ (id : Id). body_at (with_all c p.batch) 3 id.0 ≡ None) shows (subst (λ z. IsPlaced (with_all c p.batch) p.count shown z text) is at) in
    as_damage e (IsCertHeld (with_all c p.batch) x) (IsDamage (with_all c p.batch)) (λ d h. inr (inr (inr (inr (inr (inr (inr (own_damage (with_all c p.batch) x d recorded none h))))))))
    (subst (λ (z : Pending). IsSome (body_at (with_all c z.batch) 8 (cert_key x)) → IfDamage e (IsCertHeld (with_all c z.batch) x)) same held recorded.there)

-- a text without a position
pub shows_text : (c : Contents) (p : Pending) (told : Option Contents) (e : StoreError) → told ≡ Some c → IsCounted p c → IfSome told (λ d. IfDamage e (UnplacedBelow p.count (with_all d p.batch))) → IfDamage e (IsDamage (with_all c p.batch))
shows_text c p told e tells counts wrong =
    as_damage e (UnplacedBelow p.count (with_all c p.batch)) (IsDamage (with_all c p.batch))
    (λ d w. inr (inr (inr (inr (inl (record { meta = record { count = p.count; is_new = p.is_new }; read = counts; wrong = w }))))))
    (told_of told c (λ d. IfDamage e (UnplacedBelow p.count (with_all d p.batch))) tells wrong)

-- a log that tells no graph
pub shows_graph : {X : Type 0} (told : Option Contents) (p q : Pending) (r : Result X StoreError) (e : StoreError) → r ≡ Err e → q ≡ p → IfSome told (λ c. IfDamage e (WrongBelow q.count (with_all c q.batch))) →
    IfSome told (λ c. IsCounted p c → IfErr r (λ y. IfDamage y (IsDamage (with_all c p.batch))))
shows_graph {X} told p q r e is same wrong = by told (subst (λ (z : Pending). IfSome told (λ c. IfDamage e (WrongBelow z.count (with_all c z.batch)))) same wrong)
  where
    by : (now : Option Contents) → IfSome now (λ c. IfDamage e (WrongBelow p.count (with_all c p.batch))) → IfSome now (λ c. IsCounted p c → IfErr r (λ y. IfDamage y (IsDamage (with_all c p.batch))))
    by None w = tt
    by (Some c) w = λ counts. subst (λ (x : Result X StoreError). IfErr x (λ y. IfDamage y (IsDamage (with_all c p.batch)))) (sym is)
        (as_damage e (WrongBelow p.count (with_all c p.batch)) (IsDamage (with_all c p.batch))
        (λ d h. inr (inr (inl (record { count = p.count; counted = counted_some p.is_new (with_all c p.batch) p.count counts (λ z. omega (arith, z, h.below)); wrong = h })))) w)

-- what stands in the log at the position of a text, where the graph does not have the text's id
module _ (c : Contents) (p : Pending) (entries : List LogEntry) (id : Id) (r : ℕ) (low : r < p.count) (counts : IsCounted p c) (read : IsReadTo (with_all c p.batch) p.count entries) (unknown : IsHeldBy entries id → ⊥) where
  entry : (e : LogEntry) × (slice_get entries r ≡ Some e)
  entry = within entries r (subst (λ n. r < n) (sym read.long) low)

  logged : (log : LogRecord) × IsLogged (with_all c p.batch) r log × (entry.0 ≡ record { id = log.id; parents = log.parents })
  logged = read.each r entry.0 entry.1

  log_id : (h : List Revision) → IsPlaceOf h id r → IsPlaceOf h logged.0.id r → logged.0.id ≡ id
  log_id h at own =
      let same : at.0 ≡ own.0 = (let both : Some at.0 ≡ Some own.0 = sym at.1 ∙ own.1 in cc) in
      sym own.2 ∙ ap (λ (v : Revision). v.id) (sym same) ∙ at.2

  unfit : (told : Option Contents) (o : Option ℕ) (text : List ℕ) → told ≡ Some c → o ≡ Some r → ((f : List ℕ → List ℕ) (s : State) (d : IsFounded f told p s) → IsFoundAt s d.stands.history id o text) → (f : List ℕ → List ℕ) (s : State) → Stands f (with_all c p.batch) s → ⊥
  unfit told o text tells is found f s stands =
      let d : IsFounded f told p s = founded_stands f told c p s tells counts stands in
      let at = place_has d.stands.history id r (sym (found f s d).0 ∙ is) in
      let own = named_is f told p s d r logged.0 low (subst (λ z. IfSome z (λ x. IsLogged (with_all x p.batch) r logged.0)) (sym tells) logged.1) in
      unknown (r, ap (option_map (λ (e : LogEntry). e.id)) entry.1 ∙ ap Some (ap (λ (e : LogEntry). e.id) logged.2 ∙ log_id d.stands.history at own))

  pub shows_log : (told now : Option Contents) (q : Pending) (o : Option ℕ) (text : List ℕ) (e : StoreError) → told ≡ Some c → now ≡ Some c → q ≡ p → o ≡ Some r → ((f : List ℕ → List ℕ) (s : State) (d : IsFounded f told p s) → IsFoundAt s d.stands.history id o text) →
      IfSome now (λ d. IfDamage e (IsHeldAt (with_all d q.batch) r)) → IfDamage e (IsDamage (with_all c p.batch))
  shows_log told now q o text e tells at same is found held =
      as_damage e (IsHeldAt (with_all c p.batch) r) (IsDamage (with_all c p.batch))
      (λ d h. inr (inr (inr (inr (inr (inl (record {
        count = p.count;
        counted = counted_some p.is_new (with_all c p.batch) p.count counts (λ z. omega (arith, z, low));
        place = r;
        below = low;
        bad = log_bad (with_all c p.batch) r logged.0 d logged.1 h;
        held = inl h;
        unfit = unfit told o text tells is found;
      })))))))
      (subst (λ (z : Pending). IfDamage e (IsHeldAt (with_all c z.batch) r)) same (told_of now c (λ d. IfDamage e (IsHeldAt (with_all d q.batch) r)) at held))

-- the first certificate that is not known, over the records that the certificates and the graph were read of
pub shows_first : (c : Contents) (p m q : Pending) (first second : Option Contents) (log : List LogEntry) (certs shown : List Certificate) (x : Certificate) (e : StoreError) → m ≡ p → q ≡ m → first ≡ Some c → second ≡ Some c → shown ≡ certs →
    IfSome first (λ d. AreRecorded (with_all d p.batch) certs) → IfSome second (λ d. IsReadTo (with_all d m.batch) m.count log) → Contains shown x →
    (IsCounted q c → IsReadTo (with_all c q.batch) q.count log → IsRecorded (with_all c q.batch) x → IfDamage e (IsDamage (with_all c q.batch))) → IsCounted p c → IfDamage e (IsDamage (with_all c p.batch))
shows_first c p m q first second log certs shown x e mid last tells told shows recorded read among shown_by counts =
    (subst (λ (z : Pending). IsCounted z c → IsReadTo (with_all c z.batch) z.count log → IsRecorded (with_all c z.batch) x → IfDamage e (IsDamage (with_all c z.batch))) (last ∙ mid) shown_by)
    counts
    (subst (λ (z : Pending). IsReadTo (with_all c z.batch) z.count log) mid (told_of second c (λ d. IsReadTo (with_all d m.batch) m.count log) told read))
    (told_of first c (λ d. AreRecorded (with_all d p.batch) certs) tells recorded x (subst (λ xs. Contains xs x) shows among))
