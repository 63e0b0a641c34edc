-- The certificates that a draft holds, and the keys of their records.
use Rattle.std.specs.Prelude.{Contains, IfErr, IfSome, IsSome, MatchBool, is_some}
use Rattle.std.specs.Cmp.{nat_cmp_total, tied_itself}
use Rattle.std.specs.Cmp.Lexicographic.{slice_cmp}
use Rattle.std.specs.FinMap.{get, get-empty}
use Rattle.std.specs.Ordering.{nat_cmp, ordering_then}
use Rattle.std.proofs.Common.{◌≡◌, ◌↔◌, inl, inr, ℕ, Bool, true, false, List, [], ◌∷◌, ◌++◌, Option, Some, None, Result, Ok, Err, refl, sym, ap, ◌∙◌, subst}
use Rattle.mtn_base.specs.declared.id.Id.{Id}
use Rattle.mtn_certs.specs.Certificates.{Certificate, IsIdBytes, is_field}
use Rattle.mtn_certs.specs.Order.{cert_cmp}
use Rattle.mtn_model.specs.State.{Holds, State}
use Rattle.mtn_model.specs.Table.{Contents, body_at}
use Rattle.mtn_ports.specs.Kept.{IsAbove, IsBody, Same, with_all}
use Rattle.mtn_records.specs.Apart.{id_apart}
use Rattle.mtn_records.specs.Fields.{field_text, id_text}
use Rattle.mtn_history.specs.Certificates.{CertDamage, IsCertKey, KeyDamage, cert_key}
use Rattle.mtn_history.specs.Errors.{IfDamage}
use Rattle.mtn_history.specs.Stands.{IsDraft, IsNew, Stands, StandsFor}
use Rattle.mtn_history.specs.declared.errors.Damage.{Damage}
use Rattle.mtn_history.specs.declared.errors.Damage.TheVariants.{Bad}
use Rattle.mtn_history.specs.declared.errors.StoreError.{StoreError}
use Rattle.mtn_history.specs.declared.errors.StoreError.TheVariants.{Damaged, Failed, NoMemory}
use Rattle.mtn_history.specs.declared.pending.Pending.{Pending}
use Rattle.mtn_history.proofs.CertRecords.{no_cert_damage, no_key_damage}
use Rattle.mtn_put_certs.specs.Parts.{AreParts, parts_of}
use Rattle.mtn_put_certs.specs.Reading.{AreAllBehind, AreBehind, IsCertBehind, IsNextCert, IsRecorded}
use Rattle.mtn_put_certs.specs.Walking.{IsBehind, IsFollowing, IsNoneAbove}
use Rattle.mtn_put_certs.proofs.CertLemmas.{are_parts, held_by, one_key}
use Rattle.mtn_put_certs.proofs.Walking.{AreUpTo, at_end, moved_to, none_yet, one_more}

-- ---- fronts of keys

pub above_more : (front : List ℕ) (y : ℕ) (rest : List ℕ) → IsAbove front (front ++ y ∷ rest)
above_more [] y rest = refl
above_more (x ∷ xs) y rest = ap (λ o. ordering_then o (slice_cmp nat_cmp xs (xs ++ y ∷ rest))) (tied_itself nat_cmp_total x) ∙ above_more xs y rest

pub above_none : (xs : List ℕ) (y : ℕ) (rest : List ℕ) → IsAbove [] (xs ++ y ∷ rest)
above_none [] y rest = refl
above_none (x ∷ xs) y rest = refl

abbrev said : Certificate → List ℕ
said x = field_text x.name ++ (id_text x.key ++ (field_text x.value ++ field_text x.signature))

pub behind_revision : (x : Certificate) → IsBehind x.revision.0 (cert_key x)
behind_revision x = record { above = above_more x.revision.0 _ _; rest = said x; whole = refl }

pub behind_none : (x : Certificate) → IsBehind [] (cert_key x)
behind_none x = record { above = above_none x.revision.0 _ _; rest = cert_key x; whole = refl }

pub same_revision : (x : Certificate) (revision : Id) → IsIdBytes x.revision.0 → IsIdBytes revision.0 → IsBehind revision.0 (cert_key x) → x.revision ≡ revision
same_revision x revision own other behind = (id_apart x.revision revision (said x) behind.rest own.twenty other.twenty behind.whole).0

-- ---- what is held

body_of : (o : Option (List ℕ)) → IsSome o → (body : List ℕ) × (o ≡ Some body)
body_of (Some body) some = (body, refl)
body_of None some = absurd cc

-- a certificate that is held has its record
pub record_of : (b : Bool) (f : List ℕ → List ℕ) (c : Contents) (s : State) → MatchBool b (IsNew c s) (StandsFor f c s) → (x : Certificate) → Holds s.certs x → (body_at c 8 (cert_key x) ≡ Some []) × IsCertKey (cert_key x) x
record_of true f c s new x held = absurd (let none : get s.certs x ≡ None = ap (λ (t : State). get t.certs x) new.state ∙ get-empty cert_cmp x in cc)
record_of false f c s stands x held =
    let law = stands.lawful.certs in
    (stands.certs.each x held, record { whole = refl; lawful = law.lawful x held; revision = law.revisions x held; made_by = law.keys x held })

parts_in : (c : Contents) (x : Certificate) → IsRecorded c x → AreParts (parts_of x)
parts_in c x own = are_parts x own.key.lawful own.key.revision own.key.made_by

-- the certificates whose records are behind a front
are_behind : (b : Bool) (f : List ℕ → List ℕ) (c : Contents) (s : State) → MatchBool b (IsNew c s) (StandsFor f c s) → (front : List ℕ) (certs : List Certificate) → AreAllBehind c front certs → AreBehind s front certs
are_behind b f c s stands front certs read x = (
  λ among.
      let own = (read x).0 among in
      let body = body_of (body_at c 8 (cert_key x)) own.0.there in
      (held_by b f c s x body.0 stands (parts_in c x own.0) body.1, own.1),
  λ held.
      let r = record_of b f c s stands x held.0 in
      (read x).1 (record { key = r.1; there = ap is_some r.0 }, held.1),
)

pub behind_told : (f : List ℕ → List ℕ) (c : Contents) (p : Pending) (s : State) (front : List ℕ) (certs : List Certificate) → IsDraft f c p s → AreAllBehind (with_all c p.batch) front certs → AreBehind s front certs
behind_told f c p s front certs draft read = are_behind p.is_new f (with_all c p.batch) s draft.stands front certs read

pub at_told : (told : Option Contents) (c : Contents) (P : Contents → Type 0) → told ≡ Some c → IfSome told P → P c
at_told told c P at fact = subst (λ o. IfSome o P) at fact

-- those of one revision
pub of_revision : (f : List ℕ → List ℕ) (c : Contents) (p : Pending) (s : State) → IsDraft f c p s → (revision : Id) (front : List ℕ) (certs : List Certificate) → front ≡ revision.0 → IsIdBytes revision.0 → AreBehind s front certs →
    (x : Certificate) → Contains certs x ↔ (Holds s.certs x × (x.revision ≡ revision))
of_revision f c p s draft revision front certs is id behind x =
    let own : AreBehind s revision.0 certs = subst (λ k. AreBehind s k certs) is behind in (
      λ among.
          let h = (own x).0 among in
          let r = record_of p.is_new f (with_all c p.batch) s draft.stands x h.0 in
          (h.0, same_revision x revision r.1.revision id h.1),
      λ held. (own x).1 (held.0, subst (λ (r : Id). IsBehind r.0 (cert_key x)) held.1 (behind_revision x)),
    )

-- all
pub of_all : (s : State) (front : List ℕ) (certs : List Certificate) → front ≡ [] → AreBehind s front certs → (x : Certificate) → Contains certs x ↔ Holds s.certs x
of_all s front certs is behind x =
    let own : AreBehind s [] certs = subst (λ k. AreBehind s k certs) is behind in
    (λ among. ((own x).0 among).0, λ held. (own x).1 (held, behind_none x))

-- ---- record by record

pub told_if : (told : Option Contents) (P : Contents → Type 0) → ((c : Contents) → told ≡ Some c → P c) → IfSome told P
told_if None P fact = tt
told_if (Some c) P fact = fact c refl

-- the certificates that were read up to a key
abbrev pub AreRead : Contents → List ℕ → List ℕ → List Certificate → Type 0
AreRead c front last certs = AreUpTo (IsCertBehind c front) cert_key last certs

pub none_read : (told : Option Contents) (p : Pending) (front last : List ℕ) (certs : List Certificate) → last ≡ front → certs ≡ [] → IfSome told (λ c. AreRead (with_all c p.batch) front last certs)
none_read told p front last certs first none = told_if told (λ c. AreRead (with_all c p.batch) front last certs)
    (λ c at. subst (AreRead (with_all c p.batch) front last) (sym none) (subst (λ l. AreRead (with_all c p.batch) front l []) (sym first) (none_yet (IsCertBehind (with_all c p.batch) front) cert_key front (λ x own. own.1.above))))

cert_more : (c : Contents) (front last key : List ℕ) (certs : List Certificate) (x : Certificate) → IsNextCert c front last key (Some x) → AreRead c front last certs → AreRead c front key (certs ++ x ∷ [])
cert_more c front last key certs x next so_far =
    one_more (IsCertBehind c front) cert_key last key certs (λ y own above under. next.2 (cert_key y) above under (own.1, own.0.there)) so_far x next.0
    (λ y own same. one_key x y (parts_in c x next.0.0) (parts_in c y own.0) (sym next.1 ∙ sym same))

-- one more certificate
pub one_more_cert : (old new : Option Contents) (p q : Pending) (front last key : List ℕ) (certs more : List Certificate) (x : Certificate) (found : Option Certificate) → Same old new → q ≡ p → found ≡ Some x → more ≡ certs ++ x ∷ [] →
    IfSome new (λ c. IsNextCert (with_all c q.batch) front last key found) → IfSome old (λ c. AreRead (with_all c p.batch) front last certs) → IfSome new (λ c. AreRead (with_all c p.batch) front key more)
one_more_cert old None p q front last key certs more x found kept same is made next so_far = tt
one_more_cert old (Some c) p q front last key certs more x found kept same is made next so_far =
    let d = with_all c p.batch in
    let follows : IsNextCert d front last key (Some x) = subst (λ (r : Pending). IsNextCert (with_all c r.batch) front last key (Some x)) same (subst (IsNextCert (with_all c q.batch) front last key) is next) in
    subst (AreRead d front key) (sym made) (cert_more d front last key certs x follows (subst (λ o. IfSome o (λ e. AreRead (with_all e p.batch) front last certs)) (kept c refl) so_far))

-- none is left
pub all_read : (old new : Option Contents) (p q : Pending) (front last key : List ℕ) (certs : List Certificate) (found : Option Certificate) → Same old new → q ≡ p → found ≡ None →
    IfSome new (λ c. IsNextCert (with_all c q.batch) front last key found) → IfSome old (λ c. AreRead (with_all c p.batch) front last certs) → IfSome new (λ c. AreAllBehind (with_all c p.batch) front certs)
all_read old None p q front last key certs found kept same is next so_far = tt
all_read old (Some c) p q front last key certs found kept same is next so_far =
    let d = with_all c p.batch in
    let none : IsNoneAbove d 8 front last = subst (λ (r : Pending). IsNoneAbove (with_all c r.batch) 8 front last) same (subst (IsNextCert (with_all c q.batch) front last key) is next) in
    at_end (IsCertBehind d front) cert_key last certs (λ y own above. none (cert_key y) above (own.1, own.0.there)) (subst (λ o. IfSome o (λ e. AreRead (with_all e p.batch) front last certs)) (kept c refl) so_far)

-- the damage of the record that follows
pub next_damaged : {T : Type 0} (told : Option Contents) (p q : Pending) (front last key body shown seen : List ℕ) (found : Option (List ℕ × List ℕ)) (r : Result T StoreError) (e : StoreError) → q ≡ p → found ≡ Some (key, body) → shown ≡ key → seen ≡ body → r ≡ Err e →
    IfSome told (λ c. IsFollowing (with_all c q.batch) 8 front last found) → ((c : Contents) → body_at c 8 shown ≡ Some seen → IfDamage e (CertDamage c)) → IfSome told (λ c. IfErr r (λ x. IfDamage x (CertDamage (with_all c p.batch))))
next_damaged None p q front last key body shown seen found r e same is shows sees fails next damage = tt
next_damaged {T} (Some c) p q front last key body shown seen found r e same is shows sees fails next damage =
    let at = moved_to (Some c) q p 8 front last last found (Some (key, body)) same refl is next in
    subst (λ (x : Result T StoreError). IfErr x (λ y. IfDamage y (CertDamage (with_all c p.batch)))) (sym fails)
    (damage (with_all c p.batch) (ap (body_at (with_all c p.batch) 8) shows ∙ at.1 ∙ ap Some (sym sees)))

-- ---- damage

pub damage_is : (e : StoreError) (d : Damage) (P : Damage → Type 0) → IfDamage e (λ x. x ≡ d) → P d → IfDamage e P
damage_is (Damaged x) d P is fact = subst P (sym is) fact
damage_is Failed d P is fact = tt
damage_is NoMemory d P is fact = tt

pub stands_of : (b : Bool) (f : List ℕ → List ℕ) (c : Contents) (s : State) → MatchBool b (IsNew c s) (StandsFor f c s) → Stands f c s
stands_of true f c s new = inl new
stands_of false f c s stands = inr stands

never : {T : Type 0} (r : Result T StoreError) (P : Damage → Type 0) → ((d : Damage) → P d → ⊥) → IfErr r (λ e. IfDamage e P) → IfErr r (λ e. IfDamage e (λ _. ⊥))
never (Ok x) P none fact = fact
never (Err (Damaged d)) P none fact = none d fact
never (Err Failed) P none fact = fact
never (Err NoMemory) P none fact = fact

pub no_cert_is_damaged : {T : Type 0} (f : List ℕ → List ℕ) (told : Option Contents) (p : Pending) (c : Contents) (s : State) (r : Result T StoreError) → told ≡ Some c → IsDraft f c p s →
    IfSome told (λ d. IfErr r (λ e. IfDamage e (CertDamage (with_all d p.batch)))) → IfErr r (λ e. IfDamage e (λ _. ⊥))
no_cert_is_damaged f told p c s r at draft damaged =
    never r (CertDamage (with_all c p.batch)) (λ d. no_cert_damage f (with_all c p.batch) s d (stands_of p.is_new f (with_all c p.batch) s draft.stands))
    (subst (λ o. IfSome o (λ d. IfErr r (λ e. IfDamage e (CertDamage (with_all d p.batch))))) at damaged)

pub no_key_is_damaged : {T : Type 0} (f : List ℕ → List ℕ) (told : Option Contents) (p : Pending) (c : Contents) (s : State) (r : Result T StoreError) → told ≡ Some c → IsDraft f c p s →
    IfSome told (λ d. IfErr r (λ e. IfDamage e (KeyDamage (with_all d p.batch)))) → IfErr r (λ e. IfDamage e (λ _. ⊥))
no_key_is_damaged f told p c s r at draft damaged =
    never r (KeyDamage (with_all c p.batch)) (λ d. no_key_damage f (with_all c p.batch) s d (stands_of p.is_new f (with_all c p.batch) s draft.stands))
    (subst (λ o. IfSome o (λ d. IfErr r (λ e. IfDamage e (KeyDamage (with_all d p.batch))))) at damaged)

-- a name that is no field
pub no_field : (f : List ℕ → List ℕ) (told : Option Contents) (p : Pending) (c : Contents) (s : State) (e : StoreError) (key shown body tested out : List ℕ) (test : Bool) → told ≡ Some c → IsDraft f c p s →
    IfSome told (λ d. IsBody (body_at (with_all d p.batch) 7 key) test out) → test ≡ true → shown ≡ key → body ≡ out → tested ≡ out → is_field tested ≡ false → IfDamage e (λ d. d ≡ Bad 7 shown body) → IfDamage e (λ _. ⊥)
no_field f told p c s e key shown body tested out test at draft finds there is holds sees broken damage =
    let answer : body_at (with_all c p.batch) 7 key ≡ Some out =
    subst (λ t. IsBody (body_at (with_all c p.batch) 7 key) t out) there (subst (λ o. IfSome o (λ d. IsBody (body_at (with_all d p.batch) 7 key) test out)) at finds) in
    let found : body_at (with_all c p.batch) 7 shown ≡ Some body = ap (body_at (with_all c p.batch) 7) is ∙ answer ∙ ap Some (sym holds) in
    let no_name : is_field body ≡ false = ap is_field (holds ∙ sym sees) ∙ broken in
    damage_is e (Bad 7 shown body) (λ _. ⊥) damage
    (no_key_damage f (with_all c p.batch) s (Bad 7 shown body) (stands_of p.is_new f (with_all c p.batch) s draft.stands) (refl, found, λ id field. let both : true ≡ false = sym field ∙ no_name in cc))
