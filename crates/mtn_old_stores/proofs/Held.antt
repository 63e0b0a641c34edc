-- The certificates of a migrated state.
use Rattle.std.specs.Prelude.{is_some}
use Rattle.std.specs.FinMap.{contains_key-keys, keys}
use Rattle.std.specs.List.{list_any}
use Rattle.std.specs.Ordering.{eq_by_cmp, is_eq}
use Rattle.std.specs.declared.cmp.Ordering.{Ordering}
use Rattle.std.specs.declared.cmp.Ordering.TheVariants.{Less, Equal, Greater}
use Rattle.std.proofs.Common.{◌≡◌, ◌↔◌, ◌⊎◌, ⊎_elim, inl, inr, ◌||◌, Bool, true, false, List, [], ◌∷◌, Option, Some, None, refl, sym, ap, ◌∙◌, subst}
use Rattle.mtn_base.specs.declared.id.Id.{Id}
use Rattle.mtn_certs.specs.Certificates.{Certificate}
use Rattle.mtn_certs.specs.declared.cert.KeyName.{KeyName}
use Rattle.mtn_model.specs.State.{Certificates, Holds, State}
use Rattle.mtn_replay.specs.Certificates.{with_cert, with_key}
use Rattle.mtn_replay.proofs.CertLemmas.{held_more, held_stays, new_held}
use Rattle.mtn_replay.proofs.FileLemmas.{no_certificate}
use Rattle.mtn_old_stores.specs.Older.{HoldsOld, OldCertificate, OldCertificates, OldState, old_cmp}
use Rattle.mtn_old_stores.specs.Migrating.{IsUnder, and_made_by, bare, id_named, made_by, migrated, under_ids, with_certs, with_keys}
use Rattle.mtn_old_stores.proofs.OldOrder.{exact_olds}
use Rattle.mtn_old_stores.proofs.Putting.{keys_held}

abbrev pub has : List OldCertificate → OldCertificate → Bool
has certs c = list_any (eq_by_cmp old_cmp c) certs

-- a certificate of the list, under the id of its key
pub record IsOf (table : List KeyName) (certs : List OldCertificate) (x : Certificate) : Type 0 where
  pub of : OldCertificate
  pub among : has certs of ≡ true
  pub given : id_named table of.key ≡ Some x.key
  pub same : x ≡ made_by x.key of

pub second : (a b : Bool) → b ≡ true → (a || b) ≡ true
second true b e = refl
second false b e = e

later : (table : List KeyName) (c : OldCertificate) (certs : List OldCertificate) (x : Certificate) → IsOf table certs x → IsOf table (c ∷ certs) x
later table c certs x o = record { of = o.of; among = second (eq_by_cmp old_cmp o.of c) (has certs o.of) o.among; given = o.given; same = o.same }

-- ---- none but these

one_of : (table : List KeyName) (c : OldCertificate) (certs : List OldCertificate) (x : Certificate) → eq_by_cmp old_cmp c c ≡ true → ((s : State) → Holds (with_certs s (under_ids table certs)).certs x → Holds s.certs x ⊎ IsOf table certs x) →
    (o : Option Id) → id_named table c.key ≡ o → (s : State) → Holds (with_certs s (and_made_by o c (under_ids table certs))).certs x → Holds s.certs x ⊎ IsOf table (c ∷ certs) x
one_of table c certs x own rest None is s held = ⊎_elim (λ h. inl h) (λ o. inr (later table c certs x o)) (rest s held)
one_of table c certs x own rest (Some id) is s held =
    ⊎_elim (λ h. ⊎_elim (λ e. inr (first e)) (λ old. inl old) (held_more s.certs (made_by id c) x h)) (λ o. inr (later table c certs x o)) (rest (with_cert s (made_by id c)) held)
  where
    first : x ≡ made_by id c → IsOf table (c ∷ certs) x
    first e = let key : id ≡ x.key = sym (ap (λ (y : Certificate). y.key) e) in record {
      of = c;
      among = ap (λ b. b || has certs c) own;
      given = is ∙ ap Some key;
      same = e ∙ ap (λ i. made_by i c) key;
    }

pub none_other : (table : List KeyName) → ((c : OldCertificate) → eq_by_cmp old_cmp c c ≡ true) → (certs : List OldCertificate) (x : Certificate) (s : State) → Holds (with_certs s (under_ids table certs)).certs x → Holds s.certs x ⊎ IsOf table certs x
none_other table own [] x s held = inl held
none_other table own (c ∷ certs) x s held = one_of table c certs x (own c) (none_other table own certs x) (id_named table c.key) refl s held

-- ---- all of these

stay : (certs : List Certificate) (x : Certificate) (s : State) → Holds s.certs x → Holds (with_certs s certs).certs x
stay [] x s held = held
stay (c ∷ certs) x s held = stay certs x (with_cert s c) (held_stays s.certs c x held)

past : (o : Option Id) (c : OldCertificate) (others : List Certificate) (x : Certificate) → ((s : State) → Holds (with_certs s others).certs x) → (s : State) → Holds (with_certs s (and_made_by o c others)).certs x
past None c others x rest s = rest s
past (Some id) c others x rest s = rest (with_cert s (made_by id c))

here : (c : OldCertificate) (others : List Certificate) (x : Certificate) (o : Option Id) → o ≡ Some x.key → x ≡ made_by x.key c → (s : State) → Holds (with_certs s (and_made_by o c others)).certs x
here c others x None given same s = absurd cc
here c others x (Some id) given same s =
    let key : id ≡ x.key = cc in
    let is : x ≡ made_by id c = same ∙ ap (λ i. made_by i c) (sym key) in
    stay others x (with_cert s (made_by id c)) (subst (Holds (with_cert s (made_by id c)).certs) (sym is) (new_held s.certs (made_by id c)))

pub tied : (r : Ordering) → is_eq r ≡ true → r ≡ Equal
tied Less e = absurd cc
tied Equal e = refl
tied Greater e = absurd cc

pub all_these : (table : List KeyName) (certs : List OldCertificate) (c : OldCertificate) (x : Certificate) → has certs c ≡ true → id_named table c.key ≡ Some x.key → x ≡ made_by x.key c → (s : State) → Holds (with_certs s (under_ids table certs)).certs x
all_these table [] c x among given same s = absurd cc
all_these table (d ∷ certs) c x among given same s =
    by (all_these table certs c x) (eq_by_cmp old_cmp c d) refl among
  where
    by : (has certs c ≡ true → id_named table c.key ≡ Some x.key → x ≡ made_by x.key c → (t : State) → Holds (with_certs t (under_ids table certs)).certs x) → (b : Bool) → eq_by_cmp old_cmp c d ≡ b → (b || has certs c) ≡ true →
        Holds (with_certs s (and_made_by (id_named table d.key) d (under_ids table certs))).certs x
    by rest true is e =
        let one = exact_olds c d (tied (old_cmp c d) is) in
        here d (under_ids table certs) x (id_named table d.key) (subst (λ (q : OldCertificate). id_named table q.key ≡ Some x.key) one given) (subst (λ (q : OldCertificate). x ≡ made_by x.key q) one same) s
    by rest false is e = past (id_named table d.key) d (under_ids table certs) x (λ t. rest e given same t) s

-- ---- the state

keys_beside : (table : List KeyName) (s : State) → (with_keys s table).certs ≡ s.certs
keys_beside [] s = refl
keys_beside (k ∷ table) s = keys_beside table (with_key s k.id k.name)

pub among_keys : (certs : OldCertificates) (c : OldCertificate) → HoldsOld certs c → has (keys certs) c ≡ true
among_keys certs c held = sym (contains_key-keys certs c) ∙ ap is_some held

pub holds_migrated : ((c : OldCertificate) → eq_by_cmp old_cmp c c ≡ true) → (table : List KeyName) (s : OldState) (x : Certificate) → Holds (migrated table s).certs x ↔ IsUnder table s.certs x
holds_migrated own table s x =
    let list = keys s.certs in
    let beside = keys_beside table (with_certs (bare s) (under_ids table list)) in (
      λ held. ⊎_elim (λ none. absurd (no_certificate x none)) (λ o. record { of = o.of; held = keys_held s.certs o.of o.among; given = o.given; same = o.same })
          (none_other table own list x (bare s) (subst (λ (m : Certificates). Holds m x) beside held)),
      λ o. subst (λ (m : Certificates). Holds m x) (sym beside) (all_these table list o.of x (among_keys s.certs o.of o.held) o.given o.same (bare s)),
    )
