-- An older store with the present version, and without its certificates.
use Rattle.std.specs.Prelude.{bytes_eq}
use Rattle.std.specs.Cmp.Lexicographic.{slice_cmp}
use Rattle.std.specs.FinMap.{empty, get, get-empty, insert, same_map, slice_cmp-IsAntisymmetric, nat_cmp-IsAntisymmetric}
use Rattle.std.specs.Int.{w64, to_be_bytes}
use Rattle.std.specs.Ordering.{nat_cmp}
use Rattle.std.proofs.Common.{◌≡◌, ℕ, Bool, true, false, cond, List, ◌∷◌, length, Option, Some, None, refl, sym, ap, ◌∙◌, subst, inl, inr, arith}
use Rattle.std.proofs.lemmas.Cmp.{nat_list_cmp_total}
use Rattle.mtn_history.specs.Certificates.{AreCertRecords}
use Rattle.mtn_history.specs.Meta.{count_key, version, version_key}
use Rattle.mtn_history.specs.Stands.{Stands, StandsFor}
use Rattle.mtn_history.proofs.FileLemmas.{other_table}
use Rattle.mtn_history.proofs.MetaLemmas.{held_version, none_held}
use Rattle.mtn_model.specs.State.{State}
use Rattle.mtn_model.specs.Table.{Contents, Table, body_at, with_record}
use Rattle.mtn_replay.specs.Lawful.{IsLawful}
use Rattle.mtn_replay.proofs.FileLemmas.{get_inserted, no_certificate}
use Rattle.mtn_old_stores.specs.Older.{IsOldLawful, IsOutside, OldState, StandsOld, old_version}
use Rattle.mtn_old_stores.specs.Migrating.{bare}

-- what is put last under a key stands
put_over : (t : Table) (k a b : List ℕ) → insert (insert t k a) k b ≡ insert t k b
put_over t k a b =
    same_map nat_list_cmp_total (slice_cmp-IsAntisymmetric nat_cmp-IsAntisymmetric) (insert (insert t k a) k b) (insert t k b)
    (λ q. get_inserted (insert t k a) k b q ∙ ap (cond (bytes_eq q k) (Some b)) (get_inserted t k a q) ∙ by (bytes_eq q k) (get t q) ∙ sym (get_inserted t k b q))
  where
    by : (e : Bool) (x : Option (List ℕ)) → cond e (Some b) (cond e (Some a) x) ≡ cond e (Some b) x
    by true x = refl
    by false x = refl

none_there : (key body : List ℕ) → get (empty {X = List ℕ} {R = slice_cmp nat_cmp}) key ≡ Some body → ⊥
none_there key body found = let none : get (empty {X = List ℕ} {R = slice_cmp nat_cmp}) key ≡ None = get-empty (slice_cmp nat_cmp) key in cc

no_records : AreCertRecords empty empty
no_records = record {
  each = λ c held. absurd (no_certificate c held);
  only = λ key body found. absurd (none_there key body found);
}

pub bare_lawful : (f : List ℕ → List ℕ) (s : OldState) → IsOldLawful f s → IsLawful f (bare s)
bare_lawful f s law = record {
  files = law.files;
  history = law.history;
  log = law.log;
  certs = record {
    lawful = λ c held. absurd (no_certificate c held);
    revisions = λ c held. absurd (no_certificate c held);
    keys = λ c held. absurd (no_certificate c held);
  };
  spoken_of = λ c held. absurd (no_certificate c held);
  keys = record {
    ids = λ id name found. absurd (none_there id name found);
    names = λ id name found. absurd (none_there id name found);
  };
}

keys_outside : IsOutside 7
keys_outside = record {
  meta = λ e. absurd (omega (arith, e));
  files = λ e. absurd (omega (arith, e));
  texts = λ e. absurd (omega (arith, e));
  log = λ e. absurd (omega (arith, e));
  rosters = λ e. absurd (omega (arith, e));
  certs = λ e. absurd (omega (arith, e));
}

certs_outside : IsOutside 8
certs_outside = record {
  meta = λ e. absurd (omega (arith, e));
  files = λ e. absurd (omega (arith, e));
  texts = λ e. absurd (omega (arith, e));
  log = λ e. absurd (omega (arith, e));
  rosters = λ e. absurd (omega (arith, e));
  certs = λ e. absurd (omega (arith, e));
}

pub bare_stands : (f : List ℕ → List ℕ) (c : Contents) (s : OldState) → StandsOld f c s → StandsFor f (with_record c 1 version_key version) (bare s)
bare_stands f c s stands = record {
  lawful = bare_lawful f s stands.lawful;
  base = record {
    meta = ap (λ (m : Table). insert m version_key version) stands.base.meta ∙ put_over (insert empty count_key (to_be_bytes w64 (length s.log))) version_key old_version version;
    files = stands.base.files;
    texts = stands.base.texts;
    history = stands.base.history;
    spelled = stands.base.spelled;
    kept = stands.base.kept;
    revisions = stands.base.revisions;
    log = stands.base.log;
    rosters = stands.base.rosters;
  };
  keys = stands.others 7 keys_outside;
  certs = subst (AreCertRecords empty) (sym (stands.others 8 certs_outside)) no_records;
  others = λ t other. other_table 1 t _ _ other.meta
      ∙ stands.others t (record { meta = other.meta; files = other.files; texts = other.texts; log = other.log; rosters = other.rosters; certs = other.older });
}

-- ---- the version

pub held_old : (f : List ℕ → List ℕ) (c : Contents) (s : OldState) → StandsOld f c s → body_at c 1 version_key ≡ Some old_version
held_old f c s stands =
    ap (λ (m : Table). get m version_key) stands.base.meta ∙ get_inserted (insert empty count_key (to_be_bytes w64 (length s.log))) version_key old_version version_key

pub versions_differ : (o : Option (List ℕ)) → o ≡ Some old_version → o ≡ Some version → ⊥
versions_differ o old new = let same : 49 ≡ 50 = ap first_byte (sym old ∙ new) in absurd (omega (arith, same))
  where
    first_byte : Option (List ℕ) → ℕ
    first_byte (Some (b ∷ bytes)) = b
    first_byte _ = 0

pub clash : (o : Option (List ℕ)) (body : List ℕ) → o ≡ Some body → o ≡ None → ⊥
clash o body there none = cc

pub count_held : (f : List ℕ → List ℕ) (c : Contents) (s : OldState) → StandsOld f c s → body_at c 1 count_key ≡ Some (to_be_bytes w64 (length s.log))
count_held f c s stands =
    ap (λ (m : Table). get m count_key) stands.base.meta ∙ get_inserted (insert empty count_key (to_be_bytes w64 (length s.log))) version_key old_version count_key
    ∙ get_inserted empty count_key (to_be_bytes w64 (length s.log)) count_key

pub one_way : (f : List ℕ → List ℕ) (c : Contents) (s : OldState) (t : State) → StandsOld f c s → Stands f c t → ⊥
one_way f c s t old (inl new) = clash (body_at c 1 version_key) old_version (held_old f c s old) (none_held c t version_key new)
one_way f c s t old (inr stands) = versions_differ (body_at c 1 version_key) (held_old f c s old) (held_version f c t stands)
