-- Putting a file leads from a state to a state.
use Rattle.std.proofs.Common.{◌≡◌, ◌≢◌, ◌≤◌, ℕ, Bool, true, false, cond, nat_lt, List, [], ◌∷◌, ◌++◌, length, Option, Some, None, refl, sym, ap, ◌∙◌, subst, inl, inr, arith, eqb}
use Rattle.std.specs.Prelude.{bytes_eq, MatchBool, IfSome, not}
use Rattle.std.specs.FinMap.{get-empty, insert, get, empty}
use Rattle.std.specs.Ordering.{nat_cmp}
use Rattle.std.specs.Cmp.Lexicographic.{slice_cmp}
use Rattle.std.proofs.lemmas.Bool.Decides.{nat_tests}
use Rattle.mtn_base.specs.declared.refusal.Cause.TheVariants.{Collision}
use Rattle.std.proofs.lemmas.Slice.Eq.{bytes_eq-Decides}
use Rattle.mtn_model.specs.Table.{Table, Contents, body_at, with_record, nothing, no_table}
use Rattle.mtn_model.specs.State.{State, empty_state}
use Rattle.mtn_replay.proofs.FileLemmas.{insert_held, keeps_more, lawful_more, empty_lawful, no_certificate}
use Rattle.mtn_replay.proofs.Histories.{history_none, history_kept}
use Rattle.mtn_ports.specs.Kept.{with_all, IsBody}
use Rattle.mtn_ports.proofs.KeptLemmas.{with_all-append}
use Rattle.mtn_history.specs.declared.pending.Pending.{Pending}
use Rattle.mtn_history.specs.Records.{put_of, meta_puts, record_puts}
use Rattle.mtn_history.specs.Stands.{StandsFor, Stands, IsNew, IsDraft}
use Rattle.mtn_replay.specs.Files.{file_refusal, collision, with_file}
use Rattle.mtn_base.specs.Hex.{id_of}

pub other_table : (n t : ℕ) (x y : Table) → t ≢ n → cond (eqb n t) x y ≡ y
other_table n t x y other = let test : eqb n t ≡ false = grind (arith, nat_tests) in ap (λ b. cond b x y) test

-- a file goes behind the records of a store
file_stands : (f : List ℕ → List ℕ) (c : Contents) (s : State) (bytes : List ℕ) → StandsFor f c s → get s.files (f bytes) ≡ None → length bytes ≤ 67108864 →
    StandsFor f (with_record c 2 (f bytes) bytes) (with_file f s bytes)
file_stands f c s bytes stands none small = record {
  lawful = lawful_more f s bytes stands.lawful none small;
  base = record {
    meta = stands.base.meta;
    files = ap (λ m. insert m (f bytes) bytes) stands.base.files;
    texts = stands.base.texts;
    history = stands.base.history;
    spelled = history_kept f s.files (insert s.files (f bytes) bytes) s.log stands.base.history (keeps_more s.files (f bytes) bytes none) stands.base.spelled;
    kept = stands.base.kept;
    revisions = stands.base.revisions;
    log = stands.base.log;
    rosters = stands.base.rosters;
  };
  keys = stands.keys;
  certs = stands.certs;
  others = λ t other. other_table 2 t _ _ other.files ∙ stands.others t other;
}

none_in : (key body : List ℕ) → get no_table key ≡ Some body → ⊥
none_in key body found = let none : get (empty {X = List ℕ} {R = slice_cmp nat_cmp}) key ≡ None = get-empty (slice_cmp nat_cmp) key in cc

-- the records of table 1 alone
new_stands : (f : List ℕ → List ℕ) → StandsFor f (with_all nothing (meta_puts true 0)) empty_state
new_stands f = record {
  lawful = empty_lawful f;
  base = record {
    meta = refl;
    files = refl;
    texts = record { each = λ r l at. absurd cc; only = λ id body found. absurd (none_in id body found) };
    history = [];
    spelled = history_none f empty;
    kept = [];
    revisions = record { long = refl; each = λ r v k at below. absurd cc };
    log = record { each = λ r v k at below. absurd cc; only = λ key body found. absurd (none_in key body found) };
    rosters = record { each = λ r v k at below. absurd cc; only = λ key body found. absurd (none_in key body found) };
  };
  keys = refl;
  certs = record { each = λ c held. absurd (no_certificate c held); only = λ key body found. absurd (none_in key body found) };
  others = λ t other. other_table 1 t _ _ other.meta ∙ other_table 1 t _ _ other.meta;
}

-- what a draft stands for, by whether its store is new
abbrev StandsIn : Bool → (List ℕ → List ℕ) → Contents → State → Type 0
StandsIn b f c s = MatchBool b (IsNew c s) (StandsFor f c s)

-- table 2 is the files
files_of : (b : Bool) (f : List ℕ → List ℕ) (c : Contents) (s : State) → StandsIn b f c s → c 2 ≡ s.files
files_of true f c s new = ap (λ (d : Contents). d 2) new.records ∙ ap (λ (x : State). x.files) (sym new.state)
files_of false f c s stands = stands.base.files

pub behind_meta : (b : Bool) (f : List ℕ → List ℕ) (c : Contents) (count : ℕ) (s : State) → count ≡ length s.log → StandsIn b f c s → StandsFor f (with_all c (meta_puts b count)) s
behind_meta true f c count s counted new =
    let at_zero : count ≡ 0 = counted ∙ ap (λ (x : State). length x.log) new.state in
    subst (λ (d : Contents). StandsFor f (with_all d (meta_puts true count)) s) (sym new.records)
    (subst (λ (x : State). StandsFor f (with_all nothing (meta_puts true count)) x) (sym new.state)
    (subst (λ n. StandsFor f (with_all nothing (meta_puts true n)) empty_state) (sym at_zero) (new_stands f)))
behind_meta false f c count s counted stands = stands

no_collision : (f : List ℕ → List ℕ) (s : State) (bytes : List ℕ) → length bytes ≤ 67108864 → collision (get s.files (f bytes)) (f bytes) bytes ≡ None → file_refusal f s bytes ≡ None
no_collision f s bytes small none = let test : nat_lt 67108864 (length bytes) ≡ false = grind (arith, nat_tests) in rw test none

-- the state of a draft that has no such file
pub kept_new : (f : List ℕ → List ℕ) (c : Contents) (p : Pending) (s : State) (bytes : List ℕ) → IsDraft f c p s →
    body_at (with_all c p.batch) 2 (f bytes) ≡ None → length bytes ≤ 67108864 →
    (file_refusal f s bytes ≡ None) × IsDraft f c (record p { batch = p.batch ++ record_puts p.is_new p.count 2 (f bytes) bytes; is_new = false }) (with_file f s bytes)
kept_new f c p s bytes draft none small =
    let files : with_all c p.batch 2 ≡ s.files = files_of p.is_new f (with_all c p.batch) s draft.stands in (
      no_collision f s bytes small (ap (λ found. collision found (f bytes) bytes) (ap (λ (m : Table). get m (f bytes)) (sym files) ∙ none)),
      record {
        count = draft.count;
        stands = rw (with_all-append c p.batch (record_puts p.is_new p.count 2 (f bytes) bytes), with_all-append (with_all c p.batch) (meta_puts p.is_new p.count) (put_of 2 (f bytes) bytes ∷ []))
            (file_stands f _ s bytes (behind_meta p.is_new f (with_all c p.batch) p.count s draft.count draft.stands) (ap (λ (m : Table). get m (f bytes)) (sym files) ∙ none) small);
      },
    )

same_state : (f : List ℕ → List ℕ) (s : State) (bytes held : List ℕ) → get s.files (f bytes) ≡ Some held → bytes_eq held bytes ≡ true → with_file f s bytes ≡ s
same_state f s bytes held found same =
    ap (λ (m : Table). record s { files = m }) (insert_held s.files (f bytes) bytes (found ∙ ap Some ((bytes_eq-Decides held bytes).0 same)))

-- and of one that has it
pub kept_same : (f : List ℕ → List ℕ) (c : Contents) (p : Pending) (s : State) (bytes held : List ℕ) → IsDraft f c p s →
    body_at (with_all c p.batch) 2 (f bytes) ≡ Some held → bytes_eq held bytes ≡ true → length bytes ≤ 67108864 →
    (file_refusal f s bytes ≡ None) × IsDraft f c p (with_file f s bytes)
kept_same f c p s bytes held draft found same small =
    let files : with_all c p.batch 2 ≡ s.files = files_of p.is_new f (with_all c p.batch) s draft.stands in
    let there : get s.files (f bytes) ≡ Some held = ap (λ (m : Table). get m (f bytes)) (sym files) ∙ found in (
      no_collision f s bytes small (ap (λ x. collision x (f bytes) bytes) there ∙ ap (λ t. cond t None (Some (Collision (id_of (f bytes))))) same),
      subst (λ (x : State). IsDraft f c p x) (sym (same_state f s bytes held there same)) draft,
    )

-- where the call found no body, and put the records
pub accepted_new : (f : List ℕ → List ℕ) (told : Option Contents) (p mid p' : Pending) (bytes id key out : List ℕ) (test : Bool) →
    IfSome told (λ d. IsBody (body_at (with_all d p.batch) 2 key) test out) → test ≡ false → key ≡ id → id ≡ f bytes → length bytes ≤ 67108864 → mid ≡ p →
    p' ≡ record mid { batch = mid.batch ++ record_puts mid.is_new mid.count 2 key bytes; is_new = false } →
    (c : Contents) (s : State) → told ≡ Some c → IsDraft f c p s → (id ≡ f bytes) × (file_refusal f s bytes ≡ None) × IsDraft f c p' (with_file f s bytes)
accepted_new f told p mid p' bytes id key out test finds missing same is small kept put c s at draft =
    let found = subst (λ o. IfSome o (λ d. IsBody (body_at (with_all d p.batch) 2 key) test out)) at finds in
    let key_is : key ≡ f bytes = same ∙ is in
    let none : body_at (with_all c p.batch) 2 (f bytes) ≡ None = subst (λ k. body_at (with_all c p.batch) 2 k ≡ None) key_is (subst (λ t. IsBody (body_at (with_all c p.batch) 2 key) t out) missing found) in
    let new = kept_new f c p s bytes draft none small in
    let after : p' ≡ record p { batch = p.batch ++ record_puts p.is_new p.count 2 (f bytes) bytes; is_new = false } =
    put ∙ ap (λ (m : Pending). record m { batch = m.batch ++ record_puts m.is_new m.count 2 key bytes; is_new = false }) kept
    ∙ ap (λ k. record p { batch = p.batch ++ record_puts p.is_new p.count 2 k bytes; is_new = false }) key_is in
    (is, new.0, subst (λ (x : Pending). IsDraft f c x (with_file f s bytes)) (sym after) new.1)

-- where it found the same bytes
pub accepted_same : (f : List ℕ → List ℕ) (told : Option Contents) (p mid : Pending) (bytes id key out seen : List ℕ) (test differ : Bool) →
    IfSome told (λ d. IsBody (body_at (with_all d p.batch) 2 key) test out) → test ≡ true → key ≡ id → id ≡ f bytes → length bytes ≤ 67108864 → mid ≡ p →
    seen ≡ out → differ ≡ not (bytes_eq seen bytes) → differ ≡ false →
    (c : Contents) (s : State) → told ≡ Some c → IsDraft f c p s → (id ≡ f bytes) × (file_refusal f s bytes ≡ None) × IsDraft f c mid (with_file f s bytes)
accepted_same f told p mid bytes id key out seen test differ finds there same is small kept sees compared equal c s at draft =
    let found = subst (λ o. IfSome o (λ d. IsBody (body_at (with_all d p.batch) 2 key) test out)) at finds in
    let held : body_at (with_all c p.batch) 2 (f bytes) ≡ Some out = subst (λ k. body_at (with_all c p.batch) 2 k ≡ Some out) (same ∙ is) (subst (λ t. IsBody (body_at (with_all c p.batch) 2 key) t out) there found) in
    let equals : bytes_eq out bytes ≡ true = ap (λ x. bytes_eq x bytes) (sym sees) ∙ from_not (bytes_eq seen bytes) (sym compared ∙ equal) in
    let new = kept_same f c p s bytes out draft held equals small in
    (is, new.0, subst (λ (x : Pending). IsDraft f c x (with_file f s bytes)) (sym kept) new.1)
  where
    from_not : (b : Bool) → not b ≡ false → b ≡ true
    from_not true e = refl
    from_not false e = cc

-- a draft that began stands for the state
pub draft_stands : (f : List ℕ → List ℕ) (c : Contents) (p : Pending) (s : State) → IsDraft f c p s → Stands f (with_all c p.batch) s
draft_stands f c p s draft = by_newness p.is_new draft.stands
  where
    by_newness : (b : Bool) → StandsIn b f (with_all c p.batch) s → Stands f (with_all c p.batch) s
    by_newness true new = inl new
    by_newness false stands = inr stands
