-- What the records of table 1 say of a state.
use Rattle.std.proofs.Common.{◌≡◌, ◌≤◌, ◌^◌, ◌<◌, inl, inr, ℕ, Bool, true, false, List, [], ◌∷◌, length, get_or, Option, Some, None, Err, refl, sym, ap, ◌∙◌, subst, ◌⊎◌, ⊎_elim, arith}
use Rattle.std.specs.Prelude.{MatchBool, IfSome, is_some}
use Rattle.std.specs.Int.{w64, to_be_bytes, from_be_bytes}
use Rattle.std.specs.FinMap.{get, get-empty, insert, empty}
use Rattle.std.specs.Ordering.{nat_cmp}
use Rattle.std.specs.Cmp.Lexicographic.{slice_cmp}
use Rattle.std.proofs.lemmas.Nat.{from_be_bytes-to_be_bytes_8}
use Rattle.mtn_model.specs.Table.{Table, Contents, body_at}
use Rattle.mtn_model.specs.State.{State}
use Rattle.mtn_replay.specs.Lawful.{IsLawful}
use Rattle.mtn_replay.proofs.Histories.{history_is_grown, log_is_short}
use Rattle.mtn_ports.specs.declared.batch.Put.{Put}
use Rattle.mtn_ports.specs.Kept.{with_all, Adds, Same, MayLeave}
use Rattle.mtn_history.specs.declared.errors.Damage.{Damage}
use Rattle.mtn_history.specs.declared.errors.Damage.TheVariants.{Bad, Missing}
use Rattle.mtn_history.specs.declared.errors.HistoryError.{HistoryError}
use Rattle.mtn_history.specs.declared.errors.HistoryError.TheVariants.{Refused, Store}
use Rattle.mtn_history.specs.declared.errors.StoreError.{StoreError}
use Rattle.mtn_history.specs.declared.errors.StoreError.TheVariants.{Failed, Damaged, NoMemory}
use Rattle.mtn_history.specs.Errors.{IfDamage}
use Rattle.mtn_history.specs.declared.meta.Meta.{Meta}
use Rattle.mtn_history.specs.declared.pending.Pending.{Pending}
use Rattle.mtn_history.specs.Meta.{meta_of, count_key, version_key, version, Counted, HasOldVersion, IsMetaOf, IsUnopened, MetaDamage, old_version}
use Rattle.mtn_history.specs.Damage.{IsDamage, IsShown, UnfitDamage}
use Rattle.mtn_history.specs.Logs.{LogDamage, IsHeldAt}
use Rattle.mtn_history.specs.Places.{PlaceDamage, UnplacedBelow}
use Rattle.mtn_history.specs.Rosters.{RosterDamage, IsRosterHeld}
use Rattle.mtn_history.proofs.PlaceLemmas.{never_unplaced, shown_place}
use Rattle.mtn_history.specs.Texts.{TextDamage}
use Rattle.mtn_history.proofs.RosterLemmas.{never_unmade, shown_roster}
use Rattle.mtn_history.proofs.LogLemmas.{never_wrong, shown_log}
use Rattle.mtn_history.proofs.TextLemmas.{text_found}
use Rattle.mtn_history.specs.Stands.{StandsFor, Stands, IsNew, IsDraft, Opens, WasTold, Finishes, FinishLeaves}
use Rattle.mtn_history.proofs.CertRecords.{no_cert_damage, no_key_damage, shown_cert, shown_key}
use Rattle.mtn_history.proofs.FileLemmas.{draft_stands}
use Rattle.mtn_replay.proofs.FileLemmas.{get_inserted, empty_lawful}

count_of : (n : ℕ) → get (meta_of version n) count_key ≡ Some (to_be_bytes w64 n)
count_of n = get_inserted (insert empty count_key (to_be_bytes w64 n)) version_key version count_key ∙ get_inserted empty count_key (to_be_bytes w64 n) count_key

version_of : (n : ℕ) → get (meta_of version n) version_key ≡ Some version
version_of n = get_inserted (insert empty count_key (to_be_bytes w64 n)) version_key version version_key

-- the records of table 1 of a store that is not new
pub held_count : (f : List ℕ → List ℕ) (c : Contents) (s : State) → StandsFor f c s → body_at c 1 count_key ≡ Some (to_be_bytes w64 (length s.log))
held_count f c s stands = ap (λ (m : Table). get m count_key) stands.base.meta ∙ count_of (length s.log)

pub held_version : (f : List ℕ → List ℕ) (c : Contents) (s : State) → StandsFor f c s → body_at c 1 version_key ≡ Some version
held_version f c s stands = ap (λ (m : Table). get m version_key) stands.base.meta ∙ version_of (length s.log)

pub none_held : (c : Contents) (s : State) (key : List ℕ) → IsNew c s → body_at c 1 key ≡ None
none_held c s key new = ap (λ (d : Contents). body_at d 1 key) new.records ∙ get-empty (slice_cmp nat_cmp) key

fits : (n : ℕ) → n ≤ 2147483648 → n < 2 ^ 64
fits n le = omega (arith, le)

pub told_back : (n : ℕ) → n ≤ 2147483648 → from_be_bytes w64 (to_be_bytes w64 n) ≡ n
told_back n le = from_be_bytes-to_be_bytes_8 n (fits n le)

clash : (o : Option (List ℕ)) (body : List ℕ) → o ≡ Some body → o ≡ None → ⊥
clash o body there none = cc

one_body : (o : Option (List ℕ)) (a b : List ℕ) → o ≡ Some a → o ≡ Some b → a ≡ b
one_body o a b x y = cc

-- the number of a store that is not new
count_told : (n : ℕ) (f : List ℕ → List ℕ) (c : Contents) (s : State) → Counted c n → StandsFor f c s → n ≡ length s.log
count_told n f c s meta stands =
    let body : meta.body ≡ to_be_bytes w64 (length s.log) = one_body (body_at c 1 count_key) meta.body (to_be_bytes w64 (length s.log)) meta.held (held_count f c s stands) in
    meta.number ∙ ap (from_be_bytes w64) body ∙ told_back (length s.log) (log_is_short f s.files s.log stands.base.history stands.base.spelled)

pub opened_by : (b : Bool) (n : ℕ) (f : List ℕ → List ℕ) (c : Contents) (s : State) →
    IsMetaOf c (record { count = n; is_new = b }) → Stands f c s → (n ≡ length s.log) × MatchBool b (IsNew c s) (StandsFor f c s)
opened_by true n f c s meta (inl new) = (meta.1 ∙ ap (λ (x : State). length x.log) (sym new.state), new)
opened_by true n f c s meta (inr stands) = absurd (clash (body_at c 1 count_key) (to_be_bytes w64 (length s.log)) (held_count f c s stands) meta.0)
opened_by false n f c s meta (inl new) = absurd (clash (body_at c 1 count_key) meta.body meta.held (none_held c s count_key new))
opened_by false n f c s meta (inr stands) = (count_told n f c s meta stands, stands)

-- what was read of table 1 begins a draft
pub opened : (f : List ℕ → List ℕ) (told : Option Contents) (m : Meta) (p : Pending) → IfSome told (λ d. IsMetaOf d m) →
    p.batch ≡ [] → p.count ≡ m.count → p.is_new ≡ m.is_new → (c : Contents) (s : State) → told ≡ Some c → Stands f c s → IsDraft f c p s
opened f told m p reads batch count is_new c s at stands =
    let meta = subst (λ o. IfSome o (λ d. IsMetaOf d m)) at reads in
    let new = opened_by m.is_new m.count f c s meta stands in
    record {
      count = count ∙ new.0;
      stands = subst (λ (ps : List Put). MatchBool p.is_new (IsNew (with_all c ps) s) (StandsFor f (with_all c ps) s)) (sym batch)
          (subst (λ b. MatchBool b (IsNew c s) (StandsFor f c s)) (sym is_new) new.1);
    }

-- records that stand for a state show no damage of table 1
no_meta_damage : (f : List ℕ → List ℕ) (c : Contents) (s : State) (d : Damage) → Stands f c s → MetaDamage c d → ⊥
no_meta_damage f c s d (inl new) damage = let none = none_held c s count_key new in (let there : is_some (body_at c 1 count_key) ≡ true = damage.0 in let not_there : is_some (body_at c 1 count_key) ≡ false = ap is_some none in cc)
no_meta_damage f c s (Bad table key body) (inr stands) damage = elim damage.1 [
  | inl v ↦ let there = held_version f c s stands in let held = v.2 in let differs = v.3 in absurd (differs cc)
  | inr n ↦
      let body_is : body ≡ to_be_bytes w64 (length s.log) = (let there = held_count f c s stands in let held = n.2 in cc) in
      let differs = n.3 in absurd (differs (ap length body_is))
]
no_meta_damage f c s (Missing table key) (inr stands) damage = elim damage.1 [
  | inl v ↦ let there = held_version f c s stands in let held = v.2 in cc
  | inr n ↦ n
]

-- nor of table 3
no_text_damage : (f : List ℕ → List ℕ) (c : Contents) (s : State) (d : Damage) → Stands f c s → TextDamage c d → ⊥
no_text_damage f c s (Missing table key) stands damage = damage
no_text_damage f c s (Bad table key body) (inl new) damage = absurd (clash (body_at c 3 key) body damage.1 (ap (λ (d : Contents). body_at d 3 key) new.records ∙ get-empty (slice_cmp nat_cmp) key))
no_text_damage f c s (Bad table key body) (inr stands) damage = let t = text_found s.log (c 3) key body stands.base.texts damage.1 in omega (arith, t.0, damage.2)

-- nor of table 4
no_log_damage : (f : List ℕ → List ℕ) (c : Contents) (s : State) (d : Damage) → Stands f c s → LogDamage c d → ⊥
no_log_damage f c s d (inl new) damage = clash (body_at c 1 count_key) damage.counted.body damage.counted.held (none_held c s count_key new)
no_log_damage f c s d (inr stands) damage =
    never_wrong c stands.base.history stands.base.kept (history_is_grown f s.files s.log stands.base.history stands.base.spelled) stands.base.revisions.long stands.base.log damage.count d
    (count_told damage.count f c s damage.counted stands ∙ sym stands.base.spelled.long) damage.wrong

-- nor of table 5
no_roster_damage : (f : List ℕ → List ℕ) (c : Contents) (s : State) (d : Damage) → Stands f c s → RosterDamage c d → ⊥
no_roster_damage f c s d (inl new) damage = clash (body_at c 1 count_key) damage.counted.body damage.counted.held (none_held c s count_key new)
no_roster_damage f c s d (inr stands) damage =
    never_unmade c stands.base.history stands.base.kept stands.base.revisions stands.base.rosters damage.count d (count_told damage.count f c s damage.counted stands ∙ sym stands.base.spelled.long) damage.wrong

-- nor of the positions in table 3
no_place_damage : (f : List ℕ → List ℕ) (c : Contents) (s : State) (d : Damage) → Stands f c s → PlaceDamage c d → ⊥
no_place_damage f c s d stands damage =
    let opened = opened_by damage.meta.is_new damage.meta.count f c s damage.read stands in
    by d stands opened.0 damage.wrong
  where
    by : (d : Damage) → Stands f c s → damage.meta.count ≡ length s.log → UnplacedBelow damage.meta.count c d → ⊥
    by (Missing table key) st is wrong = wrong
    by (Bad table key body) (inl new) is wrong = clash (body_at c 3 key) body wrong.1 (ap (λ (d : Contents). body_at d 3 key) new.records ∙ get-empty (slice_cmp nat_cmp) key)
    by (Bad table key body) (inr st) is wrong = never_unplaced s.log (c 3) st.base.texts c refl damage.meta.count (Bad table key body) is wrong

-- records that stand for a state show no damage
pub no_damage : (f : List ℕ → List ℕ) (c : Contents) (s : State) (d : Damage) → Stands f c s → IsDamage c d → ⊥
no_damage f c s d stands damage = ⊎_elim (no_meta_damage f c s d stands) (⊎_elim (no_text_damage f c s d stands) (⊎_elim (no_log_damage f c s d stands) (⊎_elim (no_roster_damage f c s d stands) (⊎_elim (no_place_damage f c s d stands) (⊎_elim (λ (u : UnfitDamage c d). u.unfit f s stands) (⊎_elim (no_key_damage f c s d stands) (no_cert_damage f c s d stands))))))) damage

pub err_no_damage : (f : List ℕ → List ℕ) (told : Option Contents) (e : StoreError) → IfSome told (λ c. IfDamage e (IsDamage c)) →
    (c : Contents) (s : State) → told ≡ Some c → Stands f c s → IfDamage e (λ _. ⊥)
err_no_damage f told e shows c s at stands = by_error e (subst (λ o. IfSome o (λ d. IfDamage e (IsDamage d))) at shows)
  where
    by_error : (e : StoreError) → IfDamage e (IsDamage c) → IfDamage e (λ _. ⊥)
    by_error (Damaged d) damage = no_damage f c s d stands damage
    by_error Failed damage = tt
    by_error NoMemory damage = tt

no_records : (ps : List Put) → length ps ≡ 0 → ps ≡ []
no_records [] e = refl
no_records (p ∷ ps) e = absurd (omega arith)

-- a draft with nothing pending stands for the state as it is
pub bare_stands : (f : List ℕ → List ℕ) (c : Contents) (p : Pending) (s : State) → length p.batch ≡ 0 → IsDraft f c p s → Stands f c s
bare_stands f c p s none draft = subst (λ (ps : List Put). Stands f (with_all c ps) s) (no_records p.batch none) (draft_stands f c p s draft)

pub told_of_same : (old new : Option Contents) → Same old new → WasTold old new
told_of_same old new same d at = (d, same d at)

pub told_of_adds : (old new : Option Contents) (ps : List Put) → Adds old new ps → WasTold old new
told_of_adds old new ps adds d at = let was = adds d at in (was.0, was.1)

same_told : (told : Option Contents) (c d : Contents) → told ≡ Some c → told ≡ Some d → c ≡ d
same_told told c d at again = cc

-- nothing was pending
pub finished_bare : (p : Pending) (told : Option Contents) → length p.batch ≡ 0 → Finishes p told told
finished_bare p told none f c d s at again draft = subst (λ (e : Contents). Stands f e s) (same_told told c d at again) (bare_stands f c p s none draft)

-- all was put
pub finished_all : (p : Pending) (old new : Option Contents) → Adds old new p.batch → Finishes p old new
finished_all p old new adds f c d s at now draft =
    let was = adds d now in
    let is : d ≡ with_all c p.batch = was.2 ∙ ap (λ (e : Contents). with_all e p.batch) (same_told old was.0 c was.1 at) in
    subst (λ (e : Contents). Stands f e s) (sym is) (draft_stands f c p s draft)

pub finish_leaves : (p : Pending) (old new : Option Contents) (before now : Contents → Type 0) → MayLeave old new before now p.batch → FinishLeaves p old new before now
finish_leaves p old new before now may f c d s at again draft e left = elim (may c at d again e left) [
  | inl was ↦ inl was
  | inr is ↦ inr (subst (λ (x : Contents). Stands f x s) (sym is) (draft_stands f c p s draft))
]

shown_meta : (c : Contents) (d : Damage) → MetaDamage c d → IsShown c d
shown_meta c (Bad table key body) damage = elim damage.1 [
  | inl v ↦ ap (λ t. body_at c t key) v.0 ∙ ap (body_at c 1) v.1 ∙ v.2
  | inr n ↦ ap (λ t. body_at c t key) n.0 ∙ ap (body_at c 1) n.1 ∙ n.2
]
shown_meta c (Missing table key) damage = elim damage.1 [
  | inl v ↦ ap (λ t. body_at c t key) v.0 ∙ ap (body_at c 1) v.1 ∙ v.2
  | inr n ↦ absurd n
]

shown_text : (c : Contents) (d : Damage) → TextDamage c d → IsShown c d
shown_text c (Bad table key body) damage = ap (λ t. body_at c t key) damage.0 ∙ damage.1
shown_text c (Missing table key) damage = absurd damage

shown_unfit : (c : Contents) (r : ℕ) (d : Damage) → IsHeldAt c r d ⊎ IsRosterHeld c r d → IsShown c d
shown_unfit c r (Bad table key body) (inl w) = ap (λ t. body_at c t key) w.0 ∙ w.2
shown_unfit c r (Bad table key body) (inr w) = ap (λ t. body_at c t key) w.0 ∙ w.2
shown_unfit c r (Missing table key) (inl w) = ap (λ t. body_at c t key) w.0 ∙ w.2
shown_unfit c r (Missing table key) (inr w) = ap (λ t. body_at c t key) w.0 ∙ w.2

-- The record that is printed is one of the contents, or it is not in them.
pub shown : (c : Contents) (d : Damage) → IsDamage c d → IsShown c d
shown c d damage = ⊎_elim (shown_meta c d) (⊎_elim (shown_text c d) (⊎_elim (λ l. shown_log c l.wrong.place d l.wrong.wrong) (⊎_elim (λ l. shown_roster c l.wrong.place d l.wrong.wrong) (⊎_elim (λ p. shown_place c p.meta.count d p.wrong) (⊎_elim (λ (u : UnfitDamage c d). shown_unfit c u.place d u.held) (⊎_elim (shown_key c d) (shown_cert c d))))))) damage

-- records that stand for a state are not of the older form, and what was found wrong in table 1 is damage
pub opens : (f : List ℕ → List ℕ) (told : Option Contents) (e : HistoryError) → IfSome told (λ c. IsUnopened c e) → (c : Contents) (s : State) → told ≡ Some c → Stands f c s → Opens f c s (Err e)
opens f told e shows c s at stands = by_error e (subst (λ o. IfSome o (λ d. IsUnopened d e)) at shows)
  where
    older : Stands f c s → HasOldVersion c → ⊥
    older (inl new) old = let none = none_held c s version_key new in cc
    older (inr st) old = let same : 49 ≡ 50 = ap (λ (l : List ℕ). get_or l 0 0) (one_body (body_at c 1 version_key) old_version version old (held_version f c s st)) in omega (arith, same)

    by_error : (e : HistoryError) → IsUnopened c e → Opens f c s (Err e)
    by_error (Refused cause) is = older stands is.1
    by_error (Store (Damaged d)) is = no_meta_damage f c s d stands is.0
    by_error (Store Failed) is = tt
    by_error (Store NoMemory) is = tt

-- what records stand for is lawful
pub lawful_of : (f : List ℕ → List ℕ) (c : Contents) (s : State) → Stands f c s → IsLawful f s
lawful_of f c s (inl new) = subst (IsLawful f) (sym new.state) (empty_lawful f)
lawful_of f c s (inr stands) = stands.lawful
