-- What is shown of a store's records where a packet behind the first comes to a damage.
use Rattle.std.specs.Prelude.{IfSome, nat_lt}
use Rattle.std.specs.FinMap.{empty, get-empty, same_map, slice_cmp-IsAntisymmetric, nat_cmp-IsAntisymmetric}
use Rattle.std.specs.Cmp.Lexicographic.{slice_cmp}
use Rattle.std.specs.Ordering.{nat_cmp}
use Rattle.std.proofs.Common.{◌≡◌, ◌<◌, ◌≤◌, ◌+◌, ◌⊎◌, inl, inr, ℕ, Bool, true, false, List, [], ◌∷◌, Option, Some, None, Err, refl, sym, ap, ◌∙◌, subst, arith}
use Rattle.std.proofs.lemmas.Bool.Decides.{nat_tests}
use Rattle.std.proofs.lemmas.Cmp.{nat_list_cmp_total}
use Rattle.std.proofs.Math.Path.{fun_ext}
use Rattle.mtn_history.specs.Damage.{IsBad, IsDamage}
use Rattle.mtn_history.specs.Errors.{IfDamage, IfStoreDamage}
use Rattle.mtn_history.specs.Meta.{IsMetaOf}
use Rattle.mtn_history.specs.Stands.{IsDraft, Stands}
use Rattle.mtn_history.specs.declared.errors.Damage.{Damage}
use Rattle.mtn_history.specs.declared.errors.Damage.TheVariants.{Bad, Missing}
use Rattle.mtn_history.specs.declared.errors.HistoryError.{HistoryError}
use Rattle.mtn_history.specs.declared.errors.HistoryError.TheVariants as history
use Rattle.mtn_history.specs.declared.errors.StoreError.{StoreError}
use Rattle.mtn_history.specs.declared.errors.StoreError.TheVariants.{Failed, Damaged, NoMemory}
use Rattle.mtn_history.specs.declared.pending.Pending.{Pending}
use Rattle.mtn_history.proofs.MetaLemmas.{opened_by}
use Rattle.mtn_model.specs.State.{State, empty_state}
use Rattle.mtn_model.specs.Table.{Contents, body_at, nothing}
use Rattle.mtn_packets.specs.declared.packet.Packet.{Packet}
use Rattle.mtn_ports.specs.Kept.{AreKeyed, IsNextKey, Same, with_all}
use Rattle.mtn_ports.specs.declared.batch.Put.{Put}
use Rattle.mtn_reading.specs.Reading.{IfReadDamage, IsNumbered, ReadsTo}
use Rattle.mtn_reading.specs.Unfit.{IsAnswered, IsAsked, IsRecordIn, IsShownFor, IsUnfit, SpoilsReading}
use Rattle.mtn_reading.specs.declared.error.ReadError.{ReadError}

-- ---- a table without records, and contents without any

-- no key stands above none
pub none_in : (c : Contents) → AreKeyed c → (table : ℕ) (key : List ℕ) → IsNextKey c table [] false key → (k : List ℕ) → body_at c table k ≡ None
none_in c keyed table key none [] = keyed.keys table
none_in c keyed table key none (x ∷ xs) = none (x ∷ xs) refl

pub none_at_all : (c : Contents) → AreKeyed c → ((table : ℕ) → table < 256 → (key : List ℕ) → body_at c table key ≡ None) → c ≡ nothing
none_at_all c keyed none = fun_ext (λ t. same_map nat_list_cmp_total (slice_cmp-IsAntisymmetric nat_cmp-IsAntisymmetric) (c t) empty (λ k. no_body t k ∙ sym (get-empty (slice_cmp nat_cmp) k)))
  where
    by : (b : Bool) (t : ℕ) (k : List ℕ) → nat_lt t 256 ≡ b → body_at c t k ≡ None
    by true t k is = none t (grind (arith, nat_tests)) k
    by false t k is = keyed.tables t k (grind (arith, nat_tests))

    no_body : (t : ℕ) (k : List ℕ) → body_at c t k ≡ None
    no_body t k = by (nat_lt t 256) t k refl

-- the tables so far have no record
abbrev pub AreBare : ℕ → Contents → Type 0
AreBare n c = (t : ℕ) → t < n → (key : List ℕ) → body_at c t key ≡ None

bare_more : (c : Contents) (n : ℕ) → AreBare n c → ((key : List ℕ) → body_at c n key ≡ None) → AreBare (n + 1) c
bare_more c n before here t lt key = by (nat_lt t n) refl
  where
    by : (b : Bool) → nat_lt t n ≡ b → body_at c t key ≡ None
    by true is = before t (grind (arith, nat_tests)) key
    by false is =
        let past : n ≤ t = grind (arith, nat_tests) in
        let same : n ≡ t = omega (arith, past, lt) in
        subst (λ x. body_at c x key ≡ None) same (here key)

pub one_more_bare : (old new : Option Contents) (n table : ℕ) (found : Option Damage) → Same old new → IfSome old (AreBare n) → IfSome new (λ c. IsRecordIn c table found) → found ≡ None → table ≡ n → IfSome new (AreBare (n + 1))
one_more_bare old None n table found same before here none is = tt
one_more_bare old (Some c) n table found same before here none is =
    bare_more c n (subst (λ o. IfSome o (AreBare n)) (same c refl) before) (subst (λ (x : ℕ). (key : List ℕ) → body_at c x key ≡ None) is (subst (IsRecordIn c table) none here))

pub all_bare : (told : Option Contents) (n : ℕ) → 256 ≤ n → IfSome told AreKeyed → IfSome told (AreBare n) → IfSome told (λ c. c ≡ nothing)
all_bare None n past keyed bare = tt
all_bare (Some c) n past keyed bare = none_at_all c keyed (λ t lt key. bare t (omega (arith, lt, past)) key)

-- ---- what is answered

-- a fact of told records
pub if_told : (told : Option Contents) (P : Contents → Type 0) → ((c : Contents) → told ≡ Some c → P c) → IfSome told P
if_told None P fact = tt
if_told (Some c) P fact = fact c refl

pub at_told : (told : Option Contents) (P : Contents → Type 0) (c : Contents) → told ≡ Some c → IfSome told P → P c
at_told told P c now fact = subst (λ o. IfSome o P) now fact

pub wider : (P Q : Damage → Type 0) → ((d : Damage) → P d → Q d) → (e : StoreError) → IfDamage e P → IfDamage e Q
wider P Q more Failed fact = tt
wider P Q more (Damaged d) fact = more d fact
wider P Q more NoMemory fact = tt

-- over a state a packet comes to no damage
pub sound : (f : List ℕ → List ℕ) (c : Contents) (s : State) (packet : Packet) (error : HistoryError) (p : Pending) → ReadsTo f c s packet (Err error) p → IfStoreDamage error (λ _. ⊥)
sound f c s packet (history.Refused cause) p reads = tt
sound f c s packet (history.Store e) p reads = reads

-- the error that is answered says no more
pub answers : (f : List ℕ → List ℕ) (c : Contents) (s : State) (packet : Packet) (error answer : HistoryError) (p q : Pending) → IsAnswered error answer → ReadsTo f c s packet (Err error) p → ReadsTo f c s packet (Err answer) q
answers f c s packet (history.Refused cause) answer p q is reads = subst (λ (e : HistoryError). ReadsTo f c s packet (Err e) q) (sym is) reads
answers f c s packet (history.Store Failed) answer p q is reads = subst (λ (e : HistoryError). ReadsTo f c s packet (Err e) q) (sym is) tt
answers f c s packet (history.Store NoMemory) answer p q is reads = subst (λ (e : HistoryError). ReadsTo f c s packet (Err e) q) (sym is) tt
answers f c s packet (history.Store (Damaged came)) answer p q is reads = absurd reads

-- what is so where a damage came, and what follows of it
pub joined : (A : Type 0) (P : Damage → Type 0) (error : HistoryError) → IfStoreDamage error (λ _. A) → (A → IfStoreDamage error P) → IfStoreDamage error P
joined A P (history.Refused cause) fact follows = tt
joined A P (history.Store Failed) fact follows = tt
joined A P (history.Store NoMemory) fact follows = tt
joined A P (history.Store (Damaged came)) fact follows = follows fact

named_by : (P : Damage → Type 0) (number : ℕ) (answer : HistoryError) (e : ReadError) → IsNumbered number answer e → ((x : StoreError) → answer ≡ history.Store x → IfDamage x P) → IfReadDamage e P
named_by P number (history.Refused cause) e named fact = subst (λ (x : ReadError). IfReadDamage x P) (sym named) tt
named_by P number (history.Store x) e named fact = subst (λ (y : ReadError). IfReadDamage y P) (sym named) (fact x refl)

asks : (c : Contents) (p : Pending) (came d : Damage) → IsDamage (with_all c p.batch) came → (d ≡ came) ⊎ IsBad d → IsAsked c d
asks c p came (Bad table key body) damage is = tt
asks c p came (Missing table key) damage (inl is) = (p.batch, subst (IsDamage (with_all c p.batch)) (sym is) damage)
asks c p came (Missing table key) damage (inr bad) = absurd bad

module _ (f : List ℕ → List ℕ) (c : Contents) (start : Pending) (bare : start.batch ≡ []) (counted : IsMetaOf (with_all c start.batch) (record { count = start.count; is_new = start.is_new })) where
  own : with_all c start.batch ≡ c
  own = ap (λ (ps : List Put). with_all c ps) bare

  -- where no draft over them stands for a state, these records stand for none
  pub no_state : ((s : State) → IsDraft f c start s → ⊥) → (s : State) → Stands f c s → ⊥
  no_state never s stands =
      let begun = opened_by start.is_new start.count f (with_all c start.batch) s counted (subst (λ (d : Contents). Stands f d s) (sym own) stands) in
      never s (record { count = begun.0; stands = begun.1 })

  some_record : ((s : State) → Stands f c s → ⊥) → c ≡ nothing → ⊥
  some_record none empty = none empty_state (inl (record { records = empty; state = refl }))

  pub spoils : (p : Pending) (came : Damage) → IsDamage (with_all c p.batch) came → ((s : State) → Stands f c s → ⊥) → (d : Damage) → IsShownFor c came d → SpoilsReading f (with_all c start.batch) d
  spoils p came damage none d (inl empty) = absurd (some_record none empty)
  spoils p came damage none d (inr is) = inr (subst (λ (x : Contents). IsUnfit f x d) (sym own) (record { shown = is.0; asked = asks c p came d damage is.1; unfit = none }))

  shown_for : (p : Pending) (error answer : HistoryError) → IsAnswered error answer → ((s : State) → IsDraft f c start s → IfStoreDamage error (λ _. ⊥)) → IfStoreDamage error (IsDamage (with_all c p.batch)) →
      IfStoreDamage error (λ came. IfStoreDamage answer (IsShownFor c came)) → (x : StoreError) → answer ≡ history.Store x → IfDamage x (SpoilsReading f (with_all c start.batch))
  shown_for p (history.Refused cause) answer is never damage kept x at = absurd (let y = sym is ∙ at in cc)
  shown_for p (history.Store Failed) answer is never damage kept x at =
      let both : history.Store Failed ≡ history.Store x = sym is ∙ at in
      let same : Failed ≡ x = cc in
      subst (λ (y : StoreError). IfDamage y (SpoilsReading f (with_all c start.batch))) same tt
  shown_for p (history.Store NoMemory) answer is never damage kept x at =
      let both : history.Store NoMemory ≡ history.Store x = sym is ∙ at in
      let same : NoMemory ≡ x = cc in
      subst (λ (y : StoreError). IfDamage y (SpoilsReading f (with_all c start.batch))) same tt
  shown_for p (history.Store (Damaged came)) answer is never damage kept x at =
      wider (IsShownFor c came) (SpoilsReading f (with_all c start.batch)) (spoils p came damage (no_state never)) x (subst (λ (y : HistoryError). IfStoreDamage y (IsShownFor c came)) at kept)

  -- what is answered behind the first packet
  pub spoiled : (p : Pending) (number : ℕ) (error answer : HistoryError) (e : ReadError) → IsNumbered number answer e → IsAnswered error answer → ((s : State) → IsDraft f c start s → IfStoreDamage error (λ _. ⊥)) →
      IfStoreDamage error (IsDamage (with_all c p.batch)) → IfStoreDamage error (λ came. IfStoreDamage answer (IsShownFor c came)) → IfReadDamage e (SpoilsReading f (with_all c start.batch))
  spoiled p number error answer e named is never damage kept = named_by (SpoilsReading f (with_all c start.batch)) number answer e named (shown_for p error answer is never damage kept)
