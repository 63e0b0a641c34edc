-- The steps before the walk along the log.
use Rattle.std.specs.Prelude.{IfSome, nat_lt}
use Rattle.std.proofs.Common.{◌≡◌, ◌<◌, ◌≤◌, ⊎_elim, ℕ, Bool, true, false, List, Option, Some, None, refl, sym, subst, arith}
use Rattle.std.proofs.lemmas.Bool.Decides.{nat_tests}
use Rattle.mtn_model.specs.Table.{Contents, body_at}
use Rattle.mtn_ports.specs.Kept.{AreKeyed, IsBody}
use Rattle.mtn_history.specs.Meta.{VersionDamage, count_key, version, version_key}
use Rattle.mtn_history.specs.Stands.{IsOther}
use Rattle.mtn_history.specs.declared.errors.Damage.{Damage}
use Rattle.mtn_check_laws.specs.Records.{AllKeep, IsFirstBreak, Rule}
use Rattle.mtn_check_laws.specs.FirstDamage.{HoldsNothing, IsFirstDamage, IsMetaKey, IsUsed, NoRecord, in_files, in_meta, in_new, in_others, in_version}
use Rattle.mtn_check.specs.Tables.{AllIn, AreEmpty, IsBreakIn, IsFirstOf, KeyRule}
use Rattle.mtn_check.specs.Steps.{Begins, FileRule, IsEarlyDamage, MetaRule}
use Rattle.mtn_check.proofs.Told.{each_both, each_told}

clash : (o : Option (List ℕ)) (body : List ℕ) → o ≡ Some body → o ≡ None → ⊥
clash o body there none = cc

-- ---- a rule of one table

abbrev pub In : ℕ → KeyRule → Rule
In t rule table key body = table ≡ t → rule key body

module _ (t : ℕ) (rule : KeyRule) (c : Contents) where
  pub keep_in : AllIn t rule c → AllKeep (In t rule) c
  keep_in all table key body at is = all key body (subst (λ x. body_at c x key ≡ Some body) is at)

  pub break_in : (d : Damage) → IsBreakIn t rule c d → IsFirstBreak (In t rule) c d
  break_in d b = record {
    table = t;
    key = b.key;
    body = b.body;
    shown = b.shown;
    held = b.held;
    broken = λ keeps. b.broken (keeps refl);
    earlier = λ u k x before at is. ⊎_elim (λ lt. absurd (omega (arith, lt, is))) (λ r. b.earlier k x r.1 (subst (λ y. body_at c y k ≡ Some x) is at)) before;
  }

-- ---- no record

used : (n : ℕ) → 1 ≤ n → n < 9 → IsOther n → ⊥
used n le lt o = omega (arith, le, lt, o.meta, o.files, o.texts, o.log, o.rosters, o.older, o.keys, o.certs)

module _ (c : Contents) (keyed : AreKeyed c) where
  none_beyond : (n : ℕ) → AreEmpty n 256 c → (t : ℕ) (k : List ℕ) → n ≤ t → body_at c t k ≡ None
  none_beyond n empty t k le = by (nat_lt t 256) refl
    where
      by : (b : Bool) → nat_lt t 256 ≡ b → body_at c t k ≡ None
      by true is = empty t k le (grind (arith, nat_tests))
      by false is = keyed.tables t k (grind (arith, nat_tests))

  pub no_record : AreEmpty 0 256 c → AllKeep NoRecord c
  no_record empty t k b at = clash (body_at c t k) b at (none_beyond 0 empty t k (omega arith))

  -- what no table without a use has
  no_other : AreEmpty 0 1 c → AreEmpty 9 256 c → (t : ℕ) (k : List ℕ) → IsOther t → body_at c t k ≡ None
  no_other low high t k other = by (nat_lt t 1) (nat_lt t 9) refl refl
    where
      by : (a b : Bool) → nat_lt t 1 ≡ a → nat_lt t 9 ≡ b → body_at c t k ≡ None
      by true b is_low is = low t k (omega arith) (grind (arith, nat_tests))
      by false true is_low is = absurd (used t (grind (arith, nat_tests)) (grind (arith, nat_tests)) other)
      by false false is_low is = none_beyond 9 high t k (grind (arith, nat_tests))

  pub all_used : AreEmpty 0 1 c → AreEmpty 9 256 c → AllKeep IsUsed c
  all_used low high t k b at other = clash (body_at c t k) b at (no_other low high t k other)

module _ (c : Contents) (d : Damage) where
  pub no_record_breaks : IsFirstOf 0 256 c d → IsFirstBreak NoRecord c d
  no_record_breaks f = record {
    table = f.table;
    key = f.key;
    body = f.body;
    shown = f.shown;
    held = f.held;
    broken = λ never. never;
    earlier = λ t k b before at. clash (body_at c t k) b at (⊎_elim (λ lt. f.tables t k (omega arith) lt) (λ r. subst (λ x. body_at c x k ≡ None) (sym r.0) (f.keys k r.1)) before);
  }

  other_low : (t : ℕ) → t < 1 → IsOther t
  other_low t lt = record {
    meta = λ e. absurd (omega (arith, lt, e));
    files = λ e. absurd (omega (arith, lt, e));
    texts = λ e. absurd (omega (arith, lt, e));
    log = λ e. absurd (omega (arith, lt, e));
    rosters = λ e. absurd (omega (arith, lt, e));
    older = λ e. absurd (omega (arith, lt, e));
    keys = λ e. absurd (omega (arith, lt, e));
    certs = λ e. absurd (omega (arith, lt, e));
  }

  other_high : (t : ℕ) → 9 ≤ t → IsOther t
  other_high t le = record {
    meta = λ e. absurd (omega (arith, le, e));
    files = λ e. absurd (omega (arith, le, e));
    texts = λ e. absurd (omega (arith, le, e));
    log = λ e. absurd (omega (arith, le, e));
    rosters = λ e. absurd (omega (arith, le, e));
    older = λ e. absurd (omega (arith, le, e));
    keys = λ e. absurd (omega (arith, le, e));
    certs = λ e. absurd (omega (arith, le, e));
  }

  -- the first record of the first table
  pub low_breaks : IsFirstOf 0 1 c d → IsFirstBreak IsUsed c d
  low_breaks f = record {
    table = f.table;
    key = f.key;
    body = f.body;
    shown = f.shown;
    held = f.held;
    broken = λ used. used (other_low f.table f.before);
    earlier = λ t k b before at other. clash (body_at c t k) b at (⊎_elim (λ lt. f.tables t k (omega arith) lt) (λ r. subst (λ x. body_at c x k ≡ None) (sym r.0) (f.keys k r.1)) before);
  }

  -- the first record behind the tables with a use
  pub high_breaks : AreEmpty 0 1 c → IsFirstOf 9 256 c d → IsFirstBreak IsUsed c d
  high_breaks low f = record {
    table = f.table;
    key = f.key;
    body = f.body;
    shown = f.shown;
    held = f.held;
    broken = λ used. used (other_high f.table f.after);
    earlier = λ t k b before at other. clash (body_at c t k) b at (⊎_elim (λ lt. lesser t k lt other) (λ r. subst (λ x. body_at c x k ≡ None) (sym r.0) (f.keys k r.1)) before);
  }
    where
      lesser : (t : ℕ) (k : List ℕ) → t < f.table → IsOther t → body_at c t k ≡ None
      lesser t k lt other = by (nat_lt t 1) (nat_lt t 9) refl refl
        where
          by : (a b : Bool) → nat_lt t 1 ≡ a → nat_lt t 9 ≡ b → body_at c t k ≡ None
          by true b is_low is = low t k (omega arith) (grind (arith, nat_tests))
          by false true is_low is = absurd (used t (grind (arith, nat_tests)) (grind (arith, nat_tests)) other)
          by false false is_low is = f.tables t k (grind (arith, nat_tests)) lt

-- ---- what each step comes to

abbrev pub HasNoCount : Contents → Type 0
HasNoCount c = body_at c 1 count_key ≡ None

pub new_damage : (c : Contents) (d : Damage) → HasNoCount c → IsFirstOf 0 256 c d → (f : List ℕ → List ℕ) → IsFirstDamage f c d
new_damage c d none first f = in_new none (no_record_breaks c d first)

-- what was answered for `count`
pub no_count : (told : Option Contents) (found : Bool) (out : List ℕ) → found ≡ false → IfSome told (λ c. IsBody (body_at c 1 count_key) found out) → IfSome told HasNoCount
no_count told found out there finds =
    each_told told (λ c. IsBody (body_at c 1 count_key) found out) HasNoCount (λ c x. subst (λ b. IsBody (body_at c 1 count_key) b out) there x) finds

pub nothing_held : (told : Option Contents) → IfSome told HasNoCount → IfSome told AreKeyed → IfSome told (AreEmpty 0 256) → IfSome told HoldsNothing
nothing_held told none keyed empty =
    each_both told HasNoCount (λ c. AreKeyed c × AreEmpty 0 256 c) HoldsNothing (λ c x y. record { count = x; none = no_record c y.0 y.1 }) none
    (each_both told AreKeyed (AreEmpty 0 256) (λ c. AreKeyed c × AreEmpty 0 256 c) (λ c x y. (x, y)) keyed empty)

-- what the steps so far found
abbrev pub HasVersion : Contents → Type 0
HasVersion c = body_at c 1 version_key ≡ Some version

abbrev pub HasMeta : Contents → Type 0
HasMeta c = HasVersion c × AllKeep IsMetaKey c

abbrev pub HasUses : Contents → Type 0
HasUses c = HasMeta c × AllKeep IsUsed c

module _ (f : List ℕ → List ℕ) (c : Contents) where
  pub version_damage : (d : Damage) → Unit {0} → VersionDamage c d → IsEarlyDamage f c d
  version_damage d u wrong n count = in_version n count wrong

  pub meta_damage : (d : Damage) → HasVersion c → IsBreakIn 1 MetaRule c d → IsEarlyDamage f c d
  meta_damage d so_far b n count = in_meta n count so_far (break_in 1 MetaRule c d b)

  pub used_damage : (d : Damage) → HasMeta c → IsFirstBreak IsUsed c d → IsEarlyDamage f c d
  used_damage d so_far b n count = in_others n count so_far.0 so_far.1 b

  pub file_damage : (d : Damage) → HasUses c → IsBreakIn 2 (FileRule f) c d → IsEarlyDamage f c d
  file_damage d so_far b n count = in_files n count so_far.0.0 so_far.0.1 so_far.1 (break_in 2 (FileRule f) c d b)

  pub begun : HasUses c → AllIn 2 (FileRule f) c → Begins f c
  begun so_far all n count = record { count = count; version = so_far.0.0; meta = so_far.0.1; used = so_far.1; files = keep_in 2 (FileRule f) c all }
