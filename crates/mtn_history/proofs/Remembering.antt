-- What is remembered goes from draft to draft.
use Rattle.std.specs.Prelude.{IfSome, OnOk, OnErr, MatchOption, Contains}
use Rattle.std.specs.BTreeMap.{get as get_noted}
use Rattle.std.specs.FinMap.{get, insert}
use Rattle.std.specs.Int.{w64, to_be_bytes, from_be_bytes}
use Rattle.std.specs.Ordering.{nat_cmp}
use Rattle.std.proofs.Common.{◌≡◌, ◌<◌, ◌+◌, ◌^◌, ℕ, Bool, true, false, List, [], ◌∷◌, ◌++◌, Option, Some, None, Result, Ok, Err, refl, sym, ap, ◌∙◌, subst, arith}
use Rattle.std.proofs.lemmas.Nat.{from_be_bytes-to_be_bytes_8}
use Rattle.mtn_model.specs.State.{Logged}
use Rattle.mtn_model.specs.Table.{Table, Contents}
use Rattle.mtn_ports.specs.Kept.{with_all}
use Rattle.mtn_ports.proofs.KeptLemmas.{with_all-append}
use Rattle.mtn_ports.specs.declared.batch.Put.{Put}
use Rattle.mtn_history.specs.Cache.{AreRecalled}
use Rattle.mtn_history.specs.Marked.{IsCounted}
use Rattle.mtn_history.specs.Memory.{Knows}
use Rattle.mtn_history.specs.declared.memory.Memory.{Memory}
use Rattle.mtn_history.specs.Meta.{Counted, IsMetaOf, count_key, version_key, version}
use Rattle.mtn_history.specs.Records.{is_beside, meta_puts, put_of, record_puts, revision_puts, with_revision}
use Rattle.mtn_history.specs.declared.cache.Cache.{Cache}
use Rattle.mtn_history.specs.declared.cache.Recalled.{Recalled}
use Rattle.mtn_history.specs.declared.meta.Meta.{Meta}
use Rattle.mtn_history.specs.declared.pending.Pending.{Pending}
use Rattle.mtn_replay.proofs.FileLemmas.{get_inserted}
use Rattle.mtn_history.proofs.FileLemmas.{other_table}
use Rattle.mtn_history.proofs.Knowing.{grown_is, mapped, not_beside}

-- nothing is true of any records
pub nothing_known : (k : Cache) → k.rosters.items ≡ [] → ((at : ℕ) → get_noted nat_cmp k.log at ≡ None) → (c : Contents) (n : ℕ) → AreRecalled c n k
nothing_known k none empty c n = record {
  rosters = λ x x_in. absurd (never x (subst (λ (xs : List Recalled). Contains xs x) none x_in));
  log = λ at l found. let no = empty at in cc;
}
  where
    never : (x : Recalled) → Contains [] x → ⊥
    never x c = omega (arith, c.1)

-- so a draft may forget all
pub forgotten : (told : Option Contents) (p : Pending) (k : Cache) → k.rosters.items ≡ [] → ((at : ℕ) → get_noted nat_cmp k.log at ≡ None) → IfSome told (λ c. AreRecalled (with_all c p.batch) p.count k)
forgotten None p k none empty = tt
forgotten (Some c) p k none empty = nothing_known k none empty (with_all c p.batch) p.count

-- table 1 tells one number
one_count : (c : Contents) (a b : Bool) (m n : ℕ) → IsMetaOf c (record { count = m; is_new = a }) → IsMetaOf c (record { count = n; is_new = b }) → m ≡ n
one_count c true true m n x y = x.1 ∙ sym y.1
one_count c true false m n x y = absurd (let none = x.0 in let there = y.held in cc)
one_count c false true m n x y = absurd (let none = y.0 in let there = x.held in cc)
one_count c false false m n x y =
    let one : x.body ≡ y.body = (let here = x.held in let there = y.held in cc) in
    x.number ∙ ap (from_be_bytes w64) one ∙ sym y.number

known_of : (c : Contents) (p : Pending) (k : Cache) (o : Option Meta) → MatchOption o ((n : ℕ) → AreRecalled c n k) (λ (meta : Meta). IsMetaOf c meta × AreRecalled c meta.count k) →
    IsMetaOf c (record { count = p.count; is_new = p.is_new }) → AreRecalled c p.count k
known_of c p k None knows is = knows p.count
known_of c p k (Some meta) knows is = subst (λ n. AreRecalled c n k) (one_count c meta.is_new p.is_new meta.count p.count knows.0 is) knows.1

-- a draft begins with what is remembered
pub begun : (told : Option Contents) (p : Pending) (m : Memory) → IfSome told (λ c. Knows m (with_all c p.batch)) → IfSome told (IsCounted p) → IfSome told (λ c. AreRecalled (with_all c p.batch) p.count m.cache)
begun None p m knows counted = tt
begun (Some c) p m knows counted = known_of (with_all c p.batch) p m.cache m.meta knows counted

-- and hands it on
pub handed : (told : Option Contents) (p : Pending) (k : Cache) → IfSome told (λ c. AreRecalled (with_all c p.batch) p.count k) → IfSome told (IsCounted p) →
    IfSome told (λ c. Knows (record { meta = Some (record { count = p.count; is_new = p.is_new }); cache = k }) (with_all c p.batch))
handed None p k known counted = tt
handed (Some c) p k known counted = (counted, known)

-- what is remembered of table 1 is what it says
pub meta_known : (told : Option Contents) (m : Memory) (meta : Meta) → m.meta ≡ Some meta → IfSome told (Knows m) → IfSome told (λ c. IsMetaOf c meta)
meta_known None m meta is knows = tt
meta_known (Some c) m meta is knows =
    let found : MatchOption (Some meta) ((n : ℕ) → AreRecalled c n m.cache) (λ (x : Meta). IsMetaOf c x × AreRecalled c x.count m.cache) =
    subst (λ o. MatchOption o ((n : ℕ) → AreRecalled c n m.cache) (λ (x : Meta). IsMetaOf c x × AreRecalled c x.count m.cache)) is knows in
    found.0

-- table 1 with both records
counted_meta : (b : Bool) (n : ℕ) (c : Contents) → IsMetaOf c (record { count = n; is_new = b }) → Counted (with_all c (meta_puts b n)) n
counted_meta true n c is = record {
  body = to_be_bytes w64 n;
  held = get_inserted (insert (c 1) count_key (to_be_bytes w64 n)) version_key version count_key ∙ get_inserted (c 1) count_key (to_be_bytes w64 n) count_key;
  eight = refl;
  number = sym (from_be_bytes-to_be_bytes_8 n (omega (arith, is.1)));
  version = get_inserted (insert (c 1) count_key (to_be_bytes w64 n)) version_key version version_key;
}
counted_meta false n c is = is

-- another table
counted_kept : (c d : Contents) (n : ℕ) → d 1 ≡ c 1 → Counted c n → Counted d n
counted_kept c d n same is = record {
  body = is.body;
  held = ap (λ (t : Table). get t count_key) same ∙ is.held;
  eight = is.eight;
  number = is.number;
  version = ap (λ (t : Table). get t version_key) same ∙ is.version;
}

file_is : (kind : ℕ) → is_beside kind ≡ true → (c : Contents) (ps : List Put) (b : Bool) (n : ℕ) (key body : List ℕ) → with_all c (ps ++ record_puts b n kind key body) 1 ≡ with_all (with_all c ps) (meta_puts b n) 1
file_is kind beside c ps b n key body =
    ap (λ (d : Contents). d 1) (with_all-append c ps (record_puts b n kind key body)) ∙ ap (λ (d : Contents). d 1) (with_all-append (with_all c ps) (meta_puts b n) (put_of kind key body ∷ []))
    ∙ other_table kind 1 _ _ (not_beside kind 1 beside refl)

pub file_counted : {E : Type 0} (kind : ℕ) → is_beside kind ≡ true → (told : Option Contents) (p after : Pending) (key body : List ℕ) (result : Result (Unit {0}) E) →
    OnOk result (after ≡ record p { batch = p.batch ++ record_puts p.is_new p.count kind key body; is_new = false }) → OnErr result (after ≡ p) → IfSome told (IsCounted p) → IfSome told (IsCounted after)
file_counted kind beside told p after key body (Err e) ok err counted = subst (λ (q : Pending). IfSome told (IsCounted q)) (sym err) counted
file_counted kind beside told p after key body (Ok done) ok err counted =
    subst (λ (q : Pending). IfSome told (IsCounted q)) (sym ok)
    (mapped told (IsCounted p) (IsCounted (record p { batch = p.batch ++ record_puts p.is_new p.count kind key body; is_new = false }))
    (λ c is. counted_kept (with_all (with_all c p.batch) (meta_puts p.is_new p.count)) (with_all c (p.batch ++ record_puts p.is_new p.count kind key body)) p.count
    (file_is kind beside c p.batch p.is_new p.count key body) (counted_meta p.is_new p.count (with_all c p.batch) is)) counted)

-- one more revision
counted_more : (c : Contents) (n : ℕ) (l : Logged) (log roster : List ℕ) → n < 2 ^ 63 → Counted c n → Counted (with_all c (revision_puts n l log roster)) (n + 1)
counted_more c n l log roster room is = record {
  body = to_be_bytes w64 (n + 1);
  held = get_inserted (c 1) count_key (to_be_bytes w64 (n + 1)) count_key;
  eight = refl;
  number = sym (from_be_bytes-to_be_bytes_8 (n + 1) (omega (arith, room)));
  version = get_inserted (c 1) count_key (to_be_bytes w64 (n + 1)) version_key ∙ is.version;
}

pub revision_counted : (told : Option Contents) (p after : Pending) (l : Logged) (log roster : List ℕ) → p.count < 2 ^ 63 → after ≡ with_revision p l log roster → IfSome told (IsCounted p) → IfSome told (IsCounted after)
revision_counted told p after l log roster room is counted =
    subst (λ (q : Pending). IfSome told (IsCounted q)) (sym is)
    (mapped told (IsCounted p) (IsCounted (with_revision p l log roster))
    (λ c has. subst (λ (d : Contents). Counted d (p.count + 1)) (sym (grown_is c p l log roster))
    (counted_more (with_all (with_all c p.batch) (meta_puts p.is_new p.count)) p.count l log roster room (counted_meta p.is_new p.count (with_all c p.batch) has))) counted)

-- with nothing pending
pub bare_counted : (told : Option Contents) (p : Pending) → p.batch ≡ [] → IfSome told (λ c. IsMetaOf c (record { count = p.count; is_new = p.is_new })) → IfSome told (IsCounted p)
bare_counted None p none is = tt
bare_counted (Some c) p none is = subst (λ (ps : List Put). IsMetaOf (with_all c ps) (record { count = p.count; is_new = p.is_new })) (sym none) is

pub bare_knows : (told : Option Contents) (p : Pending) (m : Memory) → p.batch ≡ [] → ((c : Contents) → Knows m c) → IfSome told (λ c. Knows m (with_all c p.batch))
bare_knows None p m none knows = tt
bare_knows (Some c) p m none knows = knows (with_all c p.batch)

-- what is true of all records is true of those that are told
pub told_knows : (told : Option Contents) (m : Memory) → ((c : Contents) → Knows m c) → IfSome told (Knows m)
told_knows None m knows = tt
told_knows (Some c) m knows = knows c
