-- What is remembered stays right while other records are put.
use Rattle.std.specs.Prelude.{IfSome, OnOk, OnErr, Contains, cond, Vec}
use Rattle.std.specs.FinMap.{get as get_body}
use Rattle.std.specs.Ordering.{is_eq}
use Rattle.std.specs.BTreeMap.{BTreeMap, get, is_at, Updates, IsUnchanged}
use Rattle.std.specs.Map.{lookup}
use Rattle.std.specs.Ordering.{nat_cmp}
use Rattle.std.proofs.Common.{◌≡◌, ◌≢◌, ◌≤◌, ◌<◌, ◌+◌, ◌^◌, ◌⊎◌, inl, inr, ⊎_elim, ℕ, zero, suc, Bool, true, false, List, [], ◌∷◌, ◌++◌, Option, Some, None, Result, Ok, Err, refl, sym, ap, ◌∙◌, subst, arith}
use Rattle.mtn_ancestry.proofs.Reaching.{at_other}
use Rattle.mtn_roster_deltas.specs.Chain.{rebuilt}
use Rattle.mtn_model.specs.State.{Logged}
use Rattle.mtn_model.specs.Table.{Contents, Table, body_at}
use Rattle.mtn_ports.specs.Kept.{Same, with_all}
use Rattle.mtn_ports.proofs.KeptLemmas.{with_all-append}
use Rattle.mtn_ports.specs.declared.batch.Put.{Put}
use Rattle.mtn_records.specs.Fields.{number_text}
use Rattle.mtn_records.specs.declared.record.LogRecord.{LogRecord}
use Rattle.mtn_records.specs.declared.record.RosterRecord.{RosterRecord}
use Rattle.mtn_records.specs.declared.record.RosterRecord.TheVariants.{Whole, Delta}
use Rattle.mtn_history.specs.Cache.{AreRecalled, IsAdded, IsAmong, IsNoted}
use Rattle.mtn_history.specs.Logs.{IsLogged}
use Rattle.mtn_history.specs.Records.{is_beside, meta_puts, put_of, record_puts, revision_puts, with_revision}
use Rattle.mtn_history.specs.Rosters.{IsChainDown, IsRostered, Rebuilds}
use Rattle.mtn_history.specs.declared.cache.Cache.{Cache}
use Rattle.mtn_history.specs.declared.cache.Recalled.{Recalled}
use Rattle.mtn_history.specs.declared.pending.Pending.{Pending}
use Rattle.mtn_history.specs.Remembered.{RebuiltRoster}
use Rattle.mtn_history.proofs.Extending.{earlier_at}
use Rattle.mtn_history.proofs.FileLemmas.{other_table}
use Rattle.mtn_history.proofs.Founding.{table_of}

-- both have the same records of a table below a position
abbrev pub AreSameBelow : ℕ → ℕ → Contents → Contents → Type 0
AreSameBelow t n c d = (r : ℕ) → r < n → body_at d t (number_text r) ≡ body_at c t (number_text r)

rostered_kept : (c d : Contents) (r : ℕ) (x : RosterRecord) → body_at d 5 (number_text r) ≡ body_at c 5 (number_text r) → IsRostered c r x → IsRostered d r x
rostered_kept c d r x same is = record { body = is.body; held = same ∙ is.held; text = is.text }

pub chain_kept : (c d : Contents) (n r : ℕ) (xs : List RosterRecord) → AreSameBelow 5 n c d → r < n → IsChainDown c r xs → IsChainDown d r xs
chain_kept c d n r [] same lt down = down
chain_kept c d n r (Whole es ∷ xs) same lt down = (rostered_kept c d r (Whole es) (same r lt) down.0, down.1)
chain_kept c d n r (Delta base depth g ch ∷ xs) same lt down =
    let under : base < r = down.0.text.within.0 in
    (rostered_kept c d r (Delta base depth g ch) (same r lt) down.0, chain_kept c d n base xs same (omega (arith, under, lt)) down.1)

rebuilds_kept : (c d : Contents) (n r : ℕ) (x : RebuiltRoster) → AreSameBelow 5 n c d → r < n → Rebuilds c r x → Rebuilds d r x
rebuilds_kept c d n r x same lt is = record { chain = is.chain; down = chain_kept c d n r is.chain same lt is.down; entries = is.entries; spelled = is.spelled; deltas = is.deltas }

logged_kept : (c d : Contents) (r : ℕ) (l : LogRecord) → body_at d 4 (number_text r) ≡ body_at c 4 (number_text r) → IsLogged c r l → IsLogged d r l
logged_kept c d r l same is = record { body = is.body; held = same ∙ is.held; text = is.text }

recalled_kept : (c d : Contents) (n m : ℕ) (k : Cache) → n ≤ m → AreSameBelow 4 n c d → AreSameBelow 5 n c d → AreRecalled c n k → AreRecalled d m k
recalled_kept c d n m k le logs rosters known = record {
  rosters = λ x x_in. let o = known.rosters x x_in in (omega (arith, o.0, le), rebuilds_kept c d n x.at x.rebuilt.value rosters o.0 o.1);
  log = λ at l found. let o = known.log at l found in (omega (arith, o.0, le), logged_kept c d at l (logs at o.0) o.1);
}

-- what was told before
pub told_back : (old new : Option Contents) (P : Contents → Type 0) → Same old new → IfSome old P → IfSome new P
told_back old None P same fact = tt
told_back old (Some c) P same fact = subst (λ o. IfSome o P) (same c refl) fact

-- what holds of each
pub told_each : (told : Option Contents) (P : Contents → Type 0) → ((c : Contents) → P c) → IfSome told P
told_each None P each = tt
told_each (Some c) P each = each c

pub mapped : (told : Option Contents) (P Q : Contents → Type 0) → ((c : Contents) → P c → Q c) → IfSome told P → IfSome told Q
mapped None P Q f fact = tt
mapped (Some c) P Q f fact = f c fact

-- another table than one in which a record joins alone
pub not_beside : (kind t : ℕ) → is_beside kind ≡ true → is_beside t ≡ false → t ≢ kind
not_beside kind t beside other same = absurd (let both : true ≡ false = sym beside ∙ ap is_beside (sym same) ∙ other in cc)

-- tables 4 and 5 stay where records are put in table 1 and one of these
file_puts : (kind : ℕ) (c : Contents) (ps : List Put) (is_new : Bool) (count : ℕ) (key body : List ℕ) (t : ℕ) → t ≢ 1 → t ≢ kind → with_all c (ps ++ record_puts is_new count kind key body) t ≡ with_all c ps t
file_puts kind c ps is_new count key body t other file =
    ap (λ (d : Contents). d t) (with_all-append c ps (record_puts is_new count kind key body)) ∙ ap (λ (d : Contents). d t) (with_all-append (with_all c ps) (meta_puts is_new count) (put_of kind key body ∷ []))
    ∙ other_table kind t _ _ file ∙ table_of is_new count (with_all c ps) t other

recalled_file : (kind : ℕ) → is_beside kind ≡ true → (c : Contents) (ps : List Put) (is_new : Bool) (count : ℕ) (key body : List ℕ) (k : Cache) → AreRecalled (with_all c ps) count k → AreRecalled (with_all c (ps ++ record_puts is_new count kind key body)) count k
recalled_file kind beside c ps is_new count key body k known =
    recalled_kept (with_all c ps) (with_all c (ps ++ record_puts is_new count kind key body)) count count k (omega arith)
    (λ r lt. ap (λ (t : Table). get_body t (number_text r)) (file_puts kind c ps is_new count key body 4 (λ e. omega (arith, e)) (not_beside kind 4 beside refl)))
    (λ r lt. ap (λ (t : Table). get_body t (number_text r)) (file_puts kind c ps is_new count key body 5 (λ e. omega (arith, e)) (not_beside kind 5 beside refl))) known

-- the same over what a call makes pending
pub file_recalled : {E : Type 0} (kind : ℕ) → is_beside kind ≡ true → (told : Option Contents) (p after : Pending) (key body : List ℕ) (k : Cache) (result : Result (Unit {0}) E) →
    OnOk result (after ≡ record p { batch = p.batch ++ record_puts p.is_new p.count kind key body; is_new = false }) → OnErr result (after ≡ p) →
    IfSome told (λ c. AreRecalled (with_all c p.batch) p.count k) → IfSome told (λ c. AreRecalled (with_all c after.batch) after.count k)
file_recalled kind beside told p after key body k (Ok done) ok err known =
    subst (λ (q : Pending). IfSome told (λ c. AreRecalled (with_all c q.batch) q.count k)) (sym ok)
    (mapped told (λ c. AreRecalled (with_all c p.batch) p.count k) _ (λ c h. recalled_file kind beside c p.batch p.is_new p.count key body k h) known)
file_recalled kind beside told p after key body k (Err e) ok err known = subst (λ (q : Pending). IfSome told (λ c. AreRecalled (with_all c q.batch) q.count k)) (sym err) known

-- tables 4 and 5 with one more revision
revision_logs : (d : Contents) (n : ℕ) (l : Logged) (log roster : List ℕ) (r : ℕ) → r < n → n < 2 ^ 64 → body_at (with_all d (revision_puts n l log roster)) 4 (number_text r) ≡ body_at d 4 (number_text r)
revision_logs d n l log roster r lt fits = earlier_at n r (d 4) log lt fits

revision_rosters : (d : Contents) (n : ℕ) (l : Logged) (log roster : List ℕ) (r : ℕ) → r < n → n < 2 ^ 64 → body_at (with_all d (revision_puts n l log roster)) 5 (number_text r) ≡ body_at d 5 (number_text r)
revision_rosters d n l log roster r lt fits = earlier_at n r (d 5) roster lt fits

-- the records with one more revision
pub grown_is : (c : Contents) (p : Pending) (l : Logged) (log roster : List ℕ) → with_all c (with_revision p l log roster).batch ≡ with_all (with_all (with_all c p.batch) (meta_puts p.is_new p.count)) (revision_puts p.count l log roster)
grown_is c p l log roster =
    with_all-append c p.batch (meta_puts p.is_new p.count ++ revision_puts p.count l log roster) ∙ with_all-append (with_all c p.batch) (meta_puts p.is_new p.count) (revision_puts p.count l log roster)

pub same_logs : (c : Contents) (p : Pending) (l : Logged) (log roster : List ℕ) → p.count < 2 ^ 64 → AreSameBelow 4 p.count (with_all c p.batch) (with_all c (with_revision p l log roster).batch)
same_logs c p l log roster fits r lt =
    ap (λ (d : Contents). body_at d 4 (number_text r)) (grown_is c p l log roster) ∙ revision_logs (with_all (with_all c p.batch) (meta_puts p.is_new p.count)) p.count l log roster r lt fits
    ∙ ap (λ (t : Table). get_body t (number_text r)) (table_of p.is_new p.count (with_all c p.batch) 4 (λ e. omega (arith, e)))

pub same_rosters : (c : Contents) (p : Pending) (l : Logged) (log roster : List ℕ) → p.count < 2 ^ 64 → AreSameBelow 5 p.count (with_all c p.batch) (with_all c (with_revision p l log roster).batch)
same_rosters c p l log roster fits r lt =
    ap (λ (d : Contents). body_at d 5 (number_text r)) (grown_is c p l log roster) ∙ revision_rosters (with_all (with_all c p.batch) (meta_puts p.is_new p.count)) p.count l log roster r lt fits
    ∙ ap (λ (t : Table). get_body t (number_text r)) (table_of p.is_new p.count (with_all c p.batch) 5 (λ e. omega (arith, e)))

recalled_revision : (c : Contents) (p : Pending) (l : Logged) (log roster : List ℕ) (k : Cache) → p.count < 2 ^ 64 → AreRecalled (with_all c p.batch) p.count k → AreRecalled (with_all c (with_revision p l log roster).batch) (p.count + 1) k
recalled_revision c p l log roster k fits known =
    recalled_kept (with_all c p.batch) (with_all c (with_revision p l log roster).batch) p.count (p.count + 1) k (omega arith) (same_logs c p l log roster fits) (same_rosters c p l log roster fits) known

-- the same of what is told, and the roster of the new revision
pub revision_recalled : (told : Option Contents) (p after : Pending) (l : Logged) (log roster : List ℕ) (k : Cache) → p.count < 2 ^ 63 → after ≡ with_revision p l log roster →
    IfSome told (λ c. AreRecalled (with_all c p.batch) p.count k) → IfSome told (λ c. AreRecalled (with_all c after.batch) after.count k)
revision_recalled told p after l log roster k room is known =
    subst (λ (q : Pending). IfSome told (λ c. AreRecalled (with_all c q.batch) q.count k)) (sym is)
    (mapped told (λ c. AreRecalled (with_all c p.batch) p.count k) _ (λ c h. recalled_revision c p l log roster k (omega (arith, room)) h) known)

-- one more roster
roster_added : (c : Contents) (n : ℕ) (k after : Cache) (more : Recalled) → IsAdded k.rosters.items after.rosters.items more → after.log ≡ k.log → more.at < n → Rebuilds c more.at more.rebuilt.value → AreRecalled c n k → AreRecalled c n after
roster_added c n k after more added log lt is known = record {
  rosters = λ x x_in. ⊎_elim (λ old. known.rosters x old) (λ e. subst (λ (y : Recalled). (y.at < n) × Rebuilds c y.at y.rebuilt.value) (sym e) (lt, is)) (added x x_in);
  log = λ at l found. known.log at l (subst (λ (m : BTreeMap ℕ LogRecord). get nat_cmp m at ≡ Some l) log found);
}

pub roster_remembered : (told : Option Contents) (p : Pending) (k after : Cache) (more : Recalled) → IsAdded k.rosters.items after.rosters.items more → after.log ≡ k.log → more.at < p.count →
    IfSome told (λ c. Rebuilds (with_all c p.batch) more.at more.rebuilt.value) → IfSome told (λ c. AreRecalled (with_all c p.batch) p.count k) → IfSome told (λ c. AreRecalled (with_all c p.batch) p.count after)
roster_remembered None p k after more added log lt is known = tt
roster_remembered (Some c) p k after more added log lt is known = roster_added (with_all c p.batch) p.count k after more added log lt is known

-- one more record of the log
pub log_remembered : (told : Option Contents) (p : Pending) (k after : Cache) (at : ℕ) (l : LogRecord) → after.rosters ≡ k.rosters → IsNoted k.log after.log at l → at < p.count →
    IfSome told (λ c. IsLogged (with_all c p.batch) at l) → IfSome told (λ c. AreRecalled (with_all c p.batch) p.count k) → IfSome told (λ c. AreRecalled (with_all c p.batch) p.count after)
log_remembered None p k after at l same noted lt is known = tt
log_remembered (Some c) p k after at l same noted lt is known = record {
  rosters = λ x x_in. known.rosters x (subst (λ (v : Vec Recalled _). Contains v.items x) same x_in);
  log = λ r m found. ⊎_elim (λ old. known.log r m old)
      (λ e. subst (λ n. (n < p.count) × IsLogged (with_all c p.batch) n m) (sym e.0) (lt, subst (IsLogged (with_all c p.batch) at) (sym e.1) is)) (noted r m found);
}

-- a record of the log that is remembered
pub log_recalled : (told : Option Contents) (p : Pending) (k : Cache) (at : ℕ) (o : Option LogRecord) → IfSome o (λ l. get nat_cmp k.log at ≡ Some l) → IfSome told (λ c. AreRecalled (with_all c p.batch) p.count k) →
    IfSome told (λ c. IfSome o (IsLogged (with_all c p.batch) at))
log_recalled None p k at o noted known = tt
log_recalled (Some c) p k at None noted known = tt
log_recalled (Some c) p k at (Some l) noted known = (known.log at l noted).1

same_or_not : (a b : ℕ) → (a ≡ b) ⊎ (a ≢ b)
same_or_not zero zero = inl refl
same_or_not zero (suc b) = inr (λ e. omega (arith, e))
same_or_not (suc a) zero = inr (λ e. omega (arith, e))
same_or_not (suc a) (suc b) = ⊎_elim (λ e. inl (ap suc e)) (λ n. inr (λ e. n (omega (arith, e)))) (same_or_not a b)

nat_is : (a b : ℕ) → is_eq (nat_cmp a b) ≡ true → b ≡ a
nat_is a b test = ⊎_elim (λ e. e) (λ n. absurd (let both : true ≡ false = sym test ∙ at_other a b n in cc)) (same_or_not b a)

-- what an insertion leaves
pub noted_by : {E : Type 0} (old new : BTreeMap ℕ LogRecord) (at : ℕ) (l : LogRecord) (result : Result (Option LogRecord) E) → OnOk result (Updates nat_cmp old new at (Some l)) → OnErr result (IsUnchanged old new) → IsNoted old new at l
noted_by old new at l (Ok before) ok err r m found = by (is_eq (nat_cmp at r)) refl (sym (ok.0 r) ∙ found)
  where
    by : (b : Bool) → is_eq (nat_cmp at r) ≡ b → cond b (Some l) (get nat_cmp old r) ≡ Some m → (get nat_cmp old r ≡ Some m) ⊎ ((r ≡ at) × (m ≡ l))
    by true test e = inr (nat_is at r test, let same : l ≡ m = cc in sym same)
    by false test e = inl e
noted_by old new at l (Err e) ok err r m found = inl (ap (λ es. lookup (is_at (nat_cmp r)) es) (sym err) ∙ found)

-- what is remembered is found right
pub recalled_among : (told : Option Contents) (p : Pending) (k : Cache) (at : ℕ) (r : RebuiltRoster) → IsAmong k.rosters.items at r → IfSome told (λ c. AreRecalled (with_all c p.batch) p.count k) → IfSome told (λ c. Rebuilds (with_all c p.batch) at r)
recalled_among None p k at r among known = tt
recalled_among (Some c) p k at r among known =
    let is = (known.rosters among.0 among.1).1 in
    subst (λ n. Rebuilds (with_all c p.batch) n r) among.2 (subst (λ (x : RebuiltRoster). Rebuilds (with_all c p.batch) among.0.at x) (sym among.3) is)

pub revision_remembered : (told : Option Contents) (p after : Pending) (l : Logged) (log roster : List ℕ) (k known : Cache) (more : Recalled) → p.count < 2 ^ 63 → after ≡ with_revision p l log roster → more.at ≡ p.count →
    IsAdded k.rosters.items known.rosters.items more → known.log ≡ k.log → IfSome told (λ c. Rebuilds (with_all c (with_revision p l log roster).batch) p.count more.rebuilt.value) →
    IfSome told (λ c. AreRecalled (with_all c p.batch) p.count k) → IfSome told (λ c. AreRecalled (with_all c after.batch) after.count known)
revision_remembered told p after l log roster k known more room is at added log_same rebuilt are =
    roster_remembered told after k known more added log_same (subst (λ (q : Pending). more.at < q.count) (sym is) (omega (arith, at)))
    (subst (λ n. IfSome told (λ c. Rebuilds (with_all c after.batch) n more.rebuilt.value)) (sym at) (subst (λ (q : Pending). IfSome told (λ c. Rebuilds (with_all c q.batch) p.count more.rebuilt.value)) (sym is) rebuilt))
    (revision_recalled told p after l log roster k room is are)
