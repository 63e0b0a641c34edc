-- One more revision leads from a state to a state.
use Rattle.std.specs.Prelude.{slice_get, Contains}
use Rattle.std.specs.Option.{option_map_or}
use Rattle.std.specs.Int.{w64, to_be_bytes}
use Rattle.std.proofs.Common.{◌≡◌, ◌≤◌, ◌<◌, ◌+◌, ◌^◌, ℕ, Bool, true, false, cond, List, [], ◌∷◌, ◌++◌, length, take, Option, Some, None, refl, sym, ap, ◌∙◌, subst, ◌⊎◌, inl, inr, arith}
use Rattle.std.proofs.lemmas.List.{length-append, take_all, take-append-le, take-take, append_assoc}
use Rattle.std.specs.FinMap.{get, insert, empty, same_map, slice_cmp-IsAntisymmetric, nat_cmp-IsAntisymmetric}
use Rattle.std.proofs.lemmas.Cmp.{nat_list_cmp_total}
use Rattle.std.specs.Prelude.{bytes_eq}
use Rattle.std.proofs.lemmas.Slice.Eq.{bytes_eq-Decides}
use Rattle.mtn_base.specs.Hex.{id_of}
use Rattle.mtn_history_laws.specs.History.{Revision, revision_parents, IsGrown}
use Rattle.mtn_replay.specs.Lawful.{IsNext, IsHistory}
use Rattle.mtn_replay.specs.Making.{place_of}
use Rattle.mtn_replay.proofs.Histories.{Place, in_front, at_back, place, kept_at, last_at, history_more, history_is_grown}
use Rattle.mtn_replay.proofs.Places.{within, inside, no_place}
use Rattle.mtn_marking.specs.Graph.{IsMarkedAt}
use Rattle.mtn_marking.specs.Marking.{Marks}
use Rattle.mtn_marking.proofs.Staying.{marked_kept}
use Rattle.mtn_roster_deltas.specs.Numbering.{fresh, IsNumbering}
use Rattle.mtn_model.specs.State.{Logged, State}
use Rattle.mtn_model.specs.Table.{Table, Contents}
use Rattle.mtn_records.specs.Fields.{number_text}
use Rattle.mtn_records.specs.Apart.{number_apart}
use Rattle.mtn_records.specs.declared.record.RosterRecord.{RosterRecord}
use Rattle.mtn_records.specs.declared.record.RosterRecord.TheVariants.{Whole, Delta}
use Rattle.mtn_ports.specs.Kept.{with_all}
use Rattle.mtn_ports.specs.declared.batch.Put.{Put}
use Rattle.mtn_history.specs.declared.pending.Pending.{Pending}
use Rattle.mtn_history.specs.Records.{put_of, meta_puts, body_puts, revision_puts, with_revision}
use Rattle.mtn_history.specs.Meta.{meta_of, count_key, version_key, version}
use Rattle.mtn_history.specs.Revisions.{Kept, next_of, all_entries, depth_on, deeper, IsKept, AreKept, AreTexts, OnlyBelow, IsLogBody, AreLogged, IsRosterOf, IsRosterBody, AreRosters}
use Rattle.mtn_ports.proofs.KeptLemmas.{with_all-append}
use Rattle.mtn_history.specs.Stands.{StandsFor, IsDraft, IsFounded, based}
use Rattle.mtn_history.proofs.FileLemmas.{behind_meta, other_table}
use Rattle.mtn_replay.proofs.CertLemmas.{lawful_text}
use Rattle.mtn_replay.proofs.FileLemmas.{get_inserted}

-- what is found under another key, and under the key itself
get_other : (m : Table) (k b q : List ℕ) → (q ≡ k → ⊥) → get (insert m k b) q ≡ get m q
get_other m k b q differ = get_inserted m k b q ∙ by (bytes_eq q k) (bytes_eq-Decides q k).0
  where
    by : (t : Bool) → (t ≡ true → q ≡ k) → cond t (Some b) (get m q) ≡ get m q
    by true same = absurd (differ (same refl))
    by false same = refl

pub get_itself : (m : Table) (k b : List ℕ) → get (insert m k b) k ≡ Some b
get_itself m k b = get_inserted m k b k ∙ ap (λ t. cond t (Some b) (get m k)) ((bytes_eq-Decides k k).1 refl)

found_in : (m : Table) (k b q x : List ℕ) → get (insert m k b) q ≡ Some x → (q ≡ k) ⊎ (get m q ≡ Some x)
found_in m k b q x e = by (bytes_eq q k) (bytes_eq-Decides q k).0 (sym (get_inserted m k b q) ∙ e)
  where
    by : (t : Bool) → (t ≡ true → q ≡ k) → cond t (Some b) (get m q) ≡ Some x → (q ≡ k) ⊎ (get m q ≡ Some x)
    by true same h = inl (same refl)
    by false same h = inr h

-- eight bytes are those of one number
one_number : (a b : ℕ) → a < 2 ^ 64 → b < 2 ^ 64 → number_text a ≡ number_text b → a ≡ b
one_number a b x y same = let both = number_apart a b [] [] x y (ap (λ l. l ++ []) same) in both.0

-- no key is both of those of table 1
two_keys : (q : List ℕ) → bytes_eq q count_key ≡ true → bytes_eq q version_key ≡ true → ⊥
two_keys q a b = let same : count_key ≡ version_key = sym ((bytes_eq-Decides q count_key).0 a) ∙ (bytes_eq-Decides q version_key).0 b in cc

turned : (s t : Bool) (x y z w : Option (List ℕ)) → (s ≡ true → t ≡ true → ⊥) → cond s x (cond t y (cond s z w)) ≡ cond t y (cond s x w)
turned true true x y z w never = absurd (never refl refl)
turned true false x y z w never = refl
turned false true x y z w never = refl
turned false false x y z w never = refl

-- the count of one more
recounted : (n : ℕ) → insert (meta_of version n) count_key (to_be_bytes w64 (n + 1)) ≡ meta_of version (n + 1)
recounted n = same_map nat_list_cmp_total (slice_cmp-IsAntisymmetric nat_cmp-IsAntisymmetric) _ _
    (λ q. get_inserted (meta_of version n) count_key (to_be_bytes w64 (n + 1)) q
    ∙ ap (λ o. cond (bytes_eq q count_key) (Some (to_be_bytes w64 (n + 1))) o) (get_inserted (insert empty count_key (to_be_bytes w64 n)) version_key version q ∙ ap (λ o. cond (bytes_eq q version_key) (Some version) o) (get_inserted empty count_key (to_be_bytes w64 n) q))
    ∙ turned (bytes_eq q count_key) (bytes_eq q version_key) (Some (to_be_bytes w64 (n + 1))) (Some version) (Some (to_be_bytes w64 n)) _ (two_keys q)
    ∙ sym (get_inserted (insert empty count_key (to_be_bytes w64 (n + 1))) version_key version q ∙ ap (λ o. cond (bytes_eq q version_key) (Some version) o) (get_inserted empty count_key (to_be_bytes w64 (n + 1)) q)))

-- a place of one more element
same_front : {X : Type 0} (xs : List X) (y : X) (r : ℕ) → r ≤ length xs → take r (xs ++ y ∷ []) ≡ take r xs
same_front xs y r le = take-append-le r xs (y ∷ []) le

all_front : {X : Type 0} (xs : List X) (y : X) → take (length xs) (xs ++ y ∷ []) ≡ xs
all_front xs y = same_front xs y (length xs) (omega arith) ∙ take_all (length xs) xs (omega arith)

-- what stood at a place stands there still
stays_at : {X : Type 0} (xs : List X) (y x : X) (r : ℕ) → slice_get xs r ≡ Some x → slice_get (xs ++ y ∷ []) r ≡ Some x
stays_at xs y x r at = kept_at xs y r (inside xs r x at) ∙ at

-- the depth on a parent that is there
depth_kept : (ks : List Kept) (new : Kept) (parents : List ℕ) → ((p : ℕ) → Contains parents p → p < length ks) → depth_on (ks ++ new ∷ []) parents ≡ depth_on ks parents
depth_kept ks new [] known = refl
depth_kept ks new (p ∷ ps) known = ap (λ o. option_map_or (λ (k : Kept). deeper k.depth) o 0) (kept_at ks new p (known p (0, omega arith, refl)))

-- table 3 with one more text
texts_more : (log : List Logged) (l : Logged) (t : Table) → AreTexts log t → ((r : ℕ) (m : Logged) → slice_get log r ≡ Some m → m.id ≡ l.id → ⊥) →
    AreTexts (log ++ l ∷ []) (insert t l.id (number_text (length log) ++ l.text))
texts_more log l t texts fresh = record {
  each = λ r m at. each r m at (place log l m r at);
  only = λ id body found. only id body (found_in t l.id (number_text (length log) ++ l.text) id body found);
}
  where
    each : (r : ℕ) (m : Logged) → slice_get (log ++ l ∷ []) r ≡ Some m → Place log r → get (insert t l.id (number_text (length log) ++ l.text)) m.id ≡ Some (number_text r ++ m.text)
    each r m at (in_front lt) =
        let was : slice_get log r ≡ Some m = sym (kept_at log l r lt) ∙ at in
        get_other t l.id (number_text (length log) ++ l.text) m.id (fresh r m was) ∙ texts.each r m was
    each r m at at_back =
        let same : l ≡ m = let h = sym (last_at log l) ∙ at in cc in
        subst (λ (x : Logged). get (insert t l.id (number_text (length log) ++ l.text)) x.id ≡ Some (number_text (length log) ++ x.text)) same (get_itself t l.id (number_text (length log) ++ l.text))

    only : (id body : List ℕ) → (id ≡ l.id) ⊎ (get t id ≡ Some body) → (r : ℕ) × (m : Logged) × (slice_get (log ++ l ∷ []) r ≡ Some m) × (m.id ≡ id)
    only id body (inl same) = (length log, l, last_at log l, sym same)
    only id body (inr found) = let o = texts.only id body found in (o.0, o.1, stays_at log l o.1 o.0 o.2, o.3)

-- a table of positions with one more
below_more : (n : ℕ) (t : Table) (body : List ℕ) → OnlyBelow n t → OnlyBelow (n + 1) (insert t (number_text n) body)
below_more n t body only key x found = by (found_in t (number_text n) body key x found)
  where
    by : (key ≡ number_text n) ⊎ (get t key ≡ Some x) → (r : ℕ) × (r < n + 1) × (key ≡ number_text r)
    by (inl same) = (n, omega arith, same)
    by (inr old) = let o = only key x old in (o.0, omega (arith, o.1), o.2)

-- what stood under an earlier position
pub earlier_at : (n r : ℕ) (t : Table) (body : List ℕ) → r < n → n < 2 ^ 64 → get (insert t (number_text n) body) (number_text r) ≡ get t (number_text r)
earlier_at n r t body lt fits = get_other t (number_text n) body (number_text r) (λ same. let e : r ≡ n = one_number r n (below r n lt fits) fits same in omega (arith, e, lt))
  where
    below : (r n : ℕ) → r < n → n < 2 ^ 64 → r < 2 ^ 64
    below r n a b = omega (arith, a, b)

module _ (h : List Revision) (ks : List Kept) (v : Revision) (new : Kept) (long : length ks ≡ length h) (fits : length h < 2 ^ 64) where
  -- table 4 with one more record
  log_more : (t : Table) (body : List ℕ) → AreLogged h ks t → IsLogBody (length h) v new body → AreLogged (h ++ v ∷ []) (ks ++ new ∷ []) (insert t (number_text (length h)) body)
  log_more t body logged is = record {
    each = λ r w k hv hk. each r w k hv hk (place h v w r hv);
    only = subst (λ n. OnlyBelow n (insert t (number_text (length h)) body)) (sym (length-append h (v ∷ []))) (below_more (length h) t body logged.only);
  }
    where
      each : (r : ℕ) (w : Revision) (k : Kept) → slice_get (h ++ v ∷ []) r ≡ Some w → slice_get (ks ++ new ∷ []) r ≡ Some k → Place h r →
          (x : List ℕ) × (get (insert t (number_text (length h)) body) (number_text r) ≡ Some x) × IsLogBody r w k x
      each r w k hv hk (in_front lt) =
          let o = logged.each r w k (sym (kept_at h v r lt) ∙ hv) (sym (kept_at ks new r (subst (λ n. r < n) (sym long) lt)) ∙ hk) in
          (o.0, earlier_at (length h) r t body lt fits ∙ o.1, o.2)
      each r w k hv hk at_back =
          let one : v ≡ w = let e = sym (last_at h v) ∙ hv in cc in
          let two : new ≡ k = let e = sym (last_at ks new) ∙ ap (slice_get (ks ++ new ∷ [])) long ∙ hk in cc in
          (body, get_itself t (number_text (length h)) body, subst (λ (x : Revision). IsLogBody (length h) x k body) one (subst (λ (x : Kept). IsLogBody (length h) v x body) two is))

  -- a roster's record stands on the same as before
  roster_kept : (parents : List ℕ) (k : Kept) (x : RosterRecord) → IsRosterOf ks parents k x → IsRosterOf (ks ++ new ∷ []) parents k x
  roster_kept parents k (Whole es) is = is
  roster_kept [] k (Delta base depth g ch) is = is
  roster_kept (p ∷ ps) k (Delta base depth g ch) is = (is.0, is.1, is.2, (is.3.0, stays_at ks new is.3.0 p is.3.1, is.3.2))

  body_kept : (r : ℕ) (w : Revision) (k : Kept) (x : List ℕ) → IsRosterBody ks r w k x → IsRosterBody (ks ++ new ∷ []) r w k x
  body_kept r w k x is = record { roster = is.roster; is = roster_kept w.parents k is.roster is.is; text = is.text }

  -- table 5 with one more record
  rosters_more : (t : Table) (body : List ℕ) → AreRosters h ks t → IsRosterBody ks (length h) v new body → AreRosters (h ++ v ∷ []) (ks ++ new ∷ []) (insert t (number_text (length h)) body)
  rosters_more t body rosters is = record {
    each = λ r w k hv hk. each r w k hv hk (place h v w r hv);
    only = subst (λ n. OnlyBelow n (insert t (number_text (length h)) body)) (sym (length-append h (v ∷ []))) (below_more (length h) t body rosters.only);
  }
    where
      each : (r : ℕ) (w : Revision) (k : Kept) → slice_get (h ++ v ∷ []) r ≡ Some w → slice_get (ks ++ new ∷ []) r ≡ Some k → Place h r →
          (x : List ℕ) × (get (insert t (number_text (length h)) body) (number_text r) ≡ Some x) × IsRosterBody (ks ++ new ∷ []) r w k x
      each r w k hv hk (in_front lt) =
          let o = rosters.each r w k (sym (kept_at h v r lt) ∙ hv) (sym (kept_at ks new r (subst (λ n. r < n) (sym long) lt)) ∙ hk) in
          (o.0, earlier_at (length h) r t body lt fits ∙ o.1, body_kept r w k o.0 o.2)
      each r w k hv hk at_back =
          let one : v ≡ w = let e = sym (last_at h v) ∙ hv in cc in
          let two : new ≡ k = let e = sym (last_at ks new) ∙ ap (slice_get (ks ++ new ∷ [])) long ∙ hk in cc in
          (body, get_itself t (number_text (length h)) body, body_kept (length h) w k body (subst (λ (x : Revision). IsRosterBody ks (length h) x k body) one (subst (λ (x : Kept). IsRosterBody ks (length h) v x body) two is)))

-- what is kept of a new revision
pub record Adds (h : List Revision) (ks : List Kept) (v : Revision) (new : Kept) : Type 0 where
  pub marks : Marks
  pub marked : IsMarkedAt (h ++ v ∷ []) (length h) (record { tree = v.tree; marks = marks })
  pub numbered : IsNumbering (all_entries ks) (next_of ks) (record { tree = v.tree; marks = marks }) new.entries
  pub next : new.next ≡ next_of ks + length (fresh (all_entries ks) v.tree)
  pub depth : new.depth ≡ depth_on ks v.parents

kept_more : (h : List Revision) (ks : List Kept) (v : Revision) (new : Kept) → IsGrown (h ++ v ∷ []) → AreKept h ks → Adds h ks v new → AreKept (h ++ v ∷ []) (ks ++ new ∷ [])
kept_more h ks v new grown kept adds = record {
  long = length-append ks (new ∷ []) ∙ ap (λ n. n + 1) kept.long ∙ sym (length-append h (v ∷ []));
  each = λ r w k hv hk. each r w k hv hk (place h v w r hv);
}
  where
    parents_in : (r : ℕ) (w : Revision) → slice_get (h ++ v ∷ []) r ≡ Some w → r ≤ length ks → (p : ℕ) → Contains w.parents p → p < length ks
    parents_in r w at le p c = let lt = grown.earlier r p (subst (λ ps. Contains ps p) (sym (ap revision_parents at)) c) in omega (arith, lt, le)

    each : (r : ℕ) (w : Revision) (k : Kept) → slice_get (h ++ v ∷ []) r ≡ Some w → slice_get (ks ++ new ∷ []) r ≡ Some k → Place h r → IsKept (h ++ v ∷ []) (ks ++ new ∷ []) r w k
    each r w k hv hk (in_front lt) =
        let under : r < length ks = subst (λ n. r < n) (sym kept.long) lt in
        let o = kept.each r w k (sym (kept_at h v r lt) ∙ hv) (sym (kept_at ks new r under) ∙ hk) in
        let front : take r (ks ++ new ∷ []) ≡ take r ks = same_front ks new r (omega (arith, under)) in
        record {
          marks = o.marks;
          marked = marked_kept h v grown r lt (record { tree = w.tree; marks = o.marks }) o.marked;
          numbered = subst (λ l. IsNumbering (all_entries l) (next_of l) (record { tree = w.tree; marks = o.marks }) k.entries) (sym front) o.numbered;
          next = o.next ∙ ap (λ l. next_of l + length (fresh (all_entries l) w.tree)) (sym front);
          depth = o.depth ∙ sym (depth_kept ks new w.parents (parents_in r w hv (omega (arith, under))));
        }
    each r w k hv hk at_back =
        let one : v ≡ w = let e = sym (last_at h v) ∙ hv in cc in
        let two : new ≡ k = let e = sym (last_at ks new) ∙ ap (slice_get (ks ++ new ∷ [])) kept.long ∙ hk in cc in
        let front : take (length h) (ks ++ new ∷ []) ≡ ks = ap (λ n. take n (ks ++ new ∷ [])) (sym kept.long) ∙ all_front ks new in
        subst (λ (x : Revision). IsKept (h ++ v ∷ []) (ks ++ new ∷ []) (length h) x k) one (subst (λ (x : Kept). IsKept (h ++ v ∷ []) (ks ++ new ∷ []) (length h) v x) two record {
          marks = adds.marks;
          marked = adds.marked;
          numbered = subst (λ l. IsNumbering (all_entries l) (next_of l) (record { tree = v.tree; marks = adds.marks }) new.entries) (sym front) adds.numbered;
          next = adds.next ∙ ap (λ l. next_of l + length (fresh (all_entries l) v.tree)) (sym front);
          depth = adds.depth ∙ sym (depth_kept ks new v.parents (parents_in (length h) v (last_at h v) (omega (arith, kept.long))));
        })

-- the revision of a text of the log has its id
id_at : (f : List ℕ → List ℕ) (files : Table) (log : List Logged) (h : List Revision) → IsHistory f files log h → (r : ℕ) (m : Logged) → slice_get log r ≡ Some m → (v : Revision) × (slice_get h r ≡ Some v) × (v.id ≡ id_of m.id)
id_at f files log h is r m at =
    let v = within h r (subst (λ n. r < n) (sym is.long) (inside log r m at)) in
    (v.0, v.1, ap (λ (x : Revision). x.id) (is.each r m v.0 at v.1).made)

new_id : (f : List ℕ → List ℕ) (files : Table) (log : List Logged) (h : List Revision) (l : Logged) → IsHistory f files log h → place_of h (id_of l.id) ≡ None → (r : ℕ) (m : Logged) → slice_get log r ≡ Some m → m.id ≡ l.id → ⊥
new_id f files log h l is none r m at same =
    let v = id_at f files log h is r m at in
    no_place h (id_of l.id) none r (v.0, v.1, v.2 ∙ ap id_of same)

four : (b : List Put) (p q r t : Put) → (((b ++ p ∷ []) ++ q ∷ []) ++ r ∷ []) ++ t ∷ [] ≡ b ++ p ∷ q ∷ r ∷ t ∷ []
four b p q r t = ap (λ (x : List Put). (x ++ r ∷ []) ++ t ∷ []) (append_assoc b (p ∷ []) (q ∷ [])) ∙ ap (λ (x : List Put). x ++ t ∷ []) (append_assoc b (p ∷ q ∷ []) (r ∷ [])) ∙ append_assoc b (p ∷ q ∷ r ∷ []) (t ∷ [])

-- the records of one more revision, put one behind the other
pub all_put : (n : ℕ) (i text log roster : List ℕ) (b1 b2 b3 b4 b5 : List Put) (id key next : List ℕ) →
    b2 ≡ b1 ++ put_of 3 id text ∷ [] → b3 ≡ b2 ++ put_of 4 key log ∷ [] → b4 ≡ b3 ++ put_of 5 key roster ∷ [] → b5 ≡ b4 ++ put_of 1 count_key next ∷ [] →
    id ≡ i → key ≡ number_text n → next ≡ to_be_bytes w64 (n + 1) → b5 ≡ b1 ++ body_puts n i text log roster
all_put n i text log roster b1 b2 b3 b4 b5 id key next e2 e3 e4 e5 is_id is_key is_next =
    e5 ∙ ap (λ (b : List Put). b ++ put_of 1 count_key next ∷ []) (e4 ∙ ap (λ (b : List Put). b ++ put_of 5 key roster ∷ []) (e3 ∙ ap (λ (b : List Put). b ++ put_of 4 key log ∷ []) e2))
    ∙ four b1 (put_of 3 id text) (put_of 4 key log) (put_of 5 key roster) (put_of 1 count_key next)
    ∙ ap (λ (ps : List Put). b1 ++ ps)
    (ap (λ (x : List ℕ). put_of 3 x text ∷ put_of 4 key log ∷ put_of 5 key roster ∷ put_of 1 count_key next ∷ []) is_id
    ∙ ap (λ (k : List ℕ). put_of 3 i text ∷ put_of 4 k log ∷ put_of 5 k roster ∷ put_of 1 count_key next ∷ []) is_key
    ∙ ap (λ (m : List ℕ). put_of 3 i text ∷ put_of 4 (number_text n) log ∷ put_of 5 (number_text n) roster ∷ put_of 1 count_key m ∷ []) is_next)

-- behind both records of table 1
pub behind_metas : (p : Pending) (l : Logged) (log roster text : List ℕ) (b1 b2 : List Put) → b1 ≡ p.batch ++ meta_puts p.is_new p.count → b2 ≡ b1 ++ body_puts p.count l.id text log roster → text ≡ number_text p.count ++ l.text →
    record p { batch = b2 } ≡ record p { batch = p.batch ++ (meta_puts p.is_new p.count ++ revision_puts p.count l log roster) }
behind_metas p l log roster text b1 b2 e1 e2 is_text =
    ap (λ (b : List Put). record p { batch = b }) (e2 ∙ ap (λ (b : List Put). b ++ body_puts p.count l.id text log roster) e1 ∙ append_assoc p.batch (meta_puts p.is_new p.count) (body_puts p.count l.id text log roster)
    ∙ ap (λ (x : List ℕ). p.batch ++ (meta_puts p.is_new p.count ++ body_puts p.count l.id x log roster)) is_text)

-- what stands in front of records that were put stays there
pub in_front_of : (b1 b2 b3 : List Put) → take (length b1) b2 ≡ b1 → length b1 ≤ length b2 → take (length b2) b3 ≡ b2 → take (length b1) b3 ≡ b1
in_front_of b1 b2 b3 first longer second = sym (take-take (length b1) (length b2) b3 longer) ∙ ap (λ (b : List Put). take (length b1) b) second ∙ first

-- the state with its text
abbrev pub with_text : State → Logged → State
with_text s l = record s { log = s.log ++ l ∷ [] }

pub more_stands : (f : List ℕ → List ℕ) (c : Contents) (s : State) (l : Logged) (v : Revision) (new : Kept) (log roster : List ℕ) (stands : StandsFor f c s) → length s.log < 2 ^ 64 →
    IsNext f s.files stands.base.history l v → Adds stands.base.history stands.base.kept v new → IsLogBody (length s.log) v new log → IsRosterBody stands.base.kept (length s.log) v new roster →
    StandsFor f (with_all c (revision_puts (length s.log) l log roster)) (with_text s l)
more_stands f c s l v new log roster stands fits next adds log_is roster_is =
    let base = stands.base in
    let h = base.history in
    let ks = base.kept in
    let n : length h ≡ length s.log = base.spelled.long in
    let more = history_more f s.files s.log h l v base.spelled next in
    let fits_h : length h < 2 ^ 64 = subst (λ m. m < 2 ^ 64) (sym n) fits in
    record {
      lawful = lawful_text f s h l v stands.lawful base.spelled next;
      base = record {
        meta = ap (λ m. insert m count_key (to_be_bytes w64 (length s.log + 1))) base.meta ∙ recounted (length s.log) ∙ ap (meta_of version) (sym (length-append s.log (l ∷ [])));
        files = base.files;
        texts = texts_more s.log l (c 3) base.texts (new_id f s.files s.log h l base.spelled next.fresh);
        history = h ++ v ∷ [];
        spelled = more;
        kept = ks ++ new ∷ [];
        revisions = kept_more h ks v new (history_is_grown f s.files (s.log ++ l ∷ []) (h ++ v ∷ []) more) base.revisions adds;
        log = subst (λ m. AreLogged (h ++ v ∷ []) (ks ++ new ∷ []) (insert (c 4) (number_text m) log)) n
            (log_more h ks v new base.revisions.long fits_h (c 4) log base.log (subst (λ m. IsLogBody m v new log) (sym n) log_is));
        rosters = subst (λ m. AreRosters (h ++ v ∷ []) (ks ++ new ∷ []) (insert (c 5) (number_text m) roster)) n
            (rosters_more h ks v new base.revisions.long fits_h (c 5) roster base.rosters (subst (λ m. IsRosterBody ks m v new roster) (sym n) roster_is));
      };
      keys = stands.keys;
      certs = stands.certs;
      others = λ t other. other_table 1 t _ _ other.meta ∙ other_table 5 t _ _ other.rosters ∙ other_table 4 t _ _ other.log ∙ other_table 3 t _ _ other.texts ∙ stands.others t other;
    }

-- so does a draft with its pending records
pub draft_more : (f : List ℕ → List ℕ) (told : Option Contents) (p : Pending) (s : State) (l : Logged) (v : Revision) (new : Kept) (log roster : List ℕ) (d : IsFounded f told p s) → length s.log < 2 ^ 64 →
    IsNext f s.files d.stands.history l v → Adds d.stands.history d.stands.kept v new → IsLogBody (length s.log) v new log → IsRosterBody d.stands.kept (length s.log) v new roster →
    IsDraft f d.records (with_revision p l log roster) (with_text s l)
draft_more f told p s l v new log roster d fits next adds log_is roster_is = record {
  count = ap (λ n. n + 1) d.count ∙ sym (length-append s.log (l ∷ []));
  stands =
      let beside = behind_meta p.is_new f (with_all d.records p.batch) p.count s d.count d.draft.stands in
      let whole : StandsFor f (based p d.records) s = record { lawful = beside.lawful; base = d.stands; keys = beside.keys; certs = beside.certs; others = beside.others } in
      let more = more_stands f (based p d.records) s l v new log roster whole fits next adds log_is roster_is in
      let counted : StandsFor f (with_all (based p d.records) (revision_puts p.count l log roster)) (with_text s l) = subst (λ n. StandsFor f (with_all (based p d.records) (revision_puts n l log roster)) (with_text s l)) (sym d.count) more in
      subst (λ (c : Contents). StandsFor f c (with_text s l)) (sym (with_all-append d.records p.batch (meta_puts p.is_new p.count ++ revision_puts p.count l log roster) ∙ with_all-append (with_all d.records p.batch) (meta_puts p.is_new p.count) (revision_puts p.count l log roster))) counted;
}
