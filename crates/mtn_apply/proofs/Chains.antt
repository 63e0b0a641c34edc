-- The edits of a node, one behind the other.
use Rattle.std.specs.Prelude.{slice_get, option_and_then}
use Rattle.std.specs.Option.{option_map_or}
use Rattle.std.specs.List.{position_from}
use Rattle.std.proofs.Common.{◌≡◌, ℕ, zero, suc, ◌+◌, ◌-◌, ◌<◌, ◌≤◌, Bool, true, false, cond, List, length, drop, get_or, Option, Some, None, refl, sym, ◌∙◌, ap, subst, arith}
use Rattle.std.proofs.lemmas.List.{at_drop_more, at_drop_all}
use Rattle.mtn_base.specs.Names.{bytes_cmp}
use Rattle.mtn_base.specs.declared.id.Id.{Id}
use Rattle.mtn_roster.specs.declared.entry.Attr.{Attr}
use Rattle.mtn_roster.specs.declared.entry.Entry.{Entry}
use Rattle.mtn_roster.specs.Tree.{Tree}
use Rattle.mtn_base.proofs.Orders.{bytes_total}
use Rattle.mtn_base.proofs.Members.{taken}
use Rattle.mtn_base.proofs.Sorting.{rises_placed}
use Rattle.mtn_changes.specs.declared.change.Change.{Change}
use Rattle.mtn_changes.specs.declared.change.Change.TheVariants.{Delete, Rename, AddDir, AddFile, Patch, Clear, Set}
use Rattle.mtn_changeset_laws.specs.Changes.{edited, edited_by}
use Rattle.mtn_apply.specs.declared.edits.Edits.{Edits}
use Rattle.mtn_apply.specs.Edits.{touches, edited_as, next_edit, AreEdits}
use Rattle.mtn_apply.proofs.OldKeys.{has_keys}

pub as-name : (c : Change) (e : Entry) → (edited_as c e).name ≡ e.name
as-name (Delete p) e = refl
as-name (Rename p to) e = refl
as-name (AddDir p) e = refl
as-name (AddFile p c) e = refl
as-name (Patch p a b) e = refl
as-name (Clear p k) e = refl
as-name (Set p k v) e = refl

pub as-keys : (c : Change) (e : Entry) → has_keys e ≡ true → has_keys (edited_as c e) ≡ true
as-keys (Delete p) e h = h
as-keys (Rename p to) e h = h
as-keys (AddDir p) e h = h
as-keys (AddFile p c) e h = h
as-keys (Patch p a b) e h = h
as-keys (Clear p k) e h = rises_placed bytes_cmp (λ (a : Attr). a.key) bytes_total _ e.attrs h
as-keys (Set p k v) e h = rises_placed bytes_cmp (λ (a : Attr). a.key) bytes_total _ e.attrs h

-- how far a chain of edits is from its end
abbrev pub to_go : ℕ → Option ℕ → ℕ
to_go n o = option_map_or (λ at. suc (n - at)) o 0

module _ (old : Tree) (all : List Change) (new : Id) where
  abbrev pub hit : Entry → Change → Bool
  hit e c = touches old all new e.name c

  pub edited-is : (c : Change) (e : Entry) → edited old all new c e ≡ cond (hit e c) (edited_as c e) e
  edited-is (Delete p) e = refl
  edited-is (Rename p to) e = refl
  edited-is (AddDir p) e = refl
  edited-is (AddFile p c) e = refl
  edited-is (Patch p a b) e = refl
  edited-is (Clear p k) e = refl
  edited-is (Set p k v) e = refl

  -- where the next edit is at a position, nothing is edited before it
  abbrev Reaches : ℕ → Entry → Option ℕ → Type 0
  Reaches i e None = edited_by old all new (drop i all) e ≡ e
  Reaches i e (Some at) = (c : Change) × (slice_get all at ≡ Some c) × (hit e c ≡ true) × (edited_by old all new (drop i all) e ≡ edited_by old all new (drop (at + 1) all) (edited_as c e)) × (i ≤ at) × (at < length all)

  further : (i : ℕ) (e : Entry) (o : Option ℕ) → edited_by old all new (drop i all) e ≡ edited_by old all new (drop (i + 1) all) e → Reaches (i + 1) e o → Reaches i e o
  further i e None same r = same ∙ r
  further i e (Some at) same r = (r.0, r.1, r.2, same ∙ r.3, omega (arith, r.4), r.5)

  reaches : (m i : ℕ) (e : Entry) → i + m ≡ length all → Reaches i e (next_edit old all new e.name i)
  reaches zero i e h =
      let low : length all ≤ i = omega (arith, h) in
      subst (Reaches i e) (sym (at_drop_all (position_from (hit e) i) all i low)) (at_drop_all (λ cs. edited_by old all new cs e) all i low)
  reaches (suc m) i e h =
      let low : i < length all = omega (arith, h) in
      let t = taken all i low in
      let x : Change = t.0 in
      let is : x ≡ get_or all i x = sym (t.3 x) in
      let first : next_edit old all new e.name i ≡ cond (hit e x) (Some i) (next_edit old all new e.name (i + 1)) = at_drop_more (position_from (hit e) i) all i x low ∙ ap (λ y. cond (hit e y) (Some i) (next_edit old all new e.name (i + 1))) (sym is) in
      let step : edited_by old all new (drop i all) e ≡ edited_by old all new (drop (i + 1) all) (cond (hit e x) (edited_as x e) e) =
      at_drop_more (λ cs. edited_by old all new cs e) all i x low ∙ ap (λ y. edited_by old all new (drop (i + 1) all) (edited old all new y e)) (sym is) ∙ ap (edited_by old all new (drop (i + 1) all)) (edited-is x e) in
      subst (Reaches i e) (sym first)
      (elim (hit e x) as (λ b. hit e x ≡ b → edited_by old all new (drop i all) e ≡ edited_by old all new (drop (i + 1) all) (cond b (edited_as x e) e) → Reaches i e (cond b (Some i) (next_edit old all new e.name (i + 1)))) [
        | true ↦ λ q s. (x, t.1, q, s, omega arith, low)
        | false ↦ λ q s. further i e (next_edit old all new e.name (i + 1)) s (reaches m (i + 1) e (omega (arith, h)))
      ] refl step)

  -- what is left to do with an entry
  pub record IsLeft (start : Entry) (next : Option ℕ) (entry : Entry) : Type 0 where
    pub from : ℕ
    pub within : from ≤ length all
    pub next_is : next ≡ next_edit old all new entry.name from
    pub keys : has_keys entry ≡ true
    pub same : edited_by old all new all start ≡ edited_by old all new (drop from all) entry

  reached : (start entry : Entry) (next : Option ℕ) (h : IsLeft start next entry) → Reaches h.from entry next
  reached start entry next h = subst (Reaches h.from entry) (sym h.next_is) (reaches (length all - h.from) h.from entry (omega (arith, h.within)))

  left_first : (e : Entry) (next : Option ℕ) → has_keys e ≡ true → next ≡ next_edit old all new e.name 0 → IsLeft e next e
  left_first e next keys is = record { from = 0; within = omega arith; next_is = is; keys = keys; same = refl }

  pub left_start : (start e : Entry) (next : Option ℕ) → e ≡ start → has_keys start ≡ true → next ≡ next_edit old all new start.name 0 → IsLeft start next e
  left_start start e next is keys at = subst (IsLeft start next) (sym is) (left_first start next keys at)

  -- the change at the next position, and what is left behind it
  pub record IsStep (start : Entry) (at : ℕ) (entry : Entry) : Type 0 where
    pub change : Change
    pub is : slice_get all at ≡ Some change
    pub hits : touches old all new entry.name change ≡ true
    pub low : at < length all
    pub on : (next : Option ℕ) → next ≡ next_edit old all new entry.name (at + 1) → IsLeft start next (edited_as change entry)

  pub left_more : (start entry : Entry) (at : ℕ) → IsLeft start (Some at) entry → IsStep start at entry
  left_more start entry at h =
      let r = reached start entry (Some at) h in
      record {
        change = r.0;
        is = r.1;
        hits = r.2;
        low = r.5;
        on = λ next is. record {
          from = at + 1;
          within = omega (arith, r.5);
          next_is = is ∙ ap (λ n. next_edit old all new n (at + 1)) (sym (as-name r.0 entry));
          keys = as-keys r.0 entry h.keys;
          same = h.same ∙ r.3;
        };
      }

  pub left_none : (start entry : Entry) → IsLeft start None entry → entry ≡ edited_by old all new all start
  left_none start entry h = sym (h.same ∙ reached start entry None h)

  pub none_first : (e : Entry) → has_keys e ≡ true → None ≡ next_edit old all new e.name 0 → e ≡ edited_by old all new all e
  none_first e keys is = left_none e e (left_first e None keys is)

  -- the next position is further on
  pub goes_on : (start entry : Entry) (at : ℕ) (next : Option ℕ) → IsLeft start (Some at) entry → next ≡ next_edit old all new entry.name (at + 1) → to_go (length all) next < to_go (length all) (Some at)
  goes_on start entry at next h is =
      let r = reached start entry (Some at) h in
      let s = subst (Reaches (at + 1) entry) (sym is) (reaches (length all - (at + 1)) (at + 1) entry (omega (arith, r.5))) in
      on next s r.5
    where
      on : (o : Option ℕ) → Reaches (at + 1) entry o → at < length all → to_go (length all) o < to_go (length all) (Some at)
      on None s low = omega arith
      on (Some k) s low = omega (arith, s.4, s.5)

  -- the link behind an edit
  pub linked : (edits : Edits) → AreEdits old all new edits → (start entry : Entry) (at : ℕ) (next : Option ℕ) → IsLeft start (Some at) entry → next ≡ option_and_then (λ o. o) (slice_get edits.next.items at) → next ≡ next_edit old all new entry.name (at + 1)
  linked edits are start entry at next h is =
      let s = left_more start entry at h in
      is ∙ ap (option_and_then (λ o. o)) (are.next entry.name at s.change s.is s.hits)
