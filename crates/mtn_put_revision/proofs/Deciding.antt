-- What a text comes to, and what damages are found on the way.
use Rattle.std.specs.Prelude.{find, option_map, slice_get, IfSome, IfErr, OnOk, nat_le}
use Rattle.std.proofs.Common.{◌≡◌, ◌≤◌, ◌<◌, ℕ, zero, suc, Bool, true, false, cond, List, [], ◌∷◌, ◌++◌, length, Option, Some, None, Result, Ok, Err, refl, sym, ap, ◌∙◌, subst, ◌⊎◌, inl, inr, arith}
use Rattle.std.proofs.lemmas.Bool.Decides.{nat_tests}
use Rattle.mtn_base.specs.Hex.{id_of}
use Rattle.mtn_base.specs.Names.{same_bytes}
use Rattle.mtn_base.specs.declared.id.Id.{Id}
use Rattle.mtn_base.specs.declared.refusal.Cause.{Cause}
use Rattle.mtn_base.specs.declared.refusal.Cause.TheVariants.{Collision, LogFull}
use Rattle.mtn_changes.specs.declared.change.Revision.{Revision as Spelled}
use Rattle.mtn_changeset_laws.specs.Changes.{or_else}
use Rattle.mtn_history_laws.specs.History.{Revision}
use Rattle.mtn_replay.specs.Lawful.{IsHistory, Spells}
use Rattle.mtn_replay.specs.Making.{place_of, log_full, unknown_parent, refusal_of}
use Rattle.mtn_replay.proofs.Places.{inside, place_has, place_within, within}
use Rattle.mtn_model.specs.State.{Logged, State}
use Rattle.mtn_model.specs.Table.{Table, Contents}
use Rattle.mtn_ports.specs.Kept.{with_all}
use Rattle.std.specs.Cmp.Lexicographic.{bytes_decides}
use Rattle.std.proofs.lemmas.Slice.Eq.{bytes_eq-Decides}
use Rattle.mtn_history.specs.Damage.{IsDamage}
use Rattle.mtn_history.specs.Errors.{IfStoreDamage}
use Rattle.mtn_history.specs.Meta.{IsMetaOf, Counted}
use Rattle.mtn_history.specs.Logs.{IsHeldAt}
use Rattle.mtn_history.specs.Rosters.{IsRosterHeld}
use Rattle.mtn_history.specs.Stands.{IsDraft, IsFounded}
use Rattle.mtn_replay.specs.Texts.{text_under}
use Rattle.mtn_history.specs.declared.errors.Damage.{Damage}
use Rattle.mtn_history.specs.declared.errors.HistoryError.{HistoryError}
use Rattle.mtn_history.specs.declared.errors.HistoryError.TheVariants.{Refused, Store}
use Rattle.mtn_history.specs.declared.errors.StoreError.TheVariants.{Failed, Damaged, NoMemory}
use Rattle.mtn_history.specs.declared.pending.Pending.{Pending}
use Rattle.mtn_history.proofs.Founding.{founded, told_of}
use Rattle.mtn_history.proofs.MetaLemmas.{opened_by}
use Rattle.mtn_put_revision.specs.Accepting.{IsCollided, IsHeld, KeepsRevision}
use Rattle.mtn_replay.specs.Accepting.{Decides, refusal_beside, logged_beside}
use Rattle.mtn_put_revision.specs.Finding.{IsFound, IsRefusal, made_refusal_of}
use Rattle.mtn_put_revision.specs.Keeping.{Accepts, AcceptsNew, with_text}
use Rattle.mtn_put_revision.specs.declared.over.NewRevision.{NewRevision}
use Rattle.mtn_put_revision.proofs.Grounds.{never_found}

-- a log with room
pub has_room : (h : List Revision) (count : ℕ) → count ≡ length h → count < 2147483648 → log_full h ≡ None
has_room h count is low = ap (λ b. cond b (Some (LogFull (length h))) None) (small (length h) (subst (λ n. n < 2147483648) is low))
  where
    small : (n : ℕ) → n < 2147483648 → nat_le 2147483648 n ≡ false
    small n lt = grind (arith, nat_tests, lt)

-- what is refused of the parents, with room in the log
pub refused_parents : (f : List ℕ → List ℕ) (files : Table) (h : List Revision) (new : Id) (r : Spelled) (e : HistoryError) → log_full h ≡ None → IsRefusal (unknown_parent h r.edges) e → IsRefusal (refusal_of f files h new r) e
refused_parents f files h new r (Store x) room is = tt
refused_parents f files h new r (Refused cause) room is =
    ap (λ o. or_else o (or_else (unknown_parent h r.edges) (made_refusal_of f files h new r))) room ∙ ap (λ o. or_else o (made_refusal_of f files h new r)) is

-- and what is refused behind them
pub refused_made : (f : List ℕ → List ℕ) (files : Table) (h : List Revision) (new : Id) (r : Spelled) → log_full h ≡ None → unknown_parent h r.edges ≡ None → refusal_of f files h new r ≡ made_refusal_of f files h new r
refused_made f files h new r room known =
    ap (λ o. or_else o (or_else (unknown_parent h r.edges) (made_refusal_of f files h new r))) room ∙ ap (λ o. or_else o (made_refusal_of f files h new r)) known

pub err_refused : {T : Type 0} (result : Result T HistoryError) (a b : Option Cause) → a ≡ b → IfErr result (IsRefusal a) → IfErr result (IsRefusal b)
err_refused result a b is h = subst (λ o. IfErr result (IsRefusal o)) is h

pub accepted_new : {T : Type 0} (result : Result T HistoryError) (f : List ℕ → List ℕ) (c : Contents) (s : State) (h : List Revision) (fresh : NewRevision) (p : Pending) → log_full h ≡ None → unknown_parent h fresh.read.now.edges ≡ None →
    OnOk result (Accepts f c s h fresh p) → OnOk result (AcceptsNew f c s h fresh p)
accepted_new (Ok x) f c s h fresh p room known a = record { fine = refused_made f s.files h fresh.id fresh.read.now room known ∙ a.fine; draft = a.draft }
accepted_new (Err e) f c s h fresh p room known a = tt

pub accepted_parts : {T : Type 0} (result : Result T HistoryError) (f : List ℕ → List ℕ) (c : Contents) (s : State) (h : List Revision) (fresh : NewRevision) (p : Pending) → OnOk result (AcceptsNew f c s h fresh p) →
    OnOk result ((refusal_of f s.files h fresh.id fresh.read.now ≡ None) × IsDraft f c p (with_text s (record { id = fresh.id.0; text = fresh.text.now })))
accepted_parts (Ok x) f c s h fresh p a = (a.fine, a.draft)
accepted_parts (Err e) f c s h fresh p a = tt

-- an id without a text stands nowhere
find_past : {X : Type 0} (test : X → Bool) (y x : X) (ys : List X) (b : Bool) → test y ≡ b → (k : ℕ) → slice_get (y ∷ ys) k ≡ Some x → ((j : ℕ) → slice_get ys j ≡ Some x → find test ys ≡ None → test x ≡ false) → cond b (Some y) (find test ys) ≡ None → test x ≡ false
find_past test y x ys true e k at rest none = absurd cc
find_past test y x ys false e zero at rest none = let same : y ≡ x = cc in ap test (sym same) ∙ e
find_past test y x ys false e (suc k) at rest none = rest k at none

find_fails : {X : Type 0} (test : X → Bool) (xs : List X) (x : X) (k : ℕ) → slice_get xs k ≡ Some x → find test xs ≡ None → test x ≡ false
find_fails test [] x k at none = absurd cc
find_fails test (y ∷ ys) x k at none = find_past test y x ys (test y) refl k at (find_fails test ys x) none

unmapped : {A B : Type 0} (g : A → B) (x : Option A) → option_map g x ≡ None → x ≡ None
unmapped g None h = refl
unmapped g (Some a) h = absurd cc

same_self : (a : List ℕ) → same_bytes a a ≡ true
same_self a = (bytes_decides a a).1 refl

pub text_none : (f : List ℕ → List ℕ) (files : Table) (log : List Logged) (h : List Revision) (id : Id) → IsHistory f files log h → text_under log id.0 ≡ None → place_of h id ≡ None
text_none f files log h id is none = by (place_of h id) refl
  where
    by : (o : Option ℕ) → place_of h id ≡ o → o ≡ None
    by None e = refl
    by (Some p) e =
        let v = place_has h id p e in
        let l = within log p (subst (λ n. p < n) is.long (place_within h id p e)) in
        let named : id_of l.0.id ≡ id = sym (ap (λ (x : Revision). x.id) (is.each p l.0 v.0 l.1 v.1).made) ∙ v.2 in
        let test : same_bytes l.0.id id.0 ≡ false = find_fails (λ (x : Logged). same_bytes x.id id.0) log l.0 p l.1 (unmapped (λ (x : Logged). x.text) (find (λ (x : Logged). same_bytes x.id id.0) log) none) in
        absurd (let t : true ≡ false = sym (same_self l.0.id) ∙ ap (λ (i : Id). same_bytes l.0.id i.0) named ∙ test in cc)

-- a text that spells a revision is decided over the history
pub decided : (f : List ℕ → List ℕ) (s : State) (text : List ℕ) (r : Spelled) (h : List Revision) (held : Option (List ℕ)) (refusal : Option Cause) → length text ≤ 67108864 → Spells text r → IsHistory f s.files s.log h →
    text_under s.log (f text) ≡ held → refusal ≡ refusal_beside held f s.files h text r → Decides f s text refusal (logged_beside held f s text)
decided f s text r h held refusal short spells is under answer = inr (inr (record {
  short = short;
  read = r;
  spells = spells;
  history = h;
  spelled = is;
  is = answer ∙ ap (λ o. refusal_beside o f s.files h text r) (sym under);
  after = ap (λ o. logged_beside o f s text) (sym under);
}))

-- what was looked for under the id
pub none_under : (s : State) (id : Id) (text : List ℕ) (o : Option Bool) → IsHeld s id text (Ok o) → o ≡ None → text_under s.log id.0 ≡ None
none_under s id text None is e = is
none_under s id text (Some b) is e = absurd cc

pub same_under : (s : State) (id : Id) (text : List ℕ) (o : Option Bool) (b : Bool) → IsHeld s id text (Ok o) → o ≡ Some b → b ≡ true → text_under s.log id.0 ≡ Some text
same_under s id text None b is e t = absurd cc
same_under s id text (Some true) b is e t = is
same_under s id text (Some false) b is e t = absurd cc

pub other_under : (s : State) (id : Id) (text : List ℕ) (o : Option Bool) (b : Bool) → IsHeld s id text (Ok o) → o ≡ Some b → b ≡ false → IsHeld s id text (Ok (Some false))
other_under s id text None b is e t = absurd cc
other_under s id text (Some true) b is e t = absurd cc
other_under s id text (Some false) b is e t = is

-- a text that the log has spells a revision
find_at_by : {X : Type 0} (test : X → Bool) (y x : X) (ys : List X) (b : Bool) → cond b (Some y) (find test ys) ≡ Some x → (find test ys ≡ Some x → (k : ℕ) × (slice_get ys k ≡ Some x)) → (k : ℕ) × (slice_get (y ∷ ys) k ≡ Some x)
find_at_by test y x ys true e rest = (0, e)
find_at_by test y x ys false e rest = let o = rest e in (suc o.0, o.1)

find_at : {X : Type 0} (test : X → Bool) (xs : List X) (x : X) → find test xs ≡ Some x → (k : ℕ) × (slice_get xs k ≡ Some x)
find_at test [] x found = absurd cc
find_at test (y ∷ ys) x found = find_at_by test y x ys (test y) found (find_at test ys x)

held_spells : (f : List ℕ → List ℕ) (files : Table) (log : List Logged) (h : List Revision) (id text : List ℕ) → IsHistory f files log h → text_under log id ≡ Some text → (r : Spelled) × Spells text r
held_spells f files log h id text is under = by (find (λ (l : Logged). same_bytes l.id id) log) refl under
  where
    by : (o : Option Logged) → find (λ (l : Logged). same_bytes l.id id) log ≡ o → option_map (λ (l : Logged). l.text) o ≡ Some text → (r : Spelled) × Spells text r
    by None found e = absurd cc
    by (Some l) found e =
        let at = find_at (λ (x : Logged). same_bytes x.id id) log l found in
        let v = within h at.0 (subst (λ n. at.0 < n) (sym is.long) (inside log at.0 l at.1)) in
        let next = is.each at.0 l v.0 at.1 v.1 in
        let same : l.text ≡ text = cc in
        (next.read, subst (λ (t : List ℕ). Spells t next.read) same next.spells)

module _ (f : List ℕ → List ℕ) (told : Option Contents) (c : Contents) (p : Pending) (s : State) (tells : told ≡ Some c) (draft : IsDraft f c p s) (text : List ℕ) (short : length text ≤ 67108864) (id : Id) (named : id.0 ≡ f text) where
  abbrev d : IsFounded f told p s
  d = founded f told c p s tells draft

  under : (o : Option (List ℕ)) → text_under s.log id.0 ≡ o → text_under s.log (f text) ≡ o
  under o e = ap (text_under s.log) (sym named) ∙ e

  -- another text is held
  pub held_other : (e : HistoryError) (q : Pending) → IsHeld s id text (Ok (Some false)) → IsCollided id text e → KeepsRevision f c s text (Err e) q
  held_other (Store Failed) q is why = tt
  held_other (Store NoMemory) q is why = tt
  held_other (Store (Damaged x)) q is why = absurd cc
  held_other (Refused cause) q is (inl w) = (s, inr (inl (record { short = short; fault = w.0; faulty = w.1; cause = cause; named = w.2; is = refl })))
  held_other (Refused cause) q is (inr w) = (
    s,
    decided f s text w.0 d.stands.history (Some is.0) (Some cause) short w.1 d.stands.spelled (under (Some is.0) is.1)
        (ap Some w.2 ∙ ap (λ (i : Id). Some (Collision i)) (ap id_of named) ∙ sym (ap (λ b. cond b None (Some (Collision (id_of (f text))))) is.2)),
  )

  -- the same text is held
  pub held_same : (q : Pending) → text_under s.log id.0 ≡ Some text → q ≡ p → KeepsRevision f c s text (Ok tt) q
  held_same q is same =
      let r = held_spells f s.files s.log d.stands.history id.0 text d.stands.spelled is in (
        s,
        decided f s text r.0 d.stands.history (Some text) None short r.1 d.stands.spelled (under (Some text) is)
            (sym (ap (λ b. cond b None (Some (Collision (id_of (f text))))) ((bytes_eq-Decides text text).1 refl))),
        subst (λ (x : Pending). IsDraft f c x s) (sym same) draft,
      )

  -- it is new: accepted, or refused
  pub new_kept : (r : Spelled) → Spells text r → (result : Result (Unit {0}) HistoryError) (q : Pending) → text_under s.log id.0 ≡ None → IfErr result (IsRefusal (refusal_of f s.files d.stands.history id r)) →
      IfSome told (λ x. IfErr result (λ e. IfStoreDamage e (IsFound told p (with_all x p.batch)))) →
      OnOk result ((refusal_of f s.files d.stands.history id r ≡ None) × IsDraft f c q (with_text s (record { id = id.0; text = text }))) → KeepsRevision f c s text result q
  new_kept r spells (Ok done) q unheld refusal found kept = (
    record s { log = s.log ++ record { id = f text; text = text } ∷ [] },
    decided f s text r d.stands.history None None short spells d.stands.spelled (under None unheld)
        (sym kept.0 ∙ ap (λ (i : Id). refusal_of f s.files d.stands.history i r) (ap id_of named)),
    subst (λ (i : List ℕ). IsDraft f c q (with_text s (record { id = i; text = text }))) named kept.1,
  )
  new_kept r spells (Err (Store Failed)) q unheld refusal found kept = tt
  new_kept r spells (Err (Store NoMemory)) q unheld refusal found kept = tt
  new_kept r spells (Err (Store (Damaged x))) q unheld refusal found kept = never_found f told p s d x (told_of told c (λ y. IsFound told p (with_all y p.batch) x) tells found)
  new_kept r spells (Err (Refused cause)) q unheld refusal found kept = (
    record s { log = s.log ++ record { id = f text; text = text } ∷ [] },
    decided f s text r d.stands.history None (Some cause) short spells d.stands.spelled (under None unheld)
        (sym refusal ∙ ap (λ (i : Id). refusal_of f s.files d.stands.history i r) (ap id_of named)),
  )

-- what was found is damage
below_counted : (c : Contents) (b : Bool) (n r : ℕ) → IsMetaOf c (record { count = n; is_new = b }) → r < n → Counted c n
below_counted c true n r is lt = absurd (omega (arith, lt, is.1))
below_counted c false n r is lt = is

pub found_damage : (told : Option Contents) (c : Contents) (p : Pending) (x : Damage) → told ≡ Some c → IsMetaOf (with_all c p.batch) (record { count = p.count; is_new = p.is_new }) → IsFound told p (with_all c p.batch) x → IsDamage (with_all c p.batch) x
found_damage told c p x tells meta (inl w) = inr (inr (inr (inr (inl (record { meta = record { count = p.count; is_new = p.is_new }; read = meta; wrong = w })))))
found_damage told c p x tells meta (inr (inl w)) = inr (inr (inl (record { count = p.count; counted = below_counted (with_all c p.batch) p.is_new p.count w.place meta w.below; wrong = w })))
found_damage told c p x tells meta (inr (inr (inl w))) = inr (inr (inr (inl (record { count = p.count; counted = below_counted (with_all c p.batch) p.is_new p.count w.place meta w.below; wrong = w }))))
found_damage told c p x tells meta (inr (inr (inr u))) =
    let same : u.records ≡ c = one told u.records c u.tells tells in
    inr (inr (inr (inr (inr (inl (record {
      count = p.count;
      counted = below_counted (with_all c p.batch) p.is_new p.count u.place meta u.below;
      place = u.place;
      below = u.below;
      bad = u.bad;
      held = subst (λ (y : Contents). IsHeldAt (with_all y p.batch) u.place x ⊎ IsRosterHeld (with_all y p.batch) u.place x) same u.held;
      unfit = λ f s stands. let o = opened_by p.is_new p.count f (with_all c p.batch) s meta stands in u.unfit f s (founded f told c p s tells (record { count = o.0; stands = o.1 }));
    }))))))
  where
    one : (o : Option Contents) (a b : Contents) → o ≡ Some a → o ≡ Some b → a ≡ b
    one o a b x y = cc

pub error_damage : (told : Option Contents) (p : Pending) (e : HistoryError) → IfSome told (λ c. IfStoreDamage e (IsFound told p (with_all c p.batch))) →
    IfSome told (λ c. IsMetaOf (with_all c p.batch) (record { count = p.count; is_new = p.is_new }) → IfStoreDamage e (IsDamage (with_all c p.batch)))
error_damage None p e h = tt
error_damage (Some c) p (Refused cause) h = λ meta. tt
error_damage (Some c) p (Store Failed) h = λ meta. tt
error_damage (Some c) p (Store NoMemory) h = λ meta. tt
error_damage (Some c) p (Store (Damaged x)) h = λ meta. found_damage (Some c) c p x refl meta h

-- what a call found that came to an error
pub result_damage : {T : Type 0} (told : Option Contents) (p : Pending) (result : Result T HistoryError) → IfSome told (λ c. IfErr result (λ e. IfStoreDamage e (IsFound told p (with_all c p.batch)))) →
    IfSome told (λ c. IsMetaOf (with_all c p.batch) (record { count = p.count; is_new = p.is_new }) → IfErr result (λ e. IfStoreDamage e (IsDamage (with_all c p.batch))))
result_damage None p result h = tt
result_damage (Some c) p (Ok x) h = λ meta. tt
result_damage (Some c) p (Err e) h = error_damage (Some c) p e h
