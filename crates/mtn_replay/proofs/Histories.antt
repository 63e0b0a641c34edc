-- The history of a log: one, grown, and longer by each accepted text.
use Rattle.std.specs.Prelude.{slice_get, option_map, find, is_none, nat_le}
use Rattle.std.specs.FinMap.{get}
use Rattle.std.proofs.Common.{◌≡◌, ◌≤◌, ◌<◌, ℕ, zero, suc, Bool, true, false, List, [], ◌∷◌, ◌++◌, length, take, Some, None, refl, sym, ◌∙◌, ap, subst, cond, arith}
use Rattle.std.proofs.lemmas.List.{take_all, length-take, length-append, take-append-le}
use Rattle.std.proofs.lemmas.Bool.Decides.{nat_tests}
use Rattle.mtn_base.specs.Hex.{id_of}
use Rattle.mtn_base.specs.declared.id.Id.{Id}
use Rattle.mtn_base.specs.declared.refusal.Cause.TheVariants.{LogFull, UnknownFile}
use Rattle.mtn_changes.specs.declared.change.Revision.{Revision as Spelled}
use Rattle.mtn_changes.proofs.OneValue.{same_revision}
use Rattle.mtn_history_laws.specs.History.{Revision, IsGrown, IsStep}
use Rattle.mtn_history_laws.proofs.Growing.{grown_none, grown_more}
use Rattle.mtn_model.specs.State.{Logged}
use Rattle.mtn_model.specs.Table.{Table}
use Rattle.mtn_replay.specs.Making.{made, made_tree, log_full, unknown_parent, bad_change, bad_join, too_many, too_long, new_contents, unknown_file, other_manifest}
use Rattle.mtn_replay.specs.Lawful.{IsNext, Keeps, IsHistory}
use Rattle.mtn_replay.proofs.Places.{within, no_place}
use Rattle.mtn_replay.proofs.Steps.{both_none, join_none, unmapped, first_fails, is_there, accepted_steps}

-- an accepted text is a step
step_of : (f : List ℕ → List ℕ) (files : Table) (h : List Revision) (l : Logged) (v : Revision) → IsGrown h → IsNext f files h l v → IsStep h v
step_of f files h l v grown next =
    let a = both_none _ _ next.accepted in
    let b = both_none _ _ a.1 in
    let c = both_none _ _ b.1 in
    let d = both_none _ _ c.1 in
    subst (IsStep h) (sym next.made) (accepted_steps h grown (id_of l.id) (no_place h (id_of l.id) next.fresh) next.read.edges next.spells.reads.lawful b.0 c.0 d.0)

-- a front and the next are a longer front
front_more : {X : Type 0} (xs : List X) (k : ℕ) (x : X) → slice_get xs k ≡ Some x → take (suc k) xs ≡ take k xs ++ x ∷ []
front_more [] k x e = absurd cc
front_more (y ∷ ys) zero x e = let same : y ≡ x = cc in ap (λ z. z ∷ []) same
front_more (y ∷ ys) (suc k) x e = ap (λ zs. y ∷ zs) (front_more ys k x e)

module _ (f : List ℕ → List ℕ) (files : Table) (log : List Logged) (h : List Revision) (is : IsHistory f files log h) where
  next_at : (k : ℕ) → k < length h → (l : Logged) × (v : Revision) × (slice_get h k ≡ Some v) × IsNext f files (take k h) l v
  next_at k lt =
      let v = within h k lt in
      let l = within log k (subst (λ n. k < n) is.long lt) in
      (l.0, v.0, v.1, is.each k l.0 v.0 l.1 v.1)

  front_grown : (k : ℕ) → k ≤ length h → IsGrown (take k h)
  front_grown zero le = grown_none
  front_grown (suc k) le =
      let n = next_at k le in
      let grown = front_grown k (omega (arith, le)) in
      subst IsGrown (sym (front_more h k n.1 n.2)) (grown_more (take k h) n.1 grown (step_of f files (take k h) n.0 n.1 grown n.3))

  pub history_is_grown : IsGrown h
  history_is_grown = subst IsGrown (take_all (length h) h (omega arith)) (front_grown (length h) (omega arith))

-- two that follow one history are one
one_next : (f : List ℕ → List ℕ) (files : Table) (h : List Revision) (l : Logged) (v w : Revision) → IsNext f files h l v → IsNext f files h l w → v ≡ w
one_next f files h l v w a b =
    let same : a.read ≡ b.read = same_revision l.text a.read b.read a.spells.stanzas b.spells.stanzas a.spells.reads b.spells.reads in
    a.made ∙ ap (λ (r : Spelled). made h (id_of l.id) r.edges) same ∙ sym b.made

module _ (f : List ℕ → List ℕ) (files : Table) (log : List Logged) (h g : List Revision) (ih : IsHistory f files log h) (ig : IsHistory f files log g) where
  fronts : (k : ℕ) → k ≤ length h → take k h ≡ take k g
  fronts zero le = refl
  fronts (suc k) le =
      let a = next_at f files log h ih k le in
      let b = within g k (subst (λ n. k < n) (ih.long ∙ sym ig.long) le) in
      let before = fronts k (omega (arith, le)) in
      let l = within log k (subst (λ n. k < n) ih.long le) in
      let n : IsNext f files (take k g) l.0 a.1 = subst (λ hs. IsNext f files hs l.0 a.1) before (ih.each k l.0 a.1 l.1 a.2) in
      let same = one_next f files (take k g) l.0 a.1 b.0 n (ig.each k l.0 b.0 l.1 b.1) in
      front_more h k a.1 a.2 ∙ (λ i. before i ++ same i ∷ []) ∙ sym (front_more g k b.0 b.1)

  pub one_history : h ≡ g
  one_history = sym (take_all (length h) h (omega arith)) ∙ fronts (length h) (omega arith) ∙ take_all (length h) g (omega (arith, ih.long, ig.long))

pub history_none : (f : List ℕ → List ℕ) (files : Table) → IsHistory f files [] []
history_none f files = record { long = refl; each = λ k l v a b. absurd cc }

pub kept_at : {X : Type 0} (xs : List X) (y : X) (k : ℕ) → k < length xs → slice_get (xs ++ y ∷ []) k ≡ slice_get xs k
kept_at [] y k lt = absurd (omega arith)
kept_at (x ∷ xs) y zero lt = refl
kept_at (x ∷ xs) y (suc k) lt = kept_at xs y k (omega (arith, lt))

pub last_at : {X : Type 0} (xs : List X) (y : X) → slice_get (xs ++ y ∷ []) (length xs) ≡ Some y
last_at [] y = refl
last_at (x ∷ xs) y = last_at xs y

-- a place of a list with one more is one of the list, or behind it
pub data Place {X : Type 0} (xs : List X) : ℕ → Type 0 where
  in_front : {k : ℕ} → k < length xs → Place xs k
  at_back : Place xs (length xs)

pub place : {X : Type 0} (xs : List X) (y z : X) (k : ℕ) → slice_get (xs ++ y ∷ []) k ≡ Some z → Place xs k
place [] y z zero e = at_back
place [] y z (suc k) e = absurd cc
place (x ∷ xs) y z zero e = in_front (omega arith)
place (x ∷ xs) y z (suc k) e = next (place xs y z k e)
  where
    next : {j : ℕ} → Place xs j → Place (x ∷ xs) (suc j)
    next (in_front lt) = in_front (omega (arith, lt))
    next at_back = at_back

-- one more accepted text
pub history_more : (f : List ℕ → List ℕ) (files : Table) (log : List Logged) (h : List Revision) (l : Logged) (v : Revision) → IsHistory f files log h → IsNext f files h l v → IsHistory f files (log ++ l ∷ []) (h ++ v ∷ [])
history_more f files log h l v is next = record {
  long = omega (arith, length-append h (v ∷ []), length-append log (l ∷ []), is.long);
  each = λ k m w a b. at k m w a b (place h v w k b);
}
  where
    at : (k : ℕ) (m : Logged) (w : Revision) → slice_get (log ++ l ∷ []) k ≡ Some m → slice_get (h ++ v ∷ []) k ≡ Some w → Place h k → IsNext f files (take k (h ++ v ∷ [])) m w
    at k m w a b (in_front lt) = subst (λ hs. IsNext f files hs m w) (sym (take-append-le k h (v ∷ []) (omega (arith, lt))))
        (is.each k m w (sym (kept_at log l k (subst (λ n. k < n) is.long lt)) ∙ a) (sym (kept_at h v k lt) ∙ b))
    at k m w a b at_back =
        let one : l ≡ m = let t = sym (last_at log l) ∙ ap (slice_get (log ++ l ∷ [])) (sym is.long) ∙ a in cc in
        let two : v ≡ w = let t = sym (last_at h v) ∙ b in cc in
        subst (λ hs. IsNext f files hs m w) (sym (take-append-le (length h) h (v ∷ []) (omega arith) ∙ take_all (length h) h (omega arith)))
        (subst (λ n. IsNext f files h n w) one (subst (λ x. IsNext f files h l x) two next))

-- contents that are held stay so
still_held : (files more : Table) → Keeps files more → (ids : List Id) → find (λ (id : Id). is_none (get files id.0)) ids ≡ None → find (λ (id : Id). is_none (get more id.0)) ids ≡ None
still_held files more keeps [] e = refl
still_held files more keeps (id ∷ ids) e =
    let t = first_fails (λ (i : Id). is_none (get files i.0)) id ids e in
    let b = is_there (get files id.0) t.0 in
    ap (λ o. cond (is_none o) (Some id) (find (λ (i : Id). is_none (get more i.0)) ids)) (keeps id.0 b.0 b.1) ∙ still_held files more keeps ids t.1

next_kept : (f : List ℕ → List ℕ) (files more : Table) → Keeps files more → (h : List Revision) (l : Logged) (v : Revision) → IsNext f files h l v → IsNext f more h l v
next_kept f files more keeps h l v n =
    let edges = n.read.edges in
    let new = id_of l.id in
    let t = made_tree h new edges in
    let a = both_none (log_full h) _ n.accepted in
    let b = both_none (unknown_parent h edges) _ a.1 in
    let c = both_none (bad_change h 1 edges) _ b.1 in
    let d = both_none (bad_join h new edges) _ c.1 in
    let e = both_none (too_many t) _ d.1 in
    let g = both_none (too_long t) _ e.1 in
    let i = both_none (unknown_file files edges) (other_manifest f t n.read.manifest) g.1 in
    let held : unknown_file more edges ≡ None = ap (option_map UnknownFile) (still_held files more keeps (new_contents edges) (unmapped _ _ i.0)) in
    record {
      short = n.short;
      id = n.id;
      fresh = n.fresh;
      read = n.read;
      spells = n.spells;
      made = n.made;
      accepted = join_none (log_full h) _ a.0 (join_none (unknown_parent h edges) _ b.0 (join_none (bad_change h 1 edges) _ c.0 (join_none (bad_join h new edges) _ d.0
          (join_none (too_many t) _ e.0 (join_none (too_long t) _ g.0 (join_none (unknown_file more edges) (other_manifest f t n.read.manifest) held i.1))))));
    }

-- more files leave a history as it is
pub history_kept : (f : List ℕ → List ℕ) (files more : Table) (log : List Logged) (h : List Revision) → Keeps files more → IsHistory f files log h → IsHistory f more log h
history_kept f files more log h keeps is = record { long = is.long; each = λ k l v a b. next_kept f files more keeps (take k h) l v (is.each k l v a b) }

not_full : (h : List Revision) → log_full h ≡ None → length h < 2147483648
not_full h none = by (nat_le 2147483648 (length h)) refl none
  where
    by : (b : Bool) → nat_le 2147483648 (length h) ≡ b → cond b (Some (LogFull (length h))) None ≡ None → length h < 2147483648
    by true is e = absurd cc
    by false is e = grind (arith, nat_tests)

-- a revision is accepted only where the log has room
pub log_is_short : (f : List ℕ → List ℕ) (files : Table) (log : List Logged) (h : List Revision) → IsHistory f files log h → length log ≤ 2147483648
log_is_short f files log h is = subst (λ n. n ≤ 2147483648) is.long (up_to (length h) refl)
  where
    up_to : (n : ℕ) → n ≡ length h → n ≤ 2147483648
    up_to zero e = omega arith
    up_to (suc n) e =
        let lt : n < length h = omega (arith, e) in
        let next = next_at f files log h is n lt in
        let few = not_full (take n h) (both_none (log_full (take n h)) _ next.3.accepted).0 in
        omega (arith, few, e, length-take n h)
