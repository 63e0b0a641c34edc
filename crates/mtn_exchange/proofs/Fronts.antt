-- The revisions of a history that are wanted with all that is above them are, in its order, a history of their own.
use Rattle.std.specs.Prelude.{Contains, find, is_none, nat_le, option_and_then, option_map, slice_get}
use Rattle.std.specs.List.{cons_option, filter_map}
use Rattle.std.proofs.Common.{◌≡◌, ◌<◌, ◌≤◌, ℕ, zero, suc, Bool, true, false, min, List, [], ◌∷◌, ◌++◌, length, take, Option, Some, None, refl, sym, ap, ◌∙◌, cond, subst, ⊎_elim, arith}
use Rattle.std.proofs.lemmas.Bool.Decides.{nat_tests}
use Rattle.std.proofs.lemmas.List.{length-append, length-take, take-take}
use Rattle.std.proofs.lemmas.List.Elements.{Contains-append_left, Contains-push, Contains-push_cases}
use Rattle.mtn_base.specs.Hex.{id_of}
use Rattle.mtn_base.specs.declared.id.Id.{Id}
use Rattle.mtn_base.specs.declared.refusal.Cause.TheVariants.{LogFull, UnknownParent}
use Rattle.mtn_base.proofs.IdOrder.{contains_head, contains_later, contains_nil}
use Rattle.mtn_changes.specs.declared.change.Edge.{Edge}
use Rattle.mtn_history_laws.specs.History.{Revision, IsPlaceOf}
use Rattle.mtn_model.specs.State.{Logged}
use Rattle.mtn_model.specs.Table.{Table}
use Rattle.mtn_renaming.specs.Parents.{AreKnownAlike}
use Rattle.mtn_renaming.specs.Renaming.{elsewhere, moved, IsPart}
use Rattle.mtn_renaming.proofs.Elements.{at_contains, contains_at, front_at}
use Rattle.mtn_renaming.proofs.Judging.{judged_alike, part_knows}
use Rattle.mtn_renaming.proofs.Spelling.{all_held, moved_there, named, revision_at, text_at, AreHeld, Held}
use Rattle.mtn_renaming.proofs.Spelling.Held.{held, unnamed}
use Rattle.mtn_replay.specs.Lawful.{IsHistory, IsNext}
use Rattle.mtn_replay.specs.Making.{log_full, made, parents_of, place_of, unknown_parent}
use Rattle.mtn_replay.proofs.Histories.{history_is_grown, history_more, history_none}
use Rattle.mtn_replay.proofs.Places.{inside, no_place, place_has, within}
use Rattle.mtn_replay.proofs.Steps.{both_none, unmapped}

-- ---- fronts of lists

-- a front and the next are a longer front
pub front_more : {X : Type 0} (xs : List X) (k : ℕ) (x : X) → slice_get xs k ≡ Some x → take (suc k) xs ≡ take k xs ++ x ∷ []
front_more [] k x e = absurd cc
front_more (y ∷ ys) zero x e = let same : y ≡ x = cc in ap (λ z. z ∷ []) same
front_more (y ∷ ys) (suc k) x e = ap (λ zs. y ∷ zs) (front_more ys k x e)

pub at_front : {X : Type 0} (xs : List X) (k j : ℕ) (x : X) → j < k → slice_get xs j ≡ Some x → slice_get (take k xs) j ≡ Some x
at_front xs zero j x lt e = absurd (omega (arith, lt))
at_front [] (suc k) j x lt e = absurd cc
at_front (y ∷ ys) (suc k) zero x lt e = e
at_front (y ∷ ys) (suc k) (suc j) x lt e = at_front ys k j x (omega (arith, lt)) e

-- ---- the parents of a text in two histories

held_in : (g : List Revision) (id : Id) (j : ℕ) → IsPlaceOf g id j → Held g (Some id)
held_in g id j at = by (place_of g id) refl
  where
    by : (o : Option ℕ) → place_of g id ≡ o → Held g (Some id)
    by None e = absurd (no_place g id e j at)
    by (Some p) e = held p e

module _ (h g : List Revision) where
  -- the revisions at these positions are in the other history
  abbrev Follow : List ℕ → Type 0
  Follow ps = (q : ℕ) (w : Revision) → Contains ps q → slice_get h q ≡ Some w → (j : ℕ) × IsPlaceOf g w.id j

  one_held : (parent : Option Id) (rest : List ℕ) → Follow (cons_option (option_and_then (place_of h) parent) rest) → Held h parent → Held g parent
  one_held None rest follow known = unnamed
  one_held (Some id) rest follow (held p is) =
      let x = place_has h id p is in
      let c : Contains (cons_option (place_of h id) rest) p = subst (λ o. Contains (cons_option o rest) p) (sym is) (contains_head p rest) in
      let j = follow p x.0 c x.1 in
      held_in g id j.0 (subst (λ i. IsPlaceOf g i j.0) x.2 j.1)

  later_ones : (o : Option ℕ) (rest : List ℕ) → Follow (cons_option o rest) → Follow rest
  later_ones None rest follow q w c at = follow q w c at
  later_ones (Some p) rest follow q w c at = follow q w (contains_later p rest c) at

  pub all_follow : (edges : List Edge) → Follow (parents_of h edges) → AreHeld h edges → AreHeld g edges
  all_follow [] follow known = tt
  all_follow (e ∷ es) follow known =
      (one_held e.parent (parents_of h es) follow known.0, all_follow es (later_ones (option_and_then (place_of h) e.parent) (parents_of h es) follow) known.1)

abbrev unheld : List Revision → Id → Bool
unheld g id = is_none (place_of g id)

not_unheld : (g : List Revision) (parent : Option Id) (rest : List Id) → Held g parent → find (unheld g) rest ≡ None → find (unheld g) (cons_option parent rest) ≡ None
not_unheld g None rest known none = none
not_unheld g (Some id) rest (held p is) none = ap (λ o. cond (is_none o) (Some id) (find (unheld g) rest)) is ∙ none

none_unheld : (g : List Revision) (edges : List Edge) → AreHeld g edges → find (unheld g) (filter_map (λ (e : Edge). e.parent) edges) ≡ None
none_unheld g [] known = refl
none_unheld g (e ∷ es) known = not_unheld g e.parent (filter_map (λ (x : Edge). x.parent) es) known.0 (none_unheld g es known.1)

pub none_unknown : (g : List Revision) (edges : List Edge) → AreHeld g edges → unknown_parent g edges ≡ None
none_unknown g edges known = ap (option_map UnknownParent) (none_unheld g edges known)

-- ---- room

pub not_full : (h : List Revision) → log_full h ≡ None → length h < 2147483648
not_full h none = by (nat_le 2147483648 (length h)) refl none
  where
    by : (b : Bool) → nat_le 2147483648 (length h) ≡ b → cond b (Some (LogFull (length h))) None ≡ None → length h < 2147483648
    by true is e = absurd cc
    by false is e = grind (arith, nat_tests)

pub has_room : (h : List Revision) → length h < 2147483648 → log_full h ≡ None
has_room h lt = by (nat_le 2147483648 (length h)) refl
  where
    by : (b : Bool) → nat_le 2147483648 (length h) ≡ b → cond b (Some (LogFull (length h))) None ≡ None
    by true is = absurd (grind (arith, nat_tests))
    by false is = refl

-- ---- a log of the wanted ones

-- the wanted revisions of a front of a log are a log
pub record Own (f : List ℕ → List ℕ) (files : Table) (log : List Logged) (Wanted : Id → Type 0) (k : ℕ) : Type 0 where
  pub texts : List Logged
  pub history : List Revision
  pub spelled : IsHistory f files texts history
  pub few : length history ≤ k
  pub from : (l : Logged) → Contains texts l → Contains (take k log) l
  pub wanted : (l : Logged) → Contains texts l → Wanted (id_of l.id)
  pub all : (l : Logged) → Contains (take k log) l → Wanted (id_of l.id) → Contains texts l

-- the parents of a wanted revision are wanted
abbrev pub IsClosed : List Revision → (Id → Type 0) → Type 0
IsClosed h Wanted = (c p : ℕ) (v w : Revision) → slice_get h c ≡ Some v → slice_get h p ≡ Some w → Contains v.parents p → Wanted v.id → Wanted w.id

module _ (f : List ℕ → List ℕ) (files : Table) (log : List Logged) (h : List Revision) (is : IsHistory f files log h) where
  -- the front of a log spells the front of its history
  pub front : (k : ℕ) → IsHistory f files (take k log) (take k h)
  front k = record {
    long = length-take k h ∙ ap (min k) is.long ∙ sym (length-take k log);
    each = λ j l v a b.
        let x = front_at log k j l a in
        let y = front_at h k j v b in
        let le : j ≤ k = let lt = x.0 in omega (arith, lt) in
        subst (λ hs. IsNext f files hs l v) (sym (take-take j k h le)) (is.each j l v x.1 y.1);
  }

  module _ (Wanted : Id → Type 0) (closed : IsClosed h Wanted) where
    module _ (k : ℕ) (own : Own f files log Wanted k) where
      abbrev to : ℕ → ℕ
      to = elsewhere own.history (take k h)

      own_part : IsPart own.history (take k h) to
      own_part = moved_there f files own.texts (take k log) own.history (take k h) own.from own.spelled (front k)

      module _ (l : Logged) (v : Revision) (at : slice_get h k ≡ Some v) (next : IsNext f files (take k h) l v) (wanted : Wanted (id_of l.id)) where
        follow : (q : ℕ) (w : Revision) → Contains (parents_of (take k h) next.read.edges) q → slice_get (take k h) q ≡ Some w → (j : ℕ) × IsPlaceOf own.history w.id j
        follow q w c there =
            let x = front_at h k q w there in
            let lq = text_at f files log h is q w x.1 in
            let parent : Contains v.parents q = subst (λ (u : Revision). Contains u.parents q) (sym next.made) c in
            let self : Wanted v.id = subst Wanted (sym (named f files (take k h) l v next)) wanted in
            let up : Wanted w.id = closed k q v w at x.1 parent self in
            let name : w.id ≡ id_of lq.0.id = named f files (take q h) lq.0 w lq.2 in
            let inside : Contains (take k log) lq.0 = contains_at (take k log) q lq.0 (at_front log k q lq.0 x.0 lq.1) in
            let j = at_contains own.texts lq.0 (own.all lq.0 inside (subst Wanted name up)) in
            let r = revision_at f files own.texts own.history own.spelled j.0 lq.0 j.1 in
            let back : r.0.id ≡ id_of lq.0.id = named f files (take j.0 own.history) lq.0 r.0 r.2 in
            (j.0, subst (λ i. IsPlaceOf own.history i j.0) (sym name) (r.0, r.1, back))

        pub parents_own : AreHeld own.history next.read.edges
        parents_own = all_follow (take k h) own.history next.read.edges follow (all_held (take k h) next.read.edges (unmapped _ _ (both_none _ _ (both_none _ _ next.accepted).1).0))

        -- the wanted ones know the parents as the whole does
        pub known_own : AreKnownAlike own.history (take k h) next.read.edges
        known_own = part_knows own.history (take k h) to own_part (history_is_grown f files own.texts own.history own.spelled) (history_is_grown f files (take k log) (take k h) (front k))
            next.read.edges (none_unknown own.history next.read.edges parents_own)

        pub rooms_own : log_full own.history ≡ None
        rooms_own =
            let few = own.few in
            let lt = not_full (take k h) (both_none (log_full (take k h)) _ next.accepted).0 in
            let short : k < length h = inside h k v at in
            has_room own.history (omega (arith, few, lt, short, length-take k h))

        full_alike : log_full (take k h) ≡ log_full own.history
        full_alike = (both_none (log_full (take k h)) _ next.accepted).0 ∙ sym rooms_own

        fresh_own : place_of own.history (id_of l.id) ≡ None
        fresh_own = by (place_of own.history (id_of l.id)) refl
          where
            by : (o : Option ℕ) → place_of own.history (id_of l.id) ≡ o → o ≡ None
            by None e = refl
            by (Some p) e =
                let x = place_has own.history (id_of l.id) p e in
                absurd (no_place (take k h) (id_of l.id) next.fresh (to p) (moved to x.0, own_part p x.0 x.1, x.2))

        next_own : IsNext f files own.history l (made own.history (id_of l.id) next.read.edges)
        next_own = record {
          short = next.short;
          id = next.id;
          fresh = fresh_own;
          read = next.read;
          spells = next.spells;
          accepted = sym (judged_alike own.history (take k h) f files (id_of l.id) next.read known_own full_alike) ∙ next.accepted;
          made = refl;
        }

    with_next : (k : ℕ) → Own f files log Wanted k → (l : Logged) (v : Revision) → slice_get log k ≡ Some l → slice_get h k ≡ Some v → Dec (Wanted (id_of l.id)) → Own f files log Wanted (suc k)
    with_next k own l v at also (yes wanted) =
        let next = is.each k l v at also in
        let more = front_more log k l at in
        record {
          texts = own.texts ++ l ∷ [];
          history = own.history ++ made own.history (id_of l.id) next.read.edges ∷ [];
          spelled = history_more f files own.texts own.history l (made own.history (id_of l.id) next.read.edges) own.spelled (next_own k own l v also next wanted);
          few = let few = own.few in omega (arith, few, length-append own.history (made own.history (id_of l.id) next.read.edges ∷ []));
          from = λ m c. subst (λ ls. Contains ls m) (sym more)
              (⊎_elim (λ d. Contains-append_left (take k log) (l ∷ []) m (own.from m d)) (λ e. subst (Contains (take k log ++ l ∷ [])) e (Contains-push (take k log) l)) (Contains-push_cases own.texts l m c));
          wanted = λ m c. ⊎_elim (λ d. own.wanted m d) (λ e. subst (λ (x : Logged). Wanted (id_of x.id)) e wanted) (Contains-push_cases own.texts l m c);
          all = λ m c w.
              ⊎_elim (λ d. Contains-append_left own.texts (l ∷ []) m (own.all m d w)) (λ e. subst (Contains (own.texts ++ l ∷ [])) e (Contains-push own.texts l))
              (Contains-push_cases (take k log) l m (subst (λ ls. Contains ls m) more c));
        }
    with_next k own l v at also (no n) =
        let more = front_more log k l at in
        record {
          texts = own.texts;
          history = own.history;
          spelled = own.spelled;
          few = let few = own.few in omega (arith, few);
          from = λ m c. subst (λ ls. Contains ls m) (sym more) (Contains-append_left (take k log) (l ∷ []) m (own.from m c));
          wanted = own.wanted;
          all = λ m c w.
              ⊎_elim (λ d. own.all m d w) (λ e. absurd (n (subst (λ (x : Logged). Wanted (id_of x.id)) (sym e) w))) (Contains-push_cases (take k log) l m (subst (λ ls. Contains ls m) more c));
        }

    pub own_of : ((x : Id) → Dec (Wanted x)) → (k : ℕ) → k ≤ length h → Own f files log Wanted k
    own_of tell zero le = record {
      texts = [];
      history = [];
      spelled = history_none f files;
      few = omega arith;
      from = λ m c. absurd (contains_nil c);
      wanted = λ m c. absurd (contains_nil c);
      all = λ m c w. absurd (contains_nil c);
    }
    own_of tell (suc k) le =
        let v = within h k le in
        let l = within log k (subst (λ n. k < n) is.long le) in
        with_next k (own_of tell k (omega (arith, le))) l.0 v.0 l.1 v.1 (tell (id_of l.0.id))
