-- The records of contents that stand for a state are those of a walk: each position's are those of one revision more over the front below it.
use Rattle.std.specs.Prelude.{slice_get, Contains, IsSome, drop, option_and_then}
use Rattle.std.specs.Option.{option_map_or}
use Rattle.std.proofs.Common.{◌≡◌, ◌≤◌, ◌<◌, ◌+◌, ℕ, zero, suc, List, [], ◌∷◌, ◌++◌, length, take, Option, Some, None, refl, sym, ap, ◌∙◌, subst, arith}
use Rattle.std.proofs.lemmas.List.{length-append, length-take, take_all, take-append-drop}
use Rattle.mtn_ancestry.proofs.Ancestry.{IsAncestor-le}
use Rattle.mtn_base.specs.Hex.{id_of}
use Rattle.mtn_base.specs.declared.id.Id.{Id}
use Rattle.mtn_base.specs.declared.name.NodeName.{NodeName}
use Rattle.mtn_history_laws.specs.History.{Revision, revision_parents, revision_tree, parents_at, tree_at, IsPlaceOf, IsGrown}
use Rattle.mtn_history_laws.specs.Scalars.{Scalar, Value, value_in, value_at, value_of}
use Rattle.mtn_history_laws.specs.Scalars.Scalar.{SlotOf}
use Rattle.mtn_roster.specs.Tree.{entry_of}
use Rattle.mtn_roster.specs.declared.entry.Entry.{Entry}
use Rattle.mtn_replay.specs.Making.{place_of}
use Rattle.mtn_replay.proofs.Histories.{history_is_grown}
use Rattle.mtn_replay.proofs.Places.{within, inside}
use Rattle.mtn_mark_laws.proofs.Stable.{Agree, turned, IsMarkOf-kept, get_kept, early_by}
use Rattle.mtn_marking.specs.Marking.{MarkedTree, marks_in, marking_of, marks_of}
use Rattle.mtn_marking.specs.declared.node.Marking.{Marking}
use Rattle.mtn_marking.specs.Graph.{AreMarksOf, IsMarkedAt}
use Rattle.mtn_model.specs.State.{Logged}
use Rattle.mtn_model.specs.Table.{Contents, body_at}
use Rattle.mtn_records.specs.declared.record.RosterRecord.{RosterRecord}
use Rattle.mtn_records.specs.declared.record.RosterRecord.TheVariants.{Whole, Delta}
use Rattle.mtn_roster_deltas.specs.Numbering.{fresh, IsNumbering}
use Rattle.mtn_history.specs.Revisions.{Kept, next_of, all_entries, depth_on, deeper, IsKept, IsRosterOf}
use Rattle.mtn_check_laws.specs.Fronts.{Front, IsKeptNext, IsStepAt, IsFrontAt, StandsTo}

-- marks that are those of a longer history are those of the front that has the revision
module _ (log rest : List Revision) (grown : IsGrown (log ++ rest)) (r : ℕ) (before : r < length log) where
  agrees : (s : Scalar) → Agree Value (length log) (parents_at log) (parents_at (log ++ rest)) (value_at log s) (value_at (log ++ rest) s)
  agrees s = record {
    same_parents = λ p lt. ap revision_parents (sym (get_kept log rest p lt));
    same_value = λ p lt. ap (λ o. value_in (revision_tree o) s) (sym (get_kept log rest p lt));
    early = early_by revision_parents refl log rest grown.earlier;
    early' = grown.earlier;
  }

  value_cut : (s : Scalar) → value_at log s r ≡ value_at (log ++ rest) s r
  value_cut s = ap (λ o. value_in (revision_tree o) s) (sym (get_kept log rest r before))

  marks_cut : (s : Scalar) (m : Option (List ℕ)) → AreMarksOf (log ++ rest) r s m → AreMarksOf log r s m
  marks_cut s None none = value_cut s ∙ none
  marks_cut s (Some marks) is = (
    subst (λ o. IsSome o) (sym (value_cut s)) is.0,
    λ x. (λ c. IsMarkOf-kept (turned (agrees s)) before ((is.1 x).0 c), λ d. (is.1 x).1 (IsMarkOf-kept (agrees s) before d)),
  )

  some_entry : (o : Option Entry) (n : NodeName) → IsSome (option_and_then (value_of (SlotOf n)) o) → (e : Entry) × (o ≡ Some e)
  some_entry None n is = absurd cc
  some_entry (Some e) n is = (e, refl)

  -- a marked node is in the tree, so its birth is an ancestor
  birth_low : (t : MarkedTree) → IsMarkedAt (log ++ rest) r t → (n : NodeName) (m : Marking) → marking_of t.marks n ≡ Some m → m.birth < length log
  birth_low t is n m at =
      let b = is.births n m at in
      let marked : AreMarksOf (log ++ rest) r (SlotOf n) (Some m.slot) = subst (AreMarksOf (log ++ rest) r (SlotOf n)) (ap (λ o. option_and_then (marks_of (SlotOf n)) o) at) (is.marks (SlotOf n)) in
      let e = some_entry (entry_of (tree_at (log ++ rest) r) n) n marked.0 in
      let born = grown.born r n e.0 e.1 in
      let same : born.0 ≡ m.birth = grown.differ n.birth born.0 m.birth born.1 b in
      let low = IsAncestor-le grown.earlier born.2 in
      omega (arith, same, low, before)

  place_cut : (id : Id) (b : ℕ) → b < length log → IsPlaceOf (log ++ rest) id b → IsPlaceOf log id b
  place_cut id b lt at = (at.0, sym (get_kept log rest b lt) ∙ at.1, at.2)

  marked_cut : (t : MarkedTree) → IsMarkedAt (log ++ rest) r t → IsMarkedAt log r t
  marked_cut t is = record {
    tree = ap revision_tree (sym (get_kept log rest r before)) ∙ is.tree;
    marks = λ s. marks_cut s (marks_in t.marks s) (is.marks s);
    births = λ n m at. place_cut n.birth m.birth (birth_low t is n m at) (is.births n m at);
  }

front_more : {X : Type 0} (xs : List X) (k : ℕ) (x : X) → slice_get xs k ≡ Some x → take (suc k) xs ≡ take k xs ++ x ∷ []
front_more [] k x e = absurd cc
front_more (y ∷ ys) zero x e = let same : y ≡ x = cc in ap (λ z. z ∷ []) same
front_more (y ∷ ys) (suc k) x e = ap (λ zs. y ∷ zs) (front_more ys k x e)

-- what stands below a place stands in the front there
cut_at : {X : Type 0} (xs : List X) (r p : ℕ) → p < r → slice_get (take r xs) p ≡ slice_get xs p
cut_at [] zero p lt = absurd (omega (arith, lt))
cut_at [] (suc r) p lt = refl
cut_at (x ∷ xs) zero p lt = absurd (omega (arith, lt))
cut_at (x ∷ xs) (suc r) zero lt = refl
cut_at (x ∷ xs) (suc r) (suc p) lt = cut_at xs r p (omega (arith, lt))

depth_cut : (ks : List Kept) (r : ℕ) (parents : List ℕ) → ((p : ℕ) → Contains parents p → p < r) → depth_on (take r ks) parents ≡ depth_on ks parents
depth_cut ks r [] known = refl
depth_cut ks r (p ∷ ps) known = ap (λ o. option_map_or (λ (k : Kept). deeper k.depth) o 0) (cut_at ks r p (known p (0, omega arith, refl)))

roster_cut : (ks : List Kept) (r : ℕ) (parents : List ℕ) (k : Kept) (x : RosterRecord) → ((p : ℕ) → Contains parents p → p < r) → IsRosterOf ks parents k x → IsRosterOf (take r ks) parents k x
roster_cut ks r parents k (Whole es) known is = is
roster_cut ks r [] k (Delta base depth g ch) known is = is
roster_cut ks r (p ∷ ps) k (Delta base depth g ch) known is = (is.0, is.1, is.2, (is.3.0, cut_at ks r p (known p (0, omega arith, refl)) ∙ is.3.1, is.3.2))

module _ (f : List ℕ → List ℕ) (c : Contents) (n : ℕ) (front : Front) (stands : StandsTo f c n front) where
  abbrev log : List Logged
  log = front.log

  abbrev h : List Revision
  h = front.history

  abbrev ks : List Kept
  ks = front.kept

  grown : IsGrown h
  grown = history_is_grown f (c 2) log h stands.spelled

  abbrev cut : ℕ → Front
  cut r = record { log = take r log; history = take r h; kept = take r ks }

  parents_low : (r : ℕ) (v : Revision) → slice_get h r ≡ Some v → (p : ℕ) → Contains v.parents p → p < r
  parents_low r v at p has = grown.earlier r p (subst (λ ps. Contains ps p) (sym (ap revision_parents at)) has)

  -- the marks of the whole history, at the end of the front with the revision
  marked_here : (r : ℕ) (v : Revision) (t : MarkedTree) → slice_get h r ≡ Some v → IsMarkedAt h r t → IsMarkedAt (take r h ++ v ∷ []) (length (take r h)) t
  marked_here r v t at is =
      let lt = inside h r v at in
      let whole : (take r h ++ v ∷ []) ++ drop (suc r) h ≡ h = ap (λ l. l ++ drop (suc r) h) (sym (front_more h r v at)) ∙ take-append-drop (suc r) h in
      let long : length (take r h) ≡ r = omega (arith, length-take r h, lt) in
      let here : r < length (take r h ++ v ∷ []) = omega (arith, length-append (take r h) (v ∷ []), long) in
      subst (λ k. IsMarkedAt (take r h ++ v ∷ []) k t) (sym long)
      (marked_cut (take r h ++ v ∷ []) (drop (suc r) h) (subst IsGrown (sym whole) grown) r here t (subst (λ l. IsMarkedAt l r t) (sym whole) is))

  kept_here : (r : ℕ) (v : Revision) (k : Kept) → slice_get h r ≡ Some v → IsKept h ks r v k → IsKeptNext (take r h) (take r ks) v k
  kept_here r v k at is =
      let lt = inside h r v at in
      let earlier : take (length (take r h)) (take r ks) ≡ take r ks = take_all (length (take r h)) (take r ks) (omega (arith, length-take r h, length-take r ks, lt)) in
      record {
        marks = is.marks;
        marked = marked_here r v (record { tree = v.tree; marks = is.marks }) at is.marked;
        numbered = subst (λ l. IsNumbering (all_entries l) (next_of l) (record { tree = v.tree; marks = is.marks }) k.entries) (sym earlier) is.numbered;
        next = is.next ∙ ap (λ l. next_of l + length (fresh (all_entries l) v.tree)) (sym earlier);
        depth = is.depth ∙ sym (depth_cut ks r v.parents (parents_low r v at));
      }

  step_here : (r : ℕ) (l : Logged) (v : Revision) (k : Kept) → slice_get log r ≡ Some l → slice_get h r ≡ Some v → slice_get ks r ≡ Some k →
      IsStepAt f c r (cut r) (record { logged = l; revision = v; kept = k })
  step_here r l v k la va ka =
      let next = stands.spelled.each r l v la va in
      let body = stands.log r v k va ka in
      let roster = stands.rosters r v k va ka in
      let kept = stands.revisions.each r v k va ka in
      let id : v.id ≡ id_of l.id = ap (λ (x : Revision). x.id) next.made in
      record {
        entry = record { id = v.id; next_node = k.next; parents = body.2.parents };
        entered = record {
          logged = record { body = body.0; held = body.1; text = body.2.text };
          fresh = ap (place_of (take r h)) id ∙ next.fresh;
        };
        text = record {
          same = sym (ap (λ (i : Id). i.0) id);
          held = ap (λ (i : Id). body_at c 3 i.0) id ∙ stands.texts r l la;
          lawful = next;
        };
        told = record { parents = body.2.same; next = kept.next };
        roster = record {
          kept = kept_here r v k va kept;
          body = roster.0;
          held = roster.1;
          is = record {
            roster = roster.2.roster;
            is = roster_cut ks r v.parents k roster.2.roster (parents_low r v va) roster.2.is;
            text = roster.2.text;
          };
        };
      }

  fronts_walk : (r : ℕ) → r ≤ length log → IsFrontAt f c r (cut r)
  fronts_walk zero le = refl
  fronts_walk (suc r) le =
      let l = within log r (omega (arith, le)) in
      let v = within h r (omega (arith, le, stands.spelled.long)) in
      let k = within ks r (omega (arith, le, stands.spelled.long, stands.revisions.long)) in (
        cut r,
        record { logged = l.0; revision = v.0; kept = k.0 },
        fronts_walk r (omega (arith, le)),
        step_here r l.0 v.0 k.0 l.1 v.1 k.1,
        λ i. record { log = front_more log r l.0 l.1 i; history = front_more h r v.0 v.1 i; kept = front_more ks r k.0 k.1 i },
      )

  whole_cut : cut (length log) ≡ front
  whole_cut = λ i. record {
    log = take_all (length log) log (omega arith) i;
    history = take_all (length log) h (omega (arith, stands.spelled.long)) i;
    kept = take_all (length log) ks (omega (arith, stands.spelled.long, stands.revisions.long)) i;
  }

  pub stands_walk : IsFrontAt f c n front
  stands_walk = subst (λ k. IsFrontAt f c k front) stands.long (subst (IsFrontAt f c (length log)) whole_cut (fronts_walk (length log) (omega arith)))
