-- A node of the next revision's tree has the same number among the entries of the parents and among those of all revisions.
use Rattle.std.specs.Prelude.{slice_get, Contains, IsSome}
use Rattle.std.proofs.lemmas.List.Elements.{Contains-append_right}
use Rattle.std.proofs.Common.{◌≡◌, ◌<◌, ℕ, Bool, true, false, List, [], ◌∷◌, ◌++◌, length, Option, Some, None, refl, sym, ap, ◌∙◌, subst, arith, inl, inr}
use Rattle.mtn_base.specs.Names.{same_id}
use Rattle.mtn_base.specs.declared.id.Id.{Id}
use Rattle.mtn_base.specs.declared.name.NodeName.{NodeName}
use Rattle.mtn_base.proofs.Tests.{same_id-is, same_id-self}
use Rattle.mtn_history.specs.Revisions.{AreKept, Kept, next_of, all_entries}
use Rattle.mtn_history_laws.specs.History.{Revision, revision_parents, revision_tree, IsPlaceOf, IsGrown}
use Rattle.mtn_model.specs.State.{Logged}
use Rattle.mtn_model.specs.Table.{Table}
use Rattle.mtn_put_revision.specs.Keeping.{AreKeptAt}
use Rattle.mtn_put_revision.proofs.Numbers.{all_are_known, parents_known, among_entries, in_kept, sub_all}
use Rattle.mtn_records.specs.declared.entry.NumberedEntry.{NumberedEntry}
use Rattle.mtn_replay.specs.Lawful.{IsHistory, IsNext}
use Rattle.mtn_replay.proofs.Histories.{kept_at, last_at, history_more, history_is_grown}
use Rattle.mtn_replay.proofs.Places.{within, inside}
use Rattle.mtn_roster.specs.Tree.{entry_of}
use Rattle.mtn_roster_deltas.specs.Chain.{Entries}
use Rattle.mtn_roster_deltas.specs.Numbering.{all_of, number_among}
use Rattle.mtn_roster_deltas.proofs.Known.{known_is, there_spelled, spelled_there}
use Rattle.mtn_roster_deltas.proofs.Places.{among_was, contains_cons}
use Rattle.mtn_check_records.proofs.Given.{one_at}

some_at : {X : Type 0} (o : Option X) → IsSome o → (x : X) × (o ≡ Some x)
some_at None h = absurd cc
some_at (Some x) h = (x, refl)

never_number : (es : Entries) (n : NodeName) → ((e : NumberedEntry) → Contains es e → e.node ≡ n → ⊥) → number_among es n ≡ None
never_number es n none = by (number_among es n) refl
  where
    by : (o : Option ℕ) → number_among es n ≡ o → o ≡ None
    by None e = refl
    by (Some m) e = let f = among_was es n m e in absurd (none f.0 f.1 f.2)

module _ (f : List ℕ → List ℕ) (files : Table) (log : List Logged) (h : List Revision) (ks : List Kept) (spelled : IsHistory f files log h) (revisions : AreKept h ks) (l : Logged) (v : Revision)
    (next : IsNext f files h l v) where
  grown_h : IsGrown h
  grown_h = history_is_grown f files log h spelled

  grown_more : IsGrown (h ++ v ∷ [])
  grown_more = history_is_grown f files (log ++ l ∷ []) (h ++ v ∷ []) (history_more f files log h l v spelled next)

  here : slice_get (h ++ v ∷ []) (length h) ≡ Some v
  here = last_at h v

  -- a node of an earlier tree was born earlier
  born_before : (n : NodeName) (e : NumberedEntry) → Contains (all_of (all_entries ks)) e → e.node ≡ n → IsPlaceOf (h ++ v ∷ []) n.birth (length h) → ⊥
  born_before n e c is new =
      let k = in_kept ks e c in
      let w = within h k.0 (subst (λ m. k.0 < m) revisions.long (inside ks k.0 k.1 k.2)) in
      let kept = revisions.each k.0 w.0 k.1 w.1 k.2 in
      let node = some_at (entry_of w.0.tree n) (subst (λ m. IsSome (entry_of w.0.tree m)) is (spelled_there k.1.entries (record { tree = w.0.tree; marks = kept.marks }) kept.numbered.spells e k.3)) in
      let b = grown_h.born k.0 n node.0 (ap (λ o. entry_of (revision_tree o) n) w.1 ∙ node.1) in
      let low = inside h b.0 b.1.0 b.1.1 in
      let same : b.0 ≡ length h = grown_more.differ n.birth b.0 (length h) (b.1.0, kept_at h v b.0 low ∙ b.1.1, b.1.2) new in
      omega (arith, same, low)

  -- the entries of a parent that has a node
  in_parents : (places : List ℕ) (known : List Entries) → AreKeptAt ks places known → (q : ℕ) → Contains places q → (k : Kept) × (slice_get ks q ≡ Some k) × Contains known k.entries
  in_parents [] known are q c = absurd (omega (arith, c.1))
  in_parents (x ∷ places) [] are q c = absurd are
  in_parents (x ∷ places) (es ∷ known) are q c = elim (contains_cons x places q c) [
    | inl is ↦ (are.0.0, ap (slice_get ks) (sym is) ∙ are.0.1, (0, omega arith, are.0.2))
    | inr t ↦ let r = in_parents places known are.1 q t in (r.0, r.1, Contains-append_right (es ∷ []) known r.0.entries r.2)
  ]

  module _ (places : List ℕ) (known : List Entries) (are : AreKeptAt ks places known) (stand : places ≡ v.parents) where
    old_node : (n : NodeName) → IsSome (entry_of v.tree n) → (IsPlaceOf (h ++ v ∷ []) n.birth (length h) → ⊥) → number_among (all_of known) n ≡ number_among (all_of (all_entries ks)) n
    old_node n some old =
        let e = some_at (entry_of v.tree n) some in
        let q = grown_more.kept (length h) n e.0 (ap (λ o. entry_of (revision_tree o) n) here ∙ e.1) old in
        let parent : Contains places q.0 = subst (λ ps. Contains ps q.0) (ap revision_parents here ∙ sym stand) q.1 in
        let k = in_parents places known are q.0 parent in
        let low : q.0 < length h = subst (λ m. q.0 < m) revisions.long (inside ks q.0 k.0 k.1) in
        let w = within h q.0 low in
        let kept = revisions.each q.0 w.0 k.0 w.1 k.1 in
        let in_tree : IsSome (entry_of w.0.tree n) = subst (λ o. IsSome (entry_of (revision_tree o) n)) (kept_at h v q.0 low ∙ w.1) q.2 in
        let x = there_spelled k.0.entries (record { tree = w.0.tree; marks = kept.marks }) kept.numbered.spells n in_tree in
        known_is known (next_of ks) k.0.entries x.0 n (parents_known f files log h ks spelled revisions places known are) k.2 x.1 x.2
        ∙ sym (known_is (all_entries ks) (next_of ks) k.0.entries x.0 n (all_are_known f files log h ks spelled revisions) (among_entries q.0 k.0 ks k.1) x.1 x.2)

    new_node : (n : NodeName) → IsPlaceOf (h ++ v ∷ []) n.birth (length h) → number_among (all_of known) n ≡ number_among (all_of (all_entries ks)) n
    new_node n new =
        never_number (all_of known) n (λ e c is. born_before n e (sub_all ks places known are e c) is new)
        ∙ sym (never_number (all_of (all_entries ks)) n (λ e c is. born_before n e c is new))

    pub same_number : (n : NodeName) → IsSome (entry_of v.tree n) → number_among (all_of known) n ≡ number_among (all_of (all_entries ks)) n
    same_number n some = by (same_id v.id n.birth) refl
      where
        by : (b : Bool) → same_id v.id n.birth ≡ b → number_among (all_of known) n ≡ number_among (all_of (all_entries ks)) n
        by true e = new_node n (v, here, same_id-is v.id n.birth e)
        by false e = old_node n some (λ at. absurd (
            let is : v.id ≡ n.birth = ap (λ (r : Revision). r.id) (one_at (slice_get (h ++ v ∷ []) (length h)) v at.0 here at.1) ∙ at.2 in
            let t : true ≡ false = sym (ap (λ (i : Id). same_id i n.birth) is ∙ same_id-self n.birth) ∙ e in
            cc))
