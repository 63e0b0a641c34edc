-- The contents of the tree of a merge are held.
use Rattle.std.specs.Prelude.{IsSome, find, filter_map, is_none, option_map, option_and_then}
use Rattle.std.specs.FinMap.{get}
use Rattle.std.specs.Option.{option_map_or}
use Rattle.std.proofs.Common.{◌≡◌, ◌⊎◌, ℕ, false, List, [], Option, Some, None, refl, sym, ◌∙◌, ap, subst, ⊎_elim, inl, inr}
use Rattle.mtn_base.specs.declared.id.Id.{Id}
use Rattle.mtn_base.specs.declared.name.NodeName.{NodeName}
use Rattle.mtn_base.proofs.Finding.{found, none_passes, not_found}
use Rattle.mtn_base.proofs.Members.{in_filter_map}
use Rattle.mtn_between.specs.Laws.{IsContentIn}
use Rattle.mtn_changeset_laws.specs.Laws.{NoneBornIn}
use Rattle.mtn_conflicts.specs.Lists.{AreConflictsOf, IsNone}
use Rattle.mtn_conflicts.specs.Result.{decided_body, result_of}
use Rattle.mtn_conflicts.specs.declared.lists.Conflicts.{Conflicts}
use Rattle.mtn_decide.specs.Decisions.{IsInOrder, Merge, decision_of, pending_of}
use Rattle.mtn_decide.specs.Graph.{IsDecided, IsMergeOf}
use Rattle.mtn_decide.specs.Graph.IsDecided.{common, left_alone, right_alone, left_wins, right_wins, clash}
use Rattle.mtn_decide.specs.Verdicts.{Verdict, content_verdict, verdict_of}
use Rattle.mtn_decide.specs.Verdicts.Verdict.{Settled, Clashing}
use Rattle.mtn_decide.specs.declared.decision.ContentChoice.{ContentChoice}
use Rattle.mtn_decide.specs.declared.decision.ContentChoice.TheVariants.{Absent, Fixed as FixedContent, Clash as ContentClash}
use Rattle.mtn_decide.specs.declared.decision.Decision.{Decision}
use Rattle.mtn_decide.specs.declared.decision.Pending.{Pending}
use Rattle.mtn_history_laws.specs.History.{IsGrown, Revision, entry_at, tree_at}
use Rattle.mtn_history_laws.specs.Scalars.{Value, content_of, value_at, value_of}
use Rattle.mtn_history_laws.specs.Scalars.Scalar.{ContentOf}
use Rattle.mtn_history_laws.specs.Scalars.Value.{ContentValue}
use Rattle.mtn_merging.specs.MergeEdges.{merge_edges}
use Rattle.mtn_merging.proofs.Accepted.{contents_held}
use Rattle.mtn_model.specs.State.{Logged}
use Rattle.mtn_model.specs.Table.{Table}
use Rattle.mtn_replay.specs.Lawful.{IsHistory}
use Rattle.mtn_replay.specs.Making.{place_of, unknown_file}
use Rattle.mtn_replay.proofs.Histories.{history_is_grown}
use Rattle.mtn_resolve.specs.Faults.{AreFitting}
use Rattle.mtn_resolve.specs.Overriding.{candidates, content_in, new_content, overridden, pick_in, reborn_of, with_content}
use Rattle.mtn_resolve.specs.Subjects.{content_of as content_subject, is_about, resolution_of}
use Rattle.mtn_resolve.specs.declared.resolution.Resolution.{Resolution}
use Rattle.mtn_resolve.proofs.Looking.{look_candidates, or_else, was}
use Rattle.mtn_roster.specs.declared.entry.Body.{Body}
use Rattle.mtn_roster.specs.declared.entry.Body.TheVariants.{Dir, File}
use Rattle.mtn_roster.specs.declared.entry.Entry.{Entry}
use Rattle.mtn_merged_trees.proofs.Again.{dirs_again, fresh_again, order_again, sane, tidy_again}
use Rattle.mtn_merged_trees.proofs.Decided.{pending_of_sides}
use Rattle.mtn_merged_trees.proofs.Held.{Held, trees_are_held}
use Rattle.mtn_merged_trees.proofs.Made.{made_of}

-- the content that is decided, or left's where two clash
abbrev content_is : ContentChoice → Id → Type 0
content_is c id = decided_body c ≡ File id

module _ (f : List ℕ → List ℕ) (files : Table) (log : List Logged) (h : List Revision) (is : IsHistory f files log h)
    (a b : Id) (p q : ℕ) (ia : place_of h a ≡ Some p) (ib : place_of h b ≡ Some q) (m : Merge) (order : IsInOrder m) (by : IsMergeOf h p q m)
    (rs : List Resolution) (picks : find (λ (i : Id). is_none (get files i.0)) (filter_map pick_in rs) ≡ None) where
  grown : IsGrown h
  grown = history_is_grown f files log h is

  -- a side's value is held
  value_held : (r : ℕ) (n : NodeName) (id : Id) → value_at h (ContentOf n) r ≡ Some (ContentValue id) → Held files id
  value_held r n id e = go (entry_at h r n) refl e
    where
      at : (x : Entry) → entry_at h r n ≡ Some x → (body : Body) → x.body ≡ body → option_map ContentValue (content_of body) ≡ Some (ContentValue id) → Held files id
      at x k Dir g v = absurd cc
      at x k (File c) g v = let same : c ≡ id = cc in subst (Held files) same (trees_are_held f files log h is r n x c k g)

      go : (o : Option Entry) → entry_at h r n ≡ o → option_and_then (value_of (ContentOf n)) o ≡ Some (ContentValue id) → Held files id
      go None k v = absurd cc
      go (Some x) k v = at x k x.body refl v

  decided_held : (n : NodeName) (v : Verdict) (id : Id) → IsDecided h p q (ContentOf n) v → (v ≡ Settled (ContentValue id)) ⊎ ((r : Value) × (v ≡ Clashing (ContentValue id) r)) → Held files id
  decided_held n _ id (common {v = v} e g) (inl k) = value_held p n id (e ∙ ap Some (let same : v ≡ ContentValue id = cc in same))
  decided_held n _ id (left_alone {v = v} e g) (inl k) = value_held p n id (e ∙ ap Some (let same : v ≡ ContentValue id = cc in same))
  decided_held n _ id (right_alone {w = w} e g) (inl k) = value_held q n id (g ∙ ap Some (let same : w ≡ ContentValue id = cc in same))
  decided_held n _ id (left_wins {v = v} e g x y) (inl k) = value_held p n id (e ∙ ap Some (let same : v ≡ ContentValue id = cc in same))
  decided_held n _ id (right_wins {w = w} e g x y z) (inl k) = value_held q n id (g ∙ ap Some (let same : w ≡ ContentValue id = cc in same))
  decided_held n _ id (clash e g x y z) (inl k) = absurd cc
  decided_held n _ id (common e g) (inr t) = absurd (let k = t.1 in cc)
  decided_held n _ id (left_alone e g) (inr t) = absurd (let k = t.1 in cc)
  decided_held n _ id (right_alone e g) (inr t) = absurd (let k = t.1 in cc)
  decided_held n _ id (left_wins e g x y) (inr t) = absurd (let k = t.1 in cc)
  decided_held n _ id (right_wins e g x y z) (inr t) = absurd (let k = t.1 in cc)
  decided_held n _ id (clash {v = v} e g x y z) (inr t) = value_held p n id (e ∙ ap Some (let k = t.1 in let same : v ≡ ContentValue id = cc in same))

  live_held : (n : NodeName) (d : Decision) (id : Id) → decision_of m.nodes n ≡ Some d → content_is d.content id → Held files id
  live_held n d id k c = go d.content refl c
    where
      told : (v : Verdict) → content_verdict d.content ≡ Some v → IsDecided h p q (ContentOf n) v
      told v e = ((by.scalars (ContentOf n) v).0 (ap (option_and_then (verdict_of (ContentOf n))) k ∙ e)).1

      go : (x : ContentChoice) → d.content ≡ x → content_is x id → Held files id
      go Absent e g = absurd cc
      go (FixedContent c) e g = decided_held n (Settled (ContentValue c)) id (told _ (ap content_verdict e)) (inl (let same : c ≡ id = cc in ap (λ z. Settled (ContentValue z)) same))
      go (ContentClash l r) e g = decided_held n (Clashing (ContentValue l) (ContentValue r)) id (told _ (ap content_verdict e)) (inr (ContentValue r, (let same : l ≡ id = cc in ap (λ z. Clashing (ContentValue z) (ContentValue r)) same)))

  pending_held : (n : NodeName) (x : Pending) (id : Id) → pending_of m.pending n ≡ Some x → content_is (content_in x.entry.body) id → Held files id
  pending_held n x id k c = go x.entry.body refl c
    where
      go : (body : Body) → x.entry.body ≡ body → content_is (content_in body) id → Held files id
      go Dir e g = absurd cc
      go (File c) e g = subst (Held files) (let same : c ≡ id = cc in same) (⊎_elim
          (λ t. trees_are_held f files log h is p n x.entry c t.0 e)
          (λ t. trees_are_held f files log h is q n x.entry c t.0 e)
          (pending_of_sides h p q m grown order by n x k))

  old_held : (n : NodeName) (d : Decision) (id : Id) → decision_of (candidates m) n ≡ Some d → content_is d.content id → Held files id
  old_held n d id k c = go (decision_of m.nodes n) (pending_of m.pending n) refl refl (sym (look_candidates m [] n) ∙ k)
    where
      go : (o : Option Decision) (u : Option Pending) → decision_of m.nodes n ≡ o → pending_of m.pending n ≡ u → or_else o (option_map reborn_of u) ≡ Some d → Held files id
      go (Some x) u e g w = let same : x ≡ d = cc in live_held n d id (e ∙ ap Some same) c
      go None (Some x) e g w = let same : reborn_of x ≡ d = cc in pending_held n x id g (subst (λ (y : Decision). content_is y.content id) (sym same) c)
      go None None e g w = absurd cc

  -- a content that a resolution picks is held
  some_there : {X : Type 0} (o : Option X) → is_none o ≡ false → IsSome o
  some_there None e = absurd cc
  some_there (Some x) e = refl

  pick_held : (n : NodeName) (id : Id) → option_and_then pick_in (resolution_of rs (content_subject n)) ≡ Some id → Held files id
  pick_held n id e = go (resolution_of rs (content_subject n)) refl e
    where
      go : (o : Option Resolution) → resolution_of rs (content_subject n) ≡ o → option_and_then pick_in o ≡ Some id → Held files id
      go None k g = absurd cc
      go (Some r) k g =
          let at = in_filter_map pick_in rs r id (found (is_about (content_subject n)) rs r k).at g in
          some_there (get files id.0) (none_passes (λ (i : Id). is_none (get files i.0)) (filter_map pick_in rs) id (not_found (λ (i : Id). is_none (get files i.0)) (filter_map pick_in rs) picks) at)

  new_held : (n : NodeName) (d : Decision) (id : Id) → decision_of (candidates m) n ≡ Some d → content_is (new_content rs d.name d.content) id → Held files id
  new_held n d id k c = go (option_and_then pick_in (resolution_of rs (content_subject d.name))) refl c
    where
      picked : (pick : Id) (old : ContentChoice) → content_is (with_content pick old) id → pick ≡ id
      picked pick Absent g = absurd cc
      picked pick (FixedContent x) g = cc
      picked pick (ContentClash x y) g = cc

      go : (o : Option Id) → option_and_then pick_in (resolution_of rs (content_subject d.name)) ≡ o → content_is (option_map_or (λ pick. with_content pick d.content) o d.content) id → Held files id
      go None e g = old_held n d id k g
      go (Some pick) e g = subst (Held files) (picked pick d.content g) (pick_held d.name pick e)

  module _ (c d : Conflicts) (fit : AreFitting m c rs) (are : AreConflictsOf (overridden rs m) d) (none : IsNone d) (x : Id) (lx : NoneBornIn (tree_at h p) x) (rx : NoneBornIn (tree_at h q) x) where
    pub result_held : (id : Id) → IsContentIn (result_of (overridden rs m) x) id → Held files id
    result_held id t =
        let o = made_of (overridden rs m) x (order_again f files log h is a b p q ia ib m c d rs order by fit are none) (tidy_again f files log h is a b p q ia ib m c d rs order by fit are none)
        (dirs_again h p q m rs by grown order c fit) (fresh_again h p q m rs by x lx rx) t.0 t.1 t.2 in
        let w = was m rs o.node.name o.node o.there in
        let body : decided_body o.node.content ≡ File id = ap (λ (e : Entry). e.body) o.is ∙ t.3 in
        new_held o.node.name w.old id w.there (ap (λ (y : Decision). decided_body y.content) w.new ∙ body)

    pub contents_again : unknown_file files (merge_edges h a b (result_of (overridden rs m) x)) ≡ None
    contents_again =
        contents_held f files log h is a b p q ia ib (result_of (overridden rs m) x)
        (sane f files log h is a b p q ia ib m c d rs order by fit are none x x lx rx lx rx x lx rx) result_held
