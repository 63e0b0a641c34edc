-- What a merge's edges make of a history.
use Rattle.std.specs.Prelude.{IsSome, find, is_none, filter_map, option_map}
use Rattle.std.specs.Option.{option_map_or}
use Rattle.std.specs.FinMap.{get}
use Rattle.std.specs.declared.cmp.Ordering.TheVariants.{Less}
use Rattle.std.proofs.Common.{◌≡◌, ℕ, false, cond, List, [], ◌∷◌, Option, Some, None, refl, sym, ◌∙◌, ap, subst, ⊎_elim}
use Rattle.mtn_base.specs.Names.{bytes_cmp}
use Rattle.mtn_base.specs.declared.id.Id.{Id}
use Rattle.mtn_base.specs.declared.refusal.Cause.TheVariants.{UnknownParent, UnknownFile}
use Rattle.mtn_changes.specs.declared.change.Change.{Change}
use Rattle.mtn_changes.specs.declared.change.Change.TheVariants.{Delete, Rename, AddDir, AddFile, Patch, Clear, Set}
use Rattle.mtn_changes.specs.declared.change.Edge.{Edge}
use Rattle.mtn_changes.specs.ChangesText.{AreChanges}
use Rattle.mtn_changes.specs.RevisionText.{AreEdges}
use Rattle.mtn_history_laws.specs.History.{Revision, tree_at, IsGrown}
use Rattle.mtn_model.specs.State.{Logged}
use Rattle.mtn_model.specs.Table.{Table}
use Rattle.mtn_roster.specs.Tree.{Tree, IsSane}
use Rattle.mtn_roster.specs.declared.entry.Body.TheVariants.{File}
use Rattle.mtn_base.proofs.Sorting.{no_split}
use Rattle.mtn_base.proofs.Finding.{Split, later}
use Rattle.mtn_base.proofs.Members.{head, split_cons, of_filter_map}
use Rattle.mtn_changeset_laws.specs.Changes.{first_fault, or_else, tree_after}
use Rattle.mtn_changeset_laws.specs.Joining.{join_fault, joined}
use Rattle.mtn_changeset_laws.specs.Laws.{IsFresh}
use Rattle.mtn_changeset_laws.proofs.Stepping.{unborn_at}
use Rattle.mtn_replay.specs.Making.{place_of, is_above, parent_tree, made_tree, change_fault, log_full, unknown_parent, bad_change, bad_join, join_cause, tree_refusal, refusal_of, new_content, new_contents, unknown_file}
use Rattle.mtn_replay.specs.Lawful.{IsHistory}
use Rattle.mtn_replay.proofs.Places.{place_within, above_tells}
use Rattle.mtn_replay.proofs.Steps.{join_none}
use Rattle.mtn_replay.proofs.Histories.{history_is_grown}
use Rattle.mtn_between.specs.Between.{between}
use Rattle.mtn_between.specs.Laws.{IsSpellable, IsContentIn}
use Rattle.mtn_between.specs.Merging.{IsSide, IsMerged}
use Rattle.mtn_between.proofs.Standing.{IsAdd, IsPatch, each_is, of_flat_map}
use Rattle.mtn_between.proofs.Lawful.{lawful}
use Rattle.mtn_between.proofs.Merged.{left_fine, right_fine, agreed, made}
use Rattle.mtn_merging.specs.MergeEdges.{edge_to, merge_edges}
use Rattle.mtn_merging.proofs.Spelled.{all_spell}

module _ (f : List ℕ → List ℕ) (files : Table) (log : List Logged) (h : List Revision) (is : IsHistory f files log h) where
  grown : IsGrown h
  grown = history_is_grown f files log h is

  -- the tree of a parent
  pub tree_is : (a : Id) (p : ℕ) → place_of h a ≡ Some p → parent_tree h (Some a) ≡ tree_at h p
  tree_is a p at = ap (λ o. option_map_or (tree_at h) o []) at

  pub sane_at : (a : Id) (p : ℕ) → place_of h a ≡ Some p → IsSane (tree_at h p)
  sane_at a p at = grown.sane p (place_within h a p at)

  side_of : (a new : Id) (p : ℕ) → place_of h a ≡ Some p → IsFresh h new → IsSide (tree_at h p) new (is_above h (Some a))
  side_of a new p at fresh = record {
    sane = sane_at a p at;
    spellable = all_spell f files log h is p;
    unborn = unborn_at h p new grown.born fresh;
    born = λ n e there. (above_tells h grown.earlier a p at n.birth).1 (grown.born p n e there);
  }

  module _ (a b : Id) (p q : ℕ) (ia : place_of h a ≡ Some p) (ib : place_of h b ≡ Some q) (t : Tree) where
    pub edges_lawful : bytes_cmp a.0 b.0 ≡ Less → IsSane t → IsSpellable t → AreEdges (merge_edges h a b t)
    edges_lawful up sane spell = (
      subst (λ s. AreChanges (between s t)) (sym (tree_is a p ia)) (lawful (tree_at h p) t (sane_at a p ia) sane (all_spell f files log h is p) spell),
      subst (λ s. AreChanges (between s t)) (sym (tree_is b q ib)) (lawful (tree_at h q) t (sane_at b q ib) sane (all_spell f files log h is q) spell),
      up,
    )

    module _ (new : Id) (fresh : IsFresh h new) (m : IsMerged (tree_at h p) (tree_at h q) new (is_above h (Some a)) (is_above h (Some b)) t) where
      left : IsSide (tree_at h p) new (is_above h (Some a))
      left = side_of a new p ia fresh

      right : IsSide (tree_at h q) new (is_above h (Some b))
      right = side_of b new q ib fresh

      pub made_is : made_tree h new (merge_edges h a b t) ≡ t
      made_is =
          (λ i. joined (tree_after (tree_is a p ia i) (between (tree_is a p ia i) t) new) (tree_after (tree_is b q ib i) (between (tree_is b q ib i) t) new) new)
          ∙ made (tree_at h p) (tree_at h q) t new (is_above h (Some a)) (is_above h (Some b)) left right m

      no_bad_change : bad_change h 1 (merge_edges h a b t) ≡ None
      no_bad_change =
          join_none (option_map (change_fault 1) (first_fault (parent_tree h (Some a)) (between (parent_tree h (Some a)) t))) _
          (ap (option_map (change_fault 1)) (ap (λ s. first_fault s (between s t)) (tree_is a p ia) ∙ left_fine (tree_at h p) (tree_at h q) t new (is_above h (Some a)) (is_above h (Some b)) left right m))
          (join_none (option_map (change_fault 2) (first_fault (parent_tree h (Some b)) (between (parent_tree h (Some b)) t))) _
          (ap (option_map (change_fault 2)) (ap (λ s. first_fault s (between s t)) (tree_is b q ib) ∙ right_fine (tree_at h p) (tree_at h q) t new (is_above h (Some a)) (is_above h (Some b)) left right m))
          refl)

      no_bad_join : bad_join h new (merge_edges h a b t) ≡ None
      no_bad_join =
          ap (option_map join_cause)
          ((λ i. join_fault new (is_above h (Some a)) (is_above h (Some b)) (tree_after (tree_is a p ia i) (between (tree_is a p ia i) t) new) (tree_after (tree_is b q ib i) (between (tree_is b q ib i) t) new))
          ∙ agreed (tree_at h p) (tree_at h q) t new (is_above h (Some a)) (is_above h (Some b)) left right m)

      no_unknown_parent : unknown_parent h (merge_edges h a b t) ≡ None
      no_unknown_parent =
          ap (option_map UnknownParent)
          (ap (λ o. cond (is_none o) (Some a) (find (λ id. is_none (place_of h id)) (b ∷ []))) ia
          ∙ ap (λ o. cond (is_none o) (Some b) None) ib)

      pub accepted_is : (manifest : Id) → refusal_of f files h new (record { manifest = manifest; edges = merge_edges h a b t })
          ≡ or_else (log_full h) (tree_refusal f files (record { manifest = manifest; edges = merge_edges h a b t }) t)
      accepted_is manifest =
          ap (λ o. or_else (log_full h) (or_else o (or_else (bad_change h 1 (merge_edges h a b t)) (or_else (bad_join h new (merge_edges h a b t)) (tree_refusal f files (record { manifest = manifest; edges = merge_edges h a b t }) (made_tree h new (merge_edges h a b t))))))) no_unknown_parent
          ∙ ap (λ o. or_else (log_full h) (or_else o (or_else (bad_join h new (merge_edges h a b t)) (tree_refusal f files (record { manifest = manifest; edges = merge_edges h a b t }) (made_tree h new (merge_edges h a b t)))))) no_bad_change
          ∙ ap (λ o. or_else (log_full h) (or_else o (tree_refusal f files (record { manifest = manifest; edges = merge_edges h a b t }) (made_tree h new (merge_edges h a b t))))) no_bad_join
          ∙ ap (λ s. or_else (log_full h) (tree_refusal f files (record { manifest = manifest; edges = merge_edges h a b t }) s)) made_is

    -- the contents that come
    module _ (sane : IsSane t) (held : (content : Id) → IsContentIn t content → IsSome (get files content.0)) where
      brings : (s : Tree) → IsSane s → (c : Change) (content : Id) → Split (between s t) c → new_content c ≡ Some content → IsContentIn t content
      brings s ss (Delete d) content u e = absurd cc
      brings s ss (Rename d r) content u e = absurd cc
      brings s ss (AddDir d) content u e = absurd cc
      brings s ss (AddFile d x) content u e =
          let r : IsAdd s t d (File x) = each_is s t ss sane (AddFile d x) u in
          let same : x ≡ content = cc in
          subst (IsContentIn t) same (r.f.name, r.f, r.here, r.is)
      brings s ss (Patch d x y) content u e =
          let r : IsPatch s t d x y = each_is s t ss sane (Patch d x y) u in
          let same : y ≡ content = cc in
          subst (IsContentIn t) same (r.f.name, r.f, r.here, r.to)
      brings s ss (Clear d k) content u e = absurd cc
      brings s ss (Set d k v) content u e = absurd cc

      edge_brings : (parent : Id) (k : ℕ) → place_of h parent ≡ Some k → (content : Id) → Split (filter_map new_content (between (parent_tree h (Some parent)) t)) content → IsContentIn t content
      edge_brings parent k at content u =
          let w = subst (λ s. Split (filter_map new_content (between s t)) content) (tree_is parent k at) u in
          let c = of_filter_map new_content (between (tree_at h k) t) content w in
          brings (tree_at h k) (sane_at parent k at) c.0 content c.1 c.2

      none_missing : (ids : List Id) → ((id : Id) → Split ids id → IsSome (get files id.0)) → find (λ (id : Id). is_none (get files id.0)) ids ≡ None
      none_missing [] g = refl
      none_missing (id ∷ ids) g =
          ap (λ o. cond o (Some id) (find (λ (id : Id). is_none (get files id.0)) ids)) (is_there (get files id.0) (g id (head id ids)))
          ∙ none_missing ids (λ x u. g x (later id ids x u))
        where
          is_there : (o : Option (List ℕ)) → IsSome o → is_none o ≡ false
          is_there None k = absurd (let z = k in cc)
          is_there (Some v) k = refl

      pub contents_held : unknown_file files (merge_edges h a b t) ≡ None
      contents_held = ap (option_map UnknownFile) (none_missing (new_contents (merge_edges h a b t)) (λ id u. held id (from id u)))
        where
          from : (id : Id) → Split (new_contents (merge_edges h a b t)) id → IsContentIn t id
          from id u =
              let w = of_flat_map (λ (e : Edge). filter_map new_content e.changes) (merge_edges h a b t) id u in
              ⊎_elim
              (λ e. edge_brings a p ia id (subst (λ (x : Edge). Split (filter_map new_content x.changes) id) (sym e) w.2))
              (λ s. ⊎_elim
              (λ e. edge_brings b q ib id (subst (λ (x : Edge). Split (filter_map new_content x.changes) id) (sym e) w.2))
              (λ s. absurd (no_split w.0 s))
              (split_cons (edge_to h b t) [] w.0 s))
              (split_cons (edge_to h a t) (edge_to h b t ∷ []) w.0 w.1)
