-- The tree that a merge of the tips decides, and its text.
use Rattle.std.specs.Option.{option_map_or}
use Rattle.std.specs.Prelude.{IsSome, find, if◌then◌else◌, is_none, nat_lt, option_and_then, option_map, slice_get, take}
use Rattle.std.specs.Cmp.Lexicographic.{bytes_decides}
use Rattle.std.specs.FinMap.{get}
use Rattle.std.specs.declared.cmp.Ordering.TheVariants.{Less}
use Rattle.std.proofs.lemmas.Bool.Decides.{nat_tests}
use Rattle.std.proofs.Common.{◌≡◌, ◌<◌, ◌≤◌, ◌^◌, ◌⊎◌, ℕ, false, List, [], ◌∷◌, length, Option, Some, None, refl, sym, ◌∙◌, ap, subst, ⊎_elim, arith}
use Rattle.mtn_ancestry.proofs.Ancestry.{IsAncestor-le}
use Rattle.mtn_base.specs.Hex.{id_of}
use Rattle.mtn_base.specs.Names.{bytes_cmp}
use Rattle.mtn_base.specs.declared.id.Id.{Id}
use Rattle.mtn_base.specs.declared.refusal.Cause.TheVariants.{ManifestDiffers, TextTooLong, UnknownParent}
use Rattle.mtn_basic_io.specs.Spelling.{AreStanzas, spelling}
use Rattle.mtn_between.specs.Between.{between}
use Rattle.mtn_between.specs.Laws.{IsContentIn}
use Rattle.mtn_between.specs.Merging.{IsMerged, IsSide}
use Rattle.mtn_between.proofs.Merged.{made}
use Rattle.mtn_changes.specs.RevisionText.{revision_stanzas}
use Rattle.mtn_changes.specs.declared.change.Revision.{Revision as Spelled}
use Rattle.mtn_changeset_laws.specs.Changes.{tree_after}
use Rattle.mtn_changeset_laws.specs.Joining.{joined}
use Rattle.mtn_changeset_laws.specs.Laws.{IsFresh, NoneBornIn}
use Rattle.mtn_changeset_laws.proofs.Stepping.{unborn_at}
use Rattle.mtn_changes.proofs.OneValue.{same_revision}
use Rattle.mtn_conflicts.specs.declared.lists.Conflicts.{Conflicts}
use Rattle.mtn_conflicts.specs.Lists.{AreConflictsOf, IsNone}
use Rattle.mtn_conflicts.specs.Result.{result_of}
use Rattle.mtn_conflicts.proofs.Clear.{tidy}
use Rattle.mtn_conflicts.proofs.Directories.{none_born, parents_are_dirs}
use Rattle.mtn_decide.specs.Decisions.{Merge}
use Rattle.mtn_headline.proofs.Ids.{held_is, merge_stanzas}
use Rattle.mtn_history_laws.specs.History.{IsGrown, IsPlaceOf, Revision, entry_at, revision_tree, tree_at}
use Rattle.mtn_history_laws.specs.Scalars.{content_of, value_of}
use Rattle.mtn_history_laws.specs.Scalars.Scalar.{ContentOf}
use Rattle.mtn_history_laws.specs.Scalars.Value.{ContentValue}
use Rattle.mtn_manifest.specs.Manifest.{manifest_of}
use Rattle.mtn_merged_trees.proofs.Decided.{of_sides}
use Rattle.mtn_merged_trees.proofs.Held.{trees_are_held}
use Rattle.mtn_merged_trees.proofs.Merged.{merged}
use Rattle.mtn_merging.specs.MergeEdges.{merge_edges}
use Rattle.mtn_merging.proofs.Accepted.{accepted_is, contents_held, edges_lawful, made_is, tree_is}
use Rattle.mtn_merging.proofs.Spelled.{all_spell}
use Rattle.mtn_model.specs.State.{AreFiles, Logged, State}
use Rattle.mtn_order.specs.Free.{MakesIds}
use Rattle.mtn_plans.specs.Plans.{IsUnborn, limit_refusal, merge_revision, merge_text, text_refusal}
use Rattle.mtn_plans.specs.Sides.{IsMergeAt}
use Rattle.mtn_renaming.proofs.Elements.{front_at}
use Rattle.mtn_replay.specs.Lawful.{IsHistory, Spells}
use Rattle.mtn_replay.specs.Making.{is_above, log_full, made_tree, other_manifest, parent_tree, place_of, refusal_of, too_long, too_many, unknown_file, unknown_parent}
use Rattle.mtn_replay.proofs.Histories.{history_is_grown}
use Rattle.mtn_replay.proofs.Places.{above_tells, place_has, place_within}
use Rattle.mtn_replay.proofs.Steps.{both_none, first_fails, is_there, join_none, unmapped}
use Rattle.mtn_roster.specs.Tree.{IsSane, Tree}
use Rattle.mtn_roster.specs.declared.entry.Body.{Body}
use Rattle.mtn_roster.specs.declared.entry.Body.TheVariants.{Dir, File}
use Rattle.mtn_roster.specs.declared.entry.Entry.{Entry}
use Rattle.mtn_generated_trees.specs.Formed.{IsFormed}
use Rattle.mtn_generated_trees.specs.Joining.{AreTips, IsUnion, MergesThem}
use Rattle.mtn_generated_trees.proofs.Forming.{form_of}
use Rattle.mtn_generated_trees.proofs.Limits.{not_too_long, not_too_many}
use Rattle.mtn_generated_trees.proofs.Small.{IsSmall, is_small}
use Rattle.mtn_generated_trees.proofs.Texts.{merge_short}
use Rattle.mtn_generated_trees.proofs.Uniting.{is_union, result_is}

module _ (f : List ℕ → List ℕ) (s : State) (h : List Revision) (is : IsHistory f s.files s.log h) (p l r : ℕ) (tips : AreTips h p l r)
    (a b : Id) (m : Merge) (at : IsMergeAt h a b m) (them : MergesThem h l r m) (c : Conflicts) (are : AreConflictsOf m c) (none : IsNone c) (x : Id) (unborn : IsUnborn h a b x) where
  grown : IsGrown h
  grown = history_is_grown f s.files s.log h is

  abbrev pub left_tree : Tree
  left_tree = tree_at h at.left

  abbrev pub right_tree : Tree
  right_tree = tree_at h at.right

  -- the tree that is decided
  abbrev pub result : Tree
  result = result_of m x

  -- it shows what the changesets to it need, as the tree of each id that is no birth
  pub merged_as : (z : Id) → NoneBornIn left_tree z → NoneBornIn right_tree z → IsMerged left_tree right_tree z (is_above h (Some a)) (is_above h (Some b)) result
  merged_as z ul ur = subst (IsMerged left_tree right_tree z (is_above h (Some a)) (is_above h (Some b))) (result_is h l r m them z ∙ sym (result_is h l r m them x))
      (merged left_tree right_tree z (is_above h (Some a)) (is_above h (Some b)) m at.order (tidy m c at.order are none)
      (parents_are_dirs h grown at.left at.right m at.order at.decides) (none_born h at.left at.right m z at.decides ul ur) ul ur
      (of_sides h at.left at.right m grown at.order at.decides (all_spell f s.files s.log h is at.left) (all_spell f s.files s.log h is at.right) (is_above h (Some a)) (is_above h (Some b))
      (above_tells h grown.earlier a at.left at.at_left) (above_tells h grown.earlier b at.right at.at_right)))

  unborn_left : NoneBornIn left_tree x
  unborn_left = subst (λ t. NoneBornIn t x) (tree_is f s.files s.log h is a at.left at.at_left) unborn.0

  unborn_right : NoneBornIn right_tree x
  unborn_right = subst (λ t. NoneBornIn t x) (tree_is f s.files s.log h is b at.right at.at_right) unborn.1

  pub shows : IsMerged left_tree right_tree x (is_above h (Some a)) (is_above h (Some b)) result
  shows = merged_as x unborn_left unborn_right

  side : (id z : Id) (q : ℕ) → place_of h id ≡ Some q → NoneBornIn (tree_at h q) z → IsSide (tree_at h q) z (is_above h (Some id))
  side id z q there fresh = record {
    sane = grown.sane q (place_within h id q there);
    spellable = all_spell f s.files s.log h is q;
    unborn = fresh;
    born = λ n e k. (above_tells h grown.earlier id q there n.birth).1 (grown.born q n e k);
  }

  -- the edges make it
  pub edges_make : (z : Id) → NoneBornIn left_tree z → NoneBornIn right_tree z →
      joined (tree_after left_tree (between left_tree result) z) (tree_after right_tree (between right_tree result) z) z ≡ result
  edges_make z ul ur = made left_tree right_tree result z (is_above h (Some a)) (is_above h (Some b)) (side a z at.left at.at_left ul) (side b z at.right at.at_right ur) (merged_as z ul ur)

  pub union : IsUnion (tree_at h l) (tree_at h r) result
  union = is_union h grown p l r tips m them x

  -- its contents are held
  pub held : (content : Id) → IsContentIn result content → IsSome (get s.files content.0)
  held content there = by (entry_at h l there.0) refl (sym (union.contents there.0) ∙ ap (option_and_then (value_of (ContentOf there.0))) there.2 ∙ ap (λ y. option_map ContentValue (content_of y)) there.3)
    where
      file : (body : Body) → option_map ContentValue (content_of body) ≡ Some (ContentValue content) → body ≡ File content
      file Dir e = absurd cc
      file (File d) e = let same : d ≡ content = cc in ap File same

      by : (o : Option Entry) → entry_at h l there.0 ≡ o → option_and_then (value_of (ContentOf there.0)) o ≡ Some (ContentValue content) → IsSome (get s.files content.0)
      by None e g = absurd cc
      by (Some y) e g = trees_are_held f s.files s.log h is l there.0 y content e (file y.body g)

  -- ---- the text

  module _ (ids : MakesIds f) (are_files : AreFiles f s.files) where
    abbrev pub text : List ℕ
    text = merge_text f h a b result

    pub stanzas : AreStanzas (revision_stanzas (merge_revision f h a b result))
    stanzas = merge_stanzas f ids s.files are_files s.log h is a b at.left at.right result (id_of (f (spelling (manifest_of result)))) at.at_left at.at_right shows.sane held
        (let named = ids (spelling (manifest_of result)) in (named.twenty, named.bytes))

    pub spells : bytes_cmp a.0 b.0 ≡ Less → Spells text (merge_revision f h a b result)
    spells up = record {
      reads = record { lawful = edges_lawful f s.files s.log h is a b at.left at.right at.at_left at.at_right result up shows.sane shows.spellable; spelled = refl };
      stanzas = stanzas;
    }

    -- ---- the limits

    module _ (i m_i k m_k : ℕ) (small : i < 2 ^ 64) (low : m_i < 2 ^ 64) (small_too : k < 2 ^ 64) (low_too : m_k < 2 ^ 64) (places : ((at.left ≡ l) × (at.right ≡ r)) ⊎ ((at.left ≡ r) × (at.right ≡ l)))
        (of_left : IsFormed f i m_i (tree_at h l)) (of_right : IsFormed f k m_k (tree_at h r)) where
      sane_left : IsSane left_tree
      sane_left = grown.sane at.left (place_within h a at.left at.at_left)

      sane_right : IsSane right_tree
      sane_right = grown.sane at.right (place_within h b at.right at.at_right)

      sane_l : IsSane (tree_at h l)
      sane_l = ⊎_elim (λ w. subst (λ q. IsSane (tree_at h q)) w.0 sane_left) (λ w. subst (λ q. IsSane (tree_at h q)) w.1 sane_right) places

      sane_r : IsSane (tree_at h r)
      sane_r = ⊎_elim (λ w. subst (λ q. IsSane (tree_at h q)) w.1 sane_right) (λ w. subst (λ q. IsSane (tree_at h q)) w.0 sane_left) places

      pub form : IsFormed f i m_k result
      form = form_of f i m_i k m_k (tree_at h l) (tree_at h r) result sane_l sane_r shows.sane of_left of_right union

      small_result : IsSmall result
      small_result = is_small f ids i m_k small low_too result shows.sane form

      small_l : IsSmall (tree_at h l)
      small_l = is_small f ids i m_i small low (tree_at h l) sane_l of_left

      small_r : IsSmall (tree_at h r)
      small_r = is_small f ids k m_k small_too low_too (tree_at h r) sane_r of_right

      small_left : IsSmall left_tree
      small_left = ⊎_elim (λ w. subst (λ q. IsSmall (tree_at h q)) (sym w.0) small_l) (λ w. subst (λ q. IsSmall (tree_at h q)) (sym w.0) small_r) places

      small_right : IsSmall right_tree
      small_right = ⊎_elim (λ w. subst (λ q. IsSmall (tree_at h q)) (sym w.1) small_r) (λ w. subst (λ q. IsSmall (tree_at h q)) (sym w.1) small_l) places

      pub short : length text ≤ 67108864
      short =
          let ta = tree_is f s.files s.log h is a at.left at.at_left in
          let tb = tree_is f s.files s.log h is b at.right at.at_right in
          merge_short f ids h result shows.sane small_result a b
          (held_is f ids s.files are_files s.log h is a at.left at.at_left).0 (held_is f ids s.files are_files s.log h is b at.right at.at_right).0
          (subst IsSane (sym ta) sane_left) (subst IsSane (sym tb) sane_right) (subst IsSmall (sym ta) small_left) (subst IsSmall (sym tb) small_right)

      text_fits : text_refusal text ≡ None
      text_fits =
          let fits = short in
          let test : nat_lt 67108864 (length text) ≡ false = grind (arith, nat_tests) in
          ap (λ t. if t then Some (TextTooLong (length text)) else None) test

      pub many : too_many result ≡ None
      many = not_too_many f i m_k small result shows.sane form

      pub long : too_long result ≡ None
      long = not_too_long f i m_k small result shows.sane form

      pub limits : limit_refusal f h a b result ≡ None
      limits = join_none _ _ many (join_none _ _ long text_fits)

      -- ---- where it goes into the log

      abbrev new : Id
      new = id_of (f text)

      abbrev revision : Spelled
      revision = merge_revision f h a b result

      fresh_left : IsFresh h new → NoneBornIn left_tree new
      fresh_left fresh = unborn_at h at.left new grown.born fresh

      fresh_right : IsFresh h new → NoneBornIn right_tree new
      fresh_right fresh = unborn_at h at.right new grown.born fresh

      own_manifest : other_manifest f result revision.manifest ≡ None
      own_manifest = ap (λ t. if t then None else Some (ManifestDiffers (id_of (f (spelling (manifest_of result)))))) ((bytes_decides (f (spelling (manifest_of result))) (f (spelling (manifest_of result)))).1 refl)

      contents : unknown_file s.files revision.edges ≡ None
      contents = contents_held f s.files s.log h is a b at.left at.right at.at_left at.at_right result shows.sane held

      -- nothing of a new text is refused
      pub not_refused : IsFresh h new → log_full h ≡ None → refusal_of f s.files h new revision ≡ None
      not_refused fresh room =
          accepted_is f s.files s.log h is a b at.left at.right at.at_left at.at_right result new fresh (merged_as new (fresh_left fresh) (fresh_right fresh)) revision.manifest
          ∙ join_none _ _ room (join_none _ _ many (join_none _ _ long (join_none _ _ contents own_manifest)))

      -- and its tree is what was decided
      pub new_tree : IsFresh h new → made_tree h new (merge_edges h a b result) ≡ result
      new_tree fresh = made_is f s.files s.log h is a b at.left at.right at.at_left at.at_right result new fresh (merged_as new (fresh_left fresh) (fresh_right fresh))

      -- ---- a text that is held

      -- a revision that stands in a front of the history stands there in the whole
      in_front : (q n o : ℕ) (id : Id) → place_of h id ≡ Some n → place_of (take q h) id ≡ Some o → (n < q) × (parent_tree (take q h) (Some id) ≡ tree_at h n)
      in_front q n o id there here =
          let v = place_has (take q h) id o here in
          let w = front_at h q o v.0 v.1 in
          let same : o ≡ n = grown.differ id o n (v.0, w.1, v.2) (place_has h id n there) in (
            subst (λ j. j < q) same w.0,
            ap (λ (g : Option ℕ). option_map_or (tree_at (take q h)) g []) here ∙ ap revision_tree (v.1 ∙ sym w.1) ∙ ap (tree_at h) same,
          )

      -- its parents stand before it
      parents_known : (q : ℕ) → unknown_parent (take q h) revision.edges ≡ None → ((o : ℕ) × (place_of (take q h) a ≡ Some o)) × ((o : ℕ) × (place_of (take q h) b ≡ Some o))
      parents_known q known =
          let none = unmapped UnknownParent (find (λ id. is_none (place_of (take q h) id)) (a ∷ b ∷ [])) known in
          let first = first_fails (λ id. is_none (place_of (take q h) id)) a (b ∷ []) none in
          let second = first_fails (λ id. is_none (place_of (take q h) id)) b [] first.1 in
          (is_there (place_of (take q h) a) first.0, is_there (place_of (take q h) b) second.0)

      born_before : (q n : ℕ) → IsPlaceOf h new q → n < q → NoneBornIn (tree_at h n) new
      born_before q n there lt e g k same =
          let w = grown.born n e g k in
          let one = grown.differ new w.0 q (subst (λ z. IsPlaceOf h z w.0) same w.1) there in
          let le = IsAncestor-le grown.earlier w.2 in
          omega (arith, one, le, lt)

      made_before : (q : ℕ) → IsPlaceOf h new q → unknown_parent (take q h) revision.edges ≡ None → made_tree (take q h) new revision.edges ≡ result
      made_before q there known =
          let ps = parents_known q known in
          let x = in_front q at.left ps.0.0 a at.at_left ps.0.1 in
          let y = in_front q at.right ps.1.0 b at.at_right ps.1.1 in
          (λ z. joined (tree_after (x.1 z) (between (tree_is f s.files s.log h is a at.left at.at_left z) result) new) (tree_after (y.1 z) (between (tree_is f s.files s.log h is b at.right at.at_right z) result) new) new)
          ∙ edges_make new (born_before q at.left there x.0) (born_before q at.right there y.0)

      -- so the tree of the revision that has this text is what is decided
      pub held_tree : bytes_cmp a.0 b.0 ≡ Less → (q : ℕ) (l : Logged) (v : Revision) → slice_get s.log q ≡ Some l → slice_get h q ≡ Some v → l.text ≡ text → (v.id ≡ new) × (v.tree ≡ result)
      held_tree up q l v in_log in_history same =
          let next = is.each q l v in_log in_history in
          let mine = spells up in
          let told = subst (λ t. Spells t next.read) same next.spells in
          let read : next.read ≡ revision = same_revision text next.read revision told.stanzas mine.stanzas told.reads mine.reads in
          let id : id_of l.id ≡ new = ap id_of (sym next.id ∙ ap f same) in
          let known = (both_none _ _ (both_none _ _ next.accepted).1).0 in
          let there : IsPlaceOf h new q = (v, in_history, ap (λ (z : Revision). z.id) next.made ∙ id) in (
            ap (λ (z : Revision). z.id) next.made ∙ id,
            ap (λ (z : Revision). z.tree) next.made ∙ (λ z. made_tree (take q h) (id z) (read z).edges)
                ∙ made_before q there (subst (λ (z : Spelled). unknown_parent (take q h) z.edges ≡ None) read known),
          )
