-- The tree that a merge decides is the one that its text makes, and nothing of the text is refused.
use Rattle.std.specs.Prelude.{IsSome, if◌then◌else◌, find, filter_map, is_none}
use Rattle.std.specs.FinMap.{get}
use Rattle.std.proofs.Common.{◌≡◌, ℕ, List, [], Option, Some, None, refl, sym, ap, ◌∙◌, subst}
use Rattle.mtn_base.specs.Hex.{id_of}
use Rattle.mtn_base.specs.declared.id.Id.{Id}
use Rattle.mtn_base.specs.declared.refusal.Cause.{Cause}
use Rattle.mtn_base.specs.declared.refusal.Cause.TheVariants.{ManifestDiffers, UnknownFile}
use Rattle.mtn_basic_io.specs.Spelling.{AreStanzas, spelling}
use Rattle.mtn_between.specs.Laws.{IsContentIn}
use Rattle.mtn_between.specs.Merging.{IsMerged}
use Rattle.mtn_changes.specs.declared.change.Revision.{Revision as Spelled}
use Rattle.mtn_changes.specs.RevisionText.{revision_stanzas}
use Rattle.mtn_changes.proofs.OneValue.{same_revision}
use Rattle.mtn_changeset_laws.specs.Changes.{or_else}
use Rattle.mtn_changeset_laws.specs.Laws.{NoneBornIn}
use Rattle.mtn_changeset_laws.proofs.Stepping.{unborn_at}
use Rattle.mtn_conflicts.specs.declared.lists.Conflicts.{Conflicts}
use Rattle.mtn_conflicts.specs.Lists.{AreConflictsOf, IsNone}
use Rattle.mtn_conflicts.specs.Result.{result_of}
use Rattle.mtn_decide.specs.Decisions.{Merge}
use Rattle.mtn_history_laws.specs.History.{Revision, tree_at, IsGrown}
use Rattle.mtn_manifest.specs.Manifest.{manifest_of}
use Rattle.mtn_merged_trees.proofs.Again.{edges_again, long_again, manifest_again, many_again, shown_again}
use Rattle.mtn_merged_trees.proofs.Contents.{contents_again, result_held}
use Rattle.mtn_merging.specs.MergeEdges.{merge_edges}
use Rattle.mtn_merging.proofs.Accepted.{accepted_is, edges_lawful, made_is, tree_is}
use Rattle.mtn_model.specs.State.{Logged}
use Rattle.mtn_model.specs.Table.{Table}
use Rattle.mtn_plans.specs.Given.{IsChecked}
use Rattle.mtn_plans.specs.Plans.{IsUnborn, limit_refusal, merge_revision, merge_text, text_refusal}
use Rattle.mtn_plans.specs.Sides.{IsMergeAt, left_of, right_of, side_refusal}
use Rattle.mtn_replay.specs.Lawful.{IsHistory, Spells}
use Rattle.mtn_replay.specs.Making.{is_above, log_full, made_tree, other_manifest, place_of, refusal_of, too_long, too_many, tree_refusal, unknown_file}
use Rattle.mtn_replay.proofs.Histories.{history_is_grown}
use Rattle.std.specs.Cmp.Lexicographic.{bytes_decides}
use Rattle.mtn_replay.proofs.Places.{no_place}
use Rattle.mtn_replay.proofs.Steps.{unmapped}
use Rattle.mtn_resolve.specs.declared.resolution.Resolution.{Resolution}
use Rattle.mtn_resolve.specs.Overriding.{overridden, pick_in}
use Rattle.mtn_resolve.specs.Texts.{AreResolutions}
use Rattle.mtn_roster.specs.Tree.{Tree}
use Rattle.mtn_planned_trees.proofs.Ordering.{lesser}

module _ (f : List ℕ → List ℕ) (files : Table) (log : List Logged) (h : List Revision) (is : IsHistory f files log h) (a b : Id) (sides : side_refusal h a b ≡ None) (m : Merge) (at : IsMergeAt h (left_of a b) (right_of a b) m)
    (rs : List Resolution) (before : Conflicts) (checked : IsChecked files m before rs None) (lawful : AreResolutions [] rs) (d : Conflicts) (are : AreConflictsOf (overridden rs m) d) (none : IsNone d)
    (x : Id) (ux : IsUnborn h (left_of a b) (right_of a b) x) (limits : limit_refusal f h (left_of a b) (right_of a b) (result_of (overridden rs m) x) ≡ None) where
  abbrev l : Id
  l = left_of a b

  abbrev r : Id
  r = right_of a b

  abbrev decisions : Merge
  decisions = overridden rs m

  grown : IsGrown h
  grown = history_is_grown f files log h is

  abbrev t : Tree
  t = result_of decisions x

  abbrev text : List ℕ
  text = merge_text f h l r t

  abbrev new : Id
  new = id_of (f text)

  abbrev u : Tree
  u = result_of decisions new

  abbrev p : ℕ
  p = at.left

  abbrev q : ℕ
  q = at.right

  pub parts : (too_many t ≡ None) × ((too_long t ≡ None) × (text_refusal text ≡ None))
  parts = let m = both (too_many t) (or_else (too_long t) (text_refusal text)) limits in (m.0, both (too_long t) (text_refusal text) m.1)
    where
      both : (v w : Option Cause) → or_else v w ≡ None → (v ≡ None) × (w ≡ None)
      both None w e = (refl, e)
      both (Some c) w e = absurd cc

  module _ (fresh : place_of h new ≡ None) where
    pub unborn_left : NoneBornIn (tree_at h p) new
    unborn_left = unborn_at h p new grown.born (no_place h new fresh)

    pub unborn_right : NoneBornIn (tree_at h q) new
    unborn_right = unborn_at h q new grown.born (no_place h new fresh)

    x_left : NoneBornIn (tree_at h p) x
    x_left = subst (λ z. NoneBornIn z x) (tree_is f files log h is l p at.at_left) ux.0

    x_right : NoneBornIn (tree_at h q) x
    x_right = subst (λ z. NoneBornIn z x) (tree_is f files log h is r q at.at_right) ux.1

    pub shown : IsMerged (tree_at h p) (tree_at h q) new (is_above h (Some l)) (is_above h (Some r)) u
    shown = shown_again f files log h is l r p q at.at_left at.at_right m before d rs at.order at.decides checked.0 are none
        new (no_place h new fresh) lawful

    pub edges : merge_edges h l r t ≡ merge_edges h l r u
    edges = edges_again f files log h is l r p q at.at_left at.at_right m before d rs at.order at.decides checked.0 are none
        x new x_left x_right unborn_left unborn_right

    pub manifests : manifest_of t ≡ manifest_of u
    manifests = manifest_again f files log h is l r p q at.at_left at.at_right m before d rs at.order at.decides checked.0 are none
        x new x_left x_right unborn_left unborn_right

    pub many : too_many t ≡ too_many u
    many = many_again f files log h is l r p q at.at_left at.at_right m before d rs at.order at.decides checked.0 are none
        x new x_left x_right unborn_left unborn_right

    pub long : too_long t ≡ too_long u
    long = long_again f files log h is l r p q at.at_left at.at_right m before d rs at.order at.decides checked.0 are none
        x new x_left x_right unborn_left unborn_right

    picks : find (λ (i : Id). is_none (get files i.0)) (filter_map pick_in rs) ≡ None
    picks = unmapped UnknownFile (find (λ (i : Id). is_none (get files i.0)) (filter_map pick_in rs)) checked.1

    pub contents : unknown_file files (merge_edges h l r u) ≡ None
    contents = contents_again f files log h is l r p q at.at_left at.at_right m at.order at.decides rs picks before d checked.0 are none new unborn_left unborn_right

    pub held : (content : Id) → IsContentIn u content → IsSome (get files content.0)
    held = result_held f files log h is l r p q at.at_left at.at_right m at.order at.decides rs picks before d checked.0 are none new unborn_left unborn_right

    pub revisions : merge_revision f h l r t ≡ merge_revision f h l r u
    revisions = λ i. record { manifest = id_of (f (spelling (manifests i))); edges = edges i }

    none_of_tree : too_many u ≡ None
    none_of_tree = sym many ∙ parts.0

    pub refusal_none : log_full h ≡ None → refusal_of f files h new (merge_revision f h l r u) ≡ None
    refusal_none room =
        accepted_is f files log h is l r p q at.at_left at.at_right u new (no_place h new fresh) shown (id_of (f (spelling (manifest_of u))))
        ∙ ap (λ v. or_else v (tree_refusal f files (merge_revision f h l r u) u)) room
        ∙ ap (λ v. or_else v (or_else (too_long u) (or_else (unknown_file files (merge_edges h l r u)) (other_manifest f u (id_of (f (spelling (manifest_of u)))))))) none_of_tree
        ∙ ap (λ v. or_else v (or_else (unknown_file files (merge_edges h l r u)) (other_manifest f u (id_of (f (spelling (manifest_of u))))))) (sym long ∙ parts.1.0)
        ∙ ap (λ v. or_else v (other_manifest f u (id_of (f (spelling (manifest_of u)))))) contents
        ∙ ap (λ z. if z then None else Some (ManifestDiffers (id_of (f (spelling (manifest_of u)))))) ((bytes_decides (f (spelling (manifest_of u))) (f (spelling (manifest_of u)))).1 refl)

    pub tree : made_tree h new (merge_edges h l r u) ≡ u
    tree = made_is f files log h is l r p q at.at_left at.at_right u new (no_place h new fresh) shown

    -- the text spells that revision, where its stanzas are stanzas
    pub spells : AreStanzas (revision_stanzas (merge_revision f h l r u)) → Spells text (merge_revision f h l r u)
    spells stanzas = record {
      reads = record {
        lawful = edges_lawful f files log h is l r p q at.at_left at.at_right u (lesser h grown a b p at.at_left sides) shown.sane shown.spellable;
        spelled = ap (λ (z : Spelled). spelling (revision_stanzas z)) revisions;
      };
      stanzas = stanzas;
    }

    -- whatever revision it spells
    pub planned : AreStanzas (revision_stanzas (merge_revision f h l r t)) → (z : Spelled) → Spells text z → log_full h ≡ None → (refusal_of f files h new z ≡ None) × (made_tree h new z.edges ≡ u)
    planned stanzas z told room =
        let mine = spells (subst (λ (y : Spelled). AreStanzas (revision_stanzas y)) revisions stanzas) in
        let same : merge_revision f h l r u ≡ z = same_revision text (merge_revision f h l r u) z mine.stanzas told.stanzas mine.reads told.reads in (
          subst (λ (y : Spelled). refusal_of f files h new y ≡ None) same (refusal_none room),
          subst (λ (y : Spelled). made_tree h new y.edges ≡ u) same tree,
        )
