-- A revision with one edge whose changes fit its parent's tree is put behind it, or collides.
use Rattle.std.specs.Prelude.{is_none, option_map}
use Rattle.std.specs.List.{AllByRecursion}
use Rattle.std.specs.Option.{option_map_or}
use Rattle.std.proofs.Common.{◌≡◌, ◌≢◌, ◌<◌, ◌≤◌, ◌^◌, ◌⊎◌, ℕ, suc, cond, List, [], ◌∷◌, length, Option, Some, None, Ok, Err, refl, sym, ◌∙◌, ap, subst, inl, inr}
use Rattle.mtn_base.specs.Hex.{id_of}
use Rattle.mtn_base.specs.declared.id.Id.{Id}
use Rattle.mtn_base.specs.declared.refusal.Cause.{Cause}
use Rattle.mtn_base.specs.declared.refusal.Cause.TheVariants.{UnknownParent}
use Rattle.mtn_changes.specs.declared.change.Change.{Change}
use Rattle.mtn_changes.specs.declared.change.Edge.{Edge}
use Rattle.mtn_changeset_laws.specs.Changes.{Fault, first_fault, or_else, tree_after}
use Rattle.mtn_changeset_laws.specs.Laws.{IsFresh, NoneBornIn, RenamesDiffer}
use Rattle.mtn_changeset_laws.proofs.AfterSane.{after_is_sane}
use Rattle.mtn_changeset_laws.proofs.Stepping.{unborn_at}
use Rattle.mtn_generated.specs.Growing.{Adds, AddsWork, GrowthAnswer, Grown, PutsEdge, Unless, files_refusal, with_files}
use Rattle.mtn_generated.specs.Growing.Stop.{Refused}
use Rattle.mtn_generated.specs.Numbered.{Tips, Work, changes_of, edge_of, edge_text, files_of, no_id, parent_of, tips_after}
use Rattle.mtn_generated.specs.Numbered.Work.{Begins, Joins, Patches, Renames, Sets}
use Rattle.mtn_generated_laws.proofs.Children.{IsChild, child_of_text}
use Rattle.mtn_generated_laws.proofs.Held.{put_held}
use Rattle.mtn_generated_laws.proofs.Steps.{IsEdgePut, one_edge}
use Rattle.mtn_generated_trees.specs.Formed.{IsFormed}
use Rattle.mtn_generated_trees.specs.Joined.{IsCollision}
use Rattle.mtn_generated_trees.proofs.Limits.{not_too_long, not_too_many}
use Rattle.mtn_history_laws.specs.History.{IsGrown, Revision, tree_at}
use Rattle.mtn_manifest.specs.Manifest.{manifest_of}
use Rattle.mtn_model.specs.State.{State}
use Rattle.mtn_replay.specs.Accepting.{Decides}
use Rattle.mtn_replay.specs.Lawful.{IsHistory, IsLawful, Spells}
use Rattle.mtn_replay.specs.Making.{bad_change, change_fault, edge_tree, parent_tree, place_of, too_long, too_many, unknown_file, unknown_parent}
use Rattle.mtn_replay.proofs.Histories.{history_is_grown, one_history}
use Rattle.mtn_replay.proofs.Places.{place_within}
use Rattle.mtn_roster.specs.Tree.{IsSane, Tree}
use Rattle.mtn_step_laws.proofs.Accepting.{lawful_decided}
use Rattle.mtn_generated_steps.proofs.Edges.{Applies, edge_put, read_of}
use Rattle.mtn_generated_steps.proofs.Lengthening.{Extends, child_unborn, files_collide, lengthened, place_on, tree_on}

-- changes that apply to a tree, and make one of the form, which is the same under every id
pub record FitsTree (f : List ℕ → List ℕ) (t : Tree) (changes : List Change) (i m : ℕ) : Type 0 where
  pub fine : first_fault t changes ≡ None
  pub renames : RenamesDiffer changes
  pub small : i < 2 ^ 64
  pub form : (x : Id) → NoneBornIn t x → IsFormed f i m (tree_after t changes x)
  pub same : (x y : Id) → tree_after t changes x ≡ tree_after t changes y

-- what a step comes to
abbrev pub Comes : (Grown → Type 0) → GrowthAnswer → Type 0
Comes Is answer = ((g : Grown) × (answer ≡ Ok g) × Is g) ⊎ IsCollision answer

-- a revision that was put behind its parent
pub record IsMoved (f : List ℕ → List ℕ) (s : State) (h : List Revision) (work : Work) (tips : Tips) (parent : Id) (place : ℕ) (changes : List Change) (i m : ℕ) (g : Grown) : Type 0 where
  pub id : Id
  pub behind : g.tips ≡ tips_after work id tips
  pub law : IsLawful f g.state
  pub history : List Revision
  pub spelled : IsHistory f g.state.files g.state.log history
  pub extends : Extends h history
  pub longer : length g.state.log ≤ suc (length s.log)
  pub child : IsChild history id parent changes
  pub above : child.above ≡ place
  pub form : IsFormed f i m (tree_at history child.place)

module _ (f : List ℕ → List ℕ) (s : State) (law : IsLawful f s) (h : List Revision) (is : IsHistory f s.files s.log h) (room : length s.log < 2147483648) (work : Work) (tips : Tips) (n : ℕ) (parent : Id) (place : ℕ)
    (of : parent_of work tips ≡ Some parent) (at : place_of h parent ≡ Some place) (i m : ℕ) (fits : FitsTree f (tree_at h place) (changes_of f n work) i m)
    (held : unknown_file s.files (edge_of f n work tips ∷ []) ≡ None) (spells : Spells (edge_text f h (edge_of f n work tips)) (read_of f h (edge_of f n work tips)))
    (short : length (edge_text f h (edge_of f n work tips)) ≤ 67108864) where
  abbrev t : Tree
  t = tree_at h place

  abbrev changes : List Change
  changes = changes_of f n work

  abbrev edge_with : Option Id → Edge
  edge_with o = record { parent = o; changes = changes }

  grown_so : IsGrown h
  grown_so = history_is_grown f s.files s.log h is

  sane : IsSane t
  sane = grown_so.sane place (place_within h parent place at)

  tree_is : (x : Id) → edge_tree h x (edge_of f n work tips) ≡ tree_after t changes x
  tree_is x = ap (λ o. tree_after (parent_tree h o) changes x) of ∙ ap (λ o. tree_after (option_map_or (tree_at h) o []) changes x) at

  known : unknown_parent h (edge_with (Some parent) ∷ []) ≡ None
  known = ap (λ o. option_map UnknownParent (cond (is_none o) (Some parent) None)) at

  passes : bad_change h 1 (edge_with (Some parent) ∷ []) ≡ None
  passes =
      ap (λ o. or_else (option_map (change_fault 1) (first_fault (option_map_or (tree_at h) o []) changes)) None) at
      ∙ ap (λ (o : Option Fault). or_else (option_map (change_fault 1) o) None) fits.fine

  after_sane : (x : Id) → IsFresh h x → IsSane (tree_after t changes x)
  after_sane x fresh = after_is_sane t changes x (inr sane) fits.renames (unborn_at h place x grown_so.born fresh) fits.fine

  after_form : (x : Id) → IsFresh h x → IsFormed f i m (tree_after t changes x)
  after_form x fresh = fits.form x (unborn_at h place x grown_so.born fresh)

  applies : Applies f s h (edge_of f n work tips)
  applies = record {
    parent = subst (λ (o : Option Id). unknown_parent h (edge_with o ∷ []) ≡ None) (sym of) known;
    changes = subst (λ (o : Option Id). bad_change h 1 (edge_with o ∷ []) ≡ None) (sym of) passes;
    files = held;
    spells = spells;
    short = short;
    nodes = λ x fresh. ap too_many (tree_is x) ∙ not_too_many f i m fits.small (tree_after t changes x) (after_sane x fresh) (after_form x fresh);
    paths = λ x fresh. ap too_long (tree_is x) ∙ not_too_long f i m fits.small (tree_after t changes x) (after_sane x fresh) (after_form x fresh);
    manifest = let x = id_of (f (edge_text f h (edge_of f n work tips))) in ap manifest_of (tree_is x ∙ fits.same x no_id ∙ sym (tree_is no_id));
  }

  moved : (g : Grown) → IsEdgePut f work tips s g n → IsMoved f s h work tips parent place changes i m g
  moved g put =
      let e = edge_of f n work tips in
      let text = edge_text f h e in
      let one = one_history f s.files s.log put.history h put.spelled is in
      let decides : Decides f s text None g.state = subst (λ k. Decides f s (edge_text f k e) None g.state) one put.put.decides in
      let behind : g.tips ≡ tips_after work (id_of (f text)) tips = put.put.behind ∙ ap (λ k. tips_after work (id_of (f (edge_text f k e))) tips) one in
      let l = lengthened f s h is text g.state decides in
      let grown_more = history_is_grown f g.state.files g.state.log l.history l.spelled in
      let child = child_of_text f g.state.files g.state.log l.history l.spelled text parent changes (put_held f s text g.state decides) (read_of f h e) (ap (λ (o : Option Id). edge_with o ∷ []) of) spells in
      let above : child.above ≡ place = let both = sym child.parent_at ∙ place_on h l.history l.extends grown_more parent place at in cc in
      let tree : tree_at l.history child.above ≡ t = ap (tree_at l.history) above ∙ tree_on h l.history l.extends grown_more parent place at in
      let unborn = subst (λ u. NoneBornIn u (id_of (f text))) tree (child_unborn l.history grown_more (id_of (f text)) parent changes child) in
      record {
        id = id_of (f text);
        behind = behind;
        law = lawful_decided f s text None g.state law decides refl;
        history = l.history;
        spelled = l.spelled;
        extends = l.extends;
        longer = l.longer;
        child = child;
        above = above;
        form = subst (IsFormed f i m) (sym (child.tree ∙ ap (λ u. tree_after u changes (id_of (f text))) tree)) (fits.form (id_of (f text)) unborn);
      }

  pub edge_moves : (answer : GrowthAnswer) → PutsEdge f work tips s n answer → ((g : Grown) → answer ≡ Ok g → IsEdgePut f work tips s g n) → Comes (IsMoved f s h work tips parent place changes i m) answer
  edge_moves answer puts put = by (edge_put f s h is room work tips n applies answer puts)
    where
      by : ((g : Grown) × (answer ≡ Ok g)) ⊎ IsCollision answer → Comes (IsMoved f s h work tips parent place changes i m) answer
      by (inl a) = inl (a.0, a.1, moved a.0 (put a.0 a.1))
      by (inr c) = inr c

-- ---- behind its files

module _ (f : List ℕ → List ℕ) (n : ℕ) (work : Work) (g : Grown) (other : work ≢ Joins) where
  abbrev behind : State
  behind = with_files f g.state (files_of n work)

  as_edge : (w : Work) → w ≢ Joins → (answer : GrowthAnswer) → AddsWork f n g.tips (with_files f g.state (files_of n w)) w answer → PutsEdge f w g.tips (with_files f g.state (files_of n w)) n answer
  as_edge Joins differ answer adds = absurd (differ refl)
  as_edge Begins differ answer adds = adds
  as_edge Patches differ answer adds = adds
  as_edge Sets differ answer adds = adds
  as_edge Renames differ answer adds = adds

  -- its files collide, or it is put
  pub behind_files : (answer : GrowthAnswer) → AllByRecursion (λ text. length text ≤ 67108864) (files_of n work) → Adds f n work g answer → (Is : Grown → Type 0) →
      (files_refusal f g.state (files_of n work) ≡ None → PutsEdge f work g.tips behind n answer → ((h : Grown) → answer ≡ Ok h → IsEdgePut f work g.tips behind h n) → Comes Is answer) → Comes Is answer
  behind_files answer short adds Is then = by (files_refusal f g.state (files_of n work)) refl adds
    where
      by : (o : Option Cause) → files_refusal f g.state (files_of n work) ≡ o → Unless o (AddsWork f n g.tips behind work) answer → Comes Is answer
      by (Some cause) e stops =
          let c = files_collide f (files_of n work) g.state short cause e in
          inr (c.0, stops ∙ ap (λ (x : Cause). Err (Refused x)) c.1)
      by None e puts = then e (as_edge work other answer puts) (λ h ok. one_edge f n work g h (subst (Adds f n work g) ok adds) other)
