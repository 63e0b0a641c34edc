-- An attribute that is set applies to a tree of the form, and keeps it.
use Rattle.std.specs.Prelude.{codes, decimal, is_none, option_map, reverse}
use Rattle.std.specs.Cmp.Lexicographic.{bytes_decides}
use Rattle.std.proofs.Common.{◌≡◌, ◌≢◌, ◌<◌, ◌≤◌, ◌^◌, ℕ, Bool, true, false, cond, List, [], ◌∷◌, Option, Some, None, refl, sym, ◌∙◌, ap, subst, ⊎_elim, inl, inr, arith}
use Rattle.std.proofs.lemmas.Fmt.{decimal_injective}
use Rattle.mtn_base.specs.Lists.{is_some_with}
use Rattle.mtn_base.specs.Names.{same_bytes}
use Rattle.mtn_base.specs.declared.id.Id.{Id}
use Rattle.mtn_base.specs.declared.refusal.Why.{Why}
use Rattle.mtn_base.specs.declared.refusal.Why.TheVariants.{NoChange, NoPath, NoRoot}
use Rattle.mtn_changes.specs.declared.change.Change.{Change}
use Rattle.mtn_changes.specs.declared.change.Change.TheVariants.{Rename, Set}
use Rattle.mtn_changeset_laws.specs.Changes.{Fault, Occupant, first_fault, first_reason, is_at, occupant, old_value, or_else, tree_after}
use Rattle.mtn_changeset_laws.specs.Changes.Occupant.{Old}
use Rattle.mtn_changeset_laws.specs.Laws.{NoneBornIn, RenamesDiffer}
use Rattle.mtn_changeset_laws.proofs.Occupying.{slot_of}
use Rattle.mtn_changeset_laws.proofs.Stepping.{only_in}
use Rattle.mtn_generated.specs.Numbered.{directory_at, path_at}
use Rattle.mtn_generated_trees.specs.Formed.{AreAttrs, IsFormed, IsPlainDir, step_attr}
use Rattle.mtn_roster.specs.Tree.{IsSane, Tree, live_of, node_at, with_attr}
use Rattle.mtn_roster.specs.declared.entry.Attr.{Attr}
use Rattle.mtn_roster.specs.declared.entry.Entry.{Entry}
use Rattle.mtn_roster.proofs.Ordered.{forest_of}
use Rattle.mtn_generated_steps.proofs.Edits.{after, came_from, carried_on, elsewhere, here, occupies}
use Rattle.mtn_generated_steps.proofs.Patching.{files_apart, same_or_not}

pub no_set_is_rename : (p : List (List ℕ)) (key value : List ℕ) → RenamesDiffer (Set p key value ∷ [])
no_set_is_rename p key value q r s a b = absurd (let z = only_in (Set p key value) (Rename q r) a in cc)

-- revision n sets the attribute of file j in a tree of revision i
module _ (f : List ℕ → List ℕ) (i m : ℕ) (t : Tree) (sane : IsSane t) (form : IsFormed f i m t) (n j : ℕ) (later : m < n) (few : j < 10) (small : n < 2 ^ 64) (p : List (List ℕ)) (is_path : p ≡ path_at i j) where
  abbrev key : List ℕ
  key = codes "gen:step"

  abbrev all : List Change
  all = Set p key (decimal n) ∷ []

  abbrev its : Entry
  its = (form.files j few).0

  at_path : node_at t p ≡ Some its
  at_path = ap (node_at t) is_path ∙ (form.files j few).1

  there : occupant t all p ≡ Some (Old its)
  there = occupies t (forest_of t sane) all (λ q. refl) (λ e. refl) (reverse p) ∙ ap (option_map Old) at_path

  root_there : occupant t all [] ≡ Some (Old form.root.0)
  root_there = occupies t (forest_of t sane) all (λ q. refl) (λ e. refl) [] ∙ ap (option_map Old) form.root.1

  -- another value stands there, or none
  other_value : is_some_with (same_bytes (decimal n)) (live_of its.attrs key) ≡ false
  other_value = ⊎_elim
      (λ (none : its.attrs ≡ []). ap (λ (as' : List Attr). is_some_with (same_bytes (decimal n)) (live_of as' key)) none)
      (λ (one : (k : ℕ) × (k ≤ m) × (its.attrs ≡ step_attr k ∷ [])). ap (λ (as' : List Attr). is_some_with (same_bytes (decimal n)) (live_of as' key)) one.2 ∙ differs one.0 (let most = one.1 in omega (arith, most, later)))
      (form.files j few).2.attrs
    where
      differs : (k : ℕ) → k < n → same_bytes (decimal n) (decimal k) ≡ false
      differs k less = by (same_bytes (decimal n) (decimal k)) refl
        where
          by : (b : Bool) → same_bytes (decimal n) (decimal k) ≡ b → b ≡ false
          by false e = refl
          by true e = absurd (let same : n ≡ k = decimal_injective n k small (omega (arith, small, less)) ((bytes_decides (decimal n) (decimal k)).0 e) in omega (arith, same, less))

  abbrev reasons : Option Occupant → Option Why
  reasons o = first_reason ((is_none o, NoPath) ∷ (is_some_with (same_bytes (decimal n)) (old_value key o), NoChange) ∷ [])

  abbrev rooted : Option Occupant → Option Fault
  rooted o = cond (is_none o) (Some (record { number = 2; reason = NoRoot })) None

  abbrev fault_of : Option Why → Option Fault
  fault_of o = option_map (λ w. record { number = 1; reason = w }) o

  pub fine : first_fault t all ≡ None
  fine =
      ap (λ (o : Option Occupant). or_else (fault_of (reasons o)) (rooted (occupant t all []))) there
      ∙ ap (λ (o : Option Occupant). or_else (fault_of (reasons (Some (Old its)))) (rooted o)) root_there
      ∙ ap (λ b. or_else (fault_of (cond b (Some NoChange) None)) None) other_value

  module _ (x : Id) (unborn : NoneBornIn t x) where
    abbrev made : Entry → Entry
    made = after t sane all (λ q. refl) (λ e. refl) (no_set_is_rename p key (decimal n)) fine x unborn

    abbrev slotted : Entry → Entry
    slotted e = record e { slot = slot_of t (forest_of t sane) all x (Old e) }

    moved_on : (q : List (List ℕ)) (e : Entry) → node_at t q ≡ Some e → node_at (tree_after t all x) q ≡ Some (made e)
    moved_on = carried_on t sane all (λ q. refl) (λ e. refl) (no_set_is_rename p key (decimal n)) fine x unborn

    -- by whether it stands at the path
    abbrev made_by : Bool → Entry → Entry
    made_by b e = cond b (record (slotted e) { attrs = with_attr (step_attr n) e.attrs }) (slotted e)

    same_body : (b : Bool) (e : Entry) → (made_by b e).body ≡ e.body
    same_body true e = refl
    same_body false e = refl

    kept_body : (e : Entry) → (made e).body ≡ e.body
    kept_body e = same_body (is_at t all x e.name p) e

    left : (q : List (List ℕ)) (e : Entry) → node_at t q ≡ Some e → reverse p ≢ reverse q → (made e).attrs ≡ e.attrs
    left q e at differ = ap (λ b. (made_by b e).attrs) (elsewhere t (forest_of t sane) all (λ r. refl) (λ g. refl) x p q its e at_path at differ)

    given : (e : Entry) → node_at t p ≡ Some e → (made e).attrs ≡ with_attr (step_attr n) e.attrs
    given e at = ap (λ b. (made_by b e).attrs) (here t (forest_of t sane) all (λ r. refl) (λ g. refl) x p e at)

    -- the attribute alone
    set_alone : (attrs : List Attr) → AreAttrs m attrs → with_attr (step_attr n) attrs ≡ step_attr n ∷ []
    set_alone attrs (inl none) = ap (with_attr (step_attr n)) none
    set_alone attrs (inr one) = ap (with_attr (step_attr n)) one.2

    differs_from : (q : List (List ℕ)) → reverse (path_at i j) ≢ reverse q → reverse p ≢ reverse q
    differs_from q differ same = differ (ap reverse (sym is_path) ∙ same)

    plain : (q : List (List ℕ)) (e : Entry) → node_at t q ≡ Some e → reverse (path_at i j) ≢ reverse q → IsPlainDir e → IsPlainDir (made e)
    plain q e at differ dir = record { body = kept_body e ∙ dir.body; attrs = left q e at (differs_from q differ) ∙ dir.attrs }

    more_attrs : (attrs : List Attr) → AreAttrs m attrs → AreAttrs n attrs
    more_attrs attrs (inl none) = inl none
    more_attrs attrs (inr one) = let most = one.1 in inr (one.0, omega (arith, most, later), one.2)

    attrs_after : (k : ℕ) → k < 10 → (e : Entry) → node_at t (path_at i k) ≡ Some e → AreAttrs m e.attrs → AreAttrs n (made e).attrs
    attrs_after k few_k e at are = ⊎_elim
        (λ (same : k ≡ j). inr (n, omega arith, given e (ap (node_at t) (is_path ∙ ap (path_at i) (sym same)) ∙ at) ∙ set_alone e.attrs are))
        (λ (other : k ≢ j). subst (AreAttrs n) (sym (left (path_at i k) e at (differs_from (path_at i k) (files_apart i j k few few_k (λ e. other (sym e)))))) (more_attrs e.attrs are))
        (same_or_not k j)

    pub form_after : IsFormed f i n (tree_after t all x)
    form_after = record {
      root = let r = form.root in (made r.0, moved_on [] r.0 r.1, plain [] r.0 r.1 (λ e. cc) r.2);
      directory = let d = form.directory in (made d.0, moved_on (directory_at i ∷ []) d.0 d.1, plain (directory_at i ∷ []) d.0 d.1 (λ e. cc) d.2);
      files = λ k few_k.
          let w = form.files k few_k in
          (made w.0, moved_on (path_at i k) w.0 w.1, record { content = kept_body w.0 ∙ w.2.content; attrs = attrs_after k few_k w.0 w.1 w.2.attrs });
      no_more = λ q e h.
          let w = came_from t sane all (λ r. refl) (λ g. refl) (no_set_is_rename p key (decimal n)) fine x unborn q e h in
          form.no_more q w.0 w.1;
    }
