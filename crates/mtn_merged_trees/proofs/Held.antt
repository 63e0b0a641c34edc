-- The contents of the trees of a lawful log are held.
use Rattle.std.specs.Prelude.{IsSome, find, filter_map, is_none, map, reverse, slice_get}
use Rattle.std.specs.FinMap.{get}
use Rattle.std.specs.List.{flat_map}
use Rattle.std.specs.Option.{option_map_or}
use Rattle.std.proofs.Common.{◌≡◌, ◌≤◌, ◌<◌, ℕ, zero, suc, Bool, true, false, cond, List, [], ◌∷◌, ◌++◌, length, take, Option, Some, None, refl, sym, ap, subst, ⊎_elim, inl, inr, arith}
use Rattle.std.proofs.lemmas.List.{take_all}
use Rattle.mtn_base.specs.Hex.{id_of}
use Rattle.mtn_base.specs.Names.{name_cmp, same_name}
use Rattle.mtn_base.specs.declared.id.Id.{Id}
use Rattle.mtn_base.specs.declared.name.NodeName.{NodeName}
use Rattle.mtn_base.specs.declared.refusal.Cause.TheVariants.{UnknownFile}
use Rattle.mtn_base.proofs.Finding.{Split, found, later, none_passes, not_found}
use Rattle.mtn_base.proofs.Members.{head, in_filter_map, in_left, in_right, of_append, of_filter_map, split_cons}
use Rattle.mtn_base.proofs.Orders.{names_total}
use Rattle.mtn_base.proofs.Sorting.{no_split, of_ordered}
use Rattle.mtn_changes.specs.declared.change.Change.{Change}
use Rattle.mtn_changes.specs.declared.change.Change.TheVariants.{Delete, Rename, AddDir, AddFile, Patch, Clear, Set}
use Rattle.mtn_changes.specs.declared.change.Edge.{Edge}
use Rattle.mtn_changeset_laws.specs.Changes.{is_at, is_deleted, moves, slot_up, slot_by, edited, edited_by, old_after, added_by, tree_after}
use Rattle.mtn_changeset_laws.specs.Joining.{joined_entry, joined}
use Rattle.mtn_changeset_laws.proofs.Joins.{of_map}
use Rattle.mtn_history_laws.specs.History.{Revision, tree_at, revision_tree}
use Rattle.mtn_model.specs.State.{Logged}
use Rattle.mtn_model.specs.Table.{Table}
use Rattle.mtn_replay.specs.Lawful.{IsHistory, IsNext}
use Rattle.mtn_replay.specs.Making.{bad_change, bad_join, edge_tree, log_full, made_tree, new_content, new_contents, other_manifest, parent_tree, place_of, too_long, too_many, unknown_file, unknown_parent}
use Rattle.mtn_replay.proofs.Histories.{Place, place, kept_at, last_at}
use Rattle.mtn_replay.proofs.Histories.Place.{in_front, at_back}
use Rattle.mtn_replay.proofs.Places.{within}
use Rattle.mtn_replay.proofs.Steps.{both_none, unmapped}
use Rattle.mtn_roster.specs.Tree.{Tree, entry_of, with_attr}
use Rattle.mtn_roster.specs.declared.entry.Body.{Body}
use Rattle.mtn_roster.specs.declared.entry.Body.TheVariants.{Dir, File}
use Rattle.mtn_roster.specs.declared.entry.Entry.{Entry}

one_of : (P : Entry → Type 0) (b : Bool) (x y : Entry) → P x → P y → P (cond b x y)
one_of P true x y p q = p
one_of P false x y p q = q

module _ (files : Table) where
  abbrev pub Held : Id → Type 0
  Held id = IsSome (get files id.0)

  -- the content of a file is held
  abbrev HasHeld : Entry → Type 0
  HasHeld e = (c : Id) → e.body ≡ File c → Held c

  abbrev EachHeld : Tree → Type 0
  EachHeld t = (e : Entry) → Split t e → HasHeld e

  -- a change brings contents that are held
  abbrev Brings : Change → Type 0
  Brings c = (id : Id) → new_content c ≡ Some id → Held id

  module _ (old : Tree) (all : List Change) (new : Id) where
    edit : (c : Change) (e : Entry) → Brings c → HasHeld e → HasHeld (edited old all new c e)
    edit (Delete p) e g f = f
    edit (Rename p q) e g f = f
    edit (AddDir p) e g f = f
    edit (AddFile p content) e g f = f
    edit (Patch p a b) e g f = one_of HasHeld (is_at old all new e.name p) (record e { body = File b }) e (λ c k. let same : b ≡ c = cc in subst Held same (g b refl)) f
    edit (Clear p k) e g f = one_of HasHeld (is_at old all new e.name p) (record e { attrs = with_attr (record { key = k; value = None }) e.attrs }) e f f
    edit (Set p k v) e g f = one_of HasHeld (is_at old all new e.name p) (record e { attrs = with_attr (record { key = k; value = Some v }) e.attrs }) e f f

    edits : (cs : List Change) (e : Entry) → ((c : Change) → Split cs c → Brings c) → HasHeld e → HasHeld (edited_by old all new cs e)
    edits [] e g f = f
    edits (c ∷ cs) e g f = edits cs (edited old all new c e) (λ d s. g d (later c cs d s)) (edit c e (g c (head c cs)) f)

    module _ (each : (c : Change) → Split all c → Brings c) where
      of_old : (e f : Entry) → HasHeld e → old_after old all new e ≡ Some f → HasHeld f
      of_old e f h g = by (is_deleted old all e) g
        where
          kept : HasHeld (edited_by old all new all (record e { slot = slot_by old all new e.slot (find (moves old e) all) }))
          kept = edits all _ each h

          by : (b : Bool) → cond b None (Some (edited_by old all new all (record e { slot = slot_by old all new e.slot (find (moves old e) all) }))) ≡ Some f → HasHeld f
          by true k = absurd cc
          by false k =
              let is : edited_by old all new all (record e { slot = slot_by old all new e.slot (find (moves old e) all) }) ≡ f = cc in
              subst HasHeld is kept

      of_added : (p : List (List ℕ)) (body : Body) (f : Entry) → ((c : Id) → body ≡ File c → Held c) → edited_by old all new all (record { name = record { birth = new; path = p }; slot = slot_up old all new (reverse p); body = body; attrs = [] }) ≡ f → HasHeld f
      of_added p body f h is = subst HasHeld is (edits all _ each h)

      of_new : (c : Change) (f : Entry) → Brings c → added_by old all new c ≡ Some f → HasHeld f
      of_new (Delete p) f h g = absurd cc
      of_new (Rename p q) f h g = absurd cc
      of_new (AddDir p) f h g = of_added p Dir f (λ c k. absurd cc) cc
      of_new (AddFile p content) f h g = of_added p (File content) f (λ c k. let same : content ≡ c = cc in subst Held same (h content refl)) cc
      of_new (Patch p a b) f h g = absurd cc
      of_new (Clear p k) f h g = absurd cc
      of_new (Set p k v) f h g = absurd cc

      after_each : EachHeld old → EachHeld (tree_after old all new)
      after_each was e s = ⊎_elim
          (λ a. let r = of_filter_map (old_after old all new) old e a in of_old r.0 e (was r.0 r.1) r.2)
          (λ b. let r = of_filter_map (added_by old all new) all e b in of_new r.0 e (each r.0 r.1) r.2)
          (of_append (filter_map (old_after old all new) old) (filter_map (added_by old all new) all) e
          (of_ordered name_cmp (λ (x : Entry). x.name) names_total (filter_map (old_after old all new) old ++ filter_map (added_by old all new) all) e s))

  joined_each : (l r : Tree) (new : Id) → EachHeld l → EachHeld (joined l r new)
  joined_each l r new was e s =
      let m = of_map (joined_entry l r new) l e (of_ordered name_cmp (λ (x : Entry). x.name) names_total (map (joined_entry l r new) l) e s) in
      subst HasHeld m.2 (was m.0 m.1)

  nothing_each : EachHeld []
  nothing_each e s = absurd (no_split e s)

  -- what edges bring
  in_flat : {X Y : Type 0} (g : X → List Y) (xs : List X) (x : X) (y : Y) → Split xs x → Split (g x) y → Split (flat_map g xs) y
  in_flat g [] x y s t = absurd (no_split x s)
  in_flat g (z ∷ xs) x y s t = elim (split_cons z xs x s) [
    | inl same ↦ in_left (g z) (flat_map g xs) y (subst (λ w. Split (g w) y) (sym same) t)
    | inr u ↦ in_right (g z) (flat_map g xs) y (in_flat g xs x y u t)
  ]

  some_there : {X : Type 0} (o : Option X) → is_none o ≡ false → IsSome o
  some_there None e = absurd cc
  some_there (Some x) e = refl

  brought : (edges : List Edge) → unknown_file files edges ≡ None → (e : Edge) → Split edges e → (c : Change) → Split e.changes c → Brings c
  brought edges known e s c t id k =
      let none = not_found (λ (i : Id). is_none (get files i.0)) (new_contents edges) (unmapped UnknownFile (find (λ (i : Id). is_none (get files i.0)) (new_contents edges)) known) in
      let at = in_flat (λ (x : Edge). filter_map new_content x.changes) edges e id s (in_filter_map new_content e.changes c id t k) in
      some_there (get files id.0) (none_passes (λ (i : Id). is_none (get files i.0)) (new_contents edges) id none at)

  abbrev Trees : List Revision → Type 0
  Trees h = (p : ℕ) → EachHeld (tree_at h p)

  module _ (h : List Revision) (trees : Trees h) (new : Id) where
    parent_each : (parent : Option Id) → EachHeld (parent_tree h parent)
    parent_each None = nothing_each
    parent_each (Some id) = by (place_of h id)
      where
        by : (o : Option ℕ) → EachHeld (option_map_or (tree_at h) o [])
        by None = nothing_each
        by (Some p) = trees p

    made_each : (edges : List Edge) → ((e : Edge) → Split edges e → (c : Change) → Split e.changes c → Brings c) → EachHeld (made_tree h new edges)
    made_each [] each = nothing_each
    made_each (e ∷ []) each = after_each (parent_tree h e.parent) e.changes new (each e (head e [])) (parent_each e.parent)
    made_each (e ∷ g ∷ more) each = joined_each (edge_tree h new e) (edge_tree h new g) new (after_each (parent_tree h e.parent) e.changes new (each e (head e (g ∷ more))) (parent_each e.parent))

  next_each : (f : List ℕ → List ℕ) (h : List Revision) (l : Logged) (v : Revision) → Trees h → IsNext f files h l v → EachHeld v.tree
  next_each f h l v trees next =
      let tree = made_tree h (id_of l.id) next.read.edges in
      let a = both_none (log_full h) _ next.accepted in
      let b = both_none (unknown_parent h next.read.edges) _ a.1 in
      let c = both_none (bad_change h 1 next.read.edges) _ b.1 in
      let d = both_none (bad_join h (id_of l.id) next.read.edges) _ c.1 in
      let m = both_none (too_many tree) _ d.1 in
      let n = both_none (too_long tree) _ m.1 in
      let k = both_none (unknown_file files next.read.edges) (other_manifest f tree next.read.manifest) n.1 in
      subst (λ (r : Revision). EachHeld r.tree) (sym next.made) (made_each h trees (id_of l.id) next.read.edges (brought next.read.edges k.0))

  more_each : (h : List Revision) (v : Revision) → Trees h → EachHeld v.tree → Trees (h ++ v ∷ [])
  more_each h v trees new p = by (slice_get (h ++ v ∷ []) p) refl
    where
      by_place : (k : ℕ) → Place h k → EachHeld (tree_at (h ++ v ∷ []) k)
      by_place k (in_front lt) = subst (λ o. EachHeld (revision_tree o)) (sym (kept_at h v k lt)) (trees k)
      by_place k at_back = subst (λ o. EachHeld (revision_tree o)) (sym (last_at h v)) new

      by : (o : Option Revision) → slice_get (h ++ v ∷ []) p ≡ o → EachHeld (tree_at (h ++ v ∷ []) p)
      by None e = subst (λ o. EachHeld (revision_tree o)) (sym e) nothing_each
      by (Some w) e = by_place p (place h v w p e)

front_more : {X : Type 0} (xs : List X) (k : ℕ) (x : X) → slice_get xs k ≡ Some x → take (suc k) xs ≡ take k xs ++ x ∷ []
front_more [] k x e = absurd cc
front_more (y ∷ ys) zero x e = let same : y ≡ x = cc in ap (λ z. z ∷ []) same
front_more (y ∷ ys) (suc k) x e = ap (λ zs. y ∷ zs) (front_more ys k x e)

module _ (f : List ℕ → List ℕ) (files : Table) (log : List Logged) (h : List Revision) (is : IsHistory f files log h) where
  front : (k : ℕ) → k ≤ length h → Trees files (take k h)
  front zero le = λ p. nothing_each files
  front (suc k) le =
      let lt : k < length h = omega (arith, le) in
      let before = front k (omega (arith, le)) in
      let v = within h k lt in
      let l = within log k (subst (λ n. k < n) is.long lt) in
      subst (Trees files) (sym (front_more h k v.0 v.1)) (more_each files (take k h) v.0 before (next_each files f (take k h) l.0 v.0 before (is.each k l.0 v.0 l.1 v.1)))

  all_trees : Trees files h
  all_trees = subst (Trees files) (take_all (length h) h (omega arith)) (front (length h) (omega arith))

  -- each content of each tree
  pub trees_are_held : (p : ℕ) (n : NodeName) (e : Entry) (c : Id) → entry_of (tree_at h p) n ≡ Some e → e.body ≡ File c → Held files c
  trees_are_held p n e c k b = all_trees p e (found (λ (x : Entry). same_name x.name n) (tree_at h p) e k).at c b
