-- A text is judged alike over two histories that know its parents alike.
use Rattle.std.specs.Prelude.{find, is_none, option_and_then, option_map}
use Rattle.std.specs.List.{cons_option, filter_map}
use Rattle.std.specs.Option.{option_map_or}
use Rattle.std.proofs.Common.{◌≡◌, ◌<◌, ◌+◌, ℕ, Bool, true, false, List, [], ◌∷◌, length, Option, Some, None, refl, sym, ap, ◌∙◌, cond, subst, arith}
use Rattle.mtn_ancestry.proofs.Ancestry.{IsAncestor-le}
use Rattle.mtn_base.specs.declared.id.Id.{Id}
use Rattle.mtn_base.specs.declared.refusal.Cause.TheVariants.{UnknownParent}
use Rattle.mtn_changes.specs.declared.change.Edge.{Edge}
use Rattle.mtn_changes.specs.declared.change.Revision.{Revision as Spelled}
use Rattle.mtn_changeset_laws.specs.Changes.{first_fault, or_else, tree_after}
use Rattle.mtn_changeset_laws.specs.Joining.{join_fault, joined}
use Rattle.mtn_history_laws.specs.History.{Revision, tree_at, IsGrown, IsPlaceOf}
use Rattle.mtn_replay.specs.Making.{bad_change, bad_join, change_fault, is_above, join_cause, log_full, made_tree, place_of, refusal_of, tree_refusal, unknown_parent}
use Rattle.mtn_replay.proofs.Places.{above_tells, place_has, place_within, within}
use Rattle.mtn_model.specs.Table.{Table}
use Rattle.mtn_renaming.specs.Parents.{AreKnownAlike, IsKnownAlike}
use Rattle.mtn_renaming.specs.Renaming.{moved, IsPart}
use Rattle.mtn_renaming.proofs.Parts.{own_ancestor, part_ancestor, part_tree}
use Rattle.mtn_renaming.proofs.Spelling.{all_held, place_is, AreHeld, Held}
use Rattle.mtn_renaming.proofs.Spelling.Held.{held}
use Rattle.mtn_replay.proofs.Steps.{unmapped}

module _ (h g : List Revision) where
  abbrev unheld : List Revision → Id → Bool
  unheld x id = is_none (place_of x id)

  next_unknown : (parent : Option Id) (rest : List Id) → is_none (option_and_then (place_of g) parent) ≡ is_none (option_and_then (place_of h) parent) →
      find (unheld g) rest ≡ find (unheld h) rest → find (unheld g) (cons_option parent rest) ≡ find (unheld h) (cons_option parent rest)
  next_unknown None rest same later = later
  next_unknown (Some id) rest same later = λ i. cond (same i) (Some id) (later i)

  unknown_alike : (edges : List Edge) → AreKnownAlike h g edges → find (unheld g) (filter_map (λ (e : Edge). e.parent) edges) ≡ find (unheld h) (filter_map (λ (e : Edge). e.parent) edges)
  unknown_alike [] known = refl
  unknown_alike (e ∷ es) known = next_unknown e.parent (filter_map (λ (x : Edge). x.parent) es) known.0.held (unknown_alike es known.1)

  change_alike : (number : ℕ) (edges : List Edge) → AreKnownAlike h g edges → bad_change g number edges ≡ bad_change h number edges
  change_alike number [] known = refl
  change_alike number (e ∷ es) known =
      let t = known.0.tree in
      let r = change_alike (number + 1) es known.1 in
      λ i. or_else (option_map (change_fault number) (first_fault (t i) e.changes)) (r i)

  join_alike : (new : Id) (edges : List Edge) → AreKnownAlike h g edges → bad_join g new edges ≡ bad_join h new edges
  join_alike new [] known = refl
  join_alike new (e ∷ []) known = refl
  join_alike new (e ∷ f ∷ []) known =
      let left : is_above g e.parent ≡ is_above h e.parent = λ i id. known.0.above id i in
      let right : is_above g f.parent ≡ is_above h f.parent = λ i id. known.1.0.above id i in
      let t = known.0.tree in
      let u = known.1.0.tree in
      λ i. option_map join_cause (join_fault new (left i) (right i) (tree_after (t i) e.changes new) (tree_after (u i) f.changes new))
  join_alike new (e ∷ f ∷ k ∷ more) known = refl

  pub tree_alike : (new : Id) (edges : List Edge) → AreKnownAlike h g edges → made_tree g new edges ≡ made_tree h new edges
  tree_alike new [] known = refl
  tree_alike new (e ∷ []) known = let t = known.0.tree in λ i. tree_after (t i) e.changes new
  tree_alike new (e ∷ f ∷ more) known = let t = known.0.tree in let u = known.1.0.tree in λ i. joined (tree_after (t i) e.changes new) (tree_after (u i) f.changes new) new

  pub judged_alike : (f : List ℕ → List ℕ) (files : Table) (new : Id) (r : Spelled) → AreKnownAlike h g r.edges → log_full g ≡ log_full h → refusal_of f files g new r ≡ refusal_of f files h new r
  judged_alike f files new r known room =
      let b : unknown_parent g r.edges ≡ unknown_parent h r.edges = ap (option_map UnknownParent) (unknown_alike r.edges known) in
      let c = change_alike 1 r.edges known in
      let d = join_alike new r.edges known in
      let e = ap (tree_refusal f files r) (tree_alike new r.edges known) in
      λ i. or_else (room i) (or_else (b i) (or_else (c i) (or_else (d i) (e i))))

same_truth : (a b : Bool) → (a ≡ true → b ≡ true) → (b ≡ true → a ≡ true) → a ≡ b
same_truth true b to from = sym (to refl)
same_truth false true to from = from refl
same_truth false false to from = refl

-- a part of a history knows the parents that it holds as the whole does
module _ (h g : List Revision) (to : ℕ → ℕ) (part : IsPart h g to) (one : IsGrown h) (other : IsGrown g) where
  place_there : (id : Id) (r : ℕ) → IsPlaceOf h id r → IsPlaceOf g id (to r)
  place_there id r at = (moved to at.0, part r at.0 at.1, at.2)

  place_here : (id : Id) (r : ℕ) → r < length h → IsPlaceOf g id (to r) → IsPlaceOf h id r
  place_here id r lt at =
      let v = within h r lt in
      let both : Some (moved to v.0) ≡ Some at.0 = sym (part r v.0 v.1) ∙ at.1 in
      let same : moved to v.0 ≡ at.0 = cc in
      (v.0, v.1, ap (λ (x : Revision). x.id) same ∙ at.2)

  module _ (id : Id) (p : ℕ) (is : place_of h id ≡ Some p) where
    inside_h : p < length h
    inside_h = place_within h id p is

    there : place_of g id ≡ Some (to p)
    there = place_is g other.differ id (to p) (place_there id p (place_has h id p is))

    above_from_part : (i : Id) → is_above h (Some id) i ≡ true → is_above g (Some id) i ≡ true
    above_from_part i t =
        let b = (above_tells h one.earlier id p is i).0 t in
        (above_tells g other.earlier id (to p) there i).1 (to b.0, place_there i b.0 b.1, part_ancestor h g to part one b.0 p inside_h b.2)

    above_from_whole : (i : Id) → is_above g (Some id) i ≡ true → is_above h (Some id) i ≡ true
    above_from_whole i t =
        let b = (above_tells g other.earlier id (to p) there i).0 t in
        let x = own_ancestor h g to part one b.0 p inside_h b.2 in
        let le = IsAncestor-le one.earlier x.1 in
        let lt = inside_h in
        (above_tells h one.earlier id p is i).1 (x.0, place_here i x.0 (omega (arith, le, lt)) (subst (IsPlaceOf g i) (sym x.2) b.1), x.1)

    known_there : IsKnownAlike h g (Some id)
    known_there = record {
      held = ap is_none there ∙ sym (ap is_none is);
      tree = ap (λ o. option_map_or (tree_at g) o []) there ∙ part_tree h g to part one p inside_h ∙ sym (ap (λ o. option_map_or (tree_at h) o []) is);
      above = λ i. same_truth (is_above g (Some id) i) (is_above h (Some id) i) (above_from_whole i) (above_from_part i);
    }

  one_known : (parent : Option Id) → Held h parent → IsKnownAlike h g parent
  one_known None known = record { held = refl; tree = refl; above = λ i. refl }
  one_known (Some id) (held p is) = known_there id p is

  all_known : (edges : List Edge) → AreHeld h edges → AreKnownAlike h g edges
  all_known [] known = tt
  all_known (e ∷ es) known = (one_known e.parent known.0, all_known es known.1)

  pub part_knows : (edges : List Edge) → unknown_parent h edges ≡ None → AreKnownAlike h g edges
  part_knows edges none = all_known edges (all_held h edges (unmapped _ _ none))
