-- An accepted text is a step.
use Rattle.std.specs.Prelude.{find, is_none, option_map, option_and_then}
use Rattle.std.proofs.Common.{◌≡◌, ◌≢◌, ℕ, Bool, true, false, List, [], ◌∷◌, Option, Some, None, refl, sym, ◌∙◌, ap, subst, rules, cond}
use Rattle.std.specs.Option.{option_map_or}
use Rattle.std.specs.declared.cmp.Ordering.TheVariants.{Less, Equal}
use Rattle.std.specs.Cmp.{tied_itself}
use Rattle.std.specs.List.{cons_option}
use Rattle.mtn_base.proofs.Orders.{bytes_total}
use Rattle.mtn_base.specs.declared.id.Id.{Id}
use Rattle.mtn_base.specs.Names.{bytes_cmp}
use Rattle.mtn_changes.specs.declared.change.Change.{Change}
use Rattle.mtn_changes.specs.declared.change.Edge.{Edge}
use Rattle.mtn_changes.specs.ChangesText.{AreChanges}
use Rattle.mtn_changes.specs.RevisionText.{AreEdges, Ascend}
use Rattle.mtn_changes.proofs.Unsorted.{unsorted}
use Rattle.mtn_changeset_laws.specs.Changes.{first_fault, or_else, tree_after}
use Rattle.mtn_changeset_laws.specs.Joining.{join_fault, joined}
use Rattle.mtn_changeset_laws.specs.Laws.{RenamesDiffer, IsFresh}
use Rattle.mtn_changeset_laws.proofs.Renaming.{renames_differ}
use Rattle.mtn_changeset_laws.proofs.Stepping.{root_step, one_step}
use Rattle.mtn_changeset_laws.proofs.Joining.{two_step}
use Rattle.mtn_history_laws.specs.History.{Revision, tree_at, IsGrown, IsStep}
use Rattle.mtn_replay.specs.Making.{place_of, is_above, parent_tree, made, unknown_parent, bad_change, bad_join}
use Rattle.mtn_replay.proofs.Places.{place_has, place_within, above_passes}

pub both_none : {A : Type 0} (x y : Option A) → or_else x y ≡ None → (x ≡ None) × (y ≡ None)
both_none None y h = (refl, h)
both_none (Some a) y h = absurd cc

pub join_none : {A : Type 0} (x y : Option A) → x ≡ None → y ≡ None → or_else x y ≡ None
join_none x y e g = ap (λ o. or_else o y) e ∙ g

pub unmapped : {A B : Type 0} (f : A → B) (x : Option A) → option_map f x ≡ None → x ≡ None
unmapped f None h = refl
unmapped f (Some a) h = absurd cc

once : (all : List Change) → AreChanges all → RenamesDiffer all
once all lawful = renames_differ all (unsorted all lawful)

-- the first of a list passes a test that finds nothing
pub first_fails : {A : Type 0} (test : A → Bool) (a : A) (rest : List A) → find test (a ∷ rest) ≡ None → (test a ≡ false) × (find test rest ≡ None)
first_fails test a rest h = by (test a) refl h
  where
    by : (b : Bool) → test a ≡ b → cond b (Some a) (find test rest) ≡ None → (test a ≡ false) × (find test rest ≡ None)
    by true is e = absurd cc
    by false is e = (is, e)

pub is_there : {A : Type 0} (o : Option A) → is_none o ≡ false → (a : A) × (o ≡ Some a)
is_there None h = absurd cc
is_there (Some a) h = (a, refl)

below_itself : (xs : List ℕ) → bytes_cmp xs xs ≡ Less → ⊥
below_itself xs e = let t : bytes_cmp xs xs ≡ Equal = tied_itself bytes_total xs in let c : Less ≡ Equal = sym e ∙ t in absurd cc

less_differ : (a b : Id) → bytes_cmp a.0 b.0 ≡ Less → a ≡ b → ⊥
less_differ a b less same = below_itself b.0 (subst (λ (i : Id). bytes_cmp i.0 b.0 ≡ Less) same less)

-- the place of a parent
abbrev at : List Revision → Option Id → Option ℕ
at h parent = option_and_then (place_of h) parent

-- a parent that is named is held
data Known (h : List Revision) : Option Id → Type 0 where
  none : Known h None
  held : {id : Id} (p : ℕ) → place_of h id ≡ Some p → Known h (Some id)

abbrev unheld : List Revision → Id → Bool
unheld h id = is_none (place_of h id)

known : (h : List Revision) (parent : Option Id) (rest : List Id) → find (unheld h) (cons_option parent rest) ≡ None → Known h parent × (find (unheld h) rest ≡ None)
known h None rest e = (none, e)
known h (Some id) rest e = let f = first_fails (unheld h) id rest e in let p = is_there (place_of h id) f.0 in (held p.0 p.1, f.1)

module _ (h : List Revision) (grown : IsGrown h) (new : Id) (fresh : IsFresh h new) where
  abbrev one_made : Option ℕ → List Change → Revision
  one_made o all = record { id = new; parents = cons_option o []; tree = tree_after (option_map_or (tree_at h) o []) all new }

  one_from : (parent : Option Id) (all : List Change) → Known h parent → AreChanges all → first_fault (parent_tree h parent) all ≡ None → IsStep h (one_made (at h parent) all)
  one_from None all none lawful fine = root_step h all new fresh (once all lawful) fine
  one_from (Some id) all (held p is) lawful fine =
      let step = one_step h p all new grown.born (place_within h id p is) (grown.sane p (place_within h id p is)) fresh (once all lawful) (ap (λ o. first_fault (option_map_or (tree_at h) o []) all) (sym is) ∙ fine) in
      subst (λ o. IsStep h (one_made o all)) (sym is) step

  abbrev two_made : Option ℕ → Option ℕ → List Change → List Change → Revision
  two_made o u left right = record {
    id = new;
    parents = cons_option o (cons_option u []);
    tree = joined (tree_after (option_map_or (tree_at h) o []) left new) (tree_after (option_map_or (tree_at h) u []) right new) new;
  }

  two_from : (a b : Option Id) (left right : List Change) → Known h a → Known h b → Ascend a b → AreChanges left → AreChanges right →
      first_fault (parent_tree h a) left ≡ None → first_fault (parent_tree h b) right ≡ None →
      join_fault new (is_above h a) (is_above h b) (tree_after (parent_tree h a) left new) (tree_after (parent_tree h b) right new) ≡ None →
      IsStep h (two_made (at h a) (at h b) left right)
  two_from None b left right ka kb up l r fl fr fine = absurd up
  two_from (Some a) None left right ka kb up l r fl fr fine = absurd up
  two_from (Some a) (Some b) left right (held p is) (held q iq) up l r fl fr fine =
      let pa = above_passes h grown.earlier a p is in
      let pb = above_passes h grown.earlier b q iq in
      let differ : p ≢ q = λ same. less_differ a b up (let x = place_has h a p is in let y = place_has h b q iq in search rules) in
      let step = two_step h p q left right new (is_above h (Some a)) (is_above h (Some b)) grown.born (place_within h a p is) (place_within h b q iq) differ
      (grown.sane p (place_within h a p is)) (grown.sane q (place_within h b q iq)) fresh (once left l) (once right r)
      (ap (λ o. first_fault (option_map_or (tree_at h) o []) left) (sym is) ∙ fl) (ap (λ o. first_fault (option_map_or (tree_at h) o []) right) (sym iq) ∙ fr) pa pb
      (subst (λ o. join_fault new (is_above h (Some a)) (is_above h (Some b)) (tree_after (option_map_or (tree_at h) o []) left new) (tree_after (tree_at h q) right new) ≡ None) is
      (subst (λ o. join_fault new (is_above h (Some a)) (is_above h (Some b)) (tree_after (parent_tree h (Some a)) left new) (tree_after (option_map_or (tree_at h) o []) right new) ≡ None) iq fine)) in
      subst (λ o. IsStep h (two_made o (at h (Some b)) left right)) (sym is) (subst (λ u. IsStep h (two_made (Some p) u left right)) (sym iq) step)

  pub accepted_steps : (edges : List Edge) → AreEdges edges → unknown_parent h edges ≡ None → bad_change h 1 edges ≡ None → bad_join h new edges ≡ None → IsStep h (made h new edges)
  accepted_steps [] lawful parents changes join = absurd lawful
  accepted_steps (e ∷ []) lawful parents changes join =
      let k = known h e.parent [] (unmapped _ _ parents) in
      one_from e.parent e.changes k.0 lawful (unmapped _ _ (both_none _ _ changes).0)
  accepted_steps (e ∷ g ∷ []) lawful parents changes join =
      let k = known h e.parent (cons_option g.parent []) (unmapped _ _ parents) in
      let m = known h g.parent [] k.1 in
      let c = both_none _ _ changes in
      two_from e.parent g.parent e.changes g.changes k.0 m.0 lawful.2 lawful.0 lawful.1 (unmapped _ _ c.0) (unmapped _ _ (both_none _ _ c.1).0) (unmapped _ _ join)
  accepted_steps (e ∷ g ∷ k ∷ more) lawful parents changes join = absurd lawful
