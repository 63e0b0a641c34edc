-- A marking in place of an earlier one, or one more node in its place.
use Rattle.std.specs.Prelude.{insert}
use Rattle.std.proofs.Common.{rules, ◌≡◌, ◌<◌, ◌≤◌, true, map, length, Ok, Err, refl, sym, ◌∙◌, ap, subst}
use Rattle.std.proofs.lemmas.Fn.{always_returns_same}
use Rattle.std.specs.List.Sorted.{IsBinarySearchResult}
use Rattle.mtn_base.specs.Names.{name_cmp}
use Rattle.mtn_base.specs.Lists.{rises}
use Rattle.mtn_marking.specs.declared.node.NodeMarks.{NodeMarks}
use Rattle.mtn_marking.specs.Marking.{Marks, marking_of}
use Rattle.mtn_marking.proofs.ByName.{name_of, IsPut, put_here, put_others, put_rising, put_is, put_name, new_rising, new_is}
use Rattle.mtn_marking.proofs.map.MarkMap.put.Goals as goal
use Rattle.mtn_marking.proofs.map.MarkMap.put.Goals.{After-drop-name, In_ok-insert}

module _ (c : After-drop-name) where
  abbrev old : Marks
  old = c.self.inside.items.items

  found : IsBinarySearchResult (λ m. name_cmp (name_of m) c.args.name) old (Ok c.in-Ok.place)
  found =
      subst (λ (l : Marks). IsBinarySearchResult (λ m. name_cmp (name_of m) c.args.name) l (Ok c.in-Ok.place)) c.deref.ensures.value
      (c.in-Ok.ensures.position (λ (m : NodeMarks). name_cmp m.name c.args.name) (always_returns_same _ _ _ (λ a r g called. (search rules, search rules))))

  within : c.in-Ok.place < length old
  within = subst (λ (l : Marks). c.in-Ok.place < length l) c.deref.ensures.value c.in-Ok.ensures.bound

  abbrev after : NodeMarks
  after = record { name = c.index_mut.result.now.name; marking = c.args.marking }

pub invariant_of-self : goal.invariant_of-self
invariant_of-self c = put_rising (old c) c.self.invariant c.args.name c.in-Ok.place (within c) (found c) c.index_mut.result.now c.index_mut.ensures.value (after c) refl

pub returns-in-Ok-clause-here : goal.returns-in-Ok-clause-here
returns-in-Ok-clause-here c =
    put_here (old c) _ (after c) c.args.name (put_name (old c) c.self.invariant c.args.name c.in-Ok.place (within c) (found c) c.index_mut.result.now c.index_mut.ensures.value (after c) refl)
    (put_is (old c) c.self.invariant c.args.name c.in-Ok.place (within c) (found c) c.index_mut.result.now c.index_mut.ensures.value (after c) refl)

pub returns-in-Ok-clause-others : goal.returns-in-Ok-clause-others
returns-in-Ok-clause-others c q ne =
    put_others (old c) _ (after c) c.args.name (put_name (old c) c.self.invariant c.args.name c.in-Ok.place (within c) (found c) c.index_mut.result.now c.index_mut.ensures.value (after c) refl)
    (put_is (old c) c.self.invariant c.args.name c.in-Ok.place (within c) (found c) c.index_mut.result.now c.index_mut.ensures.value (after c) refl) q ne
    ∙ ap (λ (l : Marks). marking_of l q) c.self.view_is

module _ (c : In_ok-insert) where
  abbrev before : Marks
  before = c.self.inside.items.items

  abbrev added : NodeMarks
  added = record { name = c.args.name; marking = c.args.marking }

  lacks : IsBinarySearchResult (λ m. name_cmp (name_of m) c.args.name) before (Err c.in-Err.place)
  lacks =
      subst (λ (l : Marks). IsBinarySearchResult (λ m. name_cmp (name_of m) c.args.name) l (Err c.in-Err.place)) c.deref.ensures.value
      (c.in-Err.ensures.position (λ (m : NodeMarks). name_cmp m.name c.args.name) (always_returns_same _ _ _ (λ a r g called. (search rules, search rules))))

  upto : c.in-Err.place ≤ length before
  upto = subst (λ (l : Marks). c.in-Err.place ≤ length l) c.deref.ensures.value c.in-Err.ensures.bound

  longer : c.insert.new.self.items ≡ insert before c.in-Err.place added
  longer = c.in_ok-insert.ensures.items

  put : IsPut before added c.insert.new.self.items
  put = subst (λ (l : Marks). IsPut before added l) (sym longer) (new_is before c.self.invariant added c.in-Err.place upto lacks)

pub invariant_of-self-2 : goal.invariant_of-self-2
invariant_of-self-2 c =
    subst (λ (l : Marks). rises name_cmp (map name_of l) ≡ true) (sym (longer c)) (new_rising (before c) c.self.invariant (added c) c.in-Err.place (upto c) (lacks c))

pub returns-clause-here : goal.returns-clause-here
returns-clause-here c = put_here (before c) _ (added c) c.args.name refl (put c)

pub returns-clause-others : goal.returns-clause-others
returns-clause-others c q ne = put_others (before c) _ (added c) c.args.name refl (put c) q ne ∙ ap (λ (l : Marks). marking_of l q) c.self.view_is
