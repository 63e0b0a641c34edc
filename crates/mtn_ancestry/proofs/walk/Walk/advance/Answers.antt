use Rattle.std.specs.Prelude.{Contains}
use Rattle.std.proofs.Common.{◌↔◌, ◌⊎◌, ℕ, List, sym, subst}
use Rattle.mtn_ancestry.specs.Log.{list_of}
use Rattle.mtn_ancestry.specs.declared.frontier.Frontier.{Frontier}
use Rattle.mtn_ancestry.specs.Walking.{pending_of, IsBelow, IsLeftAt, IsRightAt, IsFromLeft, IsFromRight, IsUnderWay, IsOrderly, AreUpTo, left_noted, right_noted}
use Rattle.mtn_ancestry.proofs.Walks.{stepped}
use Rattle.mtn_ancestry.proofs.Advancing.{Pops, noted_up_to, next_below, under_way, below_after, orderly, found_left, found_right}
use Rattle.mtn_ancestry.proofs.walk.Walk.advance.Goals as goal

lefts : (c : goal.After-pop) → (x : ℕ) →
    IsLeftAt (pending_of c.add_all.new.self x) ↔ (IsLeftAt (pending_of c.args.self.now.frontier x) ⊎ (Contains (list_of c.args.parents.now) x × IsFromLeft c.args.reach))
lefts c x =
    subst (λ (f : Frontier). IsLeftAt (pending_of c.add_all.new.self x) ↔ (IsLeftAt (pending_of f x) ⊎ (Contains (list_of c.args.parents.now) x × IsFromLeft c.args.reach)))
    c.note.ensures.same (c.in_ok-add_all.ensures.left x)

rights : (c : goal.After-pop) → (x : ℕ) →
    IsRightAt (pending_of c.add_all.new.self x) ↔ (IsRightAt (pending_of c.args.self.now.frontier x) ⊎ (Contains (list_of c.args.parents.now) x × IsFromRight c.args.reach))
rights c x =
    subst (λ (f : Frontier). IsRightAt (pending_of c.add_all.new.self x) ↔ (IsRightAt (pending_of f x) ⊎ (Contains (list_of c.args.parents.now) x × IsFromRight c.args.reach)))
    c.note.ensures.same (c.in_ok-add_all.ensures.right x)

pops : (c : goal.After-pop) → Pops (pending_of c.add_all.new.self) (pending_of c.pop.new.self) c.pop.result
pops c = record {
  done = c.pop.ensures.done;
  had = c.pop.ensures.had;
  greatest = c.pop.ensures.greatest;
  taken = c.pop.ensures.taken;
  rest = c.pop.ensures.rest;
  single = c.pop.ensures.single;
}

below : (c : goal.After-pop) → IsBelow (pending_of c.add_all.new.self) c.args.at
below c =
    below_after (pending_of c.args.self.now.frontier) (pending_of c.add_all.new.self) c.args.at c.args.reach (list_of c.args.parents.now)
    c.requires.order.below c.requires.earlier (lefts c) (rights c)

pub returns-clause-below : goal.returns-clause-below
returns-clause-below c = next_below (pending_of c.add_all.new.self) (pending_of c.pop.new.self) c.args.at c.pop.result (below c) (pops c)

pub returns-clause-order : goal.returns-clause-order
returns-clause-order c =
    subst (λ (l : List ℕ). IsOrderly c.pop.result (pending_of c.pop.new.self) l c.note.new.self.right.items) (sym c.in_ok-note.ensures.left)
    (subst (λ (l : List ℕ). IsOrderly c.pop.result (pending_of c.pop.new.self) (left_noted c.args.reach c.args.self.now.left.items c.args.at) l) (sym c.in_ok-note.ensures.right)
    (orderly (pending_of c.add_all.new.self) (pending_of c.pop.new.self) c.args.at c.args.reach c.pop.result c.args.self.now.left.items c.args.self.now.right.items
    (below c) (pops c) c.requires.order.left_order c.requires.order.right_order))

pub returns-clause-up_to : goal.returns-clause-up_to
returns-clause-up_to c = λ top h a.
    subst (λ (l : List ℕ). AreUpTo top l c.note.new.self.right.items) (sym c.in_ok-note.ensures.left)
    (subst (λ (l : List ℕ). AreUpTo top (left_noted c.args.reach c.args.self.now.left.items c.args.at) l) (sym c.in_ok-note.ensures.right)
    (noted_up_to c.args.reach c.args.self.now.left.items c.args.self.now.right.items c.args.at top h a))

pub returns-clause-walked : goal.returns-clause-walked
returns-clause-walked c = λ graph a b low early floor is stands.
    let f = pending_of c.args.self.now.frontier in
    let left = c.args.self.now.left.items in
    let right = c.args.self.now.right.items in
    let w = stepped graph early a b low c.args.at f c.args.reach left right c.requires.order.below stands.walked (pending_of c.add_all.new.self)
    (subst (λ (ps : List ℕ). (x : ℕ) → IsLeftAt (pending_of c.add_all.new.self x) ↔ (IsLeftAt (f x) ⊎ (Contains ps x × IsFromLeft c.args.reach))) is (lefts c))
    (subst (λ (ps : List ℕ). (x : ℕ) → IsRightAt (pending_of c.add_all.new.self x) ↔ (IsRightAt (f x) ⊎ (Contains ps x × IsFromRight c.args.reach))) is (rights c))
    floor (left_noted c.args.reach left c.args.at) (right_noted c.args.reach right c.args.at)
    (found_left graph early a b low c.args.at f c.args.reach left right c.requires.order.below stands.walked)
    (found_right graph early a b low c.args.at f c.args.reach left right c.requires.order.below stands.walked) in
    subst (λ (l : List ℕ). IsUnderWay graph a b low c.pop.result (pending_of c.pop.new.self) l c.note.new.self.right.items) (sym c.in_ok-note.ensures.left)
    (subst (λ (l : List ℕ). IsUnderWay graph a b low c.pop.result (pending_of c.pop.new.self) (left_noted c.args.reach left c.args.at) l) (sym c.in_ok-note.ensures.right)
    (under_way graph early a b low c.args.at (pending_of c.add_all.new.self) (pending_of c.pop.new.self) c.pop.result
    (left_noted c.args.reach left c.args.at) (right_noted c.args.reach right c.args.at) (below c) w (pops c)))
