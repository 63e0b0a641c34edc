use Rattle.std.specs.Prelude.{Contains}
use Rattle.std.proofs.Common.{◌↔◌, ◌⊎◌, ◌<◌, [], ◌∷◌, sym, subst}
use Rattle.mtn_ancestry.specs.Log.{list_of}
use Rattle.mtn_ancestry.specs.Sets.{HasFlag, IsFlaggedIn}
use Rattle.mtn_ancestry.proofs.Members.{Contains-head, Contains-later}
use Rattle.mtn_ancestry.proofs.Joining.{joined_one, joined_two}
use Rattle.mtn_ancestry.proofs.words.join_parents.Goals as goal

pub join-requires : goal.join-requires
join-requires c = c.requires c.in-One.p (subst (λ ps. Contains (list_of ps) c.in-One.p) (sym c.in-One.is) (Contains-head c.in-One.p []))

pub join-requires-in-Two : goal.join-requires-in-Two
join-requires-in-Two c =
    c.requires c.in-Two.p (subst (λ ps. Contains (list_of ps) c.in-Two.p) (sym c.in-Two.is) (Contains-head c.in-Two.p (c.in-Two.q ∷ [])))

pub join-requires-in-Two-2 : goal.join-requires-in-Two-2
join-requires-in-Two-2 c =
    let here = Contains-later c.in-Two.p (c.in-Two.q ∷ []) (Contains-head c.in-Two.q []) in
    let known = c.requires c.in-Two.q (subst (λ ps. Contains (list_of ps) c.in-Two.q) (sym c.in-Two.is) here) in
    subst (λ n. c.in-Two.q < n) (sym c.join-in-Two.ensures.count) known

pub returns-in-One-clause-exact : goal.returns-in-One-clause-exact
returns-in-One-clause-exact c = λ j x.
    let words = c.args.words.now in
    subst (λ ps. IsFlaggedIn c.join.new.words j x ↔ (IsFlaggedIn words j x ⊎ (Contains (list_of ps) x × HasFlag c.args.word j))) (sym c.in-One.is)
    (joined_one (IsFlaggedIn words j x) (IsFlaggedIn c.join.new.words j x) (HasFlag c.args.word j) c.in-One.p x (c.join.ensures.exact j x))

pub returns-in-Two-clause-exact : goal.returns-in-Two-clause-exact
returns-in-Two-clause-exact c = λ j x.
    let words = c.args.words.now in
    let mid = c.join-in-Two.new.words in
    let new = c.join-in-Two-2.new.words in
    subst (λ ps. IsFlaggedIn new j x ↔ (IsFlaggedIn words j x ⊎ (Contains (list_of ps) x × HasFlag c.args.word j))) (sym c.in-Two.is)
    (joined_two (IsFlaggedIn words j x) (IsFlaggedIn mid j x) (IsFlaggedIn new j x) (HasFlag c.args.word j) c.in-Two.p c.in-Two.q x
    (c.join-in-Two.ensures.exact j x) (c.join-in-Two-2.ensures.exact j x))
