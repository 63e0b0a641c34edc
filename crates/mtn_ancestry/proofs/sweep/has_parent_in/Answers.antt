use Rattle.std.specs.Prelude.{Contains}
use Rattle.std.proofs.Common.{◌∷◌, [], sym, subst}
use Rattle.mtn_ancestry.specs.Log.{list_of}
use Rattle.mtn_ancestry.proofs.Members.{Contains-head, Contains-later}
use Rattle.mtn_ancestry.proofs.sweep.has_parent_in.Goals as goal

pub is_in_either-requires-clause-given : goal.is_in_either-requires-clause-given
is_in_either-requires-clause-given c = c.requires.given c.in-One.p (subst (λ ps. Contains (list_of ps) c.in-One.p) (sym c.in-One.is) (Contains-head c.in-One.p []))

pub is_in_either-requires-clause-below : goal.is_in_either-requires-clause-below
is_in_either-requires-clause-below c = c.requires.below c.in-One.p (subst (λ ps. Contains (list_of ps) c.in-One.p) (sym c.in-One.is) (Contains-head c.in-One.p []))

pub is_in_either-requires-in-Two-clause-given : goal.is_in_either-requires-in-Two-clause-given
is_in_either-requires-in-Two-clause-given c =
    c.requires.given c.in-Two.p (subst (λ ps. Contains (list_of ps) c.in-Two.p) (sym c.in-Two.is) (Contains-head c.in-Two.p (c.in-Two.q ∷ [])))

pub is_in_either-requires-in-Two-clause-below : goal.is_in_either-requires-in-Two-clause-below
is_in_either-requires-in-Two-clause-below c =
    c.requires.below c.in-Two.p (subst (λ ps. Contains (list_of ps) c.in-Two.p) (sym c.in-Two.is) (Contains-head c.in-Two.p (c.in-Two.q ∷ [])))

pub is_in_either-requires-else-is_in_either-clause-given : goal.is_in_either-requires-else-is_in_either-clause-given
is_in_either-requires-else-is_in_either-clause-given c =
    let here = Contains-later c.in-Two.p (c.in-Two.q ∷ []) (Contains-head c.in-Two.q []) in
    c.requires.given c.in-Two.q (subst (λ ps. Contains (list_of ps) c.in-Two.q) (sym c.in-Two.is) here)

pub is_in_either-requires-else-is_in_either-clause-below : goal.is_in_either-requires-else-is_in_either-clause-below
is_in_either-requires-else-is_in_either-clause-below c =
    let here = Contains-later c.in-Two.p (c.in-Two.q ∷ []) (Contains-head c.in-Two.q []) in
    c.requires.below c.in-Two.q (subst (λ ps. Contains (list_of ps) c.in-Two.q) (sym c.in-Two.is) here)
