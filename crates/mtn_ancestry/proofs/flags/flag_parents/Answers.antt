use Rattle.std.specs.Prelude.{Contains}
use Rattle.std.proofs.Common.{◌↔◌, ◌⊎◌, ◌<◌, [], ◌∷◌, length, ap, sym, ◌∙◌, subst, length-set}
use Rattle.mtn_ancestry.specs.Log.{list_of}
use Rattle.mtn_ancestry.specs.Sets.{IsFlagged}
use Rattle.mtn_ancestry.proofs.Members.{Contains-head, Contains-later}
use Rattle.mtn_ancestry.proofs.Flagging.{after_one, after_two}
use Rattle.mtn_ancestry.proofs.flags.flag_parents.Goals as goal

pub flag-requires : goal.flag-requires
flag-requires c = c.requires c.in-One.p (subst (λ ps. Contains (list_of ps) c.in-One.p) (sym c.in-One.is) (Contains-head c.in-One.p []))

pub flag-requires-in-Two : goal.flag-requires-in-Two
flag-requires-in-Two c =
    c.requires c.in-Two.p (subst (λ ps. Contains (list_of ps) c.in-Two.p) (sym c.in-Two.is) (Contains-head c.in-Two.p (c.in-Two.q ∷ [])))

pub flag-requires-in-Two-2 : goal.flag-requires-in-Two-2
flag-requires-in-Two-2 c =
    let here = Contains-later c.in-Two.p (c.in-Two.q ∷ []) (Contains-head c.in-Two.q []) in
    let known = c.requires c.in-Two.q (subst (λ ps. Contains (list_of ps) c.in-Two.q) (sym c.in-Two.is) here) in
    subst (λ n. c.in-Two.q < n) (sym (ap length c.flag-in-Two.ensures ∙ length-set _ _ _)) known

pub returns-in-One-clause-exact : goal.returns-in-One-clause-exact
returns-in-One-clause-exact c = λ x.
    subst (λ ps. IsFlagged c.flag.new.flags x ↔ (IsFlagged c.args.flags.now x ⊎ Contains (list_of ps) x)) (sym c.in-One.is)
    (after_one c.args.flags.now c.flag.new.flags c.in-One.p x
    (c.requires c.in-One.p (subst (λ ps. Contains (list_of ps) c.in-One.p) (sym c.in-One.is) (Contains-head c.in-One.p [])))
    c.flag.ensures)

pub returns-in-Two-clause-exact : goal.returns-in-Two-clause-exact
returns-in-Two-clause-exact c = λ x.
    let here = Contains-later c.in-Two.p (c.in-Two.q ∷ []) (Contains-head c.in-Two.q []) in
    let known = c.requires c.in-Two.q (subst (λ ps. Contains (list_of ps) c.in-Two.q) (sym c.in-Two.is) here) in
    subst (λ ps. IsFlagged c.flag-in-Two-2.new.flags x ↔ (IsFlagged c.args.flags.now x ⊎ Contains (list_of ps) x)) (sym c.in-Two.is)
    (after_two c.args.flags.now c.flag-in-Two.new.flags c.flag-in-Two-2.new.flags c.in-Two.p c.in-Two.q x
    (c.requires c.in-Two.p (subst (λ ps. Contains (list_of ps) c.in-Two.p) (sym c.in-Two.is) (Contains-head c.in-Two.p (c.in-Two.q ∷ []))))
    (subst (λ n. c.in-Two.q < n) (sym (ap length c.flag-in-Two.ensures ∙ length-set _ _ _)) known)
    c.flag-in-Two.ensures c.flag-in-Two-2.ensures)
