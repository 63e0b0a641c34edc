use Rattle.std.proofs.Common.{◌≡◌, ◌↔◌, ◌⊎◌, ℕ, ◌<◌, length, get_or, set, bit_or, sym, subst}
use Rattle.mtn_ancestry.specs.Sets.{HasFlag, IsFlaggedIn}
use Rattle.mtn_ancestry.proofs.Joining.{joined}
use Rattle.mtn_ancestry.proofs.words.join.Goals as goal

pub returns-clause-exact : goal.returns-clause-exact
returns-clause-exact c = λ j x.
    let words = c.args.words.now in
    let i : ℕ = c.at.inside.0 in
    let e : i ≡ c.args.at = c.at.view_is in
    subst (λ (k : ℕ). IsFlaggedIn (set words i (bit_or (get_or words i 0) c.args.word)) j x ↔ (IsFlaggedIn words j x ⊎ ((k ≡ x) × HasFlag c.args.word j))) e
    (joined words i c.args.word j x (subst (λ k. k < length words) (sym e) c.requires))
