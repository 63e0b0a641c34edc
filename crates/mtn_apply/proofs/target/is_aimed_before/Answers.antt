-- The first position is below the change's, or there is none.
use Rattle.std.specs.Prelude.{nat_lt}
use Rattle.std.specs.List.{list_any}
use Rattle.std.proofs.Common.{◌≡◌, ℕ, List, Option, None, Some, take, ap, sym, ◌∙◌}
use Rattle.mtn_changes.specs.declared.change.Change.{Change}
use Rattle.mtn_base.specs.Lists.{is_some_with}
use Rattle.mtn_changeset_laws.specs.Changes.{aims_at}
use Rattle.mtn_apply.specs.Index.{changes_of, first_at}
use Rattle.mtn_apply.proofs.Positions.{before_is}
use Rattle.mtn_apply.proofs.target.is_aimed_before.Goals as goal

it : (all : List Change) (q : List (List ℕ)) (n : ℕ) (at : Option ℕ) → at ≡ first_at (aims_at q) all → is_some_with (λ k. nat_lt k n) at ≡ list_any (aims_at q) (take n all)
it all q n at h = ap (is_some_with (λ k. nat_lt k n)) h ∙ sym (before_is (aims_at q) n all)

pub returns-in-None : goal.returns-in-None
returns-in-None c = it (changes_of c.args.edge.now) c.args.path.now c.args.at None (c.in-None.ensures ∙ c.requires.targets c.args.path.now)

pub returns-in-Some : goal.returns-in-Some
returns-in-Some c = it (changes_of c.args.edge.now) c.args.path.now c.args.at (Some c.in-Some.first) (c.in-Some.ensures ∙ c.requires.targets c.args.path.now)
