-- The entries of the nodes, sorted by their numbers.
use Rattle.std.proofs.Common.{◌∙◌, is_lt, rules, ap, subst}
use Rattle.std.specs.Cmp.{nat_cmp_total}
use Rattle.std.specs.Ordering.{nat_cmp}
use Rattle.std.proofs.lemmas.List.Sorted.{ranks_by, answers_always}
use Rattle.mtn_records.specs.declared.entry.NumberedEntry.{NumberedEntry}
use Rattle.mtn_roster.specs.Tree.{IsSane}
use Rattle.mtn_roster_deltas.specs.Beside.{NumberedTree}
use Rattle.mtn_roster_deltas.specs.Chain.{number_of}
use Rattle.mtn_roster_deltas.specs.Noting.{AreNumbered}
use Rattle.mtn_roster_deltas.proofs.Numbers.{made_beside}
use Rattle.mtn_roster_deltas.proofs.beside.NumberedRoster.entries.Goals as goal

pub returns : goal.returns
returns c =
    let t = c.self.inside.roster in
    let ns = c.self.inside.numbers.items in
    c.from_vec.ensures
    ∙ made_beside t ns c.roster-fits.ensures.fits (subst IsSane c.roster.ensures.tree c.len-sane.ensures.sane) c.self.invariant c.in_ok-entries.entries.items c.sort_by.new.self.items
    c.in_ok-entries.ensures.long (subst (λ ms. AreNumbered t ms c.in_ok-entries.entries.items) c.deref.ensures.value c.in_ok-entries.ensures.numbered) c.in_ok-sort_by.ensures.permutation
    (c.in_ok-sort_by.ensures.sorted (λ (x : NumberedEntry) (y : NumberedEntry). is_lt (nat_cmp x.number y.number)) (ranks_by nat_cmp_total number_of) (answers_always _ _ _ (λ f a r g k. search rules)))
    ∙ ap (λ (r : NumberedTree). r.entries) c.self.view_is
