-- The entries by ascending nodes, sorted by numbers, and a look whether these are in order.
use Rattle.std.proofs.Common.{◌≡◌, ◌<◌, true, is_lt, rules, sym, subst}
use Rattle.std.specs.List.{AllByRecursion}
use Rattle.std.specs.Cmp.{nat_cmp_total}
use Rattle.std.specs.Ordering.{nat_cmp}
use Rattle.std.proofs.lemmas.List.Sorted.{ranks_by, answers_always}
use Rattle.mtn_records.specs.declared.entry.NumberedEntry.{NumberedEntry}
use Rattle.mtn_roster.specs.Tree.{IsSane}
use Rattle.mtn_roster_deltas.specs.Chain.{Entries, ascend, number_of}
use Rattle.mtn_roster_deltas.specs.Noting.{AreNumbered}
use Rattle.mtn_roster_deltas.specs.Numbering.{shown, IsNumbering}
use Rattle.mtn_roster_deltas.specs.Spelled.{Spells}
use Rattle.mtn_roster_deltas.proofs.Assigning.{assigned, in_order, spelled}
use Rattle.mtn_roster_deltas.proofs.numbering.number.Goals as goal

abbrev AreInOrder : Entries → Type 0
AreInOrder es = (ascend es ≡ true) × AllByRecursion (λ (e : NumberedEntry). 0 < e.number) es

pub returns-then-not-are_in_order-clause-clash : goal.returns-then-not-are_in_order-clause-clash
returns-then-not-are_in_order-clause-clash c = λ h known.
    let both = in_order c.args.roster.now c.in_ok-numbers.numbers.items c.in_ok-entries.entries.items c.sort_by.new.self.items c.roster.ensures.fits (subst IsSane c.roster.ensures.tree c.len-sane.ensures.sane)
    c.in_ok-entries.ensures.long (subst (λ ns. AreNumbered c.args.roster.now ns c.in_ok-entries.entries.items) c.deref.ensures.value c.in_ok-entries.ensures.numbered) c.in_ok-sort_by.ensures.permutation
    (shown c.args.known.now) c.args.next (c.in_ok-numbers.ensures.numbers known) known
    (c.in_ok-sort_by.ensures.sorted (λ (x : NumberedEntry) (y : NumberedEntry). is_lt (nat_cmp x.number y.number)) (ranks_by nat_cmp_total number_of) (answers_always _ _ _ (λ f a r g k. search rules))) in
    let a = c.are_in_order.ensures.1 (subst AreInOrder (sym c.deref-2.ensures.value) both) in
    let b = c.if-not-are_in_order.true in cc

pub returns-clause-spells : goal.returns-clause-spells
returns-clause-spells c =
    let both : AreInOrder c.sort_by.new.self.items = subst AreInOrder c.deref-2.ensures.value (c.are_in_order.ensures.0 c.if-not-are_in_order.false) in
    subst (λ es. Spells es c.args.roster.now) (sym c.from_vec-entries.ensures)
    (spelled c.args.roster.now c.in_ok-numbers.numbers.items c.in_ok-entries.entries.items c.sort_by.new.self.items c.roster.ensures.fits (subst IsSane c.roster.ensures.tree c.len-sane.ensures.sane)
    c.in_ok-entries.ensures.long (subst (λ ns. AreNumbered c.args.roster.now ns c.in_ok-entries.entries.items) c.deref.ensures.value c.in_ok-entries.ensures.numbered) c.in_ok-sort_by.ensures.permutation both.0 both.1)

pub returns-clause-numbers : goal.returns-clause-numbers
returns-clause-numbers c = λ known.
    let spells = subst (λ es. Spells es c.args.roster.now) c.from_vec-entries.ensures (returns-clause-spells c) in
    subst (IsNumbering (shown c.args.known.now) c.args.next c.args.roster.now) (sym c.from_vec-entries.ensures)
    (assigned c.args.roster.now c.in_ok-numbers.numbers.items c.in_ok-entries.entries.items c.sort_by.new.self.items c.roster.ensures.fits (subst IsSane c.roster.ensures.tree c.len-sane.ensures.sane)
    c.in_ok-entries.ensures.long (subst (λ ns. AreNumbered c.args.roster.now ns c.in_ok-entries.entries.items) c.deref.ensures.value c.in_ok-entries.ensures.numbered) c.in_ok-sort_by.ensures.permutation
    (shown c.args.known.now) c.args.next (c.in_ok-numbers.ensures.numbers known) spells)
