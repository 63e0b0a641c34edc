-- By the order of the nodes, and what the tree has of each.
use Rattle.std.proofs.Common.{◌≡◌, ◌∙◌, Bor, List, map, sym, ap, subst}
use Rattle.std.specs.List.{AllZip}
use Rattle.mtn_marking.specs.declared.node.NodeMarks.{NodeMarks}
use Rattle.mtn_records.specs.declared.entry.NumberedEntry.{NumberedEntry}
use Rattle.mtn_roster.specs.declared.entry.Entry.{Entry}
use Rattle.mtn_roster_deltas.specs.Spelled.{IsEntryOf, by_node, Spells}
use Rattle.mtn_roster_deltas.proofs.ByNode.{seen}
use Rattle.mtn_roster_deltas.proofs.Spelling.{beside_rise, beside_spell, spelled_nodes}
use Rattle.mtn_roster_deltas.proofs.on_tree.marks_beside.Goals as goal

pub returns-then-not-are_of-clause-other : goal.returns-then-not-are_of-clause-other
returns-then-not-are_of-clause-other c = λ none t s is.
    let order : map seen c.as_slice-nodes.result.now ≡ by_node c.args.entries.now = ap (map seen) c.as_slice-nodes.ensures.value ∙ c.in_ok-sorted.ensures.ok in
    let told = c.are_of.ensures.told.1
    (subst (AllZip (λ (b : Bor NumberedEntry) (n : Entry). IsEntryOf c.args.entries.now b.now n) c.as_slice-nodes.result.now) is (spelled_nodes c.args.entries.now c.as_slice-nodes.result.now order t s)) in
    let other = c.if-not-are_of.true in
    cc

pub from_rising-requires : goal.from_rising-requires
from_rising-requires c =
    let order : map seen c.as_slice-nodes.result.now ≡ by_node c.args.entries.now = ap (map seen) c.as_slice-nodes.ensures.value ∙ c.in_ok-sorted.ensures.ok in
    beside_rise c.args.entries.now c.as_slice-nodes.result.now order c.args.roster.now c.are_of.ensures.sane (c.are_of.ensures.told.0 c.if-not-are_of.false) c.in_ok-all_marks.field-0.items c.in_ok-all_marks.ensures

pub returns-clause-spelled : goal.returns-clause-spelled
returns-clause-spelled c =
    let order : map seen c.as_slice-nodes.result.now ≡ by_node c.args.entries.now = ap (map seen) c.as_slice-nodes.ensures.value ∙ c.in_ok-sorted.ensures.ok in
    subst (λ (ms : List NodeMarks). Spells c.args.entries.now (record { tree = c.args.roster.now; marks = ms })) (sym c.from_rising.ensures)
    (beside_spell c.args.entries.now c.as_slice-nodes.result.now order c.args.roster.now c.are_of.ensures.sane (c.are_of.ensures.told.0 c.if-not-are_of.false) c.in_ok-all_marks.field-0.items c.in_ok-all_marks.ensures
    c.requires.ascending c.requires.from_one c.in_ok-sorted.ensures.apart)
