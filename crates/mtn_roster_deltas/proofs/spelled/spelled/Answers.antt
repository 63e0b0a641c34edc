-- By the order of the nodes, and what the tree has of each.
use Rattle.std.proofs.Common.{◌≡◌, ◌∙◌, map, rules, sym, ap, subst}
use Rattle.mtn_marking.specs.Marking.{AreFor}
use Rattle.mtn_roster_deltas.specs.Spelled.{by_node, Spells}
use Rattle.mtn_roster_deltas.proofs.ByNode.{seen}
use Rattle.mtn_roster_deltas.proofs.Spelling.{spelled_plain, spelled_builds, marks_rise, they_fit, they_spell}
use Rattle.mtn_roster_deltas.proofs.spelled.spelled.Goals as goal

pub returns-in_err-plain-clause-bad : goal.returns-in_err-plain-clause-bad
returns-in_err-plain-clause-bad c = λ h t s.
    let order : map seen c.as_slice-nodes.result.now ≡ by_node c.args.entries.now = ap (map seen) c.as_slice-nodes.ensures.value ∙ c.in_ok-sorted.ensures.ok in
    c.in_err-plain.ensures.bad (search rules) t.tree (spelled_plain c.args.entries.now c.as_slice-nodes.result.now order t s)

pub returns-in_err-roster-clause-bad : goal.returns-in_err-roster-clause-bad
returns-in_err-roster-clause-bad c = λ h t s.
    let order : map seen c.as_slice-nodes.result.now ≡ by_node c.args.entries.now = ap (map seen) c.as_slice-nodes.ensures.value ∙ c.in_ok-sorted.ensures.ok in
    c.in_err-roster.ensures.bad (search rules) (spelled_builds c.args.entries.now c.as_slice-nodes.result.now order c.in_ok-plain.plain.items c.in_ok-plain.ensures.ok t s)

pub from_rising-requires : goal.from_rising-requires
from_rising-requires c =
    let order : map seen c.as_slice-nodes.result.now ≡ by_node c.args.entries.now = ap (map seen) c.as_slice-nodes.ensures.value ∙ c.in_ok-sorted.ensures.ok in
    marks_rise c.args.entries.now c.as_slice-nodes.result.now order c.in_ok-plain.plain.items c.in_ok-plain.ensures.ok c.in_ok-marks.marks.items c.in_ok-marks.ensures

pub new-requires : goal.new-requires
new-requires c =
    let order : map seen c.as_slice-nodes.result.now ≡ by_node c.args.entries.now = ap (map seen) c.as_slice-nodes.ensures.value ∙ c.in_ok-sorted.ensures.ok in
    subst (AreFor c.in_ok-roster.roster) (sym c.from_rising.ensures)
    (they_fit c.args.entries.now c.as_slice-nodes.result.now order c.in_ok-plain.plain.items c.in_ok-plain.ensures.ok c.in_ok-marks.marks.items c.in_ok-marks.ensures c.in_ok-roster.roster c.in_ok-roster.ensures.ok)

pub returns-clause-ok : goal.returns-clause-ok
returns-clause-ok c =
    let order : map seen c.as_slice-nodes.result.now ≡ by_node c.args.entries.now = ap (map seen) c.as_slice-nodes.ensures.value ∙ c.in_ok-sorted.ensures.ok in
    subst (Spells c.args.entries.now) (sym (c.new.ensures ∙ (λ i. record { tree = c.in_ok-roster.roster; marks = c.from_rising.ensures i })))
    (they_spell c.args.entries.now c.as_slice-nodes.result.now order c.in_ok-plain.plain.items c.in_ok-plain.ensures.ok c.in_ok-marks.marks.items c.in_ok-marks.ensures c.in_ok-roster.roster c.in_ok-roster.ensures.ok
    c.requires (c.are_from_one.ensures.0 c.if-not-are_from_one.false) c.in_ok-sorted.ensures.apart c.in_ok-roster.ensures.made)
