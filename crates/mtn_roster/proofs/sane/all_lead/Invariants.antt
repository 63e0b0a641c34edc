use Rattle.std.proofs.Common.{◌≡◌, ◌<◌, ℕ, true, false, length, get_or}
use Rattle.mtn_roster.specs.Building.{Leads, MarkedLead}
use Rattle.mtn_roster.proofs.sane.all_lead.Given as goal

abbrev pub invariant-loop-from : goal.invariant-loop-from
invariant-loop-from l =
    (length l.marked.items ≡ length l.ups) × (get_or l.marked.items l.root false ≡ true)
    × MarkedLead l.ups l.root l.marked.items
    × ((k : ℕ) → k < l.from → Leads l.ups l.root k)
