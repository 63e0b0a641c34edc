use Rattle.std.proofs.Common.{◌≡◌, ◌<◌, ℕ, true, false, length, get_or}
use Rattle.mtn_roster.specs.Building.{Leads, MarkedLead}
use Rattle.mtn_roster.proofs.sane.mark.Given as goal

abbrev pub invariant-loop : goal.invariant-loop
invariant-loop l =
    (l.at < length l.ups) × (length l.marked.items ≡ length l.ups)
    × ((k : ℕ) → get_or l.initial.marked.items k false ≡ true → get_or l.marked.items k false ≡ true)
    × ((root : ℕ) → get_or l.ups root 0 ≡ root → Leads l.ups root l.from → MarkedLead l.ups root l.initial.marked.items → Leads l.ups root l.at × MarkedLead l.ups root l.marked.items)
