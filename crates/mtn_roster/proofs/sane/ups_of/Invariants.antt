use Rattle.std.proofs.Common.{◌≡◌, ◌<◌, ℕ, true, length, get_or}
use Rattle.mtn_roster.specs.Index.{slot_in}
use Rattle.mtn_roster.specs.Building.{IsUp, hangs_well}
use Rattle.mtn_roster.proofs.sane.ups_of.Given as goal

abbrev pub invariant-loop-own : goal.invariant-loop-own
invariant-loop-own l =
    (length l.ups.items ≡ l.own)
    × ((k : ℕ) → k < l.own → IsUp l.entries (slot_in l.entries k) k (get_or l.ups.items k 0))
    × ((k : ℕ) → k < l.own → hangs_well l.entries (slot_in l.entries k) ≡ true)
