-- What a chain of records gives: a whole record, and then deltas, each on what those before it give.
use Rattle.std.specs.Prelude.{ℕ, ◌+◌, ◌==◌, ◌&&◌, nat_lt, not, Bool, List, [], ◌∷◌, map, find, filter, Option, Some, None, is_some, option_and_then, if◌then◌else◌}
use Rattle.std.specs.List.{list_any, list_all}
use Rattle.std.specs.Ordering.{nat_cmp}
use Rattle.mtn_base.specs.Lists.{rises, placed}
use Rattle.mtn_records.specs.declared.entry.NumberedEntry.{NumberedEntry}
use Rattle.mtn_records.specs.declared.record.RosterRecord.{RosterRecord}
use Rattle.mtn_records.specs.declared.record.RosterRecord.TheVariants.{Whole, Delta}

abbrev pub Entries : Type 0
Entries = List NumberedEntry

abbrev pub number_of : NumberedEntry → ℕ
number_of e = e.number

-- each number is above the one before it
abbrev pub ascend : Entries → Bool
ascend es = rises nat_cmp (map number_of es)

-- the entry of a number
abbrev pub entry_at : Entries → ℕ → Option NumberedEntry
entry_at es n = find (λ e. e.number == n) es

-- whether a number is there
abbrev pub is_there : Entries → ℕ → Bool
is_there es n = is_some (entry_at es n)

-- the entries but those of some numbers
abbrev pub without : List ℕ → Entries → Entries
without gone es = filter (λ e. not (list_any (λ n. n == e.number) gone)) es

-- the entries with some more, each in its place by numbers and over an earlier one of its number
abbrev pub with_all : Entries → Entries → Entries
with_all [] es = es
with_all (c ∷ cs) es = placed nat_cmp number_of c (with_all cs es)

-- The entries after a delta; none where its numbers do not ascend, or one that is gone is not there
abbrev pub applied : Entries → List ℕ → Entries → Option Entries
applied es gone changed = if rises nat_cmp gone && ascend changed && list_all (is_there es) gone then Some (with_all changed (without gone es)) else None

-- how deep a chain may get: the most deltas above a whole record; our format's limit
abbrev pub deepest : ℕ
deepest = 15

-- the entries after one more record, which is to be a delta of this depth
abbrev pub after_record : ℕ → Entries → RosterRecord → Option Entries
after_record depth es (Whole all) = None
after_record depth es (Delta base d gone changed) =
    if (d == depth) && not (nat_lt deepest depth) then applied es gone changed else None

-- the entries after records of depths from this one on
abbrev pub after_all : ℕ → Entries → List RosterRecord → Option Entries
after_all depth es [] = Some es
after_all depth es (r ∷ rs) = option_and_then (λ fs. after_all (depth + 1) fs rs) (after_record depth es r)

-- The entries at the end of a chain; none where it is no whole record with deltas behind it, where the depths do not follow,
-- where numbers do not ascend, or where one that is gone is not there
abbrev pub rebuilt : List RosterRecord → Option Entries
rebuilt [] = None
rebuilt (Whole es ∷ rs) = if ascend es then after_all 1 es rs else None
rebuilt (Delta base depth gone changed ∷ rs) = None
