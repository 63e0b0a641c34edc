use Rattle.std.proofs.Common.{Contains, take}
use Rattle.mtn_base.proofs.Finding.{Split}
use Rattle.mtn_roster.specs.declared.entry.Entry.{Entry}
use Rattle.mtn_merge.specs.Births.{number_in, Keeps}
use Rattle.mtn_merge.proofs.births.push_births.Given as goal

abbrev pub invariant-loop-place : goal.invariant-loop-place
invariant-loop-place l = record {
  has : (e : Entry) → Split (take l.place l.tree) e → Contains l.numbers.items (number_in e.name.birth);
  keeps : Keeps l.fn.numbers.items l.numbers.items;
}
