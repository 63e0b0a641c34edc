-- private, for the proof of `Batch`: what holds of its fields: its index gives the place of the newest record under each key, and each record knows the one that it stands over.
use Rattle.std.specs.Prelude.{◌≡◌, ◌<◌, ◌≤◌, [], length}
use Rattle.std.specs.List.{AllByRecursion}
use Rattle.mtn_ports.specs.declared.batch.Put.{Put}
use Rattle.mtn_ports.specs.declared.batch.Batch.TheInside.{Inside}
use Rattle.mtn_ports.specs.Newest.{IsIndexOf, stood_over}

-- a record that a keeper can hold
pub record IsKeyed (p : Put) : Type 0 where
  pub table : p.table ≤ 255
  pub key : 0 < length p.key

pub record IsIndexed (b : Inside) : Type 0 where
  pub places : IsIndexOf b.index b.puts.items
  pub older : b.older.items ≡ stood_over [] b.puts.items
  pub keyed : AllByRecursion IsKeyed b.puts.items
