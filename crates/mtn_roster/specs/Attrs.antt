-- The attributes of a node.
use Rattle.std.specs.Prelude.{Bool, List, map}
use Rattle.mtn_base.specs.Names.{bytes_cmp}
use Rattle.mtn_roster.specs.declared.entry.Attr.{Attr}
use Rattle.mtn_base.specs.Lists.{rises}

-- the keys ascend
abbrev pub are_keyed : List Attr → Bool
are_keyed attrs = rises bytes_cmp (map (λ (a : Attr). a.key) attrs)
