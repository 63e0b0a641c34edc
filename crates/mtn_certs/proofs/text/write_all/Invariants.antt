use Rattle.std.proofs.Common.{◌≡◌, ◌++◌, map, take}
use Rattle.std.specs.Option.{option_copied}
use Rattle.std.specs.BTreeMap.{get}
use Rattle.mtn_base.specs.Ids.{by_id}
use Rattle.mtn_basic_io.specs.Spelling.{spelling}
use Rattle.mtn_certs.specs.Listing.{stanzas_of}
use Rattle.mtn_certs.proofs.text.write_all.Given as goal

abbrev pub invariant-loop-i : goal.invariant-loop-i
invariant-loop-i l = l.out.items ≡ l.fn.out.items ++ spelling (take l.i (stanzas_of (λ id. option_copied (get by_id l.names id)) (map (λ b. b.now) l.certs)))
