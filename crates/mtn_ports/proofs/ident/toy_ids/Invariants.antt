use Rattle.std.proofs.Common.{◌≡◌, map, take}
use Rattle.mtn_base.specs.Hex.{id_of}
use Rattle.mtn_ports.specs.Ident.{toy}
use Rattle.mtn_ports.proofs.ident.toy_ids.Given as goal

abbrev pub invariant-loop-text : goal.invariant-loop-text
invariant-loop-text l = l.ids.items ≡ map (λ text. id_of (toy text)) (take l.text-index l.texts)
