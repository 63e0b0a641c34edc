use Rattle.std.proofs.Common.{◌≡◌, map, take}
use Rattle.mtn_base.specs.Hex.{id_of}
use Rattle.sha1.specs.Sha1.{sha1}
use Rattle.mtn_pieces.proofs.hashing.ids_of.Given as goal

abbrev pub invariant-loop-text : goal.invariant-loop-text
invariant-loop-text l = l.ids.items ≡ map (λ text. id_of (sha1 text)) (take l.text-index l.texts)
