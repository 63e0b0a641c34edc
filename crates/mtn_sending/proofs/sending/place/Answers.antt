use Rattle.std.specs.Prelude.{IfSome}
use Rattle.std.proofs.Common.{◌≡◌, Some, subst}
use Rattle.mtn_ancestry.specs.Log.{id_at}
use Rattle.mtn_sending.proofs.Placed.{id_within, is_found}
use Rattle.mtn_sending.proofs.sending.place.Goals as goal

pub unwrap-requires : goal.unwrap-requires
unwrap-requires c = is_found c.args.graph.now c.args.id c.find.result c.find.ensures.all c.requires

pub returns : goal.returns
returns c = id_within c.args.graph.now c.args.id c.unwrap.result (subst (λ o. IfSome o (λ at. id_at c.args.graph.now at ≡ Some c.args.id)) c.unwrap.ensures c.find.ensures.found)
