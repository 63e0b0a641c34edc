use Rattle.std.proofs.Common.{sym, subst}
use Rattle.mtn_history_laws.specs.Scalars.Scalar.{AttrOf}
use Rattle.mtn_history_laws.specs.Scalars.Value.{AttrValue}
use Rattle.mtn_marking.specs.Marking.{side_of}
use Rattle.mtn_marking.specs.Parts.{seen, TellsSide}
use Rattle.mtn_marking.proofs.known.have_attr.Goals as goal

pub returns-in-Some : goal.returns-in-Some
returns-in-Some c n =
    subst (λ z. TellsSide (AttrValue c.args.attr.now.value) (side_of (AttrOf n c.args.attr.now.key) (seen z)) c.attr_of_node.result) (sym c.in-Some.is) (c.attr_of_node.ensures n)
