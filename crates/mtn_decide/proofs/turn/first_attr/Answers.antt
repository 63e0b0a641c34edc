use Rattle.std.proofs.Common.{◌≡◌, refl, sym, ◌∙◌}
use Rattle.std.specs.declared.cmp.Ordering.TheVariants.{Equal, Greater}
use Rattle.mtn_base.specs.Names.{bytes_cmp}
use Rattle.mtn_base.proofs.Orders.{bytes_total, exact_bytes}
use Rattle.mtn_decide.proofs.Turning.{turned}
use Rattle.mtn_decide.proofs.turn.first_attr.Goals as goal

pub returns-in-Equal : goal.returns-in-Equal
returns-in-Equal c =
    let e : bytes_cmp c.args.left.attr.now.key c.args.right.attr.now.key ≡ Equal = (λ i. bytes_cmp (sym c.as_slice.ensures i) (sym c.as_slice-2.ensures i)) ∙ sym c.cmp.ensures ∙ c.in-Equal.is in
    (refl, refl, exact_bytes c.args.left.attr.now.key c.args.right.attr.now.key e)

pub returns-in-Greater : goal.returns-in-Greater
returns-in-Greater c =
    let e : bytes_cmp c.args.left.attr.now.key c.args.right.attr.now.key ≡ Greater = (λ i. bytes_cmp (sym c.as_slice.ensures i) (sym c.as_slice-2.ensures i)) ∙ sym c.cmp.ensures ∙ c.in-Greater.is in
    (refl, turned bytes_cmp bytes_total c.args.left.attr.now.key c.args.right.attr.now.key e)
