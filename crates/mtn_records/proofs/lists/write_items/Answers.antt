-- Item by item; what a failed item kept is the front of what was there.
use Rattle.std.specs.List.{flat_map}
use Rattle.std.specs.Prelude.{OnErr}
use Rattle.std.proofs.Common.{◌∙◌, ap, sym, ◌++◌, take, Result, Ok, Err}
use Rattle.std.proofs.lemmas.List.{append-nil, take_all}
use Rattle.mtn_records.proofs.Reading.{front_kept}
use Rattle.mtn_records.proofs.Turns.{item_behind, item_formed}
use Rattle.mtn_records.proofs.lists.write_items.Goals as goal

at_err : {T E Q : Type 0} (r : Result T E) → Q → OnErr r Q
at_err (Ok x) q = tt
at_err (Err e) q = q

pub write-requires : goal.write-requires
write-requires g c = item_formed c.args.items.now c.loop-item.item-index c.item-item.result c.loop-item-test.true c.item-item.is g.T.Field.form c.requires

pub returns-in_err-write-clause-err : goal.returns-in_err-write-clause-err
returns-in_err-write-clause-err g c =
    at_err c.from_residual.result
    (front_kept c.args.out.now.items (flat_map g.T.Field.text (take c.loop-item.item-index c.args.items.now)) c.loop-item.out.items c.write.new.out.items c.loop-item.invariant c.in_err-write.ensures.err)

pub loop-item-init : goal.loop-item-init
loop-item-init g c = sym (append-nil c.args.out.now.items)

pub loop-item-preserved : goal.loop-item-preserved
loop-item-preserved g c =
    item_behind c.args.items.now c.loop-item.item-index c.item-item.result c.loop-item-test.true c.item-item.is g.T.Field.text c.args.out.now.items c.loop-item.out.items c.write.new.out.items c.loop-item.invariant c.in_ok-write.ensures.ok

pub returns-clause-ok : goal.returns-clause-ok
returns-clause-ok g c = c.loop-item.invariant ∙ ap (λ l. c.args.out.now.items ++ flat_map g.T.Field.text l) (take_all c.loop-item.item-index c.args.items.now c.loop-item-test.false)
