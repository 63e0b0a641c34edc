-- By the kind of the node, and whether an attribute is live.
use Rattle.std.proofs.Common.{◌≡◌, true, false, cond, sym, ◌∙◌, ap}
use Rattle.mtn_manifest.proofs.Columns.{any_live, wide, column_is}
use Rattle.mtn_manifest.proofs.printing.column_of.Goals as goal

pub returns-in-File-clause-column : goal.returns-in-File-clause-column
returns-in-File-clause-column c = λ path.
    let e = c.args.entry.now in
    ap (wide (any_live e.attrs)) (sym c.in-File.is) ∙ column_is path e

pub returns-then-has_live-clause-column : goal.returns-then-has_live-clause-column
returns-then-has_live-clause-column c = λ path.
    let e = c.args.entry.now in
    let live : any_live e.attrs ≡ true = ap any_live (sym c.as_slice.ensures) ∙ sym c.has_live.ensures ∙ c.if-has_live.true in
    ap (λ b. cond b 4 3) (sym live) ∙ ap (wide (any_live e.attrs)) (sym c.in-Dir.is) ∙ column_is path e

pub returns-else-has_live-clause-column : goal.returns-else-has_live-clause-column
returns-else-has_live-clause-column c = λ path.
    let e = c.args.entry.now in
    let cleared : any_live e.attrs ≡ false = ap any_live (sym c.as_slice.ensures) ∙ sym c.has_live.ensures ∙ c.if-has_live.false in
    ap (λ b. cond b 4 3) (sym cleared) ∙ ap (wide (any_live e.attrs)) (sym c.in-Dir.is) ∙ column_is path e
