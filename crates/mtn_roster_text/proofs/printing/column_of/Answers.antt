-- By the kind of the node, and whether an attribute is cleared.
use Rattle.std.proofs.Common.{◌≡◌, true, false, cond, sym, ◌∙◌, ap}
use Rattle.mtn_roster_text.proofs.Columns.{any_cleared, wide, column_is}
use Rattle.mtn_roster_text.proofs.printing.column_of.Goals as goal

pub returns-in-File-clause-column : goal.returns-in-File-clause-column
returns-in-File-clause-column c = λ ids path.
    let e = c.args.entry.now in
    ap (wide (any_cleared e.attrs)) (sym c.in-File.is) ∙ column_is ids path e

pub returns-then-has_cleared-clause-column : goal.returns-then-has_cleared-clause-column
returns-then-has_cleared-clause-column c = λ ids path.
    let e = c.args.entry.now in
    let cleared : any_cleared e.attrs ≡ true = ap any_cleared (sym c.as_slice.ensures) ∙ sym c.has_cleared.ensures ∙ c.if-has_cleared.true in
    ap (λ b. cond b 12 9) (sym cleared) ∙ ap (wide (any_cleared e.attrs)) (sym c.in-Dir.is) ∙ column_is ids path e

pub returns-else-has_cleared-clause-column : goal.returns-else-has_cleared-clause-column
returns-else-has_cleared-clause-column c = λ ids path.
    let e = c.args.entry.now in
    let live : any_cleared e.attrs ≡ false = ap any_cleared (sym c.as_slice.ensures) ∙ sym c.has_cleared.ensures ∙ c.if-has_cleared.false in
    ap (λ b. cond b 12 9) (sym live) ∙ ap (wide (any_cleared e.attrs)) (sym c.in-Dir.is) ∙ column_is ids path e
