use Rattle.std.proofs.Common.{◌≡◌, false, true, get_or, sym, ◌∙◌, arith, zero-add}
use Rattle.std.proofs.lemmas.List.Sums.{prefix_len-drop_yes, prefix_len-drop_no, prefix_len-drop_all}
use Rattle.mtn_basic_io.specs.Spelling.{is_symbol_byte}
use Rattle.mtn_basic_io.proofs.spans.symbol_len.Goals as goal

pub loop-len-init : goal.loop-len-init
loop-len-init c = zero-add _

pub loop-len-preserved : goal.loop-len-preserved
loop-len-preserved c =
    let text = c.args.text.now in
    let passes : is_symbol_byte (get_or text c.loop-len.len 0) ≡ true = sym c.is_symbol_byte.ensures ∙ c.if-is_symbol_byte.true in
    omega (arith, prefix_len-drop_yes is_symbol_byte text c.loop-len.len 0 c.loop-len-test.true passes, c.loop-len.invariant)

pub returns-else-is_symbol_byte : goal.returns-else-is_symbol_byte
returns-else-is_symbol_byte c =
    let text = c.args.text.now in
    let stops : is_symbol_byte (get_or text c.loop-len.len 0) ≡ false = sym c.is_symbol_byte.ensures ∙ c.if-is_symbol_byte.false in
    omega (arith, prefix_len-drop_no is_symbol_byte text c.loop-len.len 0 c.loop-len-test.true stops, c.loop-len.invariant)

pub returns-after-loop-len : goal.returns-after-loop-len
returns-after-loop-len c =
    omega (arith, prefix_len-drop_all is_symbol_byte c.args.text.now c.loop-len.len c.loop-len-test.false, c.loop-len.invariant)
