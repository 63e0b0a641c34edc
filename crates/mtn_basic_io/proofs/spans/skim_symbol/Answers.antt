use Rattle.std.proofs.Common.{◌≡◌, ◌+◌, length, take, sym, ap, ◌∙◌}
use Rattle.std.specs.List.{prefix_len}
use Rattle.std.proofs.lemmas.List.{length-take-le}
use Rattle.mtn_basic_io.specs.Spelling.{is_symbol_byte}
use Rattle.mtn_basic_io.specs.Steps.{room_left}
use Rattle.mtn_basic_io.proofs.AtOnce.{front_len, symbol_skims}
use Rattle.mtn_basic_io.proofs.spans.skim_symbol.Goals as goal

pub slice_bounds-extended-end : goal.slice_bounds-extended-end
slice_bounds-extended-end c =
    let rest = c.args.rest.now in
    let len : c.symbol_len-len.result ≡ prefix_len is_symbol_byte (take c.room_left.result rest) = c.symbol_len-len.ensures ∙ ap (prefix_len is_symbol_byte) c.front.ensures in
    sym (length-take-le c.symbol_len-len.result rest (front_len is_symbol_byte c.room_left.result rest c.symbol_len-len.result len).within)

pub returns : goal.returns
returns c =
    let rest = c.args.rest.now in
    let len : c.symbol_len-len.result ≡ prefix_len is_symbol_byte (take c.room_left.result rest) = c.symbol_len-len.ensures ∙ ap (prefix_len is_symbol_byte) c.front.ensures in
    let room : c.room_left.result ≡ room_left c.args.done.now.column (c.args.spaces + length c.args.symbol) (length rest) = rw c.as_slice.ensures at c.room_left.ensures in
    rw c.in_ok-extended.ensures (symbol_skims c.args.done.now c.args.spaces c.args.symbol rest c.room_left.result c.symbol_len-len.result room len)
