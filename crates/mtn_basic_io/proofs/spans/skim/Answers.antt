use Rattle.std.proofs.Common.{◌≡◌, ◌-◌, length, take, sym, ap, ◌∙◌}
use Rattle.std.specs.List.{prefix_len}
use Rattle.std.proofs.lemmas.List.{length-take-le}
use Rattle.mtn_base.specs.Hex.{is_lower_digit}
use Rattle.mtn_basic_io.proofs.AtOnce.{front_len, quoted_skims, digits_skims, none_skims}
use Rattle.mtn_basic_io.proofs.spans.skim.Goals as goal

pub slice_bounds-extended-end-in-Digits : goal.slice_bounds-extended-end-in-Digits
slice_bounds-extended-end-in-Digits c =
    let rest = c.args.rest.now in
    let most = c.saturating_sub-most.result in
    let len : c.digit_len-len.result ≡ prefix_len is_lower_digit (take most rest) = c.digit_len-len.ensures ∙ ap (prefix_len is_lower_digit) c.front.ensures in
    sym (length-take-le c.digit_len-len.result rest (front_len is_lower_digit most rest c.digit_len-len.result len).within)

pub returns-in_ok-extended-in-Quoted : goal.returns-in_ok-extended-in-Quoted
returns-in_ok-extended-in-Quoted c =
    rw (c.in-Quoted.is, c.in_ok-extended-in-Quoted.ensures) (quoted_skims c.args.done.now c.in-Quoted.head c.in-Quoted.body c.args.rest.now c.plain_len-len.result c.plain_len-len.ensures)

pub returns-in_ok-extended-in-Digits : goal.returns-in_ok-extended-in-Digits
returns-in_ok-extended-in-Digits c =
    let rest = c.args.rest.now in
    let most = c.saturating_sub-most.result in
    let room : most ≡ 40 - length c.in-Digits.digits = rw c.as_slice.ensures at c.saturating_sub-most.ensures in
    let len : c.digit_len-len.result ≡ prefix_len is_lower_digit (take most rest) = c.digit_len-len.ensures ∙ ap (prefix_len is_lower_digit) c.front.ensures in
    rw (c.in-Digits.is, c.in_ok-extended-in-Digits.ensures) (digits_skims c.args.done.now c.in-Digits.head c.in-Digits.digits rest most c.digit_len-len.result room len)

pub returns-in_default : goal.returns-in_default
returns-in_default c = none_skims c.args.done.now c.args.phase c.args.rest.now
