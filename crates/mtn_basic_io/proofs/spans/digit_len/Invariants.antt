use Rattle.std.proofs.Common.{◌≡◌, ◌+◌, ◌-◌, length, drop}
use Rattle.std.specs.List.{prefix_len}
use Rattle.mtn_base.specs.Hex.{is_lower_digit}
use Rattle.mtn_basic_io.proofs.spans.digit_len.Given as goal

abbrev pub invariant-loop-len : goal.invariant-loop-len
invariant-loop-len l = l.len + prefix_len is_lower_digit (drop l.len l.text) ≡ prefix_len is_lower_digit l.text

abbrev pub decreases-loop-len : goal.decreases-loop-len
decreases-loop-len l = length l.text - l.len
