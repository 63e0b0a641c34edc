use Rattle.std.proofs.Common.{◌≡◌, ◌∙◌, ◌++◌, ◌∷◌, [], ℕ, List, ◌+◌, ◌-◌, min, length, take, drop, ap, sym, arith}
use Rattle.std.proofs.lemmas.List.{length-drop, drop-drop}
use Rattle.base64.specs.Engines.{standard}
use Rattle.base64.specs.GeneralPurpose.{encode_of}
use Rattle.mtn_packets.proofs.Kept.{front_trans}
use Rattle.mtn_packets.proofs.Lines.{more_lines, first_line, another_line, last_line}
use Rattle.mtn_packets.proofs.writing.put_value.Goals as goal

pub loop-at-init : goal.loop-at-init
loop-at-init c = record {
  within = omega arith;
  written = first_line c.args.bytes.now c.args.out.now.items c.put_piece.new.out.items c.min-at.result c.min-at.ensures c.in_ok-put_piece.ensures.ok;
  kept = c.in_ok-put_piece.ensures.kept;
}

pub loop-at-preserved : goal.loop-at-preserved
loop-at-preserved c =
    let bytes = c.args.bytes.now in
    let at = c.loop-at.at in
    let rest : List ℕ = drop at bytes in
    let len : length rest ≡ length bytes - at = length-drop at bytes in
    let cut : c.min-len.result ≡ min (length rest) 54 = c.min-len.ensures ∙ ap (λ (n : ℕ). min n 54) (sym len) in
    let back : at + c.min-len.result - at ≡ c.min-len.result = omega arith in
    let piece : c.put_piece-in-loop-at.new.out.items ≡ (c.loop-at.out.items ++ 10 ∷ []) ++ encode_of standard (take c.min-len.result rest) =
    c.in_ok-put_piece-2.ensures.ok ∙ ap (λ (n : ℕ). c.put_all.new.out.items ++ encode_of standard (take n rest)) back
    ∙ ap (λ (t : List ℕ). t ++ encode_of standard (take c.min-len.result rest)) (c.in_ok-put_all.ensures.ok ∙ ap (λ (t : List ℕ). c.loop-at.out.items ++ t) c.as_slice.ensures) in
    record {
      within = omega arith;
      written = ap (λ (t : List ℕ). c.put_piece-in-loop-at.new.out.items ++ more_lines t) (sym (drop-drop c.min-len.result at bytes))
          ∙ another_line rest c.loop-at.out.items c.put_piece-in-loop-at.new.out.items _ c.min-len.result (omega arith) cut c.loop-at.invariant.written piece;
      kept = front_trans c.loop-at.invariant.kept (front_trans c.in_ok-put_all.ensures.kept c.in_ok-put_piece-2.ensures.kept);
    }

pub returns-clause-ok : goal.returns-clause-ok
returns-clause-ok c = last_line (drop c.loop-at.at c.args.bytes.now) c.loop-at.out.items _ (omega (arith, length-drop c.loop-at.at c.args.bytes.now, c.loop-at-test.false)) c.loop-at.invariant.written
