-- Its components' lengths tell that of its text.
use Rattle.std.proofs.Common.{◌≡◌, sym, ap, subst, ℕ, ◌+◌, ◌<◌, ◌≤◌, List, length, take, arith}
use Rattle.std.proofs.lemmas.List.Elements.{at_read, AllWithin-more, AllWithin-upto, All-from_all_within}
use Rattle.std.proofs.lemmas.List.{take_all}
use Rattle.mtn_base.specs.Comps.{IsComp}
use Rattle.mtn_base.specs.Paths.{path_text}
use Rattle.mtn_records.specs.Entries.{IsPath}
use Rattle.mtn_records.proofs.Lengths.{slashed, slashed_more, is_short, is_long, are_comps}
use Rattle.mtn_records.proofs.forms.is_path.Goals as goal

pub returns-then-length-gt-TOO_LONG : goal.returns-then-length-gt-TOO_LONG
returns-then-length-gt-TOO_LONG c =
    let e : length c.bytes.result.now ≡ length c.comp-item.result = ap length c.bytes.ensures.value in
    let more = slashed_more c.comps-comps.result.now c.loop-comp.comp-index c.comp-item.result c.loop-comp-test.true c.comp-item.is in
    let far : 4294967296 < slashed (take (c.loop-comp.comp-index + 1) c.comps-comps.result.now) = omega (arith, c.loop-comp.invariant.length, c.if-length-gt-TOO_LONG.true, e, more) in (
      λ is. absurd cc,
      λ path. absurd (is_long 4294967296 (c.loop-comp.comp-index + 1) c.comps-comps.result.now far (subst (λ (p : List (List ℕ)). length (path_text p) < 4294967296) (sym c.comps-comps.ensures) path.1)),
    )

pub loop-comp-preserved : goal.loop-comp-preserved
loop-comp-preserved c =
    let e : length c.bytes.result.now ≡ length c.comp-item.result = ap length c.bytes.ensures.value in
    let more = slashed_more c.comps-comps.result.now c.loop-comp.comp-index c.comp-item.result c.loop-comp-test.true c.comp-item.is in
    record {
      length = omega (arith, c.loop-comp.invariant.length, e, more);
      low = c.if-length-gt-TOO_LONG.false;
      lawful = AllWithin-more IsComp c.comps-comps.result.now 0 c.loop-comp.comp-index c.loop-comp.invariant.lawful (at_read c.comps-comps.result.now IsComp c.loop-comp.comp-index c.comp-item.result c.loop-comp-test.true c.comp-item.is c.bytes.ensures.lawful);
    }

pub returns : goal.returns
returns c =
    let xs = c.comps-comps.result.now in
    let all = All-from_all_within IsComp xs (AllWithin-upto IsComp xs 0 c.loop-comp.comp-index (length xs) c.loop-comp-test.false c.loop-comp.invariant.lawful) in
    let whole : slashed xs ≤ 4294967296 = omega (arith, c.loop-comp.invariant.length, c.loop-comp.invariant.low, ap slashed (take_all c.loop-comp.comp-index xs c.loop-comp-test.false)) in (
      λ is. subst IsPath c.comps-comps.ensures (are_comps xs all, is_short 4294967296 xs (omega arith) whole),
      λ path. cc,
    )
