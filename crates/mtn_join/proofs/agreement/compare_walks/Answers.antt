-- Pair by pair; the parents of a pair that hangs alike were a pair.
use Rattle.std.specs.Prelude.{option_map}
use Rattle.std.proofs.Common.{◌≡◌, None, sym, ◌∙◌, ap, refl, arith}
use Rattle.mtn_roster.specs.declared.entry.Entry.{Entry}
use Rattle.mtn_roster.specs.Tree.{path_of}
use Rattle.mtn_roster.specs.Walk.{by_path}
use Rattle.mtn_roster.proofs.Forest.{same_some}
use Rattle.mtn_roster.proofs.Leading.{get_within}
use Rattle.mtn_join.specs.Join.{is_outside}
use Rattle.mtn_join.specs.Pairing.{IsPairedAt, pair_why, why_of}
use Rattle.mtn_roster.proofs.Along.{as_long, above_at, unwrapped, held, keyed}
use Rattle.mtn_join.proofs.Alike.{alike, unlike, next_too}
use Rattle.mtn_join.proofs.agreement.compare_walks.Goals as goal

pub returns-then-not-hang_alike : goal.returns-then-not-hang_alike
returns-then-not-hang_alike c =
    let l = c.args.left.now in
    let r = c.args.right.now in
    let i = c.loop-count.count in
    let x : Entry = c.unwrap-x.result.now in
    let y : Entry = c.unwrap-y.result.now in
    let xi = unwrapped c.entry_along.result c.unwrap-x.result _ c.unwrap-x.ensures c.entry_along.ensures in
    let yi = unwrapped c.entry_along-in-loop-count.result c.unwrap-y.result _ c.unwrap-y.ensures c.entry_along-in-loop-count.ensures in
    let ka = above_at l c.args.walk.now c.requires.walk i (record { place = 0; above = 0 }) x (omega (arith, c.loop-count-test.true, c.min-both.ensures)) xi in
    let kb = above_at r c.args.beside.now c.requires.beside i (record { place = 0; above = 0 }) y (omega (arith, c.loop-count-test.true, c.min-both.ensures)) yi in
    record {
      agreed = c.loop-count.invariant;
      end = λ p. unlike l r c.len-nodes.ensures.sane c.len-others.ensures.sane i x y _ _ (λ k lt. (c.loop-count.invariant k lt).0) xi yi x.slot y.slot refl refl ka kb
          (sym c.hang_alike.ensures ∙ c.if-not-hang_alike.true)
          (ap (path_of l) (same_some xi p.left_at) ∙ p.path ∙ ap (path_of r) (same_some p.right_at yi));
    }

pub pair_fault-requires-clause-left : goal.pair_fault-requires-clause-left
pair_fault-requires-clause-left c =
    let l = c.args.left.now in
    let xi = unwrapped c.entry_along.result c.unwrap-x.result _ c.unwrap-x.ensures c.entry_along.ensures in
    keyed l c.len-nodes.ensures.sane c.unwrap-x.result.now (held l c.len-nodes.ensures.sane c.loop-count.count c.unwrap-x.result.now xi)

pub pair_fault-requires-clause-right : goal.pair_fault-requires-clause-right
pair_fault-requires-clause-right c =
    let r = c.args.right.now in
    let yi = unwrapped c.entry_along-in-loop-count.result c.unwrap-y.result _ c.unwrap-y.ensures c.entry_along-in-loop-count.ensures in
    keyed r c.len-others.ensures.sane c.unwrap-y.result.now (held r c.len-others.ensures.sane c.loop-count.count c.unwrap-y.result.now yi)

pub returns-in-Some : goal.returns-in-Some
returns-in-Some c =
    let l = c.args.left.now in
    let r = c.args.right.now in
    let i = c.loop-count.count in
    let x : Entry = c.unwrap-x.result.now in
    let y : Entry = c.unwrap-y.result.now in
    let xi = unwrapped c.entry_along.result c.unwrap-x.result _ c.unwrap-x.ensures c.entry_along.ensures in
    let yi = unwrapped c.entry_along-in-loop-count.result c.unwrap-y.result _ c.unwrap-y.ensures c.entry_along-in-loop-count.ensures in
    let ka = above_at l c.args.walk.now c.requires.walk i (record { place = 0; above = 0 }) x (omega (arith, c.loop-count-test.true, c.min-both.ensures)) xi in
    let kb = above_at r c.args.beside.now c.requires.beside i (record { place = 0; above = 0 }) y (omega (arith, c.loop-count-test.true, c.min-both.ensures)) yi in
    let path = alike l r c.len-nodes.ensures.sane c.len-others.ensures.sane i x y _ _ (λ k lt. (c.loop-count.invariant k lt).0) xi yi x.slot y.slot refl refl ka kb (sym c.hang_alike.ensures ∙ c.if-not-hang_alike.false) in
    record {
      agreed = c.loop-count.invariant;
      end = (record { x = x; y = y; left_at = xi; right_at = yi; path = path }, sym c.pair_fault.ensures ∙ ap (option_map why_of) c.in-Some.is);
    }

pub loop-count-preserved : goal.loop-count-preserved
loop-count-preserved c =
    let l = c.args.left.now in
    let r = c.args.right.now in
    let i = c.loop-count.count in
    let x : Entry = c.unwrap-x.result.now in
    let y : Entry = c.unwrap-y.result.now in
    let xi = unwrapped c.entry_along.result c.unwrap-x.result _ c.unwrap-x.ensures c.entry_along.ensures in
    let yi = unwrapped c.entry_along-in-loop-count.result c.unwrap-y.result _ c.unwrap-y.ensures c.entry_along-in-loop-count.ensures in
    let ka = above_at l c.args.walk.now c.requires.walk i (record { place = 0; above = 0 }) x (omega (arith, c.loop-count-test.true, c.min-both.ensures)) xi in
    let kb = above_at r c.args.beside.now c.requires.beside i (record { place = 0; above = 0 }) y (omega (arith, c.loop-count-test.true, c.min-both.ensures)) yi in
    let path = alike l r c.len-nodes.ensures.sane c.len-others.ensures.sane i x y _ _ (λ k lt. (c.loop-count.invariant k lt).0) xi yi x.slot y.slot refl refl ka kb (sym c.hang_alike.ensures ∙ c.if-not-hang_alike.false) in
    next_too (λ k. (p : IsPairedAt l r k) × (pair_why c.args.births.now.new (is_outside c.args.births.now.only_right.now) (is_outside c.args.births.now.only_left.now) l r p ≡ None)) i c.loop-count.invariant
    (record { x = x; y = y; left_at = xi; right_at = yi; path = path }, sym c.pair_fault.ensures ∙ ap (option_map why_of) c.in_default.is)

pub returns : goal.returns
returns c =
    let l = c.args.left.now in
    let r = c.args.right.now in
    record {
      agreed = λ k lt. c.loop-count.invariant k (omega (arith, lt, c.loop-count-test.false));
      end = λ p. omega (arith, c.min-both.ensures, get_within (by_path l) c.min-both.result p.x p.left_at, get_within (by_path r) c.min-both.result p.y p.right_at, as_long l c.args.walk.now c.requires.walk, as_long r c.args.beside.now c.requires.beside);
    }
