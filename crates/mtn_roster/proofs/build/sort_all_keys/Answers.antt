-- Entry by entry.
use Rattle.std.proofs.Common.{◌≡◌, ℕ, List, length, get_or, refl, sym, ◌∙◌, ap, subst, arith}
use Rattle.mtn_roster.specs.declared.entry.Entry.{Entry}
use Rattle.mtn_roster.specs.Building.{KeysDiffer, with_keys_in_order}
use Rattle.mtn_roster.proofs.KeysInOrder.{begun, begun-all, begun-at, begun-next, AllBegun, AllBegun-next, AllBegun-all, each_of_all}
use Rattle.mtn_roster.proofs.build.sort_all_keys.Goals as goal

-- the entry at the place is the one that was handed in
here : (now es : List Entry) (i : ℕ) (e : Entry) → now ≡ begun with_keys_in_order i es → e ≡ get_or now i e → e ≡ get_or es i e
here now es i e is at = at ∙ ap (λ l. get_or l i e) is ∙ begun-at with_keys_in_order i es e

pub returns-then-not-sort_keys-clause-apart : goal.returns-then-not-sort_keys-clause-apart
returns-then-not-sort_keys-clause-apart c =
    let e : Entry = c.entry-item.result in
    let i = c.loop-entry.entry-index in (
      λ e. absurd cc,
      λ all. c.if-not-sort_keys.ensures.apart.1
          (subst KeysDiffer (ap (λ l. get_or l i e) (sym c.loop-entry.invariant.0)) (subst KeysDiffer (sym (begun-at with_keys_in_order i c.args.entries.now e)) (each_of_all KeysDiffer c.args.entries.now i e all c.loop-entry-test.true))),
    )

pub loop-entry-preserved : goal.loop-entry-preserved
loop-entry-preserved c =
    let e : Entry = c.entry-item.result in
    let i = c.loop-entry.entry-index in (
      begun-next with_keys_in_order i c.args.entries.now c.loop-entry.entries e c.sort_keys.new.entry c.loop-entry.invariant.0 c.loop-entry-test.true
          (c.if-not-sort_keys.ensures.order refl),
      AllBegun-next KeysDiffer i c.args.entries.now e c.loop-entry.invariant.1
          (subst KeysDiffer (ap (λ l. get_or l i e) c.loop-entry.invariant.0 ∙ begun-at with_keys_in_order i c.args.entries.now e) (c.if-not-sort_keys.ensures.apart.0 refl)) c.loop-entry-test.true,
    )

done : (i n : ℕ) → i ≡ n → (es now : List Entry) → n ≡ length es → now ≡ begun with_keys_in_order i es → AllBegun KeysDiffer i es →
    (now ≡ begun with_keys_in_order (length es) es) × AllBegun KeysDiffer (length es) es
done i n e es now m is all = (is ∙ ap (λ k. begun with_keys_in_order k es) (e ∙ m), subst (λ k. AllBegun KeysDiffer k es) (e ∙ m) all)

pub returns-clause-apart : goal.returns-clause-apart
returns-clause-apart c =
    let all = (done c.loop-entry.entry-index (length c.args.entries.now) (omega arith) c.args.entries.now c.loop-entry.entries refl c.loop-entry.invariant.0 c.loop-entry.invariant.1).1 in
    (λ _. AllBegun-all KeysDiffer c.args.entries.now all, λ _. refl)

pub returns-clause-order : goal.returns-clause-order
returns-clause-order c =
    let is = (done c.loop-entry.entry-index (length c.args.entries.now) (omega arith) c.args.entries.now c.loop-entry.entries refl c.loop-entry.invariant.0 c.loop-entry.invariant.1).0 in
    λ _. is ∙ begun-all with_keys_in_order c.args.entries.now
