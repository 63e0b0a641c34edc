use Rattle.std.proofs.Common.{rules, arith, length, refl, ap}
use Rattle.mtn_history.proofs.TextLemmas.{finds_none, never_short, finds_text}
use Rattle.mtn_history.proofs.draft.Draft.text_of.Goals as goal

pub returns-then-not-branch-clause-finds : goal.returns-then-not-branch-clause-finds
returns-then-not-branch-clause-finds g c f d s told draft =
    (refl, finds_none f _ c.args.self.now.pending c.in_ok-get.field-0 c.get.new.out.items c.as_slice-key.result.now c.args.id c.in_ok-get.ensures.found c.as_slice-key.ensures d s told draft c.if-not-branch.true)

pub returns-then-len-lt-POSITION-clause-finds : goal.returns-then-len-lt-POSITION-clause-finds
returns-then-len-lt-POSITION-clause-finds g c f d s told draft =
    absurd (never_short f _ c.args.self.now.pending c.in_ok-get.field-0 c.get.new.out.items c.as_slice-key.result.now c.args.id c.in_ok-get.ensures.found c.as_slice-key.ensures d s told draft c.if-not-branch.false (omega (arith, c.if-len-lt-POSITION.true, c.len-len.ensures, c.deref.ensures.len, ap length c.deref.ensures.value)))

pub returns-clause-finds : goal.returns-clause-finds
returns-clause-finds g c f d s told draft =
    finds_text f _ c.args.self.now.pending c.in_ok-get.field-0 c.get.new.out.items c.as_slice-key.result.now c.args.id c.in_ok-get.ensures.found c.as_slice-key.ensures d s told draft
    c.len-len.result c.copy_within.new.self.items c.truncate.new.self.items c.if-not-branch.false (search rules) (search rules) c.truncate.ensures.items
