-- Parents stand as their places do.
use Rattle.std.proofs.Common.{ℕ, sym, ◌∙◌, ap, arith}
use Rattle.std.proofs.lemmas.Bool.Decides.{nat_tests}
use Rattle.std.specs.Ordering.{ordering_then}
use Rattle.mtn_base.specs.Names.{bytes_cmp}
use Rattle.mtn_roster.specs.Walk.{component}
use Rattle.mtn_roster.specs.Index.{slot_in}
use Rattle.mtn_roster.proofs.Near.{decided}
use Rattle.mtn_roster.proofs.index.compare_places.Goals as goal

pub returns-in-Less : goal.returns-in-Less
returns-in-Less c = λ are rising.
    let t = c.args.entries.now in
    let x : ℕ = c.args.first in
    let y : ℕ = c.args.second in
    let s = decided t rising c.args.ups.now are x y c.up_at-above_first.result c.up_at-above_second.result c.cmp.result c.up_at-above_first.ensures c.up_at-above_second.ensures
    (λ e. grind (arith, nat_tests, e, c.if-above_first-first.false)) (λ e. grind (arith, nat_tests, e, c.if-above_second-second.false)) c.cmp.ensures in
    sym (s ∙ ap (λ o. ordering_then o (bytes_cmp (component (slot_in t x)) (component (slot_in t y)))) c.in-Less.is)

pub returns-in-Equal : goal.returns-in-Equal
returns-in-Equal c = λ are rising.
    let t = c.args.entries.now in
    let x : ℕ = c.args.first in
    let y : ℕ = c.args.second in
    let s = decided t rising c.args.ups.now are x y c.up_at-above_first.result c.up_at-above_second.result c.cmp.result c.up_at-above_first.ensures c.up_at-above_second.ensures
    (λ e. grind (arith, nat_tests, e, c.if-above_first-first.false)) (λ e. grind (arith, nat_tests, e, c.if-above_second-second.false)) c.cmp.ensures in
    (c.cmp-in-Equal.ensures ∙ ap (λ l. bytes_cmp l c.component_at-in-Equal.result.now) c.component_at.ensures ∙ ap (bytes_cmp (component (slot_in t x))) c.component_at-in-Equal.ensures)
    ∙ sym (s ∙ ap (λ o. ordering_then o (bytes_cmp (component (slot_in t x)) (component (slot_in t y)))) c.in-Equal.is)

pub returns-in-Greater : goal.returns-in-Greater
returns-in-Greater c = λ are rising.
    let t = c.args.entries.now in
    let x : ℕ = c.args.first in
    let y : ℕ = c.args.second in
    let s = decided t rising c.args.ups.now are x y c.up_at-above_first.result c.up_at-above_second.result c.cmp.result c.up_at-above_first.ensures c.up_at-above_second.ensures
    (λ e. grind (arith, nat_tests, e, c.if-above_first-first.false)) (λ e. grind (arith, nat_tests, e, c.if-above_second-second.false)) c.cmp.ensures in
    sym (s ∙ ap (λ o. ordering_then o (bytes_cmp (component (slot_in t x)) (component (slot_in t y)))) c.in-Greater.is)
