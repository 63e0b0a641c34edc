-- Place by place.
use Rattle.std.specs.Prelude.{slice_get}
use Rattle.std.proofs.Common.{◌≡◌, ◌∙◌, Bor, Some, refl, sym, subst, ap, arith}
use Rattle.std.proofs.Math.Decide.{ℕ_discrete}
use Rattle.mtn_records.specs.declared.entry.NumberedEntry.{NumberedEntry}
use Rattle.mtn_roster.specs.declared.entry.Entry.{Entry}
use Rattle.mtn_roster_deltas.specs.Spelled.{IsEntryOf}
use Rattle.mtn_roster_deltas.proofs.Zipping.{at_place, got_there, place_within, zip_get, zip_long, zip_places}
use Rattle.mtn_roster_deltas.proofs.on_tree.are_of.Goals as goal

pub returns-then-sorted-len-clause-told : goal.returns-then-sorted-len-clause-told
returns-then-sorted-len-clause-told c = (
  λ t. absurd cc,
  λ z. absurd (c.if-sorted-len.true (zip_long (λ (b : Bor NumberedEntry) (n : Entry). IsEntryOf c.args.entries.now b.now n) c.args.sorted.now c.args.roster.now z ∙ sym c.len.ensures.count)),
)

pub returns-then-not-is_at-clause-told : goal.returns-then-not-is_at-clause-told
returns-then-not-is_at-clause-told c = (
  λ t. absurd cc,
  λ z.
      let there = got_there c.args.sorted.now c.loop-place.place c.index-sorted-place.result c.loop-place-test.true c.index-sorted-place.is in
      let long = zip_long (λ (b : Bor NumberedEntry) (n : Entry). IsEntryOf c.args.entries.now b.now n) c.args.sorted.now c.args.roster.now z in
      let node = at_place c.args.roster.now c.loop-place.place (omega (arith, c.loop-place-test.true, long)) in
      let told = c.is_at.ensures.other node.0 node.1 (zip_get (λ (b : Bor NumberedEntry) (n : Entry). IsEntryOf c.args.entries.now b.now n) c.args.sorted.now c.args.roster.now c.loop-place.place c.index-sorted-place.result node.0 z there node.1) in
      let other = c.if-not-is_at.true in
      absurd cc,
)

pub loop-place-preserved : goal.loop-place-preserved
loop-place-preserved c k b n lt eb en =
    let there = got_there c.args.sorted.now c.loop-place.place c.index-sorted-place.result c.loop-place-test.true c.index-sorted-place.is in
    let at = c.is_at.ensures.there c.if-not-is_at.false in
    elim (ℕ_discrete k c.loop-place.place) [
      | yes e ↦
          let item : Some c.index-sorted-place.result ≡ Some b = sym there ∙ ap (slice_get c.args.sorted.now) (sym e) ∙ eb in
          let one : c.index-sorted-place.result ≡ b = cc in
          let found : Some at.0 ≡ Some n = sym at.1 ∙ ap (slice_get c.args.roster.now) (sym e) ∙ en in
          let node : at.0 ≡ n = cc in
          subst (λ (x : Bor NumberedEntry). IsEntryOf c.args.entries.now x.now n) one (subst (IsEntryOf c.args.entries.now c.index-sorted-place.result.now) node at.2)
      | no other ↦ c.loop-place.invariant k b n (omega (arith, lt, other)) eb en
    ]

pub returns-clause-told : goal.returns-clause-told
returns-clause-told c = (
  λ t. zip_places (λ (b : Bor NumberedEntry) (n : Entry). IsEntryOf c.args.entries.now b.now n) c.args.sorted.now c.args.roster.now (c.if-sorted-len.false ∙ c.len.ensures.count)
      (λ k b n eb en. c.loop-place.invariant k b n (let in_list = place_within c.args.sorted.now k b eb in omega (arith, in_list, c.loop-place-test.false)) eb en),
  λ z. refl,
)
