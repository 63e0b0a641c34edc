-- One list more each time.
use Rattle.std.proofs.Common.{◌≡◌, ◌<◌, ◌∙◌, length, take, get_or, ◌+◌, sym, ap, subst}
use Rattle.std.specs.Borrow.{Bor}
use Rattle.std.proofs.lemmas.List.{length-map, get_or-map}
use Rattle.mtn_roster_deltas.specs.Chain.{Entries}
use Rattle.mtn_roster_deltas.specs.Numbering.{all_of, shown}
use Rattle.mtn_roster_deltas.specs.Noting.{AreNoted}
use Rattle.mtn_roster_deltas.proofs.Places.{marked_names, notes_list, back_is}
use Rattle.mtn_roster_deltas.proofs.noting.known_numbers.Goals as goal

pub loop-list-preserved : goal.loop-list-preserved
loop-list-preserved c =
    let known = c.args.known.now in
    let i = c.loop-list.list-index in
    let list = c.list-item.result in
    let here : list.now ≡ get_or (shown known) i list.now = ap (λ (b : Bor Entries). b.now) c.list-item.is ∙ sym (get_or-map (λ (b : Bor Entries). b.now) known i list list.now c.loop-list-test.true) in
    let back = back_is c.note.new.numbers c.loop-list.numbers.items c.loop-list.numbers.len (c.note.auto.numbers ∙ c.deref_mut.ensures.len) in (
      ap length back ∙ c.note.auto.numbers ∙ ap length c.deref_mut.ensures.value ∙ c.loop-list.invariant.0,
      λ one. subst (AreNoted (all_of (take (i + 1) (shown known))) (marked_names c.args.marks.now)) (sym back)
          (notes_list (marked_names c.args.marks.now) (shown known) c.loop-list.numbers.items c.note.new.numbers i list.now c.as_slice.result.now
          (subst (λ n. i < n) (sym (length-map known (λ (b : Bor Entries). b.now))) c.loop-list-test.true) here
          (c.as_slice.ensures ∙ ap (λ (b : Bor Entries). b.now) c.list.view_is) one (c.loop-list.invariant.1 one)
          (λ seen noted apart. c.note.ensures seen (subst (AreNoted seen (marked_names c.args.marks.now)) (sym c.deref_mut.ensures.value) noted) apart)),
    )
