-- One edit more each time.
use Rattle.std.proofs.Common.{◌≡◌, ◌+◌, ◌<◌, ℕ, List, Option, Some, None, length, refl, sym, ◌∙◌, ap, subst}
use Rattle.mtn_roster.specs.declared.entry.Attr.{Attr}
use Rattle.mtn_roster.specs.declared.entry.Entry.{Entry}
use Rattle.mtn_apply.specs.Maps.{of_place}
use Rattle.mtn_apply.specs.Index.{old_of, changes_of}
use Rattle.mtn_apply.specs.Edits.{held, next_edit}
use Rattle.mtn_apply.proofs.Chains.{IsLeft, to_go, left_start, left_more, left_none, none_first, goes_on, linked}
use Rattle.mtn_apply.proofs.edits.edit.Goals as goal
use Rattle.mtn_apply.proofs.edits.edit.Goals.{After-position_at-next}

left : (c : After-position_at-next) → IsLeft (old_of c.args.edge.now) (changes_of c.args.edge.now) c.args.new c.args.entry.now (Some c.in-Some-next.at) (held c.loop-next.draft c.args.entry.now)
left c = subst (λ o. IsLeft (old_of c.args.edge.now) (changes_of c.args.edge.now) c.args.new c.args.entry.now o (held c.loop-next.draft c.args.entry.now)) c.in-Some-next.is c.loop-next.invariant

next_is : (c : After-position_at-next) → c.position_at-next.result ≡ next_edit (old_of c.args.edge.now) (changes_of c.args.edge.now) c.args.new c.args.entry.now.name (c.in-Some-next.at + 1)
next_is c = linked (old_of c.args.edge.now) (changes_of c.args.edge.now) c.args.new c.args.edits.now c.requires.edits c.args.entry.now (held c.loop-next.draft c.args.entry.now) c.in-Some-next.at c.position_at-next.result (left c) (c.position_at-next.ensures ∙ ap (λ (l : List (Option ℕ)). of_place l c.in-Some-next.at) c.deref.ensures.value)

pub loop-next-smaller : goal.loop-next-smaller
loop-next-smaller c =
    let all = changes_of c.args.edge.now in
    subst (λ o. to_go (length all) c.position_at-next.result < to_go (length all) o) (sym c.in-Some-next.is)
    (goes_on (old_of c.args.edge.now) all c.args.new c.args.entry.now (held c.loop-next.draft c.args.entry.now) c.in-Some-next.at c.position_at-next.result (left c) (next_is c))

pub loop-next-preserved : goal.loop-next-preserved
loop-next-preserved c =
    let old = old_of c.args.edge.now in
    let all = changes_of c.args.edge.now in
    let s = left_more old all c.args.new c.args.entry.now (held c.loop-next.draft c.args.entry.now) c.in-Some-next.at (left c) in
    subst (IsLeft old all c.args.new c.args.entry.now c.position_at-next.result) (sym (c.in_ok-edit_by.ensures s.change c.args.entry.now s.is)) (s.on c.position_at-next.result (next_is c))

abbrev with_attrs : Entry → List Attr → Entry
with_attrs e attrs = record e { attrs = attrs }

none_of : (o : Option ℕ) → ((k : ℕ) → o ≡ Some k → ⊥) → o ≡ None
none_of None h = refl
none_of (Some k) h = absurd (h k refl)

pub returns-in_default : goal.returns-in_default
returns-in_default c =
    let e = c.args.entry.now in
    none_first (old_of c.args.edge.now) (changes_of c.args.edge.now) c.args.new e c.requires.rising
    (sym (none_of c.get.result c.in_default.not-Some) ∙ c.get.ensures ∙ c.requires.edits.first e.name)

pub loop-next-init : goal.loop-next-init
loop-next-init c =
    let e = c.args.entry.now in
    let attrs = c.in_ok-by_keys.ensures ∙ c.into_vec-attrs.ensures ∙ c.replace.ensures.value in
    left_start (old_of c.args.edge.now) (changes_of c.args.edge.now) c.args.new e _ (Some c.in-Some.first) (ap (with_attrs e) attrs) c.requires.rising
    (sym c.in-Some.is ∙ c.get.ensures ∙ c.requires.edits.first e.name)

pub returns : goal.returns
returns c =
    let e = c.args.entry.now in
    let over = subst (λ o. IsLeft (old_of c.args.edge.now) (changes_of c.args.edge.now) c.args.new e o (held c.loop-next.draft e)) (none_of c.loop-next.next c.in_default-next.not-Some) c.loop-next.invariant in
    ap (with_attrs (held c.loop-next.draft e)) c.in_ok-entry.ensures ∙ left_none (old_of c.args.edge.now) (changes_of c.args.edge.now) c.args.new e (held c.loop-next.draft e) over
