-- By the tests.
use Rattle.std.proofs.Common.{◌≡◌, ◌<◌, ℕ, length, Some, sym, ◌∙◌, ap, slice_get, get_or}
use Rattle.std.proofs.lemmas.Bool.{false≢true}
use Rattle.std.proofs.lemmas.Option.{slice_get-get_or, none-some}
use Rattle.mtn_roster.specs.declared.entry.Entry.{Entry}
use Rattle.mtn_roster.specs.Tree.{Tree, root_of, is_dir}
use Rattle.mtn_roster.proofs.Forest.{same_some}
use Rattle.mtn_roster.proofs.Telling.{top_is, sane_by_test, root_by_sane, reach_by_sane}
use Rattle.mtn_roster.proofs.sane.check_shape.Goals as goal

-- what was indexed
held : (t : Tree) (at : ℕ) (e : Entry) → at < length t → e ≡ get_or t at e → slice_get t at ≡ Some e
held t at e low is = slice_get-get_or t at e low ∙ ap Some (sym is)

pub returns-in_default-clause-insane : goal.returns-in_default-clause-insane
returns-in_default-clause-insane c = λ _ s. absurd (none-some s.root.1 (c.in_default.ensures.entry ∙ root_by_sane c.args.entries.now c.requires.rising s))

pub returns-then-not-is_dir-clause-insane : goal.returns-then-not-is_dir-clause-insane
returns-then-not-is_dir-clause-insane c = λ _ s.
    let t = c.args.entries.now in
    let e : Entry = c.index-entries-root.result in
    let i = held t c.in-Some.root e c.in-Some.ensures.within c.index-entries-root.is in
    let same : e ≡ s.root.1 = same_some (sym c.in-Some.ensures.entry ∙ i) (root_by_sane t c.requires.rising s) in
    absurd (false≢true (c.if-not-is_dir.ensures ∙ sym (ap (λ (f : Entry). is_dir f) c.index-entries-root.is) ∙ ap (λ (f : Entry). is_dir f) same ∙ s.root.4))

pub all_lead-requires-clause-top : goal.all_lead-requires-clause-top
all_lead-requires-clause-top c =
    let t = c.args.entries.now in
    let e : Entry = c.index-entries-root.result in
    let i = held t c.in-Some.root e c.in-Some.ensures.within c.index-entries-root.is in
    top_is t c.requires.rising c.args.by_slot.now c.requires.index c.in-Some.root c.in-Some.ensures.within e i (sym c.in-Some.ensures.entry ∙ i) c.args.ups.now c.requires.ups

pub returns-then-not-branch-clause-insane : goal.returns-then-not-branch-clause-insane
returns-then-not-branch-clause-insane c = λ h s.
    let l = c.in_ok-all_lead.ensures.some c.if-not-branch.true in
    let e : Entry = c.index-entries-root.result in
    let i = held c.args.entries.now c.in-Some.root e c.in-Some.ensures.within c.index-entries-root.is in
    let is : root_of c.args.entries.now ≡ Some e = sym c.in-Some.ensures.entry ∙ i in
    l.4 (reach_by_sane c.args.entries.now c.requires.rising s c.args.by_slot.now c.requires.index c.in-Some.root c.in-Some.ensures.within e i is c.args.ups.now c.requires.ups l.0 l.1 l.2 l.3)

pub returns-clause-ok : goal.returns-clause-ok
returns-clause-ok c =
    let e : Entry = c.index-entries-root.result in
    let i = held c.args.entries.now c.in-Some.root e c.in-Some.ensures.within c.index-entries-root.is in
    let is : root_of c.args.entries.now ≡ Some e = sym c.in-Some.ensures.entry ∙ i in
    sane_by_test c.args.entries.now c.requires.rising c.args.by_slot.now c.requires.index c.in-Some.root c.in-Some.ensures.within e i is c.args.ups.now c.requires.ups
    (ap (λ (f : Entry). is_dir f) c.index-entries-root.is ∙ sym c.if-not-is_dir.ensures) c.requires.well (c.in_ok-all_lead.ensures.all c.if-not-branch.false)
