use Rattle.std.specs.Prelude.{Contains, option_copied}
use Rattle.std.proofs.Common.{◌∙◌, sym, ap, arith}
use Rattle.mtn_base.proofs.Members.{taken}
use Rattle.mtn_base.proofs.Sorting.{no_split}
use Rattle.mtn_roster.specs.declared.entry.Entry.{Entry}
use Rattle.mtn_merge.specs.Births.{number_in}
use Rattle.mtn_merge.proofs.Each.{each_all, each_next}
use Rattle.mtn_merge.proofs.UnbornLemmas.{item_at, keeps_itself, keeps_on, of_tree}
use Rattle.mtn_merge.proofs.births.push_births.Goals as goal
use Rattle.mtn_merge.proofs.births.push_births.Goals.{in-Some+in_ok-push_birth, in_default}

pub loop-place-init : goal.loop-place-init
loop-place-init c = record { has = λ e s. absurd (no_split e s); keeps = keeps_itself c.args.numbers.now.items }

pub loop-place-preserved : goal.loop-place-preserved
loop-place-preserved c = elim c.match-at_place.branch [
  | in-Some+in_ok-push_birth w ↦
      let it = item_at c.args.tree.now c.loop-place.place w.in-Some.entry.now (sym c.at_place.ensures ∙ ap option_copied w.in-Some.is) in
      rw w.numbers-is (record {
        has = each_next (λ (e : Entry). Contains w.push_birth.new.numbers.items (number_in e.name.birth)) c.args.tree.now c.loop-place.place w.in-Some.entry.now it.0 it.1
            (λ e s. w.in_ok-push_birth.ensures.keeps (number_in e.name.birth) (c.loop-place.invariant.has e s)) w.in_ok-push_birth.ensures.has;
        keeps = keeps_on c.args.numbers.now.items c.loop-place.numbers.items w.push_birth.new.numbers.items c.loop-place.invariant.keeps w.in_ok-push_birth.ensures.keeps;
      })
  | in_default w ↦
      let t = taken c.args.tree.now c.loop-place.place (omega (arith, c.loop-place-test.true, c.len-place-end.ensures.count)) in
      let none = sym c.at_place.ensures ∙ ap option_copied w.in_default.is in
      absurd (let both = sym t.1 ∙ none in cc)
]

pub returns-clause-has : goal.returns-clause-has
returns-clause-has c = of_tree c.args.tree.now c.loop-place.numbers.items
    (each_all (λ (e : Entry). Contains c.loop-place.numbers.items (number_in e.name.birth)) c.args.tree.now c.loop-place.place (omega (arith, c.loop-place-test.false, c.len-place-end.ensures.count)) c.loop-place.invariant.has)
