-- One component more each time.
use Rattle.std.proofs.Common.{◌≡◌, ◌+◌, List, ℕ, ◌∷◌, [], ◌++◌, take, option_map, sym, ap, ◌∙◌}
use Rattle.std.proofs.lemmas.List.{take_more}
use Rattle.mtn_apply.specs.Old.{seen}
use Rattle.mtn_apply.specs.Index.{old_of, changes_of}
use Rattle.mtn_apply.proofs.Walked.{stepped}
use Rattle.mtn_apply.proofs.occupant.occupant_of.Goals as goal

longer : (comps path path' : List (List ℕ)) (i : ℕ) (name item : List ℕ) → path ≡ take i comps → path' ≡ path ++ name ∷ [] → name ≡ item → take (i + 1) comps ≡ take i comps ++ item ∷ [] → path' ≡ take (i + 1) comps
longer comps path path' i name item was more is over = more ∙ ap (λ p. p ++ name ∷ []) was ∙ ap (λ (n : List ℕ). take i comps ++ n ∷ []) is ∙ sym over

pub kept_child-requires-clause-placed : goal.kept_child-requires-clause-placed
kept_child-requires-clause-placed c = c.loop-comp.invariant.2

pub returns-clause-placed : goal.returns-clause-placed
returns-clause-placed c = c.loop-comp.invariant.2

pub loop-comp-preserved : goal.loop-comp-preserved
loop-comp-preserved c =
    let comps = c.args.comps.now in
    let i = c.loop-comp.comp-index in
    let item = c.comp-item.result in
    let over : take (i + 1) comps ≡ take i comps ++ item ∷ [] = take_more comps i item c.loop-comp-test.true ∙ ap (λ (n : List ℕ). take i comps ++ n ∷ []) (sym c.comp-item.is) in
    let whole : c.push.new.self ≡ take (i + 1) comps = longer comps c.loop-comp.path c.push.new.self i c.in_ok-copy.field-0 item c.loop-comp.invariant.0 c.in_ok-push.ensures.ok c.in_ok-copy.ensures over in (
      whole,
      stepped (old_of c.args.edge.now) (changes_of c.args.edge.now) comps c.push.new.self item i (option_map seen c.loop-comp.there) (option_map seen c.kept_child.result) (option_map seen c.occupant_at-there-in-loop-comp.result)
          c.loop-comp-test.true c.comp-item.is whole c.loop-comp.invariant.1 c.kept_child.ensures.value c.occupant_at-there-in-loop-comp.ensures.value,
      c.occupant_at-there-in-loop-comp.ensures.placed,
    )
