-- One more attribute, where its key is another.
use Rattle.std.specs.Prelude.{is_none, is_some, not}
use Rattle.std.proofs.Common.{◌≡◌, ◌++◌, ◌∷◌, [], ℕ, cond, Bool, true, false, Option, None, Some, sym, ◌∙◌, ap, append-nil}
use Rattle.mtn_roster.specs.declared.entry.Attr.{Attr}
use Rattle.mtn_join.proofs.Keyed.{more_others}
use Rattle.mtn_join.proofs.attrs.others_of.Goals as goal
use Rattle.mtn_join.proofs.attrs.others_of.Goals.{then-is_none+in_ok-copy+in_ok-push, else-is_none}

tells : (o : Option ℕ) (b c : Bool) → is_some o ≡ not b → b ≡ c → is_none o ≡ c
tells None true c h e = e
tells None false c h e = absurd cc
tells (Some k) true c h e = absurd cc
tells (Some k) false c h e = e

pub loop-attr-preserved : goal.loop-attr-preserved
loop-attr-preserved c =
    let a : Attr = c.attr-item.result in
    more_others c.args.first.now c.args.second.now c.loop-attr.others.items c.if-is_none.others.items c.loop-attr.attr-index a c.as_slice.result.now c.place_of_key.result c.loop-attr-test.true c.attr-item.is
    c.as_slice.ensures c.place_of_key.ensures.attr c.place_of_key.ensures.within c.loop-attr.invariant (elim c.if-is_none.branch [
      | then-is_none+in_ok-copy+in_ok-push w ↦
          ap (λ v. v.items) w.others-is ∙ w.in_ok-push.ensures.items ∙ ap (λ x. c.loop-attr.others.items ++ x ∷ []) w.in_ok-copy.ensures
          ∙ ap (λ b. c.loop-attr.others.items ++ cond b (a ∷ []) []) (sym (tells c.place_of_key.result c.is_none.result true c.is_none.ensures w.if-is_none.true))
      | else-is_none w ↦
          ap (λ v. v.items) w.others-is ∙ sym (append-nil c.loop-attr.others.items)
          ∙ ap (λ b. c.loop-attr.others.items ++ cond b (a ∷ []) []) (sym (tells c.place_of_key.result c.is_none.result false c.is_none.ensures w.if-is_none.false))
    ])
