use Rattle.std.proofs.Common.{◌≡◌, ◌∙◌, ◌+◌, ◌<◌, ◌++◌, ◌∷◌, [], take, sym, ap, arith, length, get_or}
use Rattle.std.proofs.lemmas.List.{take_more, length-take}
use Rattle.mtn_base.specs.Paths.{path_text}
use Rattle.mtn_base.proofs.PathLemmas.{written_more, written_first, AreComps-push}
use Rattle.mtn_base.proofs.path.Path.write.Goals as goal
use Rattle.mtn_base.proofs.path.Path.write.Goals.{then-place-gt0+in_ok-push, else-place-gt0}

pub loop-place-preserved : goal.loop-place-preserved
loop-place-preserved c =
    let p = c.loop-place.place in
    let cs = c.args.self.now in
    let comp = c.comp-item.result in
    let here : p < length cs = grind (arith, ap length c.comps-comp-items.ensures) in
    let is : comp ≡ get_or cs p comp = c.comp-item.is ∙ ap (λ xs. get_or xs p comp) c.comps-comp-items.ensures in
    let more : take (p + 1) cs ≡ take p cs ++ comp ∷ [] = take_more cs p comp here ∙ ap (λ x. take p cs ++ x ∷ []) (sym is) in
    let len : length (take p cs) ≡ p = simp length-take (omega arith) in
    record {
      written = elim c.if-place-gt0.branch [
        | then-place-gt0+in_ok-push w ↦
            let slash : c.if-place-gt0.out.items ≡ (c.args.out.now.items ++ path_text (take p cs)) ++ 47 ∷ [] = ap (λ o. o.items) w.out-is ∙ w.in_ok-push.ensures.items ∙ ap (λ xs. xs ++ 47 ∷ []) c.loop-place.invariant.written in
            rw more (written_more (take p cs) comp c.args.out.now.items c.if-place-gt0.out.items _ slash (omega (arith, len, w.if-place-gt0.true)) (c.in_ok-extend_from_slice.ensures.items ∙ ap (λ xs. c.if-place-gt0.out.items ++ xs) c.bytes.ensures.value))
        | else-place-gt0 w ↦
            let same : c.if-place-gt0.out.items ≡ c.args.out.now.items ++ path_text (take p cs) = ap (λ o. o.items) w.out-is ∙ c.loop-place.invariant.written in
            rw more (written_first (take p cs) comp c.args.out.now.items c.if-place-gt0.out.items _ same (omega (arith, len, w.if-place-gt0.false)) (c.in_ok-extend_from_slice.ensures.items ∙ ap (λ xs. c.if-place-gt0.out.items ++ xs) c.bytes.ensures.value))
      ];
      lawful = rw more (AreComps-push (take p cs) comp c.loop-place.invariant.lawful c.bytes.ensures.lawful);
    }
