use Rattle.std.specs.Prelude.{All, map}
use Rattle.std.proofs.Common.{◌≡◌, sym, ap, ◌∙◌, subst}
use Rattle.std.proofs.lemmas.List.{get_or_default, take_all}
use Rattle.std.proofs.lemmas.List.Elements.{All-nil, All-push}
use Rattle.mtn_answers.specs.Lines.{HasParents}
use Rattle.mtn_base.specs.Ids.{by_id}
use Rattle.mtn_base.specs.Lists.{IsListOf}
use Rattle.mtn_answers.specs.Queries.{IsHeld}
use Rattle.mtn_answers.specs.declared.query.Line.{Line}
use Rattle.mtn_graph_queries.proofs.Members.{all_are}
use Rattle.mtn_graph_queries.proofs.Orders.{line_more}
use Rattle.mtn_graph_queries.proofs.graph.lines.Goals as goal

pub loop-id-init : goal.loop-id-init
loop-id-init c = record {
  ids = ap (map (λ (l : Line). l.id)) c.new-lines.ensures;
  parents = λ h tells. subst (All (HasParents h)) (sym c.new-lines.ensures) (All-nil (HasParents h));
}

pub loop-id-preserved : goal.loop-id-preserved
loop-id-preserved c = record {
  ids = line_more c.loop-id.lines c.push.new.self c.as_slice-id-items.result.now c.loop-id.id-index c.in_ok-line.field-0 _ c.loop-id-test.true
      (get_or_default c.as_slice-id-items.result.now c.loop-id.id-index _ _ c.loop-id-test.true) c.loop-id.invariant.ids c.in_ok-line.ensures.id c.in_ok-push.ensures.ok;
  parents = λ h tells. subst (All (HasParents h)) (sym c.in_ok-push.ensures.ok) (All-push (HasParents h) c.loop-id.lines c.in_ok-line.field-0 (c.loop-id.invariant.parents h tells) (c.in_ok-line.ensures.parents h tells));
}

pub returns : goal.returns
returns c h tells =
    let whole : map (λ (l : Line). l.id) c.loop-id.lines ≡ c.in_ok-ids.ids = c.loop-id.invariant.ids ∙ take_all c.loop-id.id-index c.as_slice-id-items.result.now c.loop-id-test.false ∙ c.as_slice-id-items.ensures in
    record {
      ids = subst (IsListOf by_id (IsHeld h)) (sym whole) (all_are h c.args.graph.now tells c.sorted_ids.ensures.log c.in_ok-all.all.items c.in_ok-ids.ids c.in_ok-all.ensures (rw c.deref.ensures.value at c.in_ok-ids.ensures.sorted));
      parents = c.loop-id.invariant.parents h tells;
    }
