-- Nothing is noted.
use Rattle.std.specs.Map.{lookup}
use Rattle.std.specs.BTreeMap.{is_at}
use Rattle.std.proofs.Common.{sym, ◌∙◌, ap, arith}
use Rattle.mtn_base.specs.Names.{path_cmp}
use Rattle.mtn_changeset_laws.specs.Changes.{aims_at, deletes, moves}
use Rattle.mtn_apply.proofs.Positions.{none_left}
use Rattle.mtn_apply.proofs.index.no_changes.Goals as goal

pub returns : goal.returns
returns c = λ old all is. record {
  within = omega arith;
  deleted_long = c.in_ok-no_positions.ensures.long ∙ sym is;
  moved_long = c.in_ok-no_positions-2.ensures.long ∙ sym is;
  targets = λ q. ap (lookup (is_at (path_cmp q))) c.in_ok-new.ensures ∙ sym (none_left (aims_at q) all);
  deleted = λ k e at. c.in_ok-no_positions.ensures.none k ∙ sym (none_left (deletes old e) all);
  moved = λ k e at. c.in_ok-no_positions-2.ensures.none k ∙ sym (none_left (moves old e) all);
}
