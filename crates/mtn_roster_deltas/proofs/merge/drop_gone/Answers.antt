-- The closure tells whether the number is gone.
use Rattle.std.proofs.Common.{rules, not}
use Rattle.std.specs.Prelude.{◌==◌}
use Rattle.std.specs.List.{list_any}
use Rattle.std.proofs.lemmas.Fn.{filter_same}
use Rattle.mtn_records.specs.declared.entry.NumberedEntry.{NumberedEntry}
use Rattle.mtn_roster_deltas.proofs.merge.drop_gone.Goals as goal

pub returns : goal.returns
returns c = filter_same _ (λ (e : NumberedEntry). not (list_any (λ n. n == e.number) c.args.gone.now)) _ (λ x b f' h. (search rules, search rules)) _ _ c.retain.ensures.filtered
