use Rattle.std.proofs.Common.{sym, ◌∙◌}
use Rattle.mtn_store_laws.proofs.OneState.{stands_spelled}
use Rattle.mtn_store_laws.proofs.one_state.Goals as goal

pub returns : goal.returns
returns c = record {
  one = λ f contents s t x y. stands_spelled f contents s x ∙ sym (stands_spelled f contents t y);
  spells = λ f contents s stands. stands_spelled f contents s stands;
}
