-- What is remembered from draft to draft.
use Rattle.std.specs.Prelude.{ℕ, MatchOption}
use Rattle.mtn_model.specs.Table.{Contents}
use Rattle.mtn_history.specs.Cache.{AreRecalled}
use Rattle.mtn_history.specs.Meta.{IsMetaOf}
use Rattle.mtn_history.specs.declared.memory.Memory.{Memory}
use Rattle.mtn_history.specs.declared.meta.Meta.{Meta}

-- what is remembered is true of these records; where table 1 was not read nothing is remembered
abbrev pub Knows : Memory → Contents → Type 0
Knows m c = MatchOption m.meta ((n : ℕ) → AreRecalled c n m.cache) (λ (meta : Meta). IsMetaOf c meta × AreRecalled c meta.count m.cache)
