-- Where a revision stands, by its text's record; and what a revision asks of the files.
use Rattle.std.specs.Prelude.{◌≡◌, ◌<◌, ◌++◌, ℕ, List, Option, Some, None, option_map}
use Rattle.mtn_base.specs.declared.id.Id.{Id}
use Rattle.mtn_history_laws.specs.History.{Revision}
use Rattle.mtn_replay.specs.Making.{place_of}
use Rattle.mtn_model.specs.State.{State}
use Rattle.mtn_model.specs.Table.{Contents, body_at}
use Rattle.mtn_records.specs.Fields.{number_text}
use Rattle.mtn_history.specs.declared.errors.Damage.{Damage}
use Rattle.mtn_history.specs.declared.errors.Damage.TheVariants.{Bad, Missing}
use Rattle.mtn_history.specs.Meta.{IsMetaOf}
use Rattle.mtn_replay.specs.Texts.{text_under}
use Rattle.mtn_history.specs.declared.meta.Meta.{Meta}

-- the position below n that stands before the text of an id, and the text; None where the id has no text
abbrev pub IsPlaced : Contents → ℕ → Id → Option ℕ → List ℕ → Type 0
IsPlaced c n id None text = body_at c 3 id.0 ≡ None
IsPlaced c n id (Some r) text = (body_at c 3 id.0 ≡ Some (number_text r ++ text)) × (r < n)

-- the position of the id in the history, and the text that the log has under it
abbrev pub IsFoundAt : State → List Revision → Id → Option ℕ → List ℕ → Type 0
IsFoundAt s h id at text = (at ≡ place_of h id) × (text_under s.log id.0 ≡ option_map (λ _. text) at)

-- a record of table 3 that has no position below n
abbrev pub UnplacedBelow : ℕ → Contents → Damage → Type 0
UnplacedBelow n c (Bad table key body) = (table ≡ 3) × (body_at c 3 key ≡ Some body) × ((r : ℕ) (text : List ℕ) → r < n → body ≡ number_text r ++ text → ⊥)
UnplacedBelow n c (Missing table key) = ⊥

-- the same below the number of revisions
pub record PlaceDamage (c : Contents) (d : Damage) : Type 0 where
  pub meta : Meta
  pub read : IsMetaOf c meta
  pub wrong : UnplacedBelow meta.count c d
