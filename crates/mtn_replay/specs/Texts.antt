-- The texts of a log.
use Rattle.std.specs.Prelude.{ℕ, List, find, Option, option_map}
use Rattle.mtn_base.specs.Names.{same_bytes}
use Rattle.mtn_model.specs.State.{Logged}

-- the text that the log has under an id
abbrev pub text_under : List Logged → List ℕ → Option (List ℕ)
text_under log id = option_map (λ (l : Logged). l.text) (find (λ (l : Logged). same_bytes l.id id) log)
