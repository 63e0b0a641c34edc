-- private, for the proof of write
use Rattle.std.specs.Prelude.{ℕ, List, ◌∷◌}
use Rattle.std.specs.List.{flat_map}
use Rattle.mtn_basic_io.specs.Spelling.{LineText, stanza_text}

-- stanzas behind one, each after one more LF
abbrev pub behind : List (List LineText) → List ℕ
behind = flat_map (λ (s : List LineText). 10 ∷ stanza_text s)
