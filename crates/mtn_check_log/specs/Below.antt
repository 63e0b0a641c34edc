-- What a store holds of its first revisions: `count` with their number, all files, their texts, their records of the log and
-- their rosters. A text is theirs if the record of the log at the position in front of it has its id.
use Rattle.std.specs.Prelude.{ℕ, Bool, false, ◌==◌, ◌&&◌, if◌then◌else◌, List, take, bytes_eq, nat_lt, Option, option_map}
use Rattle.std.specs.FinMap.{retain_keys}
use Rattle.std.specs.Int.{w64, from_be_bytes}
use Rattle.std.specs.Option.{option_map_or}
use Rattle.mtn_model.specs.Table.{Contents, body_at, no_table}
use Rattle.mtn_records.specs.Fields.{number_text}
use Rattle.mtn_history.specs.Meta.{meta_of, version}

-- a position below r, in eight bytes
abbrev pub is_position : ℕ → List ℕ → Bool
is_position r key = nat_lt (from_be_bytes w64 key) r && bytes_eq key (number_text (from_be_bytes w64 key))

-- a record of the log has this id
abbrev pub has_id : List ℕ → List ℕ → Bool
has_id id log = bytes_eq (take 20 log) id

-- the record of the log at a key has this id
abbrev pub has_id_at : Contents → List ℕ → List ℕ → Bool
has_id_at c id key = option_map_or (has_id id) (body_at c 4 key) false

-- a text's record, under its id
abbrev pub is_text_of : ℕ → Contents → List ℕ → List ℕ → Bool
is_text_of r c id body = is_position r (take 8 body) && has_id_at c id (take 8 body)

abbrev pub is_text_below : ℕ → Contents → List ℕ → Bool
is_text_below r c id = option_map_or (is_text_of r c id) (body_at c 3 id) false

abbrev pub below : ℕ → Contents → Contents
below r c = λ t.
    if t == 1 then meta_of version r else
    if t == 2 then c 2 else
    if t == 3 then retain_keys (c 3) (is_text_below r c) else
    if t == 4 then retain_keys (c 4) (is_position r) else
    if t == 5 then retain_keys (c 5) (is_position r) else no_table

-- what a keeper tells, of that only what is below
abbrev pub told_below : {K : Type 0} → (K → Option Contents) → ℕ → K → Option Contents
told_below contents r k = option_map (below r) (contents k)
