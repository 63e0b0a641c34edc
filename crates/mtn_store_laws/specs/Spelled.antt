-- The state that contents spell, read off their tables: the files are table 2, the log has at each position the id of table 4
-- with the text of table 3, the key names are table 7, and the keys of table 8 spell the certificates.
use Rattle.std.specs.Prelude.{ℕ, zero, suc, List, [], ◌∷◌, ◌++◌, map, take, drop, Option, Some, None}
use Rattle.std.specs.Option.{option_map_or}
use Rattle.std.specs.Int.{w32, w64, from_be_bytes}
use Rattle.std.specs.FinMap.{from_entries, keys}
use Rattle.mtn_base.specs.Hex.{id_of}
use Rattle.mtn_base.specs.declared.id.Id.{Id}
use Rattle.mtn_certs.specs.Certificates.{Certificate, certificate}
use Rattle.mtn_model.specs.State.{Certificates, Logged, State}
use Rattle.mtn_model.specs.Table.{Contents, Table, body_at}
use Rattle.mtn_records.specs.Fields.{number_text}
use Rattle.mtn_history.specs.Meta.{count_key}

-- the body that is held, and nothing where none is
abbrev pub held_or_none : Option (List ℕ) → List ℕ
held_or_none None = []
held_or_none (Some body) = body

-- the number under `count`
abbrev pub count_of : Contents → ℕ
count_of c = option_map_or (from_be_bytes w64) (body_at c 1 count_key) 0

-- the id that the log has at a position, and the text that is held under it
abbrev pub id_at : Contents → ℕ → List ℕ
id_at c r = take 20 (held_or_none (body_at c 4 (number_text r)))

abbrev pub logged_at : Contents → ℕ → Logged
logged_at c r = record { id = id_at c r; text = drop 8 (held_or_none (body_at c 3 (id_at c r))) }

-- the log below a position
abbrev pub log_below : Contents → ℕ → List Logged
log_below c zero = []
log_below c (suc r) = log_below c r ++ logged_at c r ∷ []

-- the bytes behind a length of four bytes, and what is behind them
abbrev pub field_of : List ℕ → List ℕ
field_of bytes = take (from_be_bytes w32 (take 4 bytes)) (drop 4 bytes)

abbrev pub behind_field : List ℕ → List ℕ
behind_field bytes = drop (from_be_bytes w32 (take 4 bytes)) (drop 4 bytes)

-- the certificate of a key of table 8: from its key's id on, and from its value on
abbrev pub cert_from : Id → List ℕ → List ℕ → List ℕ → Certificate
cert_from revision name made_by value =
    certificate revision name (id_of (take 20 made_by)) (field_of value) (field_of (behind_field value))

abbrev pub cert_of : List ℕ → Certificate
cert_of key = cert_from (id_of (take 20 key)) (field_of (drop 20 key)) (behind_field (drop 20 key)) (drop 20 (behind_field (drop 20 key)))

abbrev pub certs_in : Table → Certificates
certs_in t = from_entries (map (λ key. (cert_of key, tt)) (keys t))

abbrev pub spelled : Contents → State
spelled c = record { files = c 2; log = log_below c (count_of c); certs = certs_in (c 8); keys = c 7 }
