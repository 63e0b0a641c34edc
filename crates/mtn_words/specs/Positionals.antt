-- Words that stand behind a command and its options: none, a word, ids, paths.
use Rattle.std.specs.Prelude.{List, [], ◌∷◌, Option, Some, None, ℕ, Bool, ◌&&◌, not, nat_lt, nat_le, bytes_eq, decimal, length, option_map, if◌then◌else◌}
use Rattle.std.specs.List.{list_all}
use Rattle.std.specs.Str.{is_utf8}
use Rattle.std.specs.Str.Parse.{digits_value}
use Rattle.std.specs.Option.{option_and_then}
use Rattle.mtn_base.specs.Comps.{is_dots, is_plain_byte}
use Rattle.mtn_base.specs.Hex.{read_id}
use Rattle.mtn_base.specs.Paths.{pieces_of}
use Rattle.mtn_base.specs.declared.id.Id.{Id}
use Rattle.mtn_base.specs.declared.limits.TheConstants.{MAX_COMP}
use Rattle.mtn_words.specs.Words.{each_of}

-- no word
abbrev pub no_words : List (List ℕ) → Option (Unit {0})
no_words [] = Some tt
no_words (_ ∷ _) = None

-- one id
abbrev pub one_id : List (List ℕ) → Option Id
one_id [] = None
one_id (word ∷ []) = read_id word
one_id (_ ∷ _ ∷ _) = None

-- the bytes of a component
abbrev pub is_comp : List ℕ → Bool
is_comp text = nat_lt 0 (length text) && (not (is_dots text) && (nat_le (length text) MAX_COMP && (list_all is_plain_byte text && is_utf8 text)))

-- the path that a word spells: its pieces between slashes, each of which is a component
abbrev pub path_in : List ℕ → List (List ℕ) → Option (List (List ℕ))
path_in [] pieces = Some []
path_in (b ∷ bs) pieces = if list_all is_comp pieces then Some pieces else None

abbrev pub read_path : List ℕ → Option (List (List ℕ))
read_path word = path_in word (pieces_of word)

-- one word
abbrev pub one_word : List (List ℕ) → Option (List ℕ)
one_word [] = None
one_word (word ∷ []) = Some word
one_word (_ ∷ _ ∷ _) = None

-- ids, maybe none
abbrev pub ids : List (List ℕ) → Option (List Id)
ids words = each_of read_id words

-- one id or more
abbrev pub some_ids : List (List ℕ) → Option (List Id)
some_ids [] = None
some_ids (word ∷ rest) = ids (word ∷ rest)

-- one id, and maybe more
abbrev pub id_and_ids : {T : Type 0} → (Id → List Id → T) → List (List ℕ) → Option T
id_and_ids make [] = None
id_and_ids make (word ∷ rest) = option_and_then (λ id. option_map (make id) (ids rest)) (read_id word)

-- two ids
abbrev pub two_ids : {T : Type 0} → (Id → Id → T) → List (List ℕ) → Option T
two_ids make [] = None
two_ids make (a ∷ []) = None
two_ids make (a ∷ b ∷ []) = option_and_then (λ x. option_map (make x) (read_id b)) (read_id a)
two_ids make (_ ∷ _ ∷ _ ∷ _) = None

-- the number of revisions to be generated, from 1 to 2000, in decimal digits without a leading zero
abbrev pub count_with : List ℕ → ℕ → Option ℕ
count_with word n = if bytes_eq word (decimal n) && (nat_le 1 n && nat_le n 2000) then Some n else None

abbrev pub read_count : List ℕ → Option ℕ
read_count word = count_with word (digits_value 10 word)

abbrev pub one_count : List (List ℕ) → Option ℕ
one_count [] = None
one_count (word ∷ []) = read_count word
one_count (_ ∷ _ ∷ _) = None
