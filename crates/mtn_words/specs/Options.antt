-- What the option words of a command say. The grammar has each name once, so an option is looked up by its name.
use Rattle.std.specs.Prelude.{List, Option, ℕ, Bool, ◌&&◌, is_none, codes, bytes_eq, find, if◌then◌else◌}
use Rattle.std.specs.List.{list_all, list_any}
use Rattle.std.specs.Option.{option_and_then}
use Rattle.mtn_base.specs.Hex.{read_id}
use Rattle.mtn_base.specs.declared.id.Id.{Id}
use Rattle.mtn_words.specs.declared.words.OptionWord.{OptionWord}

-- an option is one that a command takes: without a value one of these flags, with a value one of these names
abbrev pub is_taken : List (List ℕ) → List (List ℕ) → OptionWord → Bool
is_taken flags names o = list_any (bytes_eq o.name) (if is_none o.value then flags else names)

abbrev pub takes : List (List ℕ) → List (List ℕ) → List OptionWord → Bool
takes flags names options = list_all (is_taken flags names) options

-- an option of this name stands there without a value
abbrev pub has_flag : List OptionWord → List ℕ → Bool
has_flag options name = list_any (λ o. is_none o.value && bytes_eq o.name name) options

-- the value of the option of this name
abbrev pub option_value : List OptionWord → List ℕ → Option (List ℕ)
option_value options name = option_and_then (λ o. o.value) (find (λ o. bytes_eq o.name name) options)

-- the id that `--key` says
abbrev pub key_of : List OptionWord → Option Id
key_of options = option_and_then read_id (option_value options (codes "key"))

-- what is made of a value, or of the key, that must be there
abbrev pub with_value : {T : Type 0} → List OptionWord → List ℕ → (List ℕ → Option T) → Option T
with_value options name make = option_and_then make (option_value options name)

abbrev pub with_key : {T : Type 0} → List OptionWord → (Id → Option T) → Option T
with_key options make = option_and_then make (key_of options)
