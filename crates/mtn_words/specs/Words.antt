-- The grammar of words: what is the command, what its options, what its positionals. The rules are our choice.
use Rattle.std.specs.Prelude.{List, [], ◌∷◌, Option, Some, None, ℕ, ◌+◌, ◌==◌, ◌&&◌, Bool, true, not, codes, bytes_eq, nat_eq, map, take, drop, position, option_map, Result, Ok, Err, ⊤, ◌≡◌, if◌then◌else◌}
use Rattle.std.specs.Option.{option_and_then}
use Rattle.std.specs.List.{starts_with, list_all, list_any, prefix_len, take_while}
use Rattle.std.specs.Str.{is_utf8}
use Rattle.mtn_words.specs.declared.words.OptionWord.{OptionWord}
use Rattle.mtn_words.specs.declared.words.Command.{Command}
use Rattle.mtn_words.specs.declared.words.WordsError.{WordsError}
use Rattle.mtn_words.specs.declared.words.WordsError.TheVariants.{Usage, NoMemory}

abbrev pub is_end : List ℕ → Bool
is_end word = bytes_eq word (codes "--")

-- an option word begins with `--` and is not `--` itself
abbrev pub is_option : List ℕ → Bool
is_option word = starts_with nat_eq word (codes "--") && not (is_end word)

-- `name=value`, cut at the first `=`; without one, the flag `resolve`
abbrev pub option_cut : List ℕ → Option ℕ → Option OptionWord
option_cut text (Some at) = Some (record { name = take at text; value = Some (drop (at + 1) text) })
option_cut text None = if bytes_eq text (codes "resolve") then Some (record { name = text; value = None }) else None

-- what an option word says behind its `--`
abbrev pub option_of : List ℕ → Option OptionWord
option_of word = let text = drop 2 word in option_cut text (position (λ b. b == 61) text)

-- what each of the words says, where each says something
abbrev pub each_of : {T : Type 0} → (List ℕ → Option T) → List (List ℕ) → Option (List T)
each_of read [] = Some []
each_of read (word ∷ rest) = option_and_then (λ value. option_map (λ values. value ∷ values) (each_of read rest)) (read word)

-- no name stands twice
abbrev pub are_apart : List (List ℕ) → Bool
are_apart [] = true
are_apart (name ∷ rest) = not (list_any (λ other. bytes_eq other name) rest) && are_apart rest

-- the words behind the options, without the `--` that ends these
abbrev pub positionals_of : List (List ℕ) → List (List ℕ)
positionals_of [] = []
positionals_of (word ∷ rest) = if is_end word then rest else word ∷ rest

-- a command whose options differ
abbrev pub command_with : List ℕ → List (List ℕ) → List OptionWord → Option Command
command_with name positionals options =
    if are_apart (map (λ o. o.name) options) then Some (record { name = name; options = options; positionals = positionals }) else None

-- The command that words spell, each of which is UTF-8. The first names it, the option words stand behind that.
abbrev pub command_of : List (List ℕ) → Option Command
command_of [] = None
command_of (name ∷ rest) =
    if list_all is_utf8 (name ∷ rest)
    then option_and_then (command_with name (positionals_of (drop (prefix_len is_option rest) rest))) (each_of option_of (take_while is_option rest))
    else None

-- A reader's answer: what is spelled; Usage exactly where nothing is; or memory is wanting.
abbrev pub Reads : {T : Type 0} → Option T → Result T WordsError → Type 0
Reads spelled (Ok value) = spelled ≡ Some value
Reads spelled (Err Usage) = spelled ≡ None
Reads spelled (Err NoMemory) = ⊤
