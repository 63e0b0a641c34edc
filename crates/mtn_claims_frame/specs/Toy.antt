-- A made-up set of three commands, which shows that the frame can be met: `put` keeps the payload as the one file, `get` prints it,
-- and `check` looks whether the keeper holds anything behind it.
use Rattle.std.specs.Prelude.{◌≡◌, ℕ, List, [], ◌∷◌, ◌++◌, Bool, true, false, Option, None, Some, codes, bytes_eq, ◌||◌, if◌then◌else◌}
use Rattle.std.specs.FinMap.{get, insert}
use Rattle.mtn_base.specs.declared.refusal.Cause.TheVariants.{NoBranch}
use Rattle.mtn_base.specs.declared.refusal.Refusal.{Refusal}
use Rattle.mtn_model.specs.Table.{Contents, body_at, with_record}
use Rattle.mtn_model.specs.State.{State}
use Rattle.mtn_frame.specs.Outcome.{JobOutcome}
use Rattle.mtn_model.specs.declared.status.Status.TheVariants as status
use Rattle.mtn_ports.specs.Kept.{IsAbove, IsNextKey}
use Rattle.mtn_frame.specs.Script.{refused}
use Rattle.mtn_frame.specs.Works.{misused}

abbrev pub toy_key : List ℕ
toy_key = 1 ∷ []

-- the files are as they are held, and none stands behind the one key
pub record ToyStands (c : Contents) (s : State) : Type 0 where
  pub files : c 2 ≡ s.files
  pub alone : (key : List ℕ) → IsAbove toy_key key → body_at c 2 key ≡ None

-- the line that shows a record which should not be there
abbrev pub toy_line : List ℕ → List ℕ
toy_line key = codes "damaged " ++ key ++ 10 ∷ []

pub record ToyDamages (c : Contents) (line : List ℕ) : Type 0 where
  pub key : List ℕ
  pub above : IsAbove toy_key key
  pub body : List ℕ
  pub held : body_at c 2 key ≡ Some body
  pub is : line ≡ toy_line key

-- the line that shows the least of them
pub record ToyFirst (c : Contents) (line : List ℕ) : Type 0 where
  pub key : List ℕ
  pub above : IsAbove toy_key key
  pub least : IsNextKey c 2 toy_key true key
  pub is : line ≡ toy_line key

-- no check is refused
abbrev pub ToyRefuses : Contents → Refusal → Type 0
ToyRefuses c refusal = ⊥

abbrev pub ToyLines : List ℕ → Type 0
ToyLines line = (key : List ℕ) × (line ≡ toy_line key)

-- the words are this one word
abbrev pub is_word : List ℕ → List (List ℕ) → Bool
is_word name [] = false
is_word name (word ∷ []) = bytes_eq word name
is_word name (_ ∷ _ ∷ _) = false

abbrev pub is_put : List (List ℕ) → Bool
is_put words = is_word (codes "put") words

abbrev pub is_get : List (List ℕ) → Bool
is_get words = is_word (codes "get") words

abbrev pub is_check : List (List ℕ) → Bool
is_check words = is_word (codes "check") words

-- it vouches for the store
abbrev pub toy_vouches : List (List ℕ) → Bool
toy_vouches words = if is_put words then false else is_check words

abbrev pub toy_spelled : List (List ℕ) → Bool
toy_spelled words = is_put words || is_check words || is_get words

-- `put` alone changes the records, by its one file
pub record ToyChanges (words : List (List ℕ)) (payload : List ℕ) (c d : Contents) : Type 0 where
  pub puts : is_put words ≡ true
  pub file : d ≡ with_record c 2 toy_key payload

-- a payload is asked for by the first word
abbrev pub toy_takes : List (List ℕ) → Bool
toy_takes [] = false
toy_takes (word ∷ rest) = bytes_eq word (codes "put")

-- the payload is the file
abbrev pub put_outcome : List ℕ → State → JobOutcome State
put_outcome payload s = record { state = record s { files = insert s.files toy_key payload }; output = []; status = status.Ok }

abbrev pub toy_found : State → Option (List ℕ) → JobOutcome State
toy_found s None = refused (record { packet = 0; cause = NoBranch }) s
toy_found s (Some bytes) = record { state = s; output = bytes; status = status.Ok }

abbrev pub good_line : List ℕ
good_line = codes "good" ++ 10 ∷ []

-- nothing stands behind the one key
abbrev pub checked : State → JobOutcome State
checked s = record { state = s; output = good_line; status = status.Ok }

abbrev pub toy_outcome : List (List ℕ) → List ℕ → State → JobOutcome State
toy_outcome words payload s =
    if is_put words then put_outcome payload s
    else if is_check words then checked s
    else if is_get words then toy_found s (get s.files toy_key)
    else misused s
