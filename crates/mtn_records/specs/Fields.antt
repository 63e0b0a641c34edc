-- How values stand in the body of a record: numbers greatest byte first, and a length before what varies.
use Rattle.std.specs.Prelude.{◌≡◌, ℕ, ◌<◌, ◌^◌, Bool, true, false, List, [], ◌∷◌, ◌++◌, length, Option, Some, None}
use Rattle.std.specs.Int.{w32, w64, to_be_bytes}
use Rattle.std.specs.List.{flat_map}
use Rattle.std.specs.List.Sorted.{IsStrictlyIncreasing}
use Rattle.std.specs.List.{AllByRecursion}
use Rattle.mtn_base.specs.declared.id.Id.{Id}

-- the bytes begin with the text of v, and `rest` is behind it
pub record Begins {T : Type 0} (text : T → List ℕ) (form : T → Type 0) (bytes : List ℕ) (v : T) (rest : List ℕ) : Type 0 where
  pub formed : form v
  pub whole : bytes ≡ text v ++ rest

-- they begin with no text of this form
abbrev pub BeginsWithNone : {T : Type 0} → (T → List ℕ) → (T → Type 0) → List ℕ → Type 0
BeginsWithNone {T} text form bytes = (v : T) (rest : List ℕ) → form v → bytes ≡ text v ++ rest → ⊥

-- bytes begin with the text of one value only, so no text goes on in another's
abbrev pub AreApart : {T : Type 0} → (T → List ℕ) → (T → Type 0) → Type 0
AreApart {T} text form = (v w : T) (r s : List ℕ) → form v → form w → text v ++ r ≡ text w ++ s → (v ≡ w) × (r ≡ s)

-- eight bytes
abbrev pub number_text : ℕ → List ℕ
number_text = to_be_bytes w64

abbrev pub IsNumber : ℕ → Type 0
IsNumber n = n < 2 ^ 64

-- four bytes
abbrev pub count_text : ℕ → List ℕ
count_text = to_be_bytes w32

abbrev pub IsCount : ℕ → Type 0
IsCount n = n < 2 ^ 32

-- one byte, 0 or 1
abbrev pub flag_text : Bool → List ℕ
flag_text false = 0 ∷ []
flag_text true = 1 ∷ []

-- twenty bytes
abbrev pub id_text : Id → List ℕ
id_text id = id.0

abbrev pub IsTwenty : Id → Type 0
IsTwenty id = length id.0 ≡ 20

-- the length, and the bytes
abbrev pub field_text : List ℕ → List ℕ
field_text bytes = count_text (length bytes) ++ bytes

abbrev pub IsField : List ℕ → Type 0
IsField bytes = IsCount (length bytes)

-- one behind the other
abbrev pub pair_text : {A B : Type 0} → (A → List ℕ) → (B → List ℕ) → A × B → List ℕ
pair_text a b p = a p.0 ++ b p.1

abbrev pub IsPair : {A B : Type 0} → (A → Type 0) → (B → Type 0) → A × B → Type 0
IsPair a b p = a p.0 × b p.1

-- a flag, and the value where there is one
abbrev pub option_text : {A : Type 0} → (A → List ℕ) → Option A → List ℕ
option_text a None = flag_text false
option_text a (Some v) = flag_text true ++ a v

abbrev pub IsOption : {A : Type 0} → (A → Type 0) → Option A → Type 0
IsOption a None = Unit {0}
IsOption a (Some v) = a v

-- how many, and each
abbrev pub list_text : {A : Type 0} → (A → List ℕ) → List A → List ℕ
list_text a vs = number_text (length vs) ++ flat_map a vs

pub record IsList {A : Type 0} (a : A → Type 0) (vs : List A) : Type 0 where
  pub few : IsNumber (length vs)
  pub each : AllByRecursion a vs

-- how many in four bytes, and each position, ascending; none is no set
abbrev pub set_text : List ℕ → List ℕ
set_text ps = count_text (length ps) ++ flat_map number_text ps

pub record IsSet (ps : List ℕ) : Type 0 where
  pub some : 0 < length ps
  pub few : IsCount (length ps)
  pub each : AllByRecursion IsNumber ps
  pub ascending : IsStrictlyIncreasing ps

-- the bytes begin with the texts of so many values, and `rest` is behind them
pub record BeginsWithAll {T : Type 0} (text : T → List ℕ) (form : T → Type 0) (count : ℕ) (bytes : List ℕ) (vs : List T) (rest : List ℕ) : Type 0 where
  pub formed : AllByRecursion form vs
  pub many : length vs ≡ count
  pub whole : bytes ≡ flat_map text vs ++ rest

-- they do not begin with so many
abbrev pub BeginsWithFewer : {T : Type 0} → (T → List ℕ) → (T → Type 0) → ℕ → List ℕ → Type 0
BeginsWithFewer {T} text form count bytes = (vs : List T) (rest : List ℕ) → AllByRecursion form vs → length vs ≡ count → bytes ≡ flat_map text vs ++ rest → ⊥
