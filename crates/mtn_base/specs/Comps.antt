-- Components and paths as text. The rules are Monotone's for file names, but for the limit of its length and the bytes that
-- are refused, which are our choice.
use Rattle.std.specs.Prelude.{◌≡◌, ◌<◌, ◌≤◌, ◌==◌, ◌||◌, ℕ, nat_lt, not, Bool, true, false, List, [], ◌∷◌, length, codes, bytes_eq}
use Rattle.std.specs.List.{list_all}
use Rattle.std.specs.Str.{IsUtf8}
use Rattle.mtn_base.specs.declared.limits.TheConstants.{MAX_COMP}

-- `.` and `..`
abbrev pub is_dots : List ℕ → Bool
is_dots text = bytes_eq text (codes ".") || bytes_eq text (codes "..")

-- no control byte, no slash, no backslash, no DEL
abbrev pub is_plain_byte : ℕ → Bool
is_plain_byte b = not (nat_lt b 32 || b == 47 || b == 92 || b == 127)

-- the bytes of a component
pub record IsComp (text : List ℕ) : Type 0 where
  pub some : 0 < length text
  pub no_dots : is_dots text ≡ false
  pub short : length text ≤ MAX_COMP
  pub plain : list_all is_plain_byte text ≡ true
  pub utf8 : IsUtf8 text

-- the components of a path
abbrev pub AreComps : List (List ℕ) → Type 0
AreComps [] = Unit {0}
AreComps (c ∷ cs) = IsComp c × AreComps cs
