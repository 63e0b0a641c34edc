-- Words that are paths.
use Rattle.std.specs.Prelude.{◌&&◌, not, nat_lt, nat_le, if◌then◌else◌}
use Rattle.std.specs.List.{list_all}
use Rattle.std.specs.Str.{IsUtf8, is_utf8}
use Rattle.std.proofs.Common.{◌≡◌, ◌<◌, ◌≤◌, ℕ, Bool, true, false, List, [], ◌∷◌, length, Some, None, refl, sym, ap, ◌∙◌, inl, inr, arith}
use Rattle.std.proofs.lemmas.Bool.Decides.{nat_tests}
use Rattle.std.proofs.lemmas.Str.{IsUtf8-from_is_utf8, is_utf8-from_IsUtf8}
use Rattle.mtn_base.specs.Comps.{AreComps, IsComp, is_dots, is_plain_byte}
use Rattle.mtn_base.specs.Paths.{IsCompFault, IsFirstFault, IsPathFault, path_text, pieces_of}
use Rattle.mtn_base.specs.declared.path.PathError.{PathError}
use Rattle.mtn_base.specs.declared.path.PathError.TheVariants.{Empty, Dots, TooLong, BadByte, NoMemory}
use Rattle.mtn_changes.proofs.PathText.{pieces_back}
use Rattle.mtn_words.specs.Positionals.{is_comp, path_in, read_path}

some_length : (n : ℕ) → 0 < n → nat_lt 0 n ≡ true
some_length n lt = grind (arith, nat_tests)

short_length : (n : ℕ) → n ≤ 255 → nat_le n 255 ≡ true
short_length n le = grind (arith, nat_tests)

long_length : (n : ℕ) → 255 < n → nat_le n 255 ≡ false
long_length n lt = grind (arith, nat_tests)

-- the test of a component passes
comp_passes : (c : List ℕ) → IsComp c → is_comp c ≡ true
comp_passes c is =
    ap (λ b. b && (not (is_dots c) && (nat_le (length c) 255 && (list_all is_plain_byte c && is_utf8 c)))) (some_length (length c) is.some)
    ∙ ap (λ b. not b && (nat_le (length c) 255 && (list_all is_plain_byte c && is_utf8 c))) is.no_dots
    ∙ ap (λ b. b && (list_all is_plain_byte c && is_utf8 c)) (short_length (length c) is.short)
    ∙ ap (λ b. b && is_utf8 c) is.plain
    ∙ is_utf8-from_IsUtf8 c is.utf8

and_false : (a : Bool) → (a && false) ≡ false
and_false true = refl
and_false false = refl

no_utf8 : (c : List ℕ) (b : Bool) → is_utf8 c ≡ b → (IsUtf8 c → ⊥) → b ≡ false
no_utf8 c true is bad = absurd (bad (IsUtf8-from_is_utf8 c is))
no_utf8 c false is bad = refl

abbrev pub IsReal : PathError → Type 0
IsReal NoMemory = ⊥
IsReal e = Unit {0}

last_false : (c : List ℕ) → (list_all is_plain_byte c && is_utf8 c) ≡ false → is_comp c ≡ false
last_false c last =
    ap (λ b. nat_lt 0 (length c) && (not (is_dots c) && (nat_le (length c) 255 && b))) last
    ∙ ap (λ b. nat_lt 0 (length c) && (not (is_dots c) && b)) (and_false (nat_le (length c) 255))
    ∙ ap (λ b. nat_lt 0 (length c) && b) (and_false (not (is_dots c)))
    ∙ and_false (nat_lt 0 (length c))

-- and that of another text fails
comp_fails : (e : PathError) (c : List ℕ) → IsReal e → IsCompFault e c → is_comp c ≡ false
comp_fails Empty c real fault = ap is_comp fault
comp_fails Dots c real fault = ap (λ b. nat_lt 0 (length c) && (not b && (nat_le (length c) 255 && (list_all is_plain_byte c && is_utf8 c)))) fault ∙ and_false (nat_lt 0 (length c))
comp_fails TooLong c real fault =
    ap (λ b. nat_lt 0 (length c) && (not (is_dots c) && (b && (list_all is_plain_byte c && is_utf8 c)))) (long_length (length c) fault)
    ∙ ap (λ b. nat_lt 0 (length c) && b) (and_false (not (is_dots c))) ∙ and_false (nat_lt 0 (length c))
comp_fails BadByte c real fault = elim fault.3 [
  | inl e ↦ last_false c (ap (λ b. b && is_utf8 c) e)
  | inr bad ↦ last_false c (ap (λ b. list_all is_plain_byte c && b) (no_utf8 c (is_utf8 c) refl bad) ∙ and_false (list_all is_plain_byte c))
]
comp_fails NoMemory c real fault = absurd real

all_pass : (cs : List (List ℕ)) → AreComps cs → list_all is_comp cs ≡ true
all_pass [] all = refl
all_pass (c ∷ cs) all = ap (λ b. b && list_all is_comp cs) (comp_passes c all.0) ∙ all_pass cs all.1

some_fails : (e : PathError) (cs : List (List ℕ)) → IsReal e → IsFirstFault e cs → list_all is_comp cs ≡ false
some_fails e [] real fault = absurd fault
some_fails e (c ∷ cs) real fault = elim fault [
  | inl f ↦ ap (λ b. b && list_all is_comp cs) (comp_fails e c real f)
  | inr more ↦ ap (λ b. is_comp c && b) (some_fails e cs real more.1) ∙ and_false (is_comp c)
]

in_pieces : (text : List ℕ) (c : List ℕ) (cs : List (List ℕ)) → IsComp c → pieces_of text ≡ c ∷ cs → AreComps (c ∷ cs) → path_in text (pieces_of text) ≡ Some (c ∷ cs)
in_pieces [] c cs is pieces all = absurd (let none : [] ≡ c = let t : [] ∷ [] ≡ c ∷ cs = pieces in cc in omega (arith, is.some, ap length none))
in_pieces (b ∷ bs) c cs is pieces all = ap (path_in (b ∷ bs)) pieces ∙ ap (λ t. if t then Some (c ∷ cs) else None) (all_pass (c ∷ cs) all)

-- a text that was read
pub path_read : (text : List ℕ) (path : List (List ℕ)) → path_text path ≡ text → AreComps path → read_path text ≡ Some path
path_read text [] is all = ap read_path (sym is)
path_read text (c ∷ cs) is all = in_pieces text c cs all.0 (ap pieces_of (sym is) ∙ pieces_back c cs all) all

split_fault : (e : PathError) (text : List ℕ) → IsReal e → IsPathFault e text → (0 < length text) × IsFirstFault e (pieces_of text)
split_fault Empty text real fault = fault
split_fault Dots text real fault = fault
split_fault TooLong text real fault = fault
split_fault BadByte text real fault = fault
split_fault NoMemory text real fault = absurd real

out_of : (text : List ℕ) → 0 < length text → list_all is_comp (pieces_of text) ≡ false → read_path text ≡ None
out_of [] some fails = absurd (omega (arith, some))
out_of (b ∷ bs) some fails = ap (λ t. if t then Some (pieces_of (b ∷ bs)) else None) fails

-- a text that is no path
pub path_refused : (e : PathError) (text : List ℕ) → IsReal e → IsPathFault e text → read_path text ≡ None
path_refused e text real fault = let f = split_fault e text real fault in out_of text f.0 (some_fails e (pieces_of text) real f.1)
