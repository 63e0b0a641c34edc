-- A path is told by its text.
use Rattle.std.proofs.Common.{◌≡◌, refl, sym, ap, ◌∙◌, ℕ, true, false, List, [], ◌∷◌, length, arith}
use Rattle.std.specs.Prelude.{◌==◌, ◌||◌, nat_lt, All}
use Rattle.std.specs.List.{list_all}
use Rattle.std.proofs.lemmas.Bool.{and_parts, or_parts, not-true}
use Rattle.std.proofs.lemmas.List.Elements.{All-nil, All-cons}
use Rattle.std.proofs.lemmas.List.Splits.{slice_split_at, slice_split_none}
use Rattle.mtn_base.specs.Comps.{AreComps, is_plain_byte}
use Rattle.mtn_base.specs.Paths.{path_text, pieces_of}

-- no slash in a component
no_slash : (c : List ℕ) → list_all is_plain_byte c ≡ true → All (λ (b : ℕ). b == 47 ≡ false) c
no_slash [] all = All-nil (λ (b : ℕ). b == 47 ≡ false)
no_slash (b ∷ c) all =
    let parts = and_parts (is_plain_byte b) (list_all is_plain_byte c) all in
    let plain = not-true (nat_lt b 32 || b == 47 || b == 92 || b == 127) parts.0 in
    let p = or_parts (nat_lt b 32 || b == 47 || b == 92) (b == 127) plain in
    let o = or_parts (nat_lt b 32 || b == 47) (b == 92) p.0 in
    let q = or_parts (nat_lt b 32) (b == 47) o.0 in
    All-cons (λ (x : ℕ). x == 47 ≡ false) b c q.1 (no_slash c parts.1)

-- the pieces of its text are its components
pub pieces : (c : List ℕ) (cs : List (List ℕ)) → AreComps (c ∷ cs) → pieces_of (path_text (c ∷ cs)) ≡ c ∷ cs
pieces c [] all = slice_split_none (λ (b : ℕ). b == 47) c (no_slash c all.0.plain)
pieces c (d ∷ cs) all =
    slice_split_at (λ (b : ℕ). b == 47) c 47 (path_text (d ∷ cs)) (no_slash c all.0.plain) refl ∙ ap (λ (xs : List (List ℕ)). c ∷ xs) (pieces d cs all.1)

abbrev pub first_or : List (List ℕ) → List ℕ
first_or [] = []
first_or (c ∷ cs) = c

-- the root's text is empty, and that of no other path
no_root : (d : List ℕ) (ds : List (List ℕ)) → AreComps (d ∷ ds) → path_text (d ∷ ds) ≡ [] → ⊥
no_root d ds all e = let p : d ∷ ds ≡ [] ∷ [] = sym (pieces d ds all) ∙ ap pieces_of e ∙ slice_split_none (λ (b : ℕ). b == 47) [] (All-nil (λ (b : ℕ). b == 47 ≡ false)) in
    let empty : d ≡ [] = ap first_or p in omega (arith, all.0.some, ap length empty)

pub path_told : (p q : List (List ℕ)) → AreComps p → AreComps q → path_text p ≡ path_text q → p ≡ q
path_told [] [] a b e = refl
path_told (c ∷ cs) (d ∷ ds) a b e = sym (pieces c cs a) ∙ ap pieces_of e ∙ pieces d ds b
path_told [] (d ∷ ds) a b e = absurd (no_root d ds b (sym e))
path_told (c ∷ cs) [] a b e = absurd (no_root c cs a e)
