-- A text that is no path spells none.
use Rattle.std.proofs.Common.{◌≡◌, ℕ, ◌<◌, true, false, List, [], ◌∷◌, length, None, refl, ap, ◌∙◌, subst, inl, inr, arith}
use Rattle.std.specs.Prelude.{◌==◌, ◌||◌, nat_lt, All}
use Rattle.std.specs.List.{list_all}
use Rattle.std.proofs.lemmas.Bool.{and_parts, or_parts, not-true}
use Rattle.std.proofs.lemmas.List.Elements.{All-nil, All-cons}
use Rattle.std.proofs.lemmas.List.Splits.{slice_split_at, slice_split_none}
use Rattle.mtn_base.specs.Comps.{IsComp, AreComps, is_plain_byte}
use Rattle.mtn_base.specs.Paths.{path_text, pieces_of, IsCompFault, IsFirstFault, IsPathFault}
use Rattle.mtn_base.specs.declared.path.PathError.{PathError}
use Rattle.mtn_base.specs.declared.path.PathError.TheVariants.{Empty, Dots, TooLong, BadByte, NoMemory}
use Rattle.mtn_changes.specs.Stanzas.{IsPathText}

-- no slash in a component
no_slash : (c : List ℕ) → list_all is_plain_byte c ≡ true → All (λ (b : ℕ). b == 47 ≡ false) c
no_slash [] all = All-nil (λ (b : ℕ). b == 47 ≡ false)
no_slash (b ∷ c) all =
    let parts = and_parts (is_plain_byte b) (list_all is_plain_byte c) all in
    let plain = not-true (nat_lt b 32 || b == 47 || b == 92 || b == 127) parts.0 in
    let p = or_parts (nat_lt b 32 || b == 47 || b == 92) (b == 127) plain in
    let o = or_parts (nat_lt b 32 || b == 47) (b == 92) p.0 in
    let q = or_parts (nat_lt b 32) (b == 47) o.0 in
    All-cons (λ (x : ℕ). x == 47 ≡ false) b c q.1 (no_slash c parts.1)

-- the components of a path are the pieces of its text
pub pieces_back : (c : List ℕ) (cs : List (List ℕ)) → AreComps (c ∷ cs) → pieces_of (path_text (c ∷ cs)) ≡ c ∷ cs
pieces_back c [] all = slice_split_none (λ (b : ℕ). b == 47) c (no_slash c all.0.plain)
pieces_back c (d ∷ cs) all =
    slice_split_at (λ (b : ℕ). b == 47) c 47 (path_text (d ∷ cs)) (no_slash c all.0.plain) refl ∙ ap (λ (xs : List (List ℕ)). c ∷ xs) (pieces_back d cs all.1)

abbrev pub IsReal : PathError → Type 0
IsReal NoMemory = ⊥
IsReal e = Unit {0}

no_comp_fault : (e : PathError) (c : List ℕ) → IsReal e → IsComp c → IsCompFault e c → ⊥
no_comp_fault Empty c real is fault = omega (arith, is.some, ap length fault)
no_comp_fault Dots c real is fault = cc (is.no_dots)
no_comp_fault TooLong c real is fault = omega (arith, is.short)
no_comp_fault BadByte c real is fault = elim fault.3 [ inl e ↦ cc (is.plain) | inr bad ↦ bad is.utf8 ]
no_comp_fault NoMemory c real is fault = real

no_first_fault : (e : PathError) (cs : List (List ℕ)) → IsReal e → AreComps cs → IsFirstFault e cs → ⊥
no_first_fault e [] real all fault = fault
no_first_fault e (c ∷ cs) real all fault = elim fault [ inl f ↦ no_comp_fault e c real all.0 f | inr more ↦ no_first_fault e cs real all.1 more.1 ]

-- what a fault says of the text
split_fault : (e : PathError) (text : List ℕ) → IsReal e → IsPathFault e text → (0 < length text) × IsFirstFault e (pieces_of text)
split_fault Empty text real fault = fault
split_fault Dots text real fault = fault
split_fault TooLong text real fault = fault
split_fault BadByte text real fault = fault
split_fault NoMemory text real fault = absurd real

no_path : (e : PathError) (text : List ℕ) (path : List (List ℕ)) → IsReal e → IsPathFault e text → AreComps path → text ≡ path_text path → ⊥
no_path e text [] real fault all same = omega (arith, (split_fault e text real fault).0, ap length same)
no_path e text (c ∷ cs) real fault all same =
    let pieces : pieces_of text ≡ c ∷ cs = ap pieces_of same ∙ pieces_back c cs all in
    no_first_fault e (c ∷ cs) real all (subst (IsFirstFault e) pieces (split_fault e text real fault).1)

-- a text that was refused, but for want of memory
pub refused_text : (e : PathError) (text : List ℕ) → IsReal e → IsPathFault e text → IsPathText text None
refused_text e text real fault path all same = no_path e text path real fault all same
