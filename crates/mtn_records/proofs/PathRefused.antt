-- A text that is no path spells none.
use Rattle.std.proofs.Common.{◌≡◌, ℕ, ◌<◌, List, [], ◌∷◌, length, ap, ◌∙◌, subst, inl, inr, arith}
use Rattle.mtn_base.specs.Comps.{IsComp, AreComps}
use Rattle.mtn_base.specs.Paths.{path_text, pieces_of, IsCompFault, IsFirstFault, IsPathFault}
use Rattle.mtn_base.specs.declared.path.PathError.{PathError}
use Rattle.mtn_base.specs.declared.path.PathError.TheVariants.{Empty, Dots, TooLong, BadByte, NoMemory}
use Rattle.mtn_records.specs.PathTold.{pieces}

-- not want of memory
abbrev pub IsReal : PathError → Type 0
IsReal NoMemory = ⊥
IsReal e = Unit {0}

no_comp_fault : (e : PathError) (c : List ℕ) → IsReal e → IsComp c → IsCompFault e c → ⊥
no_comp_fault Empty c real is fault = omega (arith, is.some, ap length fault)
no_comp_fault Dots c real is fault = cc (is.no_dots)
no_comp_fault TooLong c real is fault = omega (arith, is.short)
no_comp_fault BadByte c real is fault = elim fault.3 [ inl e ↦ cc (is.plain) | inr bad ↦ bad is.utf8 ]
no_comp_fault NoMemory c real is fault = real

no_first_fault : (e : PathError) (cs : List (List ℕ)) → IsReal e → AreComps cs → IsFirstFault e cs → ⊥
no_first_fault e [] real all fault = fault
no_first_fault e (c ∷ cs) real all fault = elim fault [ inl f ↦ no_comp_fault e c real all.0 f | inr more ↦ no_first_fault e cs real all.1 more.1 ]

-- what a fault says of the text
split_fault : (e : PathError) (text : List ℕ) → IsReal e → IsPathFault e text → (0 < length text) × IsFirstFault e (pieces_of text)
split_fault Empty text real fault = fault
split_fault Dots text real fault = fault
split_fault TooLong text real fault = fault
split_fault BadByte text real fault = fault
split_fault NoMemory text real fault = absurd real

-- a text that was refused, but for want of memory
pub refused_text : (e : PathError) (text : List ℕ) (path : List (List ℕ)) → IsReal e → IsPathFault e text → AreComps path → text ≡ path_text path → ⊥
refused_text e text [] real fault all same = omega (arith, (split_fault e text real fault).0, ap length same)
refused_text e text (c ∷ cs) real fault all same =
    let is : pieces_of text ≡ c ∷ cs = ap pieces_of same ∙ pieces c cs all in
    no_first_fault e (c ∷ cs) real all (subst (IsFirstFault e) is (split_fault e text real fault).1)
