-- Each text spells resolutions, or has a fault.
use Rattle.std.specs.Prelude.{map}
use Rattle.std.proofs.Common.{◌≡◌, ◌≢◌, ◌⊎◌, ◌+◌, ℕ, Bool, true, false, List, [], ◌∷◌, ◌++◌, length, append_assoc, append-nil, Option, Some, None, inl, inr, refl, sym, ◌∙◌, ap, subst}
use Rattle.std.proofs.lemmas.List.{map-append}
use Rattle.mtn_basic_io.specs.Spelling.{LineText, AreStanzas, spelling}
use Rattle.mtn_answers.proofs.Deciding.{tell_two}
use Rattle.mtn_roster.specs.declared.entry.Slot.{Slot}
use Rattle.mtn_roster.specs.declared.entry.Slot.TheVariants.{Root, Below}
use Rattle.mtn_resolve.specs.declared.resolution.Resolution.{Resolution}
use Rattle.mtn_resolve.specs.declared.resolution.Resolution.TheVariants.{Drop, Place, Content, AttrSet, AttrClear, Keep}
use Rattle.mtn_resolve.specs.declared.error.ResolveTextError.{ResolveTextError}
use Rattle.mtn_resolve.specs.declared.error.ResolveTextError.TheVariants.{NotText, BadStanza, BadOrder, Repeated, NoMemory}
use Rattle.mtn_resolve.specs.Subjects.{is_repeat}
use Rattle.mtn_resolve.specs.Texts.{stanza_of, header, IsResolution, IsSlot, IsRead, AreResolutions, IsResolutionsText, IsFirstFault, IsLaterFault, StandsAt, IsResolutionsFault}
use Rattle.mtn_resolve.proofs.Texting.{more}
use Rattle.mtn_merge_laws.proofs.Decoding.{resolution_in, back}
use Rattle.mtn_merge_laws.proofs.Telling.{tell_stanza, tell_comps, tell_comp, tell_key}
use Rattle.mtn_merge_laws.proofs.Texts.{stanzas_or_offset}

tell_slot : (s : Slot) → Dec (IsSlot s)
tell_slot Root = yes tt
tell_slot (Below parent name) = tell_two (tell_comps parent.path) (tell_comp name)

tell_resolution : (r : Resolution) → Dec (IsResolution r)
tell_resolution (Drop node) = tell_comps node.path
tell_resolution (Place node slot) = tell_two (tell_comps node.path) (tell_slot slot)
tell_resolution (Content node pick) = tell_comps node.path
tell_resolution (AttrSet node key value) = tell_two (tell_comps node.path) (tell_key key)
tell_resolution (AttrClear node key) = tell_two (tell_comps node.path) (tell_key key)
tell_resolution (Keep node) = tell_comps node.path

-- the resolution of a stanza, or that it spells none
read_resolution : (s : List LineText) → (o : Option Resolution) × IsRead s o
read_resolution s = by (resolution_in s) refl
  where
    none : (o : Option Resolution) → resolution_in s ≡ o → ((r : Resolution) → o ≡ Some r → IsResolution r → s ≡ stanza_of r → ⊥) → IsRead s None
    none o e never r is same = never r (sym e ∙ ap resolution_in same ∙ back r is) is same

    by : (o : Option Resolution) → resolution_in s ≡ o → (o : Option Resolution) × IsRead s o
    by None e = (None, none None e (λ r f is same. cc))
    by (Some r) e = elim (tell_two (tell_resolution r) (tell_stanza s (stanza_of r))) [
      | yes t ↦ (Some r, (t.0, t.1))
      | no n ↦ (None, none (Some r) e (λ q f is same. let g : r ≡ q = cc in n (subst IsResolution (sym g) is, same ∙ ap stanza_of (sym g))))
    ]

module _ (ss : List (List LineText)) where
  -- what a list of stanzas comes to
  abbrev IsDecided : Type 0
  IsDecided = ((rs : List Resolution) × AreResolutions [] rs × (ss ≡ header ∷ map stanza_of rs)) ⊎ ((e : ResolveTextError) × (e ≢ NoMemory) × (IsFirstFault ss e ⊎ IsLaterFault ss e))

  stands : (before : List Resolution) (s : List LineText) (rest : List (List LineText)) → AreResolutions [] before → ss ≡ header ∷ (map stanza_of before ++ s ∷ rest) → StandsAt ss (length before + 2) before s
  stands before s rest lawful whole = record { rest = rest; lawful = lawful; whole = whole; place = refl }

  next : (before : List Resolution) (r : Resolution) (rest : List (List LineText)) → ss ≡ header ∷ (map stanza_of before ++ stanza_of r ∷ rest) → ss ≡ header ∷ (map stanza_of (before ++ r ∷ []) ++ rest)
  next before r rest e = e ∙ ap (λ l. header ∷ l) (sym (append_assoc (map stanza_of before) (stanza_of r ∷ []) rest) ∙ ap (λ l. l ++ rest) (sym (map-append stanza_of before (r ∷ []))))

  from : (rest : List (List LineText)) (before : List Resolution) → AreResolutions [] before → ss ≡ header ∷ (map stanza_of before ++ rest) → IsDecided
  from [] before lawful whole = inl (before, lawful, whole ∙ ap (λ l. header ∷ l) (append-nil (map stanza_of before)))
  from (s ∷ rest) before lawful whole = at (λ r is fresh e. from rest (before ++ r ∷ []) (more [] before r lawful is fresh) (next before r rest (whole ∙ ap (λ t. header ∷ (map stanza_of before ++ t ∷ rest)) e))) (tell_stanza s header) (read_resolution s)
    where
      behind : ((r : Resolution) → IsResolution r → is_repeat before r ≡ false → s ≡ stanza_of r → IsDecided) → (r : Resolution) → IsResolution r → s ≡ stanza_of r → (b : Bool) → is_repeat before r ≡ b → IsDecided
      behind go r is e true again =
          inr (Repeated (length before + 2), (λ f. cc f), inr (before, r, stands before (stanza_of r) rest lawful (whole ∙ ap (λ t. header ∷ (map stanza_of before ++ t ∷ rest)) e), is, again))
      behind go r is e false fresh = go r is fresh e

      at : ((r : Resolution) → IsResolution r → is_repeat before r ≡ false → s ≡ stanza_of r → IsDecided) → Dec (s ≡ header) → (o : Option Resolution) × IsRead s o → IsDecided
      at go (yes e) t = inr (BadOrder (length before + 2), (λ f. cc f), inr (before, stands before header rest lawful (whole ∙ ap (λ u. header ∷ (map stanza_of before ++ u ∷ rest)) e)))
      at go (no n) (None, none) = inr (BadStanza (length before + 2), (λ f. cc f), inr (before, s, stands before s rest lawful whole, (none, n)))
      at go (no n) (Some r, is) = behind go r is.0 is.1 (is_repeat before r) refl

decided : (ss : List (List LineText)) → IsDecided ss
decided [] = inr (BadOrder 1, (λ f. cc f), inl refl)
decided (s ∷ rest) = at (tell_stanza s header) (read_resolution s)
  where
    at : Dec (s ≡ header) → (o : Option Resolution) × IsRead s o → IsDecided (s ∷ rest)
    at (yes e) t = from (s ∷ rest) rest [] tt (ap (λ u. u ∷ rest) e)
    at (no n) (None, none) = inr (BadStanza 1, (λ f. cc f), inl (refl, (none, n)))
    at (no n) (Some r, is) = inr (BadOrder 1, (λ f. cc f), inl (refl, (r, is.0, is.1)))

fault_of : (text : List ℕ) (ss : List (List LineText)) (e : ResolveTextError) → AreStanzas ss → text ≡ spelling ss → e ≢ NoMemory → IsFirstFault ss e ⊎ IsLaterFault ss e → IsResolutionsFault text e
fault_of text ss (NotText offset) ok same some f = absurd (none f)
  where
    none : IsFirstFault ss (NotText offset) ⊎ IsLaterFault ss (NotText offset) → ⊥
    none (inl g) = first ss g
      where
        first : (ss : List (List LineText)) → IsFirstFault ss (NotText offset) → ⊥
        first [] g = g
        first (s ∷ ss) g = g
    none (inr g) = g
fault_of text ss (BadStanza n) ok same some f = (ss, ok, same, f)
fault_of text ss (BadOrder n) ok same some f = (ss, ok, same, f)
fault_of text ss (Repeated n) ok same some f = (ss, ok, same, f)
fault_of text ss NoMemory ok same some f = tt

pub some_reading : (text : List ℕ) → ((rs : List Resolution) × IsResolutionsText text rs × AreStanzas (header ∷ map stanza_of rs)) ⊎ ((e : ResolveTextError) × (e ≢ NoMemory) × IsResolutionsFault text e)
some_reading text = elim (stanzas_or_offset text) [
  | inl t ↦ by t.0 t.1 t.2 (decided t.0)
  | inr t ↦ inr (NotText t.0, (λ f. cc f), t.1)
]
  where
    by : (ss : List (List LineText)) → AreStanzas ss → text ≡ spelling ss → IsDecided ss → ((rs : List Resolution) × IsResolutionsText text rs × AreStanzas (header ∷ map stanza_of rs)) ⊎ ((e : ResolveTextError) × (e ≢ NoMemory) × IsResolutionsFault text e)
    by ss ok same (inl t) = inl (t.0, record { lawful = t.1; spelled = same ∙ ap spelling t.2 }, subst AreStanzas t.2 ok)
    by ss ok same (inr t) = inr (t.0, t.1, fault_of text ss t.0 ok same t.1 t.2)
