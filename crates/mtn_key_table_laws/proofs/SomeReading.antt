-- Each text spells a key table, or has a fault; so each payload comes to something.
use Rattle.std.specs.Prelude.{map}
use Rattle.std.proofs.Common.{◌≡◌, ◌≢◌, ◌⊎◌, ◌+◌, ℕ, Bool, true, false, List, [], ◌∷◌, ◌++◌, length, append_assoc, append-nil, Option, Some, None, inl, inr, refl, sym, ◌∙◌, ap, subst}
use Rattle.std.proofs.lemmas.List.{map-append}
use Rattle.mtn_basic_io.specs.Spelling.{LineText, AreStanzas, spelling}
use Rattle.mtn_answers.proofs.Deciding.{tell_two}
use Rattle.mtn_certs.specs.Certificates.{is_field}
use Rattle.mtn_certs.specs.declared.cert.KeyName.{KeyName}
use Rattle.mtn_certs.specs.declared.key_error.KeyTextError.{KeyTextError}
use Rattle.mtn_certs.specs.declared.key_error.KeyTextError.TheVariants.{NotText, BadStanza, BadOrder, Repeated, NoMemory}
use Rattle.mtn_certs.specs.KeyTables.{stanza_of, header, is_repeat, IsKeyName, IsRead, AreKeyNames, IsKeysText, IsFirstFault, IsLaterFault, StandsAt, IsKeysFault}
use Rattle.mtn_certs.proofs.KeyTexting.{more}
use Rattle.mtn_merge_laws.proofs.Telling.{tell_stanza, tell_test}
use Rattle.mtn_merge_laws.proofs.Texts.{stanzas_or_offset}
use Rattle.mtn_key_table_laws.proofs.Decoding.{key_in, back}

tell_key_name : (k : KeyName) → Dec (IsKeyName k)
tell_key_name k = tell_test (is_field k.name) true

-- the key name of a stanza, or that it spells none
read_key : (s : List LineText) → (o : Option KeyName) × IsRead s o
read_key s = by (key_in s) refl
  where
    none : (o : Option KeyName) → key_in s ≡ o → ((k : KeyName) → o ≡ Some k → IsKeyName k → s ≡ stanza_of k → ⊥) → IsRead s None
    none o e never k is same = never k (sym e ∙ ap key_in same ∙ back k) is same

    by : (o : Option KeyName) → key_in s ≡ o → (o : Option KeyName) × IsRead s o
    by None e = (None, none None e (λ k f is same. cc))
    by (Some k) e = elim (tell_two (tell_key_name k) (tell_stanza s (stanza_of k))) [
      | yes t ↦ (Some k, (t.0, t.1))
      | no n ↦ (None, none (Some k) e (λ q f is same. let g : k ≡ q = cc in n (subst IsKeyName (sym g) is, same ∙ ap stanza_of (sym g))))
    ]

module _ (ss : List (List LineText)) where
  -- what a list of stanzas comes to
  abbrev IsDecided : Type 0
  IsDecided = ((rs : List KeyName) × AreKeyNames [] rs × (ss ≡ header ∷ map stanza_of rs)) ⊎ ((e : KeyTextError) × (e ≢ NoMemory) × (IsFirstFault ss e ⊎ IsLaterFault ss e))

  stands : (before : List KeyName) (s : List LineText) (rest : List (List LineText)) → AreKeyNames [] before → ss ≡ header ∷ (map stanza_of before ++ s ∷ rest) → StandsAt ss (length before + 2) before s
  stands before s rest lawful whole = record { rest = rest; lawful = lawful; whole = whole; place = refl }

  next : (before : List KeyName) (r : KeyName) (rest : List (List LineText)) → ss ≡ header ∷ (map stanza_of before ++ stanza_of r ∷ rest) → ss ≡ header ∷ (map stanza_of (before ++ r ∷ []) ++ rest)
  next before r rest e = e ∙ ap (λ l. header ∷ l) (sym (append_assoc (map stanza_of before) (stanza_of r ∷ []) rest) ∙ ap (λ l. l ++ rest) (sym (map-append stanza_of before (r ∷ []))))

  from : (rest : List (List LineText)) (before : List KeyName) → AreKeyNames [] before → ss ≡ header ∷ (map stanza_of before ++ rest) → IsDecided
  from [] before lawful whole = inl (before, lawful, whole ∙ ap (λ l. header ∷ l) (append-nil (map stanza_of before)))
  from (s ∷ rest) before lawful whole = at (λ r is fresh e. from rest (before ++ r ∷ []) (more [] before r lawful is fresh) (next before r rest (whole ∙ ap (λ t. header ∷ (map stanza_of before ++ t ∷ rest)) e))) (tell_stanza s header) (read_key s)
    where
      behind : ((r : KeyName) → IsKeyName r → is_repeat before r ≡ false → s ≡ stanza_of r → IsDecided) → (r : KeyName) → IsKeyName r → s ≡ stanza_of r → (b : Bool) → is_repeat before r ≡ b → IsDecided
      behind go r is e true again =
          inr (Repeated (length before + 2), (λ f. cc f), inr (before, r, stands before (stanza_of r) rest lawful (whole ∙ ap (λ t. header ∷ (map stanza_of before ++ t ∷ rest)) e), is, again))
      behind go r is e false fresh = go r is fresh e

      at : ((r : KeyName) → IsKeyName r → is_repeat before r ≡ false → s ≡ stanza_of r → IsDecided) → Dec (s ≡ header) → (o : Option KeyName) × IsRead s o → IsDecided
      at go (yes e) t = inr (BadOrder (length before + 2), (λ f. cc f), inr (before, stands before header rest lawful (whole ∙ ap (λ u. header ∷ (map stanza_of before ++ u ∷ rest)) e)))
      at go (no n) (None, none) = inr (BadStanza (length before + 2), (λ f. cc f), inr (before, s, stands before s rest lawful whole, (none, n)))
      at go (no n) (Some r, is) = behind go r is.0 is.1 (is_repeat before r) refl

decided : (ss : List (List LineText)) → IsDecided ss
decided [] = inr (BadOrder 1, (λ f. cc f), inl refl)
decided (s ∷ rest) = at (tell_stanza s header) (read_key s)
  where
    at : Dec (s ≡ header) → (o : Option KeyName) × IsRead s o → IsDecided (s ∷ rest)
    at (yes e) t = from (s ∷ rest) rest [] tt (ap (λ u. u ∷ rest) e)
    at (no n) (None, none) = inr (BadStanza 1, (λ f. cc f), inl (refl, (none, n)))
    at (no n) (Some r, is) = inr (BadOrder 1, (λ f. cc f), inl (refl, (r, is.0, is.1)))

fault_of : (text : List ℕ) (ss : List (List LineText)) (e : KeyTextError) → AreStanzas ss → text ≡ spelling ss → e ≢ NoMemory → IsFirstFault ss e ⊎ IsLaterFault ss e → IsKeysFault text e
fault_of text ss (NotText offset) ok same some f = absurd (none f)
  where
    none : IsFirstFault ss (NotText offset) ⊎ IsLaterFault ss (NotText offset) → ⊥
    none (inl g) = first ss g
      where
        first : (ss : List (List LineText)) → IsFirstFault ss (NotText offset) → ⊥
        first [] g = g
        first (s ∷ ss) g = g
    none (inr g) = g
fault_of text ss (BadStanza n) ok same some f = (ss, ok, same, f)
fault_of text ss (BadOrder n) ok same some f = (ss, ok, same, f)
fault_of text ss (Repeated n) ok same some f = (ss, ok, same, f)
fault_of text ss NoMemory ok same some f = tt

pub some_reading : (text : List ℕ) → ((rs : List KeyName) × IsKeysText text rs × AreStanzas (header ∷ map stanza_of rs)) ⊎ ((e : KeyTextError) × (e ≢ NoMemory) × IsKeysFault text e)
some_reading text = elim (stanzas_or_offset text) [
  | inl t ↦ by t.0 t.1 t.2 (decided t.0)
  | inr t ↦ inr (NotText t.0, (λ f. cc f), t.1)
]
  where
    by : (ss : List (List LineText)) → AreStanzas ss → text ≡ spelling ss → IsDecided ss → ((rs : List KeyName) × IsKeysText text rs × AreStanzas (header ∷ map stanza_of rs)) ⊎ ((e : KeyTextError) × (e ≢ NoMemory) × IsKeysFault text e)
    by ss ok same (inl t) = inl (t.0, record { lawful = t.1; spelled = same ∙ ap spelling t.2 }, subst AreStanzas t.2 ok)
    by ss ok same (inr t) = inr (t.0, t.1, fault_of text ss t.0 ok same t.1 t.2)
