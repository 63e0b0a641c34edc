-- A text that is no revision's has one fault at most.
use Rattle.std.proofs.Common.{◌≡◌, ◌≢◌, ◌⊎◌, ℕ, ◌+◌, ◌≤◌, List, ◌∷◌, ◌++◌, length, map, refl, sym, ap, subst, ◌∙◌, inl, inr, append_assoc, arith}
use Rattle.std.specs.List.{flat_map}
use Rattle.mtn_basic_io.specs.Spelling.{LineText, AreStanzas, spelling}
use Rattle.mtn_basic_io.specs.Begun.{IsOffset}
use Rattle.mtn_basic_io.proofs.Again.{one_form}
use Rattle.mtn_changes.specs.declared.change.Edge.{Edge}
use Rattle.mtn_changes.specs.declared.head.Head.{Head}
use Rattle.mtn_changes.specs.declared.order.Fault.{Fault}
use Rattle.mtn_changes.specs.declared.order.Fault.TheVariants as one
use Rattle.mtn_changes.specs.declared.error.ChangeTextError.{ChangeTextError}
use Rattle.mtn_changes.specs.declared.error.ChangeTextError.TheVariants.{NotText, BadStanza, BadOrder, Repeated, BadEdge, NoMemory}
use Rattle.mtn_changes.specs.Heads.{head_stanza}
use Rattle.mtn_changes.specs.Faults.{numbered_of}
use Rattle.mtn_changes.specs.ChangesText.{IsNoText}
use Rattle.mtn_changes.specs.RevisionText.{edge_stanzas, IsNextFault, IsWrongAt, EndsEarly, IsStanzasFault, IsRevisionFault}
use Rattle.mtn_changes.proofs.OneCause.{next_cause}
use Rattle.mtn_changes.proofs.SameFronts.{SameFront, fronts_meet, no_end, one_end}

-- ---- stanzas

abbrev number_of : List Head → List Edge → ℕ
number_of hs es = length hs + length (flat_map edge_stanzas es) + 1

split : (ss : List (List LineText)) (n : ℕ) (why : Fault) → (f : IsWrongAt ss n why) → ss ≡ map head_stanza f.heads ++ (flat_map edge_stanzas f.edges ++ f.stanza ∷ f.rest)
split ss n why f = f.whole ∙ append_assoc (map head_stanza f.heads) (flat_map edge_stanzas f.edges) (f.stanza ∷ f.rest)

record SameWrong (n m : ℕ) (a b : Fault) : Type 0 where
  number : n ≡ m
  why : a ≡ b

one_wrong : (ss : List (List LineText)) (n m : ℕ) (a b : Fault) → a ≢ one.NoMemory → b ≢ one.NoMemory → IsWrongAt ss n a → IsWrongAt ss m b → SameWrong n m a b
one_wrong ss n m a b na nb f g =
    let same : SameFront f.heads f.edges f.stanza g.heads g.edges g.stanza =
    fronts_meet f.heads g.heads f.edges g.edges f.stanza g.stanza f.rest g.rest a b na nb f.lawful g.lawful (sym (split ss n a f) ∙ split ss m b g) f.fault g.fault in
    let numbers : number_of f.heads f.edges ≡ number_of g.heads g.edges = ap (λ (hs : List Head). number_of hs f.edges) same.heads ∙ ap (number_of g.heads) same.edges in
    let back : IsNextFault f.heads f.edges f.stanza b =
    subst (λ (hs : List Head). IsNextFault hs f.edges f.stanza b) (sym same.heads) (subst (λ (es : List Edge). IsNextFault g.heads es f.stanza b) (sym same.edges) (subst (λ (s : List LineText). IsNextFault g.heads g.edges s b) (sym same.stanza) g.fault)) in
    record { number = f.place ∙ numbers ∙ sym g.place; why = next_cause f.heads f.edges f.stanza a b na nb f.fault back }

-- a fault is a stanza that may not follow, or an end that comes early
record Wrong (ss : List (List LineText)) (e : ChangeTextError) : Type 0 where
  number : ℕ
  why : Fault
  some : why ≢ one.NoMemory
  is : e ≡ numbered_of why number
  wrong : IsWrongAt ss number why

record Early (ss : List (List LineText)) (e : ChangeTextError) : Type 0 where
  number : ℕ
  is : e ≡ BadOrder number
  ends : EndsEarly ss number

abbrev Seen : List (List LineText) → ChangeTextError → Type 0
Seen ss e = Wrong ss e ⊎ Early ss e

seen : (ss : List (List LineText)) (e : ChangeTextError) → e ≢ NoMemory → IsStanzasFault ss e → Seen ss e
seen ss (NotText offset) some f = absurd f
seen ss (BadStanza number) some f = inl (record { number = number; why = one.BadStanza; some = λ e. cc e; is = refl; wrong = f })
seen ss (BadOrder number) some (inl f) = inl (record { number = number; why = one.BadOrder; some = λ e. cc e; is = refl; wrong = f })
seen ss (BadOrder number) some (inr f) = inr (record { number = number; is = refl; ends = f })
seen ss (Repeated number) some f = inl (record { number = number; why = one.Repeated; some = λ e. cc e; is = refl; wrong = f })
seen ss (BadEdge number) some f = inl (record { number = number; why = one.BadEdge; some = λ e. cc e; is = refl; wrong = f })
seen ss NoMemory some f = absurd (some refl)

not_both : (ss : List (List LineText)) (n m : ℕ) (why : Fault) → why ≢ one.NoMemory → EndsEarly ss n → IsWrongAt ss m why → ⊥
not_both ss n m why some f g = no_end f.heads g.heads g.edges g.stanza g.rest why some f.lawful g.lawful (sym f.whole ∙ split ss m why g) g.fault

one_early : (ss : List (List LineText)) (n m : ℕ) → EndsEarly ss n → EndsEarly ss m → n ≡ m
one_early ss n m f g = f.place ∙ ap (λ (hs : List Head). length hs + 1) (one_end f.heads g.heads f.lawful g.lawful (sym f.whole ∙ g.whole)) ∙ sym g.place

one_seen : (ss : List (List LineText)) (a b : ChangeTextError) → Seen ss a → Seen ss b → a ≡ b
one_seen ss a b (inl f) (inl g) =
    let same = one_wrong ss f.number g.number f.why g.why f.some g.some f.wrong g.wrong in
    f.is ∙ ap (numbered_of f.why) same.number ∙ ap (λ (why : Fault). numbered_of why g.number) same.why ∙ sym g.is
one_seen ss a b (inl f) (inr g) = absurd (not_both ss g.number f.number f.why f.some g.ends f.wrong)
one_seen ss a b (inr f) (inl g) = absurd (not_both ss f.number g.number g.why g.some f.ends g.wrong)
one_seen ss a b (inr f) (inr g) = f.is ∙ ap (λ (n : ℕ). BadOrder n) (one_early ss f.number g.number f.ends g.ends) ∙ sym g.is

-- ---- texts

-- the text is none of stanzas, or its stanzas have a fault
record NoStanzas (text : List ℕ) (e : ChangeTextError) : Type 0 where
  offset : ℕ
  is : e ≡ NotText offset
  none : IsNoText text offset

abbrev Told : List ℕ → ChangeTextError → Type 0
Told text e = NoStanzas text e ⊎ ((ss : List (List LineText)) × AreStanzas ss × (text ≡ spelling ss) × Seen ss e)

told : (text : List ℕ) (e : ChangeTextError) → e ≢ NoMemory → IsRevisionFault text e → Told text e
told text (NotText offset) some f = inl (record { offset = offset; is = refl; none = f })
told text (BadStanza number) some f = inr (f.0, f.1, f.2, seen f.0 (BadStanza number) some f.3)
told text (BadOrder number) some f = inr (f.0, f.1, f.2, seen f.0 (BadOrder number) some f.3)
told text (Repeated number) some f = inr (f.0, f.1, f.2, seen f.0 (Repeated number) some f.3)
told text (BadEdge number) some f = inr (f.0, f.1, f.2, seen f.0 (BadEdge number) some f.3)
told text NoMemory some f = absurd (some refl)

one_offset : (text : List ℕ) (n m : ℕ) → IsOffset text n → IsOffset text m → n ≡ m
one_offset text n m f g =
    let up : n ≤ m = g.longest n f.within f.begun in
    let down : m ≤ n = f.longest m g.within g.begun in
    omega (arith, up, down)

one_told : (text : List ℕ) (a b : ChangeTextError) → Told text a → Told text b → a ≡ b
one_told text a b (inl f) (inl g) = f.is ∙ ap (λ (n : ℕ). NotText n) (one_offset text f.offset g.offset f.none.begun g.none.begun) ∙ sym g.is
one_told text a b (inl f) (inr g) = absurd (f.none.none g.0 g.1 g.2)
one_told text a b (inr f) (inl g) = absurd (g.none.none f.0 f.1 f.2)
one_told text a b (inr f) (inr g) = one_seen f.0 a b f.3 (subst (λ (ss : List (List LineText)). Seen ss b) (one_form g.0 f.0 g.1 f.1 (sym g.2 ∙ f.2)) g.3)

pub one_fault : (text : List ℕ) (a b : ChangeTextError) → a ≢ NoMemory → b ≢ NoMemory → IsRevisionFault text a → IsRevisionFault text b → a ≡ b
one_fault text a b na nb f g = one_told text a b (told text a na f) (told text b nb g)
