-- A text spells one key table, or has one fault; so a payload comes to one thing.
use Rattle.std.specs.Prelude.{map}
use Rattle.std.proofs.Common.{◌≡◌, ◌≢◌, ◌⊎◌, ◌≤◌, ◌+◌, ℕ, true, false, List, [], ◌∷◌, ◌++◌, length, append_assoc, append-nil, refl, sym, ap, ◌∙◌, subst, inl, inr, arith}
use Rattle.mtn_basic_io.specs.Spelling.{LineText, AreStanzas, spelling}
use Rattle.mtn_basic_io.specs.Begun.{IsOffset}
use Rattle.mtn_basic_io.proofs.Again.{one_form}
use Rattle.mtn_changes.specs.ChangesText.{IsNoText}
use Rattle.mtn_certs.specs.declared.cert.KeyName.{KeyName}
use Rattle.mtn_certs.specs.declared.key_error.KeyTextError.{KeyTextError}
use Rattle.mtn_certs.specs.declared.key_error.KeyTextError.TheVariants.{NotText, BadStanza, BadOrder, Repeated, NoMemory}
use Rattle.mtn_certs.specs.KeyTables.{stanza_of, header, is_repeat, IsKeyName, IsNothing, AreKeyNames, IsKeysText, IsFirstFault, IsLaterFault, StandsAt, IsKeysFault}
use Rattle.mtn_key_table_laws.proofs.Decoding.{one_key, no_header}

first_of : {X : Type 0} (x y : X) (xs ys : List X) → x ∷ xs ≡ y ∷ ys → x ≡ y
first_of x y xs ys e = let q : x ≡ y = cc in q

others_of : {X : Type 0} (x y : X) (xs ys : List X) → x ∷ xs ≡ y ∷ ys → xs ≡ ys
others_of x y xs ys e = let q : xs ≡ ys = cc in q

none_more : {X : Type 0} (x : X) (xs : List X) → x ∷ xs ≡ [] → ⊥
none_more x xs e = cc

one_more : (before : List KeyName) (a : KeyName) (as' : List KeyName) → before ++ a ∷ as' ≡ (before ++ a ∷ []) ++ as'
one_more before a as' = sym (append_assoc before (a ∷ []) as')

-- ---- lists

pub one_list : (before rs ss : List KeyName) → AreKeyNames before rs → AreKeyNames before ss → map stanza_of rs ≡ map stanza_of ss → rs ≡ ss
one_list before [] [] a b e = refl
one_list before [] (s ∷ ss) a b e = absurd (none_more (stanza_of s) (map stanza_of ss) (sym e))
one_list before (r ∷ rs) [] a b e = absurd (none_more (stanza_of r) (map stanza_of rs) e)
one_list before (r ∷ rs) (s ∷ ss) a b e =
    let same : r ≡ s = one_key r s (first_of (stanza_of r) (stanza_of s) (map stanza_of rs) (map stanza_of ss) e) in
    let rest : rs ≡ ss = one_list (before ++ r ∷ []) rs ss a.2 (subst (λ (x : KeyName). AreKeyNames (before ++ x ∷ []) ss) (sym same) b.2) (others_of (stanza_of r) (stanza_of s) (map stanza_of rs) (map stanza_of ss) e) in
    λ i. same i ∷ rest i

-- ---- why a stanza may not stand behind key names

data Why : Type 0 where
  nothing : Why
  order : Why
  repeat : Why

abbrev error_of : Why → ℕ → KeyTextError
error_of nothing n = BadStanza n
error_of order n = BadOrder n
error_of repeat n = Repeated n

abbrev IsBad : Why → List KeyName → List LineText → Type 0
IsBad nothing before s = IsNothing s
IsBad order before s = s ≡ header
IsBad repeat before s = (r : KeyName) × IsKeyName r × (s ≡ stanza_of r) × (is_repeat before r ≡ true)

-- what may stand there is not bad
stands : (why : Why) (before : List KeyName) (s : List LineText) (r : KeyName) → IsKeyName r → is_repeat before r ≡ false → s ≡ stanza_of r → IsBad why before s → ⊥
stands nothing before s r is fresh e b = b.0 r is e
stands order before s r is fresh e b = no_header r (sym e ∙ b)
stands repeat before s r is fresh e b =
    let same : b.0 ≡ r = one_key b.0 r (sym b.2 ∙ e) in
    let again : is_repeat before r ≡ true = ap (is_repeat before) (sym same) ∙ b.3 in
    cc

one_why : (a b : Why) (before : List KeyName) (s : List LineText) → IsBad a before s → IsBad b before s → a ≡ b
one_why nothing nothing before s f g = refl
one_why nothing order before s f g = absurd (f.1 g)
one_why nothing repeat before s f g = absurd (f.0 g.0 g.1 g.2)
one_why order nothing before s f g = absurd (g.1 f)
one_why order order before s f g = refl
one_why order repeat before s f g = absurd (no_header g.0 (sym g.2 ∙ f))
one_why repeat nothing before s f g = absurd (g.0 f.0 f.1 f.2)
one_why repeat order before s f g = absurd (no_header f.0 (sym f.2 ∙ g))
one_why repeat repeat before s f g = refl

-- two fronts that stop at a bad stanza are one
fronts : (done as' bs : List KeyName) (s t : List LineText) (x y : List (List LineText)) (v w : Why) → AreKeyNames done as' → AreKeyNames done bs →
    map stanza_of as' ++ s ∷ x ≡ map stanza_of bs ++ t ∷ y → IsBad v (done ++ as') s → IsBad w (done ++ bs) t → (as' ≡ bs) × (s ≡ t)
fronts done [] [] s t x y v w a b e f g = (refl, first_of s t x y e)
fronts done [] (r ∷ bs) s t x y v w a b e f g =
    absurd (stands v done s r b.0 b.1 (first_of s (stanza_of r) x (map stanza_of bs ++ t ∷ y) e) (subst (λ l. IsBad v l s) (append-nil done) f))
fronts done (r ∷ as') [] s t x y v w a b e f g =
    absurd (stands w done t r a.0 a.1 (sym (first_of (stanza_of r) t (map stanza_of as' ++ s ∷ x) y e)) (subst (λ l. IsBad w l t) (append-nil done) g))
fronts done (q ∷ as') (r ∷ bs) s t x y v w a b e f g =
    let same : q ≡ r = one_key q r (first_of (stanza_of q) (stanza_of r) (map stanza_of as' ++ s ∷ x) (map stanza_of bs ++ t ∷ y) e) in
    let rest = fronts (done ++ q ∷ []) as' bs s t x y v w a.2 (subst (λ (z : KeyName). AreKeyNames (done ++ z ∷ []) bs) (sym same) b.2)
    (others_of (stanza_of q) (stanza_of r) (map stanza_of as' ++ s ∷ x) (map stanza_of bs ++ t ∷ y) e)
    (subst (λ l. IsBad v l s) (one_more done q as') f)
    (subst (λ l. IsBad w l t) (one_more done q bs) (subst (λ (z : KeyName). IsBad w (done ++ z ∷ bs) t) (sym same) g)) in
    ((λ i. same i ∷ rest.0 i), rest.1)

-- a whole list has none
no_front : (done rs bs : List KeyName) (t : List LineText) (y : List (List LineText)) (w : Why) → AreKeyNames done rs → AreKeyNames done bs →
    map stanza_of rs ≡ map stanza_of bs ++ t ∷ y → IsBad w (done ++ bs) t → ⊥
no_front done [] [] t y w a b e g = none_more t y (sym e)
no_front done [] (r ∷ bs) t y w a b e g = none_more (stanza_of r) (map stanza_of bs ++ t ∷ y) (sym e)
no_front done (r ∷ rs) [] t y w a b e g = stands w done t r a.0 a.1 (sym (first_of (stanza_of r) t (map stanza_of rs) y e)) (subst (λ l. IsBad w l t) (append-nil done) g)
no_front done (q ∷ rs) (r ∷ bs) t y w a b e g =
    let same : q ≡ r = one_key q r (first_of (stanza_of q) (stanza_of r) (map stanza_of rs) (map stanza_of bs ++ t ∷ y) e) in
    no_front (done ++ q ∷ []) rs bs t y w a.2 (subst (λ (z : KeyName). AreKeyNames (done ++ z ∷ []) bs) (sym same) b.2)
    (others_of (stanza_of q) (stanza_of r) (map stanza_of rs) (map stanza_of bs ++ t ∷ y) e)
    (subst (λ l. IsBad w l t) (one_more done q bs) (subst (λ (z : KeyName). IsBad w (done ++ z ∷ bs) t) (sym same) g))

-- ---- stanzas

record IsLater (ss : List (List LineText)) (e : KeyTextError) : Type 0 where
  why : Why
  number : ℕ
  before : List KeyName
  stanza : List LineText
  at : StandsAt ss number before stanza
  is : e ≡ error_of why number
  bad : IsBad why before stanza

later : (ss : List (List LineText)) (e : KeyTextError) → IsLaterFault ss e → IsLater ss e
later ss (NotText offset) f = absurd f
later ss (BadStanza n) f = record { why = nothing; number = n; before = f.0; stanza = f.1; at = f.2; is = refl; bad = f.3 }
later ss (BadOrder n) f = record { why = order; number = n; before = f.0; stanza = header; at = f.1; is = refl; bad = refl }
later ss (Repeated n) f = record { why = repeat; number = n; before = f.0; stanza = stanza_of f.1; at = f.2; is = refl; bad = (f.1, f.3, refl, f.4) }
later ss NoMemory f = absurd f

one_later : (ss : List (List LineText)) (d e : KeyTextError) → IsLater ss d → IsLater ss e → d ≡ e
one_later ss d e f g =
    let t = fronts [] f.before g.before f.stanza g.stanza f.at.rest g.at.rest f.why g.why f.at.lawful g.at.lawful
    (others_of header header (map stanza_of f.before ++ f.stanza ∷ f.at.rest) (map stanza_of g.before ++ g.stanza ∷ g.at.rest) (sym f.at.whole ∙ g.at.whole)) f.bad g.bad in
    let number : f.number ≡ g.number = f.at.place ∙ ap (λ (l : List KeyName). length l + 2) t.0 ∙ sym g.at.place in
    let why : f.why ≡ g.why = one_why f.why g.why g.before g.stanza (subst (λ (l : List KeyName). IsBad f.why l g.stanza) t.0 (subst (λ (s : List LineText). IsBad f.why f.before s) t.1 f.bad)) g.bad in
    f.is ∙ (λ i. error_of (why i) (number i)) ∙ sym g.is

first_later : (ss : List (List LineText)) (d e : KeyTextError) → IsFirstFault ss d → IsLater ss e → ⊥
first_later [] d e f g = none_more header (map stanza_of g.before ++ g.stanza ∷ g.at.rest) (sym g.at.whole)
first_later (s ∷ ss) (NotText offset) e f g = f
first_later (s ∷ ss) (BadStanza n) e f g = f.1.1 (first_of s header ss (map stanza_of g.before ++ g.stanza ∷ g.at.rest) g.at.whole)
first_later (s ∷ ss) (BadOrder n) e f g = no_header f.1.0 (sym f.1.2 ∙ first_of s header ss (map stanza_of g.before ++ g.stanza ∷ g.at.rest) g.at.whole)
first_later (s ∷ ss) (Repeated n) e f g = f
first_later (s ∷ ss) NoMemory e f g = f

one_first : (ss : List (List LineText)) (d e : KeyTextError) → IsFirstFault ss d → IsFirstFault ss e → d ≡ e
one_first [] (NotText offset) e f g = absurd f
one_first [] (BadStanza n) e f g = absurd f
one_first [] (BadOrder n) (NotText offset) f g = absurd g
one_first [] (BadOrder n) (BadStanza k) f g = absurd g
one_first [] (BadOrder n) (BadOrder k) f g = ap (λ (x : ℕ). BadOrder x) (f ∙ sym g)
one_first [] (BadOrder n) (Repeated k) f g = absurd g
one_first [] (BadOrder n) NoMemory f g = absurd g
one_first [] (Repeated n) e f g = absurd f
one_first [] NoMemory e f g = absurd f
one_first (s ∷ ss) (NotText offset) e f g = absurd f
one_first (s ∷ ss) (BadStanza n) (NotText offset) f g = absurd g
one_first (s ∷ ss) (BadStanza n) (BadStanza k) f g = ap (λ (x : ℕ). BadStanza x) (f.0 ∙ sym g.0)
one_first (s ∷ ss) (BadStanza n) (BadOrder k) f g = absurd (f.1.0 g.1.0 g.1.1 g.1.2)
one_first (s ∷ ss) (BadStanza n) (Repeated k) f g = absurd g
one_first (s ∷ ss) (BadStanza n) NoMemory f g = absurd g
one_first (s ∷ ss) (BadOrder n) (NotText offset) f g = absurd g
one_first (s ∷ ss) (BadOrder n) (BadStanza k) f g = absurd (g.1.0 f.1.0 f.1.1 f.1.2)
one_first (s ∷ ss) (BadOrder n) (BadOrder k) f g = ap (λ (x : ℕ). BadOrder x) (f.0 ∙ sym g.0)
one_first (s ∷ ss) (BadOrder n) (Repeated k) f g = absurd g
one_first (s ∷ ss) (BadOrder n) NoMemory f g = absurd g
one_first (s ∷ ss) (Repeated n) e f g = absurd f
one_first (s ∷ ss) NoMemory e f g = absurd f

abbrev IsFault : List (List LineText) → KeyTextError → Type 0
IsFault ss e = IsFirstFault ss e ⊎ IsLaterFault ss e

one_of_stanzas : (ss : List (List LineText)) (d e : KeyTextError) → IsFault ss d → IsFault ss e → d ≡ e
one_of_stanzas ss d e (inl f) (inl g) = one_first ss d e f g
one_of_stanzas ss d e (inl f) (inr g) = absurd (first_later ss d e f (later ss e g))
one_of_stanzas ss d e (inr f) (inl g) = absurd (first_later ss e d g (later ss d f))
one_of_stanzas ss d e (inr f) (inr g) = one_later ss d e (later ss d f) (later ss e g)

no_fault : (rs : List KeyName) (e : KeyTextError) → AreKeyNames [] rs → IsFault (header ∷ map stanza_of rs) e → ⊥
no_fault rs e lawful (inl f) = not_first e f
  where
    not_first : (e : KeyTextError) → IsFirstFault (header ∷ map stanza_of rs) e → ⊥
    not_first (NotText offset) f = f
    not_first (BadStanza n) f = f.1.1 refl
    not_first (BadOrder n) f = no_header f.1.0 (sym f.1.2)
    not_first (Repeated n) f = f
    not_first NoMemory f = f
no_fault rs e lawful (inr f) =
    let g = later (header ∷ map stanza_of rs) e f in
    no_front [] rs g.before g.stanza g.at.rest g.why lawful g.at.lawful (others_of header header (map stanza_of rs) (map stanza_of g.before ++ g.stanza ∷ g.at.rest) g.at.whole) g.bad

-- ---- texts

record HasNone (text : List ℕ) (e : KeyTextError) : Type 0 where
  offset : ℕ
  is : e ≡ NotText offset
  none : IsNoText text offset

abbrev Told : List ℕ → KeyTextError → Type 0
Told text e = HasNone text e ⊎ ((ss : List (List LineText)) × AreStanzas ss × (text ≡ spelling ss) × IsFault ss e)

told : (text : List ℕ) (e : KeyTextError) → e ≢ NoMemory → IsKeysFault text e → Told text e
told text (NotText offset) some f = inl (record { offset = offset; is = refl; none = f })
told text (BadStanza n) some f = inr f
told text (BadOrder n) some f = inr f
told text (Repeated n) some f = inr f
told text NoMemory some f = absurd (some refl)

one_offset : (text : List ℕ) (n m : ℕ) → IsOffset text n → IsOffset text m → n ≡ m
one_offset text n m f g =
    let up : n ≤ m = g.longest n f.within f.begun in
    let down : m ≤ n = f.longest m g.within g.begun in
    omega (arith, up, down)

one_told : (text : List ℕ) (d e : KeyTextError) → Told text d → Told text e → d ≡ e
one_told text d e (inl f) (inl g) = f.is ∙ ap (λ (n : ℕ). NotText n) (one_offset text f.offset g.offset f.none.begun g.none.begun) ∙ sym g.is
one_told text d e (inl f) (inr g) = absurd (f.none.none g.0 g.1 g.2)
one_told text d e (inr f) (inl g) = absurd (g.none.none f.0 f.1 f.2)
one_told text d e (inr f) (inr g) = one_of_stanzas f.0 d e f.3 (subst (λ (ss : List (List LineText)). IsFault ss e) (one_form g.0 f.0 g.1 f.1 (sym g.2 ∙ f.2)) g.3)

pub one_fault : (text : List ℕ) (d e : KeyTextError) → d ≢ NoMemory → e ≢ NoMemory → IsKeysFault text d → IsKeysFault text e → d ≡ e
one_fault text d e nd ne f g = one_told text d e (told text d nd f) (told text e ne g)

not_told : (text : List ℕ) (rs : List KeyName) (e : KeyTextError) → AreStanzas (header ∷ map stanza_of rs) → IsKeysText text rs → Told text e → ⊥
not_told text rs e ok is (inl f) = f.none.none (header ∷ map stanza_of rs) ok is.spelled
not_told text rs e ok is (inr f) = no_fault rs e is.lawful (subst (λ (ss : List (List LineText)). IsFault ss e) (one_form f.0 (header ∷ map stanza_of rs) f.1 ok (sym f.2 ∙ is.spelled)) f.3)

pub no_fault_of : (text : List ℕ) (rs : List KeyName) (e : KeyTextError) → AreStanzas (header ∷ map stanza_of rs) → IsKeysText text rs → IsKeysFault text e → e ≡ NoMemory
no_fault_of text rs NoMemory ok is f = refl
no_fault_of text rs (NotText offset) ok is f = absurd (not_told text rs (NotText offset) ok is (told text (NotText offset) (λ e. cc e) f))
no_fault_of text rs (BadStanza n) ok is f = absurd (not_told text rs (BadStanza n) ok is (told text (BadStanza n) (λ e. cc e) f))
no_fault_of text rs (BadOrder n) ok is f = absurd (not_told text rs (BadOrder n) ok is (told text (BadOrder n) (λ e. cc e) f))
no_fault_of text rs (Repeated n) ok is f = absurd (not_told text rs (Repeated n) ok is (told text (Repeated n) (λ e. cc e) f))

pub one_text : (text : List ℕ) (rs ss : List KeyName) → IsKeysText text rs → IsKeysText text ss → AreStanzas (header ∷ map stanza_of rs) → AreStanzas (header ∷ map stanza_of ss) → rs ≡ ss
one_text text rs ss a b ok also =
    one_list [] rs ss a.lawful b.lawful (others_of header header (map stanza_of rs) (map stanza_of ss) (one_form (header ∷ map stanza_of rs) (header ∷ map stanza_of ss) ok also (sym a.spelled ∙ b.spelled)))
