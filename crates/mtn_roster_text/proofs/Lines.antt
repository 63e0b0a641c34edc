-- Lines behind lines.
use Rattle.std.specs.Prelude.{codes, slice_get}
use Rattle.std.specs.List.{flat_map}
use Rattle.std.proofs.Common.{◌≡◌, ℕ, ◌+◌, ◌<◌, List, [], ◌∷◌, ◌++◌, length, get_or, take, append_assoc, Some, sym, ◌∙◌, ap}
use Rattle.std.proofs.lemmas.List.{append-nil, take_more}
use Rattle.std.proofs.lemmas.List.Concat.{flat_map-append}
use Rattle.std.proofs.lemmas.Option.{slice_get-get_or}
use Rattle.mtn_base.specs.declared.id.Id.{Id}
use Rattle.mtn_basic_io.specs.Spelling.{LineText, line_text, longest, stanza_text}
use Rattle.mtn_roster.proofs.Leading.{get_within}
use Rattle.mtn_roster.specs.declared.entry.Body.{Body}
use Rattle.mtn_roster.specs.declared.entry.Body.TheVariants.{File}
use Rattle.mtn_roster_text.specs.RosterText.{content_marks, ids_line}

-- one more element
flat_more : {X Y : Type 0} (f : X → List Y) (xs : List X) (i : ℕ) (x : X) → i < length xs → x ≡ get_or xs i x → flat_map f (take (i + 1) xs) ≡ flat_map f (take i xs) ++ f x
flat_more f xs i x low is =
    ap (flat_map f) (take_more xs i x low ∙ ap (λ z. take i xs ++ z ∷ []) (sym is)) ∙ flat_map-append f (take i xs) (x ∷ []) ∙ ap (λ l. flat_map f (take i xs) ++ l) (append-nil (f x))

-- the same by what stands at a place
pub flat_at : {X Y : Type 0} (f : X → List Y) (xs : List X) (i : ℕ) (x : X) → slice_get xs i ≡ Some x → flat_map f (take i xs) ++ f x ≡ flat_map f (take (i + 1) xs)
flat_at f xs i x at =
    let low = get_within xs i x at in
    let is : x ≡ get_or xs i x = (let there = sym at ∙ slice_get-get_or xs i x low in cc) in
    sym (flat_more f xs i x low is)

module _ (column : ℕ) where
  abbrev printed : List LineText → List ℕ
  printed = flat_map (line_text column)

  pub lines_more : {X : Type 0} (f : X → List LineText) (xs : List X) (i : ℕ) (x : X) (old now new : List ℕ) → i < length xs → x ≡ get_or xs i x → now ≡ old ++ printed (flat_map f (take i xs)) → new ≡ now ++ printed (f x) →
      new ≡ old ++ printed (flat_map f (take (i + 1) xs))
  lines_more f xs i x old now new low is was more =
      more ∙ ap (λ l. l ++ printed (f x)) was ∙ append_assoc old (printed (flat_map f (take i xs))) (printed (f x))
      ∙ ap (λ l. old ++ l) (sym (flat_map-append (line_text column) (flat_map f (take i xs)) (f x)) ∙ ap printed (sym (flat_more f xs i x low is)))

  -- two lines
  pub two_lines : (a b : LineText) (old mid new : List ℕ) → mid ≡ old ++ line_text column a → new ≡ mid ++ line_text column b → new ≡ old ++ printed (a ∷ b ∷ [])
  two_lines a b old mid new first more =
      more ∙ ap (λ l. l ++ line_text column b) first ∙ append_assoc old (line_text column a) (line_text column b) ∙ ap (λ l. old ++ (line_text column a ++ l)) (sym (append-nil (line_text column b)))

  -- two lines and then some
  pub after_two : (a b : LineText) (more : List LineText) (old first second new : List ℕ) → first ≡ old ++ line_text column a → second ≡ first ++ line_text column b → new ≡ second ++ printed more → new ≡ old ++ printed (a ∷ b ∷ more)
  after_two a b more old first second new is_first is_second is_new =
      is_new ∙ ap (λ l. l ++ printed more) (is_second ∙ ap (λ l. l ++ line_text column b) is_first ∙ append_assoc old (line_text column a) (line_text column b))
      ∙ append_assoc old (line_text column a ++ line_text column b) (printed more) ∙ ap (λ l. old ++ l) (append_assoc (line_text column a) (line_text column b) (printed more))

  -- the marks of the content of a file
  pub content_is : (body : Body) (content : Id) (ids given : List Id) (old new : List ℕ) → body ≡ File content → given ≡ ids → new ≡ old ++ line_text column (ids_line (codes "content_mark") given) → new ≡ old ++ printed (content_marks ids body)
  content_is body content ids given old new is same more =
      more ∙ ap (λ l. old ++ line_text column (ids_line (codes "content_mark") l)) same ∙ ap (λ l. old ++ l) (sym (append-nil (line_text column (ids_line (codes "content_mark") ids))))
      ∙ ap (λ b. old ++ printed (content_marks ids b)) (sym is)

  -- the three parts of a stanza
  pub stanza_is : (body node attrs : List LineText) (old first second new : List ℕ) → column ≡ longest (body ++ (node ++ attrs)) → first ≡ old ++ printed body → second ≡ first ++ printed node → new ≡ second ++ printed attrs →
      new ≡ old ++ stanza_text (body ++ (node ++ attrs))
  stanza_is body node attrs old first second new is is_first is_second is_new =
      is_new ∙ ap (λ l. l ++ printed attrs) (is_second ∙ ap (λ l. l ++ printed node) is_first ∙ append_assoc old (printed body) (printed node))
      ∙ append_assoc old (printed body ++ printed node) (printed attrs)
      ∙ ap (λ l. old ++ l) (append_assoc (printed body) (printed node) (printed attrs) ∙ ap (λ l. printed body ++ l) (sym (flat_map-append (line_text column) node attrs)) ∙ sym (flat_map-append (line_text column) body (node ++ attrs))
      ∙ ap (λ c. flat_map (line_text c) (body ++ (node ++ attrs))) is)
