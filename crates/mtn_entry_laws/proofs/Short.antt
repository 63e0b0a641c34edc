-- What a revision text spells is no longer than the text.
use Rattle.std.specs.Prelude.{All, replicate, map}
use Rattle.std.specs.List.{flat_map}
use Rattle.std.proofs.Common.{◌≤◌, ◌-◌, ◌==◌, ◌||◌, ℕ, Bool, true, false, cond, List, [], ◌∷◌, ◌++◌, length, sym, subst, arith}
use Rattle.std.proofs.lemmas.List.{length-append}
use Rattle.mtn_base.specs.Paths.{path_text}
use Rattle.mtn_base.specs.declared.limits.TheConstants.{MAX_TEXT}
use Rattle.mtn_base.specs.Quoted.{escaped_byte, quoted}
use Rattle.mtn_base.proofs.Finding.{Split, later}
use Rattle.mtn_base.proofs.Members.{head, in_left, in_right, taken}
use Rattle.mtn_basic_io.specs.declared.stanza.Value.TheVariants.{Text}
use Rattle.mtn_basic_io.specs.Spelling.{LineText, value_text, spaced, longest, line_text, stanza_text, spelling}
use Rattle.mtn_changes.specs.declared.change.Change.{Change}
use Rattle.mtn_changes.specs.declared.change.Change.TheVariants.{Delete, Rename, AddDir, AddFile, Patch, Clear, Set}
use Rattle.mtn_changes.specs.declared.change.Edge.{Edge}
use Rattle.mtn_changes.specs.declared.change.Revision.{Revision as Spelled}
use Rattle.mtn_changes.specs.RevisionText.{IsRevisionText, edge_stanzas, revision_stanzas}
use Rattle.mtn_changes.specs.Stanzas.{text_line, stanza_of}
use Rattle.mtn_entry_laws.specs.Entries.{IsBounded, AreBounded}

le_trans : (a b c : ℕ) → a ≤ b → b ≤ c → a ≤ c
le_trans a b c h k = omega (arith, h, k)

left_in : (xs ys : List ℕ) → length xs ≤ length (xs ++ ys)
left_in xs ys = let e = length-append xs ys in omega (arith, e)

right_in : (xs ys : List ℕ) → length ys ≤ length (xs ++ ys)
right_in xs ys = let e = length-append xs ys in omega (arith, e)

byte_long : (b : ℕ) → 1 ≤ length (escaped_byte b)
byte_long b = by (b == 34 || b == 92)
  where
    by : (t : Bool) → 1 ≤ length (cond t (92 ∷ b ∷ []) (b ∷ []))
    by true = omega arith
    by false = omega arith

escaped_long : (bs : List ℕ) → length bs ≤ length (flat_map escaped_byte bs)
escaped_long [] = omega arith
escaped_long (b ∷ bs) =
    let more = escaped_long bs in
    let one = byte_long b in
    let e = length-append (escaped_byte b) (flat_map escaped_byte bs) in
    omega (arith, more, one, e)

quoted_long : (bs : List ℕ) → length bs ≤ length (quoted bs)
quoted_long bs =
    let a = escaped_long bs in
    let b = left_in (flat_map escaped_byte bs) (34 ∷ []) in
    omega (arith, a, b)

value_long : (bs : List ℕ) → length bs ≤ length (value_text (Text bs))
unfolding value_text
value_long bs = quoted_long bs

spaced_long : (bs : List ℕ) → length bs ≤ length (flat_map spaced (Text bs ∷ []))
spaced_long bs =
    let a = value_long bs in
    let b = left_in (value_text (Text bs)) [] in
    omega (arith, a, b)

line_long : (column : ℕ) (symbol bs : List ℕ) → length bs ≤ length (line_text column (text_line symbol bs))
unfolding line_text
line_long column symbol bs =
    let values = flat_map spaced (Text bs ∷ []) in
    let a = spaced_long bs in
    let b = left_in values (10 ∷ []) in
    let c = right_in symbol (values ++ 10 ∷ []) in
    let d = right_in (replicate (column - length symbol) 32) (symbol ++ (values ++ 10 ∷ [])) in
    omega (arith, a, b, c, d)

part_in : {X : Type 0} (g : X → List ℕ) (xs : List X) (x : X) → Split xs x → length (g x) ≤ length (flat_map g xs)
part_in {X} g xs x s = subst (λ l. length (g x) ≤ length (flat_map g l)) (sym s.is) (go s.before)
  where
    go : (before : List X) → length (g x) ≤ length (flat_map g (before ++ x ∷ s.rest))
    go [] = left_in (g x) (flat_map g s.rest)
    go (b ∷ before) = le_trans _ _ _ (go before) (right_in (g b) (flat_map g (before ++ x ∷ s.rest)))

line_in : (lines : List LineText) (symbol bs : List ℕ) → Split lines (text_line symbol bs) → length bs ≤ length (stanza_text lines)
line_in lines symbol bs s = le_trans _ _ _ (line_long (longest lines) symbol bs) (part_in (line_text (longest lines)) lines (text_line symbol bs) s)

change_short : (c : Change) → length (stanza_text (stanza_of c)) ≤ MAX_TEXT → IsBounded c
change_short (Delete p) h = tt
change_short (Rename p q) h = tt
change_short (AddDir p) h = le_trans _ _ _ (line_in (stanza_of (AddDir p)) _ (path_text p) (head _ _)) h
change_short (AddFile p content) h = le_trans _ _ _ (line_in (stanza_of (AddFile p content)) _ (path_text p) (head _ _)) h
change_short (Patch p a b) h = tt
change_short (Clear p k) h = tt
change_short (Set p k v) h = le_trans _ _ _ (line_in (stanza_of (Set p k v)) _ v (later _ _ _ (later _ _ _ (head _ _)))) h

module _ (s : List LineText) where
  first : (rest : List (List LineText)) → length (stanza_text s) ≤ length (spelling (s ∷ rest))
  first [] = omega arith
  first (t ∷ more) = left_in (stanza_text s) (10 ∷ spelling (t ∷ more))

  behind : (b : List LineText) (ss : List (List LineText)) → length (stanza_text s) ≤ length (spelling ss) → length (stanza_text s) ≤ length (spelling (b ∷ ss))
  behind b [] le = omega (arith, le)
  behind b (t ∷ more) le = let a = right_in (stanza_text b) (10 ∷ spelling (t ∷ more)) in omega (arith, le, a)

  stanza_in : (ss : List (List LineText)) → Split ss s → length (stanza_text s) ≤ length (spelling ss)
  stanza_in ss at = subst (λ l. length (stanza_text s) ≤ length (spelling l)) (sym at.is) (go at.before)
    where
      go : (before : List (List LineText)) → length (stanza_text s) ≤ length (spelling (before ++ s ∷ at.rest))
      go [] = first at.rest
      go (b ∷ before) = behind b (before ++ s ∷ at.rest) (go before)

in_map : {X Y : Type 0} (g : X → Y) (xs : List X) (x : X) → Split xs x → Split (map g xs) (g x)
in_map {X} g xs x s = subst (λ l. Split (map g l) (g x)) (sym s.is) (go s.before)
  where
    go : (before : List X) → Split (map g (before ++ x ∷ s.rest)) (g x)
    go [] = head (g x) (map g s.rest)
    go (b ∷ before) = later (g b) (map g (before ++ x ∷ s.rest)) (g x) (go before)

in_flat : {X Y : Type 0} (g : X → List Y) (xs : List X) (x : X) (y : Y) → Split xs x → Split (g x) y → Split (flat_map g xs) y
in_flat {X} g xs x y s t = subst (λ l. Split (flat_map g l) y) (sym s.is) (go s.before)
  where
    go : (before : List X) → Split (flat_map g (before ++ x ∷ s.rest)) y
    go [] = in_left (g x) (flat_map g s.rest) y t
    go (b ∷ before) = in_right (g b) (flat_map g (before ++ x ∷ s.rest)) y (go before)

stanza_there : (r : Spelled) (e : Edge) (c : Change) → Split r.edges e → Split e.changes c → Split (revision_stanzas r) (stanza_of c)
stanza_there r e c s t = later _ _ _ (later _ _ _ (in_flat edge_stanzas r.edges e (stanza_of c) s (later _ _ _ (in_map stanza_of e.changes c t))))

all_of_split : {X : Type 0} (P : X → Type 0) (xs : List X) → ((x : X) → Split xs x → P x) → All P xs
all_of_split P xs each k d fits = let r = taken xs k fits in subst P (sym (r.3 d)) (each r.0 r.2)

-- each change of a text
pub text_bounds : (text : List ℕ) (r : Spelled) → IsRevisionText text r → length text ≤ MAX_TEXT → AreBounded r.edges
text_bounds text r is short = all_of_split (λ (e : Edge). All IsBounded e.changes) r.edges (λ e s. all_of_split IsBounded e.changes (λ c t.
    change_short c (le_trans _ _ _ (stanza_in (stanza_of c) (revision_stanzas r) (stanza_there r e c s t)) (subst (λ (bs : List ℕ). length bs ≤ MAX_TEXT) is.spelled short))))
