-- The text of few short changes is short.
use Rattle.std.specs.Prelude.{codes, if◌then◌else◌, map, replicate, ◌-◌, ◌==◌, ◌||◌}
use Rattle.std.specs.List.{AllByRecursion, flat_map}
use Rattle.std.proofs.Common.{◌≡◌, ◌≤◌, ◌+◌, ◌*◌, ℕ, Bool, true, false, List, [], ◌∷◌, ◌++◌, length, length-append, Option, Some, None, ◌∙◌, ap, arith}
use Rattle.std.proofs.Math.Nat.{suc-mul}
use Rattle.std.proofs.lemmas.List.{length-replicate}
use Rattle.hex.proofs.HexLemmas.{length-encode_with}
use Rattle.hex.specs.Hex.{encode_lower, lower_digits}
use Rattle.mtn_base.specs.Paths.{path_text}
use Rattle.mtn_base.specs.Quoted.{escaped_byte, quoted}
use Rattle.mtn_base.specs.declared.id.Id.{Id}
use Rattle.mtn_base.proofs.Finding.{Split, later}
use Rattle.mtn_base.proofs.Members.{head}
use Rattle.mtn_base.proofs.Sorting.{long_map, rec_at}
use Rattle.mtn_basic_io.specs.Spelling.{LineText, line_text, longest, spaced, spelling, stanza_text, value_text}
use Rattle.mtn_basic_io.specs.declared.stanza.Value.TheVariants.{Hex, Text}
use Rattle.mtn_changes.specs.Heads.{head_stanza}
use Rattle.mtn_changes.specs.RevisionText.{edge_stanzas, revision_stanzas}
use Rattle.mtn_changes.specs.Stanzas.{stanza_of}
use Rattle.mtn_changes.specs.declared.change.Change.{Change}
use Rattle.mtn_changes.specs.declared.change.Change.TheVariants.{AddDir, AddFile, Clear, Delete, Patch, Rename, Set}
use Rattle.mtn_changes.specs.declared.change.Edge.{Edge}
use Rattle.mtn_changes.specs.declared.head.Head.TheVariants.{Parent}

-- pieces that are each short
pub flat_short : {X Y : Type 0} (g : X → List Y) (most : ℕ) (xs : List X) → ((x : X) → Split xs x → length (g x) ≤ most) → length (flat_map g xs) ≤ length xs * most
flat_short g most [] each = omega arith
flat_short g most (x ∷ xs) each =
    let one = each x (head x xs) in
    let rest = flat_short g most xs (λ y s. each y (later x xs y s)) in
    let whole = length-append (g x) (flat_map g xs) in
    omega (arith, one, rest, whole, suc-mul (length xs) most)

-- ---- lines

escaped_short : (b : ℕ) → length (escaped_byte b) ≤ 2
escaped_short b = by (b == 34 || b == 92)
  where
    by : (q : Bool) → length (if q then 92 ∷ b ∷ [] else b ∷ []) ≤ 2
    by true = omega arith
    by false = omega arith

abbrev pub IsShortLine : LineText → Type 0
IsShortLine l = (length l.symbol ≤ 14) × (length (flat_map spaced l.values) ≤ 203)

pub text_value : (bytes : List ℕ) → length bytes ≤ 100 → length (flat_map spaced (Text bytes ∷ [])) ≤ 203
unfolding value_text
text_value bytes short =
    let inner = flat_short escaped_byte 2 bytes (λ b s. escaped_short b) in
    let quotes = length-append (flat_map escaped_byte bytes) (34 ∷ []) in
    let whole = length-append (32 ∷ quoted bytes) [] in
    omega (arith, short, inner, quotes, whole)

pub id_value : (id : Id) → length id.0 ≡ 20 → length (flat_map spaced (Hex (Some id) ∷ [])) ≤ 203
unfolding value_text
id_value id twenty =
    let digits = length-encode_with lower_digits id.0 in
    let ends = length-append (encode_lower id.0) (93 ∷ []) in
    let whole = length-append (32 ∷ 91 ∷ (encode_lower id.0 ++ 93 ∷ [])) [] in
    omega (arith, twenty, digits, ends, whole)

line_short : (column : ℕ) (l : LineText) → IsShortLine l → length (line_text column l) ≤ column + 218
unfolding line_text
line_short column l short =
    let symbol = short.0 in
    let values = short.1 in
    let fill = length-replicate {A = ℕ} (column - length l.symbol) 32 in
    let a = length-append (replicate (column - length l.symbol) 32) (l.symbol ++ (flat_map spaced l.values ++ 10 ∷ [])) in
    let b = length-append l.symbol (flat_map spaced l.values ++ 10 ∷ []) in
    let c = length-append (flat_map spaced l.values) (10 ∷ []) in
    omega (arith, symbol, values, fill, a, b, c)

-- ---- stanzas

longest_short : (lines : List LineText) → AllByRecursion IsShortLine lines → longest lines ≤ 14
longest_short [] all = omega arith
longest_short (l ∷ ls) all = let one = all.0.0 in let rest = longest_short ls all.1 in omega (arith, one, rest)

each_line : (lines : List LineText) → AllByRecursion IsShortLine lines → (l : LineText) → Split lines l → IsShortLine l
each_line lines all l s = rec_at IsShortLine lines l all s

abbrev pub IsShortStanza : List LineText → Type 0
IsShortStanza lines = (length lines ≤ 3) × AllByRecursion IsShortLine lines

stanza_short : (lines : List LineText) → IsShortStanza lines → length (stanza_text lines) ≤ 696
stanza_short lines short =
    let column = longest_short lines short.1 in
    let each : (l : LineText) → Split lines l → length (line_text (longest lines) l) ≤ 232 =
    λ l s. let one = line_short (longest lines) l (each_line lines short.1 l s) in omega (arith, column, one) in
    let whole = flat_short (line_text (longest lines)) 232 lines each in
    let few = short.0 in
    omega (arith, few, whole)

pub spelling_short : (ss : List (List LineText)) → AllByRecursion IsShortStanza ss → length (spelling ss) ≤ length ss * 697
spelling_short [] all = omega arith
spelling_short (s ∷ []) all = let one = stanza_short s all.0 in omega (arith, one)
spelling_short (s ∷ t ∷ more) all =
    let one = stanza_short s all.0 in
    let rest = spelling_short (t ∷ more) all.1 in
    let whole = length-append (stanza_text s) (10 ∷ spelling (t ∷ more)) in
    omega (arith, one, rest, whole, suc-mul (length (t ∷ more)) 697)

-- ---- changes

abbrev pub IsShortPath : List (List ℕ) → Type 0
IsShortPath p = length (path_text p) ≤ 100

abbrev pub IsShort : Change → Type 0
IsShort (Delete p) = IsShortPath p
IsShort (Rename p q) = IsShortPath p × IsShortPath q
IsShort (AddDir p) = IsShortPath p
IsShort (AddFile p content) = IsShortPath p × (length content.0 ≡ 20)
IsShort (Patch p a b) = IsShortPath p × (length a.0 ≡ 20) × (length b.0 ≡ 20)
IsShort (Clear p k) = IsShortPath p × (length k ≤ 100)
IsShort (Set p k v) = IsShortPath p × (length k ≤ 100) × (length v ≤ 100)

change_short : (c : Change) → IsShort c → IsShortStanza (stanza_of c)
change_short (Delete p) h = (omega arith, ((omega arith, text_value (path_text p) h), tt))
change_short (Rename p q) h = (omega arith, ((omega arith, text_value (path_text p) h.0), ((omega arith, text_value (path_text q) h.1), tt)))
change_short (AddDir p) h = (omega arith, ((omega arith, text_value (path_text p) h), tt))
change_short (AddFile p content) h = (omega arith, ((omega arith, text_value (path_text p) h.0), ((omega arith, id_value content h.1), tt)))
change_short (Patch p a b) h = (omega arith, ((omega arith, text_value (path_text p) h.0), ((omega arith, id_value a h.1), ((omega arith, id_value b h.2), tt))))
change_short (Clear p k) h = (omega arith, ((omega arith, text_value (path_text p) h.0), ((omega arith, text_value k h.1), tt)))
change_short (Set p k v) h = (omega arith, ((omega arith, text_value (path_text p) h.0), ((omega arith, text_value k h.1), ((omega arith, text_value v h.2), tt))))

pub changes_short : (cs : List Change) → ((c : Change) → Split cs c → IsShort c) → AllByRecursion IsShortStanza (map stanza_of cs)
changes_short [] each = tt
changes_short (c ∷ cs) each = (change_short c (each c (head c cs)), changes_short cs (λ x s. each x (later c cs x s)))

-- an edge of a parent, of few short changes
pub record IsShortEdge (e : Edge) : Type 0 where
  pub parent : Id
  pub has_parent : e.parent ≡ Some parent
  pub twenty : length parent.0 ≡ 20
  pub few : length e.changes ≤ 84
  pub changes : (c : Change) → Split e.changes c → IsShort c

parent_short : (o : Option Id) (id : Id) → o ≡ Some id → length id.0 ≡ 20 → IsShortStanza (head_stanza (Parent o))
parent_short None id e twenty = absurd cc
parent_short (Some x) id e twenty =
    let same : x ≡ id = cc in
    (omega arith, ((omega arith, id_value x (ap (λ (y : Id). length y.0) same ∙ twenty)), tt))

pub all_append : {X : Type 0} (P : X → Type 0) (xs ys : List X) → AllByRecursion P xs → AllByRecursion P ys → AllByRecursion P (xs ++ ys)
all_append P [] ys h g = g
all_append P (x ∷ xs) ys h g = (h.0, all_append P xs ys h.1 g)

edge_short : (e : Edge) → IsShortEdge e → AllByRecursion IsShortStanza (edge_stanzas e)
edge_short e short = (parent_short e.parent short.parent short.has_parent short.twenty, changes_short e.changes short.changes)

edge_long : (e : Edge) → IsShortEdge e → length (edge_stanzas e) ≤ 85
edge_long e short = let few = short.few in let same = long_map stanza_of e.changes in omega (arith, few, same)

pub text_short : (manifest : Id) (e g : Edge) → length manifest.0 ≡ 20 → IsShortEdge e → IsShortEdge g →
    length (spelling (revision_stanzas (record { manifest = manifest; edges = e ∷ g ∷ [] }))) ≤ 67108864
text_short manifest e g twenty se sg =
    let all : AllByRecursion IsShortStanza (revision_stanzas (record { manifest = manifest; edges = e ∷ g ∷ [] })) = (
      (omega arith, ((omega arith, text_value (codes "1") (omega arith)), tt)),
      (
        (omega arith, ((omega arith, id_value manifest twenty), tt)),
        all_append IsShortStanza (edge_stanzas e) (edge_stanzas g ++ []) (edge_short e se) (all_append IsShortStanza (edge_stanzas g) [] (edge_short g sg) tt),
      ),
    ) in
    let whole = spelling_short (revision_stanzas (record { manifest = manifest; edges = e ∷ g ∷ [] })) all in
    let a = length-append (edge_stanzas e) (edge_stanzas g ++ []) in
    let b = length-append (edge_stanzas g) [] in
    let le = edge_long e se in
    let lg = edge_long g sg in
    omega (arith, whole, a, b, le, lg)
