-- The change and the head that a stanza may spell.
use Rattle.std.proofs.Common.{◌≡◌, ℕ, List, [], ◌∷◌, Option, Some, None, refl, ap, ◌∙◌, arith}
use Rattle.std.specs.Prelude.{codes, if◌then◌else◌}
use Rattle.std.specs.Str.{bytes_eq}
use Rattle.std.specs.Option.{option_map, option_and_then}
use Rattle.mtn_base.specs.declared.id.Id.{Id}
use Rattle.mtn_base.specs.Comps.{AreComps}
use Rattle.mtn_base.specs.Paths.{path_text, pieces_of}
use Rattle.mtn_basic_io.specs.declared.stanza.Value.{Value}
use Rattle.mtn_basic_io.specs.declared.stanza.Value.TheVariants.{Text, Hex}
use Rattle.mtn_basic_io.specs.Spelling.{LineText}
use Rattle.mtn_changes.specs.declared.change.Change.{Change}
use Rattle.mtn_changes.specs.declared.change.Change.TheVariants.{Delete, Rename, AddDir, AddFile, Patch, Clear, Set}
use Rattle.mtn_changes.specs.declared.head.Head.{Head}
use Rattle.mtn_changes.specs.declared.head.Head.TheVariants.{Version, Manifest, Parent}
use Rattle.mtn_changes.specs.Changes.{IsChange}
use Rattle.mtn_changes.specs.Stanzas.{stanza_of}
use Rattle.mtn_changes.specs.Heads.{head_stanza}
use Rattle.mtn_changes.proofs.PathText.{pieces_back}

-- what the lines of a stanza hold
abbrev symbol : List LineText → List ℕ
symbol [] = []
symbol (l ∷ ls) = l.symbol

abbrev text_in : List Value → List ℕ
text_in (Text t ∷ vs) = t
text_in _ = []

abbrev id_in : List Value → Option Id
id_in (Hex id ∷ vs) = id
id_in _ = None

abbrev text0 : List LineText → List ℕ
text0 [] = []
text0 (l ∷ ls) = text_in l.values

abbrev text1 : List LineText → List ℕ
text1 [] = []
text1 (l ∷ ls) = text0 ls

abbrev text2 : List LineText → List ℕ
text2 [] = []
text2 (l ∷ ls) = text1 ls

abbrev id0 : List LineText → Option Id
id0 [] = None
id0 (l ∷ ls) = id_in l.values

abbrev id1 : List LineText → Option Id
id1 [] = None
id1 (l ∷ ls) = id0 ls

abbrev id2 : List LineText → Option Id
id2 [] = None
id2 (l ∷ ls) = id1 ls

-- the path of a text
abbrev path_in : List ℕ → List (List ℕ)
path_in [] = []
path_in (b ∷ bs) = pieces_of (b ∷ bs)

some_text : (t : List ℕ) (p : List (List ℕ)) → pieces_of t ≡ p → (t ≡ [] → ⊥) → path_in t ≡ p
some_text [] p e some = absurd (some refl)
some_text (b ∷ bs) p e some = e

path_back : (p : List (List ℕ)) → AreComps p → path_in (path_text p) ≡ p
path_back [] all = refl
path_back ([] ∷ cs) all = absurd (omega (arith, all.0.some))
path_back ((b ∷ bs) ∷ []) all = some_text (path_text ((b ∷ bs) ∷ [])) ((b ∷ bs) ∷ []) (pieces_back (b ∷ bs) [] all) (λ e. cc e)
path_back ((b ∷ bs) ∷ d ∷ cs) all = some_text (path_text ((b ∷ bs) ∷ d ∷ cs)) ((b ∷ bs) ∷ d ∷ cs) (pieces_back (b ∷ bs) (d ∷ cs) all) (λ e. cc e)

-- the change of a stanza
abbrev pub change_in : List LineText → Option Change
change_in s =
    if bytes_eq (symbol s) (codes "delete") then Some (Delete (path_in (text0 s)))
    else if bytes_eq (symbol s) (codes "rename") then Some (Rename (path_in (text0 s)) (path_in (text1 s)))
    else if bytes_eq (symbol s) (codes "add_dir") then Some (AddDir (path_in (text0 s)))
    else if bytes_eq (symbol s) (codes "add_file") then option_map (λ (id : Id). AddFile (path_in (text0 s)) id) (id1 s)
    else if bytes_eq (symbol s) (codes "patch") then option_and_then (λ (a : Id). option_map (λ (b : Id). Patch (path_in (text0 s)) a b) (id2 s)) (id1 s)
    else if bytes_eq (symbol s) (codes "clear") then Some (Clear (path_in (text0 s)) (text1 s))
    else if bytes_eq (symbol s) (codes "set") then Some (Set (path_in (text0 s)) (text1 s) (text2 s))
    else None

pub change_back : (c : Change) → IsChange c → change_in (stanza_of c) ≡ Some c
change_back (Delete path) is = ap (λ (p : List (List ℕ)). Some (Delete p)) (path_back path is)
change_back (Rename path to) is =
    ap (λ (p : List (List ℕ)). Some (Rename p (path_in (path_text to)))) (path_back path is.0) ∙ ap (λ (p : List (List ℕ)). Some (Rename path p)) (path_back to is.1)
change_back (AddDir path) is = ap (λ (p : List (List ℕ)). Some (AddDir p)) (path_back path is)
change_back (AddFile path content) is = ap (λ (p : List (List ℕ)). Some (AddFile p content)) (path_back path is)
change_back (Patch path from to) is = ap (λ (p : List (List ℕ)). Some (Patch p from to)) (path_back path is)
change_back (Clear path key) is = ap (λ (p : List (List ℕ)). Some (Clear p key)) (path_back path is.0)
change_back (Set path key value) is = ap (λ (p : List (List ℕ)). Some (Set p key value)) (path_back path is.0)

-- the head of a stanza
abbrev pub head_in : List LineText → Option Head
head_in s =
    if bytes_eq (symbol s) (codes "format_version") then Some Version
    else if bytes_eq (symbol s) (codes "new_manifest") then option_map (λ (id : Id). Manifest id) (id0 s)
    else if bytes_eq (symbol s) (codes "old_revision") then Some (Parent (id0 s))
    else None

pub head_back : (h : Head) → head_in (head_stanza h) ≡ Some h
head_back Version = refl
head_back (Manifest id) = refl
head_back (Parent id) = refl
