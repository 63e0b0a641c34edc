-- The text of each revision with one edge is read as it was written.
use Rattle.std.specs.Prelude.{codes, decimal, map}
use Rattle.std.specs.List.{list_all}
use Rattle.std.specs.Str.{IsAscii, IsUtf8}
use Rattle.std.proofs.Common.{◌≡◌, ◌≢◌, ◌<◌, ◌≤◌, ◌+◌, ◌-◌, ◌*◌, ◌/◌, ◌%◌, ◌^◌, ℕ, zero, suc, true, List, [], ◌∷◌, ◌++◌, length, Option, Some, None, refl, sym, ap, ◌∙◌, subst, arith}
use Rattle.std.proofs.Math.Nat.{mod-lt}
use Rattle.std.proofs.lemmas.Fmt.{IsAscii-decimal, decimal_by_steps, decimal_digit, length-decimal-le}
use Rattle.std.proofs.lemmas.List.{append-nil}
use Rattle.std.proofs.lemmas.List.Folds.{list_all-append}
use Rattle.std.proofs.lemmas.Str.{IsAscii-append, IsUtf8-from_ascii}
use Rattle.mtn_base.specs.Comps.{AreComps, IsComp, is_plain_byte}
use Rattle.mtn_base.specs.Hex.{id_of}
use Rattle.mtn_base.specs.declared.id.Id.{Id}
use Rattle.mtn_base.proofs.Tests.{both_true}
use Rattle.mtn_basic_io.specs.Spelling.{AreStanzas, IsLine, LineText, is_symbol, spelling}
use Rattle.mtn_certs.specs.Certificates.{IsIdBytes}
use Rattle.mtn_changes.specs.Changes.{IsChange, IsKey}
use Rattle.mtn_changes.specs.ChangesText.{AreChanges}
use Rattle.mtn_changes.specs.RevisionText.{edge_stanzas}
use Rattle.mtn_changes.specs.Heads.{head_stanza}
use Rattle.mtn_changes.specs.Stanzas.{id_line, stanza_of, text_line}
use Rattle.mtn_changes.specs.declared.change.Change.{Change}
use Rattle.mtn_changes.specs.declared.change.Change.TheVariants.{AddDir, AddFile}
use Rattle.mtn_changes.specs.declared.change.Edge.{Edge}
use Rattle.mtn_changes.specs.declared.change.Revision.{Revision as Spelled}
use Rattle.mtn_changes.specs.declared.head.Head.TheVariants.{Parent}
use Rattle.mtn_changeset_laws.specs.Changes.{first_fault}
use Rattle.mtn_generated.specs.Numbered.{Tips, Work, changes_of, content_of, directory_at, edge_of, edge_text, file_at, no_id, parent_of, path_at, ten}
use Rattle.mtn_generated.specs.Numbered.Work.{Begins, Joins, Patches, Renames, Sets}
use Rattle.mtn_generated.proofs.Counted.{split}
use Rattle.mtn_generated_laws.specs.Reading.{IsReadAs}
use Rattle.mtn_history_laws.specs.History.{Revision}
use Rattle.mtn_manifest.specs.Manifest.{manifest_of}
use Rattle.mtn_replay.specs.Lawful.{Spells}
use Rattle.mtn_replay.specs.Making.{edge_tree}

-- ---- names

plain_digit : (m : ℕ) → m < 10 → is_plain_byte (48 + m) ≡ true
plain_digit zero lt = refl
plain_digit (suc zero) lt = refl
plain_digit (suc (suc zero)) lt = refl
plain_digit (suc (suc (suc zero))) lt = refl
plain_digit (suc (suc (suc (suc zero)))) lt = refl
plain_digit (suc (suc (suc (suc (suc zero))))) lt = refl
plain_digit (suc (suc (suc (suc (suc (suc zero)))))) lt = refl
plain_digit (suc (suc (suc (suc (suc (suc (suc zero))))))) lt = refl
plain_digit (suc (suc (suc (suc (suc (suc (suc (suc zero)))))))) lt = refl
plain_digit (suc (suc (suc (suc (suc (suc (suc (suc (suc zero))))))))) lt = refl
plain_digit (suc (suc (suc (suc (suc (suc (suc (suc (suc (suc n)))))))))) lt = absurd (omega (arith, lt))

plain_one : (m : ℕ) → m < 10 → list_all is_plain_byte ((48 + m) ∷ []) ≡ true
plain_one m lt = both_true (is_plain_byte (48 + m)) true (plain_digit m lt) refl

plain_decimal : (n : ℕ) → n < 2 ^ 64 → list_all is_plain_byte (decimal n) ≡ true
plain_decimal n small = decimal_by_steps (λ m ds. list_all is_plain_byte ds ≡ true) plain_one
    (λ m ds ge all. list_all-append is_plain_byte ds ((48 + m % 10) ∷ []) ∙ both_true (list_all is_plain_byte ds) (list_all is_plain_byte ((48 + m % 10) ∷ [])) all (plain_one (m % 10) (mod-lt m (omega arith)))) n small

ascii_letter : (c : ℕ) → c < 128 → IsAscii (c ∷ [])
ascii_letter c lt zero = lt
ascii_letter c lt (suc i) = omega arith

-- a letter and a number
lettered : (c n : ℕ) → c < 128 → is_plain_byte c ≡ true → n < 2 ^ 64 → (0 < length (c ∷ decimal n)) × (length (c ∷ decimal n) ≤ 255) × (list_all is_plain_byte (c ∷ decimal n) ≡ true) × IsUtf8 (c ∷ decimal n)
lettered c n low plain small =
    let short = length-decimal-le 20 n (omega arith) (omega (arith, small)) small in (
      omega arith,
      omega (arith, short),
      both_true (is_plain_byte c) (list_all is_plain_byte (decimal n)) plain (plain_decimal n small),
      IsUtf8-from_ascii (c ∷ decimal n) (IsAscii-append (c ∷ []) (decimal n) (ascii_letter c low) (IsAscii-decimal n small)),
    )

d_comp : (n : ℕ) → n < 2 ^ 64 → IsComp (codes "d" ++ decimal n)
d_comp n small = let t = lettered 100 n (omega arith) refl small in record { some = t.0; no_dots = refl; short = t.1; plain = t.2; utf8 = t.3 }

f_comp : (n : ℕ) → n < 2 ^ 64 → IsComp (codes "f" ++ decimal n)
f_comp n small = let t = lettered 102 n (omega arith) refl small in record { some = t.0; no_dots = refl; short = t.1; plain = t.2; utf8 = t.3 }

directory_comp : (i : ℕ) → i < 2 ^ 64 → IsComp (directory_at i)
directory_comp i small = let a = split (i - 1) in d_comp (4 * ((i - 1) / 4) + 1) (omega (arith, a.whole, small))

path_comps : (i j : ℕ) → i < 2 ^ 64 → j < 10 → AreComps (path_at i j)
path_comps i j small few = (directory_comp i small, (f_comp j (omega (arith, few)), tt))

key_lawful : IsKey (codes "gen:step")
key_lawful = record { some = omega arith; short = omega arith; utf8 = IsUtf8-from_ascii (codes "gen:step") ascii }
  where
    ascii : IsAscii (codes "gen:step")
    ascii zero = omega arith
    ascii (suc zero) = omega arith
    ascii (suc (suc zero)) = omega arith
    ascii (suc (suc (suc zero))) = omega arith
    ascii (suc (suc (suc (suc zero)))) = omega arith
    ascii (suc (suc (suc (suc (suc zero))))) = omega arith
    ascii (suc (suc (suc (suc (suc (suc zero)))))) = omega arith
    ascii (suc (suc (suc (suc (suc (suc (suc zero))))))) = omega arith
    ascii (suc (suc (suc (suc (suc (suc (suc (suc i)))))))) = omega arith

-- ---- changes

one_change : (c : Change) → IsChange c → AreChanges (c ∷ [])
one_change c lawful zero d lt = record { lawful = lawful; ordered = omega arith; fresh = refl }
one_change c lawful (suc k) d lt = absurd (omega (arith, lt))

module _ (f : List ℕ → List ℕ) where
  first_file : (j : ℕ) → j < 10 → IsChange (AddFile (path_at 1 j) (content_of f j 0))
  first_file j few = path_comps 1 j (omega arith) few

  -- the first revision's changes, with their digits
  abbrev pub digit_path : ℕ → List (List ℕ)
  digit_path j = (100 ∷ 49 ∷ []) ∷ (102 ∷ (48 + j) ∷ []) ∷ []

  pub first_directory : directory_at 1 ≡ 100 ∷ 49 ∷ []
  first_directory = ap (λ (ds : List ℕ). 100 ∷ ds) (decimal_digit 1 (omega arith))

  pub digits_at : (j : ℕ) → j < 10 → path_at 1 j ≡ digit_path j
  digits_at j few = let name : codes "f" ++ decimal j ≡ 102 ∷ (48 + j) ∷ [] = ap (λ (ds : List ℕ). 102 ∷ ds) (decimal_digit j few) in λ i. first_directory i ∷ name i ∷ []

  abbrev pub digit_file : ℕ → Change
  digit_file j = AddFile (digit_path j) (content_of f j 0)

  file_is : (j : ℕ) → j < 10 → AddFile (path_at 1 j) (content_of f j 0) ≡ digit_file j
  file_is j few = ap (λ p. AddFile p (content_of f j 0)) (digits_at j few)

  abbrev pub digit_changes : List Change
  digit_changes = AddDir [] ∷ AddDir ((100 ∷ 49 ∷ []) ∷ []) ∷ map digit_file ten

  pub digits_same : changes_of f 1 Begins ≡ digit_changes
  digits_same = λ i. AddDir [] ∷ AddDir (first_directory i ∷ []) ∷ file_is 0 (omega arith) i ∷ file_is 1 (omega arith) i ∷ file_is 2 (omega arith) i ∷ file_is 3 (omega arith) i ∷ file_is 4 (omega arith) i
      ∷ file_is 5 (omega arith) i ∷ file_is 6 (omega arith) i ∷ file_is 7 (omega arith) i ∷ file_is 8 (omega arith) i ∷ file_is 9 (omega arith) i ∷ []

  digit_lawful : (j : ℕ) → j < 10 → IsChange (digit_file j)
  digit_lawful j few = subst IsChange (file_is j few) (first_file j few)

  digits_stand : AreChanges digit_changes
  digits_stand zero d lt = record { lawful = tt; ordered = omega arith; fresh = refl }
  digits_stand (suc zero) d lt = record { lawful = (subst IsComp first_directory (directory_comp 1 (omega arith)), tt); ordered = omega arith; fresh = refl }
  digits_stand (suc (suc zero)) d lt = record { lawful = digit_lawful 0 (omega arith); ordered = omega arith; fresh = refl }
  digits_stand (suc (suc (suc zero))) d lt = record { lawful = digit_lawful 1 (omega arith); ordered = omega arith; fresh = refl }
  digits_stand (suc (suc (suc (suc zero)))) d lt = record { lawful = digit_lawful 2 (omega arith); ordered = omega arith; fresh = refl }
  digits_stand (suc (suc (suc (suc (suc zero))))) d lt = record { lawful = digit_lawful 3 (omega arith); ordered = omega arith; fresh = refl }
  digits_stand (suc (suc (suc (suc (suc (suc zero)))))) d lt = record { lawful = digit_lawful 4 (omega arith); ordered = omega arith; fresh = refl }
  digits_stand (suc (suc (suc (suc (suc (suc (suc zero))))))) d lt = record { lawful = digit_lawful 5 (omega arith); ordered = omega arith; fresh = refl }
  digits_stand (suc (suc (suc (suc (suc (suc (suc (suc zero)))))))) d lt = record { lawful = digit_lawful 6 (omega arith); ordered = omega arith; fresh = refl }
  digits_stand (suc (suc (suc (suc (suc (suc (suc (suc (suc zero))))))))) d lt = record { lawful = digit_lawful 7 (omega arith); ordered = omega arith; fresh = refl }
  digits_stand (suc (suc (suc (suc (suc (suc (suc (suc (suc (suc zero)))))))))) d lt = record { lawful = digit_lawful 8 (omega arith); ordered = omega arith; fresh = refl }
  digits_stand (suc (suc (suc (suc (suc (suc (suc (suc (suc (suc (suc zero))))))))))) d lt = record { lawful = digit_lawful 9 (omega arith); ordered = omega arith; fresh = refl }
  digits_stand (suc (suc (suc (suc (suc (suc (suc (suc (suc (suc (suc (suc k)))))))))))) d lt = absurd (omega (arith, lt))

  first_changes : AreChanges (changes_of f 1 Begins)
  first_changes = subst AreChanges (sym digits_same) digits_stand

  pub first_apply : first_fault [] (changes_of f 1 Begins) ≡ None
  first_apply = ap (first_fault []) digits_same

  few_files : (i : ℕ) → file_at i < 10
  few_files i = mod-lt (i / 4) (omega arith)

  -- those of a revision that is none of the first and no merge
  later_changes : (i : ℕ) (work : Work) → i < 2 ^ 64 → work ≢ Begins → work ≢ Joins → AreChanges (changes_of f i work)
  later_changes i Begins small a b = absurd (a refl)
  later_changes i Joins small a b = absurd (b refl)
  later_changes i Patches small a b = one_change _ (path_comps i (file_at i) small (few_files i))
  later_changes i Sets small a b = one_change _ (path_comps i (file_at i) small (few_files i), key_lawful)
  later_changes i Renames small a b = one_change _ ((directory_comp (i - 1) (omega (arith, small)), tt), (directory_comp i small, tt))

-- ---- stanzas

text_lawful : (symbol text : List ℕ) → is_symbol symbol ≡ true → IsLine (text_line symbol text)
text_lawful symbol text is = (record { symbol_lawful = is; some_value = omega arith }, (tt, tt))

id_lawful : (symbol : List ℕ) (id : Id) → is_symbol symbol ≡ true → IsIdBytes id.0 → IsLine (id_line symbol id)
id_lawful symbol id is lawful = (record { symbol_lawful = is; some_value = omega arith }, ((lawful.twenty, lawful.bytes), tt))

module _ (f : List ℕ → List ℕ) (makes : (text : List ℕ) → IsIdBytes (f text)) where
  file_stanzas : (js : List ℕ) → AreStanzas (map stanza_of (map (λ j. AddFile (path_at 1 j) (content_of f j 0)) js))
  file_stanzas [] = tt
  file_stanzas (j ∷ js) = ((omega arith, (text_lawful (codes "add_file") _ refl, (id_lawful (codes "content") (content_of f j 0) refl (makes _), tt))), file_stanzas js)

  first_stanzas : AreStanzas (map stanza_of (changes_of f 1 Begins))
  first_stanzas = ((omega arith, (text_lawful (codes "add_dir") _ refl, tt)), ((omega arith, (text_lawful (codes "add_dir") _ refl, tt)), file_stanzas ten))

  later_stanzas : (i : ℕ) (work : Work) → work ≢ Begins → AreStanzas (map stanza_of (changes_of f i work))
  later_stanzas i Begins a = absurd (a refl)
  later_stanzas i Joins a = tt
  later_stanzas i Patches a = ((omega arith, (text_lawful (codes "patch") _ refl, (id_lawful (codes "from") _ refl (makes _), (id_lawful (codes "to") _ refl (makes _), tt)))), tt)
  later_stanzas i Sets a = ((omega arith, (text_lawful (codes "set") _ refl, (text_lawful (codes "attr") _ refl, (text_lawful (codes "value") _ refl, tt)))), tt)
  later_stanzas i Renames a = ((omega arith, (text_lawful (codes "rename") _ refl, (text_lawful (codes "to") _ refl, tt))), tt)

  pub spelled : (h : List Revision) (e : Edge) → AreChanges e.changes → AreStanzas (edge_stanzas e) → Spells (edge_text f h e) (record { manifest = id_of (f (spelling (manifest_of (edge_tree h no_id e)))); edges = e ∷ [] })
  spelled h e lawful stanzas = record {
    reads = record { lawful = lawful; spelled = refl };
    stanzas = (
      (omega arith, (text_lawful (codes "format_version") (codes "1") refl, tt)),
      (
        (omega arith, (id_lawful (codes "new_manifest") (id_of (f (spelling (manifest_of (edge_tree h no_id e))))) refl (makes _), tt)),
        subst AreStanzas (sym (append-nil (edge_stanzas e))) stanzas,
      ),
    );
  }

  parent_stanza : (parent : Option Id) (lines : List (List LineText)) → ((id : Id) → parent ≡ Some id → IsIdBytes id.0) → AreStanzas lines → AreStanzas (head_stanza (Parent parent) ∷ lines)
  parent_stanza None lines lawful rest = ((omega arith, ((record { symbol_lawful = refl; some_value = omega arith }, (tt, tt)), tt)), rest)
  parent_stanza (Some id) lines lawful rest = let l = lawful id refl in ((omega arith, ((record { symbol_lawful = refl; some_value = omega arith }, ((l.twenty, l.bytes), tt)), tt)), rest)

  -- the revision that its text spells
  abbrev pub read_of : (h : List Revision) → Edge → Spelled
  read_of h e = record { manifest = id_of (f (spelling (manifest_of (edge_tree h no_id e)))); edges = e ∷ [] }

  pub first_spells : (h : List Revision) (tips : Tips) → Spells (edge_text f h (edge_of f 1 Begins tips)) (read_of h (edge_of f 1 Begins tips))
  first_spells h tips = spelled h (edge_of f 1 Begins tips) (first_changes f) (parent_stanza None (map stanza_of (changes_of f 1 Begins)) (λ id e. absurd cc) first_stanzas)

  pub first_read : (h : List Revision) (tips : Tips) → IsReadAs f h (edge_of f 1 Begins tips)
  first_read h tips = (read_of h (edge_of f 1 Begins tips), refl, first_spells h tips)

  parent_lawful : (work : Work) (tips : Tips) → IsIdBytes tips.left.0 → IsIdBytes tips.right.0 → (id : Id) → parent_of work tips ≡ Some id → IsIdBytes id.0
  parent_lawful Begins tips left right id e = absurd cc
  parent_lawful Patches tips left right id e = subst (λ (x : Id). IsIdBytes x.0) (let same : tips.left ≡ id = cc in same) left
  parent_lawful Sets tips left right id e = subst (λ (x : Id). IsIdBytes x.0) (let same : tips.right ≡ id = cc in same) right
  parent_lawful Joins tips left right id e = subst (λ (x : Id). IsIdBytes x.0) (let same : tips.left ≡ id = cc in same) left
  parent_lawful Renames tips left right id e = subst (λ (x : Id). IsIdBytes x.0) (let same : tips.left ≡ id = cc in same) left

  pub later_spells : (h : List Revision) (i : ℕ) (work : Work) (tips : Tips) → i < 2 ^ 64 → IsIdBytes tips.left.0 → IsIdBytes tips.right.0 → work ≢ Begins → work ≢ Joins →
      Spells (edge_text f h (edge_of f i work tips)) (read_of h (edge_of f i work tips))
  later_spells h i work tips small left right a b = spelled h (edge_of f i work tips) (later_changes f i work small a b)
      (parent_stanza (parent_of work tips) (map stanza_of (changes_of f i work)) (parent_lawful work tips left right) (later_stanzas i work a))

  pub later_read : (h : List Revision) (i : ℕ) (work : Work) (tips : Tips) → i < 2 ^ 64 → IsIdBytes tips.left.0 → IsIdBytes tips.right.0 → work ≢ Begins → work ≢ Joins → IsReadAs f h (edge_of f i work tips)
  later_read h i work tips small left right a b = (read_of h (edge_of f i work tips), refl, later_spells h i work tips small left right a b)
