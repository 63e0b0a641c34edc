-- The column of a node's stanza.
use Rattle.std.specs.Prelude.{codes, filter_map, is_some, option_map, max}
use Rattle.std.specs.List.{flat_map, list_any, cons_option}
use Rattle.std.proofs.lemmas.List.Concat.{flat_map-append}
use Rattle.std.proofs.Common.{◌≡◌, ◌||◌, ℕ, ◌+◌, ◌<◌, Bool, true, false, cond, List, [], ◌∷◌, ◌++◌, length, take, get_or, append_assoc, Some, None, refl, sym, ◌∙◌, ap}
use Rattle.mtn_basic_io.specs.Spelling.{longest, line_text, stanza_text}
use Rattle.mtn_basic_io.specs.declared.stanza.Value.TheVariants.{Text}
use Rattle.mtn_roster.specs.declared.entry.Attr.{Attr}
use Rattle.mtn_roster.specs.declared.entry.Body.{Body}
use Rattle.mtn_roster.specs.declared.entry.Body.TheVariants.{Dir, File}
use Rattle.mtn_roster.specs.declared.entry.Entry.{Entry}
use Rattle.mtn_manifest.specs.Manifest.{line_of, attr_line, body_lines, node_stanza}
use Rattle.mtn_manifest.proofs.Prefixes.{attrs_more}

abbrev pub any_live : List Attr → Bool
any_live = list_any (λ (a : Attr). is_some a.value)

four : (b : Bool) → max 4 (cond b 4 0) ≡ 4
four true = refl
four false = refl

attrs_long : (attrs : List Attr) → longest (filter_map attr_line attrs) ≡ cond (any_live attrs) 4 0
attrs_long [] = refl
attrs_long (a ∷ attrs) =
    elim a.value as (λ v. longest (cons_option (option_map (λ value. line_of (codes "attr") (Text a.key ∷ Text value ∷ [])) v) (filter_map attr_line attrs)) ≡ cond (is_some v || any_live attrs) 4 0) [
      | None ↦ attrs_long attrs
      | Some v ↦ ap (max 4) (attrs_long attrs) ∙ four (any_live attrs)
    ]

of_dir : (b : Bool) → max 3 (cond b 4 0) ≡ cond b 4 3
of_dir true = refl
of_dir false = refl

of_file : (b : Bool) → max 4 (max 7 (cond b 4 0)) ≡ 7
of_file true = refl
of_file false = refl

abbrev pub wide : Bool → Body → ℕ
wide live Dir = cond live 4 3
wide live (File content) = 7

pub column_is : (path : List ℕ) (e : Entry) → wide (any_live e.attrs) e.body ≡ longest (node_stanza path e)
column_is path e =
    elim e.body as (λ b. wide (any_live e.attrs) b ≡ longest (body_lines path b ++ filter_map attr_line e.attrs)) [
      | Dir ↦ sym (ap (max 3) (attrs_long e.attrs) ∙ of_dir (any_live e.attrs))
      | File content ↦ sym (ap (λ n. max 4 (max 7 n)) (attrs_long e.attrs) ∙ of_file (any_live e.attrs))
    ]

-- one more attribute
pub lines_more : (column : ℕ) (old now new : List ℕ) (xs : List Attr) (i : ℕ) (a : Attr) → i < length xs → a ≡ get_or xs i a → now ≡ old ++ flat_map (line_text column) (filter_map attr_line (take i xs))
    → new ≡ now ++ flat_map (line_text column) (cons_option (attr_line a) []) → new ≡ old ++ flat_map (line_text column) (filter_map attr_line (take (i + 1) xs))
lines_more column old now new xs i a low at was more =
    let lines = filter_map attr_line (take i xs) in
    let line = cons_option (attr_line a) [] in
    more ∙ ap (λ l. l ++ flat_map (line_text column) line) was
    ∙ append_assoc old (flat_map (line_text column) lines) (flat_map (line_text column) line)
    ∙ ap (λ l. old ++ l) (sym (flat_map-append (line_text column) lines line) ∙ ap (flat_map (line_text column)) (attrs_more [] lines (lines ++ line) xs i a low at refl refl))

-- the lines of the body, and those of the attributes
pub printed : (column : ℕ) (path : List ℕ) (e : Entry) (attrs : List Attr) (old mid new : List ℕ) → column ≡ longest (node_stanza path e) → attrs ≡ e.attrs → mid ≡ old ++ flat_map (line_text column) (body_lines path e.body)
    → new ≡ mid ++ flat_map (line_text column) (filter_map attr_line attrs) → new ≡ old ++ stanza_text (node_stanza path e)
printed column path e attrs old mid new is same body more =
    let lines = filter_map attr_line e.attrs in
    more ∙ ap (λ xs. mid ++ flat_map (line_text column) (filter_map attr_line xs)) same ∙ ap (λ l. l ++ flat_map (line_text column) lines) body
    ∙ append_assoc old (flat_map (line_text column) (body_lines path e.body)) (flat_map (line_text column) lines)
    ∙ ap (λ l. old ++ l) (sym (flat_map-append (line_text column) (body_lines path e.body) lines) ∙ ap (λ n. flat_map (line_text n) (node_stanza path e)) is)
