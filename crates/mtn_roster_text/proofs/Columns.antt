-- The column of a node's stanza.
use Rattle.std.specs.Prelude.{is_none, max}
use Rattle.std.specs.List.{flat_map, list_any}
use Rattle.std.proofs.Common.{◌≡◌, ◌||◌, ℕ, ◌≤◌, Bool, true, false, cond, List, [], ◌∷◌, ◌++◌, length, Some, None, refl, arith}
use Rattle.mtn_base.specs.declared.id.Id.{Id}
use Rattle.mtn_base.specs.declared.name.NodeName.{NodeName}
use Rattle.mtn_basic_io.specs.Spelling.{longest}
use Rattle.mtn_history_laws.specs.Scalars.{Scalar}
use Rattle.mtn_manifest.specs.Manifest.{body_lines}
use Rattle.mtn_roster.specs.declared.entry.Attr.{Attr}
use Rattle.mtn_roster.specs.declared.entry.Body.{Body}
use Rattle.mtn_roster.specs.declared.entry.Body.TheVariants.{Dir, File}
use Rattle.mtn_roster.specs.declared.entry.Entry.{Entry}
use Rattle.mtn_roster_text.specs.RosterText.{attr_lines, node_marks, value_line, marked_stanza}

abbrev pub any_cleared : List Attr → Bool
any_cleared = list_any (λ (a : Attr). is_none a.value)

module _ (ids : Scalar → List Id) (n : NodeName) where
  abbrev lines_of : List Attr → ℕ
  lines_of attrs = longest (flat_map (attr_lines ids n) attrs)

  of_cleared : (c : Bool) (rest : ℕ) → max 9 rest ≡ cond c 12 9 → max 9 (max 12 (max 9 rest)) ≡ 12
  of_cleared true rest h = omega arith
  of_cleared false rest h = omega arith

  of_live : (c : Bool) (rest : ℕ) → max 9 rest ≡ cond c 12 9 → max 9 (max 4 (max 9 rest)) ≡ cond c 12 9
  of_live true rest h = omega arith
  of_live false rest h = omega arith

  attrs_long : (attrs : List Attr) → max 9 (lines_of attrs) ≡ cond (any_cleared attrs) 12 9
  attrs_long [] = refl
  attrs_long (a ∷ attrs) =
      elim a.value as (λ v. max 9 (max (length (value_line a.key v).symbol) (max 9 (lines_of attrs))) ≡ cond (is_none v || any_cleared attrs) 12 9) [
        | None ↦ of_cleared (any_cleared attrs) (lines_of attrs) (attrs_long attrs)
        | Some v ↦ of_live (any_cleared attrs) (lines_of attrs) (attrs_long attrs)
      ]

  of_dir : (c : Bool) (rest : ℕ) → max 9 rest ≡ cond c 12 9 → cond c 12 9 ≡ max 3 (max 5 (max 9 rest))
  of_dir true rest h = omega arith
  of_dir false rest h = omega arith

  of_file : (c : Bool) (rest : ℕ) → max 9 rest ≡ cond c 12 9 → 12 ≡ max 4 (max 7 (max 5 (max 9 (max 12 rest))))
  of_file true rest h = omega arith
  of_file false rest h = omega arith

abbrev pub wide : Bool → Body → ℕ
wide cleared Dir = cond cleared 12 9
wide cleared (File content) = 12

pub column_is : (ids : Scalar → List Id) (path : List ℕ) (e : Entry) → wide (any_cleared e.attrs) e.body ≡ longest (marked_stanza ids path e)
column_is ids path e =
    elim e.body as (λ b. wide (any_cleared e.attrs) b ≡ longest (body_lines path b ++ (node_marks ids e.name b ++ flat_map (attr_lines ids e.name) e.attrs))) [
      | Dir ↦ of_dir ids e.name (any_cleared e.attrs) (lines_of ids e.name e.attrs) (attrs_long ids e.name e.attrs)
      | File content ↦ of_file ids e.name (any_cleared e.attrs) (lines_of ids e.name e.attrs) (attrs_long ids e.name e.attrs)
    ]

-- the lines of a body are short
pub body_fits : (path : List ℕ) (b : Body) (column : ℕ) → 9 ≤ column → longest (body_lines path b) ≤ column
body_fits path Dir column h = omega arith
body_fits path (File content) column h = omega arith
