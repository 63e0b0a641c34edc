-- Entries of a tree under numbers, as they stand in a record.
use Rattle.std.specs.Prelude.{◌≡◌, ℕ, ◌+◌, ◌<◌, Bool, true, false, List, [], ◌++◌, length, slice_index_or}
use Rattle.std.specs.declared.cmp.Ordering.TheVariants.{Less}
use Rattle.mtn_base.specs.Comps.{AreComps}
use Rattle.mtn_base.specs.Names.{bytes_cmp}
use Rattle.mtn_base.specs.Paths.{path_text}
use Rattle.mtn_base.specs.declared.name.NodeName.{NodeName}
use Rattle.mtn_records.specs.declared.entry.NumberedAttr.{NumberedAttr}
use Rattle.mtn_records.specs.declared.entry.NumberedBody.{NumberedBody}
use Rattle.mtn_records.specs.declared.entry.NumberedBody.TheVariants.{Dir, File}
use Rattle.mtn_records.specs.declared.entry.NumberedEntry.{NumberedEntry}
use Rattle.mtn_records.specs.Fields.{number_text, IsNumber, flag_text, id_text, IsTwenty, field_text, IsField, option_text, IsOption, list_text, IsList, set_text, IsSet}

-- the bytes of a path, as a field
abbrev pub path_field : List (List ℕ) → List ℕ
path_field path = field_text (path_text path)

abbrev pub IsPath : List (List ℕ) → Type 0
IsPath path = AreComps path × IsField (path_text path)

-- the birth id, and the birth path as a field
abbrev pub name_text : NodeName → List ℕ
name_text name = id_text name.birth ++ path_field name.path

abbrev pub IsName : NodeName → Type 0
IsName name = IsTwenty name.birth × IsPath name.path

-- key, whether it is live, its value if it is, and its marks
abbrev pub attr_text : NumberedAttr → List ℕ
attr_text a = field_text a.key ++ (option_text field_text a.value ++ set_text a.marks)

abbrev pub IsAttr : NumberedAttr → Type 0
IsAttr a = IsField a.key × (IsOption IsField a.value × IsSet a.marks)

abbrev pub is_file : NumberedBody → Bool
is_file Dir = false
is_file (File content marks) = true

-- for a file its content and the marks of that
abbrev pub body_text : NumberedBody → List ℕ
body_text Dir = []
body_text (File content marks) = id_text content ++ set_text marks

abbrev pub IsBody : NumberedBody → Type 0
IsBody Dir = Unit {0}
IsBody (File content marks) = IsTwenty content × IsSet marks

-- the body of a file, or of a directory
abbrev pub IsBodyOf : Bool → NumberedBody → Type 0
IsBodyOf file body = (is_file body ≡ file) × IsBody body

-- the name below the parent, and the marks of both
abbrev pub below_text : NumberedEntry → List ℕ
below_text e = field_text e.name ++ set_text e.slot_marks

-- before them the kind and the parent's number
abbrev pub place_text : NumberedEntry → List ℕ
place_text e = flag_text (is_file e.body) ++ (number_text e.parent ++ below_text e)

-- before them the node's name
abbrev pub named_text : NumberedEntry → List ℕ
named_text e = name_text e.node ++ place_text e

-- before it the birth position
abbrev pub birth_text : NumberedEntry → List ℕ
birth_text e = number_text e.birth_at ++ named_text e

-- before it the number: all that stands before the body
abbrev pub head_text : NumberedEntry → List ℕ
head_text e = number_text e.number ++ birth_text e

abbrev pub IsHead : NumberedEntry → Type 0
IsHead e = IsNumber e.number × (IsNumber e.birth_at × (IsName e.node × (Unit {0} × (IsNumber e.parent × (IsField e.name × IsSet e.slot_marks)))))

-- behind it the body and the attributes
abbrev pub entry_text : NumberedEntry → List ℕ
entry_text e = head_text e ++ (body_text e.body ++ list_text attr_text e.attrs)

-- each key is below the next
abbrev pub KeysAscend : List NumberedAttr → Type 0
KeysAscend attrs = (k : ℕ) (d : NumberedAttr) → k + 1 < length attrs → bytes_cmp (slice_index_or attrs k d).key (slice_index_or attrs (k + 1) d).key ≡ Less

-- each number is below the next
abbrev pub NumbersAscend : List NumberedEntry → Type 0
NumbersAscend es = (k : ℕ) (d : NumberedEntry) → k + 1 < length es → (slice_index_or es k d).number < (slice_index_or es (k + 1) d).number

pub record IsEntry (e : NumberedEntry) : Type 0 where
  pub head : IsHead e
  pub body : IsBody e.body
  pub attrs : IsList IsAttr e.attrs
  -- the root slot has no name
  pub root : e.parent ≡ 0 → e.name ≡ []
  pub keys : KeysAscend e.attrs

-- entries by ascending numbers
abbrev pub entries_text : List NumberedEntry → List ℕ
entries_text = list_text entry_text

pub record AreEntries (es : List NumberedEntry) : Type 0 where
  pub list : IsList IsEntry es
  pub ascending : NumbersAscend es
