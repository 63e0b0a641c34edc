-- Why bytes begin with one entry only.
use Rattle.std.proofs.Common.{◌≡◌, refl, sym, ap, ◌∙◌, ℕ, Bool, List, ◌++◌, Option}
use Rattle.std.proofs.lemmas.List.{append_assoc}
use Rattle.mtn_base.specs.Paths.{path_text}
use Rattle.mtn_base.specs.declared.id.Id.{Id}
use Rattle.mtn_base.specs.declared.name.NodeName.{NodeName}
use Rattle.mtn_records.specs.PathTold.{path_told}
use Rattle.mtn_records.specs.declared.entry.NumberedAttr.{NumberedAttr}
use Rattle.mtn_records.specs.declared.entry.NumberedBody.{NumberedBody}
use Rattle.mtn_records.specs.declared.entry.NumberedBody.TheVariants.{Dir, File}
use Rattle.mtn_records.specs.declared.entry.NumberedEntry.{NumberedEntry}
use Rattle.mtn_records.specs.Fields.{AreApart, number_text, IsNumber, flag_text, id_text, IsTwenty, field_text, IsField, pair_text, IsPair, option_text, IsOption, list_text, set_text, IsSet}
use Rattle.mtn_records.specs.Apart.{number_apart, flag_apart, id_apart, field_apart, pair_apart, option_apart, list_apart, set_apart}
use Rattle.mtn_records.specs.Entries.{path_field, IsPath, name_text, IsName, attr_text, IsAttr, is_file, body_text, IsBodyOf, head_text, entry_text, IsEntry, entries_text, AreEntries}

pub path_apart : AreApart path_field IsPath
path_apart v w r s fv fw e = let t = field_apart (path_text v) (path_text w) r s fv.1 fw.1 e in (path_told v w fv.0 fw.0 t.0, t.1)

pub name_apart : AreApart name_text IsName
name_apart v w r s fv fw e =
    let t = pair_apart id_text IsTwenty path_field IsPath id_apart path_apart (v.birth, v.path) (w.birth, w.path) r s fv fw e in
    (ap (λ (p : Id × List (List ℕ)). record { birth = p.0; path = p.1 }) t.0, t.1)

-- a tuple of tuples
abbrev pub attr_parts : NumberedAttr → List ℕ × (Option (List ℕ) × List ℕ)
attr_parts a = (a.key, (a.value, a.marks))

pub attr_apart : AreApart attr_text IsAttr
attr_apart v w r s fv fw e =
    let t = pair_apart field_text IsField (pair_text (option_text field_text) set_text) (IsPair (IsOption IsField) IsSet) field_apart
    (pair_apart (option_text field_text) (IsOption IsField) set_text IsSet (option_apart field_text IsField field_apart) set_apart) (attr_parts v) (attr_parts w) r s fv fw e in
    (ap (λ (p : List ℕ × (Option (List ℕ) × List ℕ)). record { key = p.0; value = p.1.0; marks = p.1.1 }) t.0, t.1)

-- bodies of one kind
pub body_apart : (file : Bool) → AreApart body_text (IsBodyOf file)
body_apart file Dir Dir r s fv fw e = (refl, e)
body_apart file (File c m) (File d n) r s fv fw e =
    let t = pair_apart id_text IsTwenty set_text IsSet id_apart set_apart (c, m) (d, n) r s fv.1 fw.1 e in
    (ap (λ (p : Id × List ℕ). File p.0 p.1) t.0, t.1)
body_apart file Dir (File d n) r s fv fw e = absurd (cc (fv.0, fw.0))
body_apart file (File c m) Dir r s fv fw e = absurd (cc (fv.0, fw.0))

abbrev pub HeadParts : Type 0
HeadParts = ℕ × (ℕ × (NodeName × (Bool × (ℕ × (List ℕ × List ℕ)))))

abbrev pub head_parts : NumberedEntry → HeadParts
head_parts e = (e.number, (e.birth_at, (e.node, (is_file e.body, (e.parent, (e.name, e.slot_marks))))))

-- the parts from each one on, up to the body
abbrev pub from_name : List ℕ × List ℕ → List ℕ
from_name = pair_text field_text set_text

abbrev pub from_parent : ℕ × (List ℕ × List ℕ) → List ℕ
from_parent = pair_text number_text from_name

abbrev pub from_kind : Bool × (ℕ × (List ℕ × List ℕ)) → List ℕ
from_kind = pair_text flag_text from_parent

abbrev pub from_node : NodeName × (Bool × (ℕ × (List ℕ × List ℕ))) → List ℕ
from_node = pair_text name_text from_kind

abbrev pub from_birth : ℕ × (NodeName × (Bool × (ℕ × (List ℕ × List ℕ)))) → List ℕ
from_birth = pair_text number_text from_node

abbrev pub parts_text : HeadParts → List ℕ
parts_text = pair_text number_text from_birth

abbrev pub IsFromName : List ℕ × List ℕ → Type 0
IsFromName = IsPair IsField IsSet

abbrev pub IsFromParent : ℕ × (List ℕ × List ℕ) → Type 0
IsFromParent = IsPair IsNumber IsFromName

abbrev pub IsFlag : Bool → Type 0
IsFlag b = Unit {0}

abbrev pub IsFromKind : Bool × (ℕ × (List ℕ × List ℕ)) → Type 0
IsFromKind = IsPair IsFlag IsFromParent

abbrev pub IsFromNode : NodeName × (Bool × (ℕ × (List ℕ × List ℕ))) → Type 0
IsFromNode = IsPair IsName IsFromKind

abbrev pub IsFromBirth : ℕ × (NodeName × (Bool × (ℕ × (List ℕ × List ℕ)))) → Type 0
IsFromBirth = IsPair IsNumber IsFromNode

abbrev pub AreParts : HeadParts → Type 0
AreParts = IsPair IsNumber IsFromBirth

pub parts_apart : AreApart parts_text AreParts
parts_apart =
    pair_apart number_text IsNumber from_birth IsFromBirth number_apart (pair_apart number_text IsNumber from_node IsFromNode number_apart (pair_apart name_text IsName from_kind IsFromKind name_apart
    (pair_apart flag_text IsFlag from_parent IsFromParent flag_apart (pair_apart number_text IsNumber from_name IsFromName number_apart (pair_apart field_text IsField set_text IsSet field_apart set_apart)))))

abbrev pub with_parts : HeadParts → NumberedBody → List NumberedAttr → NumberedEntry
with_parts p body attrs =
    record { number = p.0; birth_at = p.1.0; node = p.1.1.0; parent = p.1.1.1.1.0; name = p.1.1.1.1.1.0; slot_marks = p.1.1.1.1.1.1; body = body; attrs = attrs }

pub entry_apart : AreApart entry_text IsEntry
entry_apart v w r s fv fw e =
    let t = parts_apart (head_parts v) (head_parts w) ((body_text v.body ++ list_text attr_text v.attrs) ++ r) ((body_text w.body ++ list_text attr_text w.attrs) ++ s) fv.head fw.head
    (sym (append_assoc (head_text v) (body_text v.body ++ list_text attr_text v.attrs) r) ∙ e ∙ append_assoc (head_text w) (body_text w.body ++ list_text attr_text w.attrs) s) in
    let kind : is_file v.body ≡ is_file w.body = ap (λ (p : HeadParts). p.1.1.1.0) t.0 in
    let u = body_apart (is_file w.body) v.body w.body (list_text attr_text v.attrs ++ r) (list_text attr_text w.attrs ++ s) (kind, fv.body) (refl, fw.body)
    (sym (append_assoc (body_text v.body) (list_text attr_text v.attrs) r) ∙ t.1 ∙ append_assoc (body_text w.body) (list_text attr_text w.attrs) s) in
    let x = list_apart attr_text IsAttr attr_apart v.attrs w.attrs r s fv.attrs fw.attrs u.1 in
    (ap (λ (q : HeadParts). with_parts q v.body v.attrs) t.0 ∙ ap (λ (b : NumberedBody). with_parts (head_parts w) b v.attrs) u.0 ∙ ap (λ (a : List NumberedAttr). with_parts (head_parts w) w.body a) x.0, x.1)

pub entries_apart : AreApart entries_text AreEntries
entries_apart v w r s fv fw e = list_apart entry_text IsEntry entry_apart v w r s fv.list fw.list e
