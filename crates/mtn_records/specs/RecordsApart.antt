-- Why a body is one record only.
use Rattle.std.proofs.Common.{◌≡◌, refl, ap, ℕ, List, ◌∷◌, ◌++◌, length}
use Rattle.std.specs.List.{flat_map}
use Rattle.mtn_ancestry.specs.Log.{list_of}
use Rattle.mtn_ancestry.specs.declared.pos.ParentList.{ParentList}
use Rattle.mtn_ancestry.specs.declared.pos.ParentList.TheVariants.{Zero, One, Two}
use Rattle.mtn_base.specs.declared.id.Id.{Id}
use Rattle.mtn_records.specs.declared.entry.NumberedEntry.{NumberedEntry}
use Rattle.mtn_records.specs.declared.record.LogRecord.{LogRecord}
use Rattle.mtn_records.specs.declared.record.RosterRecord.{RosterRecord}
use Rattle.mtn_records.specs.declared.record.RosterRecord.TheVariants.{Whole, Delta}
use Rattle.mtn_records.specs.Fields.{AreApart, number_text, IsNumber, id_text, IsTwenty, pair_text, IsPair}
use Rattle.mtn_records.specs.Apart.{number_apart, id_apart, pair_apart, list_apart, each_apart}
use Rattle.mtn_records.specs.Entries.{entries_text, AreEntries}
use Rattle.mtn_records.specs.EntriesApart.{entries_apart}
use Rattle.mtn_records.specs.Records.{byte_text, IsByte, numbers_text, AreNumbers, roster_text, IsRosterRecord, parents_text, AreParents, log_text, IsLogRecord}

-- bytes that begin with one
first : (a b : ℕ) (x y : List ℕ) → a ∷ x ≡ b ∷ y → (a ≡ b) × (x ≡ y)
first a b x y e = (cc, cc)

pub byte_apart : AreApart byte_text IsByte
byte_apart v w r s fv fw e = first v w r s e

pub numbers_apart : AreApart numbers_text AreNumbers
numbers_apart v w r s fv fw e = list_apart number_text IsNumber number_apart v w r s fv.list fw.list e

-- a delta is a tuple of its parts
abbrev pub DeltaParts : Type 0
DeltaParts = ℕ × (ℕ × (List ℕ × List NumberedEntry))

abbrev pub from_gone : List ℕ × List NumberedEntry → List ℕ
from_gone = pair_text numbers_text entries_text

abbrev pub IsFromGone : List ℕ × List NumberedEntry → Type 0
IsFromGone = IsPair AreNumbers AreEntries

abbrev pub from_depth : ℕ × (List ℕ × List NumberedEntry) → List ℕ
from_depth = pair_text byte_text from_gone

abbrev pub IsFromDepth : ℕ × (List ℕ × List NumberedEntry) → Type 0
IsFromDepth = IsPair IsByte IsFromGone

abbrev pub delta_parts_text : DeltaParts → List ℕ
delta_parts_text = pair_text number_text from_depth

abbrev pub AreDeltaParts : DeltaParts → Type 0
AreDeltaParts = IsPair IsNumber IsFromDepth

pub delta_apart : AreApart delta_parts_text AreDeltaParts
delta_apart =
    pair_apart number_text IsNumber from_depth IsFromDepth number_apart
    (pair_apart byte_text IsByte from_gone IsFromGone byte_apart (pair_apart numbers_text AreNumbers entries_text AreEntries numbers_apart entries_apart))

abbrev pub delta_of : DeltaParts → RosterRecord
delta_of p = Delta p.0 p.1.0 p.1.1.0 p.1.1.1

pub roster_apart : AreApart roster_text IsRosterRecord
roster_apart (Whole v) (Whole w) r s fv fw e = let t = entries_apart v w r s fv fw cc in (ap Whole t.0, t.1)
roster_apart (Delta b d g c) (Delta b' d' g' c') r s fv fw e =
    let t = delta_apart (b, (d, (g, c))) (b', (d', (g', c'))) r s fv fw cc in (ap delta_of t.0, t.1)
roster_apart (Whole v) (Delta b' d' g' c') r s fv fw e = absurd cc
roster_apart (Delta b d g c) (Whole w) r s fv fw e = absurd cc

-- as many parents, and the same
listed : (v w : ParentList) → list_of v ≡ list_of w → v ≡ w
listed Zero Zero e = refl
listed (One p) (One q) e = cc
listed (Two p q) (Two p' q') e = cc
listed Zero (One q) e = absurd cc
listed Zero (Two p q) e = absurd cc
listed (One p) Zero e = absurd cc
listed (One p) (Two p' q') e = absurd cc
listed (Two p q) Zero e = absurd cc
listed (Two p q) (One p') e = absurd cc

pub parents_apart : AreApart parents_text AreParents
parents_apart v w r s fv fw e =
    let c = first (length (list_of v)) (length (list_of w)) (flat_map number_text (list_of v) ++ r) (flat_map number_text (list_of w) ++ s) e in
    let t = each_apart number_text IsNumber number_apart (list_of v) (list_of w) r s c.0 fv fw c.1 in
    (listed v w t.0, t.1)

abbrev pub LogParts : Type 0
LogParts = Id × (ℕ × ParentList)

abbrev pub log_parts : LogRecord → LogParts
log_parts log = (log.id, (log.next_node, log.parents))

abbrev pub from_next : ℕ × ParentList → List ℕ
from_next = pair_text number_text parents_text

abbrev pub IsFromNext : ℕ × ParentList → Type 0
IsFromNext = IsPair IsNumber AreParents

pub log_apart : AreApart log_text IsLogRecord
log_apart v w r s fv fw e =
    let t = pair_apart id_text IsTwenty from_next IsFromNext id_apart (pair_apart number_text IsNumber parents_text AreParents number_apart parents_apart) (log_parts v) (log_parts w) r s fv fw e in
    (ap (λ (p : LogParts). record { id = p.0; next_node = p.1.0; parents = p.1.1 }) t.0, t.1)
