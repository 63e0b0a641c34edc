-- What is looked at of a position: its text, its parents, its tree, the numbers of its nodes, and the record that is due of them.
use Rattle.std.specs.Prelude.{◌≡◌, ◌<◌, ◌≤◌, ◌+◌, ◌⊎◌, ℕ, false, List, [], ◌∷◌, length, All, Contains, IsTrue, None}
use Rattle.std.specs.List.{AllZip}
use Rattle.mtn_ancestry.specs.Log.{list_of}
use Rattle.mtn_base.specs.declared.id.Id.{Id}
use Rattle.mtn_base.specs.declared.limits.TheConstants.{LAST_NUMBER, MAX_TEXT}
use Rattle.mtn_changes.specs.declared.change.Revision.{Revision as Spelled}
use Rattle.mtn_changeset_laws.specs.Changes.{or_else}
use Rattle.mtn_check_pieces.specs.Verdict.{IsRevisionOf, IsWholeOf}
use Rattle.mtn_check_pieces.specs.declared.job.CheckJob.{CheckJob}
use Rattle.mtn_marking.specs.Marking.{MarkedTree}
use Rattle.mtn_put_revision.specs.Keeping.{IsRecordOn, IsWhole}
use Rattle.mtn_put_revision.specs.Writing.{AllAscend, NoneHas}
use Rattle.mtn_records.specs.declared.entry.NumberedEntry.{NumberedEntry}
use Rattle.mtn_records.specs.declared.record.RosterRecord.{RosterRecord}
use Rattle.mtn_records.specs.declared.record.RosterRecord.TheVariants.{Whole, Delta}
use Rattle.mtn_replay.specs.Making.{other_manifest, too_many, too_long}
use Rattle.mtn_roster.specs.Tree.{Tree}
use Rattle.mtn_roster_deltas.specs.Chain.{Entries, ascend}
use Rattle.mtn_roster_deltas.specs.Numbering.{fresh, AreKnown, IsNumbering}
use Rattle.mtn_check_records.specs.Reading.{places_of}
use Rattle.mtn_check_records.specs.declared.hand.Fit.{Fit}
use Rattle.mtn_check_records.specs.declared.hand.Fit.TheVariants.{Fits, OtherText, OtherLog, OtherRoster, Undecided}
use Rattle.mtn_check_records.specs.declared.hand.Parent.{Parent}
use Rattle.mtn_check_records.specs.declared.hand.Position.{Position}

-- how many deltas the record of the first parent stands above a whole one
abbrev pub first_depth : List Parent → ℕ
first_depth [] = 0
first_depth (p ∷ ps) = p.depth

-- the text is within its limit, and its id is the ident's
pub record IsUnderId (f : List ℕ → List ℕ) (job : CheckJob) : Type 0 where
  pub short : length job.text ≤ MAX_TEXT
  pub id : f job.text ≡ job.id.0

-- a tree is within its limits, and its manifest has this id
pub record IsSound (f : List ℕ → List ℕ) (t : Tree) (manifest : Id) : Type 0 where
  pub limits : or_else (too_many t) (too_long t) ≡ None
  pub named : other_manifest f t manifest ≡ None

-- the record is whole, and has these entries
abbrev pub HasEntries : RosterRecord → Entries → Type 0
HasEntries r es = r ≡ Whole es

-- entries of a tree under the numbers that are due behind those of some lists, and the least number that is free then
pub record IsNumberedBy (t : MarkedTree) (known : List Entries) (next : ℕ) (entries : Entries) (free : ℕ) : Type 0 where
  pub ascending : IsTrue (ascend entries)
  pub numbers : AreKnown known next → IsNumbering known next t entries
  pub next_free : AreKnown known next → free ≡ next + length (fresh known t.tree)

-- among entries the node of this one has its number
abbrev pub IsKnownIn : Entries → NumberedEntry → Type 0
IsKnownIn es e = (f : NumberedEntry) × Contains es f × (f.node ≡ e.node) × (f.number ≡ e.number)

-- the record is whole, and the node of each of its entries has its number among others
abbrev pub KeepsBelow : RosterRecord → Entries → Type 0
KeepsBelow (Whole entries) below = All (IsKnownIn below) entries
KeepsBelow (Delta base depth gone changed) below = ⊥

-- the same among those of the first list
abbrev pub KeepsNumbers : RosterRecord → List Entries → Type 0
KeepsNumbers r [] = ⊥
KeepsNumbers r (below ∷ known) = KeepsBelow r below

-- the record of the log has the number that is free then
abbrev pub TellsNext : Position → MarkedTree → List Entries → Type 0
TellsNext x t known = x.entry.next_node ≡ x.next + length (fresh known t.tree)

-- entries of a tree under the numbers that are due behind those of some lists, where the record of the log has the number that is
-- free then
pub record IsNumberedOn (x : Position) (t : MarkedTree) (known : List Entries) (entries : Entries) : Type 0 where
  pub ascending : IsTrue (ascend entries)
  pub numbers : AreKnown known x.next → IsNumbering known x.next t entries
  pub next : AreKnown known x.next → TellsNext x t known

-- over parents with these positions and entries the roster's record is the one that is due
pub record IsDueOver (x : Position) (job : CheckJob) (t : MarkedTree) (places : List ℕ) (known : List Entries) (depth : ℕ) : Type 0 where
  pub entries : Entries
  pub numbered : IsNumberedOn x t known entries
  pub deep : ℕ
  pub written : IsRecordOn places known depth entries job.at x.roster.items deep

-- another record of the roster is due
pub record IsOtherOver (x : Position) (job : CheckJob) (t : MarkedTree) (places : List ℕ) (known : List Entries) (depth : ℕ) : Type 0 where
  pub entries : Entries
  pub numbered : IsNumberedOn x t known entries
  pub body : List ℕ
  pub deep : ℕ
  pub written : IsRecordOn places known depth entries job.at body deep
  pub other : x.roster.items ≡ body → ⊥

-- another next number is due
abbrev pub IsOtherNext : Position → MarkedTree → List Entries → Type 0
IsOtherNext x t known = AreKnown known x.next → TellsNext x t known → ⊥

-- no numbers are due: the next one is past the last, or those of some entries clash
abbrev pub HasNoNumbers : Position → List Entries → Type 0
HasNoNumbers x known = x.next ≤ LAST_NUMBER → AreKnown known x.next → ⊥

-- no record is due of entries that have theirs: none of them can be written
pub record HasNoRecord (x : Position) (job : CheckJob) (t : MarkedTree) (places : List ℕ) (known : List Entries) : Type 0 where
  pub entries : Entries
  pub numbered : IsNumberedOn x t known entries
  pub none : All (λ p. p < job.at) places → AllAscend known → NoneHas job.at entries

-- what is found of the records over parents with these positions and entries
abbrev pub IsFoundOver : Position → CheckJob → MarkedTree → List ℕ → List Entries → ℕ → Fit → Type 0
IsFoundOver x job t places known depth Fits = IsDueOver x job t places known depth
IsFoundOver x job t places known depth OtherText = ⊥
IsFoundOver x job t places known depth OtherLog = IsOtherNext x t known
IsFoundOver x job t places known depth OtherRoster = IsOtherOver x job t places known depth
IsFoundOver x job t places known depth Undecided = HasNoNumbers x known ⊎ HasNoRecord x job t places known

-- each of the records is whole, and they are as many as the places
abbrev pub AreWholeAt : List ℕ → List RosterRecord → Type 0
AreWholeAt places records = AllZip (λ p r. IsWhole r) places records

-- what is found over parents with these positions and whole records
abbrev pub IsFoundWith : Position → CheckJob → MarkedTree → List ℕ → List RosterRecord → Fit → Type 0
IsFoundWith x job t places records Undecided = (AreWholeAt places records → ⊥) ⊎ ((known : List Entries) × AllZip HasEntries records known × IsFoundOver x job t places known (first_depth x.parents) Undecided)
IsFoundWith x job t places records fit = (known : List Entries) × AllZip HasEntries records known × IsFoundOver x job t places known (first_depth x.parents) fit

-- the text is within its limit and under its id, its contents are held, and the stored roster is sound beside it
pub record IsTextFit (f : List ℕ → List ℕ) (x : Position) (job : CheckJob) : Type 0 where
  pub under : IsUnderId f job
  pub read : Spelled
  pub reads : IsRevisionOf job.text read
  pub held : IsTrue x.held
  pub stored : MarkedTree
  pub spelled : IsWholeOf job.stored stored
  pub sound : IsSound f stored.tree read.manifest

-- the stored roster is not
pub record IsUnsound (f : List ℕ → List ℕ) (job : CheckJob) : Type 0 where
  pub read : Spelled
  pub reads : IsRevisionOf job.text read
  pub stored : MarkedTree
  pub spelled : IsWholeOf job.stored stored
  pub unsound : IsSound f stored.tree read.manifest → ⊥

abbrev pub IsTextUnfit : (List ℕ → List ℕ) → Position → CheckJob → Type 0
IsTextUnfit f x job = (IsUnderId f job → ⊥) ⊎ ((x.held ≡ false) ⊎ IsUnsound f job)

-- the record of the log has the parents that the text names
abbrev pub IsToldParents : Position → Type 0
IsToldParents x = list_of x.entry.parents ≡ places_of x.parents

-- what is found of the records beside a text that is fit
abbrev pub IsFoundBeside : Position → CheckJob → MarkedTree → Fit → Type 0
IsFoundBeside x job t OtherText = ⊥
IsFoundBeside x job t OtherLog = (IsToldParents x → ⊥) ⊎ (IsToldParents x × IsFoundWith x job t (places_of x.parents) job.parents OtherLog)
IsFoundBeside x job t fit = IsToldParents x × IsFoundWith x job t (places_of x.parents) job.parents fit

-- All that is found
abbrev pub IsFound : (List ℕ → List ℕ) → Position → CheckJob → Fit → Type 0
IsFound f x job OtherText = IsTextUnfit f x job
IsFound f x job fit = (text : IsTextFit f x job) × IsFoundBeside x job text.stored fit

-- the stored roster is sound beside a text with this manifest, and this is found of the records; or it is not
abbrev pub IsFoundUnder : (List ℕ → List ℕ) → Position → CheckJob → Id → Fit → Type 0
IsFoundUnder f x job manifest OtherText = (stored : MarkedTree) × IsWholeOf job.stored stored × (IsSound f stored.tree manifest → ⊥)
IsFoundUnder f x job manifest fit = (stored : MarkedTree) × IsWholeOf job.stored stored × IsSound f stored.tree manifest × IsFoundBeside x job stored fit
