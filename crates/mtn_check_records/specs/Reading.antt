-- What was read at a position of the log, over the front below it, and what it leads to.
use Rattle.std.specs.Prelude.{◌≡◌, ℕ, false, List, ◌++◌, map, filter_map, None, Some, IsSome, IsTrue, slice_get}
use Rattle.std.specs.List.{AllZip}
use Rattle.mtn_base.specs.declared.id.Id.{Id}
use Rattle.mtn_changes.specs.declared.change.Edge.{Edge}
use Rattle.mtn_changes.specs.declared.change.Revision.{Revision as Spelled}
use Rattle.mtn_check_laws.specs.Fronts.{Front, Step, IsStepAt}
use Rattle.mtn_check_pieces.specs.Verdict.{IsRevisionOf}
use Rattle.mtn_check_pieces.specs.declared.job.CheckJob.{CheckJob}
use Rattle.mtn_check_pieces_laws.specs.Behind.{AreApartIn}
use Rattle.mtn_history.specs.Revisions.{next_of}
use Rattle.mtn_history_laws.specs.History.{Revision}
use Rattle.mtn_model.specs.Table.{Contents, body_at}
use Rattle.mtn_records.specs.Bounds.{IsLogAt, IsRosterAt}
use Rattle.mtn_records.specs.Fields.{number_text}
use Rattle.mtn_records.specs.declared.record.RosterRecord.{RosterRecord}
use Rattle.mtn_records.specs.declared.record.RosterRecord.TheVariants.{Whole, Delta}
use Rattle.mtn_replay.specs.Making.{unknown_file}
use Rattle.mtn_roster_deltas.specs.Chain.{Entries, applied}
use Rattle.mtn_check_records.specs.declared.hand.Hand.{Hand}
use Rattle.mtn_check_records.specs.declared.hand.Parent.{Parent}
use Rattle.mtn_check_records.specs.declared.hand.Position.{Position}

-- what is kept of the revision at p
pub record IsHandOf (front : Front) (p : ℕ) (hand : Hand) : Type 0 where
  pub revision : Revision
  pub made : slice_get front.history p ≡ Some revision
  pub same : revision.id ≡ hand.id
  pub kept : slice_get front.kept p ≡ Some (record { entries = hand.entries; next = hand.next; depth = hand.depth })

-- the parent stands there, and this is the whole record of its roster
pub record IsParentIn (front : Front) (parent : Parent) (r : RosterRecord) : Type 0 where
  pub hand : Hand
  pub is : IsHandOf front parent.at hand
  pub id : parent.id ≡ hand.id
  pub depth : parent.depth ≡ hand.depth
  pub whole : r ≡ Whole hand.entries

abbrev pub places_of : List Parent → List ℕ
places_of parents = map (λ (p : Parent). p.at) parents

abbrev pub ids_of : List Parent → List Id
ids_of parents = map (λ (p : Parent). p.id) parents

-- the ids of the parents that edges name, in their order
abbrev pub named_in : List Edge → List Id
named_in edges = filter_map (λ (e : Edge). e.parent) edges

-- the entries after a delta on those of the first record
pub record IsAfterFirst (records : List RosterRecord) (gone : List ℕ) (changed entries : Entries) : Type 0 where
  pub below : Entries
  pub first : slice_get records 0 ≡ Some (Whole below)
  pub after : applied below gone changed ≡ Some entries

-- what the record of a roster gives over its parents, and how many deltas it stands above a whole one: its own entries, or those that
-- its delta on the first parent makes of the first of their records
abbrev pub IsGivenBy : List Parent → List RosterRecord → RosterRecord → Entries → ℕ → Type 0
IsGivenBy parents records (Whole own) entries depth = (entries ≡ own) × (depth ≡ 0)
IsGivenBy parents records (Delta base deep gone changed) entries depth = (slice_get (places_of parents) 0 ≡ Some base) × (depth ≡ deep) × IsAfterFirst records gone changed entries

-- the same of the record under r with this body
pub record IsGivenAt (r : ℕ) (body : List ℕ) (parents : List Parent) (records : List RosterRecord) (entries : Entries) (depth : ℕ) : Type 0 where
  pub roster : RosterRecord
  pub text : IsRosterAt r body roster
  pub given : IsGivenBy parents records roster entries depth

-- what stands at r, and a job for its roster, over the front below: the parents are those that the text names, and the stored entries are
-- what the roster's record gives
pub record IsReadAt (c : Contents) (r : ℕ) (front : Front) (x : Position) (job : CheckJob) : Type 0 where
  pub here : job.at ≡ r
  pub log : body_at c 4 (number_text r) ≡ Some x.log.items
  pub formed : IsLogAt r x.log.items x.entry
  pub id : job.id ≡ x.entry.id
  pub text : body_at c 3 x.entry.id.0 ≡ Some (number_text r ++ job.text)
  pub roster : body_at c 5 (number_text r) ≡ Some x.roster.items
  pub next : x.next ≡ next_of front.kept
  pub parents : AllZip (IsParentIn front) x.parents job.parents
  pub apart : AreApartIn front.history (places_of x.parents) job
  pub named : (v : Spelled) → IsRevisionOf job.text v → named_in v.edges ≡ ids_of x.parents
  pub files : (v : Spelled) → IsRevisionOf job.text v → IsTrue x.held → unknown_file (c 2) v.edges ≡ None
  pub unheld : (v : Spelled) → IsRevisionOf job.text v → x.held ≡ false → IsSome (unknown_file (c 2) v.edges)
  pub stored : (entries : Entries) × (job.stored ≡ Whole entries) × IsGivenAt r x.roster.items x.parents job.parents entries x.depth

-- one revision more, of which that is kept which was read
pub record IsStepOf (f : List ℕ → List ℕ) (c : Contents) (r : ℕ) (front : Front) (x : Position) (job : CheckJob) : Type 0 where
  pub step : Step
  pub is : IsStepAt f c r front step
  pub id : step.revision.id ≡ x.entry.id
  pub entries : job.stored ≡ Whole step.kept.entries
  pub next : step.kept.next ≡ x.entry.next_node
  pub depth : step.kept.depth ≡ x.depth
