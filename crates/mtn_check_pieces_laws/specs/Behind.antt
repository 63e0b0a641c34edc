-- A job of the revision behind a front of the log, and what is kept of that revision but for its numbers. What is kept is our
-- choice (`mtn_history`, `Revisions`).
use Rattle.std.specs.Prelude.{◌≡◌, ℕ, ◌+◌, List, [], ◌∷◌, ◌++◌, length, None, Some, slice_get}
use Rattle.std.specs.List.{AllByRecursion, AllZip}
use Rattle.mtn_changes.specs.declared.change.Edge.{Edge}
use Rattle.mtn_check_laws.specs.Fronts.{Front}
use Rattle.mtn_check_pieces.specs.declared.job.CheckJob.{CheckJob}
use Rattle.mtn_history.specs.Revisions.{Kept, next_of, all_entries, depth_on}
use Rattle.mtn_history_laws.specs.History.{Revision}
use Rattle.mtn_make_roster.specs.Basis.{AreUncommonIn}
use Rattle.mtn_marking.specs.Graph.{IsMarkedAt}
use Rattle.mtn_marking.specs.Marking.{Marks}
use Rattle.mtn_model.specs.State.{Logged}
use Rattle.mtn_records.specs.declared.entry.NumberedEntry.{NumberedEntry}
use Rattle.mtn_records.specs.declared.record.RosterRecord.{RosterRecord}
use Rattle.mtn_records.specs.declared.record.RosterRecord.TheVariants.{Whole}
use Rattle.mtn_replay.specs.Making.{place_of, parents_of, unknown_parent}
use Rattle.mtn_roster_deltas.specs.Chain.{Entries}
use Rattle.mtn_roster_deltas.specs.Numbering.{fresh, number_in}
use Rattle.mtn_roster_deltas.specs.Spelled.{Spells}

-- the whole record of what is kept of the revision at p
pub record IsKeptRecord (ks : List Kept) (p : ℕ) (r : RosterRecord) : Type 0 where
  pub kept : Kept
  pub held : slice_get ks p ≡ Some kept
  pub whole : r ≡ Whole kept.entries

-- what each of two parents has above it that the other lacks
abbrev pub AreApartIn : List Revision → List ℕ → CheckJob → Type 0
AreApartIn h (p ∷ q ∷ []) job = AreUncommonIn h p q job.only_left × AreUncommonIn h q p job.only_right
AreApartIn h _ job = Unit {0}

-- the job is of the position behind the front: its id is new, the parents of the edges are held, and its records are of what is
-- kept of them, in their order
pub record IsJobBehind (front : Front) (edges : List Edge) (job : CheckJob) : Type 0 where
  pub fresh : place_of front.history job.id ≡ None
  pub here : job.at ≡ length front.history
  pub named : unknown_parent front.history edges ≡ None
  pub records : AllZip (IsKeptRecord front.kept) (parents_of front.history edges) job.parents
  pub apart : AreApartIn front.history (parents_of front.history edges) job

-- the text of the job under its id
abbrev pub logged_of : CheckJob → Logged
logged_of job = record { id = job.id.0; text = job.text }

-- the record is whole, and spells the tree of the next revision with the marks that the whole history gives it
pub record IsKeptUnnumbered (h : List Revision) (v : Revision) (r : RosterRecord) : Type 0 where
  pub entries : Entries
  pub whole : r ≡ Whole entries
  pub marks : Marks
  pub marked : IsMarkedAt (h ++ v ∷ []) (length h) (record { tree = v.tree; marks = marks })
  pub spelled : Spells entries (record { tree = v.tree; marks = marks })

-- the numbers of entries are those that nodes of earlier revisions keep, and new ones get as the walk meets them; and the next
-- number and the depth are those that are due
pub record AreNumbersDue (ks : List Kept) (v : Revision) (new : Kept) : Type 0 where
  pub numbers : AllByRecursion (λ (e : NumberedEntry). number_in (all_entries ks) (next_of ks) v.tree e.node ≡ Some e.number) new.entries
  pub next : new.next ≡ next_of ks + length (fresh (all_entries ks) v.tree)
  pub depth : new.depth ≡ depth_on ks v.parents
