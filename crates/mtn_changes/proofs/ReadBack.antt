-- What was written is read back.
use Rattle.std.proofs.Common.{◌≡◌, ℕ, List, [], ◌++◌, map, Result, Ok, Err, IfOk, sym, ap, subst, ◌∙◌}
use Rattle.mtn_basic_io.specs.Spelling.{AreStanzas, spelling}
use Rattle.mtn_changes.specs.declared.change.Change.{Change}
use Rattle.mtn_changes.specs.declared.change.Edge.{Edge}
use Rattle.mtn_changes.specs.declared.change.Revision.{Revision}
use Rattle.mtn_changes.specs.declared.error.ChangeTextError.{ChangeTextError}
use Rattle.mtn_changes.specs.declared.error.ChangeTextError.TheVariants.{NoMemory}
use Rattle.mtn_changes.specs.Stanzas.{stanza_of}
use Rattle.mtn_changes.specs.ChangesText.{IsChangesText, IsChangesFault}
use Rattle.mtn_changes.specs.RevisionText.{revision_stanzas, IsRevisionText, IsRevisionFault}
use Rattle.mtn_changes.specs.Sorting.{IsSortedAs, AreSortedAs, WritesChanges, WritesRevision}
use Rattle.mtn_changes.proofs.OneValue.{same_changes, same_revision, no_changes_fault, no_revision_fault}

-- both facts of a value
pub of_both : {X E : Type 0} (r : Result X E) (P Q R : X → Type 0) → ((x : X) → P x → Q x → R x) → IfOk r P → IfOk r Q → IfOk r R
of_both (Ok x) P Q R f p q = f x p q
of_both (Err e) P Q R f p q = tt

-- the text alone, where nothing stood before it
module _ (before out text : List ℕ) (empty : before ≡ []) (whole : text ≡ out) where
  changes_text : (cs : List Change) (w : WritesChanges before cs out) → IsChangesText text w.sorted
  changes_text cs w = record { lawful = w.lawful; spelled = whole ∙ w.spelled ∙ ap (λ (b : List ℕ). b ++ spelling (map stanza_of w.sorted)) empty }

  pub changes_back : (cs : List Change) (w : WritesChanges before cs out) (ds : List Change) → IsChangesText text ds → AreStanzas (map stanza_of ds) → IsSortedAs cs ds
  changes_back cs w ds is ok = subst (λ (xs : List Change). IsSortedAs cs xs) (same_changes text w.sorted ds w.stanzas ok (changes_text cs w) is) w.is

  pub changes_memory : (cs : List Change) (w : WritesChanges before cs out) (e : ChangeTextError) → IsChangesFault text e → e ≡ NoMemory
  changes_memory cs w e fault = no_changes_fault text w.sorted e w.stanzas (changes_text cs w) fault

  abbrev as_written : (r : Revision) → WritesRevision before r out → Revision
  as_written r w = record { manifest = r.manifest; edges = w.sorted }

  revision_text : (r : Revision) (w : WritesRevision before r out) → IsRevisionText text (as_written r w)
  revision_text r w = record { lawful = w.lawful; spelled = whole ∙ w.spelled ∙ ap (λ (b : List ℕ). b ++ spelling (revision_stanzas (as_written r w))) empty }

  revision_back : (r : Revision) (w : WritesRevision before r out) (s : Revision) → IsRevisionText text s → AreStanzas (revision_stanzas s) → as_written r w ≡ s
  revision_back r w s is ok = same_revision text (as_written r w) s w.stanzas ok (revision_text r w) is

  pub manifest_back : (r : Revision) (w : WritesRevision before r out) (s : Revision) → IsRevisionText text s → AreStanzas (revision_stanzas s) → s.manifest ≡ r.manifest
  manifest_back r w s is ok = sym (ap (λ (x : Revision). x.manifest) (revision_back r w s is ok))

  pub edges_back : (r : Revision) (w : WritesRevision before r out) (s : Revision) → IsRevisionText text s → AreStanzas (revision_stanzas s) → AreSortedAs r.edges s.edges
  edges_back r w s is ok = subst (λ (es : List Edge). AreSortedAs r.edges es) (ap (λ (x : Revision). x.edges) (revision_back r w s is ok)) w.are

  pub revision_memory : (r : Revision) (w : WritesRevision before r out) (e : ChangeTextError) → IsRevisionFault text e → e ≡ NoMemory
  revision_memory r w e fault = no_revision_fault text (as_written r w) e w.stanzas (revision_text r w) fault
