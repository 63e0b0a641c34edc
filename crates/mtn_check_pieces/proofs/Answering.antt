-- What the steps of a verdict answer.
use Rattle.std.specs.Prelude.{is_some}
use Rattle.std.specs.List.{AllZip}
use Rattle.std.proofs.Common.{◌≡◌, ◌≢◌, false, ℕ, ◌≤◌, List, [], ◌∷◌, length, Option, Some, None, refl, sym, ◌∙◌, subst, arith}
use Rattle.mtn_changes.specs.declared.change.Edge.{Edge}
use Rattle.mtn_changes.specs.declared.change.Revision.{Revision}
use Rattle.mtn_changes.specs.declared.error.ChangeTextError.{ChangeTextError}
use Rattle.mtn_changes.specs.declared.error.ChangeTextError.TheVariants.{NoMemory}
use Rattle.mtn_changes.specs.RevisionText.{IsRevisionFault}
use Rattle.mtn_changes.proofs.OneValue.{no_revision_fault, same_revision}
use Rattle.mtn_marking.specs.Marking.{MarkedTree}
use Rattle.mtn_records.specs.declared.record.RosterRecord.{RosterRecord}
use Rattle.mtn_records.specs.declared.record.RosterRecord.TheVariants.{Whole, Delta}
use Rattle.mtn_roster.specs.Tree.{Tree}
use Rattle.mtn_roster_deltas.proofs.Spelling.{one_tree}
use Rattle.mtn_check_pieces.specs.declared.job.CheckJob.{CheckJob}
use Rattle.mtn_check_pieces.specs.Verdict.{IsOneOf, IsRevisionOf, IsWholeOf, IsStoredOn, IsTaken, IsEdgeTree, IsJoining, IsMergedTree, IsTreeOf, IsMarkedOn, IsMadeOf, IsMadeWith, IsStoredOf, IsStoredWith, IsAgreeing, basis_on}

-- a text with a fault spells no revision
pub unread : (text : List ℕ) (e : ChangeTextError) → e ≢ NoMemory → IsRevisionFault text e → (r : Revision) → IsRevisionOf text r → ⊥
unread text e other fault r is = other (no_revision_fault text r e is.ids is.spelled fault)

-- a test that finds none, at what it asked
pub none_at : {A : Type 0} (P : A → Type 0) (o : Option A) → o ≡ None → IsOneOf P o → (x : A) → P x → ⊥
none_at P o is one = subst (IsOneOf P) is one

pub some_at : {A : Type 0} (P : A → Type 0) (o : Option A) (x : A) → o ≡ Some x → IsOneOf P o → P x
some_at P o x is one = subst (IsOneOf P) is one

pub one_of : {A : Type 0} (P Q : A → Type 0) → ((x : A) → P x → Q x) → ((x : A) → Q x → P x) → (o : Option A) → IsOneOf P o → IsOneOf Q o
one_of P Q to back None none = λ x q. none x (back x q)
one_of P Q to back (Some x) one = to x one

module _ (job : CheckJob) (left right : Tree) (e f : Edge) where
  -- two edges make one tree
  pub one_merged : (t u : Tree) → IsMergedTree job left right e f t → IsMergedTree job left right e f u → t ≡ u
  one_merged t u a b =
      a.joined_are.made ∙ cc (a.first_is.made, b.first_is.made, a.second_is.made, b.second_is.made) ∙ sym b.joined_are.made

  module _ (l r : Tree) (first : IsEdgeTree job.id left e l) (second : IsEdgeTree job.id right f r) where
    merge_to : (t : Tree) → IsJoining job l r t → IsMergedTree job left right e f t
    merge_to t j = record { first = l; second = r; first_is = first; second_is = second; joined_are = j }

    merge_back : (t : Tree) → IsMergedTree job left right e f t → IsJoining job l r t
    merge_back t m =
        let one : m.first ≡ l = m.first_is.made ∙ sym first.made in
        let two : m.second ≡ r = m.second_is.made ∙ sym second.made in
        subst (λ x. IsJoining job l x t) two (subst (λ x. IsJoining job x m.second t) one m.joined_are)

    pub merges : (o : Option Tree) → IsOneOf (IsJoining job l r) o → IsOneOf (IsMergedTree job left right e f) o
    merges = one_of (IsJoining job l r) (IsMergedTree job left right e f) merge_to merge_back

-- a record spells one roster
pub one_whole : (r : RosterRecord) (t u : MarkedTree) → IsWholeOf r t → IsWholeOf r u → t ≡ u
one_whole (Whole es) t u a b = one_tree es t u a b
one_whole (Delta base depth gone changed) t u a b = absurd a

one_parents : (rs : List RosterRecord) (ps qs : List MarkedTree) → AllZip IsWholeOf rs ps → AllZip IsWholeOf rs qs → ps ≡ qs
one_parents [] [] [] a b = refl
one_parents [] (p ∷ ps) qs a b = absurd a
one_parents [] [] (q ∷ qs) a b = absurd b
one_parents (r ∷ rs) [] qs a b = absurd a
one_parents (r ∷ rs) (p ∷ ps) [] a b = absurd b
one_parents (r ∷ rs) (p ∷ ps) (q ∷ qs) a b = λ i. one_whole r p q a.0 b.0 i ∷ one_parents rs ps qs a.1 b.1 i

module _ (job : CheckJob) (edges es : List Edge) (are : edges ≡ es) (rs : List RosterRecord) (ps : List MarkedTree) (spelled : AllZip IsWholeOf rs ps) where
  pub over_records : (o : Option MarkedTree) → IsOneOf (IsStoredOf job es ps) o → IsOneOf (IsStoredWith job edges rs) o
  over_records = one_of (IsStoredOf job es ps) (IsStoredWith job edges rs)
      (λ t h. (h.0, record { parents = ps; spelled = spelled; made = subst (λ l. IsMadeOf job l t ps) (sym are) h.1 }))
      (λ t w. (w.0, subst (IsMadeOf job es t) (one_parents rs w.1.parents ps w.1.spelled spelled) (subst (λ l. IsMadeOf job l t w.1.parents) are w.1.made)))

module _ (job : CheckJob) (edges : List Edge) (ps : List MarkedTree) where
  -- a roster is stored only where its tree is made
  pub none_made : ((t : Tree) → IsTreeOf job ps edges t → ⊥) → (t : MarkedTree) → IsStoredOf job edges ps t → ⊥
  none_made none t h = none t.tree h.1.tree

  module _ (tree : Tree) where
    -- and only where the record spells that one
    pub none_on : ((u : Tree) → IsTreeOf job ps edges u → u ≡ tree) → (o : Option MarkedTree) → o ≡ None → IsOneOf (IsStoredOn job.stored tree) o → (t : MarkedTree) → IsStoredOf job edges ps t → ⊥
    none_on one o is got t h = none_at (IsStoredOn job.stored tree) o is got t (h.0, one t.tree h.1.tree)

    -- it is taken where it is marked so
    pub taken : IsTreeOf job ps edges tree → (stored : MarkedTree) → IsStoredOn job.stored tree stored → (o : Option MarkedTree) →
        IsTaken (IsMarkedOn (basis_on job ps) stored) stored o → IsOneOf (IsStoredOf job edges ps) o
    taken made stored on None never = λ t h. never (subst (IsMarkedOn (basis_on job ps)) (one_whole job.stored t stored h.0 on.0) h.1.marked)
    taken made stored on (Some y) both =
        subst (IsStoredOf job edges ps) (sym both.1) (on.0, record { tree = subst (IsTreeOf job ps edges) (sym on.1) made; marked = both.0 })

-- no tree is made of more parents than two
pub too_many : (job : CheckJob) (edges : List Edge) (stored : MarkedTree) (rs : List RosterRecord) → 3 ≤ length rs → IsMadeWith job edges stored rs → ⊥
too_many job edges stored rs more w = by rs w.parents edges more w.spelled w.made.tree
  where
    by : (rs : List RosterRecord) (ps : List MarkedTree) (es : List Edge) → 3 ≤ length rs → AllZip IsWholeOf rs ps → IsTreeOf job ps es stored.tree → ⊥
    by [] ps es le z t = omega (arith, le)
    by (a ∷ []) ps es le z t = omega (arith, le)
    by (a ∷ b ∷ []) ps es le z t = omega (arith, le)
    by (a ∷ b ∷ c ∷ rs) [] es le z t = z
    by (a ∷ b ∷ c ∷ rs) (p ∷ []) es le z t = z.1
    by (a ∷ b ∷ c ∷ rs) (p ∷ q ∷ []) es le z t = z.1.1
    by (a ∷ b ∷ c ∷ rs) (p ∷ q ∷ s ∷ ps) es le z t = t

module _ (job : CheckJob) (revision : Revision) (read : IsRevisionOf job.text revision) where
  only_read : (g : IsAgreeing job) → g.revision ≡ revision
  only_read g = same_revision job.text g.revision revision g.read.ids read.ids g.read.spelled read.spelled

  -- where nothing is stored, the job differs
  pub differs : (o : Option MarkedTree) → is_some o ≡ false → IsOneOf (IsStoredWith job revision.edges job.parents) o → IsAgreeing job → ⊥
  differs None is one g = one g.stored (subst (λ (r : Revision). IsStoredWith job r.edges job.parents g.stored) (only_read g) (g.spelled, g.made))
  differs (Some stored) is one g = absurd cc
