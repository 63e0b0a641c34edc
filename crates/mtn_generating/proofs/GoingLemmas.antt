-- What calls do over a draft, one after the other.
use Rattle.std.specs.Prelude.{IfSome}
use Rattle.std.proofs.Common.{◌≡◌, ◌≢◌, ◌⊎◌, ℕ, ◌≤◌, List, false, [], Option, Some, None, Result, Ok, Err, refl, sym, ap, ◌∙◌, subst, ⊎_elim, arith}
use Rattle.mtn_base.specs.Hex.{id_of}
use Rattle.mtn_base.specs.declared.id.Id.{Id}
use Rattle.mtn_conflicts.specs.ConflictText.{IsLesser}
use Rattle.mtn_conflicts.specs.declared.lists.Conflicts.{Conflicts}
use Rattle.mtn_base.specs.declared.refusal.Cause.{Cause}
use Rattle.mtn_generated.specs.Growing.Stop.{Refused}
use Rattle.mtn_generated.specs.Growing.{Adds, AddsWork, GrowthAnswer, MergesTips, PutsEdge, PutsText, Unless, files_refusal, grown, with_files}
use Rattle.mtn_generated.specs.Numbered.{Work as GeneratedWork, edge_fault, edge_of, edge_text, files_of, no_id, tips_after}
use Rattle.mtn_generated.specs.Numbered.Work.{Begins as GeneratedBegins, Patches as GeneratedPatches, Sets as GeneratedSets, Joins as GeneratedJoins, Renames as GeneratedRenames}
use Rattle.mtn_history.specs.Damage.{IsDamage}
use Rattle.mtn_history.specs.Errors.{IfDamage, IfStoreDamage}
use Rattle.mtn_history.specs.Marked.{IsCounted}
use Rattle.mtn_history.specs.Stands.{IsDraft, IsFounded}
use Rattle.mtn_history.specs.declared.errors.HistoryError.{HistoryError}
use Rattle.mtn_history.specs.declared.errors.HistoryError.TheVariants as history
use Rattle.mtn_history.specs.declared.errors.StoreError.{StoreError}
use Rattle.mtn_history.specs.declared.errors.StoreError.TheVariants.{Failed, Damaged, NoMemory}
use Rattle.mtn_history.specs.declared.pending.Pending.{Pending}
use Rattle.mtn_history.specs.declared.errors.Damage.{Damage}
use Rattle.mtn_history.proofs.FileLemmas.{draft_stands}
use Rattle.mtn_history.proofs.Founding.{founded}
use Rattle.mtn_history.proofs.MarkedLemmas.{draft_counts}
use Rattle.mtn_history.proofs.MetaLemmas.{no_damage}
use Rattle.mtn_merge.specs.Plans.{Gives, HasTree}
use Rattle.mtn_merge.specs.declared.answer.Planned.TheVariants as planned
use Rattle.mtn_model.specs.State.{State}
use Rattle.mtn_model.specs.Table.{Contents}
use Rattle.mtn_plans.specs.Plans.{Merges}
use Rattle.mtn_plans.specs.declared.outcome.MergeOutcome.{MergeOutcome as PlannedOutcome}
use Rattle.mtn_plans.specs.declared.outcome.MergeOutcome.TheVariants.{Conflicted, Merged}
use Rattle.mtn_ports.specs.Causes.{Rose}
use Rattle.mtn_ports.specs.Kept.{Same, Stays, with_all}
use Rattle.mtn_ports.proofs.KeptLemmas.{stays_trans}
use Rattle.mtn_changes.specs.declared.change.Edge.{Edge}
use Rattle.mtn_put_revision.specs.Accepting.{KeepsRevision}
use Rattle.mtn_put_revision.specs.Keeping.{IsPlanned}
use Rattle.mtn_replay.specs.Making.{edge_tree}
use Rattle.mtn_roster.specs.Tree.{Tree}
use Rattle.mtn_reading.specs.Unfit.{IsAnswered, IsShownFor}
use Rattle.mtn_reading.proofs.UnfitReading.{at_told, if_told, wider}
use Rattle.mtn_generating.specs.Generating.{Ends, Goes, IfGenerateDamage, IsOrdered, IsTreeless, PutsFiles, Reaches}
use Rattle.mtn_generating.specs.Numbered.{text_over, tips_of, work_of}
use Rattle.mtn_generating.specs.Unfit.{IsAnsweredBy, IsShownWith}
use Rattle.mtn_generating.specs.declared.error.GenerateError.{GenerateError}
use Rattle.mtn_generating.specs.declared.error.GenerateError.TheVariants as error
use Rattle.mtn_generating.specs.declared.work.Tips.{Tips}
use Rattle.mtn_generating.specs.declared.work.Work.{Work}
use Rattle.mtn_generating.specs.declared.work.Work.TheVariants.{Begins, Patches, Sets, Joins, Renames}

pub other_work : (work : Work) → work ≢ Joins → work_of work ≢ GeneratedJoins
other_work Begins other same = absurd cc
other_work Patches other same = absurd cc
other_work Sets other same = absurd cc
other_work Joins other same = other refl
other_work Renames other same = absurd cc

abbrev fails : GenerateError → Result Tips GenerateError
fails e = Err e

-- ---- why it ends

-- the error that is answered says no more than that of the call
pub ends_as : (Is : GrowthAnswer → Type 0) (e : HistoryError) (answer : GenerateError) → IsAnsweredBy e answer → Ends (error.Failed e) Is → Ends answer Is
ends_as Is (history.Refused cause) answer is ends = subst (λ (x : GenerateError). Ends x Is) (sym is) ends
ends_as Is (history.Store Failed) answer is ends = subst (λ (x : GenerateError). Ends x Is) (sym is) tt
ends_as Is (history.Store NoMemory) answer is ends = subst (λ (x : GenerateError). Ends x Is) (sym is) tt
ends_as Is (history.Store (Damaged came)) answer is ends = absurd ends

-- what is so of one answer is so of another
pub ends_more : (Is More : GrowthAnswer → Type 0) → ((answer : GrowthAnswer) → Is answer → More answer) → (e : GenerateError) → Ends e Is → Ends e More
ends_more Is More on (error.Conflicting left right conflicts) ends = on _ ends
ends_more Is More on (error.Failed (history.Refused cause)) ends = on _ ends
ends_more Is More on (error.Failed (history.Store e)) ends = ends

-- there was no tree
pub ends_treeless : (Is : GrowthAnswer → Type 0) (fault : Option Cause) (e : GenerateError) → ((cause : Cause) → fault ≡ Some cause → Is (Err (Refused cause))) → IsTreeless fault e → Ends e Is
ends_treeless Is fault (error.Conflicting left right conflicts) refuses treeless = absurd treeless
ends_treeless Is fault (error.Failed (history.Refused cause)) refuses treeless = refuses cause treeless
ends_treeless Is fault (error.Failed (history.Store e)) refuses treeless = treeless

-- ---- a refusal, or none

unless_none : (o : Option Cause) (Is : GrowthAnswer → Type 0) (answer : GrowthAnswer) → o ≡ None → Is answer → Unless o Is answer
unless_none o Is answer none is = subst (λ x. Unless x Is answer) (sym none) is

unless_some : (o : Option Cause) (Is : GrowthAnswer → Type 0) (cause : Cause) → o ≡ Some cause → Unless o Is (Err (Refused cause))
unless_some o Is cause some =
    let stop : GrowthAnswer = Err (Refused cause) in
    let is : stop ≡ Err (Refused cause) = refl in
    subst (λ x. Unless x Is stop) (sym some) is

-- no damage at all is one that is shown
pub never_shown : (told : Option Contents) (e : HistoryError) → IfStoreDamage e (λ _. ⊥) → IfSome told (λ c. IfGenerateDamage (error.Failed e) (IsShownWith c))
never_shown told e sound = if_told told _ (λ c now. by e sound c)
  where
    by : (e : HistoryError) → IfStoreDamage e (λ _. ⊥) → (c : Contents) → IfStoreDamage e (IsShownWith c)
    by (history.Refused cause) sound c = tt
    by (history.Store Failed) sound c = tt
    by (history.Store NoMemory) sound c = tt
    by (history.Store (Damaged d)) sound c = absurd sound

-- over a state a draft comes to no damage
pub never : (f : List ℕ → List ℕ) (c : Contents) (p : Pending) (s : State) (e : StoreError) → IsDraft f c p s → IfDamage e (IsDamage (with_all c p.batch)) → IfDamage e (λ _. ⊥)
never f c p s Failed draft damage = tt
never f c p s NoMemory draft damage = tt
never f c p s (Damaged d) draft damage = no_damage f (with_all c p.batch) s d (draft_stands f c p s draft) damage

pub never_damaged : (f : List ℕ → List ℕ) (told : Option Contents) (c : Contents) (p : Pending) (s : State) (e : HistoryError) → told ≡ Some c → IsDraft f c p s →
    IfSome told (λ k. IsCounted p k → IfStoreDamage e (IsDamage (with_all k p.batch))) → IfStoreDamage e (λ _. ⊥)
never_damaged f told c p s (history.Refused cause) now draft damaged = tt
never_damaged f told c p s (history.Store e) now draft damaged = never f c p s e draft (at_told told (λ k. IsCounted p k → IfDamage e (IsDamage (with_all k p.batch))) c now damaged (draft_counts f c p s draft))

-- the error of a call that is no refusal
pub undamaged : (fault : Option Cause) (e : StoreError) (answer : GenerateError) → IsAnsweredBy (history.Store e) answer → IfDamage e (λ _. ⊥) → IsTreeless fault answer
undamaged fault Failed answer is sound = subst (IsTreeless fault) (sym is) tt
undamaged fault NoMemory answer is sound = subst (IsTreeless fault) (sym is) tt
undamaged fault (Damaged d) answer is sound = absurd sound

-- what is shown is shown for a damage of the draft's records
wider_store : (P Q : Damage → Type 0) → ((d : Damage) → P d → Q d) → (e : HistoryError) → IfStoreDamage e P → IfStoreDamage e Q
wider_store P Q more (history.Refused cause) fact = tt
wider_store P Q more (history.Store e) fact = wider P Q more e fact

pub shown_with : (old new : Option Contents) (p q : Pending) (e answer : HistoryError) → Same old new → q ≡ p → IfSome old (λ c. IsCounted p c → IfStoreDamage e (IsDamage (with_all c p.batch))) → IsAnswered e answer →
    IfSome new (λ c. IfStoreDamage e (λ came. IfStoreDamage answer (IsShownFor c came))) → IfSome new (λ c. IfStoreDamage e (λ _. IsCounted q c)) → IfSome new (λ c. IfGenerateDamage (error.Failed answer) (IsShownWith c))
shown_with old new p q e answer same is damaged answered kept counted = if_told new _ (λ c now.
    by c e answered (at_told old (λ k. IsCounted p k → IfStoreDamage e (IsDamage (with_all k p.batch))) c (same c now) damaged)
    (at_told new (λ k. IfStoreDamage e (λ came. IfStoreDamage answer (IsShownFor k came))) c now kept) (at_told new (λ k. IfStoreDamage e (λ _. IsCounted q k)) c now counted))
  where
    by : (c : Contents) (e : HistoryError) → IsAnswered e answer → (IsCounted p c → IfStoreDamage e (IsDamage (with_all c p.batch))) → IfStoreDamage e (λ came. IfStoreDamage answer (IsShownFor c came)) →
        IfStoreDamage e (λ _. IsCounted q c) → IfStoreDamage answer (IsShownWith c)
    by c (history.Refused cause) at damage kept counts = subst (λ (x : HistoryError). IfStoreDamage x (IsShownWith c)) (sym at) tt
    by c (history.Store Failed) at damage kept counts = subst (λ (x : HistoryError). IfStoreDamage x (IsShownWith c)) (sym at) tt
    by c (history.Store NoMemory) at damage kept counts = subst (λ (x : HistoryError). IfStoreDamage x (IsShownWith c)) (sym at) tt
    by c (history.Store (Damaged came)) at damage kept counts = wider_store (IsShownFor c came) (IsShownWith c)
        (λ d shown. record { pending = p; came = came; damage = damage (subst (λ (x : Pending). IsCounted x c) is counts); shown = shown }) answer kept

rose_later : (a b c : ℕ) → a ≤ b → Rose b c → Rose a c
rose_later a b c before rose = omega (arith, before, rose)

rose_sooner : (a b c : ℕ) → Rose a b → b ≤ c → Rose a c
rose_sooner a b c rose after = omega (arith, rose, after)

module _ (f : List ℕ → List ℕ) {K : Type 0} (contents : K → Option Contents) (leaves : K → Contents → Type 0) (faults : K → ℕ) where
  -- memory is wanting
  pub wanting : (old new : K) (before after : Pending) (Comes : State → GrowthAnswer → Type 0) (result : Result Tips GenerateError) → Stays contents leaves faults old new →
      result ≡ Err (error.Failed (history.Store NoMemory)) → Goes f contents leaves faults old new before after Comes result
  wanting old new before after Comes result stays is = subst (Goes f contents leaves faults old new before after Comes) (sym is) record {
    stays = stays;
    done = λ c s now draft. tt;
    ordered = tt;
    damaged = if_told (contents new) _ (λ c now. tt);
    failed = λ e. absurd cc;
  }

  -- a call failed
  pub went_wrong : (old mid new : K) (before after : Pending) (Comes : State → GrowthAnswer → Type 0) (e : HistoryError) (answer : GenerateError) → Stays contents leaves faults old mid → Stays contents leaves faults mid new →
      IsAnsweredBy e answer → ((c : Contents) (s : State) → contents mid ≡ Some c → IsDraft f c before s → Ends (error.Failed e) (Comes s)) → IsOrdered answer → IfSome (contents new) (λ c. IfGenerateDamage answer (IsShownWith c)) →
      (e ≡ history.Store Failed → Rose (faults old) (faults mid)) → (answer ≡ error.Failed (history.Store Failed) → (e ≡ history.Store Failed) ⊎ Rose (faults mid) (faults new)) →
      Goes f contents leaves faults old new before after Comes (Err answer)
  went_wrong old mid new before after Comes e answer first then is ends ordered shown rose failed = record {
    stays = stays_trans contents leaves faults old mid new first then;
    done = λ c s now draft. ends_as (Comes s) e answer is (ends c s (then.same c now) draft);
    ordered = ordered;
    damaged = shown;
    failed = λ same. ⊎_elim (λ own. rose_sooner (faults old) (faults mid) (faults new) (rose own) then.later)
        (λ later. rose_later (faults old) (faults mid) (faults new) first.later later) (failed (let both : fails answer ≡ fails (error.Failed (history.Store Failed)) = same in cc));
  }

  reaches_more : (c : Contents) (Is More : GrowthAnswer → Type 0) → ((answer : GrowthAnswer) → Is answer → More answer) → (result : Result Tips GenerateError) (p : Pending) → Reaches f c Is result p → Reaches f c More result p
  reaches_more c Is More on (Ok tips) p so = (so.0, on _ so.1, so.2)
  reaches_more c Is More on (Err e) p so = ends_more Is More on e so

  -- behind a call that led to a state, what the next one does
  pub goes_on : (old mid new : K) (before middle after : Pending) (Next Comes : State → GrowthAnswer → Type 0) (result : Result Tips GenerateError) → Stays contents leaves faults old mid →
      ((c : Contents) (s : State) → contents mid ≡ Some c → IsDraft f c before s → (t : State) × IsDraft f c middle t × ((answer : GrowthAnswer) → Next t answer → Comes s answer)) →
      Goes f contents leaves faults mid new middle after Next result → Goes f contents leaves faults old new before after Comes result
  goes_on old mid new before middle after Next Comes result first leads goes = record {
    stays = stays_trans contents leaves faults old mid new first goes.stays;
    done = λ c s now draft. let t = leads c s (goes.stays.same c now) draft in reaches_more c (Next t.0) (Comes s) t.2 result after (goes.done c t.0 now t.1);
    ordered = goes.ordered;
    damaged = goes.damaged;
    failed = λ e. rose_later (faults old) (faults mid) (faults new) first.later (goes.failed e);
  }

  -- ---- a text

  module _ (work : Work) (tips : Tips) (text : List ℕ) where
    abbrev pub Puts : State → GrowthAnswer → Type 0
    Puts s = PutsText f (work_of work) (tips_of tips) s text

    pub text_put : (old new : K) (before after : Pending) (id : Id) (next : Tips) → id.0 ≡ f text → tips_of next ≡ tips_after (work_of work) id (tips_of tips) → Stays contents leaves faults old new →
        ((c : Contents) (s : State) → contents new ≡ Some c → IsDraft f c before s → KeepsRevision f c s text (Ok tt) after) → Goes f contents leaves faults old new before after Puts (Ok next)
    text_put old new before after id next named behind stays keeps = record {
      stays = stays;
      done = λ c s now draft.
          let a = keeps c s now draft in
          let same : id ≡ id_of (f text) = ap (λ (b : List ℕ). id_of b) named in
          (a.0, record { refusal = None; after = a.0; decides = a.1; is = ap (λ t. Ok (grown a.0 t)) (behind ∙ ap (λ (x : Id). tips_after (work_of work) x (tips_of tips)) same) }, a.2);
      ordered = tt;
      damaged = if_told (contents new) _ (λ c now. tt);
      failed = λ e. absurd cc;
    }

    pub text_ends : (c : Contents) (s : State) (e : HistoryError) (p : Pending) → KeepsRevision f c s text (Err e) p → Ends (error.Failed e) (Puts s)
    text_ends c s (history.Refused cause) p keeps = record { refusal = Some cause; after = keeps.0; decides = keeps.1; is = refl }
    text_ends c s (history.Store e) p keeps = keeps

  -- ---- a revision with one edge

  module _ (i : ℕ) (work : Work) (tips : Tips) where
    abbrev pub PutsOne : State → GrowthAnswer → Type 0
    PutsOne s = PutsEdge f (work_of work) (tips_of tips) s i

    abbrev the_edge : Edge
    the_edge = edge_of f i (work_of work) (tips_of tips)

    refuses_edge : (told : Option Contents) (p : Pending) (s : State) (d : IsFounded f told p s) (cause : Cause) → edge_fault d.stands.history the_edge ≡ Some cause → PutsOne s (Err (Refused cause))
    refuses_edge told p s d cause fault = record {
      history = d.stands.history;
      spelled = d.stands.spelled;
      puts = unless_some (edge_fault d.stands.history the_edge) (PutsText f (work_of work) (tips_of tips) s (edge_text f d.stands.history the_edge)) cause fault;
    }

    -- its tree was not made
    pub no_tree : (old new : K) (before after : Pending) (edge : Edge) (e : GenerateError) → edge ≡ the_edge → Stays contents leaves faults old new →
        ((g : List ℕ → List ℕ) (s : State) → (d : IsFounded g (contents new) before s) → IsTreeless (edge_fault d.stands.history edge) e) → IsOrdered e → IfSome (contents new) (λ c. IfGenerateDamage e (IsShownWith c)) →
        (e ≡ error.Failed (history.Store Failed) → Rose (faults old) (faults new)) → Goes f contents leaves faults old new before after PutsOne (Err e)
    no_tree old new before after edge e named stays treeless ordered shown rose = record {
      stays = stays;
      done = λ c s now draft.
          let d = founded f (contents new) c before s now draft in
          ends_treeless (PutsOne s) (edge_fault d.stands.history the_edge) e (refuses_edge (contents new) before s d) (subst (λ (x : Edge). IsTreeless (edge_fault d.stands.history x) e) named (treeless f s d));
      ordered = ordered;
      damaged = shown;
      failed = λ same. rose (let both : fails e ≡ fails (error.Failed (history.Store Failed)) = same in cc);
    }

    -- the text over the tree is the one that is defined
    pub text_is : (told : Option Contents) (p : Pending) (e : Edge) (t : Tree) → e ≡ the_edge → ((g : List ℕ → List ℕ) (s : State) (d : IsFounded g told p s) → t ≡ edge_tree d.stands.history no_id e) →
        (s : State) → (d : IsFounded f told p s) → text_over f t e ≡ edge_text f d.stands.history the_edge
    text_is told p e t is made s d = ap (λ (x : Tree). text_over f x e) (made f s d) ∙ ap (edge_text f d.stands.history) is

    -- an edge that makes a tree has no fault
    pub no_fault : (told : Option Contents) (p : Pending) (e : Edge) → e ≡ the_edge → ((g : List ℕ → List ℕ) (s : State) (d : IsFounded g told p s) → edge_fault d.stands.history e ≡ None) →
        (s : State) → (d : IsFounded f told p s) → edge_fault d.stands.history the_edge ≡ None
    no_fault told p e is fine s d = subst (λ (x : Edge). edge_fault d.stands.history x ≡ None) is (fine f s d)

    -- its text is that of the tree
    pub edge_put : (old mid new : K) (before middle after : Pending) (text : List ℕ) (result : Result Tips GenerateError) → middle ≡ before → Stays contents leaves faults old mid →
        ((s : State) → (d : IsFounded f (contents mid) before s) → edge_fault d.stands.history the_edge ≡ None) → ((s : State) → (d : IsFounded f (contents mid) before s) → text ≡ edge_text f d.stands.history the_edge) →
        Goes f contents leaves faults mid new middle after (Puts work tips text) result → Goes f contents leaves faults old new before after PutsOne result
    edge_put old mid new before middle after text result same first fine spelled goes =
        goes_on old mid new before middle after (Puts work tips text) PutsOne result first
        (λ c s now draft.
        let d = founded f (contents mid) c before s now draft in (
          s,
          subst (λ (p : Pending). IsDraft f c p s) (sym same) draft,
          λ answer puts. record {
            history = d.stands.history;
            spelled = d.stands.spelled;
            puts = unless_none (edge_fault d.stands.history the_edge) (PutsText f (work_of work) (tips_of tips) s (edge_text f d.stands.history the_edge)) answer (fine s d)
                (subst (λ (w : List ℕ). PutsText f (work_of work) (tips_of tips) s w answer) (spelled s d) puts);
          },
        )) goes

    -- what does not join is a revision with one edge
    pub one_edge : (old new : K) (before after : Pending) (result : Result Tips GenerateError) → work_of work ≢ GeneratedJoins → Goes f contents leaves faults old new before after PutsOne result →
        Goes f contents leaves faults old new before after (λ s. AddsWork f i (tips_of tips) s (work_of work)) result
    one_edge old new before after result other goes = by (work_of work) other goes
      where
        by : (w : GeneratedWork) → w ≢ GeneratedJoins → Goes f contents leaves faults old new before after (λ s. PutsEdge f w (tips_of tips) s i) result →
            Goes f contents leaves faults old new before after (λ s. AddsWork f i (tips_of tips) s w) result
        by GeneratedJoins not_that g = absurd (not_that refl)
        by GeneratedBegins not_that g = g
        by GeneratedPatches not_that g = g
        by GeneratedSets not_that g = g
        by GeneratedRenames not_that g = g

  -- ---- a merge

  module _ (tips : Tips) where
    abbrev pub MergesBoth : State → GrowthAnswer → Type 0
    MergesBoth s = MergesTips f GeneratedJoins (tips_of tips) s

    abbrev pub PlansOver : Option Contents → Pending → Result PlannedOutcome HistoryError → Type 0
    PlansOver told p r = (s : State) (d : IsFounded f told p s) → Gives (Merges f s.files d.stands.history tips.left tips.right false []) r

    pub merge_ends : (told : Option Contents) (c : Contents) (s : State) (p : Pending) → told ≡ Some c → IsDraft f c p s → (e : HistoryError) → PlansOver told p (Err e) → IfStoreDamage e (λ _. ⊥) → Ends (error.Failed e) (MergesBoth s)
    merge_ends told c s p now draft (history.Refused cause) plans sound = let d = founded f told c p s now draft in record { history = d.stands.history; spelled = d.stands.spelled; plan = Err cause; planned = plans s d; carried = refl }
    merge_ends told c s p now draft (history.Store e) plans sound = sound

    -- a merge is what joins
    pub joins_work : (i : ℕ) (work : Work) (old new : K) (before after : Pending) (result : Result Tips GenerateError) → work ≡ Joins → Goes f contents leaves faults old new before after MergesBoth result →
        Goes f contents leaves faults old new before after (λ s. AddsWork f i (tips_of tips) s (work_of work)) result
    joins_work i work old new before after result is goes = subst (λ (w : Work). Goes f contents leaves faults old new before after (λ s. AddsWork f i (tips_of tips) s (work_of w)) result) (sym is) goes

    pub conflicting : (old new : K) (before after : Pending) (left right : Id) (conflicts : Conflicts) → Stays contents leaves faults old new → IsLesser left right → PlansOver (contents new) before (Ok (Conflicted left right conflicts)) →
        Goes f contents leaves faults old new before after MergesBoth (Err (error.Conflicting left right conflicts))
    conflicting old new before after left right conflicts stays lesser plans = record {
      stays = stays;
      done = λ c s now draft.
          let d = founded f (contents new) c before s now draft in
          record { history = d.stands.history; spelled = d.stands.spelled; plan = Ok (Conflicted left right conflicts); planned = plans s d; carried = refl };
      ordered = lesser;
      damaged = if_told (contents new) _ (λ c now. tt);
      failed = λ e. absurd cc;
    }

    pub merge_put : (old mid new : K) (before middle after : Pending) (bytes text : List ℕ) (work : Work) (result : Result Tips GenerateError) → bytes ≡ text → middle ≡ before → Stays contents leaves faults old mid → work_of work ≡ GeneratedJoins →
        PlansOver (contents mid) before (Ok (Merged text)) → Goes f contents leaves faults mid new middle after (Puts work tips bytes) result → Goes f contents leaves faults old new before after MergesBoth result
    merge_put old mid new before middle after bytes text work result named same first joins plans goes =
        goes_on old mid new before middle after (Puts work tips bytes) MergesBoth result first
        (λ c s now draft.
        let d = founded f (contents mid) c before s now draft in (
          s,
          subst (λ (p : Pending). IsDraft f c p s) (sym same) draft,
          λ answer puts. record {
            history = d.stands.history;
            spelled = d.stands.spelled;
            plan = Ok (Merged text);
            planned = plans s d;
            carried = subst (λ (w : GeneratedWork). PutsText f w (tips_of tips) s text answer) joins (subst (λ (b : List ℕ). PutsText f (work_of work) (tips_of tips) s b answer) named puts);
          },
        )) goes

  -- ---- files, and what is put behind them

  module _ (i : ℕ) (work : Work) (tips : Tips) where
    abbrev pub AddsOne : State → GrowthAnswer → Type 0
    AddsOne s = Adds f i (work_of work) (grown s (tips_of tips))

    files_end : (c : Contents) (s : State) (p : Pending) (e : HistoryError) → PutsFiles f c s (files_of i (work_of work)) (Err e) p → Ends (error.Failed e) (AddsOne s)
    files_end c s p (history.Refused cause) puts =
        unless_some (files_refusal f s (files_of i (work_of work))) (AddsWork f i (tips_of tips) (with_files f s (files_of i (work_of work))) (work_of work)) cause puts
    files_end c s p (history.Store e) puts = puts

    pub files_failed : (old new : K) (before after : Pending) (texts : List (List ℕ)) (e : HistoryError) → texts ≡ files_of i (work_of work) → Stays contents leaves faults old new →
        ((c : Contents) (s : State) → contents new ≡ Some c → IsDraft f c before s → PutsFiles f c s texts (Err e) after) → IfStoreDamage e (λ _. ⊥) → (e ≡ history.Store Failed → Rose (faults old) (faults new)) →
        Goes f contents leaves faults old new before after AddsOne (Err (error.Failed e))
    files_failed old new before after texts e are stays puts sound rose = record {
      stays = stays;
      done = λ c s now draft. files_end c s after e (subst (λ (ts : List (List ℕ)). PutsFiles f c s ts (Err e) after) are (puts c s now draft));
      ordered = tt;
      damaged = never_shown (contents new) e sound;
      failed = λ same. rose (let both : fails (error.Failed e) ≡ fails (error.Failed (history.Store Failed)) = same in cc);
    }

    pub files_kept : (old mid new : K) (before middle after : Pending) (texts : List (List ℕ)) (result : Result Tips GenerateError) → texts ≡ files_of i (work_of work) → Stays contents leaves faults old mid →
        ((c : Contents) (s : State) → contents mid ≡ Some c → IsDraft f c before s → PutsFiles f c s texts (Ok tt) middle) →
        Goes f contents leaves faults mid new middle after (λ s. AddsWork f i (tips_of tips) s (work_of work)) result → Goes f contents leaves faults old new before after AddsOne result
    files_kept old mid new before middle after texts result are first puts goes =
        goes_on old mid new before middle after (λ s. AddsWork f i (tips_of tips) s (work_of work)) AddsOne result first
        (λ c s now draft.
        let x = subst (λ (ts : List (List ℕ)). PutsFiles f c s ts (Ok tt) middle) are (puts c s now draft) in (
          with_files f s (files_of i (work_of work)),
          x.1,
          λ answer adds. unless_none (files_refusal f s (files_of i (work_of work))) (AddsWork f i (tips_of tips) (with_files f s (files_of i (work_of work))) (work_of work)) answer x.0 adds,
        )) goes

-- ---- facts over what is pending by another name

pub shown_damage : (told : Option Contents) (p q : Pending) → q ≡ p → (e : HistoryError) → IfSome told (λ c. IsCounted p c → IfStoreDamage e (IsDamage (with_all c p.batch))) → IfSome told (λ c. IsCounted q c → IfStoreDamage e (IsDamage (with_all c q.batch)))
shown_damage told p q same e damaged = subst (λ (x : Pending). IfSome told (λ c. IsCounted x c → IfStoreDamage e (IsDamage (with_all c x.batch)))) (sym same) damaged

-- a tree that is handed on with a text
pub planned_tree : (f : List ℕ → List ℕ) (told : Option Contents) (p q : Pending) → q ≡ p → (bytes text : List ℕ) → bytes ≡ text → (id : Id) (tree : Option Tree) →
    ((s : State) (d : IsFounded f told p s) → HasTree f s.files d.stands.history (planned.Merged text id tree)) →
    (s : State) → (d : IsFounded f told q s) → IfSome tree (λ t. IsPlanned f s.files d.stands.history bytes t)
planned_tree f told p q same bytes text is id tree has = subst (λ (y : Pending). (s : State) → (d : IsFounded f told y s) → IfSome tree (λ t. IsPlanned f s.files d.stands.history bytes t)) (sym same)
    (subst (λ (w : List ℕ). (s : State) → (d : IsFounded f told p s) → IfSome tree (λ t. IsPlanned f s.files d.stands.history w t)) (sym is) (by tree has))
  where
    by : (o : Option Tree) → ((s : State) (d : IsFounded f told p s) → HasTree f s.files d.stands.history (planned.Merged text id o)) → (s : State) → (d : IsFounded f told p s) → IfSome o (λ t. IsPlanned f s.files d.stands.history text t)
    by None has s d = tt
    by (Some t) has s d = has s d
