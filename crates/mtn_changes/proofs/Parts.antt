-- A list of changes with one more.
use Rattle.std.proofs.Common.{◌≡◌, ℕ, zero, suc, ◌+◌, ◌<◌, Bool, true, false, cond, List, [], ◌∷◌, ◌++◌, length, get_or, take, drop, map, refl, sym, ap, subst, ◌∙◌, arith}
use Rattle.std.specs.List.{list_any}
use Rattle.std.specs.Prelude.{◌||◌, not, OnOk, Result, Ok, Err}
use Rattle.std.proofs.lemmas.Bool.{not-true, not-false}
use Rattle.std.proofs.lemmas.List.{length-take-le, length-map}
use Rattle.std.proofs.lemmas.List.Folds.{list_any-append}
use Rattle.std.specs.BTreeSet.{BTreeSet, contains, Updates}
use Rattle.std.specs.BTreeMap.{is_at}
use Rattle.mtn_changes.specs.declared.change.Change.{Change}
use Rattle.mtn_changes.specs.declared.target.Target.{Target}
use Rattle.mtn_changes.specs.Changes.{rank}
use Rattle.mtn_changes.specs.Targets.{target_of, target_cmp}
use Rattle.mtn_basic_io.specs.Spelling.{LineText}
use Rattle.mtn_changes.specs.declared.order.Fault.{Fault}
use Rattle.mtn_changes.specs.declared.order.Fault.TheVariants.{BadStanza, BadOrder, Repeated, BadEdge, NoMemory}
use Rattle.mtn_changes.specs.declared.error.ChangeTextError.{ChangeTextError}
use Rattle.mtn_changes.specs.Stanzas.{stanza_of}
use Rattle.mtn_changes.specs.Faults.{numbered_of}
use Rattle.mtn_changes.specs.ChangesText.{AreChanges, IsFaultAt, IsListFault}
use Rattle.mtn_changes.specs.Lists.{last_rank, is_taken, IsFault, IsPart, StandsBehind, IsNextChange}

pub last_rank-push : (cs : List Change) (c : Change) → last_rank (cs ++ c ∷ []) ≡ rank c
last_rank-push [] c = refl
last_rank-push (b ∷ []) c = refl
last_rank-push (a ∷ b ∷ cs) c = last_rank-push (b ∷ cs) c

or_swap : (a b : Bool) → cond a true b ≡ (b || (a || false))
or_swap true true = refl
or_swap true false = refl
or_swap false true = refl
or_swap false false = refl

abbrev pub AreTargets : BTreeSet Target → List Change → Type 0
AreTargets targets cs = (s : Target) → contains target_cmp targets s ≡ list_any (λ c. is_at (target_cmp (target_of c)) s) cs

pub taken : (cs : List Change) (targets : BTreeSet Target) (c : Change) (target : Target) (fresh : Bool) → target ≡ target_of c → AreTargets targets cs → fresh ≡ not (contains target_cmp targets target) → fresh ≡ false → is_taken cs c ≡ true
taken cs targets c target fresh is targets_are added old =
    let has : contains target_cmp targets target ≡ true = not-false (contains target_cmp targets target) (sym added ∙ old) in
    sym (targets_are (target_of c)) ∙ ap (contains target_cmp targets) (sym is) ∙ has

pub not_taken : (cs : List Change) (targets : BTreeSet Target) (c : Change) (target : Target) (fresh : Bool) → target ≡ target_of c → AreTargets targets cs → fresh ≡ not (contains target_cmp targets target) → fresh ≡ true → is_taken cs c ≡ false
not_taken cs targets c target fresh is targets_are added new =
    let lacks : contains target_cmp targets target ≡ false = not-true (contains target_cmp targets target) (sym added ∙ new) in
    sym (targets_are (target_of c)) ∙ ap (contains target_cmp targets) (sym is) ∙ lacks

pub targets_more : (cs : List Change) (old new : BTreeSet Target) (c : Change) (target : Target) → target ≡ target_of c → AreTargets old cs → Updates target_cmp old new target true → AreTargets new (cs ++ c ∷ [])
targets_more cs old new c target is targets_are updates s =
    updates.0 s
    ∙ ap (λ (k : Target). cond (is_at (target_cmp k) s) true (contains target_cmp old s)) is
    ∙ ap (λ (b : Bool). cond (is_at (target_cmp (target_of c)) s) true b) (targets_are s)
    ∙ or_swap (is_at (target_cmp (target_of c)) s) (list_any (λ d. is_at (target_cmp (target_of d)) s) cs)
    ∙ sym (list_any-append (λ d. is_at (target_cmp (target_of d)) s) cs (c ∷ []))

-- the stanza at a place, behind those before it
pub cut_at : (ss : List (List LineText)) (at : ℕ) (s : List LineText) → at < length ss → s ≡ get_or ss at s → ss ≡ take at ss ++ s ∷ drop (suc at) ss
cut_at [] at s lt is = absurd (omega arith)
cut_at (t ∷ ss) zero s lt is = ap (λ (u : List LineText). u ∷ ss) (sym is)
cut_at (t ∷ ss) (suc at) s lt is = ap (λ (us : List (List LineText)). t ∷ us) (cut_at ss at s (omega arith) is)

fault_of : (ss : List (List LineText)) (at : ℕ) (cs : List Change) (s : List LineText) (why : Fault) → at < length ss → s ≡ get_or ss at s → AreChanges cs → take at ss ≡ map stanza_of cs → IsFault cs s why → IsFaultAt ss (at + 1) why
fault_of ss at cs s why lt is lawful read fault = record {
  before = cs;
  stanza = s;
  rest = drop (suc at) ss;
  lawful = lawful;
  whole = cut_at ss at s lt is ∙ ap (λ (us : List (List LineText)). us ++ s ∷ drop (suc at) ss) read;
  place = omega (arith, length-take-le at ss (omega arith), ap length read, length-map cs stanza_of);
  fault = fault;
}

pub list_fault : (ss : List (List LineText)) (at : ℕ) (cs : List Change) (s : List LineText) (why : Fault) (e : ChangeTextError) → at < length ss → s ≡ get_or ss at s → AreChanges cs → take at ss ≡ map stanza_of cs → IsFault cs s why
    → e ≡ numbered_of why (at + 1) → IsListFault ss e
list_fault ss at cs s BadStanza e lt is lawful read fault same = let P : ChangeTextError → Type 0 = λ x. IsListFault ss x in subst P (sym same) (fault_of ss at cs s BadStanza lt is lawful read fault)
list_fault ss at cs s BadOrder e lt is lawful read fault same = let P : ChangeTextError → Type 0 = λ x. IsListFault ss x in subst P (sym same) (fault_of ss at cs s BadOrder lt is lawful read fault)
list_fault ss at cs s Repeated e lt is lawful read fault same = let P : ChangeTextError → Type 0 = λ x. IsListFault ss x in subst P (sym same) (fault_of ss at cs s Repeated lt is lawful read fault)
list_fault ss at cs s BadEdge e lt is lawful read fault same = absurd fault
list_fault ss at cs s NoMemory e lt is lawful read fault same = let P : ChangeTextError → Type 0 = λ x. IsListFault ss x in subst P (sym same) tt

-- a part's changes are those that were read
pub whole_part : (read changes : List Change) (targets : BTreeSet Target) (last : ℕ) → IsPart read changes targets last → IsPart changes changes targets last
whole_part read changes targets last part = subst (λ (cs : List Change). IsPart cs changes targets last) (sym part.same) part

-- no changes are lawful
pub none_lawful : (cs : List Change) → cs ≡ [] → AreChanges cs
none_lawful cs none k d lt = absurd (omega (arith, ap length none, lt))

-- the change of the stanza stands behind the others
pub next_put : (r : Result (Unit {0}) Fault) (before after : List Change) (s : List LineText) (c : Change) (targets : BTreeSet Target) (last : ℕ) → s ≡ stanza_of c → OnOk r (IsPart (before ++ c ∷ []) after targets last)
    → OnOk r (StandsBehind before c) → OnOk r (IsNextChange before s after)
next_put (Ok u) before after s c targets last is part stands = (c, is, stands, part.same)
next_put (Err e) before after s c targets last is part stands = tt
