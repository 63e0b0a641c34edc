-- Where a list of stanzas leaves a list of changes.
use Rattle.std.proofs.Common.{◌≡◌, ℕ, suc, ◌<◌, true, List, [], ◌∷◌, ◌++◌, length, get_or, take, map, refl, sym, ap, subst, ◌∙◌, inl, inr, true≢false, arith}
use Rattle.std.specs.Prelude.{◌⊎◌}
use Rattle.std.specs.List.{AllByRecursion}
use Rattle.std.proofs.lemmas.List.{append-nil, length-append}
use Rattle.std.proofs.Math.Seq.{take-append_seam, get_or-append_seam}
use Rattle.mtn_basic_io.specs.Spelling.{LineText}
use Rattle.mtn_changes.specs.declared.change.Change.{Change}
use Rattle.mtn_changes.specs.declared.head.Head.{Head}
use Rattle.mtn_changes.specs.declared.order.Fault.{Fault}
use Rattle.mtn_changes.specs.declared.order.Fault.TheVariants.{BadStanza, BadOrder, Repeated, BadEdge, NoMemory}
use Rattle.mtn_changes.specs.Changes.{IsChange, rank}
use Rattle.mtn_changes.specs.Stanzas.{stanza_of}
use Rattle.mtn_changes.specs.Heads.{head_stanza}
use Rattle.mtn_changes.specs.Lists.{last_rank, is_taken, StandsBehind, IsFault}
use Rattle.mtn_changes.specs.ChangesText.{AreChanges}
use Rattle.mtn_changes.proofs.Decoded.{one_change, no_both}

-- the stanzas of two lists are the same in their first and in the others
abbrev pub first : List LineText → List (List LineText) → List LineText
first s [] = s
first s (t ∷ ss) = t

abbrev pub others : List (List LineText) → List (List LineText)
others [] = []
others (s ∷ ss) = ss

pub same_first : (s t : List LineText) (ss ts : List (List LineText)) → s ∷ ss ≡ t ∷ ts → s ≡ t
same_first s t ss ts same = ap (first s) same

pub same_others : (s t : List LineText) (ss ts : List (List LineText)) → s ∷ ss ≡ t ∷ ts → ss ≡ ts
same_others s t ss ts same = ap others same

pub none_more : (s : List LineText) (ss : List (List LineText)) → s ∷ ss ≡ [] → ⊥
none_more s ss same = omega (arith, ap length same)

-- all are changes
abbrev pub Each : List Change → Type 0
Each cs = AllByRecursion IsChange cs

-- no change stands first
abbrev pub NoChange : List (List LineText) → Type 0
NoChange [] = Unit {0}
NoChange (s ∷ ss) = (c : Change) → IsChange c → s ≡ stanza_of c → ⊥

pub no_change_at : (h : Head) (ss : List (List LineText)) → NoChange (head_stanza h ∷ ss)
no_change_at h ss c is same = no_both h c is same

-- the stanza stands among the changes
pub record Inside (before : List Change) (s : List LineText) (all : List Change) : Type 0 where
  pub change : Change
  pub more : List Change
  pub parts : all ≡ before ++ change ∷ more
  pub spelled : s ≡ stanza_of change

-- it stands behind them
pub record Behind (before : List Change) (s : List LineText) (rest : List (List LineText)) (all : List Change) (y : List (List LineText)) : Type 0 where
  pub same : before ≡ all
  pub left : s ∷ rest ≡ y

abbrev pub Cut : List Change → List LineText → List (List LineText) → List Change → List (List LineText) → Type 0
Cut before s rest all y = Inside before s all ⊎ Behind before s rest all y

one_more : (b : Change) (before : List Change) (a : Change) (all : List Change) (s : List LineText) (rest y : List (List LineText)) → b ≡ a → Cut before s rest all y → Cut (b ∷ before) s rest (a ∷ all) y
one_more b before a all s rest y e (inl in_) =
    inl (record { change = in_.change; more = in_.more; parts = ap (λ (x : Change). x ∷ all) (sym e) ∙ ap (λ (xs : List Change). b ∷ xs) in_.parts; spelled = in_.spelled })
one_more b before a all s rest y e (inr out) = inr (record { same = ap (λ (x : Change). x ∷ before) e ∙ ap (λ (xs : List Change). a ∷ xs) out.same; left = out.left })

pub cut : (before all : List Change) (s : List LineText) (rest y : List (List LineText)) → Each before → Each all → NoChange y → map stanza_of before ++ s ∷ rest ≡ map stanza_of all ++ y → Cut before s rest all y
cut [] [] s rest y each_b each_a none same = inr (record { same = refl; left = same })
cut [] (a ∷ all) s rest y each_b each_a none same = inl (record { change = a; more = all; parts = refl; spelled = same_first s (stanza_of a) rest (map stanza_of all ++ y) same })
cut (b ∷ before) [] s rest [] each_b each_a none same = absurd (none_more (stanza_of b) (map stanza_of before ++ s ∷ rest) same)
cut (b ∷ before) [] s rest (t ∷ y) each_b each_a none same =
    absurd (none b each_b.0 (sym (same_first (stanza_of b) t (map stanza_of before ++ s ∷ rest) y same)))
cut (b ∷ before) (a ∷ all) s rest y each_b each_a none same =
    let e : b ≡ a = one_change b a each_b.0 each_a.0 (same_first (stanza_of b) (stanza_of a) (map stanza_of before ++ s ∷ rest) (map stanza_of all ++ y) same) in
    one_more b before a all s rest y e (cut before all s rest y each_b.1 each_a.1 none (same_others (stanza_of b) (stanza_of a) (map stanza_of before ++ s ∷ rest) (map stanza_of all ++ y) same))

-- changes that end at the same place are the same
pub record SameRun (cs ds : List Change) (y z : List (List LineText)) : Type 0 where
  pub changes : cs ≡ ds
  pub left : y ≡ z

pub one_run : (cs ds : List Change) (y z : List (List LineText)) → Each cs → Each ds → NoChange y → NoChange z → map stanza_of cs ++ y ≡ map stanza_of ds ++ z → SameRun cs ds y z
one_run [] [] y z each_c each_d none_y none_z same = record { changes = refl; left = same }
one_run [] (d ∷ ds) [] z each_c each_d none_y none_z same = absurd (none_more (stanza_of d) (map stanza_of ds ++ z) (sym same))
one_run [] (d ∷ ds) (t ∷ y) z each_c each_d none_y none_z same = absurd (none_y d each_d.0 (same_first t (stanza_of d) y (map stanza_of ds ++ z) same))
one_run (c ∷ cs) [] y [] each_c each_d none_y none_z same = absurd (none_more (stanza_of c) (map stanza_of cs ++ y) same)
one_run (c ∷ cs) [] y (t ∷ z) each_c each_d none_y none_z same = absurd (none_z c each_c.0 (sym (same_first (stanza_of c) t (map stanza_of cs ++ y) z same)))
one_run (c ∷ cs) (d ∷ ds) y z each_c each_d none_y none_z same =
    let e : c ≡ d = one_change c d each_c.0 each_d.0 (same_first (stanza_of c) (stanza_of d) (map stanza_of cs ++ y) (map stanza_of ds ++ z) same) in
    let more = one_run cs ds y z each_c.1 each_d.1 none_y none_z (same_others (stanza_of c) (stanza_of d) (map stanza_of cs ++ y) (map stanza_of ds ++ z) same) in
    record { changes = ap (λ (x : Change). x ∷ cs) e ∙ ap (λ (xs : List Change). d ∷ xs) more.changes; left = more.left }

pub one_list : (cs ds : List Change) → Each cs → Each ds → map stanza_of cs ≡ map stanza_of ds → cs ≡ ds
one_list cs ds each_c each_d same =
    (one_run cs ds [] [] each_c each_d tt tt (append-nil (map stanza_of cs) ∙ same ∙ sym (append-nil (map stanza_of ds)))).changes

-- each of lawful changes is one
each_from : (cs : List Change) → ((k : ℕ) (d : Change) → k < length cs → IsChange (get_or cs k d)) → Each cs
each_from [] at = tt
each_from (c ∷ cs) at = (at 0 c (omega arith), each_from cs (λ k d lt. at (suc k) d (omega arith)))

pub each : (cs : List Change) → AreChanges cs → Each cs
each cs lawful = each_from cs (λ k d lt. (lawful k d lt).lawful)

-- each stands behind those before it
pub stands_at : (before : List Change) (c : Change) (more all : List Change) → AreChanges all → all ≡ before ++ c ∷ more → StandsBehind before c
stands_at before c more all lawful parts =
    let whole : AreChanges (before ++ c ∷ more) = subst AreChanges parts lawful in
    let here : StandsBehind (take (length before) (before ++ c ∷ more)) (get_or (before ++ c ∷ more) (length before) c) = whole (length before) c (omega (arith, length-append before (c ∷ more))) in
    let put : StandsBehind before (get_or (before ++ c ∷ more) (length before) c) =
    subst (λ (bs : List Change). StandsBehind bs (get_or (before ++ c ∷ more) (length before) c)) (take-append_seam before (c ∷ more)) here in
    subst (λ (x : Change). StandsBehind before x) (get_or-append_seam before c more c) put

-- so its stanza has no fault there, but for want of memory
pub no_fault : (before : List Change) (c : Change) (s : List LineText) (why : Fault) → StandsBehind before c → s ≡ stanza_of c → IsFault before s why → why ≡ NoMemory
no_fault before c s BadStanza stands is fault = absurd (fault.0 c stands.lawful is)
no_fault before c s BadOrder stands is (inl head) = absurd (no_both head.0 c stands.lawful (sym head.1 ∙ is))
no_fault before c s BadOrder stands is (inr low) =
    let e : low.0 ≡ c = one_change low.0 c low.1 stands.lawful (sym low.2 ∙ is) in
    absurd (omega (arith, subst (λ (x : Change). rank x < last_rank before) e low.3, stands.ordered))
no_fault before c s Repeated stands is old =
    let e : old.0 ≡ c = one_change old.0 c old.1 stands.lawful (sym old.2 ∙ is) in
    absurd (true≢false (sym (subst (λ (x : Change). is_taken before x ≡ true) e old.4) ∙ stands.fresh))
no_fault before c s BadEdge stands is fault = absurd fault
no_fault before c s NoMemory stands is fault = refl

pub no_fault_inside : (before all : List Change) (s : List LineText) (why : Fault) → AreChanges all → Inside before s all → IsFault before s why → why ≡ NoMemory
no_fault_inside before all s why lawful at fault = no_fault before at.change s why (stands_at before at.change at.more all lawful at.parts) at.spelled fault
