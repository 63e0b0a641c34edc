-- One generated revision more, and the tips behind it.
use Rattle.std.specs.Prelude.{replicate}
use Rattle.std.proofs.Common.{◌≡◌, ◌≢◌, ◌%◌, ℕ, zero, suc, List, Option, Some, None, Ok, Err, refl, sym, ap, ◌∙◌, subst, arith}
use Rattle.hex.specs.Hex.{IsBytes}
use Rattle.mtn_base.specs.Hex.{id_of}
use Rattle.mtn_base.specs.declared.id.Id.{Id}
use Rattle.mtn_base.specs.declared.refusal.Cause.{Cause}
use Rattle.mtn_certs.specs.Certificates.{IsIdBytes}
use Rattle.mtn_generated.specs.Growing.{Adds, AddsWork, GrowthAnswer, Carries, Grown, Grows, MergesTips, Onward, PutsEdge, PutsText, files_refusal, grown, grown_or, with_files}
use Rattle.mtn_generated.specs.Numbered.{Tips, Work, edge_fault, edge_of, edge_text, files_of, no_tips, tips_after, work_at, work_by}
use Rattle.mtn_generated.specs.Numbered.Work.{Begins, Joins, Patches, Renames, Sets}
use Rattle.mtn_generated.proofs.Counted.{later, split}
use Rattle.mtn_history_laws.specs.History.{Revision}
use Rattle.mtn_model.specs.State.{State}
use Rattle.mtn_plans.specs.Plans.{Plan}
use Rattle.mtn_plans.specs.declared.outcome.MergeOutcome.TheVariants.{Conflicted, Merged}
use Rattle.mtn_replay.specs.Accepting.{Decides}
use Rattle.mtn_replay.specs.Lawful.{IsHistory}
use Rattle.mtn_step_laws.proofs.LawfulGrowth.{went_on}

-- a text that was put: it is not refused, and its id is a tip
pub record IsPutAs (f : List ℕ → List ℕ) (work : Work) (tips : Tips) (s : State) (text : List ℕ) (after : Grown) : Type 0 where
  pub decides : Decides f s text None after.state
  pub behind : after.tips ≡ tips_after work (id_of (f text)) tips

module _ (f : List ℕ → List ℕ) (work : Work) (tips : Tips) (s : State) (after : Grown) where
  abbrev to : List ℕ → State → Grown
  to text t = grown t (tips_after work (id_of (f text)) tips)

  pub put_as : (text : List ℕ) → PutsText f work tips s text (Ok after) → IsPutAs f work tips s text after
  put_as text is = by is.refusal is.decides is.is
    where
      by : (r : Option Cause) → Decides f s text r is.after → Ok after ≡ grown_or r (to text is.after) → IsPutAs f work tips s text after
      by (Some cause) decides e = absurd cc
      by None decides e = let same : after ≡ to text is.after = cc in subst (λ (g : Grown). IsPutAs f work tips s text g) (sym same) record { decides = decides; behind = refl }

  -- a revision with one edge that was added
  pub record IsEdgePut (i : ℕ) : Type 0 where
    pub history : List Revision
    pub spelled : IsHistory f s.files s.log history
    pub fine : edge_fault history (edge_of f i work tips) ≡ None
    pub put : IsPutAs f work tips s (edge_text f history (edge_of f i work tips)) after

  pub edge_put : (i : ℕ) → PutsEdge f work tips s i (Ok after) → IsEdgePut i
  edge_put i is =
      let e = edge_of f i work tips in
      let t = went_on (edge_fault is.history e) (PutsText f work tips s (edge_text f is.history e)) after is.puts in
      record { history = is.history; spelled = is.spelled; fine = t.0; put = put_as (edge_text f is.history e) t.1 }

  carried_as : (plan : Plan) → Carries f work tips s plan (Ok after) → (text : List ℕ) × IsPutAs f work tips s text after
  carried_as (Err cause) is = absurd cc
  carried_as (Ok (Conflicted l r c)) is = absurd cc
  carried_as (Ok (Merged text)) is = (text, put_as text is)

  merged_as : MergesTips f work tips s (Ok after) → (text : List ℕ) × IsPutAs f work tips s text after
  merged_as is = carried_as is.plan is.carried

module _ (f : List ℕ → List ℕ) (i : ℕ) where
  edge_work : (tips : Tips) (s : State) (work : Work) (after : Grown) → work ≢ Joins → AddsWork f i tips s work (Ok after) → IsEdgePut f work tips s after i
  edge_work tips s Joins after other is = absurd (other refl)
  edge_work tips s Begins after other is = edge_put f Begins tips s after i is
  edge_work tips s Patches after other is = edge_put f Patches tips s after i is
  edge_work tips s Sets after other is = edge_put f Sets tips s after i is
  edge_work tips s Renames after other is = edge_put f Renames tips s after i is

  some_work : (tips : Tips) (s : State) (work : Work) (after : Grown) → AddsWork f i tips s work (Ok after) → (text : List ℕ) × IsPutAs f work tips s text after
  some_work tips s Joins after is = merged_as f Joins tips s after is
  some_work tips s Begins after is = (_, (edge_put f Begins tips s after i is).put)
  some_work tips s Patches after is = (_, (edge_put f Patches tips s after i is).put)
  some_work tips s Sets after is = (_, (edge_put f Sets tips s after i is).put)
  some_work tips s Renames after is = (_, (edge_put f Renames tips s after i is).put)

  module _ (work : Work) (before after : Grown) (is : Adds f i work before (Ok after)) where
    abbrev behind_files : State
    behind_files = with_files f before.state (files_of i work)

    went : (files_refusal f before.state (files_of i work) ≡ None) × AddsWork f i before.tips behind_files work (Ok after)
    went = went_on (files_refusal f before.state (files_of i work)) (AddsWork f i before.tips behind_files work) after is

    pub one_edge : work ≢ Joins → IsEdgePut f work before.tips behind_files after i
    one_edge other = edge_work before.tips behind_files work after other went.1

    pub one_text : (text : List ℕ) × IsPutAs f work before.tips behind_files text after
    one_text = some_work before.tips behind_files work after went.1

-- what has grown by one more revision
pub record HasGrown (f : List ℕ → List ℕ) (s : State) (n : ℕ) (g : Grown) : Type 0 where
  pub before : Grown
  pub grew : Grows f s n (Ok before)
  pub adds : Adds f (suc n) (work_at (suc n)) before (Ok g)

pub last_of : (f : List ℕ → List ℕ) (s : State) (n : ℕ) (g : Grown) → Grows f s (suc n) (Ok g) → HasGrown f s n g
last_of f s n g is = by is.0 is.1 is.2
  where
    by : (before : GrowthAnswer) → Grows f s n before → Onward before (Adds f (suc n) (work_at (suc n))) (Ok g) → HasGrown f s n g
    by (Err stop) grew on = absurd cc
    by (Ok b) grew on = record { before = b; grew = grew; adds = on }

-- ---- the tips are ids

pub record AreIds (tips : Tips) : Type 0 where
  pub left : IsIdBytes tips.left.0
  pub right : IsIdBytes tips.right.0

ids_after : (work : Work) (x : Id) (tips : Tips) → IsIdBytes x.0 → AreIds tips → AreIds (tips_after work x tips)
ids_after Begins x tips id are = record { left = id; right = id }
ids_after Patches x tips id are = record { left = id; right = are.right }
ids_after Sets x tips id are = record { left = are.left; right = id }
ids_after Joins x tips id are = record { left = id; right = id }
ids_after Renames x tips id are = record { left = id; right = id }

zero_bytes : (n : ℕ) → IsBytes (replicate n 0)
zero_bytes zero i = omega arith
zero_bytes (suc n) zero = omega arith
zero_bytes (suc n) (suc i) = zero_bytes n i

no_ids : AreIds no_tips
no_ids = let id : IsIdBytes (replicate 20 0) = record { twenty = refl; bytes = zero_bytes 20 } in record { left = id; right = id }

pub tips_are_ids : (f : List ℕ → List ℕ) → ((text : List ℕ) → IsIdBytes (f text)) → (s : State) (n : ℕ) (g : Grown) → Grows f s n (Ok g) → AreIds g.tips
tips_are_ids f makes s zero g is = subst (λ (x : Grown). AreIds x.tips) (let same : grown s no_tips ≡ g = cc in same) no_ids
tips_are_ids f makes s (suc n) g is =
    let last = last_of f s n g is in
    let t = one_text f (suc n) (work_at (suc n)) last.before g last.adds in
    subst AreIds (sym t.1.behind) (ids_after (work_at (suc n)) (id_of (f t.0)) last.before.tips (makes t.0) (tips_are_ids f makes s n last.before last.grew))

-- ---- what stands before a merge

-- both tips are the last revision
abbrev pub SetsBoth : Work → Type 0
SetsBoth work = (x : Id) (tips : Tips) → tips_after work x tips ≡ record { left = x; right = x; last = x }

joins_rest : (r : ℕ) → work_by r ≡ Joins → r ≡ 0
joins_rest zero e = refl
joins_rest (suc zero) e = absurd cc
joins_rest (suc (suc zero)) e = absurd cc
joins_rest (suc (suc (suc r))) e = absurd cc

pub record IsBeforeMerge (n : ℕ) : Type 0 where
  pub first : ℕ
  pub is : n ≡ suc (suc (suc first))
  pub both : SetsBoth (work_at (suc first))
  pub patches : work_at (suc (suc first)) ≡ Patches
  pub sets : work_at (suc (suc (suc first))) ≡ Sets

sets_both : (k : ℕ) → suc k % 4 ≡ 1 → SetsBoth (work_at (suc k))
sets_both zero rest x tips = refl
sets_both (suc k) rest x tips = ap (λ w. tips_after w x tips) (later (suc (suc k)) (λ e. omega (arith, e)) ∙ ap work_by rest)

pub before_merge : (n : ℕ) → work_at (suc n) ≡ Joins → IsBeforeMerge n
before_merge zero e = absurd cc
before_merge (suc zero) e = absurd cc
before_merge (suc (suc zero)) e = absurd cc
before_merge (suc (suc (suc k))) e =
    let rest = joins_rest (suc (suc (suc (suc k))) % 4) (sym (later (suc (suc (suc (suc k)))) (λ d. omega (arith, d))) ∙ e) in
    let a = split (suc (suc (suc (suc k)))) in
    let b = split (suc (suc (suc k))) in
    let c = split (suc (suc k)) in
    let d = split (suc k) in
    let three : suc (suc (suc k)) % 4 ≡ 3 = omega (arith, rest, a.whole, a.less, b.whole, b.less) in
    let two : suc (suc k) % 4 ≡ 2 = omega (arith, rest, a.whole, a.less, c.whole, c.less) in
    let one : suc k % 4 ≡ 1 = omega (arith, rest, a.whole, a.less, d.whole, d.less) in
    record {
      first = k;
      is = refl;
      both = sets_both k one;
      patches = later (suc (suc k)) (λ x. omega (arith, x)) ∙ ap work_by two;
      sets = later (suc (suc (suc k))) (λ x. omega (arith, x)) ∙ ap work_by three;
    }
