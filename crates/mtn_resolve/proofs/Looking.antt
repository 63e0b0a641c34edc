-- What overridden decisions have at a name.
use Rattle.std.specs.Prelude.{find, filter, map, option_map, not}
use Rattle.std.specs.Option.{option_map_or}
use Rattle.std.proofs.Common.{◌≡◌, Bool, true, false, cond, List, [], ◌∷◌, ◌++◌, Option, Some, None, refl, sym, ◌∙◌, ap}
use Rattle.mtn_base.specs.Names.{same_name, name_cmp}
use Rattle.mtn_base.specs.declared.name.NodeName.{NodeName}
use Rattle.mtn_base.specs.Lists.{ordered}
use Rattle.mtn_base.proofs.Tests.{same_name-is}
use Rattle.mtn_base.proofs.Orders.{names_total, exact_names}
use Rattle.mtn_base.proofs.Placed.{find-placed}
use Rattle.mtn_decide.specs.declared.decision.Decision.{Decision}
use Rattle.mtn_decide.specs.declared.decision.Pending.{Pending}
use Rattle.mtn_decide.specs.Decisions.{Merge, decision_of, pending_of}
use Rattle.mtn_resolve.specs.declared.resolution.Resolution.{Resolution}
use Rattle.mtn_resolve.specs.declared.resolution.Resolution.TheVariants.{Drop, Place, Content, AttrSet, AttrClear, Keep}
use Rattle.mtn_resolve.specs.Subjects.{life_of, resolution_of}
use Rattle.mtn_resolve.specs.Overriding.{is_drop, is_keep, is_dropped, is_kept, new_node, reborn_of, living, overridden, candidates}

abbrev pub or_else : {X : Type 0} → Option X → Option X → Option X
or_else None o = o
or_else (Some x) o = Some x

pub look_ordered : (ds : List Decision) (n : NodeName) → decision_of (ordered name_cmp (λ (d : Decision). d.name) ds) n ≡ decision_of ds n
look_ordered [] n = refl
look_ordered (d ∷ ds) n =
    find-placed name_cmp (λ (d : Decision). d.name) same_name same_name-is names_total exact_names d (ordered name_cmp (λ (d : Decision). d.name) ds) n
    ∙ ap (cond (same_name d.name n) (Some d)) (look_ordered ds n)

pub look_new : (rs : List Resolution) (ds : List Decision) (n : NodeName) → decision_of (map (new_node rs) ds) n ≡ option_map (new_node rs) (decision_of ds n)
look_new rs [] n = refl
look_new rs (d ∷ ds) n =
    elim (same_name d.name n) as (λ b. cond b (Some (new_node rs d)) (decision_of (map (new_node rs) ds) n) ≡ option_map (new_node rs) (cond b (Some d) (decision_of ds n))) [
      | true ↦ refl
      | false ↦ look_new rs ds n
    ]

pub look_reborn : (ps : List Pending) (n : NodeName) → decision_of (map reborn_of ps) n ≡ option_map reborn_of (pending_of ps n)
look_reborn [] n = refl
look_reborn (p ∷ ps) n =
    elim (same_name p.entry.name n) as (λ b. cond b (Some (reborn_of p)) (decision_of (map reborn_of ps) n) ≡ option_map reborn_of (cond b (Some p) (pending_of ps n))) [
      | true ↦ refl
      | false ↦ look_reborn ps n
    ]

pub look_append : (xs ys : List Decision) (n : NodeName) → decision_of (xs ++ ys) n ≡ or_else (decision_of xs n) (decision_of ys n)
look_append [] ys n = refl
look_append (x ∷ xs) ys n =
    elim (same_name x.name n) as (λ b. cond b (Some x) (decision_of (xs ++ ys) n) ≡ or_else (cond b (Some x) (decision_of xs n)) (decision_of ys n)) [
      | true ↦ refl
      | false ↦ look_append xs ys n
    ]

none_either : {X : Type 0} (b : Bool) (o : Option X) → o ≡ cond b o o
none_either true o = refl
none_either false o = refl

-- what a filter by names leaves at a name
module _ {X : Type 0} (name : X → NodeName) (test : NodeName → Bool) where
  pub look_filter : (xs : List X) (n : NodeName) → find (λ x. same_name (name x) n) (filter (λ x. test (name x)) xs) ≡ cond (test n) (find (λ x. same_name (name x) n) xs) None
  look_filter [] n = none_either (test n) None
  look_filter (x ∷ xs) n = at (look_filter xs n) (test (name x)) (same_name (name x) n) refl refl
    where
      at : find (λ x. same_name (name x) n) (filter (λ x. test (name x)) xs) ≡ cond (test n) (find (λ x. same_name (name x) n) xs) None →
          (b s : Bool) → test (name x) ≡ b → same_name (name x) n ≡ s →
          find (λ x. same_name (name x) n) (cond b (x ∷ filter (λ x. test (name x)) xs) (filter (λ x. test (name x)) xs)) ≡ cond (test n) (cond s (Some x) (find (λ x. same_name (name x) n) xs)) None
      at rest true true e g =
          ap (λ s. cond s (Some x) (find (λ x. same_name (name x) n) (filter (λ x. test (name x)) xs))) g
          ∙ sym (ap (λ b. cond b (Some x) None) (ap test (sym (same_name-is (name x) n g)) ∙ e))
      at rest true false e g = ap (λ s. cond s (Some x) (find (λ x. same_name (name x) n) (filter (λ x. test (name x)) xs))) g ∙ rest
      at rest false true e g =
          rest
          ∙ ap (λ b. cond b (find (λ x. same_name (name x) n) xs) None) (ap test (sym (same_name-is (name x) n g)) ∙ e)
          ∙ sym (ap (λ b. cond b (Some x) None) (ap test (sym (same_name-is (name x) n g)) ∙ e))
      at rest false false e g = rest

-- what is kept is not dropped
pub kept_stays : (rs : List Resolution) (n : NodeName) → is_kept rs n ≡ true → is_dropped rs n ≡ false
kept_stays rs n = go (resolution_of rs (life_of n))
  where
    go : (o : Option Resolution) → option_map_or is_keep o false ≡ true → option_map_or is_drop o false ≡ false
    go None h = refl
    go (Some (Drop node)) h = absurd cc
    go (Some (Place node slot)) h = absurd cc
    go (Some (Content node pick)) h = absurd cc
    go (Some (AttrSet node key value)) h = absurd cc
    go (Some (AttrClear node key)) h = absurd cc
    go (Some (Keep node)) h = refl

module _ (m : Merge) (rs : List Resolution) (n : NodeName) where
  pub look_living : decision_of (living rs m) n ≡ or_else (cond (not (is_dropped rs n)) (decision_of m.nodes n) None) (option_map reborn_of (cond (is_kept rs n) (pending_of m.pending n) None))
  look_living =
      look_append (filter (λ (d : Decision). not (is_dropped rs d.name)) m.nodes) (map reborn_of (filter (λ (p : Pending). is_kept rs p.entry.name) m.pending)) n
      ∙ ap (λ o. or_else o (decision_of (map reborn_of (filter (λ (p : Pending). is_kept rs p.entry.name) m.pending)) n)) (look_filter (λ (d : Decision). d.name) (λ k. not (is_dropped rs k)) m.nodes n)
      ∙ ap (or_else (cond (not (is_dropped rs n)) (decision_of m.nodes n) None)) (look_reborn (filter (λ (p : Pending). is_kept rs p.entry.name) m.pending) n ∙ ap (option_map reborn_of) (look_filter (λ (p : Pending). p.entry.name) (is_kept rs) m.pending n))

  pub look_candidates : decision_of (candidates m) n ≡ or_else (decision_of m.nodes n) (option_map reborn_of (pending_of m.pending n))
  look_candidates = look_append m.nodes (map reborn_of m.pending) n ∙ ap (or_else (decision_of m.nodes n)) (look_reborn m.pending n)

  pub look_over : decision_of (overridden rs m).nodes n ≡ option_map (new_node rs) (decision_of (living rs m) n)
  look_over = look_ordered (map (new_node rs) (living rs m)) n ∙ look_new rs (living rs m) n

  -- what lives after resolutions may live
  pub candidate : (d : Decision) → decision_of (living rs m) n ≡ Some d → decision_of (candidates m) n ≡ Some d
  candidate d h = look_candidates ∙ go (is_dropped rs n) (is_kept rs n) (decision_of m.nodes n) (pending_of m.pending n) (kept_stays rs n) (sym look_living ∙ h)
    where
      go : (x k : Bool) (o : Option Decision) (p : Option Pending) → (k ≡ true → x ≡ false) → or_else (cond (not x) o None) (option_map reborn_of (cond k p None)) ≡ Some d → or_else o (option_map reborn_of p) ≡ Some d
      go true true o p stays g = absurd (let f = stays refl in cc)
      go true false o p stays g = absurd cc
      go false k (Some e) p stays g = g
      go false true None p stays g = g
      go false false None p stays g = absurd cc

  -- a node after resolutions is a candidate with new scalars
  pub record Was (e : Decision) : Type 0 where
    pub old : Decision
    pub living_is : decision_of (living rs m) n ≡ Some old
    pub there : decision_of (candidates m) n ≡ Some old
    pub new : new_node rs old ≡ e

  pub was : (e : Decision) → decision_of (overridden rs m).nodes n ≡ Some e → Was e
  was e h = go (decision_of (living rs m) n) refl (sym look_over ∙ h)
    where
      go : (o : Option Decision) → decision_of (living rs m) n ≡ o → option_map (new_node rs) o ≡ Some e → Was e
      go None g k = absurd cc
      go (Some d) g k = record { old = d; living_is = g; there = candidate d g; new = (let q : new_node rs d ≡ e = cc in q) }
