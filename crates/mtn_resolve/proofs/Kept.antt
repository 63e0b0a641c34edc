-- A node that is reborn has live attributes alone.
use Rattle.std.specs.Prelude.{filter_map, find, map, option_map, option_and_then, if◌then◌else◌}
use Rattle.std.specs.Option.{option_map_or}
use Rattle.std.specs.List.{cons_option}
use Rattle.std.proofs.Common.{◌≡◌, ℕ, Bool, true, false, cond, List, [], ◌∷◌, Option, Some, None, refl, sym, ◌∙◌, ap}
use Rattle.mtn_base.specs.Names.{same_bytes}
use Rattle.mtn_base.specs.declared.name.NodeName.{NodeName}
use Rattle.mtn_roster.specs.declared.entry.Attr.{Attr}
use Rattle.mtn_base.specs.Lists.{is_some_with}
use Rattle.mtn_base.proofs.Finding.{found}
use Rattle.mtn_base.proofs.Sorting.{rec_at}
use Rattle.mtn_decide.specs.declared.decision.AttrChoice.{AttrChoice}
use Rattle.mtn_decide.specs.declared.decision.AttrChoice.TheVariants.{Fixed}
use Rattle.mtn_decide.specs.declared.decision.AttrDecision.{AttrDecision}
use Rattle.mtn_decide.specs.declared.decision.Decision.{Decision}
use Rattle.mtn_decide.specs.declared.decision.Pending.{Pending}
use Rattle.mtn_decide.specs.Decisions.{Merge, decision_of, pending_of, choice_of}
use Rattle.mtn_conflicts.specs.declared.lists.Conflicts.{Conflicts}
use Rattle.mtn_conflicts.proofs.Nodes.{found_name}
use Rattle.mtn_resolve.specs.declared.resolution.Resolution.{Resolution}
use Rattle.mtn_resolve.specs.declared.resolution.Resolution.TheVariants.{Drop, Place, Content, AttrSet, AttrClear, Keep}
use Rattle.mtn_resolve.specs.declared.fault.Fault.TheVariants as one
use Rattle.mtn_resolve.specs.Faults.{names_known, names_dirs, has_conflict, key_clashes, is_attr_torn, fault_of, AreFitting}
use Rattle.mtn_resolve.specs.Overriding.{new_attr, value_in, live_attr, reborn_of, overridden, candidates}
use Rattle.mtn_resolve.specs.Subjects.{attr_of, is_about, resolution_of}
use Rattle.mtn_resolve.proofs.Looking.{or_else, was, look_candidates}
use Rattle.mtn_resolve.proofs.Staying.{same_node}

abbrev pub IsLiveChoice : AttrChoice → Type 0
IsLiveChoice x = (v : List ℕ) × (x ≡ Fixed (Some v))

live_choice : (as' : List Attr) (k : List ℕ) (x : AttrChoice) → choice_of (filter_map live_attr as') k ≡ Some x → IsLiveChoice x
live_choice [] k x h = absurd cc
live_choice (a ∷ as') k x h = go a.value (same_bytes a.key k) (live_choice as' k x) h
  where
    go : (v : Option (List ℕ)) (b : Bool) → (choice_of (filter_map live_attr as') k ≡ Some x → IsLiveChoice x) →
        option_map (λ (d : AttrDecision). d.choice) (find (λ (d : AttrDecision). same_bytes d.key k) (cons_option (option_map (λ (w : List ℕ). record { key = a.key; choice = Fixed (Some w) }) v) (filter_map live_attr as'))) ≡ Some x → IsLiveChoice x
    go None b rest g = rest g
    go (Some w) b rest g = at (same_bytes a.key k) g
      where
        at : (b : Bool) → option_map (λ (d : AttrDecision). d.choice) (cond b (Some (record { key = a.key; choice = Fixed (Some w) })) (find (λ (d : AttrDecision). same_bytes d.key k) (filter_map live_attr as'))) ≡ Some x → IsLiveChoice x
        at true f = (w, sym (let q : Fixed (Some w) ≡ x = cc in q))
        at false f = rest f

module _ (m : Merge) (c : Conflicts) (rs : List Resolution) (fitting : AreFitting m c rs) where
  conflict_named : (r : Resolution) → fault_of m c r ≡ None → has_conflict m c r ≡ true
  conflict_named r = go (names_known m r) (names_dirs m r) (has_conflict m c r)
    where
      go : (x y z : Bool) → (if x then (if y then (if z then None else Some one.NotAConflict) else Some one.NotADirectory) else Some one.UnknownNode) ≡ None → z ≡ true
      go true true true h = refl
      go true true false h = absurd cc
      go true false z h = absurd cc
      go false y z h = absurd cc

  module _ (n : NodeName) (dead : decision_of m.nodes n ≡ None) where
    no_clash : (node : NodeName) (k : List ℕ) → node ≡ n → key_clashes m node k ≡ true → ⊥
    no_clash node k same h =
        let g : is_some_with (λ (d : Decision). is_some_with is_attr_torn (choice_of d.attrs k)) None ≡ true = ap (is_some_with (λ (d : Decision). is_some_with is_attr_torn (choice_of d.attrs k))) (sym (ap (decision_of m.nodes) same ∙ dead)) ∙ h in
        cc

    no_value : (k : List ℕ) → option_and_then value_in (resolution_of rs (attr_of n k)) ≡ None
    no_value k = go (resolution_of rs (attr_of n k)) refl
      where
        about : (r : Resolution) → resolution_of rs (attr_of n k) ≡ Some r → (is_about (attr_of n k) r ≡ true) × (has_conflict m c r ≡ true)
        about r e = let f = found (is_about (attr_of n k)) rs r e in (f.passes, conflict_named r (rec_at (λ q. fault_of m c q ≡ None) rs r fitting f.at))

        at : (r : Resolution) → resolution_of rs (attr_of n k) ≡ Some r → value_in r ≡ None
        at (Drop node) e = refl
        at (Place node slot) e = refl
        at (Content node pick) e = refl
        at (AttrSet node key value) e = let f = about (AttrSet node key value) e in absurd (no_clash node key (same_node (attr_of node key) (attr_of n k) f.0) f.1)
        at (AttrClear node key) e = let f = about (AttrClear node key) e in absurd (no_clash node key (same_node (attr_of node key) (attr_of n k) f.0) f.1)
        at (Keep node) e = refl

        go : (o : Option Resolution) → resolution_of rs (attr_of n k) ≡ o → option_and_then value_in o ≡ None
        go None e = refl
        go (Some r) e = at r e

    attrs_stay : (as' : List AttrDecision) → map (new_attr rs n) as' ≡ as'
    attrs_stay [] = refl
    attrs_stay (a ∷ as') = λ i. record { key = a.key; choice = ap (λ o. option_map_or Fixed o a.choice) (no_value a.key) i } ∷ attrs_stay as' i

  pub kept_are_live : (n : NodeName) (e : Decision) → ((k : NodeName) (d : Decision) → decision_of m.nodes k ≡ Some d → d.reborn ≡ false) →
      decision_of (overridden rs m).nodes n ≡ Some e → e.reborn ≡ true → (key : List ℕ) (x : AttrChoice) → choice_of e.attrs key ≡ Some x → IsLiveChoice x
  kept_are_live n e unborn h r key x k =
      let w = was m rs n e h in
      go w.old (decision_of m.nodes n) (pending_of m.pending n) refl (sym (look_candidates m rs n) ∙ w.there) (ap (λ (d : Decision). d.reborn) w.new ∙ r) (found_name (candidates m) n w.old w.there) (ap (λ (d : Decision). choice_of d.attrs key) w.new ∙ k)
    where
      go : (old : Decision) (o : Option Decision) (p : Option Pending) → decision_of m.nodes n ≡ o → or_else o (option_map reborn_of p) ≡ Some old → old.reborn ≡ true → old.name ≡ n →
          choice_of (map (new_attr rs old.name) old.attrs) key ≡ Some x → IsLiveChoice x
      go old (Some d) p f g born name q = absurd (let s = unborn n d f in let t : d ≡ old = cc in let u = ap (λ (z : Decision). z.reborn) t in cc)
      go old None None f g born name q = absurd cc
      go old None (Some p) f g born name q =
          let is : reborn_of p ≡ old = cc in
          let as' = ap (λ z. map (new_attr rs z) old.attrs) name ∙ attrs_stay n f old.attrs ∙ ap (λ (d : Decision). d.attrs) (sym is) in
          live_choice p.entry.attrs key x (ap (λ l. choice_of l key) (sym as') ∙ q)
