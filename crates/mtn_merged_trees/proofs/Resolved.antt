-- What is decided after resolutions is of the sides' trees again.
use Rattle.std.specs.Prelude.{IsSome, option_map, option_and_then, filter_map, find, map}
use Rattle.std.specs.Option.{option_map_or}
use Rattle.std.specs.List.{AllByRecursion, cons_option}
use Rattle.std.proofs.Common.{◌≡◌, ℕ, Bool, true, false, cond, List, [], ◌∷◌, ◌++◌, Option, Some, None, refl, sym, ◌∙◌, ap, subst, ⊎_elim}
use Rattle.mtn_base.specs.Comps.{IsComp}
use Rattle.mtn_base.specs.Names.{same_bytes}
use Rattle.mtn_base.specs.declared.id.Id.{Id}
use Rattle.mtn_base.specs.declared.name.NodeName.{NodeName}
use Rattle.mtn_base.proofs.Finding.{found}
use Rattle.mtn_base.proofs.Sorting.{rec_at}
use Rattle.mtn_changes.specs.Changes.{IsKey}
use Rattle.mtn_history_laws.specs.History.{Revision, tree_at, IsGrown, TellsAncestors}
use Rattle.mtn_roster.specs.Tree.{entry_of, attr_of, is_dir}
use Rattle.mtn_roster.specs.declared.entry.Attr.{Attr}
use Rattle.mtn_roster.specs.declared.entry.Entry.{Entry}
use Rattle.mtn_roster.specs.declared.entry.Slot.{Slot}
use Rattle.mtn_roster.specs.declared.entry.Slot.TheVariants.{Root, Below}
use Rattle.mtn_decide.specs.declared.decision.AttrChoice.{AttrChoice}
use Rattle.mtn_decide.specs.declared.decision.AttrChoice.TheVariants.{Fixed as FixedAttr}
use Rattle.mtn_decide.specs.declared.decision.AttrDecision.{AttrDecision}
use Rattle.mtn_decide.specs.declared.decision.Decision.{Decision}
use Rattle.mtn_decide.specs.declared.decision.Pending.{Pending}
use Rattle.mtn_decide.specs.declared.decision.SlotChoice.TheVariants.{Fixed}
use Rattle.mtn_decide.specs.Decisions.{Merge, IsInOrder, decision_of, pending_of, choice_of}
use Rattle.mtn_decide.specs.Graph.{IsMergeOf}
use Rattle.mtn_conflicts.specs.declared.lists.Conflicts.{Conflicts}
use Rattle.mtn_conflicts.specs.Result.{decided_value}
use Rattle.mtn_between.specs.Laws.{IsSpellable}
use Rattle.mtn_resolve.specs.declared.resolution.Resolution.{Resolution}
use Rattle.mtn_resolve.specs.declared.resolution.Resolution.TheVariants.{Drop, Place, Content, AttrSet, AttrClear, Keep}
use Rattle.mtn_resolve.specs.Faults.{AreFitting}
use Rattle.mtn_resolve.specs.Overriding.{slot_in, live_attr, reborn_of, candidates, overridden}
use Rattle.mtn_resolve.specs.Subjects.{slot_of, is_about, resolution_of}
use Rattle.mtn_resolve.specs.Texts.{IsResolution, AreResolutions}
use Rattle.mtn_resolve.proofs.Looking.{or_else, look_candidates, was}
use Rattle.mtn_resolve.proofs.Staying.{scalars_stay}
use Rattle.mtn_resolve.proofs.Kept.{kept_are_live}
use Rattle.mtn_merged_trees.specs.Sides.{AreOfSides, ArePendingOf}
use Rattle.mtn_merged_trees.proofs.Decided.{of_sides, pending_of_sides}

-- each resolution of a text is lawful
each_lawful : (before rs : List Resolution) → AreResolutions before rs → AllByRecursion IsResolution rs
each_lawful before [] h = tt
each_lawful before (r ∷ rs) h = (h.0, each_lawful (before ++ r ∷ []) rs h.2)

-- lists of the same keys have the same
has_key : (k : List ℕ) (as' bs : List AttrDecision) → map (λ (a : AttrDecision). a.key) as' ≡ map (λ (a : AttrDecision). a.key) bs → IsSome (choice_of as' k) → IsSome (choice_of bs k)
has_key k [] bs e h = absurd (let z = h in cc)
has_key k (a ∷ as') [] e h = absurd cc
has_key k (a ∷ as') (b ∷ bs) e h =
    let head : a.key ≡ b.key = cc in
    let rest : map (λ (a : AttrDecision). a.key) as' ≡ map (λ (a : AttrDecision). a.key) bs = cc in
    elim (same_bytes b.key k) as (λ t. same_bytes a.key k ≡ t → IsSome (option_map (λ (x : AttrDecision). x.choice) (cond t (Some b) (find (λ (x : AttrDecision). same_bytes x.key k) bs)))) [
      | true ↦ λ g. refl
      | false ↦ λ g. has_key k as' bs rest (subst (λ t. IsSome (option_map (λ (x : AttrDecision). x.choice) (cond t (Some a) (find (λ (x : AttrDecision). same_bytes x.key k) as')))) g h)
    ] (ap (λ x. same_bytes x k) head)

-- a live attribute is an attribute
of_live : (k : List ℕ) (as' : List Attr) → IsSome (choice_of (filter_map live_attr as') k) → IsSome (attr_of as' k)
of_live k [] h = absurd (let z = h in cc)
of_live k (a ∷ as') h = go a.value (of_live k as') h
  where
    later : IsSome (attr_of as' k) → (b : Bool) → IsSome (option_map (λ (x : Attr). x.value) (cond b (Some a) (find (λ (x : Attr). same_bytes x.key k) as')))
    later s true = refl
    later s false = s

    go : (v : Option (List ℕ)) → (IsSome (choice_of (filter_map live_attr as') k) → IsSome (attr_of as' k)) →
        IsSome (option_map (λ (d : AttrDecision). d.choice) (find (λ (d : AttrDecision). same_bytes d.key k) (cons_option (option_map (λ (w : List ℕ). record { key = a.key; choice = FixedAttr (Some w) }) v) (filter_map live_attr as')))) →
        IsSome (attr_of (a ∷ as') k)
    go None rest g = later (rest g) (same_bytes a.key k)
    go (Some w) rest g = at (same_bytes a.key k) g
      where
        at : (b : Bool) → IsSome (option_map (λ (d : AttrDecision). d.choice) (cond b (Some (record { key = a.key; choice = FixedAttr (Some w) })) (find (λ (d : AttrDecision). same_bytes d.key k) (filter_map live_attr as')))) →
            IsSome (option_map (λ (x : Attr). x.value) (cond b (Some a) (find (λ (x : Attr). same_bytes x.key k) as')))
        at true f = refl
        at false f = rest f

module _ (h : List Revision) (p q : ℕ) (m : Merge) (grown : IsGrown h) (order : IsInOrder m) (is : IsMergeOf h p q m)
    (c : Conflicts) (rs : List Resolution) (fitting : AreFitting m c rs) (lawful : AreResolutions [] rs)
    (spell_left : IsSpellable (tree_at h p)) (spell_right : IsSpellable (tree_at h q))
    (above_left above_right : Id → Bool) (tells_left : TellsAncestors h p above_left) (tells_right : TellsAncestors h q above_right) where
  of : AreOfSides (tree_at h p) (tree_at h q) above_left above_right m
  of = of_sides h p q m grown order is spell_left spell_right above_left above_right tells_left tells_right

  pend : ArePendingOf (tree_at h p) (tree_at h q) m
  pend = pending_of_sides h p q m grown order is

  -- what may live lives, or is pending
  data From (n : NodeName) : Decision → Type 0 where
    live : {d : Decision} → decision_of m.nodes n ≡ Some d → d.reborn ≡ false → From n d
    held : (x : Pending) → pending_of m.pending n ≡ Some x → From n (reborn_of x)

  from : (n : NodeName) (d : Decision) → decision_of (candidates m) n ≡ Some d → From n d
  from n d k = go (decision_of m.nodes n) (pending_of m.pending n) refl refl (sym (look_candidates m [] n) ∙ k)
    where
      go : (o : Option Decision) (u : Option Pending) → decision_of m.nodes n ≡ o → pending_of m.pending n ≡ u → or_else o (option_map reborn_of u) ≡ Some d → From n d
      go (Some x) u e f g = let same : x ≡ d = cc in subst (From n) same (live e (is.unborn n x e))
      go None (Some x) e f g = let same : reborn_of x ≡ d = cc in subst (From n) same (held x f)
      go None None e f g = absurd cc

  abbrev After : NodeName → Decision → Type 0
  After n e = decision_of (overridden rs m).nodes n ≡ Some e

  -- what is not reborn lived
  lived : (n : NodeName) (e : Decision) → After n e → e.reborn ≡ false →
      (d : Decision) × (decision_of m.nodes n ≡ Some d) × (d.reborn ≡ false) × (e.is_dir ≡ d.is_dir) × (map (λ (a : AttrDecision). a.key) e.attrs ≡ map (λ (a : AttrDecision). a.key) d.attrs)
  lived n e a r =
      let w = scalars_stay m rs n e a in
      go w.0 (from n w.0 w.1) (sym w.3 ∙ r) w.2 w.4
    where
      go : (d : Decision) → From n d → d.reborn ≡ false → e.is_dir ≡ d.is_dir → map (λ (a : AttrDecision). a.key) e.attrs ≡ map (λ (a : AttrDecision). a.key) d.attrs →
          (d : Decision) × (decision_of m.nodes n ≡ Some d) × (d.reborn ≡ false) × (e.is_dir ≡ d.is_dir) × (map (λ (a : AttrDecision). a.key) e.attrs ≡ map (λ (a : AttrDecision). a.key) d.attrs)
      go _ (live {d = d} k u) f s t = (d, k, u, s, t)
      go _ (held x k) f s t = absurd cc

  -- kinds
  left_kind : (n : NodeName) (e : Decision) (f : Entry) → After n e → entry_of (tree_at h p) n ≡ Some f → is_dir f ≡ e.is_dir
  left_kind n e f a k = let w = scalars_stay m rs n e a in go w.0 (from n w.0 w.1) w.2
    where
      go : (d : Decision) → From n d → e.is_dir ≡ d.is_dir → is_dir f ≡ e.is_dir
      go _ (live {d = d} g u) s = of.left_kind n d f g k ∙ sym s
      go _ (held x g) s = ⊎_elim
          (λ t. let same : x.entry ≡ f = (let y = t.0 in cc) in ap is_dir (sym same) ∙ sym s)
          (λ t. absurd (let y = t.1 in cc))
          (pend n x g)

  right_kind : (n : NodeName) (e : Decision) (f : Entry) → After n e → entry_of (tree_at h q) n ≡ Some f → is_dir f ≡ e.is_dir
  right_kind n e f a k = let w = scalars_stay m rs n e a in go w.0 (from n w.0 w.1) w.2
    where
      go : (d : Decision) → From n d → e.is_dir ≡ d.is_dir → is_dir f ≡ e.is_dir
      go _ (live {d = d} g u) s = of.right_kind n d f g k ∙ sym s
      go _ (held x g) s = ⊎_elim
          (λ t. absurd (let y = t.1 in cc))
          (λ t. let same : x.entry ≡ f = (let y = t.0 in cc) in ap is_dir (sym same) ∙ sym s)
          (pend n x g)

  -- a pending file is spelled by the side that has it
  held_comp : (n parent : NodeName) (x : Pending) (name : List ℕ) → pending_of m.pending n ≡ Some x → x.entry.slot ≡ Below parent name → IsComp name
  held_comp n parent x name k s = ⊎_elim (λ t. spell_left.comps n parent x.entry name t.0 s) (λ t. spell_right.comps n parent x.entry name t.0 s) (pend n x k)

  held_key : (n : NodeName) (x : Pending) (k : List ℕ) → pending_of m.pending n ≡ Some x → IsSome (attr_of x.entry.attrs k) → IsKey k
  held_key n x k g s = ⊎_elim (λ t. spell_left.keys n x.entry k t.0 s) (λ t. spell_right.keys n x.entry k t.0 s) (pend n x g)

  -- a slot that a resolution gives has a lawful component
  given_comp : (n parent : NodeName) (name : List ℕ) (r : Resolution) → resolution_of rs (slot_of n) ≡ Some r → slot_in r ≡ Some (Below parent name) → IsComp name
  given_comp n parent name r e g = at r (rec_at IsResolution rs r (each_lawful [] rs lawful) (found (is_about (slot_of n)) rs r e).at) g
    where
      at : (r : Resolution) → IsResolution r → slot_in r ≡ Some (Below parent name) → IsComp name
      at (Place node Root) ok k = absurd cc
      at (Place node (Below up comp)) ok k = let same : comp ≡ name = cc in subst IsComp same ok.1.1
      at (Drop node) ok k = absurd cc
      at (Content node pick) ok k = absurd cc
      at (AttrSet node key value) ok k = absurd cc
      at (AttrClear node key) ok k = absurd cc
      at (Keep node) ok k = absurd cc

  old_comp : (n parent : NodeName) (d : Decision) (name : List ℕ) → From n d → d.slot ≡ Fixed (Below parent name) → IsComp name
  old_comp n parent _ name (live {d = d} k u) s = of.comps n parent d name k s
  old_comp n parent _ name (held x k) s = held_comp n parent x name k (let same : x.entry.slot ≡ Below parent name = cc in same)

  comps : (n parent : NodeName) (e : Decision) (name : List ℕ) → After n e → e.slot ≡ Fixed (Below parent name) → IsComp name
  comps n parent e name a s =
      let w = was m rs n e a in
      go w.old (from n w.old w.there) (resolution_of rs (slot_of w.old.name)) refl (ap (λ (x : Decision). x.slot) w.new ∙ s)
    where
      at : (d : Decision) → From n d → (r : Resolution) → resolution_of rs (slot_of d.name) ≡ Some r → (u : Option Slot) → slot_in r ≡ u → option_map_or Fixed u d.slot ≡ Fixed (Below parent name) → IsComp name
      at d old r e None f k = old_comp n parent d name old k
      at d old r e (Some t) f k = given_comp d.name parent name r e (f ∙ ap Some (let same : t ≡ Below parent name = cc in same))

      go : (d : Decision) → From n d → (o : Option Resolution) → resolution_of rs (slot_of d.name) ≡ o → option_map_or Fixed (option_and_then slot_in o) d.slot ≡ Fixed (Below parent name) → IsComp name
      go d old None e k = old_comp n parent d name old k
      go d old (Some r) e k = at d old r e (slot_in r) refl k

  lawful_keys : (n : NodeName) (e : Decision) (k : List ℕ) → After n e → IsSome (choice_of e.attrs k) → IsKey k
  lawful_keys n e k a s = let w = scalars_stay m rs n e a in go w.0 (from n w.0 w.1) (has_key k e.attrs w.0.attrs w.4 s)
    where
      go : (d : Decision) → From n d → IsSome (choice_of d.attrs k) → IsKey k
      go _ (live {d = d} g u) t = of.lawful_keys n d k g t
      go _ (held x g) t = held_key n x k g (of_live k x.entry.attrs t)

  pub resolved : AreOfSides (tree_at h p) (tree_at h q) above_left above_right (overridden rs m)
  resolved = record {
    seen = λ n e a r. let t = lived n e a r in of.seen n t.0 t.1 t.2;
    left_kind = left_kind;
    right_kind = right_kind;
    left_lives = λ n e f a r k g. let t = lived n e a r in of.left_lives n t.0 f t.1 t.2 k g;
    right_lives = λ n e f a r k g. let t = lived n e a r in of.right_lives n t.0 f t.1 t.2 k g;
    comps = comps;
    lawful_keys = lawful_keys;
    keys = λ n e k a r.
        let t = lived n e a r in
        let both = of.keys n t.0 k t.1 t.2 in
        (λ s. both.0 (has_key k e.attrs t.0.attrs t.4 s), λ s. has_key k t.0.attrs e.attrs (sym t.4) (both.1 s));
    live_keys = λ n e k x a r g. let t = kept_are_live m c rs fitting n e is.unborn a r k x g in subst (λ (y : AttrChoice). IsSome (decided_value y)) (sym t.1) refl;
  }
