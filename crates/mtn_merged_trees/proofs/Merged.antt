-- The tree that decisions of the sides make shows what the changesets to it need.
use Rattle.std.specs.Prelude.{IsSome, option_map}
use Rattle.std.proofs.Common.{◌≡◌, ◌⊎◌, ℕ, Bool, true, false, List, Option, Some, None, refl, sym, ◌∙◌, ap, subst, ⊎_elim}
use Rattle.mtn_base.specs.declared.id.Id.{Id}
use Rattle.mtn_base.specs.declared.name.NodeName.{NodeName}
use Rattle.mtn_roster.specs.declared.entry.Entry.{Entry}
use Rattle.mtn_roster.specs.declared.entry.Slot.{Slot}
use Rattle.mtn_roster.specs.declared.entry.Slot.TheVariants.{Root, Below}
use Rattle.mtn_roster.specs.Tree.{Tree, entry_of, attr_of, is_dir, path_of}
use Rattle.mtn_changeset_laws.specs.Laws.{NoneBornIn}
use Rattle.mtn_decide.specs.declared.decision.AttrChoice.{AttrChoice}
use Rattle.mtn_decide.specs.declared.decision.Decision.{Decision}
use Rattle.mtn_decide.specs.Decisions.{Merge, IsInOrder, decision_of, choice_of}
use Rattle.mtn_conflicts.specs.Result.{decided_slot, decided_value, new_slot, result_of, ParentsAreDirs, NoneBornIn as NoneDecidedIn}
use Rattle.mtn_conflicts.proofs.Clear.{IsTidy}
use Rattle.mtn_conflicts.proofs.Before.{slot_is}
use Rattle.mtn_between.specs.Laws.{IsSpellable}
use Rattle.mtn_between.specs.Merging.{HasKey, IsMerged}
use Rattle.mtn_merged_trees.specs.Sides.{AreOfSides}
use Rattle.mtn_merged_trees.proofs.Made.{attrs_are, whole, IsOf, made_of, kind_is, kept_name, reborn_name, path_kept}

module _ (left right : Tree) (id : Id) (al ar : Id → Bool) (m : Merge) (order : IsInOrder m) (tidy : IsTidy m.nodes) (dirs : ParentsAreDirs m.nodes) (fresh : NoneDecidedIn m.nodes id)
    (unborn_left : NoneBornIn left id) (unborn_right : NoneBornIn right id) (from : AreOfSides left right al ar m) where
  abbrev ds : List Decision
  ds = m.nodes

  abbrev t : Tree
  t = result_of m id

  abbrev Of : NodeName → Entry → Type 0
  Of n e = IsOf m id order tidy dirs fresh n e

  of : (n : NodeName) (e : Entry) → entry_of t n ≡ Some e → Of n e
  of n e h = made_of m id order tidy dirs fresh n e h

  -- a node that a side has is not reborn
  not_reborn : (side : Tree) → NoneBornIn side id → (n : NodeName) (e f : Entry) (o : Of n e) → entry_of side n ≡ Some f → o.node.reborn ≡ false
  not_reborn side unborn n e f o h = go o.node.reborn refl
    where
      go : (b : Bool) → o.node.reborn ≡ b → b ≡ false
      go false r = refl
      go true r = absurd (unborn n f h (ap (λ (x : NodeName). x.birth) (sym o.name ∙ reborn_name m id order tidy dirs fresh o.node r)))

  -- and the decision is that of its name
  here : (n : NodeName) (e : Entry) (o : Of n e) → o.node.reborn ≡ false → decision_of ds n ≡ Some o.node
  here n e o r = subst (λ x. decision_of ds x ≡ Some o.node) (sym (kept_name m id order tidy dirs fresh o.node r) ∙ o.name) o.there

  kind : (n : NodeName) (e : Entry) (o : Of n e) → o.node.is_dir ≡ is_dir e
  kind n e o = sym (kind_is m id order tidy dirs fresh o.node o.there) ∙ ap is_dir o.is

  attrs : (n : NodeName) (e : Entry) (o : Of n e) (k : List ℕ) → attr_of e.attrs k ≡ option_map decided_value (choice_of o.node.attrs k)
  attrs n e o k = ap (λ (x : Entry). attr_of x.attrs k) (sym o.is) ∙ attrs_are o.node.attrs k

  some_back : {X Y : Type 0} (g : X → Y) (o : Option X) → IsSome (option_map g o) → IsSome o
  some_back g None h = absurd (let z = h in cc)
  some_back g (Some x) h = refl

  some_on : {X Y : Type 0} (g : X → Y) (o : Option X) → IsSome o → IsSome (option_map g o)
  some_on g None h = absurd (let z = h in cc)
  some_on g (Some x) h = refl

  comp_of : (s : Slot) (parent : NodeName) (name : List ℕ) → new_slot ds id s ≡ Below parent name → (p : NodeName) × (s ≡ Below p name)
  comp_of Root parent name g = absurd cc
  comp_of (Below p c) parent name g = (p, (let e : c ≡ name = cc in ap (Below p) e))

  spells : IsSpellable t
  spells = record {
    comps = λ n parent e name h is.
        let o = of n e h in
        let s = comp_of (decided_slot o.node.slot) parent name (ap (λ (x : Entry). x.slot) o.is ∙ is) in
        from.comps o.node.name s.0 o.node name o.there (slot_is m order tidy dirs o.node.name o.node o.there (Below s.0 name) s.1);
    keys = λ n e k h is.
        let o = of n e h in
        from.lawful_keys o.node.name o.node k o.there (some_back decided_value (choice_of o.node.attrs k) (subst IsSome (attrs n e o k) is));
  }

  a_side : (n : NodeName) (k : List ℕ) (e : Entry) (o : Of n e) → HasKey left n k ⊎ HasKey right n k → o.node.reborn ≡ false
  a_side n k e o = ⊎_elim (λ h. not_reborn left unborn_left n e h.0 o h.1) (λ h. not_reborn right unborn_right n e h.0 o h.1)

  cleared_key : (n : NodeName) (e : Entry) (k : List ℕ) (o : Of n e) → attr_of e.attrs k ≡ Some None → (b : Bool) → o.node.reborn ≡ b → HasKey left n k ⊎ HasKey right n k
  cleared_key n e k o h false r = (from.keys n o.node k (here n e o r) r).0 (some_back decided_value (choice_of o.node.attrs k) (subst IsSome (sym h ∙ attrs n e o k) refl))
  cleared_key n e k o h true r = go (choice_of o.node.attrs k) refl (sym (attrs n e o k) ∙ h)
    where
      go : (c : Option AttrChoice) → choice_of o.node.attrs k ≡ c → option_map decided_value c ≡ Some None → HasKey left n k ⊎ HasKey right n k
      go None g i = absurd cc
      go (Some c) g i =
          let gone : decided_value c ≡ None = cc in
          absurd (let z = subst IsSome gone (from.live_keys o.node.name o.node k c o.there r g) in cc)

  gone_node : (o : Option Entry) → o ≡ None → IsSome o → ⊥
  gone_node o e h = let z = subst IsSome e h in cc

  born_again : (n : NodeName) (e : Entry) (o : Of n e) → entry_of left n ≡ None → entry_of right n ≡ None → (b : Bool) → o.node.reborn ≡ b → n ≡ record { birth = id; path = path_of t e }
  born_again n e o nl nr true r =
      sym o.name ∙ reborn_name m id order tidy dirs fresh o.node r
      ∙ ap (λ p. record { birth = id; path = p }) (sym (path_kept m id order tidy dirs fresh o.node o.there) ∙ ap (path_of t) o.is)
  born_again n e o nl nr false r =
      absurd (⊎_elim (gone_node (entry_of left n) nl) (gone_node (entry_of right n) nr) (from.seen n o.node (here n e o r) r))

  pub merged : IsMerged left right id al ar t
  merged = record {
    sane = whole m id order tidy dirs fresh;
    spellable = spells;
    left_kinds = λ n e f h k.
        let o = of n f k in
        from.left_kind n o.node e (here n f o (not_reborn left unborn_left n f e o h)) h ∙ kind n f o;
    right_kinds = λ n e f h k.
        let o = of n f k in
        from.right_kind n o.node e (here n f o (not_reborn right unborn_right n f e o h)) h ∙ kind n f o;
    left_lives = λ n e f h k g.
        let o = of n e h in
        let r = not_reborn left unborn_left n e f o k in
        from.left_lives n o.node f (here n e o r) r k g;
    right_lives = λ n e f h k g.
        let o = of n e h in
        let r = not_reborn right unborn_right n e f o k in
        from.right_lives n o.node f (here n e o r) r k g;
    reborn = λ n e h k g. let o = of n e h in born_again n e o k g o.node.reborn refl;
    keys = λ n e k h has.
        let o = of n e h in
        let r = a_side n k e o has in
        subst IsSome (sym (attrs n e o k)) (some_on decided_value (choice_of o.node.attrs k) ((from.keys n o.node k (here n e o r) r).1 has));
    cleared = λ n e k h g. let o = of n e h in cleared_key n e k o g o.node.reborn refl;
  }
