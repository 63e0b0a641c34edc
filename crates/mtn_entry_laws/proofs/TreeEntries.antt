-- What changesets and joinings make of trees with lawful entries.
use Rattle.std.specs.Prelude.{All, IsSome, find, map, filter_map, reverse}
use Rattle.std.specs.Option.{option_map_or}
use Rattle.std.proofs.Common.{◌≡◌, ◌≤◌, length, ℕ, Bool, true, false, cond, List, [], ◌∷◌, ◌++◌, Option, Some, None, refl, sym, ◌∙◌, subst, ◌⊎◌, inl, inr, ⊎_elim}
use Rattle.std.proofs.lemmas.List.{reverse-append}
use Rattle.std.proofs.lemmas.List.Elements.{All-get_or}
use Rattle.mtn_base.specs.Comps.{IsComp, AreComps}
use Rattle.mtn_base.specs.Paths.{path_text}
use Rattle.mtn_base.specs.declared.limits.TheConstants.{MAX_TEXT}
use Rattle.mtn_base.specs.Names.{same_bytes, same_name}
use Rattle.mtn_base.specs.declared.id.Id.{Id}
use Rattle.mtn_base.specs.declared.name.NodeName.{NodeName}
use Rattle.mtn_base.proofs.PathLemmas.{AreComps-push}
use Rattle.mtn_changes.specs.declared.change.Change.{Change}
use Rattle.mtn_changes.specs.declared.change.Change.TheVariants.{Delete, Rename, AddDir, AddFile, Patch, Clear, Set}
use Rattle.mtn_changes.specs.Changes.{IsChange, IsKey}
use Rattle.mtn_roster.specs.declared.entry.Attr.{Attr}
use Rattle.mtn_roster.specs.declared.entry.Body.{Body}
use Rattle.mtn_roster.specs.declared.entry.Body.TheVariants.{Dir, File}
use Rattle.mtn_roster.specs.declared.entry.Entry.{Entry}
use Rattle.mtn_roster.specs.declared.entry.Slot.{Slot}
use Rattle.mtn_roster.specs.declared.entry.Slot.TheVariants.{Root, Below}
use Rattle.mtn_roster.specs.Tree.{Tree, entry_of, node_at, attr_of, with_attr, path_of, IsSane}
use Rattle.mtn_base.proofs.Finding.{Split, later, found}
use Rattle.mtn_base.proofs.Members.{head, of_append, of_filter_map}
use Rattle.mtn_base.proofs.Members.{place_of}
use Rattle.mtn_base.proofs.Tests.{same_bytes-is}
use Rattle.mtn_roster.proofs.Forest.{IsForest, node_there}
use Rattle.mtn_roster.proofs.Looking.{entry_of-in_order, attr_of-with_attr}
use Rattle.mtn_roster.proofs.Ordered.{forest_of}
use Rattle.mtn_changeset_laws.specs.Changes.{Occupant, occupant_name, occupant_up, is_at, is_deleted, moves, slot_up, slot_by, edited, edited_by, old_after, added_by, tree_after, or_else}
use Rattle.mtn_changeset_laws.specs.Joining.{counterpart, is_old, joined_name, joined_slot, joined_entry, other_attrs, joined}
use Rattle.mtn_changeset_laws.specs.Laws.{IsOldTree}
use Rattle.mtn_changeset_laws.proofs.AfterSane.{forest_before}
use Rattle.mtn_changeset_laws.proofs.Agreeing.{attr_of-joined}
use Rattle.mtn_changeset_laws.proofs.Joins.{of_map}
use Rattle.mtn_entry_laws.specs.Entries.{IsLawfulEntry, HasLawfulEntries, IsBounded}

-- a change that a text can have
abbrev pub CanStand : Change → Type 0
CanStand c = IsChange c × IsBounded c

abbrev HasComp : Slot → Type 0
HasComp s = (parent : NodeName) (name : List ℕ) → s ≡ Below parent name → IsComp name

abbrev HasKeys : List Attr → Type 0
HasKeys attrs = (k : List ℕ) → IsSome (attr_of attrs k) → IsKey k

abbrev HasValues : List Attr → Type 0
HasValues attrs = (k v : List ℕ) → attr_of attrs k ≡ Some (Some v) → length v ≤ MAX_TEXT

-- what is known of a birth
abbrev IsBirth : NodeName → Type 0
IsBirth n = AreComps n.path × (length (path_text n.path) ≤ MAX_TEXT)

root_fits : HasComp Root
root_fits parent name h = absurd cc

below_fits : (n : NodeName) (c : List ℕ) → IsComp c → HasComp (Below n c)
below_fits n c h parent name e = let same : c ≡ name = cc in subst IsComp same h

comps_back : (cs : List (List ℕ)) → AreComps cs → AreComps (reverse cs)
comps_back [] h = tt
comps_back (c ∷ cs) h = subst AreComps (sym (reverse-append (c ∷ []) cs)) (AreComps-push (reverse cs) c (comps_back cs h.1) h.0)

one_of : (P : Entry → Type 0) (b : Bool) (x y : Entry) → P x → P y → P (cond b x y)
one_of P true x y p q = p
one_of P false x y p q = q

keys_with : (a : Attr) (attrs : List Attr) → IsKey a.key → HasKeys attrs → HasKeys (with_attr a attrs)
keys_with a attrs key h k there = by (same_bytes a.key k) refl (subst IsSome (attr_of-with_attr a attrs k) there)
  where
    by : (b : Bool) → same_bytes a.key k ≡ b → IsSome (cond b (Some a.value) (attr_of attrs k)) → IsKey k
    by true e g = subst IsKey (same_bytes-is a.key k e) key
    by false e g = h k g

values_with : (a : Attr) (attrs : List Attr) → ((v : List ℕ) → a.value ≡ Some v → length v ≤ MAX_TEXT) → HasValues attrs → HasValues (with_attr a attrs)
values_with a attrs own h k v at = by (same_bytes a.key k) (sym (attr_of-with_attr a attrs k) ∙ at)
  where
    by : (b : Bool) → cond b (Some a.value) (attr_of attrs k) ≡ Some (Some v) → length v ≤ MAX_TEXT
    by true g = own v (inner a.value (Some v) g)
      where
        inner : (x y : Option (List ℕ)) → Some x ≡ Some y → x ≡ y
        inner x y e = cc
    by false g = h k v g

module _ (old : Tree) (all : List Change) (new : Id) (each : (c : Change) → Split all c → CanStand c) where
  fit_edit : (c : Change) (e : Entry) → CanStand c → IsLawfulEntry e → IsLawfulEntry (edited old all new c e)
  fit_edit (Delete p) e h f = f
  fit_edit (Rename p q) e h f = f
  fit_edit (AddDir p) e h f = f
  fit_edit (AddFile p content) e h f = f
  fit_edit (Patch p a b) e h f = one_of IsLawfulEntry (is_at old all new e.name p) (record e { body = File b }) e (record { slot = f.slot; birth = f.birth; short = f.short; keys = f.keys; values = f.values }) f
  fit_edit (Clear p k) e h f =
      one_of IsLawfulEntry (is_at old all new e.name p) (record e { attrs = with_attr (record { key = k; value = None }) e.attrs }) e
      (record {
        slot = f.slot;
        birth = f.birth;
        short = f.short;
        keys = keys_with (record { key = k; value = None }) e.attrs h.0.1 f.keys;
        values = values_with (record { key = k; value = None }) e.attrs (λ w is. absurd cc) f.values;
      }) f
  fit_edit (Set p k v) e h f =
      one_of IsLawfulEntry (is_at old all new e.name p) (record e { attrs = with_attr (record { key = k; value = Some v }) e.attrs }) e
      (record {
        slot = f.slot;
        birth = f.birth;
        short = f.short;
        keys = keys_with (record { key = k; value = Some v }) e.attrs h.0.1 f.keys;
        values = values_with (record { key = k; value = Some v }) e.attrs (λ w is. let same : v ≡ w = cc in subst (λ (bs : List ℕ). length bs ≤ MAX_TEXT) same h.1) f.values;
      }) f

  fit_edits : (cs : List Change) (e : Entry) → ((c : Change) → Split cs c → CanStand c) → IsLawfulEntry e → IsLawfulEntry (edited_by old all new cs e)
  fit_edits [] e h f = f
  fit_edits (c ∷ cs) e h f = fit_edits cs (edited old all new c e) (λ d s. h d (later c cs d s)) (fit_edit c e (h c (head c cs)) f)

  fit_up : (up : List (List ℕ)) → AreComps up → HasComp (slot_up old all new up)
  fit_up [] h = root_fits
  fit_up (name ∷ up) h = by (occupant_up old all up)
    where
      by : (o : Option Occupant) → HasComp (option_map_or (λ d. Below (occupant_name new d) name) o Root)
      by None = root_fits
      by (Some d) = below_fits (occupant_name new d) name h.0

  fit_slot : (s : Slot) (o : Option Change) → HasComp s → ((c : Change) → o ≡ Some c → CanStand c) → HasComp (slot_by old all new s o)
  fit_slot s None h lawful = h
  fit_slot s (Some (Delete p)) h lawful = h
  fit_slot s (Some (Rename p q)) h lawful = fit_up (reverse q) (comps_back q (lawful (Rename p q) refl).0.1)
  fit_slot s (Some (AddDir p)) h lawful = h
  fit_slot s (Some (AddFile p content)) h lawful = h
  fit_slot s (Some (Patch p a b)) h lawful = h
  fit_slot s (Some (Clear p k)) h lawful = h
  fit_slot s (Some (Set p k v)) h lawful = h

  fit_old : (e f : Entry) → IsLawfulEntry e → old_after old all new e ≡ Some f → IsLawfulEntry f
  fit_old e f h g = by (is_deleted old all e) g
    where
      fits : IsLawfulEntry (edited_by old all new all (record e { slot = slot_by old all new e.slot (find (moves old e) all) }))
      fits = fit_edits all _ each (record {
        slot = fit_slot e.slot (find (moves old e) all) h.slot (λ c k. each c (found (moves old e) all c k).at);
        birth = h.birth;
        short = h.short;
        keys = h.keys;
        values = h.values;
      })

      by : (b : Bool) → cond b None (Some (edited_by old all new all (record e { slot = slot_by old all new e.slot (find (moves old e) all) }))) ≡ Some f → IsLawfulEntry f
      by true k = absurd cc
      by false k =
          let is : edited_by old all new all (record e { slot = slot_by old all new e.slot (find (moves old e) all) }) ≡ f = cc in
          subst IsLawfulEntry is fits

  fit_added : (p : List (List ℕ)) (body : Body) (f : Entry) → AreComps p → length (path_text p) ≤ MAX_TEXT →
      edited_by old all new all (record { name = record { birth = new; path = p }; slot = slot_up old all new (reverse p); body = body; attrs = [] }) ≡ f → IsLawfulEntry f
  fit_added p body f h short is = subst IsLawfulEntry is (fit_edits all _ each (record {
    slot = fit_up (reverse p) (comps_back p h);
    birth = h;
    short = short;
    keys = λ k there. absurd (let z = there in cc);
    values = λ k v there. absurd (let z = there in cc);
  }))

  fit_new : (c : Change) (f : Entry) → CanStand c → added_by old all new c ≡ Some f → IsLawfulEntry f
  fit_new (Delete p) f h g = absurd cc
  fit_new (Rename p q) f h g = absurd cc
  fit_new (AddDir p) f h g = fit_added p Dir f h.0 h.1 cc
  fit_new (AddFile p content) f h g = fit_added p (File content) f h.0 h.1 cc
  fit_new (Patch p a b) f h g = absurd cc
  fit_new (Clear p k) f h g = absurd cc
  fit_new (Set p k v) f h g = absurd cc

  pub spell_after : IsForest old → HasLawfulEntries old → HasLawfulEntries (tree_after old all new)
  spell_after forest spell = fits
    where
      was : (e : Entry) → Split old e → IsLawfulEntry e
      was e s = spell e.name e (forest.distinct e s)

      of_listed : (e : Entry) → Split (filter_map (old_after old all new) old ++ filter_map (added_by old all new) all) e → IsLawfulEntry e
      of_listed e s = ⊎_elim
          (λ a. let r = of_filter_map (old_after old all new) old e a in fit_old r.0 e (was r.0 r.1) r.2)
          (λ b. let r = of_filter_map (added_by old all new) all e b in fit_new r.0 e (each r.0 r.1) r.2)
          (of_append (filter_map (old_after old all new) old) (filter_map (added_by old all new) all) e s)

      fits : (n : NodeName) (e : Entry) → entry_of (tree_after old all new) n ≡ Some e → IsLawfulEntry e
      fits n e h =
          of_listed e (found (λ (f : Entry). same_name f.name n) (filter_map (old_after old all new) old ++ filter_map (added_by old all new) all) e
          (sym (entry_of-in_order (filter_map (old_after old all new) old ++ filter_map (added_by old all new) all) n) ∙ h)).at

all_at_split : {X : Type 0} (P : X → Type 0) (xs : List X) → All P xs → (x : X) → Split xs x → P x
all_at_split P xs h x s = let q = place_of xs x s in subst P (q.2 x) (All-get_or P xs q.0 x q.1 h)

pub after_spells : (old : Tree) (all : List Change) (new : Id) → IsOldTree old → HasLawfulEntries old → All IsChange all → All IsBounded all → HasLawfulEntries (tree_after old all new)
after_spells old all new before spell lawful short = spell_after old all new (λ c s. (all_at_split IsChange all lawful c s, all_at_split IsBounded all short c s)) (forest_before old before) spell

pub nothing_spells : HasLawfulEntries []
nothing_spells n e h = absurd cc

pub joined_spells : (l r : Tree) (new : Id) → IsSane l → IsSane r → HasLawfulEntries l → HasLawfulEntries r → HasLawfulEntries (joined l r new)
joined_spells l r new sl sr spell_left spell_right = fits
  where
    fit_joined : (s : Slot) → HasComp s → HasComp (joined_slot l r new s)
    fit_joined Root h = root_fits
    fit_joined (Below parent name) h =
        below_fits (option_map_or (λ (d : Entry). joined_name new d (counterpart l r d)) (entry_of l parent) parent) name (h parent name refl)

    keys_other : (p : List (List ℕ)) (o : Option Entry) → node_at r p ≡ o → HasKeys (other_attrs o)
    keys_other p None h k there = absurd (let z = there in cc)
    keys_other p (Some y) h k there = (spell_right y.name y (node_there r (forest_of r sr) (reverse p) y h)).keys k there

    values_other : (p : List (List ℕ)) (o : Option Entry) → node_at r p ≡ o → HasValues (other_attrs o)
    values_other p None h k v there = absurd (let z = there in cc)
    values_other p (Some y) h k v there = (spell_right y.name y (node_there r (forest_of r sr) (reverse p) y h)).values k v there

    left_birth : (x : Entry) → entry_of l x.name ≡ Some x → IsBirth x.name
    left_birth x h = let s = spell_left x.name x h in (s.birth, s.short)

    -- it is born as one of the two
    birth_of : (x : Entry) → entry_of l x.name ≡ Some x → (p : List (List ℕ)) (o : Option Entry) → node_at r p ≡ o → IsBirth (joined_name new x o)
    birth_of x h p None there = left_birth x h
    birth_of x h p (Some y) there = by (is_old new x)
      where
        by : (b : Bool) → IsBirth (cond b x.name y.name)
        by true = left_birth x h
        by false = let s = spell_right y.name y (node_there r (forest_of r sr) (reverse p) y there) in (s.birth, s.short)

    either_key : (a b : Option (Option (List ℕ))) → IsSome (or_else a b) → IsSome a ⊎ IsSome b
    either_key None b h = inr h
    either_key (Some v) b h = inl refl

    either_value : (a b : Option (Option (List ℕ))) (v : List ℕ) → or_else a b ≡ Some (Some v) → (a ≡ Some (Some v)) ⊎ (b ≡ Some (Some v))
    either_value None b v h = inr h
    either_value (Some w) b v h = inl h

    fit_entry : (x : Entry) → entry_of l x.name ≡ Some x → IsLawfulEntry (joined_entry l r new x)
    fit_entry x h = record {
      slot = fit_joined x.slot (spell_left x.name x h).slot;
      birth = (birth_of x h (path_of l x) (node_at r (path_of l x)) refl).0;
      short = (birth_of x h (path_of l x) (node_at r (path_of l x)) refl).1;
      keys = λ k there. ⊎_elim
          (λ a. (spell_left x.name x h).keys k a)
          (λ b. keys_other (path_of l x) (node_at r (path_of l x)) refl k b)
          (either_key (attr_of x.attrs k) (attr_of (other_attrs (node_at r (path_of l x))) k) (subst IsSome (attr_of-joined (other_attrs (node_at r (path_of l x))) x.attrs k) there));
      values = λ k v there. ⊎_elim
          (λ a. (spell_left x.name x h).values k v a)
          (λ b. values_other (path_of l x) (node_at r (path_of l x)) refl k v b)
          (either_value (attr_of x.attrs k) (attr_of (other_attrs (node_at r (path_of l x))) k) v (sym (attr_of-joined (other_attrs (node_at r (path_of l x))) x.attrs k) ∙ there));
    }

    fits : (n : NodeName) (e : Entry) → entry_of (joined l r new) n ≡ Some e → IsLawfulEntry e
    fits n e h =
        let f = found (λ (e : Entry). same_name e.name n) (map (joined_entry l r new) l) e (sym (entry_of-in_order (map (joined_entry l r new) l) n) ∙ h) in
        let m = of_map (joined_entry l r new) l e f.at in
        subst IsLawfulEntry m.2 (fit_entry m.0 ((forest_of l sl).distinct m.0 m.1))
