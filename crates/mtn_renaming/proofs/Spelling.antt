-- Two logs with the same pairs spell one history but for the order of its revisions.
use Rattle.std.specs.Prelude.{find, is_none, option_map, slice_get, unwrap_or}
use Rattle.std.specs.List.{cons_option, filter_map}
use Rattle.std.specs.Option.{option_map_or}
use Rattle.std.proofs.Common.{◌≡◌, ◌<◌, ◌≤◌, ℕ, Bool, List, [], ◌∷◌, length, take, Option, Some, None, refl, sym, ap, ◌∙◌, subst, arith}
use Rattle.mtn_ancestry.proofs.Members.{by_position}
use Rattle.mtn_base.specs.Hex.{id_of}
use Rattle.mtn_base.specs.declared.id.Id.{Id}
use Rattle.mtn_changes.specs.declared.change.Edge.{Edge}
use Rattle.mtn_changes.specs.declared.change.Revision.{Revision as Spelled}
use Rattle.mtn_changes.proofs.OneValue.{same_revision}
use Rattle.mtn_history_laws.specs.History.{Revision, revision_tree, tree_at, IsPlaceOf}
use Rattle.mtn_replay.specs.Lawful.{IsHistory, IsNext}
use Rattle.mtn_replay.specs.Making.{made, place_of}
use Rattle.mtn_replay.proofs.Histories.{history_is_grown}
use Rattle.mtn_replay.proofs.Places.{inside, no_place, place_has, within}
use Rattle.mtn_replay.proofs.Steps.{both_none, first_fails, is_there, unmapped}
use Rattle.mtn_mark_laws.proofs.Stable.{get_past}
use Rattle.mtn_model.specs.State.{Logged}
use Rattle.mtn_model.specs.Table.{Table}
use Rattle.mtn_renaming.specs.Order.{HaveSameTexts, HasTexts}
use Rattle.mtn_renaming.specs.Renaming.{elsewhere, moved, IsPart, IsRenaming}
use Rattle.mtn_renaming.proofs.Counting.{no_more}
use Rattle.mtn_renaming.proofs.Elements.{at_contains, contains_at, front_at, past_end}
use Rattle.mtn_renaming.proofs.Moving.{made_alike, AreAlike, IsAlike}

-- no id stands twice
abbrev pub IdsDiffer : List Revision → Type 0
IdsDiffer h = (id : Id) (b c : ℕ) → IsPlaceOf h id b → IsPlaceOf h id c → b ≡ c

pub place_is : (h : List Revision) → IdsDiffer h → (id : Id) (b : ℕ) → IsPlaceOf h id b → place_of h id ≡ Some b
place_is h differ id b at = by (place_of h id) refl
  where
    by : (o : Option ℕ) → place_of h id ≡ o → place_of h id ≡ Some b
    by None none = absurd (no_place h id none b at)
    by (Some c) some = some ∙ ap Some (differ id c b (place_has h id c some) at)

goes : (h g : List Revision) → IdsDiffer g → (r : ℕ) (v : Revision) (j : ℕ) → slice_get h r ≡ Some v → IsPlaceOf g v.id j → elsewhere h g r ≡ j
goes h g differ r v j at is = ap (λ o. option_map_or (λ (x : Revision). unwrap_or (place_of g x.id) r) o r) at ∙ ap (λ o. unwrap_or o r) (place_is g differ v.id j is)

stays : (h g : List Revision) (r : ℕ) → slice_get h r ≡ None → elsewhere h g r ≡ r
stays h g r none = ap (λ o. option_map_or (λ (x : Revision). unwrap_or (place_of g x.id) r) o r) none

-- a parent that is named is held
pub data Held (h : List Revision) : Option Id → Type 0 where
  unnamed : Held h None
  held : {id : Id} (p : ℕ) → place_of h id ≡ Some p → Held h (Some id)

abbrev pub AreHeld : List Revision → List Edge → Type 0
AreHeld h [] = Unit {0}
AreHeld h (e ∷ es) = Held h e.parent × AreHeld h es

abbrev pub unheld : List Revision → Id → Bool
unheld h id = is_none (place_of h id)

first_held : (h : List Revision) (parent : Option Id) (rest : List Id) → find (unheld h) (cons_option parent rest) ≡ None → Held h parent × (find (unheld h) rest ≡ None)
first_held h None rest e = (unnamed, e)
first_held h (Some id) rest e = let f = first_fails (unheld h) id rest e in let p = is_there (place_of h id) f.0 in (held p.0 p.1, f.1)

pub all_held : (h : List Revision) (edges : List Edge) → find (unheld h) (filter_map (λ (e : Edge). e.parent) edges) ≡ None → AreHeld h edges
all_held h [] none = tt
all_held h (e ∷ es) none = let first = first_held h e.parent (filter_map (λ (x : Edge). x.parent) es) none in (first.0, all_held h es first.1)

-- the text that a revision is made of
module _ (f : List ℕ → List ℕ) (files : Table) (a : List Logged) (h : List Revision) (is : IsHistory f files a h) where
  pub text_at : (r : ℕ) (v : Revision) → slice_get h r ≡ Some v → (l : Logged) × (slice_get a r ≡ Some l) × IsNext f files (take r h) l v
  text_at r v at =
      let l = within a r (subst (λ n. r < n) is.long (inside h r v at)) in
      (l.0, l.1, is.each r l.0 v l.1 at)

  pub revision_at : (r : ℕ) (l : Logged) → slice_get a r ≡ Some l → (v : Revision) × (slice_get h r ≡ Some v) × IsNext f files (take r h) l v
  revision_at r l at =
      let v = within h r (subst (λ n. r < n) (sym is.long) (inside a r l at)) in
      (v.0, v.1, is.each r l v.0 at v.1)

  pub ids_differ : IdsDiffer h
  ids_differ = let grown = history_is_grown f files a h is in grown.differ

pub named : (f : List ℕ → List ℕ) (files : Table) (h : List Revision) (l : Logged) (v : Revision) → IsNext f files h l v → v.id ≡ id_of l.id
named f files h l v next = ap (λ (x : Revision). x.id) next.made

held_parents : (f : List ℕ → List ℕ) (files : Table) (h : List Revision) (l : Logged) (v : Revision) (next : IsNext f files h l v) → AreHeld h next.read.edges
held_parents f files h l v next = all_held h next.read.edges (unmapped _ _ (both_none _ _ (both_none _ _ next.accepted).1).0)

module _ (f : List ℕ → List ℕ) (files : Table) (a b : List Logged) (h g : List Revision) (has : HasTexts a b) (ih : IsHistory f files a h) (ig : IsHistory f files b g) where
  abbrev to : ℕ → ℕ
  to = elsewhere h g

  -- the revision at r has moved
  abbrev IsThere : ℕ → Type 0
  IsThere r = (v : Revision) → slice_get h r ≡ Some v → slice_get g (to r) ≡ Some (moved to v)

  alike : (r j : ℕ) → ((p : ℕ) → p < r → IsThere p) → (parent : Option Id) → Held (take r h) parent → Held (take j g) parent → IsAlike (take r h) (take j g) to parent
  alike r j before None one other = record { place = refl; tree = refl }
  alike r j before (Some id) (held p is) (held q also) =
      let x = place_has (take r h) id p is in
      let y = place_has (take j g) id q also in
      let fx = front_at h r p x.0 x.1 in
      let fy = front_at g j q y.0 y.1 in
      let there : to p ≡ q = goes h g (ids_differ f files b g ig) p x.0 q fx.1 (y.0, fy.1, y.2 ∙ sym x.2) in
      let moves : Some (moved to x.0) ≡ Some y.0 = sym (before p fx.0 x.0 fx.1) ∙ ap (slice_get g) there ∙ fy.1 in
      record {
        place = also ∙ ap Some (sym there) ∙ ap (option_map to) (sym is);
        tree = ap (λ o. option_map_or (tree_at (take j g)) o []) also ∙ ap revision_tree y.1 ∙ sym (ap revision_tree moves) ∙ sym (ap revision_tree x.1) ∙ sym (ap (λ o. option_map_or (tree_at (take r h)) o []) is);
      }

  all_alike : (r j : ℕ) → ((p : ℕ) → p < r → IsThere p) → (edges : List Edge) → AreHeld (take r h) edges → AreHeld (take j g) edges → AreAlike (take r h) (take j g) to edges
  all_alike r j before [] one other = tt
  all_alike r j before (e ∷ es) one other = (alike r j before e.parent one.0 other.0, all_alike r j before es one.1 other.1)

  step : (r : ℕ) → ((p : ℕ) → p < r → IsThere p) → IsThere r
  step r before v at =
      let n = text_at f files a h ih r v at in
      let l = n.0 in
      let j = at_contains b l (has l (contains_at a r l n.1)) in
      let m = revision_at f files b g ig j.0 l j.1 in
      let new = id_of l.id in
      let read : m.2.read ≡ n.2.read = same_revision l.text m.2.read n.2.read m.2.spells.stanzas n.2.spells.stanzas m.2.spells.reads n.2.spells.reads in
      let known = all_alike r j.0 before n.2.read.edges (held_parents f files (take r h) l v n.2)
      (subst (λ (s : Spelled). AreHeld (take j.0 g) s.edges) read (held_parents f files (take j.0 g) l m.0 m.2)) in
      let moves : m.0 ≡ moved to v = m.2.made ∙ ap (λ (s : Spelled). made (take j.0 g) new s.edges) read ∙ made_alike (take r h) (take j.0 g) to new n.2.read.edges known ∙ ap (moved to) (sym n.2.made) in
      let there : to r ≡ j.0 = goes h g (ids_differ f files b g ig) r v j.0 at (m.0, m.1, named f files (take j.0 g) l m.0 m.2 ∙ sym (named f files (take r h) l v n.2)) in
      ap (slice_get g) there ∙ m.1 ∙ ap Some moves

  -- a log whose texts are in another spells a part of its history
  pub moved_there : IsPart h g to
  moved_there r = by_position IsThere step r

  no_longer : length h ≤ length g
  no_longer = no_more (length h) (length g) to
      (λ k lt. let v = within h k lt in inside g (to k) (moved to v.0) (moved_there k v.0 v.1))
      (λ j k lj lk e.
      let v = within h j lj in
      let w = within h k lk in
      let both : Some (moved to v.0) ≡ Some (moved to w.0) = sym (moved_there j v.0 v.1) ∙ ap (slice_get g) e ∙ moved_there k w.0 w.1 in
      let one : moved to v.0 ≡ moved to w.0 = cc in
      ids_differ f files a h ih v.0.id j k (v.0, v.1, refl) (w.0, w.1, sym (ap (λ (x : Revision). x.id) one)))

  -- a revision that has moved comes back
  returns : (r : ℕ) (o : Option Revision) → slice_get h r ≡ o → length g ≤ length h → elsewhere g h (to r) ≡ r
  returns r None none le =
      let end = past_end h r none in
      ap (elsewhere g h) (stays h g r none) ∙ stays g h r (get_past g r (omega (arith, le, end)))
  returns r (Some v) some le = goes g h (ids_differ f files a h ih) (to r) (moved to v) r (moved_there r v some) (v, some, refl)

  at_each : (r : ℕ) (o : Option Revision) → slice_get h r ≡ o → length g ≤ length h → slice_get g (to r) ≡ option_map (moved to) o
  at_each r None none le =
      let end = past_end h r none in
      ap (slice_get g) (stays h g r none) ∙ get_past g r (omega (arith, le, end))
  at_each r (Some v) some le = moved_there r v some

-- the histories of two logs with the same pairs are one but for their order
pub same_history : (f : List ℕ → List ℕ) (files : Table) (a b : List Logged) (h g : List Revision) → HaveSameTexts a b → IsHistory f files a h → IsHistory f files b g →
    IsRenaming h g (elsewhere h g) (elsewhere g h)
same_history f files a b h g same ih ig =
    let has : HasTexts a b = λ l. (same l).0 in
    let turn : HasTexts b a = λ l. (same l).1 in
    let down = no_longer f files b a g h turn ig ih in
    let up = no_longer f files a b h g has ih ig in
    record {
      revision = λ r. at_each f files a b h g has ih ig r (slice_get h r) refl down;
      there = λ r. returns f files a b h g has ih ig r (slice_get h r) refl down;
      here = λ r. returns f files b a g h turn ig ih r (slice_get g r) refl up;
      once = ids_differ f files a h ih;
    }
