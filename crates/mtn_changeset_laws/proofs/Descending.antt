-- Nodes keep their kinds and their keys.
use Rattle.std.specs.Prelude.{IsSome}
use Rattle.std.proofs.Common.{◌≡◌, ◌≢◌, ℕ, Bool, true, false, cond, List, [], ◌∷◌, Some, refl, sym, ◌∙◌, ap, subst}
use Rattle.mtn_base.specs.declared.id.Id.{Id}
use Rattle.mtn_base.specs.declared.name.NodeName.{NodeName}
use Rattle.mtn_roster.specs.declared.entry.Entry.{Entry}
use Rattle.mtn_roster.specs.declared.entry.Attr.{Attr}
use Rattle.mtn_roster.specs.declared.entry.Body.TheVariants.{File}
use Rattle.mtn_changes.specs.declared.change.Change.{Change}
use Rattle.mtn_changes.specs.declared.change.Change.TheVariants.{Delete, Rename, AddDir, AddFile, Patch, Clear, Set}
use Rattle.mtn_roster.specs.Tree.{Tree, entry_of, attr_of, with_attr, is_dir}
use Rattle.mtn_changeset_laws.specs.Changes.{Occupant, occupant_name, is_at, edited, edited_by, tree_after}
use Rattle.mtn_changeset_laws.specs.Changes.Occupant.{Old, Added}
use Rattle.mtn_changeset_laws.specs.Laws.{NoneBornIn, Descends}
use Rattle.mtn_changeset_laws.proofs.Passing.{Passes}
use Rattle.mtn_roster.proofs.Forest.{IsForest, same_some}
use Rattle.mtn_roster.proofs.Looking.{keeps_key}
use Rattle.mtn_changeset_laws.proofs.Occupying.{RenamesOnce, IsPresent}
use Rattle.mtn_changeset_laws.proofs.Occupying.IsPresent.{old_one}
use Rattle.mtn_changeset_laws.proofs.After.{IsOne, after_only, after-kind, entry_after}

abbrev HasKey : List ℕ → Entry → Type 0
HasKey k e = IsSome (attr_of e.attrs k)

module _ (old : Tree) (all : List Change) (new : Id) (k : List ℕ) where
  if_edited : (b : Bool) (e : Entry) (a : Attr) → HasKey k e → HasKey k (cond b (record e { attrs = with_attr a e.attrs }) e)
  if_edited true e a h = keeps_key a e.attrs k h
  if_edited false e a h = h

  if_patched : (b : Bool) (e : Entry) (c : Id) → HasKey k e → HasKey k (cond b (record e { body = File c }) e)
  if_patched true e c h = h
  if_patched false e c h = h

  edited_keeps : (c : Change) (e : Entry) → HasKey k e → HasKey k (edited old all new c e)
  edited_keeps (Delete p) e h = h
  edited_keeps (Rename p q) e h = h
  edited_keeps (AddDir p) e h = h
  edited_keeps (AddFile p c) e h = h
  edited_keeps (Patch p a b) e h = if_patched (is_at old all new e.name p) e b h
  edited_keeps (Clear p key) e h = if_edited (is_at old all new e.name p) e _ h
  edited_keeps (Set p key v) e h = if_edited (is_at old all new e.name p) e _ h

  pub edited_by_keeps : (cs : List Change) (e : Entry) → HasKey k e → HasKey k (edited_by old all new cs e)
  edited_by_keeps [] e h = h
  edited_by_keeps (c ∷ cs) e h = edited_by_keeps cs (edited old all new c e) (edited_keeps c e h)

module _ (old : Tree) (all : List Change) (new : Id) (o : IsForest old) (once : RenamesOnce all) (ok : Passes old all) (unborn : NoneBornIn old new) where
  -- a node of both trees is an old one that is present
  record IsBoth (n : NodeName) (e f : Entry) : Type 0 where
    present : IsPresent old o all new (Old f)
    is : entry_after old all new o once ok unborn (Old f) ≡ e

  both : (n : NodeName) (e f : Entry) → entry_of (tree_after old all new) n ≡ Some e → entry_of old n ≡ Some f → IsBoth n e f
  both n e f h k = at i.node i.present i.is i.name
    where
      i : IsOne old all new o once ok unborn n e
      i = after_only old all new o once ok unborn n e h

      at : (x : Occupant) → IsPresent old o all new x → entry_after old all new o once ok unborn x ≡ e → occupant_name new x ≡ n → IsBoth n e f
      at (Old g) (old_one tg dg) is name =
          let same : g ≡ f = same_some tg (subst (λ m. entry_of old m ≡ Some f) (sym name) k) in
          record { present = subst (λ x. IsPresent old o all new (Old x)) same (old_one tg dg); is = ap (λ x. entry_after old all new o once ok unborn (Old x)) (sym same) ∙ is }
      at (Added p b) here is name = absurd (unborn n f k (ap (λ (m : NodeName). m.birth) (sym name)))

  pub descends : Descends old (tree_after old all new) new
  descends = record {
    from = λ n e h strange. from n e h strange (after_only old all new o once ok unborn n e h);
    kind = λ n e f h k. let b = both n e f h k in ap is_dir (sym b.is) ∙ after-kind old all new o once ok unborn (Old f) b.present;
    keys = λ n key e f h k there. let b = both n e f h k in subst (HasKey key) b.is (edited_by_keeps old all new key all _ there);
  }
    where
      found_in : (n : NodeName) (x : Occupant) → IsPresent old o all new x → occupant_name new x ≡ n → n.birth ≢ new → IsSome (entry_of old n)
      found_in n (Old e) (old_one te de) name strange = subst IsSome (sym (subst (λ m. entry_of old m ≡ Some e) name te)) refl
      found_in n (Added p b) here name strange = absurd (strange (ap (λ (m : NodeName). m.birth) (sym name)))

      from : (n : NodeName) (e : Entry) → entry_of (tree_after old all new) n ≡ Some e → n.birth ≢ new → IsOne old all new o once ok unborn n e → IsSome (entry_of old n)
      from n e h strange i = found_in n i.node i.present i.name strange
