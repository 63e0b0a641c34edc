-- The steps of acceptance.
use Rattle.std.specs.Prelude.{IsSome, Contains}
use Rattle.std.proofs.Common.{◌≡◌, ℕ, zero, suc, ◌<◌, List, [], ◌∷◌, length, get_or, Option, Some, None, refl, sym, ◌∙◌, ap, subst, inl, inr, arith}
use Rattle.mtn_base.specs.declared.id.Id.{Id}
use Rattle.mtn_changes.specs.declared.change.Change.{Change}
use Rattle.mtn_roster.specs.Tree.{Tree, IsSane}
use Rattle.mtn_changeset_laws.specs.Changes.{first_fault, tree_after}
use Rattle.mtn_changeset_laws.specs.Laws.{IsOldTree, RenamesDiffer, NoneBornIn, Descends, IsFresh}
use Rattle.mtn_history_laws.specs.History.{Revision, tree_at, entry_at, IsPlaceOf, BirthsAreKnown, IsStep}
use Rattle.mtn_changeset_laws.proofs.Passing.{passes}
use Rattle.mtn_changeset_laws.proofs.AfterSane.{once_of, forest_before, after_is_sane}
use Rattle.mtn_changeset_laws.proofs.Descending.{descends}

pub after_descends : (old : Tree) (all : List Change) (new : Id) → IsOldTree old → RenamesDiffer all → NoneBornIn old new → first_fault old all ≡ None → Descends old (tree_after old all new) new
after_descends old all new before once unborn fine = descends old all new (forest_before old before) (once_of all once) (passes old all fine) unborn

pub nothing_in : {X : Type 0} (x : X) → Contains [] x → ⊥
nothing_in x c = omega (arith, c.1)

pub only_in : {X : Type 0} (x y : X) → Contains (x ∷ []) y → y ≡ x
only_in x y c = go c.0 c.1 c.2
  where
    go : (k : ℕ) → k < length (x ∷ []) → get_or (x ∷ []) k y ≡ y → y ≡ x
    go zero h e = sym e
    go (suc k) h e = absurd (omega arith)

pub here_in : {X : Type 0} (x : X) (xs : List X) → Contains (x ∷ xs) x
here_in x xs = (0, omega arith, refl)

-- no node of a revision of the history is born in one that the history lacks
pub unborn_at : (log : List Revision) (p : ℕ) (id : Id) → BirthsAreKnown log → IsFresh log id → NoneBornIn (tree_at log p) id
unborn_at log p id births fresh n e h same =
    let b = births p n e h in
    fresh b.0 (subst (λ i. IsPlaceOf log i b.0) same b.1)

pub root_step : (log : List Revision) (all : List Change) (id : Id) → IsFresh log id → RenamesDiffer all → first_fault [] all ≡ None →
    IsStep log (record { id = id; parents = []; tree = tree_after [] all id })
root_step log all id fresh once fine =
    let unborn : NoneBornIn [] id = λ n e h same. cc in
    let d = after_descends [] all id (inl refl) once unborn fine in
    record {
      known = λ p c. absurd (nothing_in p c);
      two = omega arith;
      apart = λ p q e. absurd cc;
      fresh_id = fresh;
      sane = after_is_sane [] all id (inl refl) once unborn fine;
      from = λ n e h strange. absurd (let f = d.from n e h strange in cc);
      not_revived = λ p n e c. absurd (nothing_in p c);
      kind = λ p n e f c. absurd (nothing_in p c);
      keys = λ p n k e f c. absurd (nothing_in p c);
    }

pub none_there : {A : Type 0} (o : Option A) → IsSome o → o ≡ None → ⊥
none_there None h e = cc
none_there (Some a) h e = cc

pub one_step : (log : List Revision) (p : ℕ) (all : List Change) (id : Id) → BirthsAreKnown log → p < length log → IsSane (tree_at log p) →
    IsFresh log id → RenamesDiffer all → first_fault (tree_at log p) all ≡ None →
    IsStep log (record { id = id; parents = p ∷ []; tree = tree_after (tree_at log p) all id })
one_step log p all id births known sane fresh once fine =
    let unborn = unborn_at log p id births fresh in
    let d = after_descends (tree_at log p) all id (inr sane) once unborn fine in
    record {
      known = λ q c. subst (λ r. r < length log) (sym (only_in p q c)) known;
      two = omega arith;
      apart = λ q r e. absurd cc;
      fresh_id = fresh;
      sane = after_is_sane (tree_at log p) all id (inr sane) once unborn fine;
      from = λ n e h strange. (p, here_in p [], d.from n e h strange);
      not_revived = λ q n e c h strange lost b place above. none_there (entry_at log p n) (d.from n e h strange) (ap (λ r. entry_at log r n) (sym (only_in p q c)) ∙ lost);
      kind = λ q n e f c h k. d.kind n e f h (ap (λ r. entry_at log r n) (sym (only_in p q c)) ∙ k);
      keys = λ q n key e f c h k. d.keys n key e f h (ap (λ r. entry_at log r n) (sym (only_in p q c)) ∙ k);
    }
