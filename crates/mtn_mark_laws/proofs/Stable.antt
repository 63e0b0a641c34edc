-- What two histories agree on below n, they agree on in everything that is defined from it.
use Rattle.std.specs.Prelude.{Contains, slice_get}
use Rattle.std.proofs.Common.{◌≡◌, ℕ, zero, suc, ◌<◌, ◌≤◌, List, [], ◌∷◌, ◌++◌, length, Option, Some, None, refl, sym, ◌∙◌, ap, arith, subst}
use Rattle.mtn_ancestry.specs.Ancestors.{IsAncestor, ParentsAreEarlier}
use Rattle.mtn_mark_laws.specs.Marks.{IsMarked, IsMarkOf}
use Rattle.mtn_ancestry.specs.Ancestors.IsAncestor.{itself, through}
use Rattle.mtn_mark_laws.specs.Marks.IsMarked.{fresh, changed, chosen}
use Rattle.mtn_mark_laws.specs.Marks.IsMarkOf.{here, onward}
use Rattle.std.proofs.Math.Decide.{dec_lt}
use Rattle.mtn_ancestry.proofs.Members.{Contains-nil}
use Rattle.mtn_ancestry.proofs.Ancestry.{IsAncestor-le}
use Rattle.mtn_mark_laws.specs.Rule.{Side, IsSideAt, AreUncommon}
use Rattle.mtn_mark_laws.specs.ScalarLog.{Entry, parents_of, value_of, entry_parents, entry_value}

pub record Agree (V : Type 0) (n : ℕ) (ps ps' : ℕ → List ℕ) (val val' : ℕ → Option V) : Type 0 where
  pub same_parents : (r : ℕ) → r < n → ps r ≡ ps' r
  pub same_value : (r : ℕ) → r < n → val r ≡ val' r
  pub early : ParentsAreEarlier ps
  pub early' : ParentsAreEarlier ps'

pub turned : {V : Type 0} {n : ℕ} {ps ps' : ℕ → List ℕ} {val val' : ℕ → Option V} → Agree V n ps ps' val val' → Agree V n ps' ps val' val
turned g = record { same_parents = λ r h. sym (g.same_parents r h); same_value = λ r h. sym (g.same_value r h); early = g.early'; early' = g.early }

parent_kept : {V : Type 0} {n : ℕ} {ps ps' : ℕ → List ℕ} {val val' : ℕ → Option V} → Agree V n ps ps' val val' →
    {r p : ℕ} → r < n → Contains (ps r) p → Contains (ps' r) p
parent_kept g {r} {p} h c = subst (λ l. Contains l p) (g.same_parents r h) c

pub IsAncestor-kept : {V : Type 0} {n : ℕ} {ps ps' : ℕ → List ℕ} {val val' : ℕ → Option V} → Agree V n ps ps' val val' →
    {x r : ℕ} → r < n → IsAncestor ps x r → IsAncestor ps' x r
IsAncestor-kept g h itself = itself
IsAncestor-kept g h (through c a) = through (parent_kept g h c) (IsAncestor-kept g (omega (arith, g.early _ _ c)) a)

pub IsMarked-kept : {V : Type 0} {n : ℕ} {ps ps' : ℕ → List ℕ} {val val' : ℕ → Option V} → Agree V n ps ps' val val' →
    {r : ℕ} → r < n → IsMarked V ps val r → IsMarked V ps' val' r
IsMarked-kept g {r} h (fresh e k) =
    fresh (sym (g.same_value r h) ∙ e) (λ p c.
    let c' = parent_kept (turned g) h c in sym (g.same_value p (omega (arith, g.early _ _ c'))) ∙ k p c')
IsMarked-kept g {r} h (changed e k) =
    changed (sym (g.same_value r h) ∙ e) (λ p w c f.
    let c' = parent_kept (turned g) h c in k p w c' (g.same_value p (omega (arith, g.early _ _ c')) ∙ f))
IsMarked-kept g {r} h (chosen {p = p} {q = q} {m = m} e cp cq eq ep ne a b k) =
    let lp : p < r = g.early _ _ cp in
    let lq : q < r = g.early _ _ cq in
    let lm : m ≤ p = IsAncestor-le g.early a in
    chosen (sym (g.same_value r h) ∙ e) (parent_kept g h cp) (parent_kept g h cq)
    (sym (g.same_value q (omega arith)) ∙ eq) (sym (g.same_value p (omega arith)) ∙ ep) ne
    (IsAncestor-kept g (omega arith) a) (λ b'. b (IsAncestor-kept (turned g) (omega arith) b')) (IsMarked-kept g (omega arith) k)

pub IsMarkOf-kept : {V : Type 0} {n : ℕ} {ps ps' : ℕ → List ℕ} {val val' : ℕ → Option V} → Agree V n ps ps' val val' →
    {r x : ℕ} → r < n → IsMarkOf V ps val r x → IsMarkOf V ps' val' r x
IsMarkOf-kept g h (here k) = here (IsMarked-kept g h k)
IsMarkOf-kept g {r} h (onward {p = p} not c e m) =
    let lp : p < r = g.early _ _ c in
    onward (λ k. not (IsMarked-kept (turned g) h k)) (parent_kept g h c)
    (sym (g.same_value p (omega arith)) ∙ (e ∙ g.same_value r h)) (IsMarkOf-kept g (omega arith) m)

pub IsSideAt-kept : {V : Type 0} {n : ℕ} {ps ps' : ℕ → List ℕ} {val val' : ℕ → Option V} → Agree V n ps ps' val val' →
    (p : ℕ) (o : Option (Side V)) → p < n → IsSideAt V ps val p o → IsSideAt V ps' val' p o
IsSideAt-kept g p None h e = sym (g.same_value p h) ∙ e
IsSideAt-kept g p (Some s) h t =
    (sym (g.same_value p h) ∙ t.0, λ x. (λ c. IsMarkOf-kept g h ((t.1 x).0 c), λ m. (t.1 x).1 (IsMarkOf-kept (turned g) h m)))

pub AreUncommon-kept : {V : Type 0} {n : ℕ} {ps ps' : ℕ → List ℕ} {val val' : ℕ → Option V} → Agree V n ps ps' val val' →
    (a b : ℕ) (only : List ℕ) → a < n → b < n → AreUncommon ps a b only → AreUncommon ps' a b only
AreUncommon-kept g a b only ha hb t x = (
  λ c. let u = (t x).0 c in (IsAncestor-kept g ha u.0, λ k. u.1 (IsAncestor-kept (turned g) hb k)),
  λ u. (t x).1 (IsAncestor-kept (turned g) ha u.0, λ k. u.1 (IsAncestor-kept g hb k)),
)

-- a longer log has the old entries where they were
pub get_kept : {X : Type 0} (xs ys : List X) (r : ℕ) → r < length xs → slice_get (xs ++ ys) r ≡ slice_get xs r
get_kept [] ys r h = absurd (omega arith)
get_kept (x ∷ xs) ys zero h = refl
get_kept (x ∷ xs) ys (suc r) h = get_kept xs ys r (omega arith)

pub get_last : {X : Type 0} (xs : List X) (y : X) → slice_get (xs ++ y ∷ []) (length xs) ≡ Some y
get_last [] y = refl
get_last (x ∷ xs) y = get_last xs y

pub get_past : {X : Type 0} (xs : List X) (r : ℕ) → length xs ≤ r → slice_get xs r ≡ None
get_past [] r h = refl
get_past (x ∷ xs) zero h = absurd (omega arith)
get_past (x ∷ xs) (suc r) h = get_past xs r (omega arith)

pub early_by : {E : Type 0} (f : Option E → List ℕ) → f None ≡ [] → (log more : List E) →
    ParentsAreEarlier (λ r. f (slice_get (log ++ more) r)) → ParentsAreEarlier (λ r. f (slice_get log r))
early_by f none log more early r p c =
    elim (dec_lt r (length log)) [
      | yes h ↦ early r p (subst (λ o. Contains (f o) p) (sym (get_kept log more r h)) c)
      | no n ↦ absurd (Contains-nil (subst (λ l. Contains l p) (ap f (get_past log r (omega arith)) ∙ none) c))
    ]

pub log_agrees : {V : Type 0} (log more : List (Entry V)) → ParentsAreEarlier (parents_of (log ++ more)) →
    Agree V (length log) (parents_of log) (parents_of (log ++ more)) (value_of log) (value_of (log ++ more))
log_agrees log more early = record {
  same_parents = λ r h. ap entry_parents (sym (get_kept log more r h));
  same_value = λ r h. ap entry_value (sym (get_kept log more r h));
  early = early_by entry_parents refl log more early;
  early' = early;
}
