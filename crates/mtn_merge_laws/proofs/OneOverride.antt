-- The first resolution that does not fit is one.
use Rattle.std.specs.List.{AllByRecursion}
use Rattle.std.proofs.Common.{◌≡◌, ◌≢◌, ◌+◌, ℕ, List, [], ◌∷◌, ◌++◌, length, Option, Some, None, refl, sym, ap, ◌∙◌}
use Rattle.std.proofs.lemmas.Option.{same_Some}
use Rattle.mtn_base.proofs.Sorting.{rec_at}
use Rattle.mtn_decide.specs.Decisions.{Merge}
use Rattle.mtn_conflicts.specs.declared.lists.Conflicts.{Conflicts}
use Rattle.mtn_resolve.specs.declared.resolution.Resolution.{Resolution}
use Rattle.mtn_resolve.specs.declared.fault.Fault.{Fault}
use Rattle.mtn_resolve.specs.declared.fault.Fault.TheVariants as one
use Rattle.mtn_resolve.specs.declared.error.OverrideError.{OverrideError}
use Rattle.mtn_resolve.specs.declared.error.OverrideError.TheVariants.{UnknownNode, NotADirectory, NotAConflict, NoMemory}
use Rattle.mtn_resolve.specs.Faults.{fault_of, AreFitting, IsFaultAt, IsOverrideFault, numbered_of}

module _ {X Y : Type 0} (f : X → Option Y) where
  abbrev Passes : X → Type 0
  Passes x = f x ≡ None

  record SameFront (as' bs : List X) (x y : X) : Type 0 where
    before : as' ≡ bs
    element : x ≡ y

  one_front : (as' bs xs ys : List X) (x y : X) (v w : Y) → AllByRecursion Passes as' → AllByRecursion Passes bs → as' ++ x ∷ xs ≡ bs ++ y ∷ ys → f x ≡ Some v → f y ≡ Some w → SameFront as' bs x y
  one_front [] [] xs ys x y v w a b e p q = record { before = refl; element = (let g : x ≡ y = cc in g) }
  one_front [] (z ∷ bs) xs ys x y v w a b e p q = absurd (let g : x ≡ z = cc in let r = ap f g in let s = b.0 in cc)
  one_front (z ∷ as') [] xs ys x y v w a b e p q = absurd (let g : z ≡ y = cc in let r = ap f g in let s = a.0 in cc)
  one_front (z ∷ as') (u ∷ bs) xs ys x y v w a b e p q =
      let head : z ≡ u = cc in
      let tail : as' ++ x ∷ xs ≡ bs ++ y ∷ ys = cc in
      let r = one_front as' bs xs ys x y v w a.1 b.1 tail p q in
      record { before = (λ i. head i ∷ r.before i); element = r.element }

module _ (m : Merge) (c : Conflicts) (rs : List Resolution) where
  record IsTold (e : OverrideError) : Type 0 where
    why : Fault
    number : ℕ
    is : e ≡ numbered_of why number
    at : IsFaultAt m c rs number why

  told : (e : OverrideError) → e ≢ NoMemory → IsOverrideFault m c rs e → IsTold e
  told (UnknownNode n) some f = record { why = one.UnknownNode; number = n; is = refl; at = f }
  told (NotADirectory n) some f = record { why = one.NotADirectory; number = n; is = refl; at = f }
  told (NotAConflict n) some f = record { why = one.NotAConflict; number = n; is = refl; at = f }
  told NoMemory some f = absurd (some refl)

  one_told : (d e : OverrideError) → IsTold d → IsTold e → d ≡ e
  one_told d e f g =
      let s = one_front (fault_of m c) f.at.before g.at.before f.at.rest g.at.rest f.at.resolution g.at.resolution f.why g.why f.at.fitting g.at.fitting (sym f.at.whole ∙ g.at.whole) f.at.fault g.at.fault in
      let number : f.number ≡ g.number = f.at.place ∙ ap (λ (l : List Resolution). length l + 2) s.before ∙ sym g.at.place in
      let why : f.why ≡ g.why = same_Some f.why g.why (sym f.at.fault ∙ ap (fault_of m c) s.element ∙ g.at.fault) in
      f.is ∙ (λ i. numbered_of (why i) (number i)) ∙ sym g.is

  pub one_fault : (d e : OverrideError) → d ≢ NoMemory → e ≢ NoMemory → IsOverrideFault m c rs d → IsOverrideFault m c rs e → d ≡ e
  one_fault d e nd ne f g = one_told d e (told d nd f) (told e ne g)

  not_at : AreFitting m c rs → (n : ℕ) (why : Fault) → IsFaultAt m c rs n why → ⊥
  not_at fits n why f =
      let g : fault_of m c f.resolution ≡ None = rec_at (λ r. fault_of m c r ≡ None) rs f.resolution fits (record { before = f.before; rest = f.rest; is = f.whole }) in
      let h = f.fault in cc

  pub no_fault : (e : OverrideError) → AreFitting m c rs → IsOverrideFault m c rs e → e ≡ NoMemory
  no_fault (UnknownNode n) fits f = absurd (not_at fits n one.UnknownNode f)
  no_fault (NotADirectory n) fits f = absurd (not_at fits n one.NotADirectory f)
  no_fault (NotAConflict n) fits f = absurd (not_at fits n one.NotAConflict f)
  no_fault NoMemory fits f = refl
