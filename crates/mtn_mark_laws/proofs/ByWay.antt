-- The two spellings of the marks are one.
use Rattle.std.specs.Prelude.{Contains}
use Rattle.std.proofs.Common.{◌≡◌, ◌↔◌, ℕ, List, [], ◌∷◌, ◌⊎◌, Option, inl, inr, refl, sym, ◌∙◌, ap, subst, ⊎_elim}
use Rattle.mtn_mark_laws.specs.Marks.{IsMarked, IsMarkOf}
use Rattle.mtn_mark_laws.specs.Marks.IsMarkOf.{here, onward}
use Rattle.mtn_mark_laws.specs.Ways.{Way, IsMarkByWay}
use Rattle.mtn_mark_laws.specs.Ways.Way.{stay, step}
use Rattle.mtn_ancestry.proofs.Members.{Contains-nil, Contains-head, Contains-later, Contains-cases}

to_way : {V : Type 0} {parents : ℕ → List ℕ} {value : ℕ → Option V} {r x : ℕ} → IsMarkOf V parents value r x → IsMarkByWay V parents value r x
to_way (here k) = record {
  marked = k;
  before = [];
  way = stay;
  same = refl;
  same_before = λ y c. absurd (Contains-nil c);
  unmarked = λ y c. absurd (Contains-nil c);
}
to_way {V} {parents} {value} {r} {x} (onward {p = p} n c e m) =
    let t = to_way m in record {
      marked = t.marked;
      before = r ∷ t.before;
      way = step c t.way;
      same = t.same ∙ e;
      same_before = λ y d. ⊎_elim (λ g. ap value (sym g)) (λ d'. t.same_before y d' ∙ e) (Contains-cases r t.before y d);
      unmarked = λ y d. ⊎_elim (λ g. subst (λ z. ¬ IsMarked V parents value z) g n) (λ d'. t.unmarked y d') (Contains-cases r t.before y d);
    }

-- a path begins at its end, or at its first member
start : {parents : ℕ → List ℕ} {r x : ℕ} {before : List ℕ} → Way parents r before x → (r ≡ x) ⊎ Contains before r
start stay = inl refl
start (step {r = r} {before = before} c w) = inr (Contains-head r before)

along : {V : Type 0} {parents : ℕ → List ℕ} (value : ℕ → Option V) (o : Option V) {r x : ℕ} {before : List ℕ} → Way parents r before x →
    IsMarked V parents value x → value x ≡ o → ((y : ℕ) → Contains before y → value y ≡ o) →
    ((y : ℕ) → Contains before y → ¬ IsMarked V parents value y) → IsMarkOf V parents value r x
along value o stay k e same unmarked = here k
along value o (step {r = r} {p = p} {before = before} c w) k e same unmarked =
    let later = λ (y : ℕ) (d : Contains before y). Contains-later r before d in
    onward (unmarked r (Contains-head r before)) c
    (⊎_elim (λ g. ap value g ∙ e) (λ d. same p (later p d)) (start w) ∙ sym (same r (Contains-head r before)))
    (along value o w k e (λ y d. same y (later y d)) (λ y d. unmarked y (later y d)))

pub two_spellings : (V : Type 0) (parents : ℕ → List ℕ) (value : ℕ → Option V) (r x : ℕ) → IsMarkOf V parents value r x ↔ IsMarkByWay V parents value r x
two_spellings V parents value r x = (to_way, λ t. along value (value r) t.way t.marked t.same t.same_before t.unmarked)
