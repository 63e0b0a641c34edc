-- Records of which each is under a key that is not empty, in a table whose number is a byte.
use Rattle.std.proofs.Common.{◌≡◌, ◌<◌, ◌++◌, ◌&&◌, ℕ, Bool, true, false, cond, List, [], ◌∷◌, Option, None, Some, length, get_or, refl, ap, subst, sym, ◌∙◌, arith, zero, suc, eqb}
use Rattle.std.specs.Prelude.{bytes_eq, IfSome, if◌then◌else◌}
use Rattle.std.specs.List.{AllByRecursion}
use Rattle.std.specs.FinMap.{get-empty}
use Rattle.std.specs.Ordering.{nat_cmp}
use Rattle.std.specs.Cmp.Lexicographic.{slice_cmp}
use Rattle.std.proofs.Math.Bool.{and-false}
use Rattle.std.proofs.lemmas.Bool.{ne_eqb}
use Rattle.mtn_model.specs.Table.{Contents, body_at, nothing}
use Rattle.mtn_ports.specs.declared.batch.Put.{Put}
use Rattle.mtn_ports.specs.Indexed.{IsKeyed}
use Rattle.mtn_ports.specs.Kept.{AreKeyed, with_all}
use Rattle.mtn_ports.proofs.KeptLemmas.{newest, body_at-with_all}

pub keyed-push : (ps : List Put) (p : Put) → AllByRecursion IsKeyed ps → IsKeyed p → AllByRecursion IsKeyed (ps ++ p ∷ [])
keyed-push [] p all h = (h, tt)
keyed-push (q ∷ ps) p all h = (all.0, keyed-push ps p all.1 h)

pub keyed-front : (ps qs : List Put) → AllByRecursion IsKeyed (ps ++ qs) → AllByRecursion IsKeyed ps
keyed-front [] qs all = tt
keyed-front (p ∷ ps) qs all = (all.0, keyed-front ps qs all.1)

pub keyed_at : (ps : List Put) (i : ℕ) (d : Put) → AllByRecursion IsKeyed ps → i < length ps → IsKeyed (get_or ps i d)
keyed_at [] i d all lt = absurd (omega (arith, lt))
keyed_at (p ∷ ps) zero d all lt = all.0
keyed_at (p ∷ ps) (suc i) d all lt = keyed_at ps i d all.1 (omega (arith, lt))

-- a record between others
pub keyed_between : (ps : List Put) (p : Put) (qs left all : List Put) → ps ++ left ≡ all → left ≡ p ∷ qs → AllByRecursion IsKeyed all → 0 < length p.key
keyed_between ps p qs left all are is keyed = keyed_after ps p qs (subst (AllByRecursion IsKeyed) (sym are ∙ ap (λ rest. ps ++ rest) is) keyed)
  where
    keyed_after : (ps : List Put) (p : Put) (qs : List Put) → AllByRecursion IsKeyed (ps ++ p ∷ qs) → 0 < length p.key
    keyed_after [] p qs keyed = keyed.0.key
    keyed_after (o ∷ ps) p qs keyed = keyed_after ps p qs keyed.1

-- nothing under a key that no record has
module _ (table : ℕ) (key : List ℕ) (other : (p : Put) → IsKeyed p → (eqb p.table table && bytes_eq key p.key) ≡ false) where
  passed : (ps : List Put) → AllByRecursion IsKeyed ps → newest table key None ps ≡ None
  passed [] all = refl
  passed (p ∷ ps) all = ap (λ b. newest table key (cond b (Some p.body) None) ps) (other p all.0) ∙ passed ps all.1

  pub none_under : (ps : List Put) → AllByRecursion IsKeyed ps → body_at (with_all nothing ps) table key ≡ None
  none_under ps all =
      body_at-with_all nothing ps table key ∙ ap (λ o. newest table key o ps) (get-empty (slice_cmp nat_cmp) key) ∙ passed ps all

no_bytes : (key : List ℕ) → 0 < length key → bytes_eq [] key ≡ false
no_bytes [] some = absurd (omega (arith, some))
no_bytes (b ∷ bs) some = refl

pub are_keyed : (ps : List Put) → AllByRecursion IsKeyed ps → AreKeyed (with_all nothing ps)
are_keyed ps all = record {
  tables = λ table key high. none_under table key (λ p h. ap (λ b. b && bytes_eq key p.key) (ne_eqb p.table table (λ same. omega (arith, same, h.table, high)))) ps all;
  keys = λ table. none_under table [] (λ p h. ap (λ b. eqb p.table table && b) (no_bytes p.key h.key) ∙ and-false (eqb p.table table)) ps all;
}

pub keyed_if : (b : Bool) (told : Option Contents) → IfSome told AreKeyed → IfSome (if b then told else None) AreKeyed
keyed_if true told fact = fact
keyed_if false told fact = tt
