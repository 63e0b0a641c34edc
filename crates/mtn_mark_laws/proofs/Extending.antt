-- The local rule over the marks of a log gives the marks of the log with one more entry.
use Rattle.std.specs.Prelude.{Contains}
use Rattle.std.proofs.Common.{◌≡◌, ◌↔◌, ℕ, ◌<◌, List, [], ◌∷◌, ◌++◌, length, Option, Some, None, sym, ◌∙◌, ap, subst}
use Rattle.mtn_ancestry.specs.Ancestors.{ParentsAreEarlier}
use Rattle.mtn_mark_laws.specs.Marks.{IsMarkOf, NeverComesBack}
use Rattle.mtn_mark_laws.specs.Rule.{Side, IsSideAt, AreUncommon, IsMarkByRule}
use Rattle.mtn_mark_laws.specs.ScalarLog.{Entry, parents_of, value_of, entry_parents, entry_value}
use Rattle.mtn_ancestry.proofs.Members.{Contains-head, Contains-later}
use Rattle.mtn_mark_laws.proofs.Local.{root_rule, one_rule, two_rule}
use Rattle.mtn_mark_laws.proofs.Stable.{log_agrees, get_last, IsSideAt-kept, AreUncommon-kept}

module _ (V : Type 0) (same : (v w : V) → Dec (v ≡ w)) (log : List (Entry V)) (e : Entry V)
    (early : ParentsAreEarlier (parents_of (log ++ e ∷ []))) (never : NeverComesBack V (parents_of (log ++ e ∷ [])) (value_of (log ++ e ∷ [])))
    (v : V) (there : e.value ≡ Some v) where
  parents_at : parents_of (log ++ e ∷ []) (length log) ≡ e.parents
  parents_at = ap entry_parents (get_last log e)

  value_at : value_of (log ++ e ∷ []) (length log) ≡ Some v
  value_at = ap entry_value (get_last log e) ∙ there

  pub root_extended : e.parents ≡ [] → (x : ℕ) →
      IsMarkByRule V (length log) v [] [] None None x ↔ IsMarkOf V (parents_of (log ++ e ∷ [])) (value_of (log ++ e ∷ [])) (length log) x
  root_extended none = root_rule V same _ early _ never (length log) v value_at (parents_at ∙ none)

  pub one_extended : (p : ℕ) → e.parents ≡ p ∷ [] → (l : Option (Side V)) → IsSideAt V (parents_of log) (value_of log) p l → (x : ℕ) →
      IsMarkByRule V (length log) v [] [] l None x ↔ IsMarkOf V (parents_of (log ++ e ∷ [])) (value_of (log ++ e ∷ [])) (length log) x
  one_extended p one l h =
      let lp : p < length log = early (length log) p (subst (λ ps. Contains ps p) (sym (parents_at ∙ one)) (Contains-head p [])) in
      one_rule V same _ early _ never (length log) v value_at p (parents_at ∙ one) l (IsSideAt-kept (log_agrees log (e ∷ []) early) p l lp h)

  pub two_extended : (p q : ℕ) → e.parents ≡ p ∷ q ∷ [] → (l s : Option (Side V)) →
      IsSideAt V (parents_of log) (value_of log) p l → IsSideAt V (parents_of log) (value_of log) q s →
      (only_left only_right : List ℕ) → AreUncommon (parents_of log) p q only_left → AreUncommon (parents_of log) q p only_right → (x : ℕ) →
      IsMarkByRule V (length log) v only_left only_right l s x ↔ IsMarkOf V (parents_of (log ++ e ∷ [])) (value_of (log ++ e ∷ [])) (length log) x
  two_extended p q both l s hp hq only_left only_right ul ur =
      let lp : p < length log = early (length log) p (subst (λ ps. Contains ps p) (sym (parents_at ∙ both)) (Contains-head p (q ∷ []))) in
      let lq : q < length log = early (length log) q (subst (λ ps. Contains ps q) (sym (parents_at ∙ both)) (Contains-later p (q ∷ []) (Contains-head q []))) in
      let g = log_agrees log (e ∷ []) early in
      two_rule V same _ early _ never (length log) v value_at p q (parents_at ∙ both) l s
      (IsSideAt-kept g p l lp hp) (IsSideAt-kept g q s lq hq) only_left only_right
      (AreUncommon-kept g p q only_left lp lq ul) (AreUncommon-kept g q p only_right lq lp ur)
