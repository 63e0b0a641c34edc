-- The walk of one table, key by key.
use Rattle.std.specs.Prelude.{IfErr, IfSome}
use Rattle.std.proofs.Common.{◌≡◌, ⊎_elim, ℕ, List, [], ◌∷◌, Option, Some, None, Result, Err, refl, sym, ap, ◌∙◌, subst}
use Rattle.mtn_model.specs.Table.{Contents, body_at}
use Rattle.mtn_ports.specs.Kept.{AreKeyed, IsAbove, Same}
use Rattle.mtn_ports.proofs.KeptLemmas.{if_same}
use Rattle.mtn_history.specs.Errors.{IfDamage}
use Rattle.mtn_history.specs.declared.errors.StoreError.{StoreError}
use Rattle.mtn_history.specs.declared.errors.Damage.{Damage}
use Rattle.mtn_check.specs.Tables.{AllIn, IsBreakIn, IsNextBroken, IsNextKept, IsNoneBetween, KeyRule}
use Rattle.mtn_check.proofs.Order.{not_both, not_itself, which}
use Rattle.mtn_check.proofs.Told.{each_both, ends_damaged}

clash : (o : Option (List ℕ)) (body : List ℕ) → o ≡ Some body → o ≡ None → ⊥
clash o body there none = cc

-- the records of a table up to a key, which may have one itself, keep the rule
abbrev pub AreKeptTo : ℕ → KeyRule → Contents → List ℕ → Type 0
AreKeptTo table rule c last = (key body : List ℕ) → IsAbove [] key → (IsAbove last key → ⊥) → body_at c table key ≡ Some body → rule key body

module _ (table : ℕ) (rule : KeyRule) (c : Contents) where
  pub none_yet : (last : List ℕ) → last ≡ [] → AreKeptTo table rule c last
  none_yet last first key body above far at = absurd (far (subst (λ l. IsAbove l key) (sym first) above))

  -- below a key, where none stands between it and the last one
  under : (last key : List ℕ) → AreKeptTo table rule c last → IsNoneBetween table c last key → (k b : List ℕ) → IsAbove [] k → IsAbove k key → body_at c table k ≡ Some b → rule k b
  under last key so_far between k b some below at =
      ⊎_elim (λ above. absurd (clash (body_at c table k) b at (between k above below)))
      (λ r. so_far k b some (λ above. ⊎_elim (λ e. not_itself k (subst (λ l. IsAbove l k) e above)) (λ over. not_both last k above over) r) at)
      (which last k)

  pub one_more : (last key : List ℕ) → AreKeptTo table rule c last → IsNextKept table rule c last (Some key) → AreKeptTo table rule c key
  one_more last key so_far next k b some far at =
      ⊎_elim (λ above. absurd (far above))
      (λ r. ⊎_elim (λ e. subst (λ x. rule x b) e (next.1 b (ap (body_at c table) e ∙ at))) (λ below. under last key so_far next.2 k b some below at) r)
      (which key k)

  -- each key but the empty one stands above none
  each_key : AreKeyed c → (P : List ℕ → List ℕ → Type 0) → ((k b : List ℕ) → IsAbove [] k → body_at c table k ≡ Some b → P k b) → (k b : List ℕ) → body_at c table k ≡ Some b → P k b
  each_key keyed P all [] b at = absurd (clash (body_at c table []) b at (keyed.keys table))
  each_key keyed P all (x ∷ xs) b at = all (x ∷ xs) b refl at

  pub all_kept : (last : List ℕ) → AreKeyed c → AreKeptTo table rule c last → IsNextKept table rule c last None → AllIn table rule c
  all_kept last keyed so_far none =
      each_key keyed rule (λ k b some at. so_far k b some (λ above. clash (body_at c table k) b at (none k above)) at)

  pub breaks : (last : List ℕ) (d : Damage) → AreKeptTo table rule c last → AreKeyed c → IsNextBroken table rule c last d → IsBreakIn table rule c d
  breaks last d so_far keyed next = record {
    key = next.key;
    body = next.body;
    shown = next.shown;
    held = next.held;
    broken = next.broken;
    earlier = λ k b below at. each_key keyed (λ x y. IsAbove x next.key → rule x y) (λ x y some there at_below. under last next.key so_far next.between x y some at_below there) k b at below;
  }

-- ---- where the records are told

module _ (old new : Option Contents) (table : ℕ) (rule : Contents → KeyRule) (last shown : List ℕ) (kept : Same old new) (is : shown ≡ last) (so_far : IfSome old (λ c. AreKeptTo table (rule c) c last)) where
  now_kept : IfSome new (λ c. AreKeptTo table (rule c) c last)
  now_kept = if_same old new (λ c. AreKeptTo table (rule c) c last) kept so_far

  pub more_told : (found : Option (List ℕ)) (key : List ℕ) → found ≡ Some key → IfSome new (λ c. IsNextKept table (rule c) c shown found) → IfSome new (λ c. AreKeptTo table (rule c) c key)
  more_told found key there next =
      each_both new (λ c. AreKeptTo table (rule c) c last) (λ c. IsNextKept table (rule c) c shown found) (λ c. AreKeptTo table (rule c) c key)
      (λ c x y. one_more table (rule c) c last key x (subst (λ l. IsNextKept table (rule c) c l (Some key)) is (subst (IsNextKept table (rule c) c shown) there y))) now_kept next

  pub kept_told : (found : Option (List ℕ)) → found ≡ None → IfSome new AreKeyed → IfSome new (λ c. IsNextKept table (rule c) c shown found) → IfSome new (λ c. AllIn table (rule c) c)
  kept_told found none keyed next =
      each_both new (λ c. AreKeyed c × AreKeptTo table (rule c) c last) (λ c. IsNextKept table (rule c) c shown found) (λ c. AllIn table (rule c) c)
      (λ c x y. all_kept table (rule c) c last x.0 x.1 (subst (λ l. IsNextKept table (rule c) c l None) is (subst (IsNextKept table (rule c) c shown) none y)))
      (each_both new AreKeyed (λ c. AreKeptTo table (rule c) c last) (λ c. AreKeyed c × AreKeptTo table (rule c) c last) (λ c x y. (x, y)) keyed now_kept) next

  pub broken_told : {T : Type 0} (e : StoreError) (r : Result T StoreError) → r ≡ Err e → IfSome new (λ c. IfDamage e (λ d. AreKeyed c × IsNextBroken table (rule c) c shown d)) →
      IfSome new (λ c. IfErr r (λ x. IfDamage x (IsBreakIn table (rule c) c)))
  broken_told e r fails next =
      ends_damaged new (λ c. AreKeptTo table (rule c) c last) (λ c d. AreKeyed c × IsNextBroken table (rule c) c shown d) (λ c d. IsBreakIn table (rule c) c d) e r fails
      (λ c d x y. breaks table (rule c) c last d x y.0 (subst (λ l. IsNextBroken table (rule c) c l d) is y.1)) now_kept next

pub first_told : (told : Option Contents) (table : ℕ) (rule : Contents → KeyRule) (last : List ℕ) → last ≡ [] → IfSome told (λ c. AreKeptTo table (rule c) c last)
first_told None table rule last first = tt
first_told (Some c) table rule last first = none_yet table (rule c) c last first
