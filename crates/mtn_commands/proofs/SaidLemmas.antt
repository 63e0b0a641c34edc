-- Certificates that are held one after the other.
use Rattle.std.specs.Prelude.{IsSome}
use Rattle.std.proofs.Common.{◌≡◌, ◌+◌, ◌<◌, ◌≤◌, ℕ, zero, suc, List, [], ◌∷◌, ◌++◌, length, get_or, take, refl, sym, ap, ◌∙◌, subst, arith}
use Rattle.std.proofs.lemmas.List.{take_all, take_more}
use Rattle.mtn_base.specs.declared.id.Id.{Id}
use Rattle.mtn_certs.specs.Certificates.{Certificate}
use Rattle.mtn_model.specs.State.{Logged, State}
use Rattle.mtn_replay.specs.Certificates.{with_cert}
use Rattle.mtn_replay.specs.Texts.{text_under}
use Rattle.mtn_step.specs.Certifying.{said_certs, with_certs}
use Rattle.mtn_step.specs.declared.call.Said.{Said}

with_both : (s : State) (xs ys : List Certificate) → with_certs s (xs ++ ys) ≡ with_certs (with_certs s xs) ys
with_both s [] ys = refl
with_both s (x ∷ xs) ys = with_both (with_cert s x) xs ys

-- the log stays
same_log : (s : State) (xs : List Certificate) → (with_certs s xs).log ≡ s.log
same_log s [] = refl
same_log s (x ∷ xs) = same_log (with_cert s x) xs

module _ (id : Id) (said : Said) (items : List Certificate) (are : items ≡ said_certs id said) (i : ℕ) (x : Certificate) (lt : i < length items) (is : x ≡ get_or items i x) where
  abbrev pub all : List Certificate
  all = said_certs id said

  below : i < length all
  below = subst (λ (l : List Certificate). i < length l) are lt

  at : x ≡ get_or all i x
  at = is ∙ ap (λ (l : List Certificate). get_or l i x) are

  -- one certificate more
  pub one_more : (s : State) → with_cert (with_certs s (take i all)) x ≡ with_certs s (take (i + 1) all)
  one_more s =
      sym (ap (with_certs s) (take_more all i x below) ∙ with_both s (take i all) (get_or all i x ∷ []) ∙ ap (with_cert (with_certs s (take i all))) (sym at))

  about : (k : ℕ) → k < length all → x ≡ get_or all k x → x.revision ≡ id
  about zero k e = ap (λ (c : Certificate). c.revision) e
  about (suc zero) k e = ap (λ (c : Certificate). c.revision) e
  about (suc (suc zero)) k e = ap (λ (c : Certificate). c.revision) e
  about (suc (suc (suc zero))) k e = ap (λ (c : Certificate). c.revision) e
  about (suc (suc (suc (suc k)))) lt e = absurd (omega (arith, lt))

  -- it speaks of the revision, which the log has
  pub speaks : (s : State) → IsSome (text_under s.log id.0) → IsSome (text_under (with_certs s (take i all)).log x.revision.0)
  speaks s held =
      subst (λ (r : Id). IsSome (text_under (with_certs s (take i all)).log r.0)) (sym (about i below at))
      (subst (λ (log : List Logged). IsSome (text_under log id.0)) (sym (same_log s (take i all))) held)

-- and then all are held
pub all_held : (id : Id) (said : Said) (items : List Certificate) → items ≡ said_certs id said → (i : ℕ) → length items ≤ i → (s : State) → with_certs s (take i (said_certs id said)) ≡ with_certs s (said_certs id said)
all_held id said items are i past s = ap (with_certs s) (take_all i (said_certs id said) (subst (λ (l : List Certificate). length l ≤ i) are past))
