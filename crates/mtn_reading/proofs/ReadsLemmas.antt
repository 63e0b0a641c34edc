-- Packets that are read one after the other.
use Rattle.std.proofs.Common.{◌≡◌, ◌+◌, ℕ, List, [], ◌∷◌, ◌++◌, length, Some, None, refl, ap, ◌∙◌, subst, arith}
use Rattle.mtn_base.specs.declared.refusal.Cause.{Cause}
use Rattle.mtn_base.specs.declared.refusal.Refusal.{Refusal}
use Rattle.mtn_imports.specs.Imports.{Kept, Reads, ReadsFrom, kept, with_more}
use Rattle.mtn_model.specs.State.{State}
use Rattle.mtn_packets.specs.declared.packet.Packet.{Packet}

abbrev none : Kept
none = kept 0 0 0

same_kept : (a b : Kept) → a.files ≡ b.files → a.revisions ≡ b.revisions → a.certs ≡ b.certs → a ≡ b
same_kept a b files revisions certs = λ i. record { files = files i; revisions = revisions i; certs = certs i }

none_more : (one : Kept) → with_more none one ≡ with_more one none
none_more one = same_kept (with_more none one) (with_more one none) (omega arith) (omega arith) (omega arith)

together : (a b c : Kept) → with_more (with_more a b) c ≡ with_more a (with_more b c)
together a b c = same_kept (with_more (with_more a b) c) (with_more a (with_more b c)) (omega arith) (omega arith) (omega arith)

abbrev refusal_at : ℕ → Cause → Refusal
refusal_at number cause = record { packet = number; cause = cause }

module _ (f : List ℕ → List ℕ) where
  -- one packet more
  pub one_more : (ps : List Packet) (n : ℕ) (s mid : State) (a : Kept) → ReadsFrom f n s ps None mid a → (p : Packet) (t : State) (one : Kept) → Reads f mid p None t one →
      ReadsFrom f n s (ps ++ p ∷ []) None t (with_more a one)
  one_more [] n s mid a so p t one r =
      (None, t, one, subst (λ x. Reads f x p None t one) so.1 r, (none, (refl, refl, refl), ap (λ k. with_more k one) so.2 ∙ none_more one))
  one_more (q ∷ ps) n s mid a (None, m, k, rq, before) p t one r =
      (None, m, k, rq, (with_more before.0 one, one_more ps (n + 1) m mid before.0 before.1 p t one r, ap (λ x. with_more x one) before.2 ∙ together k before.0 one))
  one_more (q ∷ ps) n s mid a (Some cause, m, k, rq, before) p t one r = absurd (let b : None ≡ Some (refusal_at n cause) = before in cc)

  -- one that is refused
  pub refused : (ps rest : List Packet) (n : ℕ) (s mid : State) (a : Kept) → ReadsFrom f n s ps None mid a → (p : Packet) (cause : Cause) (t : State) (one : Kept) → Reads f mid p (Some cause) t one →
      (number : ℕ) → number ≡ n + length ps → (new : Kept) × ReadsFrom f n s (ps ++ p ∷ rest) (Some (refusal_at number cause)) t new
  refused [] rest n s mid a so p cause t one r number at =
      (none, (Some cause, t, one, subst (λ x. Reads f x p (Some cause) t one) so.1 r, ap (λ k. Some (refusal_at k cause)) (let e : number ≡ n = omega (arith, at) in e)))
  refused (q ∷ ps) rest n s mid a (None, m, k, rq, before) p cause t one r number at =
      let deep = refused ps rest (n + 1) m mid before.0 before.1 p cause t one r number (omega (arith, at)) in
      (with_more k deep.0, (None, m, k, rq, (deep.0, deep.1, refl)))
  refused (q ∷ ps) rest n s mid a (Some other, m, k, rq, before) p cause t one r number at = absurd (let b : None ≡ Some (refusal_at n other) = before in cc)
