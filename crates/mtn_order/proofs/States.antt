-- Lawful states with one more file or text, and two that are the same up to order.
use Rattle.std.specs.Prelude.{nat_lt, Contains}
use Rattle.std.specs.FinMap.{get, insert}
use Rattle.std.proofs.Common.{◌≡◌, ℕ, List, [], ◌∷◌, ◌++◌, length, Some, None, sym, ap, ◌∙◌, subst, ⊎_elim, if◌then◌else◌}
use Rattle.std.proofs.lemmas.List.Elements.{Contains-append_left, Contains-push, Contains-push_cases}
use Rattle.mtn_base.specs.declared.refusal.Cause.TheVariants.{TextTooLong}
use Rattle.mtn_replay.specs.Files.{collision, file_refusal, with_file}
use Rattle.mtn_replay.specs.Lawful.{IsLawful}
use Rattle.mtn_replay.proofs.CertLemmas.{with_text}
use Rattle.mtn_model.specs.State.{Logged, State}
use Rattle.mtn_model.specs.Table.{Table}
use Rattle.mtn_renaming.specs.Order.{IsSameUpToOrder}
use Rattle.mtn_step_laws.proofs.Accepting.{lawful_file}

texts_more : (a b : List Logged) (l m : Logged) → ((k : Logged) → Contains a k → Contains b k) → Contains (a ++ l ∷ []) m → Contains (b ++ l ∷ []) m
texts_more a b l m to c =
    ⊎_elim (λ d. Contains-append_left b (l ∷ []) m (to m d)) (λ e. subst (Contains (b ++ l ∷ [])) e (Contains-push b l)) (Contains-push_cases a l m c)

-- the same text behind two logs
pub same_with_text : (f : List ℕ → List ℕ) (s t : State) (l : Logged) → IsSameUpToOrder f s t → IsLawful f (with_text s l) → IsLawful f (with_text t l) → IsSameUpToOrder f (with_text s l) (with_text t l)
same_with_text f s t l same one other = record {
  one = one;
  other = other;
  files = same.files;
  texts = λ m. (texts_more s.log t.log l m (λ k. (same.texts k).0), texts_more t.log s.log l m (λ k. (same.texts k).1));
  certs = same.certs;
  keys = same.keys;
}

pub same_file_refusal : (f : List ℕ → List ℕ) (s t : State) (bytes : List ℕ) → IsSameUpToOrder f s t → file_refusal f t bytes ≡ file_refusal f s bytes
same_file_refusal f s t bytes same = ap (λ (files : Table). if nat_lt 67108864 (length bytes) then Some (TextTooLong (length bytes)) else collision (get files (f bytes)) (f bytes) bytes) (sym same.files)

-- the same file in two states
pub same_with_file : (f : List ℕ → List ℕ) (s t : State) (bytes : List ℕ) → IsSameUpToOrder f s t → file_refusal f s bytes ≡ None → IsSameUpToOrder f (with_file f s bytes) (with_file f t bytes)
same_with_file f s t bytes same fine = record {
  one = lawful_file f s bytes same.one fine;
  other = lawful_file f t bytes same.other (same_file_refusal f s t bytes same ∙ fine);
  files = ap (λ m. insert m (f bytes) bytes) same.files;
  texts = same.texts;
  certs = same.certs;
  keys = same.keys;
}
