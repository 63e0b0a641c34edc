-- To be the same up to order goes both ways and on.
use Rattle.std.proofs.Common.{ℕ, List, refl, sym, ◌∙◌}
use Rattle.mtn_replay.specs.Lawful.{IsLawful}
use Rattle.mtn_model.specs.State.{State}
use Rattle.mtn_renaming.specs.Order.{IsSameUpToOrder}

pub same_itself : (f : List ℕ → List ℕ) (s : State) → IsLawful f s → IsSameUpToOrder f s s
same_itself f s law = record { one = law; other = law; files = refl; texts = λ l. (λ c. c, λ c. c); certs = refl; keys = refl }

pub same_turned : (f : List ℕ → List ℕ) (s t : State) → IsSameUpToOrder f s t → IsSameUpToOrder f t s
same_turned f s t same = record { one = same.other; other = same.one; files = sym same.files; texts = λ l. ((same.texts l).1, (same.texts l).0); certs = sym same.certs; keys = sym same.keys }

pub same_onward : (f : List ℕ → List ℕ) (s t u : State) → IsSameUpToOrder f s t → IsSameUpToOrder f t u → IsSameUpToOrder f s u
same_onward f s t u same also = record {
  one = same.one;
  other = also.other;
  files = same.files ∙ also.files;
  texts = λ l. (λ c. (also.texts l).0 ((same.texts l).0 c), λ c. (same.texts l).1 ((also.texts l).1 c));
  certs = same.certs ∙ also.certs;
  keys = same.keys ∙ also.keys;
}
