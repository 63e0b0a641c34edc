-- Numbers in bodies.
use Rattle.std.proofs.Common.{◌≡◌, ℕ, [], sym, ◌∙◌}
use Rattle.std.proofs.lemmas.List.{append-nil}
use Rattle.mtn_records.specs.Apart.{number_apart}
use Rattle.mtn_records.specs.Fields.{IsNumber, number_text}

-- two numbers with one text are one
pub same_number : (n m : ℕ) → IsNumber n → IsNumber m → number_text n ≡ number_text m → n ≡ m
same_number n m a b e = (number_apart n m [] [] a b (append-nil (number_text n) ∙ e ∙ sym (append-nil (number_text m)))).0
