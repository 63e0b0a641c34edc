-- That the idents make ids of twenty bytes. For the laws of their `impl`s alone.
use Rattle.std.proofs.Common.{◌≡◌, ℕ, zero, suc, ◌*◌, ◌/◌, ◌%◌, ◌^◌, ◌<◌, List, [], ◌∷◌, ◌++◌, length, replicate, refl, arith, length-append}
use Rattle.std.specs.Prelude.{slice_index}
use Rattle.std.specs.Int.{w32, to_be_bytes, byte_at}
use Rattle.hex.specs.Hex.{IsBytes}
use Rattle.sha1.specs.Sha1.{digest_bytes, hash_after, padded_message, sha1}
use Rattle.mtn_ports.specs.Ident.{MakesIds, toy}

byte_is_small : (i n : ℕ) → byte_at i n < 256
byte_is_small zero n = omega arith
byte_is_small (suc i) n = omega arith

both_are_bytes : (xs ys : List ℕ) → IsBytes xs → IsBytes ys → IsBytes (xs ++ ys)
both_are_bytes [] ys small others i = others i
both_are_bytes (x ∷ xs) ys small others zero = small 0
both_are_bytes (x ∷ xs) ys small others (suc i) = both_are_bytes xs ys (λ k. small (suc k)) others i

word_is_bytes : (n : ℕ) → IsBytes (to_be_bytes w32 n)
word_is_bytes n zero = byte_is_small 3 n
word_is_bytes n (suc zero) = byte_is_small 2 n
word_is_bytes n (suc (suc zero)) = byte_is_small 1 n
word_is_bytes n (suc (suc (suc zero))) = byte_is_small 0 n
word_is_bytes n (suc (suc (suc (suc i)))) = omega arith

digest_is_bytes : (h : List ℕ) (n : ℕ) → IsBytes (digest_bytes h n)
unfolding digest_bytes
digest_is_bytes h zero i = omega arith
digest_is_bytes h (suc n) i = both_are_bytes (digest_bytes h n) (to_be_bytes w32 (slice_index h n)) (digest_is_bytes h n) (word_is_bytes (slice_index h n)) i

digest_len : (h : List ℕ) (n : ℕ) → length (digest_bytes h n) ≡ 4 * n
unfolding digest_bytes
digest_len h zero = refl
digest_len h (suc n) = omega (arith, digest_len h n, length-append (digest_bytes h n) (to_be_bytes w32 (slice_index h n)))

pub sha1_makes_ids : MakesIds sha1
unfolding sha1
sha1_makes_ids text = let h = hash_after (padded_message text) (length (padded_message text) / 64) in record { twenty = digest_len h 5; bytes = digest_is_bytes h 5 }

zeros_are_bytes : (n : ℕ) → IsBytes (replicate n 0)
zeros_are_bytes zero i = omega arith
zeros_are_bytes (suc n) zero = omega arith
zeros_are_bytes (suc n) (suc i) = zeros_are_bytes n i

pub toy_makes_ids : MakesIds toy
toy_makes_ids text = record { twenty = refl; bytes = both_are_bytes (replicate 16 0) (to_be_bytes w32 (length text % 2 ^ 32)) (zeros_are_bytes 16) (word_is_bytes (length text % 2 ^ 32)) }
