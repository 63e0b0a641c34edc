-- The first mismatch, found packet by packet.
use Rattle.std.proofs.Common.{◌≡◌, ◌<◌, ◌≤◌, ◌+◌, ℕ, zero, suc, List, [], ◌∷◌, ◌++◌, length, get_or, map, take, drop, Option, Some, None, refl, sym, ap, ◌∙◌, subst, arith}
use Rattle.std.proofs.lemmas.List.{take_all, take_more}
use Rattle.mtn_base.specs.declared.refusal.Cause.{Cause}
use Rattle.mtn_changeset_laws.specs.Changes.{or_else}
use Rattle.mtn_imports.specs.Imports.{first_mismatch, mismatch}
use Rattle.mtn_packets.specs.declared.packet.Packet.{Packet}
use Rattle.mtn_reading.specs.Heads.{packet_at, packets_at}
use Rattle.mtn_reading.specs.declared.head.Head.{Head}

or_none : (a b : Option Cause) → a ≡ None → b ≡ None → or_else a b ≡ None
or_none a b x y = ap (λ o. or_else o b) x ∙ y

first_none : (a b : Option Cause) → or_else a b ≡ None → a ≡ None
first_none None b e = refl
first_none (Some cause) b e = absurd cc

later_none : (a b : Option Cause) → or_else a b ≡ None → b ≡ None
later_none None b e = e
later_none (Some cause) b e = absurd cc

module _ (f : List ℕ → List ℕ) where
  -- one packet more
  more : (ps : List Packet) (n : ℕ) (p : Packet) → first_mismatch f n ps ≡ None → mismatch f (n + length ps) p ≡ None → first_mismatch f n (ps ++ p ∷ []) ≡ None
  more [] n p none last = or_none (mismatch f n p) None (subst (λ k. mismatch f k p ≡ None) (omega arith) last) refl
  more (q ∷ ps) n p none last =
      or_none (mismatch f n q) _ (first_none (mismatch f n q) _ none)
      (more ps (n + 1) p (later_none (mismatch f n q) _ none) (subst (λ k. mismatch f k p ≡ None) (omega arith) last))

  -- the first one behind some that match
  found : (ps rest : List Packet) (n : ℕ) (p : Packet) (cause : Cause) → first_mismatch f n ps ≡ None → mismatch f (n + length ps) p ≡ Some cause → first_mismatch f n (ps ++ p ∷ rest) ≡ Some cause
  found [] rest n p cause none at = ap (λ o. or_else o (first_mismatch f (n + 1) rest)) (subst (λ k. mismatch f k p ≡ Some cause) (omega arith) at)
  found (q ∷ ps) rest n p cause none at =
      ap (λ o. or_else o (first_mismatch f (n + 1) (ps ++ p ∷ rest))) (first_none (mismatch f n q) _ none)
      ∙ found ps rest (n + 1) p cause (later_none (mismatch f n q) _ none) (subst (λ k. mismatch f k p ≡ Some cause) (omega arith) at)

-- a list about a place
split_at : {A : Type 0} (xs : List A) (i : ℕ) (d : A) → i < length xs → xs ≡ take i xs ++ get_or xs i d ∷ drop (suc i) xs
split_at [] i d lt = absurd (omega (arith, lt))
split_at (x ∷ xs) zero d lt = refl
split_at (x ∷ xs) (suc i) d lt = ap (λ t. x ∷ t) (split_at xs i d (omega (arith, lt)))

taken : {A : Type 0} (xs : List A) (i : ℕ) → i < length xs → length (take i xs) ≡ i
taken [] i lt = absurd (omega (arith, lt))
taken (x ∷ xs) zero lt = refl
taken (x ∷ xs) (suc i) lt = ap suc (taken xs i (omega (arith, lt)))

map_length : {A B : Type 0} (g : A → B) (xs : List A) → length (map g xs) ≡ length xs
map_length g [] = refl
map_length g (x ∷ xs) = ap suc (map_length g xs)

map_join : {A B : Type 0} (g : A → B) (xs ys : List A) → map g (xs ++ ys) ≡ map g xs ++ map g ys
map_join g [] ys = refl
map_join g (x ∷ xs) ys = ap (λ t. g x ∷ t) (map_join g xs ys)

module _ (payloads : List (List ℕ)) (heads : List Head) (i : ℕ) (h : Head) (lt : i < length heads) (is : h ≡ get_or heads i h) where
  -- the packets about a head
  pub about : packets_at payloads heads ≡ packets_at payloads (take i heads) ++ packet_at payloads h ∷ packets_at payloads (drop (suc i) heads)
  about =
      ap (packets_at payloads) (split_at heads i h lt ∙ ap (λ x. take i heads ++ x ∷ drop (suc i) heads) (sym is))
      ∙ map_join (packet_at payloads) (take i heads) (h ∷ drop (suc i) heads)

  pub up_to : packets_at payloads (take (i + 1) heads) ≡ packets_at payloads (take i heads) ++ packet_at payloads h ∷ []
  up_to = ap (packets_at payloads) (take_more heads i h lt ∙ ap (λ x. take i heads ++ x ∷ []) (sym is)) ∙ map_join (packet_at payloads) (take i heads) (h ∷ [])

  pub so_many : length (packets_at payloads (take i heads)) ≡ i
  so_many = map_length (packet_at payloads) (take i heads) ∙ taken heads i lt

  module _ (f : List ℕ → List ℕ) (number : ℕ) (counted : number ≡ i + 1) (none : first_mismatch f 1 (packets_at payloads (take i heads)) ≡ None) where
    numbered : (o : Option Cause) → o ≡ mismatch f number (packet_at payloads h) → mismatch f (1 + length (packets_at payloads (take i heads))) (packet_at payloads h) ≡ o
    numbered o at = ap (λ k. mismatch f k (packet_at payloads h)) (let e = so_many in omega (arith, e, counted)) ∙ sym at

    -- it matches too
    pub one_matched : (o : Option Cause) → o ≡ None → o ≡ mismatch f number (packet_at payloads h) → first_mismatch f 1 (packets_at payloads (take (i + 1) heads)) ≡ None
    one_matched o nothing at = ap (first_mismatch f 1) up_to ∙ more f (packets_at payloads (take i heads)) 1 (packet_at payloads h) none (numbered o at ∙ nothing)

    -- it is the first that does not
    pub mismatch_found : (o : Option Cause) (cause : Cause) → o ≡ Some cause → o ≡ mismatch f number (packet_at payloads h) → Some cause ≡ first_mismatch f 1 (packets_at payloads heads)
    mismatch_found o cause some at =
        sym (ap (first_mismatch f 1) about ∙ found f (packets_at payloads (take i heads)) (packets_at payloads (drop (suc i) heads)) 1 (packet_at payloads h) cause none (numbered o at ∙ some))

pub all_matched : (f : List ℕ → List ℕ) (payloads : List (List ℕ)) (heads : List Head) (i : ℕ) → length heads ≤ i → first_mismatch f 1 (packets_at payloads (take i heads)) ≡ None →
    None ≡ first_mismatch f 1 (packets_at payloads heads)
all_matched f payloads heads i past none = sym (ap (λ hs. first_mismatch f 1 (packets_at payloads hs)) (sym (take_all i heads past)) ∙ none)
