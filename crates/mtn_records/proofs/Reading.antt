-- What a front of bytes spells.
use Rattle.std.proofs.Common.{◌≡◌, refl, sym, ap, ◌∙◌, ℕ, ◌+◌, ◌<◌, ◌^◌, List, [], ◌∷◌, ◌++◌, length, take, drop, arith, inl, inr, true, false, Some, None}
use Rattle.std.specs.List.{AllByRecursion, flat_map}
use Rattle.std.specs.Int.{w32, w64, from_be_bytes}
use Rattle.std.proofs.Math.ListN.{get_or}
use Rattle.std.proofs.lemmas.List.{append_assoc, length_push, flat_map_more, take_at, take-append-drop, length-take-le, length-take, get_or-take, get_or_past}
use Rattle.std.proofs.lemmas.Bool.Decides.{leb_tells}
use Rattle.std.proofs.lemmas.Nat.{be_bytes_4, be_bytes_8}
use Rattle.mtn_records.specs.Apart.{count_apart, number_apart, each_apart}
use Rattle.mtn_records.specs.Fields.{AreApart, set_text, IsSet, Begins, BeginsWithAll, BeginsWithNone, number_text, IsNumber, count_text, IsCount, flag_text, id_text, IsTwenty, pair_text, IsPair, option_text, IsOption}

-- each is a byte
abbrev pub AreBytes : List ℕ → Type 0
AreBytes bytes = (i : ℕ) → get_or bytes i 0 < 256

pub bytes_front : (n : ℕ) (bytes : List ℕ) → AreBytes bytes → AreBytes (take n bytes)
bytes_front n bytes small i =
    elim (leb_tells n i) [
      | inl p ↦ rw (get_or_past (take n bytes) i 0 (omega (arith, length-take n bytes))) (omega arith)
      | inr p ↦ rw (get_or-take n bytes i 0 p.1) (small i)
    ]

module _ (bytes front rest : List ℕ) (n : ℕ) (small : AreBytes bytes) where
  pub number_begins : length rest + 8 ≡ length bytes → front ≡ take 8 bytes → rest ≡ drop 8 bytes → n ≡ from_be_bytes w64 front → n < 2 ^ 64 →
      Begins number_text IsNumber bytes n rest
  number_begins long at back is fits =
      record {
        formed = fits;
        whole = sym (take-append-drop 8 bytes) ∙ ap (λ f. f ++ drop 8 bytes) (sym at ∙ sym (be_bytes_8 front n (ap length at ∙ length-take-le 8 bytes (omega arith)) (rw at (bytes_front 8 bytes small)) is)) ∙ ap (λ r. number_text n ++ r) (sym back);
      }

  pub count_begins : length rest + 4 ≡ length bytes → front ≡ take 4 bytes → rest ≡ drop 4 bytes → n ≡ from_be_bytes w32 front → n < 2 ^ 32 →
      Begins count_text IsCount bytes n rest
  count_begins long at back is fits =
      record {
        formed = fits;
        whole = sym (take-append-drop 4 bytes) ∙ ap (λ f. f ++ drop 4 bytes) (sym at ∙ sym (be_bytes_4 front n (ap length at ∙ length-take-le 4 bytes (omega arith)) (rw at (bytes_front 4 bytes small)) is)) ∙ ap (λ r. count_text n ++ r) (sym back);
      }

pub id_begins : (bytes front rest : List ℕ) → length rest + 20 ≡ length bytes → front ≡ take 20 bytes → rest ≡ drop 20 bytes → Begins id_text IsTwenty bytes (record { 0 = front }) rest
id_begins bytes front rest long at back =
    record {
      formed = ap length at ∙ length-take-le 20 bytes (omega arith);
      whole = sym (take-append-drop 20 bytes) ∙ ap (λ f. f ++ drop 20 bytes) (sym at) ∙ ap (λ r. front ++ r) (sym back);
    }

module _ {A B : Type 0} (a : A → List ℕ) (ia : A → Type 0) (b : B → List ℕ) (ib : B → Type 0) where
  pub pair_none : (bytes rest : List ℕ) (x : A) → AreApart a ia → Begins a ia bytes x rest → BeginsWithNone b ib rest → BeginsWithNone (pair_text a b) (IsPair ia ib) bytes
  pair_none bytes rest x apart begins none v r form e =
      none v.1 r form.1 (apart x v.0 rest (b v.1 ++ r) begins.formed form.0 (sym begins.whole ∙ e ∙ append_assoc (a v.0) (b v.1) r)).1

module _ {A : Type 0} (a : A → List ℕ) (ia : A → Type 0) where
  pub option_none : (bytes : List ℕ) → BeginsWithNone flag_text (λ b. Unit {0}) bytes → BeginsWithNone (option_text a) (IsOption ia) bytes
  option_none bytes none None r form e = none false r tt e
  option_none bytes none (Some v) r form e = none true (a v ++ r) tt e

-- what was kept of more was kept of less
pub front_kept : (old more mid new : List ℕ) → mid ≡ old ++ more → take (length mid) new ≡ mid → take (length old) new ≡ old
front_kept old more mid new is kept =
    ap (take (length old)) (sym (take-append-drop (length mid) new) ∙ ap (λ x. x ++ drop (length mid) new) (kept ∙ is) ∙ append_assoc old more (drop (length mid) new))
    ∙ take_at old (more ++ drop (length mid) new) (length old) refl

module _ {A : Type 0} (t : A → List ℕ) (f : A → Type 0) where
  pub all_push : (xs : List A) (x : A) → AllByRecursion f xs → f x → AllByRecursion f (xs ++ x ∷ [])
  all_push [] x all one = (one, tt)
  all_push (y ∷ ys) x all one = (all.0, all_push ys x all.1 one)

  -- one more of them
  pub one_more : (bytes rest behind : List ℕ) (xs : List A) (x : A) (n : ℕ) → BeginsWithAll t f n bytes xs rest → Begins t f rest x behind → BeginsWithAll t f (n + 1) bytes (xs ++ x ∷ []) behind
  one_more bytes rest behind xs x n some one =
      record {
        formed = all_push xs x some.formed one.formed;
        many = length_push xs x ∙ ap (λ m. m + 1) some.many;
        whole = some.whole ∙ ap (λ r. flat_map t xs ++ r) one.whole ∙ sym (append_assoc (flat_map t xs) (t x) behind) ∙ ap (λ l. l ++ behind) (flat_map_more t [] xs x);
      }

  -- where the next one is none, there are not so many
  pub stuck : AreApart t f → (bytes rest : List ℕ) (xs vs : List A) (r : List ℕ) → AllByRecursion f xs → AllByRecursion f vs → length xs < length vs →
      flat_map t xs ++ rest ≡ flat_map t vs ++ r → BeginsWithNone t f rest → ⊥
  stuck apart bytes rest xs [] r ax av less e none = omega (arith, less)
  stuck apart bytes rest [] (v ∷ vs) r ax av less e none = none v (flat_map t vs ++ r) av.0 (e ∙ append_assoc (t v) (flat_map t vs) r)
  stuck apart bytes rest (x ∷ xs) (v ∷ vs) r ax av less e none =
      let both = apart x v (flat_map t xs ++ rest) (flat_map t vs ++ r) ax.0 av.0 (sym (append_assoc (t x) (flat_map t xs) rest) ∙ e ∙ append_assoc (t v) (flat_map t vs) r) in
      stuck apart bytes rest xs vs r ax.1 av.1 (omega (arith, less)) both.1 none

-- what was read as a set is the only one that can be there
pub set_is : (bytes rest behind : List ℕ) (n : ℕ) (items : List ℕ) → Begins count_text IsCount bytes n rest → BeginsWithAll number_text IsNumber n rest items behind →
    (v r : List ℕ) → IsSet v → bytes ≡ set_text v ++ r → items ≡ v
set_is bytes rest behind n items count all v r is e =
    let first = count_apart n (length v) rest (flat_map number_text v ++ r) count.formed is.few (sym count.whole ∙ e ∙ append_assoc (count_text (length v)) (flat_map number_text v) r) in
    (each_apart number_text IsNumber number_apart items v behind r (all.many ∙ first.0) all.formed is.each (sym all.whole ∙ first.1)).0
