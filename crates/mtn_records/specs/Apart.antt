-- Why bytes begin with the text of one value only.
use Rattle.std.proofs.Common.{◌≡◌, refl, sym, ap, ◌∙◌, ℕ, true, false, List, [], ◌∷◌, ◌++◌, length, take, drop, Some, None, arith, rules}
use Rattle.std.specs.Int.{w32, w64, from_be_bytes}
use Rattle.std.specs.List.{AllByRecursion, flat_map}
use Rattle.std.proofs.lemmas.List.{take_at, drop_at, append_assoc}
use Rattle.std.proofs.lemmas.Nat.{from_be_bytes-to_be_bytes_4, from_be_bytes-to_be_bytes_8}
use Rattle.mtn_records.specs.Fields.{AreApart, number_text, IsNumber, count_text, IsCount, flag_text, id_text, IsTwenty, field_text, IsField, pair_text, IsPair, option_text, IsOption, list_text, IsList, set_text, IsSet}

-- fronts of one length
pub fronts : (n : ℕ) (a b r s : List ℕ) → length a ≡ n → length b ≡ n → a ++ r ≡ b ++ s → (a ≡ b) × (r ≡ s)
fronts n a b r s la lb e =
    (sym (take_at a r n la) ∙ ap (take n) e ∙ take_at b s n lb, sym (drop_at a r n la) ∙ ap (drop n) e ∙ drop_at b s n lb)

pub number_apart : AreApart number_text IsNumber
number_apart v w r s fv fw e =
    let t = fronts 8 (number_text v) (number_text w) r s refl refl e in
    (sym (from_be_bytes-to_be_bytes_8 v fv) ∙ ap (from_be_bytes w64) t.0 ∙ from_be_bytes-to_be_bytes_8 w fw, t.1)

pub count_apart : AreApart count_text IsCount
count_apart v w r s fv fw e =
    let t = fronts 4 (count_text v) (count_text w) r s refl refl e in
    (sym (from_be_bytes-to_be_bytes_4 v fv) ∙ ap (from_be_bytes w32) t.0 ∙ from_be_bytes-to_be_bytes_4 w fw, t.1)

pub flag_apart : AreApart flag_text (λ b. Unit {0})
flag_apart false false r s fv fw e = (refl, cc)
flag_apart true true r s fv fw e = (refl, cc)
flag_apart false true r s fv fw e = absurd cc
flag_apart true false r s fv fw e = absurd cc

pub id_apart : AreApart id_text IsTwenty
id_apart v w r s fv fw e = let t = fronts 20 v.0 w.0 r s fv fw e in (ap (λ (b : List ℕ). record { 0 = b }) t.0, t.1)

pub field_apart : AreApart field_text IsField
field_apart v w r s fv fw e =
    let t = count_apart (length v) (length w) (v ++ r) (w ++ s) fv fw
    (sym (append_assoc (count_text (length v)) v r) ∙ e ∙ append_assoc (count_text (length w)) w s) in
    fronts (length w) v w r s t.0 refl t.1

module _ {A B : Type 0} (a : A → List ℕ) (ia : A → Type 0) (b : B → List ℕ) (ib : B → Type 0) (apart_a : AreApart a ia) (apart_b : AreApart b ib) where
  pub pair_apart : AreApart (pair_text a b) (IsPair ia ib)
  pair_apart v w r s fv fw e =
      let t = apart_a v.0 w.0 (b v.1 ++ r) (b w.1 ++ s) fv.0 fw.0 (sym (append_assoc (a v.0) (b v.1) r) ∙ e ∙ append_assoc (a w.0) (b w.1) s) in
      let u = apart_b v.1 w.1 r s fv.1 fw.1 t.1 in
      (search rules, u.1)

module _ {A : Type 0} (a : A → List ℕ) (ia : A → Type 0) (apart_a : AreApart a ia) where
  pub option_apart : AreApart (option_text a) (IsOption ia)
  option_apart None None r s fv fw e = (refl, cc)
  option_apart (Some v) (Some w) r s fv fw e = let t = apart_a v w r s fv fw cc in (ap Some t.0, t.1)
  option_apart None (Some w) r s fv fw e = absurd cc
  option_apart (Some v) None r s fv fw e = absurd cc

  -- lists of one length
  pub each_apart : (vs ws : List A) (r s : List ℕ) → length vs ≡ length ws → AllByRecursion ia vs → AllByRecursion ia ws →
      flat_map a vs ++ r ≡ flat_map a ws ++ s → (vs ≡ ws) × (r ≡ s)
  each_apart [] [] r s l fv fw e = (refl, e)
  each_apart (v ∷ vs) (w ∷ ws) r s l fv fw e =
      let t = apart_a v w (flat_map a vs ++ r) (flat_map a ws ++ s) fv.0 fw.0 (sym (append_assoc (a v) (flat_map a vs) r) ∙ e ∙ append_assoc (a w) (flat_map a ws) s) in
      let u = each_apart vs ws r s (omega arith) fv.1 fw.1 t.1 in
      (cc, u.1)
  each_apart [] (w ∷ ws) r s l fv fw e = absurd (omega arith)
  each_apart (v ∷ vs) [] r s l fv fw e = absurd (omega arith)

  pub list_apart : AreApart (list_text a) (IsList ia)
  list_apart v w r s fv fw e =
      let t = number_apart (length v) (length w) (flat_map a v ++ r) (flat_map a w ++ s) fv.few fw.few
      (sym (append_assoc (number_text (length v)) (flat_map a v) r) ∙ e ∙ append_assoc (number_text (length w)) (flat_map a w) s) in
      each_apart v w r s t.0 fv.each fw.each t.1

pub set_apart : AreApart set_text IsSet
set_apart v w r s fv fw e =
    let t = count_apart (length v) (length w) (flat_map number_text v ++ r) (flat_map number_text w ++ s) fv.few fw.few
    (sym (append_assoc (count_text (length v)) (flat_map number_text v) r) ∙ e ∙ append_assoc (count_text (length w)) (flat_map number_text w) s) in
    each_apart number_text IsNumber number_apart v w r s t.0 fv.each fw.each t.1
