-- What the tests of what is shown say.
use Rattle.std.specs.Prelude.{bytes_eq, nat_lt}
use Rattle.std.specs.FinMap.{get, get-retain_keys, retain_keys, slice_cmp-IsAntisymmetric, nat_cmp-IsAntisymmetric}
use Rattle.std.specs.Int.{w64, from_be_bytes}
use Rattle.std.specs.Option.{option_map_or}
use Rattle.std.proofs.Common.{◌≡◌, ◌<◌, ◌≤◌, ◌^◌, ◌&&◌, ℕ, Bool, true, false, cond, List, ◌++◌, take, drop, Option, Some, None, refl, sym, ap, ◌∙◌, subst, arith}
use Rattle.std.proofs.lemmas.Bool.{ltb-true, lt-ltb}
use Rattle.std.proofs.lemmas.List.{take_at, take-append-drop}
use Rattle.std.proofs.lemmas.Nat.{from_be_bytes-to_be_bytes_8}
use Rattle.std.proofs.lemmas.Slice.Eq.{bytes_eq-Decides}
use Rattle.mtn_model.specs.Table.{Contents, Table, body_at}
use Rattle.mtn_ports.specs.Kept.{IsBody}
use Rattle.mtn_records.specs.Fields.{BeginsWithNone, number_text, IsNumber}
use Rattle.mtn_check_log.specs.Below.{below, has_id_at, is_position, is_text_below, is_text_of}

pub and_both : (a b : Bool) → (a && b) ≡ true → (a ≡ true) × (b ≡ true)
and_both true b e = (refl, e)
and_both false b e = absurd cc

pub not_true : (b : Bool) → (b ≡ true → ⊥) → b ≡ false
not_true true never = absurd (never refl)
not_true false never = refl

pub position_is : (r : ℕ) (key : List ℕ) → is_position r key ≡ true → (q : ℕ) × (q < r) × (key ≡ number_text q)
position_is r key e =
    let b = and_both (nat_lt (from_be_bytes w64 key) r) (bytes_eq key (number_text (from_be_bytes w64 key))) e in
    (from_be_bytes w64 key, ltb-true (from_be_bytes w64 key) r b.0, (bytes_eq-Decides key (number_text (from_be_bytes w64 key))).0 b.1)

pub position_of : (r q : ℕ) → q < r → q < 2 ^ 64 → is_position r (number_text q) ≡ true
position_of r q lt fits =
    subst (λ n. (nat_lt n r && bytes_eq (number_text q) (number_text n)) ≡ true) (sym (from_be_bytes-to_be_bytes_8 q fits))
    (ap (λ b. b && bytes_eq (number_text q) (number_text q)) (lt-ltb q r lt) ∙ (bytes_eq-Decides (number_text q) (number_text q)).1 refl)

pub no_position : (r : ℕ) (key rest : List ℕ) → r ≤ 2 ^ 64 → BeginsWithNone number_text IsNumber (key ++ rest) → is_position r key ≡ false
no_position r key rest fits none =
    not_true (is_position r key) (λ e. let o = position_is r key e in let lt = o.1 in none o.0 rest (omega (arith, lt, fits)) (ap (λ k. k ++ rest) o.2))

pub high_position : (r q : ℕ) → r ≤ q → q < 2 ^ 64 → is_position r (number_text q) ≡ false
high_position r q le fits = not_true (is_position r (number_text q)) (λ e.
    let b = and_both (nat_lt (from_be_bytes w64 (number_text q)) r) (bytes_eq (number_text q) (number_text (from_be_bytes w64 (number_text q)))) e in
    let lt = ltb-true (from_be_bytes w64 (number_text q)) r b.0 in
    let is = from_be_bytes-to_be_bytes_8 q fits in
    omega (arith, lt, is, le))

pub kept_key : (t : Table) (p : List ℕ → Bool) (q : List ℕ) → get (retain_keys t p) q ≡ cond (p q) (get t q) None
kept_key t p q = get-retain_keys t p q (λ x e. ap p (sym (slice_cmp-IsAntisymmetric nat_cmp-IsAntisymmetric q x e)))

pub none_either : (b : Bool) (o : Option (List ℕ)) → o ≡ None → cond b o None ≡ None
none_either true o e = e
none_either false o e = refl

-- a text that is not there is not shown
pub text_missing : (r : ℕ) (c : Contents) (id : List ℕ) → body_at c 3 id ≡ None → body_at (below r c) 3 id ≡ None
text_missing r c id none = kept_key (c 3) (is_text_below r c) id ∙ none_either (is_text_below r c id) (body_at c 3 id) none

-- one that is there is shown by its test
pub text_shown : (r : ℕ) (c : Contents) (id body : List ℕ) → body_at c 3 id ≡ Some body → body_at (below r c) 3 id ≡ cond (is_text_of r c id body) (Some body) None
text_shown r c id body held =
    kept_key (c 3) (is_text_below r c) id
    ∙ ap (λ o. cond (option_map_or (is_text_of r c id) o false) o None) held

pub body_by : (o : Option (List ℕ)) (named : Bool) (body : List ℕ) → o ≡ cond named (Some body) None → IsBody o named body
body_by o true body e = e
body_by o false body e = e

pub text_named : (r : ℕ) (c : Contents) (id body key : List ℕ) (named : Bool) → body_at c 3 id ≡ Some body → take 8 body ≡ key → is_position r key ≡ true → named ≡ has_id_at c id key →
    IsBody (body_at (below r c) 3 id) named body
text_named r c id body key named held front placed is =
    body_by (body_at (below r c) 3 id) named body
    (text_shown r c id body held
    ∙ ap (λ k. cond (is_position r k && has_id_at c id k) (Some body) None) front
    ∙ ap (λ b. cond (b && has_id_at c id key) (Some body) None) placed
    ∙ ap (λ b. cond b (Some body) None) (sym is))

pub front_is : (q : ℕ) (body rest : List ℕ) → body ≡ number_text q ++ rest → take 8 body ≡ number_text q
front_is q body rest is = ap (take 8) is ∙ take_at (number_text q) rest 8 refl

pub front_none : (r : ℕ) (body : List ℕ) → r ≤ 2 ^ 64 → BeginsWithNone number_text IsNumber body → is_position r (take 8 body) ≡ false
front_none r body fits none = no_position r (take 8 body) (drop 8 body) fits (subst (BeginsWithNone number_text IsNumber) (sym (take-append-drop 8 body)) none)
