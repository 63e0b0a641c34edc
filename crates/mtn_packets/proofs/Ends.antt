-- Where the first `[end]` stands in a packet with more behind it.
use Rattle.std.proofs.Common.{◌≡◌, ℕ, zero, suc, ◌+◌, ◌<◌, ◌==◌, Bool, true, List, [], ◌∷◌, ◌++◌, length, get_or, Some, None, refl, sym, ap, subst, ◌∙◌, arith, append_assoc}
use Rattle.std.specs.Prelude.{not, codes}
use Rattle.std.specs.List.{list_all}
use Rattle.std.proofs.lemmas.Bool.{and_parts, and_from}
use Rattle.std.proofs.lemmas.List.{length-append, get_or_append_left, get_or-append-add, take_at}
use Rattle.std.proofs.lemmas.List.Folds.{list_all-append}
use Rattle.memchr.specs.Find.{FindsNeedle, OccursAt}
use Rattle.mtn_packets.specs.declared.packet.Packet.{Packet}
use Rattle.mtn_packets.specs.declared.packet.Packet.TheVariants as packet
use Rattle.mtn_packets.specs.Packets.{Reading, IsFramed, IsShape, end_mark, is_plain, has_no_bracket}
use Rattle.mtn_packets.specs.Faults.{IsUpToEnd}

-- any byte but `[`
abbrev pub opens_not : ℕ → Bool
opens_not b = not (b == 91)

plain_opens_not : (b : ℕ) → is_plain b ≡ true → opens_not b ≡ true
plain_opens_not b e = grind (arith, e)

plain_open_not : (text : List ℕ) → has_no_bracket text ≡ true → list_all opens_not text ≡ true
plain_open_not [] e = refl
plain_open_not (b ∷ bs) e = let parts = and_parts _ _ e in and_from _ _ (plain_opens_not b parts.0) (plain_open_not bs parts.1)

both_all : (xs ys : List ℕ) → list_all opens_not xs ≡ true → list_all opens_not ys ≡ true → list_all opens_not (xs ++ ys) ≡ true
both_all xs ys p q = list_all-append opens_not xs ys ∙ and_from _ _ p q

-- no place of such a text has a `[`
no_open_at : (text : List ℕ) (k : ℕ) → list_all opens_not text ≡ true → k < length text → get_or text k 0 ≡ 91 → ⊥
no_open_at [] k all lt e = absurd (omega arith)
no_open_at (b ∷ bs) zero all lt e = let p = (and_parts (opens_not b) (list_all opens_not bs) all).0 in grind (arith, p, e)
no_open_at (b ∷ bs) (suc k) all lt e = no_open_at bs k (and_parts _ _ all).1 (omega arith) e

-- a packet's text: `[`, a letter other than `e`, more without `[`, and `[end]`
pub record IsEnded (one : List ℕ) : Type 0 where
  pub letter : ℕ
  pub more : List ℕ
  pub no_e : letter ≡ 101 → ⊥
  pub closed : list_all opens_not (letter ∷ more) ≡ true
  pub whole : one ≡ (91 ∷ letter ∷ more) ++ end_mark

framed_ends : (word text head body : List ℕ) (letter : ℕ) (rest : List ℕ) → word ≡ 91 ∷ letter ∷ rest → (letter ≡ 101 → ⊥) → list_all opens_not (letter ∷ rest) ≡ true
    → IsFramed word text head body → IsEnded text
framed_ends word text head body letter rest is no_e closed f =
    let parts = and_parts _ _ closed in
    let behind : list_all opens_not (93 ∷ body) ≡ true = and_from _ _ refl (plain_open_not body f.body_plain) in
    record {
      letter = letter;
      more = rest ++ (head ++ (93 ∷ body));
      no_e = no_e;
      closed = and_from _ _ parts.0 (both_all rest _ parts.1 (both_all head _ (plain_open_not head f.head_plain) behind));
      whole = f.whole ∙ ap (λ (w : List ℕ). w ++ (head ++ (93 ∷ (body ++ end_mark)))) is ∙ simp append_assoc;
    }

pub is_ended : (B : Reading) (p : Packet) (text : List ℕ) → IsShape B p text → IsEnded text
is_ended B (packet.File i x) text s = framed_ends (codes "[fdata") text s.head s.body 102 (codes "data") refl (λ e. omega arith) refl s.framed
is_ended B (packet.Revision i x) text s = framed_ends (codes "[rdata") text s.head s.body 114 (codes "data") refl (λ e. omega arith) refl s.framed
is_ended B (packet.Cert r n k v g) text s = framed_ends (codes "[rcert") text s.head s.body 114 (codes "cert") refl (λ e. omega arith) refl s.framed
is_ended B packet.Passed text s = framed_ends (codes "[pubkey") text s.head s.body 112 (codes "ubkey") refl (λ e. omega arith) refl s.framed

-- no `[end]` stands before the last
none_before : (letter : ℕ) (more rest : List ℕ) → (letter ≡ 101 → ⊥) → list_all opens_not (letter ∷ more) ≡ true → (k : ℕ) → k < length (91 ∷ letter ∷ more)
    → OccursAt ((91 ∷ letter ∷ more) ++ rest) end_mark k → ⊥
none_before letter more rest no_e closed zero lt o = no_e (o.reads 1 (omega arith))
none_before letter more rest no_e closed (suc k) lt o =
    let place : suc k ≡ suc k + 0 = omega arith in
    let here : get_or ((letter ∷ more) ++ rest) k 0 ≡ 91 = ap (λ (n : ℕ). get_or ((91 ∷ letter ∷ more) ++ rest) n 0) place ∙ o.reads 0 (omega arith) in
    no_open_at (letter ∷ more) k closed (omega arith) (sym (get_or_append_left (letter ∷ more) rest 0 k (omega arith)) ∙ here)

-- `[end]` stands behind a front
mark_at : (front rest : List ℕ) → OccursAt (front ++ (end_mark ++ rest)) end_mark (length front)
mark_at front rest = record {
  fits = omega (arith, length-append front (end_mark ++ rest), length-append end_mark rest);
  reads = λ j lt. get_or-append-add front (end_mark ++ rest) j 0 ∙ get_or_append_left end_mark rest 0 j lt;
}

pub first_end : (one rest : List ℕ) (e : IsEnded one) → FindsNeedle (one ++ rest) end_mark 0 (Some (length (91 ∷ e.letter ∷ e.more)))
first_end one rest e =
    let front : List ℕ = 91 ∷ e.letter ∷ e.more in
    let whole : one ++ rest ≡ front ++ (end_mark ++ rest) = ap (λ (t : List ℕ). t ++ rest) e.whole ∙ append_assoc front end_mark rest in
    let here = mark_at front rest in
    let found : FindsNeedle (front ++ (end_mark ++ rest)) end_mark 0 (Some (length front)) =
    (record { low = omega arith; high = omega (arith, here.fits); before = λ k low lt o. none_before e.letter e.more (end_mark ++ rest) e.no_e e.closed k lt o }, here) in
    subst (λ (t : List ℕ). FindsNeedle t end_mark 0 (Some (length front))) (sym whole) found

-- two first places are the same
pub one_place : (hay needle : List ℕ) (a b : ℕ) → FindsNeedle hay needle 0 (Some a) → FindsNeedle hay needle 0 (Some b) → a ≡ b
one_place hay needle a b f g = omega (arith, λ (lt : a < b). g.0.before a (omega arith) lt f.1, λ (lt : b < a). f.0.before b (omega arith) lt g.1)

pub some_place : (hay needle : List ℕ) (a : ℕ) → FindsNeedle hay needle 0 (Some a) → FindsNeedle hay needle 0 None → ⊥
some_place hay needle a f none = none a (omega arith) f.0.high f.1

-- the rest up to its first `[end]` is the packet that stands there
pub up_to_end : (one rest text : List ℕ) → IsEnded one → IsUpToEnd (one ++ rest) text → text ≡ one
up_to_end one rest text e u =
    let place : u.place ≡ length (91 ∷ e.letter ∷ e.more) = one_place (one ++ rest) end_mark _ _ u.found (first_end one rest e) in
    let len : length one ≡ u.place + 5 = ap length e.whole ∙ length-append (91 ∷ e.letter ∷ e.more) end_mark ∙ omega (arith, place) in
    u.front ∙ take_at one rest (u.place + 5) len
