-- An input that is cut behind an `[end]`: it reads as its two parts do.
use Rattle.std.proofs.Common.{◌≡◌, inl, inr, ℕ, zero, suc, ◌+◌, ◌-◌, ◌<◌, ◌≤◌, ◌^◌, Bool, true, true≢false, List, [], ◌∷◌, ◌++◌, length, take, drop, get_or, Some, None, refl, sym, ap, subst, ◌∙◌, arith, append_assoc}
use Rattle.std.specs.Prelude.{◌||◌, ◌==◌, codes}
use Rattle.std.specs.List.{list_all}
use Rattle.std.proofs.lemmas.Bool.{and_parts, and_from}
use Rattle.std.proofs.lemmas.List.{length-append, length-drop, length-take-le, take-append-le, get_or_append_left, get_or-append-add, get_or-take, get_or-drop, append-nil}
use Rattle.std.proofs.lemmas.List.Folds.{list_all-append}
use Rattle.memchr.specs.Find.{FindsNeedle, OccursAt}
use Rattle.mtn_base.specs.declared.refusal.PacketWhy.{PacketWhy}
use Rattle.mtn_base.specs.declared.refusal.PacketWhy.TheVariants as why
use Rattle.mtn_packets.specs.declared.packet.Packet.{Packet}
use Rattle.mtn_packets.specs.declared.error.PacketError.{PacketError}
use Rattle.mtn_packets.specs.declared.error.PacketError.TheVariants.{BadPacket, NoMemory}
use Rattle.mtn_packets.specs.Packets.{is_space, IsGap, IsBlank, IsBase64, ArePackets, end_mark}
use Rattle.mtn_packets.specs.Faults.{BeginsPacket, BeginsWith, IsUnsupported, IsUpToEnd, IsOfOurKinds, IsFault, FailsAt, IsError}
use Rattle.mtn_packets.proofs.Ends.{opens_not, is_ended}
use Rattle.mtn_packets.proofs.Inputs.{one_list, no_failure}
use Rattle.mtn_packets.proofs.Steps.{cut, cut_is}
use Rattle.mtn_pieces.specs.Cuts.{EndsAtMark, error_behind, FitsBehind}

-- ---- packets, and more packets

blank_before : (qs : List Packet) (a b : List ℕ) → IsBlank a → ArePackets qs b → ArePackets qs (a ++ b)
blank_before [] a b h s = list_all-append is_space a b ∙ and_from _ _ h s
blank_before (q ∷ qs) a b h s =
    (a ++ s.0, s.1, s.2, list_all-append is_space a s.0 ∙ and_from _ _ h s.3, s.4, s.5, ap (λ (t : List ℕ). a ++ t) s.6 ∙ sym (append_assoc a s.0 (s.1 ++ s.2)))

pub both_packets : (ps qs : List Packet) (a b : List ℕ) → ArePackets ps a → ArePackets qs b → ArePackets (ps ++ qs) (a ++ b)
both_packets [] qs a b s t = blank_before qs a b s t
both_packets (p ∷ ps) qs a b s t = (s.0, s.1, s.2 ++ b, s.3, s.4, both_packets ps qs s.2 b s.5 t, ap (λ (w : List ℕ). w ++ b) s.6 ∙ simp append_assoc)

-- a packet takes a byte at least
packets_fit : (ps : List Packet) (text : List ℕ) → ArePackets ps text → length ps ≤ length text
packets_fit [] text s = omega arith
packets_fit (p ∷ ps) text s =
    let ends = is_ended IsBase64 p s.1 s.4 in
    omega (arith, packets_fit ps s.2 s.5, ap length s.6, length-append s.0 (s.1 ++ s.2), length-append s.1 s.2, ap length ends.whole)

-- ---- the second part fails

later_fault : (ps : List Packet) (a b : List ℕ) (n : ℕ) (w : PacketWhy) → ArePackets ps a → FailsAt b n w → FailsAt (a ++ b) (length ps + n) w
later_fault ps a b n w s f = record {
  before = ps ++ f.before;
  front = a ++ f.front;
  rest = f.rest;
  good = both_packets ps f.before a f.front s f.good;
  whole = ap (λ (t : List ℕ). a ++ t) f.whole ∙ sym (append_assoc a f.front f.rest);
  counted = omega (arith, f.counted, length-append ps f.before);
  begins = f.begins;
  fault = f.fault;
}

later_fits : (ps : List Packet) (a b : List ℕ) (n : ℕ) (w : PacketWhy) → ArePackets ps a → FailsAt b n w → length ps + n ≤ length a + length b
later_fits ps a b n w s f =
    omega (arith, packets_fit ps a s, f.counted, packets_fit f.before f.front f.good, ap length f.whole, length-append f.front f.rest, f.begins.0)

-- ---- the first part fails

-- where a needle stands, it stands in a longer text
occurs_stays : (hay more needle : List ℕ) (k : ℕ) → OccursAt hay needle k → OccursAt (hay ++ more) needle k
occurs_stays hay more needle k o = record {
  fits = omega (arith, o.fits, length-append hay more);
  reads = λ j lt. get_or_append_left hay more 0 (k + j) (omega (arith, o.fits, lt)) ∙ o.reads j lt;
}

-- the first such place stays it
place_stays : (hay more needle : List ℕ) (k : ℕ) → FindsNeedle hay needle 0 (Some k) → FindsNeedle (hay ++ more) needle 0 (Some k)
place_stays hay more needle k f = (
  record {
    low = omega arith;
    high = omega (arith, f.1.fits, length-append hay more);
    before = λ i low lt o. f.0.before i low lt (record {
      fits = omega (arith, f.1.fits, lt);
      reads = λ j jl. sym (get_or_append_left hay more 0 (i + j) (omega (arith, f.1.fits, lt, jl))) ∙ o.reads j jl;
    });
  },
  occurs_stays hay more needle k f.1,
)

end_stays : (rest b one : List ℕ) → IsUpToEnd rest one → IsUpToEnd (rest ++ b) one
end_stays rest b one u = record {
  place = u.place;
  found = place_stays rest b end_mark u.place u.found;
  front = u.front ∙ sym (take-append-le (u.place + 5) rest b (omega (arith, u.found.1.fits)));
}

one_stays : (rest b : List ℕ) → 0 < length rest → take 1 (rest ++ b) ≡ take 1 rest
one_stays rest b some = take-append-le 1 rest b (omega (arith, some))

some_of_one : (more : List ℕ) → 0 < length (take 1 more) → 0 < length more
some_of_one [] lt = absurd (omega (arith, lt))
some_of_one (x ∷ xs) lt = omega arith

word_stays : (word rest b : List ℕ) → BeginsWith word rest → BeginsWith word (rest ++ b)
word_stays word rest b h =
    (h.0 ++ b, ap (λ (t : List ℕ). t ++ b) h.1 ∙ append_assoc word h.0 b, subst (λ (t : List ℕ). IsGap t) (sym (one_stays h.0 b (some_of_one h.0 h.2.0))) h.2)

kind_stays : (rest b : List ℕ) → IsUnsupported rest → IsUnsupported (rest ++ b)
kind_stays rest b (inl h) = inl (word_stays (codes "[fdelta") rest b h)
kind_stays rest b (inr (inl h)) = inr (inl (word_stays (codes "[keypair") rest b h))
kind_stays rest b (inr (inr h)) = inr (inr (word_stays (codes "[privkey") rest b h))

-- no place of a text without `[` has one
no_open : (text : List ℕ) (k : ℕ) → list_all opens_not text ≡ true → k < length text → get_or text k 0 ≡ 91 → ⊥
no_open [] k all lt e = absurd (omega arith)
no_open (b ∷ bs) zero all lt e = let p = (and_parts (opens_not b) (list_all opens_not bs) all).0 in grind (arith, p, e)
no_open (b ∷ bs) (suc k) all lt e = no_open bs k (and_parts _ _ all).1 (omega arith) e

-- no `[end]` begins in a word
none_in_word : (letter : ℕ) (cs more : List ℕ) → (letter ≡ 101 → ⊥) → list_all opens_not (letter ∷ cs) ≡ true → (k : ℕ) → k < length (91 ∷ letter ∷ cs) → OccursAt ((91 ∷ letter ∷ cs) ++ more) end_mark k → ⊥
none_in_word letter cs more no_e closed zero lt o = no_e (o.reads 1 (omega arith))
none_in_word letter cs more no_e closed (suc k) lt o =
    let place : suc k ≡ suc k + 0 = omega arith in
    let here : get_or ((letter ∷ cs) ++ more) k 0 ≡ 91 = ap (λ (n : ℕ). get_or ((91 ∷ letter ∷ cs) ++ more) n 0) place ∙ o.reads 0 (omega arith) in
    no_open (letter ∷ cs) k closed (omega arith) (sym (get_or_append_left (letter ∷ cs) more 0 k (omega arith)) ∙ here)

-- the front of a longer text is that of the text
front_was : (word more rest b : List ℕ) → length word < length rest → rest ++ b ≡ word ++ more → (rest ≡ word ++ drop (length word) rest) × (take 1 (drop (length word) rest) ≡ take 1 more)
front_was [] more [] b lt e = absurd (omega (arith, lt))
front_was [] more (x ∷ xs) b lt e = (refl, sym (one_stays (x ∷ xs) b (omega arith)) ∙ ap (λ (t : List ℕ). take 1 t) e)
front_was (c ∷ cs) more [] b lt e = absurd (omega (arith, lt))
front_was (c ∷ cs) more (x ∷ xs) b lt e =
    let head : x ≡ c = ap (λ (t : List ℕ). get_or t 0 0) e in
    let tail : xs ++ b ≡ cs ++ more = ap (λ (t : List ℕ). drop 1 t) e in
    let rec = front_was cs more xs b (omega (arith, lt)) tail in
    (ap (λ (y : ℕ). y ∷ xs) head ∙ ap (λ (t : List ℕ). c ∷ t) rec.0, rec.1)

word_was : (letter : ℕ) (cs rest b : List ℕ) (k : ℕ) → (letter ≡ 101 → ⊥) → list_all opens_not (letter ∷ cs) ≡ true → OccursAt rest end_mark k → BeginsWith (91 ∷ letter ∷ cs) (rest ++ b) → BeginsWith (91 ∷ letter ∷ cs) rest
word_was letter cs rest b k no_e closed o h =
    let longer : OccursAt ((91 ∷ letter ∷ cs) ++ h.0) end_mark k = subst (λ (t : List ℕ). OccursAt t end_mark k) h.1 (occurs_stays rest b end_mark k o) in
    let past : length (91 ∷ letter ∷ cs) < length rest = omega (arith, o.fits, λ (lt : k < length (91 ∷ letter ∷ cs)). none_in_word letter cs h.0 no_e closed k lt longer) in
    let was = front_was (91 ∷ letter ∷ cs) h.0 rest b past h.1 in
    (drop (length (91 ∷ letter ∷ cs)) rest, was.0, subst (λ (t : List ℕ). IsGap t) (sym was.1) h.2)

kind_was : (rest b : List ℕ) (k : ℕ) → OccursAt rest end_mark k → IsUnsupported (rest ++ b) → IsUnsupported rest
kind_was rest b k o (inl h) = inl (word_was 102 (codes "delta") rest b k (λ e. omega arith) refl o h)
kind_was rest b k o (inr (inl h)) = inr (inl (word_was 107 (codes "eypair") rest b k (λ e. omega arith) refl o h))
kind_was rest b k o (inr (inr h)) = inr (inr (word_was 112 (codes "rivkey") rest b k (λ e. omega arith) refl o h))

ours_stays : (rest b one : List ℕ) → IsOfOurKinds rest one → IsOfOurKinds (rest ++ b) one
ours_stays rest b one h = record {
  ends = end_stays rest b one h.ends;
  supported = λ u. h.supported (kind_was rest b h.ends.place h.ends.found.1 u);
}

fault_stays : (w : PacketWhy) (rest b : List ℕ) → (FindsNeedle rest end_mark 0 None → ⊥) → IsFault w rest → IsFault w (rest ++ b)
fault_stays why.Truncated rest b ends f = absurd (ends f)
fault_stays why.Unsupported rest b ends f = (f.0, end_stays rest b f.0 f.1, kind_stays rest b f.2)
fault_stays why.NotPacket rest b ends f = (f.0, ours_stays rest b f.0 f.1, f.2)
fault_stays why.BadBase64 rest b ends f = (f.0, ours_stays rest b f.0 f.1, f.2, f.3)

-- ---- what ends with `[end]` is not truncated

-- what the last byte of packets is
abbrev closes : ℕ → Bool
closes b = is_space b || b == 93

record IsClosed (text : List ℕ) : Type 0 where
  front : List ℕ
  last : ℕ
  whole : text ≡ front ++ (last ∷ [])
  closed : closes last ≡ true

space_closes : (b : ℕ) → is_space b ≡ true → closes b ≡ true
space_closes b e = grind (arith, e)

blank_closed : (b : ℕ) (bs : List ℕ) → IsBlank (b ∷ bs) → IsClosed (b ∷ bs)
blank_closed b [] h = record { front = []; last = b; whole = refl; closed = space_closes b (and_parts _ _ h).0 }
blank_closed b (c ∷ cs) h =
    let more = blank_closed c cs (and_parts (is_space b) _ h).1 in
    record { front = b ∷ more.front; last = more.last; whole = ap (λ (t : List ℕ). b ∷ t) more.whole; closed = more.closed }

more_closed : (front text : List ℕ) → IsClosed text → IsClosed (front ++ text)
more_closed front text h = record {
  front = front ++ h.front;
  last = h.last;
  whole = ap (λ (t : List ℕ). front ++ t) h.whole ∙ sym (append_assoc front h.front (h.last ∷ []));
  closed = h.closed;
}

closed_by : (one rest : List ℕ) → IsClosed one → (0 < length rest → IsClosed rest) → IsClosed (one ++ rest)
closed_by one [] h more = subst (λ (t : List ℕ). IsClosed t) (sym (append-nil one)) h
closed_by one (x ∷ xs) h more = more_closed one (x ∷ xs) (more (omega arith))

packets_closed : (ps : List Packet) (text : List ℕ) → ArePackets ps text → 0 < length text → IsClosed text
packets_closed [] [] s some = absurd (omega (arith, some))
packets_closed [] (x ∷ xs) s some = blank_closed x xs s
packets_closed (p ∷ ps) text s some =
    let ends = is_ended IsBase64 p s.1 s.4 in
    let one : IsClosed s.1 = record {
      front = (91 ∷ ends.letter ∷ ends.more) ++ codes "[end";
      last = 93;
      whole = ends.whole ∙ sym (append_assoc (91 ∷ ends.letter ∷ ends.more) (codes "[end") (93 ∷ []));
      closed = refl;
    } in
    subst (λ (t : List ℕ). IsClosed t) (sym s.6) (more_closed s.0 (s.1 ++ s.2) (closed_by s.1 s.2 one (packets_closed ps s.2 s.5)))

-- the first four bytes of `[end]` close no packet
opens : (j : ℕ) → j < 4 → closes (get_or end_mark j 0) ≡ true → ⊥
opens zero lt e = true≢false (sym e)
opens (suc zero) lt e = true≢false (sym e)
opens (suc (suc zero)) lt e = true≢false (sym e)
opens (suc (suc (suc zero))) lt e = true≢false (sym e)
opens (suc (suc (suc (suc j)))) lt e = absurd (omega (arith, lt))

-- an input that ends with an `[end]`: behind its packets stands one
not_truncated : (ps : List Packet) (a front rest : List ℕ) → EndsAtMark a → ArePackets ps front → a ≡ front ++ rest → 0 < length rest → FindsNeedle rest end_mark 0 None → ⊥
not_truncated ps a front rest e s whole some none =
    let len : length front + length rest ≡ e.place + 5 = sym (length-append front rest) ∙ sym (ap length whole) ∙ e.last in
    omega (
      arith,
      λ (behind : length front ≤ e.place).
          let at = e.place - length front in
          none at (omega arith) (omega (arith, len, behind)) (record {
            fits = omega (arith, len, behind);
            reads = λ j lt.
                let there : length front + (at + j) ≡ e.place + j = omega (arith, behind) in
                sym (get_or-append-add front rest (at + j) 0) ∙ ap (λ (n : ℕ). get_or (front ++ rest) n 0) there ∙ ap (λ (t : List ℕ). get_or t (e.place + j) 0) (sym whole) ∙ e.stands.reads j lt;
          }),
      λ (before : e.place < length front).
          let c = packets_closed ps front s (omega (arith, before)) in
          let size : length front ≡ length c.front + 1 = ap length c.whole ∙ length-append c.front (c.last ∷ []) in
          let j = length c.front - e.place in
          let few : j < 4 = omega (arith, len, size, some, before) in
          let there : e.place + j ≡ length c.front + 0 = omega (arith, size, before) in
          let split : a ≡ c.front ++ ((c.last ∷ []) ++ rest) = whole ∙ ap (λ (t : List ℕ). t ++ rest) c.whole ∙ append_assoc c.front (c.last ∷ []) rest in
          let last : get_or a (e.place + j) 0 ≡ c.last =
          ap (λ (n : ℕ). get_or a n 0) there ∙ ap (λ (t : List ℕ). get_or t (length c.front + 0) 0) split ∙ get_or-append-add c.front ((c.last ∷ []) ++ rest) 0 0 in
          opens j few (ap closes (sym (e.stands.reads j (omega (arith, few))) ∙ last) ∙ c.closed),
    )

begins_stays : (rest b : List ℕ) → BeginsPacket rest → BeginsPacket (rest ++ b)
begins_stays rest b h = (omega (arith, h.0, length-append rest b), ap (list_all is_space) (one_stays rest b h.0) ∙ h.1)

first_fault : (a b : List ℕ) (n : ℕ) (w : PacketWhy) → EndsAtMark a → FailsAt a n w → FailsAt (a ++ b) n w
first_fault a b n w e f = record {
  before = f.before;
  front = f.front;
  rest = f.rest ++ b;
  good = f.good;
  whole = ap (λ (t : List ℕ). t ++ b) f.whole ∙ append_assoc f.front f.rest b;
  counted = f.counted;
  begins = begins_stays f.rest b f.begins;
  fault = fault_stays w f.rest b (not_truncated f.before a f.front f.rest e f.good f.whole f.begins.0) f.fault;
}

-- ---- where a text is cut

pub cut_behind : (text : List ℕ) (from place : ℕ) → from ≤ length text → OccursAt (cut from text) end_mark place → (from + place + 5 ≤ length text) × EndsAtMark (take (from + place + 5) text)
cut_behind text from place within o =
    let found : OccursAt (drop from text) end_mark place = subst (λ (t : List ℕ). OccursAt t end_mark place) (cut_is from text) o in
    let room : from + place + 5 ≤ length text = omega (arith, found.fits, length-drop from text, within) in
    let size : length (take (from + place + 5) text) ≡ from + place + 5 = length-take-le (from + place + 5) text room in (
      room,
      record {
        place = from + place;
        stands = record {
          fits = omega (arith, size);
          reads = λ j lt.
              let there : from + place + j ≡ from + (place + j) = omega arith in
              get_or-take (from + place + 5) text (from + place + j) 0 (omega (arith, lt)) ∙ ap (λ (n : ℕ). get_or text n 0) there ∙ sym (get_or-drop from text (place + j) 0) ∙ found.reads j lt;
        };
        last = size;
      },
    )

pub error_stays : (a b : List ℕ) (e : PacketError) → EndsAtMark a → IsError e a → IsError e (a ++ b)
error_stays a b (BadPacket n w) ends f = first_fault a b n w ends f
error_stays a b NoMemory ends f = tt

pub error_later : (ps : List Packet) (a b : List ℕ) (e : PacketError) → ArePackets ps a → IsError e b → IsError (error_behind (length ps) e) (a ++ b)
error_later ps a b (BadPacket n w) s f = later_fault ps a b n w s f
error_later ps a b NoMemory s f = tt

pub fits_later : (ps : List Packet) (a b : List ℕ) (e : PacketError) → ArePackets ps a → IsError e b → length a + length b < 2 ^ 64 → FitsBehind (length ps) e
fits_later ps a b (BadPacket n w) s f room = omega (arith, later_fits ps a b n w s f, room)
fits_later ps a b NoMemory s f room = tt

-- the packets that an input is are what is read, whatever they are read by
pub those_alone : (ps qs : List Packet) (text : List ℕ) → ArePackets ps text → ArePackets qs text → qs ≡ ps
those_alone ps qs text s t = one_list qs ps text t s

pub no_other_error : (ps : List Packet) (text : List ℕ) (e : PacketError) → ArePackets ps text → IsError e text → e ≡ NoMemory
no_other_error ps text (BadPacket n w) s f = absurd (no_failure ps text n w s f)
no_other_error ps text NoMemory s f = refl
