-- An input is one list of packets, or fails at one place by one fault.
use Rattle.std.proofs.Common.{◌≡◌, inl, inr, ℕ, ◌+◌, ◌-◌, ◌<◌, ◌≤◌, true, cond, true≢false, List, [], ◌∷◌, ◌++◌, length, take, drop, get_or, Some, refl, sym, ap, subst, ◌∙◌, arith, append_assoc}
use Rattle.std.specs.Prelude.{codes}
use Rattle.std.proofs.Math.Seq.{take-add}
use Rattle.memchr.specs.Find.{FindsNeedle}
use Rattle.std.specs.List.{list_all, prefix_len}
use Rattle.std.proofs.lemmas.Bool.{and_parts, false_from_ne_true}
use Rattle.std.proofs.lemmas.List.{append-nil, length-append, length-drop, take_all, drop-drop}
use Rattle.std.proofs.lemmas.List.Sums.{prefix_len-le-length}
use Rattle.mtn_base.specs.declared.refusal.PacketWhy.{PacketWhy}
use Rattle.mtn_base.specs.declared.refusal.PacketWhy.TheVariants as why
use Rattle.mtn_packets.specs.declared.packet.Packet.{Packet}
use Rattle.mtn_packets.specs.declared.packet.Packet.TheVariants as packet
use Rattle.mtn_packets.specs.Packets.{is_space, IsBlank, IsBase64, IsPacket, HasShape, ArePackets, end_mark}
use Rattle.mtn_packets.specs.Faults.{BeginsPacket, IsUnsupported, IsUpToEnd, IsFault, FailsAt}
use Rattle.mtn_packets.proofs.Fronts.{prefix_len_seam, front_passes, behind_front, stops_at}
use Rattle.mtn_packets.proofs.Steps.{cut, cut_is, put_together, cut_seam, take_seam}
use Rattle.mtn_packets.proofs.OneShape.{word_of, begun, one_packet}
use Rattle.mtn_packets.proofs.Ends.{IsEnded, is_ended, first_end, one_place, some_place, up_to_end}

-- ---- the packet at the front

-- a packet begins with `[`
pub no_gap : (one rest : List ℕ) → IsEnded one → prefix_len is_space (one ++ rest) ≡ 0
no_gap one rest e = ap (λ (t : List ℕ). prefix_len is_space (t ++ rest)) e.whole ∙ stops_at is_space 91 (((e.letter ∷ e.more) ++ end_mark) ++ rest) refl

pub record SameParts (a b x y : List ℕ) : Type 0 where
  pub front : a ≡ b
  pub rest : x ≡ y

parts_by : (a b x y : List ℕ) → a ++ x ≡ b ++ y → length a ≡ length b → SameParts a b x y
parts_by a b x y e len = record {
  front = sym (take_seam a x (a ++ x) (length a) refl refl) ∙ take_seam b y (a ++ x) (length a) e len;
  rest = sym (cut_seam a x (a ++ x) (length a) refl refl) ∙ cut_seam b y (a ++ x) (length a) e len;
}

-- the space at the front of a text
pub one_blank : (a b x y : List ℕ) → IsBlank a → IsBlank b → prefix_len is_space x ≡ 0 → prefix_len is_space y ≡ 0 → a ++ x ≡ b ++ y → SameParts a b x y
one_blank a b x y p q u v e =
    parts_by a b x y e (sym (prefix_len_seam is_space a x p u) ∙ ap (prefix_len is_space) e ∙ prefix_len_seam is_space b y q v)

-- the packet at the front of a text
pub one_front : (a b x y : List ℕ) → IsEnded a → IsEnded b → a ++ x ≡ b ++ y → SameParts a b x y
one_front a b x y p q e =
    let place = one_place (a ++ x) end_mark _ _ (first_end a x p) (subst (λ (t : List ℕ). FindsNeedle t end_mark 0 (Some (length (91 ∷ q.letter ∷ q.more)))) (sym e) (first_end b y q)) in
    parts_by a b x y e (ap length p.whole ∙ length-append (91 ∷ p.letter ∷ p.more) end_mark ∙ ap (λ (n : ℕ). n + 5) place ∙ sym (length-append (91 ∷ q.letter ∷ q.more) end_mark) ∙ sym (ap length q.whole))

-- ---- where an input stops

-- no space and no packet stands at the front
pub record Stops (rest : List ℕ) : Type 0 where
  pub no_space : prefix_len is_space rest ≡ 0
  pub no_packet : (p : Packet) (one more : List ℕ) → IsPacket p one → rest ≡ one ++ more → ⊥

pub end_stops : Stops []
end_stops = record {
  no_space = refl;
  no_packet = λ p one more h e. let ends = is_ended IsBase64 p one h in omega (arith, ap length e, length-append one more, ap length ends.whole);
}

pub record SameRun (a b : List Packet) (x y : List ℕ) : Type 0 where
  pub packets : a ≡ b
  pub rest : x ≡ y

-- a list of packets read from the front of a text: it and what is left are fixed, where nothing more can be read
pub one_run : (a b : List Packet) (x y u v : List ℕ) → ArePackets a x → ArePackets b y → Stops u → Stops v → x ++ u ≡ y ++ v → SameRun a b u v
one_run [] [] x y u v s t stop halt e = record { packets = refl; rest = (one_blank x y u v s t stop.no_space halt.no_space e).rest }
one_run [] (q ∷ qs) x y u v s t stop halt e =
    let ends = is_ended IsBase64 q t.1 t.4 in
    let behind : x ++ u ≡ t.0 ++ (t.1 ++ (t.2 ++ v)) = e ∙ ap (λ (w : List ℕ). w ++ v) t.6 ∙ simp append_assoc in
    let parts = one_blank x t.0 u (t.1 ++ (t.2 ++ v)) s t.3 stop.no_space (no_gap t.1 (t.2 ++ v) ends) behind in
    absurd (stop.no_packet q t.1 (t.2 ++ v) t.4 parts.rest)
one_run (p ∷ ps) [] x y u v s t stop halt e =
    let ends = is_ended IsBase64 p s.1 s.4 in
    let behind : y ++ v ≡ s.0 ++ (s.1 ++ (s.2 ++ u)) = sym e ∙ ap (λ (w : List ℕ). w ++ u) s.6 ∙ simp append_assoc in
    let parts = one_blank y s.0 v (s.1 ++ (s.2 ++ u)) t s.3 halt.no_space (no_gap s.1 (s.2 ++ u) ends) behind in
    absurd (halt.no_packet p s.1 (s.2 ++ u) s.4 parts.rest)
one_run (p ∷ ps) (q ∷ qs) x y u v s t stop halt e =
    let left = is_ended IsBase64 p s.1 s.4 in
    let right = is_ended IsBase64 q t.1 t.4 in
    let whole : s.0 ++ (s.1 ++ (s.2 ++ u)) ≡ t.0 ++ (t.1 ++ (t.2 ++ v)) =
    sym (ap (λ (w : List ℕ). w ++ u) s.6 ∙ simp append_assoc) ∙ e ∙ ap (λ (w : List ℕ). w ++ v) t.6 ∙ simp append_assoc in
    let blanks = one_blank s.0 t.0 (s.1 ++ (s.2 ++ u)) (t.1 ++ (t.2 ++ v)) s.3 t.3 (no_gap s.1 (s.2 ++ u) left) (no_gap t.1 (t.2 ++ v) right) whole in
    let fronts = one_front s.1 t.1 (s.2 ++ u) (t.2 ++ v) left right blanks.rest in
    let same : p ≡ q = one_packet p q s.1 s.4 (subst (λ (w : List ℕ). IsPacket q w) (sym fronts.front) t.4) in
    let more = one_run ps qs s.2 t.2 u v s.5 t.5 stop halt fronts.rest in
    record { packets = ap (λ (r : Packet). r ∷ ps) same ∙ ap (λ (rs : List Packet). q ∷ rs) more.packets; rest = more.rest }

-- two lists that a text is are one
pub one_list : (a b : List Packet) (text : List ℕ) → ArePackets a text → ArePackets b text → a ≡ b
one_list a b text s t = (one_run a b text text [] [] s t end_stops end_stops refl).packets

-- ---- faults

pub as_it_stands : (p : Packet) (text : List ℕ) → IsPacket p text → HasShape text
as_it_stands (packet.File i x) text h =
    (packet.File i h.body, record { head = h.head; body = h.body; tail = h.tail; framed = h.framed; id_first = h.id_first; nothing_more = h.nothing_more; payload = refl })
as_it_stands (packet.Revision i x) text h =
    (packet.Revision i h.body, record { head = h.head; body = h.body; tail = h.tail; framed = h.framed; id_first = h.id_first; nothing_more = h.nothing_more; payload = refl })
as_it_stands (packet.Cert r n k v g) text h = (
  packet.Cert r n k h.after_key h.body,
  record {
    head = h.head;
    body = h.body;
    after_revision = h.after_revision;
    after_name = h.after_name;
    key_field = h.key_field;
    after_key = h.after_key;
    framed = h.framed;
    revision_first = h.revision_first;
    name_next = h.name_next;
    key_next = h.key_next;
    key_is = h.key_is;
    value_is = refl;
    signature_is = refl;
  },
)
as_it_stands packet.Passed text h =
    (packet.Passed, record { head = h.head; body = h.body; field = h.field; tail = h.tail; bytes = h.body; framed = h.framed; field_first = h.field_first; nothing_more = h.nothing_more; payload = refl })

differ : (at a b : ℕ) (xs ys : List ℕ) → xs ≡ ys → get_or xs at 0 ≡ a → get_or ys at 0 ≡ b → (a ≡ b → ⊥) → ⊥
differ at a b xs ys e p q apart = apart (sym p ∙ ap (λ (t : List ℕ). get_or t at 0) e ∙ q)

-- the words of our kinds and of the others differ
not_delta : (p : Packet) (x y : List ℕ) → word_of p ++ x ≡ codes "[fdelta" ++ y → ⊥
not_delta (packet.File i b) x y e = differ 3 97 101 _ _ e refl refl (λ n. omega arith)
not_delta (packet.Revision i b) x y e = differ 1 114 102 _ _ e refl refl (λ n. omega arith)
not_delta (packet.Cert r n k v g) x y e = differ 1 114 102 _ _ e refl refl (λ n. omega arith)
not_delta packet.Passed x y e = differ 1 112 102 _ _ e refl refl (λ n. omega arith)

not_keypair : (p : Packet) (x y : List ℕ) → word_of p ++ x ≡ codes "[keypair" ++ y → ⊥
not_keypair (packet.File i b) x y e = differ 1 102 107 _ _ e refl refl (λ n. omega arith)
not_keypair (packet.Revision i b) x y e = differ 1 114 107 _ _ e refl refl (λ n. omega arith)
not_keypair (packet.Cert r n k v g) x y e = differ 1 114 107 _ _ e refl refl (λ n. omega arith)
not_keypair packet.Passed x y e = differ 1 112 107 _ _ e refl refl (λ n. omega arith)

not_privkey : (p : Packet) (x y : List ℕ) → word_of p ++ x ≡ codes "[privkey" ++ y → ⊥
not_privkey (packet.File i b) x y e = differ 1 102 112 _ _ e refl refl (λ n. omega arith)
not_privkey (packet.Revision i b) x y e = differ 1 114 112 _ _ e refl refl (λ n. omega arith)
not_privkey (packet.Cert r n k v g) x y e = differ 1 114 112 _ _ e refl refl (λ n. omega arith)
not_privkey packet.Passed x y e = differ 2 117 114 _ _ e refl refl (λ n. omega arith)

supported : (p : Packet) (text more : List ℕ) → text ≡ word_of p ++ more → IsUnsupported text → ⊥
supported p text more e (inl d) = not_delta p more d.0 (sym e ∙ d.1)
supported p text more e (inr (inl d)) = not_keypair p more d.0 (sym e ∙ d.1)
supported p text more e (inr (inr d)) = not_privkey p more d.0 (sym e ∙ d.1)

-- a packet has no fault
pub no_fault : (w : PacketWhy) (p : Packet) (one more : List ℕ) → IsPacket p one → IsFault w (one ++ more) → ⊥
no_fault why.Truncated p one more h f = let e = is_ended IsBase64 p one h in some_place (one ++ more) end_mark _ (first_end one more e) f
no_fault why.Unsupported p one more h f =
    let b = begun IsBase64 p one h in
    supported p (one ++ more) (b.more ++ more) (ap (λ (t : List ℕ). t ++ more) b.whole ∙ append_assoc (word_of p) b.more more) f.2
no_fault why.NotPacket p one more h f =
    let same = up_to_end one more f.0 (is_ended IsBase64 p one h) f.1.ends in
    f.2 (subst (λ (t : List ℕ). HasShape t) (sym same) (as_it_stands p one h))
no_fault why.BadBase64 p one more h f =
    let same = up_to_end one more f.0 (is_ended IsBase64 p one h) f.1.ends in
    f.3 p (subst (λ (t : List ℕ). IsPacket p t) (sym same) h)

starts_no_space : (rest : List ℕ) → BeginsPacket rest → prefix_len is_space rest ≡ 0
starts_no_space [] b = refl
starts_no_space (x ∷ xs) b = stops_at is_space x xs (false_from_ne_true _ (λ t. true≢false (sym (grind (arith, t)) ∙ b.1)))

pub fault_stops : (w : PacketWhy) (rest : List ℕ) → BeginsPacket rest → IsFault w rest → Stops rest
fault_stops w rest b f = record {
  no_space = starts_no_space rest b;
  no_packet = λ p one more h e. no_fault w p one more h (subst (λ (t : List ℕ). IsFault w t) e f);
}

-- the rest up to its first `[end]` is one text
pub one_end : (rest a b : List ℕ) → IsUpToEnd rest a → IsUpToEnd rest b → a ≡ b
one_end rest a b u v = u.front ∙ ap (λ (n : ℕ). take (n + 5) rest) (one_place rest end_mark u.place v.place u.found v.found) ∙ sym v.front

-- a rest has one first fault
pub one_why : (w v : PacketWhy) (rest : List ℕ) → IsFault w rest → IsFault v rest → w ≡ v
one_why why.Truncated why.Truncated rest f g = refl
one_why why.Truncated why.Unsupported rest f g = absurd (some_place rest end_mark _ g.1.found f)
one_why why.Truncated why.NotPacket rest f g = absurd (some_place rest end_mark _ g.1.ends.found f)
one_why why.Truncated why.BadBase64 rest f g = absurd (some_place rest end_mark _ g.1.ends.found f)
one_why why.Unsupported why.Truncated rest f g = absurd (some_place rest end_mark _ f.1.found g)
one_why why.Unsupported why.Unsupported rest f g = refl
one_why why.Unsupported why.NotPacket rest f g = absurd (g.1.supported f.2)
one_why why.Unsupported why.BadBase64 rest f g = absurd (g.1.supported f.2)
one_why why.NotPacket why.Truncated rest f g = absurd (some_place rest end_mark _ f.1.ends.found g)
one_why why.NotPacket why.Unsupported rest f g = absurd (f.1.supported g.2)
one_why why.NotPacket why.NotPacket rest f g = refl
one_why why.NotPacket why.BadBase64 rest f g = absurd (f.2 (subst (λ (t : List ℕ). HasShape t) (one_end rest g.0 f.0 g.1.ends f.1.ends) g.2))
one_why why.BadBase64 why.Truncated rest f g = absurd (some_place rest end_mark _ f.1.ends.found g)
one_why why.BadBase64 why.Unsupported rest f g = absurd (f.1.supported g.2)
one_why why.BadBase64 why.NotPacket rest f g = absurd (g.2 (subst (λ (t : List ℕ). HasShape t) (one_end rest f.0 g.0 f.1.ends g.1.ends) f.2))
one_why why.BadBase64 why.BadBase64 rest f g = refl

-- an input fails at one packet, by one fault
pub one_fault : (text : List ℕ) (n m : ℕ) (w v : PacketWhy) → FailsAt text n w → FailsAt text m v → (n ≡ m) × (w ≡ v)
one_fault text n m w v f g =
    let run = one_run f.before g.before f.front g.front f.rest g.rest f.good g.good (fault_stops w f.rest f.begins f.fault) (fault_stops v g.rest g.begins g.fault) (sym f.whole ∙ g.whole) in
    (f.counted ∙ ap (λ (ps : List Packet). length ps + 1) run.packets ∙ sym g.counted, one_why w v f.rest f.fault (subst (λ (t : List ℕ). IsFault v t) (sym run.rest) g.fault))

-- an input that is a list of packets does not fail
pub no_failure : (packets : List Packet) (text : List ℕ) (n : ℕ) (w : PacketWhy) → ArePackets packets text → FailsAt text n w → ⊥
no_failure packets text n w s f =
    let run = one_run packets f.before text f.front [] f.rest s f.good end_stops (fault_stops w f.rest f.begins f.fault) (append-nil text ∙ f.whole) in
    omega (arith, ap length run.rest, f.begins.0)

-- ---- one more packet

pub more_packets : (ps : List Packet) (p : Packet) (front one blank : List ℕ) → ArePackets ps front → IsPacket p one → IsBlank blank → ArePackets (ps ++ p ∷ []) (front ++ (one ++ blank))
more_packets [] p front one blank s h b = (front, one, blank, s, h, b, refl)
more_packets (q ∷ qs) p front one blank s h b =
    (s.0, s.1, s.2 ++ (one ++ blank), s.3, s.4, more_packets qs p s.2 one blank s.5 h b, ap (λ (t : List ℕ). t ++ (one ++ blank)) s.6 ∙ simp append_assoc)

-- ---- the places of the reader

pub record IsRead (text : List ℕ) (ps : List Packet) (at : ℕ) : Type 0 where
  pub within : at ≤ length text
  pub done : ArePackets ps (take at text)
  pub begins : prefix_len is_space (drop at text) ≡ 0

pub read_none : (text : List ℕ) (at : ℕ) → at ≡ prefix_len is_space text → IsRead text [] at
read_none text at is = record {
  within = omega (arith, is, prefix_len-le-length is_space text);
  done = ap (λ (n : ℕ). list_all is_space (take n text)) is ∙ front_passes is_space text;
  begins = ap (λ (n : ℕ). prefix_len is_space (drop n text)) is ∙ behind_front is_space text;
}

pub read_more : (text : List ℕ) (ps : List Packet) (p : Packet) (at len gap : ℕ) → IsRead text ps at → IsPacket p (take len (cut at text)) → len ≤ length (cut at text)
    → gap ≡ prefix_len is_space (cut (at + len) text) → IsRead text (ps ++ p ∷ []) (at + len + gap)
read_more text ps p at len gap r h fits is =
    let rest : cut at text ≡ drop at text = cut_is at text in
    let behind : cut (at + len) text ≡ drop (at + len) text = cut_is (at + len) text in
    let small : gap ≤ length (drop (at + len) text) = omega (arith, is, ap (prefix_len is_space) behind, prefix_len-le-length is_space (drop (at + len) text)) in
    let room : len ≤ length text - at = omega (arith, fits, ap length rest, length-drop at text) in
    let last : take (at + len + gap) text ≡ take at text ++ (take len (drop at text) ++ take gap (drop (at + len) text)) =
    take-add (at + len) gap text ∙ ap (λ (t : List ℕ). t ++ take gap (drop (at + len) text)) (take-add at len text) ∙ append_assoc (take at text) (take len (drop at text)) (take gap (drop (at + len) text)) in
    let blank : IsBlank (take gap (drop (at + len) text)) =
    ap (λ (n : ℕ). list_all is_space (take n (drop (at + len) text))) (is ∙ ap (prefix_len is_space) behind) ∙ front_passes is_space (drop (at + len) text) in
    let one : IsPacket p (take len (drop at text)) = subst (λ (t : List ℕ). IsPacket p (take len t)) rest h in
    record {
      within = omega (arith, small, length-drop (at + len) text, r.within, room);
      done = subst (λ (t : List ℕ). ArePackets (ps ++ p ∷ []) t) (sym last) (more_packets ps p (take at text) _ _ r.done one blank);
      begins = ap (prefix_len is_space) (sym (drop-drop gap (at + len) text)) ∙ ap (λ (n : ℕ). prefix_len is_space (drop n (drop (at + len) text))) (is ∙ ap (prefix_len is_space) behind) ∙ behind_front is_space (drop (at + len) text);
    }

begins_by : (rest : List ℕ) → 0 < length rest → prefix_len is_space rest ≡ 0 → BeginsPacket rest
begins_by [] some e = absurd (omega arith)
begins_by (x ∷ xs) some e = (some, false_from_ne_true _ (λ t. let first : is_space x ≡ true = (and_parts (is_space x) true t).0 in omega (arith, sym (ap (λ b. cond b (1 + prefix_len is_space xs) 0) first) ∙ e)))

pub fails_at : (text : List ℕ) (ps : List Packet) (at n : ℕ) (w : PacketWhy) → IsRead text ps at → at < length text → n ≡ length ps + 1 → IsFault w (cut at text) → FailsAt text n w
fails_at text ps at n w r lt counted fault = record {
  before = ps;
  front = take at text;
  rest = cut at text;
  good = r.done;
  whole = put_together at text;
  counted = counted;
  begins = begins_by (cut at text) (omega (arith, ap length (cut_is at text), length-drop at text)) (ap (prefix_len is_space) (cut_is at text) ∙ r.begins);
  fault = fault;
}

pub all_read : (text : List ℕ) (ps : List Packet) (at : ℕ) → IsRead text ps at → (at < length text → ⊥) → ArePackets ps text
all_read text ps at r past = subst (λ (t : List ℕ). ArePackets ps t) (take_all at text (omega (arith, past))) r.done
