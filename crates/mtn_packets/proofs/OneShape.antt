-- A text has one shape, and is one packet at most: its word tells its kind, and each part of it has one reading.
use Rattle.std.proofs.Common.{◌≡◌, ℕ, List, ◌++◌, get_or, refl, sym, ap, subst, ◌∙◌, arith}
use Rattle.std.specs.Prelude.{codes}
use Rattle.base64.specs.Engines.{standard}
use Rattle.base64.specs.GeneralPurpose.{encode_of, decode_of}
use Rattle.base64.proofs.EngineFacts.{decode_of-encode_of}
use Rattle.mtn_base.specs.declared.id.Id.{Id}
use Rattle.mtn_packets.specs.declared.packet.Packet.{Packet}
use Rattle.mtn_packets.specs.declared.packet.Packet.TheVariants as packet
use Rattle.mtn_packets.specs.declared.packet.PacketKey.{PacketKey}
use Rattle.mtn_packets.specs.Packets.{Reading, SpacedId, SpacedField, IsBase64, IsData, IsCert, IsShape, IsPacket, key_of}
use Rattle.mtn_packets.proofs.Steps.{one_id, one_field, one_frame}

-- one part in two readings
pub record OnePart (B C : Reading) (x y : List ℕ) : Type 0 where
  pub part : List ℕ
  pub first : B part x
  pub second : C part y

-- the parts of two certificates
pub record SameCert (B C : Reading) (r r' : Id) (n n' : List ℕ) (k k' : PacketKey) (v v' s s' : List ℕ) : Type 0 where
  pub revision : r ≡ r'
  pub name : n ≡ n'
  pub key : k ≡ k'
  pub value : OnePart B C v v'
  pub signature : OnePart B C s s'

-- two packets, alike but for the reading of their base64 parts
abbrev pub SameShape : Reading → Reading → Packet → Packet → Type 0
SameShape B C (packet.File i x) (packet.File j y) = (i ≡ j) × OnePart B C x y
SameShape B C (packet.Revision i x) (packet.Revision j y) = (i ≡ j) × OnePart B C x y
SameShape B C (packet.Cert r n k v s) (packet.Cert r' n' k' v' s') = SameCert B C r r' n n' k k' v v' s s'
SameShape B C packet.Passed packet.Passed = Unit {0}
SameShape B C p q = ⊥

-- the word of a packet
abbrev pub word_of : Packet → List ℕ
word_of (packet.File i x) = codes "[fdata"
word_of (packet.Revision i x) = codes "[rdata"
word_of (packet.Cert r n k v s) = codes "[rcert"
word_of packet.Passed = codes "[pubkey"

pub record Begun (p : Packet) (text : List ℕ) : Type 0 where
  pub more : List ℕ
  pub whole : text ≡ word_of p ++ more

pub begun : (B : Reading) (p : Packet) (text : List ℕ) → IsShape B p text → Begun p text
begun B (packet.File i x) text s = record { more = _; whole = s.framed.whole }
begun B (packet.Revision i x) text s = record { more = _; whole = s.framed.whole }
begun B (packet.Cert r n k v g) text s = record { more = _; whole = s.framed.whole }
begun B packet.Passed text s = record { more = _; whole = s.framed.whole }

-- two ways to begin agree at each byte
pub agree : (at : ℕ) (text xs ys : List ℕ) → text ≡ xs → text ≡ ys → get_or xs at 0 ≡ get_or ys at 0
agree at text xs ys p q = ap (λ (t : List ℕ). get_or t at 0) (sym p ∙ q)

one_data : (B C : Reading) (word text : List ℕ) (i j : Id) (x y : List ℕ) → IsData B word text i x → IsData C word text j y → (i ≡ j) × OnePart B C x y
one_data B C word text i j x y s t =
    let frames = one_frame word text s.head t.head s.body t.body s.framed t.framed in
    let ids = one_id s.head i j s.tail t.tail s.id_first (subst (λ (h : List ℕ). SpacedId h j t.tail) (sym frames.head) t.id_first) in
    (ids.id, record { part = s.body; first = s.payload; second = subst (λ (b : List ℕ). C b y) (sym frames.body) t.payload })

one_cert : (B C : Reading) (text : List ℕ) (r r' : Id) (n n' : List ℕ) (k k' : PacketKey) (v v' g g' : List ℕ) → IsCert B text r n k v g → IsCert C text r' n' k' v' g' → SameCert B C r r' n n' k k' v v' g g'
one_cert B C text r r' n n' k k' v v' g g' s t =
    let frames = one_frame (codes "[rcert") text s.head t.head s.body t.body s.framed t.framed in
    let ids = one_id s.head r r' s.after_revision t.after_revision s.revision_first (subst (λ (h : List ℕ). SpacedId h r' t.after_revision) (sym frames.head) t.revision_first) in
    let names = one_field s.after_revision n n' s.after_name t.after_name s.name_next (subst (λ (h : List ℕ). SpacedField h n' t.after_name) (sym ids.rest) t.name_next) in
    let keys = one_field s.after_name s.key_field t.key_field s.after_key t.after_key s.key_next (subst (λ (h : List ℕ). SpacedField h t.key_field t.after_key) (sym names.rest) t.key_next) in
    record {
      revision = ids.id;
      name = names.field;
      key = s.key_is ∙ ap key_of keys.field ∙ sym t.key_is;
      value = record { part = s.after_key; first = s.value_is; second = subst (λ (b : List ℕ). C b v') (sym keys.rest) t.value_is };
      signature = record { part = s.body; first = s.signature_is; second = subst (λ (b : List ℕ). C b g') (sym frames.body) t.signature_is };
    }

-- the words differ at the first letter or the second
words_apart : (B C : Reading) (p q : Packet) (text : List ℕ) (at a b : ℕ) → IsShape B p text → IsShape C q text
    → ((more : List ℕ) → get_or (word_of p ++ more) at 0 ≡ a) → ((more : List ℕ) → get_or (word_of q ++ more) at 0 ≡ b) → (a ≡ b → ⊥) → ⊥
words_apart B C p q text at a b s t is_a is_b differ =
    let u = begun B p text s in
    let v = begun C q text t in
    differ (sym (is_a u.more) ∙ agree at text _ _ u.whole v.whole ∙ is_b v.more)

pub one_shape : (B C : Reading) (p q : Packet) (text : List ℕ) → IsShape B p text → IsShape C q text → SameShape B C p q
one_shape B C (packet.File i x) (packet.File j y) text s t = one_data B C _ text i j x y s t
one_shape B C (packet.Revision i x) (packet.Revision j y) text s t = one_data B C _ text i j x y s t
one_shape B C (packet.Cert r n k v g) (packet.Cert r' n' k' v' g') text s t = one_cert B C text r r' n n' k k' v v' g g' s t
one_shape B C packet.Passed packet.Passed text s t = tt
one_shape B C (packet.File i x) (packet.Revision j y) text s t = words_apart B C (packet.File i x) (packet.Revision j y) text 1 102 114 s t (λ m. refl) (λ m. refl) (λ e. omega arith)
one_shape B C (packet.File i x) (packet.Cert r n k v g) text s t = words_apart B C (packet.File i x) (packet.Cert r n k v g) text 1 102 114 s t (λ m. refl) (λ m. refl) (λ e. omega arith)
one_shape B C (packet.File i x) packet.Passed text s t = words_apart B C (packet.File i x) packet.Passed text 1 102 112 s t (λ m. refl) (λ m. refl) (λ e. omega arith)
one_shape B C (packet.Revision i x) (packet.File j y) text s t = words_apart B C (packet.Revision i x) (packet.File j y) text 1 114 102 s t (λ m. refl) (λ m. refl) (λ e. omega arith)
one_shape B C (packet.Revision i x) (packet.Cert r n k v g) text s t = words_apart B C (packet.Revision i x) (packet.Cert r n k v g) text 2 100 99 s t (λ m. refl) (λ m. refl) (λ e. omega arith)
one_shape B C (packet.Revision i x) packet.Passed text s t = words_apart B C (packet.Revision i x) packet.Passed text 1 114 112 s t (λ m. refl) (λ m. refl) (λ e. omega arith)
one_shape B C (packet.Cert r n k v g) (packet.File j y) text s t = words_apart B C (packet.Cert r n k v g) (packet.File j y) text 1 114 102 s t (λ m. refl) (λ m. refl) (λ e. omega arith)
one_shape B C (packet.Cert r n k v g) (packet.Revision j y) text s t = words_apart B C (packet.Cert r n k v g) (packet.Revision j y) text 2 99 100 s t (λ m. refl) (λ m. refl) (λ e. omega arith)
one_shape B C (packet.Cert r n k v g) packet.Passed text s t = words_apart B C (packet.Cert r n k v g) packet.Passed text 1 114 112 s t (λ m. refl) (λ m. refl) (λ e. omega arith)
one_shape B C packet.Passed (packet.File j y) text s t = words_apart B C packet.Passed (packet.File j y) text 1 112 102 s t (λ m. refl) (λ m. refl) (λ e. omega arith)
one_shape B C packet.Passed (packet.Revision j y) text s t = words_apart B C packet.Passed (packet.Revision j y) text 1 112 114 s t (λ m. refl) (λ m. refl) (λ e. omega arith)
one_shape B C packet.Passed (packet.Cert r n k v g) text s t = words_apart B C packet.Passed (packet.Cert r n k v g) text 1 112 114 s t (λ m. refl) (λ m. refl) (λ e. omega arith)

-- bytes have one base64, and it has one list of bytes
pub one_bytes : (x y : List ℕ) → OnePart IsBase64 IsBase64 x y → x ≡ y
one_bytes x y o =
    let first = decode_of-encode_of standard x refl o.first.lawful in
    let second = decode_of-encode_of standard y refl o.second.lawful in
    let coded : encode_of standard x ≡ encode_of standard y = sym o.first.coded ∙ o.second.coded in
    let same = ap (decode_of standard) coded in
    cc (first, second, same)

same_packet : (p q : Packet) → SameShape IsBase64 IsBase64 p q → p ≡ q
same_packet (packet.File i x) (packet.File j y) s = let e = one_bytes x y s.1 in cc (s.0, e)
same_packet (packet.Revision i x) (packet.Revision j y) s = let e = one_bytes x y s.1 in cc (s.0, e)
same_packet (packet.Cert r n k v g) (packet.Cert r' n' k' v' g') s =
    let e = one_bytes v v' s.value in
    let f = one_bytes g g' s.signature in
    cc (s.revision, s.name, s.key, e, f)
same_packet packet.Passed packet.Passed s = refl
same_packet p q s = absurd s

-- a text is one packet at most
pub one_packet : (p q : Packet) (text : List ℕ) → IsPacket p text → IsPacket q text → p ≡ q
one_packet p q text s t = same_packet p q (one_shape IsBase64 IsBase64 p q text s t)
