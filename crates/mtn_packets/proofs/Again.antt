-- What is printed is read as the packet.
use Rattle.std.proofs.Common.{◌≡◌, ℕ, suc, ◌+◌, ◌<◌, Bool, true, List, [], ◌∷◌, ◌++◌, length, take, get_or, refl, sym, ap, subst, ◌∙◌, arith, inl, inr, append_assoc}
use Rattle.std.specs.Prelude.{codes}
use Rattle.std.specs.List.{list_all, flat_map, All}
use Rattle.std.proofs.lemmas.Bool.{and_parts, and_from, cases_eq}
use Rattle.std.proofs.lemmas.List.{append-nil, take_more, flat_map_more, get_or_read, get_or-take, length-take}
use Rattle.hex.specs.Hex.{encode_lower}
use Rattle.base64.specs.GeneralPurpose.{IsBytes}
use Rattle.mtn_base.specs.declared.id.Id.{Id}
use Rattle.mtn_base.specs.Hex.{is_lower_digit}
use Rattle.mtn_packets.specs.declared.packet.Packet.{Packet}
use Rattle.mtn_packets.specs.declared.packet.Packet.TheVariants as packet
use Rattle.mtn_packets.specs.declared.packet.PacketKey.{PacketKey}
use Rattle.mtn_packets.specs.declared.packet.PacketKey.TheVariants as key
use Rattle.mtn_packets.specs.Packets.{is_space, is_plain, is_field_byte, has_no_bracket, IsField, IsBase64, IsBlank, SpacedId, SpacedField, IsData, IsCert, IsPacket, ArePackets, key_from, key_of, end_mark}
use Rattle.mtn_packets.specs.Printed.{payload_text, value_text, key_text, printed, IsKey, IsWritable, IsId, IsKeyOfBytes, IsOfBytes}
use Rattle.mtn_packets.proofs.Symbols.{all_both, plain_payload, packed_payload, plain_value, packed_value}
use Rattle.mtn_base.proofs.Digits.{id_again, id_text}

lower_is_plain : (b : ℕ) → is_lower_digit b ≡ true → is_plain b ≡ true
lower_is_plain b e = grind (arith, e)

lower_is_field : (b : ℕ) → is_lower_digit b ≡ true → is_field_byte b ≡ true
lower_is_field b e = grind (arith, e)

field_is_plain : (b : ℕ) → is_field_byte b ≡ true → is_plain b ≡ true
field_is_plain b e = grind (arith, e)

-- a test that implies another
all_weaker : (p q : ℕ → Bool) → ((b : ℕ) → p b ≡ true → q b ≡ true) → (xs : List ℕ) → list_all p xs ≡ true → list_all q xs ≡ true
all_weaker p q h [] all = refl
all_weaker p q h (x ∷ xs) all = let parts = and_parts (p x) (list_all p xs) all in and_from _ _ (h x parts.0) (all_weaker p q h xs parts.1)

-- ---- the head

pub spaced_id : (id : Id) (text rest : List ℕ) → IsId id → text ≡ 32 ∷ (encode_lower id.0 ++ rest) → SpacedId text id rest
spaced_id id text rest is whole = record { gap = 32 ∷ []; digits = encode_lower id.0; is_gap = (omega arith, refl); forty = id_text id is.0 is.1; is_id = id_again id is.0 is.1; whole = whole }

-- LF, seven spaces and a field, on a line of its own
pub spaced_field : (field rest : List ℕ) → IsField field → SpacedField (codes "\n       " ++ (field ++ 10 ∷ rest)) field (10 ∷ rest)
spaced_field field rest is = record { gap = codes "\n       "; is_gap = (omega arith, refl); is_field = is; is_apart = refl; whole = refl }

pub key_is_field : (k : PacketKey) → IsKey k → IsKeyOfBytes k → IsField (key_text k)
key_is_field (key.Id id) ok bytes =
    let text = id_text id bytes.0 bytes.1 in
    record { some = omega (arith, text.forty); most = omega (arith, text.forty); bytes = all_weaker is_lower_digit is_field_byte lower_is_field (encode_lower id.0) text.digits }
key_is_field (key.Name name) ok bytes = ok.0

pub key_again : (k : PacketKey) → IsKey k → IsKeyOfBytes k → k ≡ key_of (key_text k)
key_again (key.Id id) ok bytes = sym (ap (λ o. key_from o (encode_lower id.0)) (id_again id bytes.0 bytes.1))
key_again (key.Name name) ok bytes = sym (ap (λ o. key_from o name) ok.1)

plain_id : (id : Id) → IsId id → has_no_bracket (encode_lower id.0) ≡ true
plain_id id is = all_weaker is_lower_digit is_plain lower_is_plain (encode_lower id.0) (id_text id is.0 is.1).digits

plain_field : (field : List ℕ) → IsField field → has_no_bracket field ≡ true
plain_field field is = all_weaker is_field_byte is_plain field_is_plain field is.bytes

-- ---- base64 parts

payload_part : (bytes : List ℕ) → IsBytes bytes → IsBase64 (10 ∷ payload_text bytes) bytes
payload_part bytes lawful = record { lawful = lawful; coded = packed_payload bytes }

value_part : (bytes : List ℕ) → IsBytes bytes → IsBase64 (codes "\n       " ++ value_text bytes) bytes
value_part bytes lawful = record { lawful = lawful; coded = packed_value bytes }

-- ---- packets

-- the packet, without the LF behind it
abbrev pub bare : List ℕ → List ℕ → List ℕ
bare head bytes = head ++ (93 ∷ ((10 ∷ payload_text bytes) ++ end_mark))

-- the packet of a printed form, which has an LF behind it
pub record IsPrinted (p : Packet) : Type 0 where
  pub one : List ℕ
  pub is_packet : IsPacket p one
  pub whole : printed p ≡ one ++ 10 ∷ []

data_text_is : (word digits payload mark : List ℕ) → word ++ (32 ∷ (digits ++ (93 ∷ (10 ∷ (payload ++ (mark ++ 10 ∷ [])))))) ≡ (word ++ ((32 ∷ digits) ++ (93 ∷ ((10 ∷ payload) ++ mark)))) ++ 10 ∷ []
data_text_is word digits payload mark = simp append_assoc

data_again : (word : List ℕ) (id : Id) (bytes : List ℕ) → IsId id → IsBytes bytes → IsData IsBase64 word (word ++ bare (32 ∷ encode_lower id.0) bytes) id bytes
data_again word id bytes is lawful = record {
  head = 32 ∷ encode_lower id.0;
  body = 10 ∷ payload_text bytes;
  tail = [];
  framed = record { head_plain = plain_id id is; body_plain = plain_payload bytes; whole = refl };
  id_first = spaced_id id (32 ∷ encode_lower id.0) [] is (ap (λ (t : List ℕ). 32 ∷ t) (sym (append-nil (encode_lower id.0))));
  nothing_more = refl;
  payload = payload_part bytes lawful;
}

-- the head of a certificate
abbrev cert_head : List ℕ → List ℕ → List ℕ → List ℕ → List ℕ
cert_head digits name field value = 32 ∷ (digits ++ (codes "\n       " ++ (name ++ (codes "\n       " ++ (field ++ (codes "\n       " ++ value))))))

cert_text_is : (word digits feed gap name field value close payload mark : List ℕ)
    → (((word ++ digits) ++ feed) ++ (((gap ++ name) ++ feed) ++ (gap ++ field))) ++ (feed ++ ((gap ++ value) ++ (close ++ (payload ++ (mark ++ feed)))))
    ≡ ((word ++ (digits ++ ((feed ++ gap) ++ (name ++ ((feed ++ gap) ++ (field ++ ((feed ++ gap) ++ value))))))) ++ ((close ++ payload) ++ mark)) ++ feed
cert_text_is word digits feed gap name field value close payload mark = simp append_assoc

plain_head : (digits name field value : List ℕ) → has_no_bracket digits ≡ true → has_no_bracket name ≡ true → has_no_bracket field ≡ true → has_no_bracket value ≡ true → has_no_bracket (cert_head digits name field value) ≡ true
plain_head digits name field value d n f v =
    let last : has_no_bracket (codes "\n       " ++ value) ≡ true = v in
    let third : has_no_bracket (codes "\n       " ++ (field ++ (codes "\n       " ++ value))) ≡ true = all_both is_plain field (codes "\n       " ++ value) f last in
    let second : has_no_bracket (codes "\n       " ++ (name ++ (codes "\n       " ++ (field ++ (codes "\n       " ++ value))))) ≡ true = all_both is_plain name (codes "\n       " ++ (field ++ (codes "\n       " ++ value))) n third in
    all_both is_plain digits (codes "\n       " ++ (name ++ (codes "\n       " ++ (field ++ (codes "\n       " ++ value))))) d second

cert_again : (revision : Id) (name : List ℕ) (k : PacketKey) (value signature : List ℕ) → IsField name → IsKey k → IsId revision → IsKeyOfBytes k → IsBytes value → IsBytes signature
    → IsCert IsBase64 (codes "[rcert" ++ bare (cert_head (encode_lower revision.0) name (key_text k) (value_text value)) signature) revision name k value signature
cert_again revision name k value signature named keyed is key_is v s =
    let field = key_is_field k keyed key_is in
    record {
      head = cert_head (encode_lower revision.0) name (key_text k) (value_text value);
      body = 10 ∷ payload_text signature;
      after_revision = codes "\n       " ++ (name ++ (codes "\n       " ++ (key_text k ++ (codes "\n       " ++ value_text value))));
      after_name = codes "\n       " ++ (key_text k ++ (codes "\n       " ++ value_text value));
      key_field = key_text k;
      after_key = codes "\n       " ++ value_text value;
      framed = record {
        head_plain = plain_head (encode_lower revision.0) name (key_text k) (value_text value) (plain_id revision is) (plain_field name named) (plain_field (key_text k) field) (plain_value value);
        body_plain = plain_payload signature;
        whole = refl;
      };
      revision_first = spaced_id revision _ _ is refl;
      name_next = spaced_field name _ named;
      key_next = spaced_field (key_text k) _ field;
      key_is = key_again k keyed key_is;
      value_is = value_part value v;
      signature_is = payload_part signature s;
    }

pub is_printed : (p : Packet) → IsWritable p → IsOfBytes p → IsPrinted p
is_printed (packet.File id bytes) w o = record {
  one = codes "[fdata" ++ bare (32 ∷ encode_lower id.0) bytes;
  is_packet = data_again (codes "[fdata") id bytes o.0 o.1;
  whole = data_text_is (codes "[fdata") (encode_lower id.0) (payload_text bytes) end_mark;
}
is_printed (packet.Revision id bytes) w o = record {
  one = codes "[rdata" ++ bare (32 ∷ encode_lower id.0) bytes;
  is_packet = data_again (codes "[rdata") id bytes o.0 o.1;
  whole = data_text_is (codes "[rdata") (encode_lower id.0) (payload_text bytes) end_mark;
}
is_printed (packet.Cert revision name k value signature) w o = record {
  one = codes "[rcert" ++ bare (cert_head (encode_lower revision.0) name (key_text k) (value_text value)) signature;
  is_packet = cert_again revision name k value signature w.0 w.1 o.0 o.1 o.2 o.3;
  whole = cert_text_is (codes "[rcert ") (encode_lower revision.0) (codes "\n") (codes "       ") name (key_text k) (value_text value) (codes "]\n") (payload_text signature) end_mark;
}
is_printed packet.Passed w o = absurd w

printed_behind : (blank : List ℕ) (ps : List Packet) → IsBlank blank → All IsWritable ps → All IsOfBytes ps → ArePackets ps (blank ++ flat_map printed ps)
printed_behind blank [] is w o = all_both is_space blank [] is refl
printed_behind blank (p ∷ ps) is w o =
    let one = is_printed p (w 0 p (omega arith)) (o 0 p (omega arith)) in
    let rest = printed_behind (10 ∷ []) ps refl (λ k d lt. w (suc k) d (omega arith)) (λ k d lt. o (suc k) d (omega arith)) in
    (blank, one.one, 10 ∷ flat_map printed ps, is, one.is_packet, rest, ap (λ (t : List ℕ). blank ++ (t ++ flat_map printed ps)) one.whole ∙ ap (λ (t : List ℕ). blank ++ t) (append_assoc one.one (10 ∷ []) (flat_map printed ps)))

-- packets printed one after the other are those packets
pub are_printed : (ps : List Packet) → All IsWritable ps → All IsOfBytes ps → ArePackets ps (flat_map printed ps)
are_printed ps w o = printed_behind [] ps refl w o

-- ---- the loop of the writer

pub all_more : (P : Packet → Type 0) (xs : List Packet) (i : ℕ) (x : Packet) → i < length xs → x ≡ get_or xs i x → All P (take i xs) → P x → All P (take (i + 1) xs)
all_more P xs i x lt at all h k d small =
    let inside : k < i + 1 = omega (arith, length-take (i + 1) xs) in
    elim (cases_eq k i) [
      | inl e ↦ subst P (get_or_read xs i x lt at d ∙ ap (λ (n : ℕ). get_or xs n d) (sym e) ∙ sym (get_or-take (i + 1) xs k d inside)) h
      | inr ne ↦
          let below : k < i = omega arith in
          subst P (get_or-take i xs k d below ∙ sym (get_or-take (i + 1) xs k d inside)) (all k d (omega (arith, length-take i xs)))
    ]

pub written_more : (xs : List Packet) (i : ℕ) (x : Packet) (before after : List ℕ) → i < length xs → x ≡ get_or xs i x → before ≡ flat_map printed (take i xs) → after ≡ before ++ printed x → after ≡ flat_map printed (take (i + 1) xs)
written_more xs i x before after lt at so_far now =
    let more : take (i + 1) xs ≡ take i xs ++ x ∷ [] = take_more xs i x lt ∙ ap (λ y. take i xs ++ y ∷ []) (sym at) in
    now ∙ ap (λ (l : List ℕ). l ++ printed x) so_far ∙ flat_map_more printed [] (take i xs) x ∙ ap (flat_map printed) (sym more)
