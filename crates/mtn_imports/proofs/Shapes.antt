-- Whether a text has one of the four shapes can be told.
use Rattle.std.proofs.Common.{◌≡◌, ℕ, true, List, refl, sym, ap, subst, ◌∙◌}
use Rattle.std.specs.Prelude.{codes}
use Rattle.std.specs.List.{list_all}
use Rattle.mtn_base.specs.declared.id.Id.{Id}
use Rattle.mtn_packets.specs.declared.packet.Packet.{Packet}
use Rattle.mtn_packets.specs.declared.packet.Packet.TheVariants as packet
use Rattle.mtn_packets.specs.declared.packet.PacketKey.{PacketKey}
use Rattle.mtn_packets.specs.Packets.{HasShape, IsAsItStands, IsBase64, IsCert, IsData, IsFramed, IsPacket, IsPubkey, IsShape, Reading, SpacedField, SpacedId, is_space, key_of}
use Rattle.mtn_packets.specs.Parts.{IsCertHead, IsFieldHead, IsIdHead}
use Rattle.mtn_packets.proofs.Steps.{one_field, one_frame, one_id}
use Rattle.mtn_imports.proofs.Telling.{tell_base64, tell_field, tell_frame, tell_id, tell_test}

-- ---- heads

tell_id_head : (head : List ℕ) → Dec ((id : Id) × IsIdHead head id)
tell_id_head head = elim (tell_id head) [
  | no n ↦ no (λ t. n (t.0, t.1.tail, t.1.first))
  | yes s ↦ elim (tell_test (list_all is_space s.1) true) [
    | no n ↦ no (λ t. let same = one_id head s.0 t.0 s.1 t.1.tail s.2 t.1.first in n (ap (list_all is_space) same.rest ∙ t.1.nothing_more))
    | yes blank ↦ yes (s.0, record { tail = s.1; first = s.2; nothing_more = blank })
  ]
]

tell_field_head : (head : List ℕ) → Dec (IsFieldHead head)
tell_field_head head = elim (tell_field head) [
  | no n ↦ no (λ h. n (h.field, h.tail, h.first))
  | yes s ↦ elim (tell_test (list_all is_space s.1) true) [
    | no n ↦ no (λ h. let same = one_field head s.0 h.field s.1 h.tail s.2 h.first in n (ap (list_all is_space) same.rest ∙ h.nothing_more))
    | yes blank ↦ yes (record { field = s.0; tail = s.1; first = s.2; nothing_more = blank })
  ]
]

abbrev HasCertHead : List ℕ → Type 0
HasCertHead head = (revision : Id) × (name key_field after_key : List ℕ) × IsCertHead head revision name key_field after_key

tell_cert_head : (head : List ℕ) → Dec (HasCertHead head)
tell_cert_head head = elim (tell_id head) [
  | no n ↦ no (λ t. n (t.0, t.4.after_revision, t.4.revision_first))
  | yes s ↦ elim (tell_field s.1) [
    | no n ↦ no (λ t. n (t.1, t.4.after_name, name_of s.0 s.1 s.2 t.0 t.1 t.2 t.3 t.4))
    | yes f ↦ elim (tell_field f.1) [
      | no n ↦ no (λ t. n (t.2, t.3, key_in s.0 s.1 s.2 f.0 f.1 f.2 t.0 t.1 t.2 t.3 t.4))
      | yes k ↦ yes (s.0, f.0, k.0, k.1, record { after_revision = s.1; after_name = f.1; revision_first = s.2; name_next = f.2; key_next = k.2 })
    ]
  ]
]
  where
    name_of : (id : Id) (rest : List ℕ) → SpacedId head id rest → (r : Id) (n k v : List ℕ) (h : IsCertHead head r n k v) → SpacedField rest n h.after_name
    name_of id rest s r n k v h = subst (λ (t : List ℕ). SpacedField t n h.after_name) (sym (one_id head id r rest h.after_revision s h.revision_first).rest) h.name_next

    key_in : (id : Id) (rest : List ℕ) → SpacedId head id rest → (name more : List ℕ) → SpacedField rest name more → (r : Id) (n k v : List ℕ) (h : IsCertHead head r n k v) → SpacedField more k v
    key_in id rest s name more f r n k v h =
        let same = one_field rest name n more h.after_name f (name_of id rest s r n k v h) in
        subst (λ (t : List ℕ). SpacedField t k v) (sym same.rest) h.key_next

-- ---- the four shapes, by what can be told of a part

module _ (B : Reading) (tell_part : (part : List ℕ) → Dec ((bytes : List ℕ) × B part bytes)) where
  tell_data : (word text : List ℕ) → Dec ((id : Id) × (bytes : List ℕ) × IsData B word text id bytes)
  tell_data word text = elim (tell_frame word text) [
    | no n ↦ no (λ t. n (t.2.head, t.2.body, t.2.framed))
    | yes f ↦ elim (tell_id_head f.0) [
      | no n ↦ no (λ t. let same = one_frame word text f.0 t.2.head f.1 t.2.body f.2 t.2.framed in n (t.0, subst (λ (h : List ℕ). IsIdHead h t.0) (sym same.head) (record { tail = t.2.tail; first = t.2.id_first; nothing_more = t.2.nothing_more })))
      | yes h ↦ elim (tell_part f.1) [
        | no n ↦ no (λ t. let same = one_frame word text f.0 t.2.head f.1 t.2.body f.2 t.2.framed in n (t.1, subst (λ (b : List ℕ). B b t.1) (sym same.body) t.2.payload))
        | yes p ↦ yes (h.0, p.0, record { head = f.0; body = f.1; tail = h.1.tail; framed = f.2; id_first = h.1.first; nothing_more = h.1.nothing_more; payload = p.1 })
      ]
    ]
  ]

  tell_pubkey : (text : List ℕ) → Dec (IsPubkey B text)
  tell_pubkey text = elim (tell_frame (codes "[pubkey") text) [
    | no n ↦ no (λ t. n (t.head, t.body, t.framed))
    | yes f ↦ elim (tell_field_head f.0) [
      | no n ↦ no (λ t. let same = one_frame (codes "[pubkey") text f.0 t.head f.1 t.body f.2 t.framed in n (subst IsFieldHead (sym same.head) (record { field = t.field; tail = t.tail; first = t.field_first; nothing_more = t.nothing_more })))
      | yes h ↦ elim (tell_part f.1) [
        | no n ↦ no (λ t. let same = one_frame (codes "[pubkey") text f.0 t.head f.1 t.body f.2 t.framed in n (t.bytes, subst (λ (b : List ℕ). B b t.bytes) (sym same.body) t.payload))
        | yes p ↦ yes (record { head = f.0; body = f.1; field = h.field; tail = h.tail; bytes = p.0; framed = f.2; field_first = h.first; nothing_more = h.nothing_more; payload = p.1 })
      ]
    ]
  ]

  record Cert (text : List ℕ) : Type 0 where
    revision : Id
    name : List ℕ
    key : PacketKey
    value : List ℕ
    signature : List ℕ
    is : IsCert B text revision name key value signature

  -- the head of a certificate that the text is
  head_in : (text head body : List ℕ) → IsFramed (codes "[rcert") text head body → (c : Cert text) → IsCertHead head c.revision c.name c.is.key_field c.is.after_key
  head_in text head body f c =
      let same = one_frame (codes "[rcert") text head c.is.head body c.is.body f c.is.framed in
      subst (λ (h : List ℕ). IsCertHead h c.revision c.name c.is.key_field c.is.after_key) (sym same.head)
      (record { after_revision = c.is.after_revision; after_name = c.is.after_name; revision_first = c.is.revision_first; name_next = c.is.name_next; key_next = c.is.key_next })

  one_value : (head : List ℕ) (r s : Id) (n m k l v w : List ℕ) → IsCertHead head r n k v → IsCertHead head s m l w → v ≡ w
  one_value head r s n m k l v w a b =
      let ids = one_id head r s a.after_revision b.after_revision a.revision_first b.revision_first in
      let names = one_field a.after_revision n m a.after_name b.after_name a.name_next (subst (λ (t : List ℕ). SpacedField t m b.after_name) (sym ids.rest) b.name_next) in
      (one_field a.after_name k l v w a.key_next (subst (λ (t : List ℕ). SpacedField t l w) (sym names.rest) b.key_next)).rest

  tell_cert : (text : List ℕ) → Dec (Cert text)
  tell_cert text = elim (tell_frame (codes "[rcert") text) [
    | no n ↦ no (λ c. n (c.is.head, c.is.body, c.is.framed))
    | yes f ↦ elim (tell_cert_head f.0) [
      | no n ↦ no (λ c. n (c.revision, c.name, c.is.key_field, c.is.after_key, head_in text f.0 f.1 f.2 c))
      | yes h ↦ elim (tell_part h.3) [
        | no n ↦ no (λ c. let same = one_value f.0 h.0 c.revision h.1 c.name h.2 c.is.key_field h.3 c.is.after_key h.4 (head_in text f.0 f.1 f.2 c) in n (c.value, subst (λ (b : List ℕ). B b c.value) (sym same) c.is.value_is))
        | yes v ↦ elim (tell_part f.1) [
          | no n ↦ no (λ c. let same = one_frame (codes "[rcert") text f.0 c.is.head f.1 c.is.body f.2 c.is.framed in n (c.signature, subst (λ (b : List ℕ). B b c.signature) (sym same.body) c.is.signature_is))
          | yes s ↦ yes (record {
            revision = h.0;
            name = h.1;
            key = key_of h.2;
            value = v.0;
            signature = s.0;
            is = record {
              head = f.0;
              body = f.1;
              after_revision = h.4.after_revision;
              after_name = h.4.after_name;
              key_field = h.2;
              after_key = h.3;
              framed = f.2;
              revision_first = h.4.revision_first;
              name_next = h.4.name_next;
              key_next = h.4.key_next;
              key_is = refl;
              value_is = v.1;
              signature_is = s.1;
            };
          })
        ]
      ]
    ]
  ]

  none_of : (text : List ℕ) → ¬ ((id : Id) × (bytes : List ℕ) × IsData B (codes "[fdata") text id bytes) → ¬ ((id : Id) × (bytes : List ℕ) × IsData B (codes "[rdata") text id bytes) → ¬ Cert text → ¬ IsPubkey B text
      → (p : Packet) → IsShape B p text → ⊥
  none_of text f r c k (packet.File id bytes) is = f (id, bytes, is)
  none_of text f r c k (packet.Revision id bytes) is = r (id, bytes, is)
  none_of text f r c k (packet.Cert revision name key value signature) is = c (record { revision = revision; name = name; key = key; value = value; signature = signature; is = is })
  none_of text f r c k packet.Passed is = k is

  pub tell_shape : (text : List ℕ) → Dec ((p : Packet) × IsShape B p text)
  tell_shape text = elim (tell_data (codes "[fdata") text) [
    | yes t ↦ yes (packet.File t.0 t.1, t.2)
    | no no_file ↦ elim (tell_data (codes "[rdata") text) [
      | yes t ↦ yes (packet.Revision t.0 t.1, t.2)
      | no no_revision ↦ elim (tell_cert text) [
        | yes c ↦ yes (packet.Cert c.revision c.name c.key c.value c.signature, c.is)
        | no no_cert ↦ elim (tell_pubkey text) [
          | yes k ↦ yes (packet.Passed, k)
          | no no_key ↦ no (λ t. none_of text no_file no_revision no_cert no_key t.0 t.1)
        ]
      ]
    ]
  ]

pub tell_has_shape : (text : List ℕ) → Dec (HasShape text)
tell_has_shape = tell_shape IsAsItStands (λ part. yes (part, refl))

pub tell_packet : (text : List ℕ) → Dec ((p : Packet) × IsPacket p text)
tell_packet = tell_shape IsBase64 tell_base64
