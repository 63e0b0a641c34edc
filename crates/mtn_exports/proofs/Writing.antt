-- The packets of an export can be written, and their files are held.
use Rattle.std.specs.Prelude.{Contains, not, nat_le, ◌&&◌, ◌==◌, unwrap_or}
use Rattle.std.specs.FinMap.{get}
use Rattle.std.specs.List.{All, list_all, list_any}
use Rattle.std.proofs.Common.{◌≡◌, ℕ, Bool, true, false, cond, List, [], ◌∷◌, ◌++◌, length, map, Option, Some, None, refl, sym, ap, ◌∙◌, subst, arith, ⊎_elim}
use Rattle.std.proofs.lemmas.List.Elements.{All-append, All-cons, All-nil, Contains-append_cases}
use Rattle.mtn_base.specs.Names.{same_id}
use Rattle.mtn_base.specs.declared.id.Id.{Id}
use Rattle.mtn_base.proofs.IdOrder.{contains_cases, contains_head, contains_later, contains_nil}
use Rattle.mtn_certs.specs.Certificates.{Certificate, is_field, is_field_byte}
use Rattle.mtn_history_laws.specs.History.{Revision}
use Rattle.mtn_model.specs.State.{State}
use Rattle.mtn_packets.specs.Packets.{IsField}
use Rattle.mtn_packets.specs.Printed.{IsWritable}
use Rattle.mtn_packets.specs.declared.packet.Packet.{Packet}
use Rattle.mtn_packets.specs.declared.packet.Packet.TheVariants as packet
use Rattle.mtn_replay.specs.Lawful.{IsHistory, IsLawful}
use Rattle.mtn_exports.specs.Exports.{AreSent, IsSent, cert_packet, file_packet, new_to}
use Rattle.mtn_exports.proofs.Contents.{contents_held}

and_true : (a b : Bool) → (a && b) ≡ true → (a ≡ true) × (b ≡ true)
and_true true b e = (refl, e)
and_true false b e = absurd cc

-- a certificate's name is a field of a packet
pub name_is_field : (name : List ℕ) → is_field name ≡ true → IsField name
name_is_field name e =
    let all = and_true (not (length name == 0) && nat_le (length name) 255) (list_all is_field_byte name) e in
    let size = and_true (not (length name == 0)) (nat_le (length name) 255) all.0 in
    record { some = grind (arith, size.0); most = grind (arith, size.1); bytes = all.1 }

pub cert_writable : (f : List ℕ → List ℕ) (s : State) (c : Certificate) → IsLawful f s → get s.certs c ≡ Some tt → IsWritable (cert_packet c)
cert_writable f s c law held = (name_is_field c.name (law.certs.lawful c held).name, tt)

certs_writable : (f : List ℕ → List ℕ) (s : State) (certs : List Certificate) → IsLawful f s → ((c : Certificate) → Contains certs c → get s.certs c ≡ Some tt) → All IsWritable (map cert_packet certs)
certs_writable f s [] law held = All-nil IsWritable
certs_writable f s (c ∷ certs) law held =
    All-cons IsWritable (cert_packet c) (map cert_packet certs) (cert_writable f s c law (held c (contains_head c certs))) (certs_writable f s certs law (λ x d. held x (contains_later c certs d)))

files_writable : (s : State) (files : List Id) → All IsWritable (map (file_packet s) files)
files_writable s [] = All-nil IsWritable
files_writable s (id ∷ files) = All-cons IsWritable (file_packet s id) (map (file_packet s) files) tt (files_writable s files)

own_writable : (f : List ℕ → List ℕ) (s : State) (before files : List Id) (id : Id) (own : List Packet) → IsLawful f s → IsSent s before id files own → All IsWritable own
own_writable f s before files id own law sent =
    subst (All IsWritable) (sym sent.are) (All-append IsWritable (map (file_packet s) files) (packet.Revision id sent.text ∷ map cert_packet sent.certs) (files_writable s files)
    (All-cons IsWritable (packet.Revision id sent.text) (map cert_packet sent.certs) tt (certs_writable f s sent.certs law (λ c d. ((sent.said.exact c).0 d).0))))

pub all_writable : (f : List ℕ → List ℕ) (s : State) (ids before after : List Id) (packets : List Packet) → IsLawful f s → AreSent s before ids packets after → All IsWritable packets
all_writable f s [] before after packets law sent = subst (All IsWritable) (sym sent.0) (All-nil IsWritable)
all_writable f s (id ∷ ids) before after packets law sent =
    subst (All IsWritable) (sym sent.5) (All-append IsWritable sent.1 sent.2 (own_writable f s before sent.0 id sent.1 law sent.3) (all_writable f s ids (before ++ sent.0) after sent.2 law sent.4))

-- the new ones are of the list
contained_by : (before : List Id) (id : Id) (ids : List Id) (x : Id) (b : Bool) → (Contains (new_to before ids) x → Contains ids x) → (Contains (new_to (before ++ id ∷ []) ids) x → Contains ids x) →
    Contains (cond b (new_to before ids) (id ∷ new_to (before ++ id ∷ []) ids)) x → Contains (id ∷ ids) x
contained_by before id ids x true old new c = contains_later id ids (old c)
contained_by before id ids x false old new c =
    ⊎_elim (λ e. subst (Contains (id ∷ ids)) e (contains_head id ids)) (λ d. contains_later id ids (new d)) (contains_cases id (new_to (before ++ id ∷ []) ids) x c)

pub new_contained : (before ids : List Id) (x : Id) → Contains (new_to before ids) x → Contains ids x
new_contained before [] x c = c
new_contained before (id ∷ ids) x c =
    contained_by before id ids x (list_any (same_id id) before) (λ d. new_contained before ids x d) (λ d. new_contained (before ++ id ∷ []) ids x d) c

-- the id and the bytes of a packet that is a file
abbrev named : Packet → Option (Id × List ℕ)
named (packet.File id bytes) = Some (id, bytes)
named p = None

no_cert_file : (certs : List Certificate) (file : Id) (bytes : List ℕ) → Contains (map cert_packet certs) (packet.File file bytes) → ⊥
no_cert_file [] file bytes c = contains_nil c
no_cert_file (x ∷ certs) file bytes c = ⊎_elim (λ e. let t = ap named e in absurd cc) (λ d. no_cert_file certs file bytes d) (contains_cases (cert_packet x) (map cert_packet certs) (packet.File file bytes) c)

file_held : (s : State) (files : List Id) (file : Id) (bytes : List ℕ) → ((x : Id) → Contains files x → (held : List ℕ) × (get s.files x.0 ≡ Some held)) → Contains (map (file_packet s) files) (packet.File file bytes) → get s.files file.0 ≡ Some bytes
file_held s [] file bytes held c = absurd (contains_nil c)
file_held s (id ∷ files) file bytes held c = ⊎_elim here (λ d. file_held s files file bytes (λ x k. held x (contains_later id files k)) d) (contains_cases (file_packet s id) (map (file_packet s) files) (packet.File file bytes) c)
  where
    here : file_packet s id ≡ packet.File file bytes → get s.files file.0 ≡ Some bytes
    here e =
        let t = held id (contains_head id files) in
        let both : named (file_packet s id) ≡ named (packet.File file bytes) = ap named e in
        let same : id ≡ file = cc in
        let is : unwrap_or (get s.files id.0) [] ≡ bytes = cc in
        ap (λ (i : Id). get s.files i.0) (sym same) ∙ t.1 ∙ ap Some (sym (ap (λ o. unwrap_or o []) t.1) ∙ is)

module _ (f : List ℕ → List ℕ) (s : State) (h : List Revision) (is : IsHistory f s.files s.log h) (file : Id) (bytes : List ℕ) where
  own_held : (before files : List Id) (id : Id) (own : List Packet) → IsSent s before id files own → Contains own (packet.File file bytes) → get s.files file.0 ≡ Some bytes
  own_held before files id own sent c =
      let contents : (x : Id) → Contains files x → (held : List ℕ) × (get s.files x.0 ≡ Some held) =
      λ x d. contents_held f s.files s.log h is id.0 sent.text sent.brings.read sent.brings.held sent.brings.spells x
      (subst (λ ids. Contains ids x) sent.brings.is (new_contained before sent.contents x (subst (λ ids. Contains ids x) sent.new d))) in
      ⊎_elim (λ d. file_held s files file bytes contents d)
      (λ d. ⊎_elim (λ e. let t = ap named e in absurd cc) (λ k. absurd (no_cert_file sent.certs file bytes k)) (contains_cases (packet.Revision id sent.text) (map cert_packet sent.certs) (packet.File file bytes) d))
      (Contains-append_cases (map (file_packet s) files) (packet.Revision id sent.text ∷ map cert_packet sent.certs) (packet.File file bytes) (subst (λ ps. Contains ps (packet.File file bytes)) sent.are c))

  pub all_files_held : (ids before after : List Id) (packets : List Packet) → AreSent s before ids packets after → Contains packets (packet.File file bytes) → get s.files file.0 ≡ Some bytes
  all_files_held [] before after packets sent c = absurd (contains_nil (subst (λ ps. Contains ps (packet.File file bytes)) sent.0 c))
  all_files_held (id ∷ ids) before after packets sent c =
      ⊎_elim (λ d. own_held before sent.0 id sent.1 sent.3 d) (λ d. all_files_held ids (before ++ sent.0) after sent.2 sent.4 d)
      (Contains-append_cases sent.1 sent.2 (packet.File file bytes) (subst (λ ps. Contains ps (packet.File file bytes)) sent.5 c))
