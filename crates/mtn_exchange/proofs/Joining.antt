-- Packets that go into a state one after the other, and all together.
use Rattle.std.specs.Prelude.{Contains, filter_map, fold, is_none, if◌then◌else◌}
use Rattle.std.specs.FinMap.{insert}
use Rattle.std.specs.List.{cons_option}
use Rattle.std.proofs.Common.{◌≡◌, ◌≤◌, ℕ, List, [], ◌∷◌, ◌++◌, length, map, Option, Some, None, refl, sym, ap, ◌∙◌, arith}
use Rattle.std.proofs.lemmas.List.{append-nil, append_assoc, length-append}
use Rattle.mtn_base.specs.declared.id.Id.{Id}
use Rattle.mtn_base.proofs.IdOrder.{contains_head, contains_later}
use Rattle.mtn_certs.specs.Certificates.{Certificate, certificate}
use Rattle.mtn_exports.specs.Exports.{IsSent, cert_packet, file_packet}
use Rattle.mtn_model.specs.State.{Logged, State}
use Rattle.mtn_packets.specs.declared.packet.Packet.{Packet}
use Rattle.mtn_packets.specs.declared.packet.Packet.TheVariants as packet
use Rattle.mtn_packets.specs.declared.packet.PacketKey.TheVariants as key
use Rattle.mtn_replay.specs.Texts.{text_under}
use Rattle.mtn_exchange.specs.Exchange.{joined_with, lacked, with_cert, with_file}
use Rattle.mtn_exchange.proofs.Texts.{logged, text_beside}

abbrev pub beside : Option (List ℕ) → State → Id → List ℕ → State
beside (Some held) u id text = u
beside None u id text = record u { log = u.log ++ logged id.0 text ∷ [] }

-- the state with one packet
abbrev pub after : State → Packet → State
after u (packet.File id bytes) = record u { files = insert u.files id.0 bytes }
after u (packet.Revision id text) = beside (text_under u.log id.0) u id text
after u (packet.Cert revision name (key.Id k) value signature) = record u { certs = insert u.certs (certificate revision name k value signature) tt }
after u (packet.Cert revision name (key.Name n) value signature) = u
after u packet.Passed = u

-- the id of a file or a revision does not come again, nor does a certificate
abbrev pub IsLast : Packet → List Packet → Type 0
IsLast (packet.File id bytes) ps = (x : Id) (other : List ℕ) → Contains ps (packet.File x other) → id ≡ x → ⊥
IsLast (packet.Revision id text) ps = (x : Id) (other : List ℕ) → Contains ps (packet.Revision x other) → id ≡ x → ⊥
IsLast (packet.Cert revision name (key.Id k) value signature) ps = (c : Certificate) → Contains ps (cert_packet c) → certificate revision name k value signature ≡ c → ⊥
IsLast (packet.Cert revision name (key.Name n) value signature) ps = Unit {0}
IsLast packet.Passed ps = Unit {0}

abbrev pub AreApart : List Packet → Type 0
AreApart [] = Unit {0}
AreApart (p ∷ ps) = IsLast p ps × AreApart ps

-- what a longer log lacks of other ids
pub same_lacked : (log : List Logged) (id : Id) (text : List ℕ) (ps : List Packet) → ((x : Id) (other : List ℕ) → Contains ps (packet.Revision x other) → id ≡ x → ⊥) →
    filter_map (lacked (log ++ logged id.0 text ∷ [])) ps ≡ filter_map (lacked log) ps
same_lacked log id text [] differ = refl
same_lacked log id text (packet.File x bytes ∷ ps) differ = same_lacked log id text ps (λ y o c. differ y o (contains_later (packet.File x bytes) ps c))
same_lacked log id text (packet.Revision x other ∷ ps) differ =
    let rest = same_lacked log id text ps (λ y o c. differ y o (contains_later (packet.Revision x other) ps c)) in
    let own : text_under (log ++ logged id.0 text ∷ []) x.0 ≡ text_under log x.0 = text_beside log (logged id.0 text) x.0 (λ e. differ x other (contains_head (packet.Revision x other) ps) (λ i. record { 0 = e i })) in
    λ i. cons_option (if is_none (own i) then Some (logged x.0 other) else None) (rest i)
same_lacked log id text (packet.Cert revision name k value signature ∷ ps) differ = same_lacked log id text ps (λ y o c. differ y o (contains_later (packet.Cert revision name k value signature) ps c))
same_lacked log id text (packet.Passed ∷ ps) differ = same_lacked log id text ps (λ y o c. differ y o (contains_later packet.Passed ps c))

-- where no id comes twice, both are one
pub joins : (ps : List Packet) (t : State) → AreApart ps → fold after t ps ≡ joined_with t ps
joins [] t apart = λ i. record t { log = sym (append-nil t.log) i }
joins (packet.File id bytes ∷ ps) t apart = joins ps (record t { files = insert t.files id.0 bytes }) apart.1
joins (packet.Revision id text ∷ ps) t apart = by (λ u. joins ps u apart.1) (text_under t.log id.0)
  where
    by : ((u : State) → fold after u ps ≡ joined_with u ps) → (o : Option (List ℕ)) → fold after (beside o t id text) ps ≡ record t {
      files = fold with_file t.files ps;
      log = t.log ++ cons_option (if is_none o then Some (logged id.0 text) else None) (filter_map (lacked t.log) ps);
      certs = fold with_cert t.certs ps;
    }
    by rest (Some held) = rest t
    by rest None =
        let more : State = record t { log = t.log ++ logged id.0 text ∷ [] } in
        let path : more.log ++ filter_map (lacked more.log) ps ≡ t.log ++ (logged id.0 text ∷ filter_map (lacked t.log) ps) =
        append_assoc t.log (logged id.0 text ∷ []) (filter_map (lacked more.log) ps) ∙ ap (λ ms. t.log ++ (logged id.0 text ∷ ms)) (same_lacked t.log id text ps apart.0) in
        rest more ∙ (λ i. record t { files = fold with_file t.files ps; log = path i; certs = fold with_cert t.certs ps })
joins (packet.Cert revision name (key.Id k) value signature ∷ ps) t apart = joins ps (record t { certs = insert t.certs (certificate revision name k value signature) tt }) apart.1
joins (packet.Cert revision name (key.Name n) value signature ∷ ps) t apart = joins ps t apart.1
joins (packet.Passed ∷ ps) t apart = joins ps t apart.1

longer : (u : State) (id : Id) (text : List ℕ) (o : Option (List ℕ)) → length u.log ≤ length (beside o u id text).log
longer u id text (Some held) = omega arith
longer u id text None = omega (arith, length-append u.log (logged id.0 text ∷ []))

-- no packet makes a log shorter
pub grows : (ps : List Packet) (u : State) → length u.log ≤ length (fold after u ps).log
grows [] u = omega arith
grows (packet.File id bytes ∷ ps) u = grows ps (record u { files = insert u.files id.0 bytes })
grows (packet.Revision id text ∷ ps) u =
    let one = longer u id text (text_under u.log id.0) in
    let rest = grows ps (beside (text_under u.log id.0) u id text) in
    omega (arith, one, rest)
grows (packet.Cert revision name (key.Id k) value signature ∷ ps) u = grows ps (record u { certs = insert u.certs (certificate revision name k value signature) tt })
grows (packet.Cert revision name (key.Name n) value signature ∷ ps) u = grows ps u
grows (packet.Passed ∷ ps) u = grows ps u

-- the packets of a revision and of those behind it
abbrev pub in_turn : State → List Id → Id → List ℕ → List Certificate → List Packet → List Packet
in_turn s files id text certs rest = map (file_packet s) files ++ (packet.Revision id text ∷ (map cert_packet certs ++ rest))

pub are_in_turn : (s : State) (before files : List Id) (id : Id) (own rest packets : List Packet) (sent : IsSent s before id files own) → packets ≡ own ++ rest → packets ≡ in_turn s files id sent.text sent.certs rest
are_in_turn s before files id own rest packets sent e = e ∙ ap (λ ps. ps ++ rest) sent.are ∙ append_assoc (map (file_packet s) files) (packet.Revision id sent.text ∷ map cert_packet sent.certs) rest
