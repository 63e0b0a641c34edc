-- How many of packets are new, one after the other and all together.
use Rattle.std.specs.Prelude.{bytes_eq, filter, filter_map, is_none, Contains}
use Rattle.std.specs.FinMap.{get, insert}
use Rattle.std.specs.List.{cons_option}
use Rattle.std.specs.Ordering.{eq_by_cmp, is_eq}
use Rattle.std.specs.declared.cmp.Ordering.{Ordering}
use Rattle.std.specs.declared.cmp.Ordering.TheVariants.{Less, Equal, Greater}
use Rattle.std.proofs.Common.{◌≡◌, ◌+◌, ℕ, Bool, true, false, cond, List, [], ◌∷◌, ◌++◌, length, Option, Some, None, refl, sym, ◌∙◌, arith, if◌then◌else◌}
use Rattle.std.proofs.lemmas.Slice.Eq.{bytes_eq-Decides}
use Rattle.mtn_base.specs.declared.id.Id.{Id}
use Rattle.mtn_base.proofs.IdOrder.{contains_head, contains_later}
use Rattle.mtn_certs.specs.Certificates.{Certificate, certificate}
use Rattle.mtn_certs.specs.Order.{cert_cmp}
use Rattle.mtn_certs.proofs.Certs.{exact_certs}
use Rattle.mtn_exports.specs.Exports.{cert_packet}
use Rattle.mtn_imports.specs.Imports.{Kept, kept, one_new, with_more}
use Rattle.mtn_model.specs.State.{Certificates, State}
use Rattle.mtn_model.specs.Table.{Table}
use Rattle.mtn_packets.specs.declared.packet.Packet.{Packet}
use Rattle.mtn_packets.specs.declared.packet.Packet.TheVariants as packet
use Rattle.mtn_packets.specs.declared.packet.PacketKey.TheVariants as key
use Rattle.mtn_replay.specs.Texts.{text_under}
use Rattle.mtn_replay.proofs.CertLemmas.{holds_inserted}
use Rattle.mtn_replay.proofs.FileLemmas.{get_inserted}
use Rattle.mtn_exchange.specs.Exchange.{lacked, lacks_cert, lacks_file, new_in}
use Rattle.mtn_exchange.proofs.Joining.{after, beside, same_lacked, AreApart}
use Rattle.mtn_exchange.proofs.Texts.{logged}

-- what is new of one packet
abbrev pub new_of : State → Packet → Kept
new_of u (packet.File id bytes) = kept (one_new (get u.files id.0)) 0 0
new_of u (packet.Revision id text) = kept 0 (one_new (text_under u.log id.0)) 0
new_of u (packet.Cert revision name (key.Id k) value signature) = kept 0 0 (one_new (get u.certs (certificate revision name k value signature)))
new_of u (packet.Cert revision name (key.Name n) value signature) = kept 0 0 0
new_of u packet.Passed = kept 0 0 0

abbrev pub new_from : State → List Packet → Kept
new_from u [] = kept 0 0 0
new_from u (p ∷ ps) = with_more (new_of u p) (new_from (after u p) ps)

nothing_more : (n : ℕ) → 0 + n ≡ n
nothing_more n = omega arith

-- ---- one more file leaves what is lacked of other ids

other_file : (files : Table) (id x : Id) (bytes : List ℕ) → (id ≡ x → ⊥) → get (insert files id.0 bytes) x.0 ≡ get files x.0
other_file files id x bytes differ = get_inserted files id.0 bytes x.0 ∙ by (bytes_eq x.0 id.0) refl
  where
    by : (b : Bool) → bytes_eq x.0 id.0 ≡ b → cond b (Some bytes) (get files x.0) ≡ get files x.0
    by true e = absurd (differ (let same = (bytes_eq-Decides x.0 id.0).0 e in λ i. record { 0 = sym same i }))
    by false e = refl

same_files : (files : Table) (id : Id) (bytes : List ℕ) (ps : List Packet) → ((x : Id) (other : List ℕ) → Contains ps (packet.File x other) → id ≡ x → ⊥) →
    filter (lacks_file (insert files id.0 bytes)) ps ≡ filter (lacks_file files) ps
same_files files id bytes [] differ = refl
same_files files id bytes (packet.File x other ∷ ps) differ =
    let rest = same_files files id bytes ps (λ y o c. differ y o (contains_later (packet.File x other) ps c)) in
    let own = other_file files id x bytes (differ x other (contains_head (packet.File x other) ps)) in
    λ i. cond (is_none (own i)) (packet.File x other ∷ rest i) (rest i)
same_files files id bytes (packet.Revision x text ∷ ps) differ = same_files files id bytes ps (λ y o c. differ y o (contains_later (packet.Revision x text) ps c))
same_files files id bytes (packet.Cert revision name k value signature ∷ ps) differ = same_files files id bytes ps (λ y o c. differ y o (contains_later (packet.Cert revision name k value signature) ps c))
same_files files id bytes (packet.Passed ∷ ps) differ = same_files files id bytes ps (λ y o c. differ y o (contains_later packet.Passed ps c))

-- ---- and one more certificate of others

tied : (o : Ordering) → is_eq o ≡ true → o ≡ Equal
tied Less e = absurd cc
tied Equal e = refl
tied Greater e = absurd cc

other_cert : (certs : Certificates) (c d : Certificate) → (c ≡ d → ⊥) → get (insert certs c tt) d ≡ get certs d
other_cert certs c d differ = holds_inserted certs c d ∙ by (eq_by_cmp cert_cmp d c) refl
  where
    by : (b : Bool) → eq_by_cmp cert_cmp d c ≡ b → cond b (Some tt) (get certs d) ≡ get certs d
    by true e = absurd (differ (sym (exact_certs d c (tied (cert_cmp d c) e))))
    by false e = refl

same_certs : (certs : Certificates) (c : Certificate) (ps : List Packet) → ((d : Certificate) → Contains ps (cert_packet d) → c ≡ d → ⊥) → filter (lacks_cert (insert certs c tt)) ps ≡ filter (lacks_cert certs) ps
same_certs certs c [] differ = refl
same_certs certs c (packet.File x bytes ∷ ps) differ = same_certs certs c ps (λ d k. differ d (contains_later (packet.File x bytes) ps k))
same_certs certs c (packet.Revision x text ∷ ps) differ = same_certs certs c ps (λ d k. differ d (contains_later (packet.Revision x text) ps k))
same_certs certs c (packet.Cert revision name (key.Id k) value signature ∷ ps) differ =
    let p = packet.Cert revision name (key.Id k) value signature in
    let d = certificate revision name k value signature in
    let rest = same_certs certs c ps (λ e there. differ e (contains_later p ps there)) in
    let own = other_cert certs c d (differ d (contains_head p ps)) in
    λ i. cond (is_none (own i)) (p ∷ rest i) (rest i)
same_certs certs c (packet.Cert revision name (key.Name n) value signature ∷ ps) differ = same_certs certs c ps (λ d k. differ d (contains_later (packet.Cert revision name (key.Name n) value signature) ps k))
same_certs certs c (packet.Passed ∷ ps) differ = same_certs certs c ps (λ d k. differ d (contains_later packet.Passed ps k))

-- ---- where nothing comes twice, both are one

-- one more where there was none
one_more : {A X : Type 0} (o : Option A) (x : X) (xs : List X) → one_new o + length xs ≡ length (cond (is_none o) (x ∷ xs) xs)
one_more None x xs = omega arith
one_more (Some a) x xs = omega arith

-- the same for a text
one_text_more : {A X : Type 0} (o : Option A) (x : X) (xs : List X) → one_new o + length xs ≡ length (cons_option (if is_none o then Some x else None) xs)
one_text_more None x xs = omega arith
one_text_more (Some a) x xs = omega arith

module _ (t : State) (ps : List Packet) where
  -- what is lacked of each kind
  abbrev files_in : ℕ
  files_in = length (filter (lacks_file t.files) ps)

  abbrev texts_in : ℕ
  texts_in = length (filter_map (lacked t.log) ps)

  abbrev certs_in : ℕ
  certs_in = length (filter (lacks_cert t.certs) ps)

  nothing_new : new_from t ps ≡ new_in t ps → with_more (kept 0 0 0) (new_from t ps) ≡ new_in t ps
  nothing_new rest =
      let files = nothing_more files_in in
      let texts = nothing_more texts_in in
      let certs = nothing_more certs_in in
      (λ i. with_more (kept 0 0 0) (rest i)) ∙ (λ i. kept (files i) (texts i) (certs i))

pub counts : (ps : List Packet) (t : State) → AreApart ps → new_from t ps ≡ new_in t ps
counts [] t apart = refl
counts (packet.File id bytes ∷ ps) t apart =
    let o = get t.files id.0 in
    let rest = counts ps (record t { files = insert t.files id.0 bytes }) apart.1 in
    let same = same_files t.files id bytes ps apart.0 in
    let one = one_more o (packet.File id bytes) (filter (lacks_file t.files) ps) in
    let texts = nothing_more (texts_in t ps) in
    let certs = nothing_more (certs_in t ps) in
    (λ i. with_more (kept (one_new o) 0 0) (rest i)) ∙ (λ i. kept (one_new o + length (same i)) (texts i) (certs i)) ∙ (λ i. kept (one i) (texts_in t ps) (certs_in t ps))
counts (packet.Revision id text ∷ ps) t apart = by (λ u. counts ps u apart.1) (text_under t.log id.0)
  where
    by : ((u : State) → new_from u ps ≡ new_in u ps) → (o : Option (List ℕ)) → with_more (kept 0 (one_new o) 0) (new_from (beside o t id text) ps)
        ≡ kept (files_in t ps) (length (cons_option (if is_none o then Some (logged id.0 text) else None) (filter_map (lacked t.log) ps))) (certs_in t ps)
    by rest (Some held) = nothing_new t ps (rest t)
    by rest None =
        let more : State = record t { log = t.log ++ logged id.0 text ∷ [] } in
        let e = rest more in
        let same = same_lacked t.log id text ps apart.0 in
        let none : Option (List ℕ) = None in
        let one = one_text_more none (logged id.0 text) (filter_map (lacked t.log) ps) in
        let files = nothing_more (files_in t ps) in
        let certs = nothing_more (certs_in t ps) in
        (λ i. with_more (kept 0 1 0) (e i)) ∙ (λ i. kept (files i) (1 + length (same i)) (certs i)) ∙ (λ i. kept (files_in t ps) (one i) (certs_in t ps))
counts (packet.Cert revision name (key.Id k) value signature ∷ ps) t apart =
    let c = certificate revision name k value signature in
    let o = get t.certs c in
    let rest = counts ps (record t { certs = insert t.certs c tt }) apart.1 in
    let same = same_certs t.certs c ps apart.0 in
    let one = one_more o (packet.Cert revision name (key.Id k) value signature) (filter (lacks_cert t.certs) ps) in
    let files = nothing_more (files_in t ps) in
    let texts = nothing_more (texts_in t ps) in
    (λ i. with_more (kept 0 0 (one_new o)) (rest i)) ∙ (λ i. kept (files i) (texts i) (one_new o + length (same i))) ∙ (λ i. kept (files_in t ps) (texts_in t ps) (one i))
counts (packet.Cert revision name (key.Name n) value signature ∷ ps) t apart = nothing_new t ps (counts ps t apart.1)
counts (packet.Passed ∷ ps) t apart = nothing_new t ps (counts ps t apart.1)
