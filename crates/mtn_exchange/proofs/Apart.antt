-- Nothing comes twice in an export.
use Rattle.std.specs.Prelude.{Contains}
use Rattle.std.specs.List.{list_any}
use Rattle.std.specs.List.Sorted.{IsStrictlySortedBy}
use Rattle.std.specs.declared.cmp.Ordering.TheVariants.{Less}
use Rattle.std.proofs.Common.{◌≡◌, ℕ, Bool, true, false, cond, List, [], ◌∷◌, ◌++◌, map, Option, Some, None, refl, sym, ap, ◌∙◌, subst, ⊎_elim, ◌⊎◌, inl, inr}
use Rattle.std.proofs.lemmas.Cmp.{nat_list_eq_equiv, on_equiv}
use Rattle.std.proofs.lemmas.List.{append_assoc}
use Rattle.std.proofs.lemmas.List.Elements.{Contains-append_cases, Contains-append_left, Contains-append_right, Contains-push}
use Rattle.std.proofs.lemmas.Map.Keys.{sorted_head, sorted_tail}
use Rattle.std.proofs.lemmas.Map.Views.{list_any-from_Contains}
use Rattle.mtn_answers.specs.Queries.{by_place}
use Rattle.mtn_answers.proofs.Orders.{one_way_place}
use Rattle.mtn_base.specs.Names.{same_id}
use Rattle.mtn_base.specs.declared.id.Id.{Id}
use Rattle.mtn_base.proofs.IdOrder.{contains_cases, contains_head, contains_later, contains_nil, each_from, one_way_of}
use Rattle.mtn_certs.specs.Certificates.{Certificate, certificate}
use Rattle.mtn_certs.specs.Order.{cert_cmp}
use Rattle.mtn_certs.proofs.Certs.{certs_total}
use Rattle.mtn_exports.specs.Exports.{AreSent, cert_packet, file_packet, new_to}
use Rattle.mtn_history_laws.specs.History.{Revision}
use Rattle.mtn_model.specs.State.{State}
use Rattle.mtn_packets.specs.declared.packet.Packet.{Packet}
use Rattle.mtn_packets.specs.declared.packet.Packet.TheVariants as packet
use Rattle.mtn_packets.specs.declared.packet.PacketKey.TheVariants as key
use Rattle.mtn_exchange.proofs.Joining.{in_turn, are_in_turn, AreApart}

-- what a packet is
abbrev file_of : Packet → Option Id
file_of (packet.File id bytes) = Some id
file_of _ = None

abbrev revision_of : Packet → Option Id
revision_of (packet.Revision id text) = Some id
revision_of _ = None

abbrev cert_of : Packet → Option Certificate
cert_of (packet.Cert revision name (key.Id k) value signature) = Some (certificate revision name k value signature)
cert_of _ = None

-- what a packet of an export may be
data Part (s : State) (files : List Id) (id : Id) (certs : List Certificate) (rest : List Packet) (p : Packet) : Type 0 where
  a_file : (x : Id) → Contains files x → file_packet s x ≡ p → Part s files id certs rest p
  the_revision : (text : List ℕ) → packet.Revision id text ≡ p → Part s files id certs rest p
  a_cert : (c : Certificate) → Contains certs c → cert_packet c ≡ p → Part s files id certs rest p
  later : Contains rest p → Part s files id certs rest p

mapped_from : {X Y : Type 0} (g : X → Y) (xs : List X) (y : Y) → Contains (map g xs) y → (x : X) × Contains xs x × (g x ≡ y)
mapped_from g [] y c = absurd (contains_nil c)
mapped_from g (x ∷ xs) y c = ⊎_elim (λ e. (x, contains_head x xs, e)) (λ d. let r = mapped_from g xs y d in (r.0, contains_later x xs r.1, r.2)) (contains_cases (g x) (map g xs) y c)

module _ (s : State) where
  behind_part : (files : List Id) (id : Id) (certs : List Certificate) (rest : List Packet) (p : Packet) → Contains (map cert_packet certs ++ rest) p → Part s files id certs rest p
  behind_part files id certs rest p c = ⊎_elim (λ d. let m = mapped_from cert_packet certs p d in a_cert m.0 m.1 m.2) (λ d. later d) (Contains-append_cases (map cert_packet certs) rest p c)

  part_of : (files : List Id) (id : Id) (text : List ℕ) (certs : List Certificate) (rest : List Packet) (p : Packet) → Contains (in_turn s files id text certs rest) p → Part s files id certs rest p
  part_of files id text certs rest p c =
      let behind = map cert_packet certs ++ rest in
      ⊎_elim (λ d. let m = mapped_from (file_packet s) files p d in a_file m.0 m.1 m.2)
      (λ d. ⊎_elim (λ e. the_revision text e) (λ k. behind_part files id certs rest p k) (contains_cases (packet.Revision id text) behind p d))
      (Contains-append_cases (map (file_packet s) files) (packet.Revision id text ∷ behind) p c)

  as_file : (files : List Id) (id : Id) (certs : List Certificate) (rest : List Packet) (x : Id) (bytes : List ℕ) → Part s files id certs rest (packet.File x bytes) → Contains files x ⊎ Contains rest (packet.File x bytes)
  as_file files id certs rest x bytes (a_file y c e) = let both : Some y ≡ Some x = ap file_of e in let same : y ≡ x = cc in inl (subst (Contains files) same c)
  as_file files id certs rest x bytes (the_revision text e) = let t : None ≡ Some x = ap file_of e in absurd cc
  as_file files id certs rest x bytes (a_cert c d e) = let t : None ≡ Some x = ap file_of e in absurd cc
  as_file files id certs rest x bytes (later c) = inr c

  as_revision : (files : List Id) (id : Id) (certs : List Certificate) (rest : List Packet) (x : Id) (text : List ℕ) → Part s files id certs rest (packet.Revision x text) → (id ≡ x) ⊎ Contains rest (packet.Revision x text)
  as_revision files id certs rest x text (a_file y c e) = let t : None ≡ Some x = ap revision_of e in absurd cc
  as_revision files id certs rest x text (the_revision other e) = let both : Some id ≡ Some x = ap revision_of e in inl cc
  as_revision files id certs rest x text (a_cert c d e) = let t : None ≡ Some x = ap revision_of e in absurd cc
  as_revision files id certs rest x text (later c) = inr c

  as_cert : (files : List Id) (id : Id) (certs : List Certificate) (rest : List Packet) (y : Certificate) → Part s files id certs rest (cert_packet y) → Contains certs y ⊎ Contains rest (cert_packet y)
  as_cert files id certs rest y (a_file x c e) = let t : None ≡ Some y = ap cert_of e in absurd cc
  as_cert files id certs rest y (the_revision text e) = let t : None ≡ Some y = ap cert_of e in absurd cc
  as_cert files id certs rest y (a_cert c d e) = let both : Some c ≡ Some y = ap cert_of e in let same : c ≡ y = cc in inl (subst (Contains certs) same d)
  as_cert files id certs rest y (later c) = inr c

-- what is new was not there before
new_fresh_by : (before : List Id) (id : Id) (ids : List Id) (x : Id) (b : Bool) → list_any (same_id id) before ≡ b → ((bs : List Id) → Contains (new_to bs ids) x → Contains bs x → ⊥) →
    Contains (cond b (new_to before ids) (id ∷ new_to (before ++ id ∷ []) ids)) x → Contains before x → ⊥
new_fresh_by before id ids x true is rest c old = rest before c old
new_fresh_by before id ids x false is rest c old =
    ⊎_elim
    (λ e. let found : list_any (same_id id) before ≡ true = list_any-from_Contains (on_equiv (λ (i : Id). i.0) nat_list_eq_equiv) id before (subst (Contains before) (sym e) old) in let t : true ≡ false = sym found ∙ is in cc)
    (λ d. rest (before ++ id ∷ []) d (Contains-append_left before (id ∷ []) x old)) (contains_cases id (new_to (before ++ id ∷ []) ids) x c)

new_fresh : (contents before : List Id) (x : Id) → Contains (new_to before contents) x → Contains before x → ⊥
new_fresh [] before x c old = contains_nil c
new_fresh (id ∷ ids) before x c old = new_fresh_by before id ids x (list_any (same_id id) before) refl (λ bs d o. new_fresh ids bs x d o) c old

module _ (s : State) where
  -- no file of these comes in the packets behind them
  abbrev NoFile : List Id → List Packet → Type 0
  NoFile ids ps = (x : Id) (bytes : List ℕ) → Contains ps (packet.File x bytes) → Contains ids x → ⊥

  files_by : (before : List Id) (id : Id) (ids : List Id) (ps : List Packet) (b : Bool) → ((bs : List Id) → NoFile (bs ++ new_to bs ids) ps → AreApart (map (file_packet s) (new_to bs ids) ++ ps)) →
      NoFile (before ++ cond b (new_to before ids) (id ∷ new_to (before ++ id ∷ []) ids)) ps → AreApart (map (file_packet s) (cond b (new_to before ids) (id ∷ new_to (before ++ id ∷ []) ids)) ++ ps)
  files_by before id ids ps true rest none = rest before none
  files_by before id ids ps false rest none =
      let bs = before ++ id ∷ [] in
      let more = new_to bs ids in
      let last : (x : Id) (other : List ℕ) → Contains (map (file_packet s) more ++ ps) (packet.File x other) → id ≡ x → ⊥ =
      λ x other c same. ⊎_elim
      (λ d. let m = mapped_from (file_packet s) more (packet.File x other) d in
      let both : Some m.0 ≡ Some x = ap file_of m.2 in
      let is : m.0 ≡ x = cc in
      new_fresh ids bs x (subst (Contains more) is m.1) (subst (Contains bs) same (Contains-push before id)))
      (λ d. none x other d (Contains-append_right before (id ∷ more) x (subst (Contains (id ∷ more)) same (contains_head id more))))
      (Contains-append_cases (map (file_packet s) more) ps (packet.File x other) c) in
      (last, rest bs (λ x bytes c d. none x bytes c (subst (λ l. Contains l x) (append_assoc before (id ∷ []) more) d)))

  apart_files : (contents before : List Id) (ps : List Packet) → AreApart ps → NoFile (before ++ new_to before contents) ps → AreApart (map (file_packet s) (new_to before contents) ++ ps)
  apart_files [] before ps apart none = apart
  apart_files (id ∷ ids) before ps apart none = files_by before id ids ps (list_any (same_id id) before) (λ bs no. apart_files ids bs ps apart no) none

  apart_certs : (certs : List Certificate) (ps : List Packet) → IsStrictlySortedBy cert_cmp certs → AreApart ps → ((c : Certificate) → Contains certs c → Contains ps (cert_packet c) → ⊥) → AreApart (map cert_packet certs ++ ps)
  apart_certs [] ps up apart none = apart
  apart_certs (c ∷ certs) ps up apart none =
      let last : (d : Certificate) → Contains (map cert_packet certs ++ ps) (cert_packet d) → c ≡ d → ⊥ =
      λ d there same. ⊎_elim
      (λ k. let m = mapped_from cert_packet certs (cert_packet d) k in
      let both : Some m.0 ≡ Some d = ap cert_of m.2 in
      let is : m.0 ≡ d = cc in
      let less : cert_cmp c d ≡ Less = each_from (λ e. cert_cmp c e ≡ Less) certs (sorted_head cert_cmp c certs up) d (subst (Contains certs) is m.1) in
      let again : cert_cmp d d ≡ Less = subst (λ e. cert_cmp e d ≡ Less) same less in
      one_way_of certs_total d d again again)
      (λ k. none c (contains_head c certs) (subst (λ e. Contains ps (cert_packet e)) (sym same) k))
      (Contains-append_cases (map cert_packet certs) ps (cert_packet d) there) in
      (last, apart_certs certs ps (sorted_tail cert_cmp c certs up) apart (λ d k. none d (contains_later c certs k)))

  -- the revisions of packets are those that were sent
  revisions_among : (ids before done : List Id) (packets : List Packet) → AreSent s before ids packets done → (x : Id) (text : List ℕ) → Contains packets (packet.Revision x text) → Contains ids x
  revisions_among [] before done packets sent x text c = absurd (contains_nil (subst (λ ps. Contains ps (packet.Revision x text)) sent.0 c))
  revisions_among (id ∷ ids) before done packets sent x text c =
      let own = sent.3 in
      let turn = are_in_turn s before sent.0 id sent.1 sent.2 packets own sent.5 in
      ⊎_elim (λ e. subst (Contains (id ∷ ids)) e (contains_head id ids)) (λ d. contains_later id ids (revisions_among ids (before ++ sent.0) done sent.2 sent.4 x text d))
      (as_revision s sent.0 id own.certs sent.2 x text (part_of s sent.0 id own.text own.certs sent.2 (packet.Revision x text) (subst (λ ps. Contains ps (packet.Revision x text)) turn c)))

  -- and so are those of certificates
  certs_among : (ids before done : List Id) (packets : List Packet) → AreSent s before ids packets done → (y : Certificate) → Contains packets (cert_packet y) → Contains ids y.revision
  certs_among [] before done packets sent y c = absurd (contains_nil (subst (λ ps. Contains ps (cert_packet y)) sent.0 c))
  certs_among (id ∷ ids) before done packets sent y c =
      let own = sent.3 in
      let turn = are_in_turn s before sent.0 id sent.1 sent.2 packets own sent.5 in
      ⊎_elim (λ d. subst (Contains (id ∷ ids)) (sym ((own.said.exact y).0 d).1) (contains_head id ids)) (λ d. contains_later id ids (certs_among ids (before ++ sent.0) done sent.2 sent.4 y d))
      (as_cert s sent.0 id own.certs sent.2 y (part_of s sent.0 id own.text own.certs sent.2 (cert_packet y) (subst (λ ps. Contains ps (cert_packet y)) turn c)))

  -- no file is sent that was sent before
  files_fresh : (ids before done : List Id) (packets : List Packet) → AreSent s before ids packets done → NoFile before packets
  files_fresh [] before done packets sent x bytes c old = contains_nil (subst (λ ps. Contains ps (packet.File x bytes)) sent.0 c)
  files_fresh (id ∷ ids) before done packets sent x bytes c old =
      let own = sent.3 in
      let turn = are_in_turn s before sent.0 id sent.1 sent.2 packets own sent.5 in
      ⊎_elim (λ d. new_fresh own.contents before x (subst (λ fs. Contains fs x) own.new d) old)
      (λ d. files_fresh ids (before ++ sent.0) done sent.2 sent.4 x bytes d (Contains-append_left before sent.0 x old))
      (as_file s sent.0 id own.certs sent.2 x bytes (part_of s sent.0 id own.text own.certs sent.2 (packet.File x bytes) (subst (λ ps. Contains ps (packet.File x bytes)) turn c)))

  pub all_apart : (h : List Revision) (ids before done : List Id) (packets : List Packet) → AreSent s before ids packets done → IsStrictlySortedBy (by_place h) ids → AreApart packets
  all_apart h [] before done packets sent up = subst AreApart (sym sent.0) tt
  all_apart h (id ∷ ids) before done packets sent up =
      let files = sent.0 in
      let own = sent.3 in
      let rest = sent.2 in
      let behind = map cert_packet own.certs ++ rest in
      let turn = are_in_turn s before files id sent.1 rest packets own sent.5 in
      let apart : AreApart rest = all_apart h ids (before ++ files) done rest sent.4 (sorted_tail (by_place h) id ids up) in
      let once : (x : Id) → Contains ids x → id ≡ x → ⊥ =
      λ x c same.
      let less : by_place h id x ≡ Less = each_from (λ z. by_place h id z ≡ Less) ids (sorted_head (by_place h) id ids up) x c in
      let again : by_place h x x ≡ Less = subst (λ i. by_place h i x ≡ Less) same less in
      one_way_place h x x again again in
      let certs : AreApart behind = apart_certs own.certs rest own.said.ascending apart (λ c d there. once c.revision (certs_among ids (before ++ files) done rest sent.4 c there) (sym ((own.said.exact c).0 d).1)) in
      let last : (x : Id) (other : List ℕ) → Contains behind (packet.Revision x other) → id ≡ x → ⊥ =
      λ x other c same. ⊎_elim (λ m. let w = mapped_from cert_packet own.certs (packet.Revision x other) m in let t : None ≡ Some x = ap revision_of w.2 in cc)
      (λ m. once x (revisions_among ids (before ++ files) done rest sent.4 x other m) same) (Contains-append_cases (map cert_packet own.certs) rest (packet.Revision x other) c) in
      let none : NoFile (before ++ new_to before own.contents) (packet.Revision id own.text ∷ behind) =
      λ x bytes c old. ⊎_elim (λ e. let t : None ≡ Some x = ap file_of e in cc)
      (λ d. ⊎_elim (λ m. let w = mapped_from cert_packet own.certs (packet.File x bytes) m in let t : None ≡ Some x = ap file_of w.2 in cc)
      (λ m. files_fresh ids (before ++ files) done rest sent.4 x bytes m (subst (λ fs. Contains (before ++ fs) x) (sym own.new) old)) (Contains-append_cases (map cert_packet own.certs) rest (packet.File x bytes) d))
      (contains_cases (packet.Revision id own.text) behind (packet.File x bytes) c) in
      let sorted : AreApart (map (file_packet s) (new_to before own.contents) ++ (packet.Revision id own.text ∷ behind)) =
      apart_files own.contents before (packet.Revision id own.text ∷ behind) (last, certs) none in
      subst AreApart (sym turn) (subst (λ fs. AreApart (map (file_packet s) fs ++ (packet.Revision id own.text ∷ behind))) (sym own.new) sorted)
