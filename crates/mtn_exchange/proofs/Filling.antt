-- An empty store reads what is exported with nothing left out.
use Rattle.std.specs.Prelude.{filter_map, is_none, if◌then◌else◌}
use Rattle.std.specs.FinMap.{empty, get, get-empty}
use Rattle.std.specs.Cmp.Lexicographic.{slice_cmp}
use Rattle.std.specs.List.{cons_option}
use Rattle.std.specs.Ordering.{nat_cmp}
use Rattle.std.proofs.Common.{◌≡◌, ◌+◌, ◌≤◌, ◌<◌, ℕ, suc, List, [], ◌∷◌, ◌++◌, length, map, Option, Some, None, refl, sym, ap, ◌∙◌, subst, arith}
use Rattle.mtn_answers.specs.Queries.{IsAsked}
use Rattle.mtn_answers.specs.declared.query.Query.TheVariants.{AncestryDifference}
use Rattle.mtn_base.specs.declared.id.Id.{Id}
use Rattle.mtn_base.proofs.IdOrder.{contains_head, contains_nil}
use Rattle.mtn_certs.specs.Certificates.{Certificate}
use Rattle.mtn_exports.specs.Exports.{AreSent, IsExport, cert_packet, file_packet}
use Rattle.mtn_history_laws.specs.History.{Revision, IsPlaceOf}
use Rattle.mtn_model.specs.State.{Logged, State, empty_state}
use Rattle.mtn_packets.specs.declared.packet.Packet.{Packet}
use Rattle.mtn_packets.specs.declared.packet.Packet.TheVariants as packet
use Rattle.mtn_replay.specs.Lawful.{IsHistory, IsLawful}
use Rattle.mtn_replay.specs.Texts.{text_under}
use Rattle.mtn_replay.proofs.FileLemmas.{empty_lawful}
use Rattle.mtn_replay.proofs.Histories.{history_is_grown, log_is_short}
use Rattle.mtn_replay.proofs.Places.{inside}
use Rattle.mtn_exchange.specs.Exchange.{HasNoOther, HasRoom, HoldsBytes, IsTaken, MakesIds, lacked}
use Rattle.mtn_exchange.proofs.Joining.{are_in_turn}
use Rattle.mtn_exchange.proofs.Sending.{left_then, AreLeft}
use Rattle.mtn_exchange.proofs.Texts.{logged}
use Rattle.mtn_exchange.proofs.Whole.{export_is_read}

-- ---- the revisions of an export are no more than those of the log

module _ (s : State) (log : List Logged) where
  no_texts_of_files : (files : List Id) (ps : List Packet) → filter_map (lacked log) (map (file_packet s) files ++ ps) ≡ filter_map (lacked log) ps
  no_texts_of_files [] ps = refl
  no_texts_of_files (x ∷ files) ps = no_texts_of_files files ps

  no_texts_of_certs : (certs : List Certificate) (ps : List Packet) → filter_map (lacked log) (map cert_packet certs ++ ps) ≡ filter_map (lacked log) ps
  no_texts_of_certs [] ps = refl
  no_texts_of_certs (c ∷ certs) ps = no_texts_of_certs certs ps

  one_at_most : (o : Option (List ℕ)) (l : Logged) (rest : List Logged) → length (cons_option (if is_none o then Some l else None) rest) ≤ length rest + 1
  one_at_most None l rest = omega arith
  one_at_most (Some held) l rest = omega arith

module _ (f : List ℕ → List ℕ) (s : State) (h : List Revision) (ls : IsLawful f s) (is : IsHistory f s.files s.log h) (r : Id) where
  few_texts : (log : List Logged) (ids before done : List Id) (packets : List Packet) → AreSent s before ids packets done → length (filter_map (lacked log) packets) ≤ length ids
  few_texts log [] before done packets sent = subst (λ (ps : List Packet). length (filter_map (lacked log) ps) ≤ 0) (sym sent.0) (omega arith)
  few_texts log (id ∷ ids) before done packets sent =
      let own = sent.3 in
      let rest = sent.2 in
      let l = logged id.0 own.text in
      let turn = are_in_turn s before sent.0 id sent.1 rest packets own sent.5 in
      let texts : filter_map (lacked log) packets ≡ cons_option (if is_none (text_under log id.0) then Some l else None) (filter_map (lacked log) rest) =
      ap (filter_map (lacked log)) turn ∙ no_texts_of_files s log sent.0 (packet.Revision id own.text ∷ (map cert_packet own.certs ++ rest))
      ∙ ap (cons_option (if is_none (text_under log id.0) then Some l else None)) (no_texts_of_certs s log own.certs rest) in
      let one = one_at_most s log (text_under log id.0) l (filter_map (lacked log) rest) in
      let more = few_texts log ids (before ++ sent.0) done rest sent.4 in
      let count = ap length texts in
      omega (arith, one, more, count)

  abbrev Asked : Id → Type 0
  Asked = IsAsked h (AncestryDifference r [])

  few_left : (ids : List Id) (low : ℕ) → low ≤ length h → AreLeft h Asked low ids → length ids + low ≤ length h
  few_left [] low le left = omega (arith, le)
  few_left (id ∷ ids) low le left =
      let up = (left.asked id (contains_head id ids)).0 in
      let place : IsPlaceOf h id up.0 = up.2 in
      let lt : up.0 < length h = inside h up.0 place.0 place.1 in
      let first = left.late id up.0 (contains_head id ids) place in
      let more = few_left ids (suc up.0) (omega (arith, lt)) (left_then h (history_is_grown f s.files s.log h is) Asked low id ids left up.0 place) in
      omega (arith, more, first)

  pub all_is_read : (packets : List Packet) → MakesIds f → HoldsBytes s → IsExport s h r [] packets → IsTaken f s h empty_state r [] packets
  all_is_read packets ids bytes export =
      let asked = export.asked in
      let left : AreLeft h Asked 0 export.revisions = record {
        ascending = asked.ascending;
        asked = λ x c. (asked.exact x).0 c;
        all = λ x p a at le. (asked.exact x).1 a;
        late = λ x p c at. omega arith;
      } in
      let few = few_left export.revisions 0 (omega arith) left in
      let texts = few_texts [] export.revisions [] export.files packets export.sent in
      let short = log_is_short f s.files s.log h is in
      let room : HasRoom empty_state packets = omega (arith, few, texts, short, is.long) in
      let other : HasNoOther empty_state packets = record {
        files = λ id file held c found. absurd (let none : get (empty {X = List ℕ} {R = slice_cmp nat_cmp}) id.0 ≡ None = get-empty (slice_cmp nat_cmp) id.0 in cc);
        texts = λ id text held c found. absurd cc;
      } in
      export_is_read f s empty_state h ls is (empty_lawful f) r [] packets ids bytes export (λ o x text c up under. absurd (contains_nil c)) other room
