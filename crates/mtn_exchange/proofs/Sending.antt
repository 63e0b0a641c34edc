-- What is exported is read, packet by packet.
use Rattle.std.specs.Prelude.{Contains, find, fold, is_none, is_some, nat_lt, option_map, slice_get, unwrap_or, IsSome}
use Rattle.std.specs.FinMap.{get}
use Rattle.std.specs.Cmp.{nat_cmp_is}
use Rattle.std.specs.List.{list_any}
use Rattle.std.specs.List.Sorted.{IsStrictlySortedBy}
use Rattle.std.specs.Ordering.{nat_cmp}
use Rattle.std.specs.declared.cmp.Ordering.TheVariants.{Less, Equal, Greater}
use Rattle.std.proofs.Common.{◌≡◌, ◌<◌, ◌≤◌, ◌⊎◌, ℕ, suc, Bool, true, false, cond, List, [], ◌∷◌, ◌++◌, length, map, take, Some, None, refl, sym, ap, ◌∙◌, subst, ⊎_elim, inl, inr, arith, eq-or-lt_of_le}
use Rattle.std.proofs.lemmas.Bool.Decides.{nat_tests}
use Rattle.std.proofs.lemmas.List.{append-nil, append_assoc, length-append}
use Rattle.std.proofs.lemmas.List.Elements.{Contains-append_left, Contains-append_right}
use Rattle.std.proofs.lemmas.Map.Keys.{sorted_head, sorted_tail}
use Rattle.std.proofs.lemmas.Map.Views.{Contains-from_any}
use Rattle.mtn_ancestry.specs.Ancestors.{IsAncestor}
use Rattle.mtn_ancestry.specs.Ancestors.IsAncestor.{itself, through}
use Rattle.mtn_ancestry.proofs.Ancestry.{IsAncestor-trans}
use Rattle.mtn_answers.specs.Queries.{IsAbove, IsAsked, by_place}
use Rattle.mtn_answers.specs.declared.query.Query.TheVariants.{AncestryDifference}
use Rattle.mtn_answers.proofs.Deciding.{tell_above, tell_some}
use Rattle.mtn_base.specs.Hex.{id_of}
use Rattle.mtn_base.specs.Names.{same_id}
use Rattle.mtn_base.specs.declared.id.Id.{Id}
use Rattle.mtn_base.specs.declared.refusal.Cause.TheVariants.{UnknownFile}
use Rattle.mtn_base.proofs.IdOrder.{contains_cases, contains_head, contains_later, contains_nil, each_from}
use Rattle.mtn_base.proofs.Tests.{same_id-is}
use Rattle.mtn_certs.specs.Certificates.{Certificate}
use Rattle.mtn_changes.specs.declared.change.Revision.{Revision as Spelled}
use Rattle.mtn_changes.proofs.OneValue.{same_revision}
use Rattle.mtn_exports.specs.Exports.{AreSent, cert_packet, file_packet, new_to}
use Rattle.mtn_exports.proofs.Contents.{contents_held}
use Rattle.mtn_history_laws.specs.History.{Revision, IsGrown, IsPlaceOf, parents_at, revision_parents}
use Rattle.mtn_model.specs.State.{Holds, Logged, State}
use Rattle.mtn_packets.specs.declared.packet.Packet.{Packet}
use Rattle.mtn_packets.specs.declared.packet.Packet.TheVariants as packet
use Rattle.mtn_renaming.proofs.Elements.{at_contains, contains_at, front_at}
use Rattle.mtn_renaming.proofs.Spelling.{named, place_is, revision_at}
use Rattle.mtn_replay.specs.Lawful.{IsHistory, IsLawful, IsNext}
use Rattle.mtn_replay.specs.Making.{log_full, new_contents, refusal_of, unknown_file}
use Rattle.mtn_replay.specs.Texts.{text_under}
use Rattle.mtn_replay.proofs.Histories.{history_is_grown}
use Rattle.mtn_replay.proofs.Places.{inside}
use Rattle.mtn_exchange.specs.Exchange.{HasNoOther, HoldsWith}
use Rattle.mtn_exchange.proofs.Accepting.{accepted_there}
use Rattle.mtn_exchange.proofs.Fronts.{at_front, has_room, own_of, IsClosed, Own}
use Rattle.mtn_exchange.proofs.Input.{files_held}
use Rattle.mtn_exchange.proofs.Joining.{after, are_in_turn, beside, grows, in_turn}
use Rattle.mtn_exchange.proofs.Reading.{cert_reads, cert_way, file_reads, file_way, read_more, read_none, text_reads, text_way, IsOnTheWay, ReadsTo}
use Rattle.mtn_exchange.proofs.Texts.{logged, text_from, text_of}

-- ---- the order of the log

below_of : (a b : ℕ) → nat_cmp a b ≡ Less → a < b
below_of a b less = by (nat_lt a b) refl
  where
    by : (t : Bool) → nat_lt a b ≡ t → a < b
    by true is = grind (arith, nat_tests)
    by false is =
        let le : b ≤ a = grind (arith, nat_tests) in
        absurd (⊎_elim
        (λ e. let t : Equal ≡ Less = nat_cmp_is a b Equal (sym e) ∙ less in cc)
        (λ l. let t : Greater ≡ Less = nat_cmp_is a b Greater l ∙ less in cc) (eq-or-lt_of_le le))

-- where nothing passes nothing is found
none_found : {X : Type 0} (test : X → Bool) (xs : List X) → ((x : X) → Contains xs x → test x ≡ false) → find test xs ≡ None
none_found test [] fails = refl
none_found test (x ∷ xs) fails = ap (λ b. cond b (Some x) (find test xs)) (fails x (contains_head x xs)) ∙ none_found test xs (λ y c. fails y (contains_later x xs c))

-- each content was sent before, or is new
passed_by : (before : List Id) (b : Bool) (id : Id) (ids : List Id) (x : Id) → (b ≡ true → Contains before id) → ((c : List Id) → Contains ids x → Contains (c ++ new_to c ids) x) → Contains (id ∷ ids) x →
    Contains (before ++ cond b (new_to before ids) (id ∷ new_to (before ++ id ∷ []) ids)) x
passed_by before true id ids x old rest c = ⊎_elim (λ e. subst (Contains (before ++ new_to before ids)) e (Contains-append_left before (new_to before ids) id (old refl))) (λ d. rest before d) (contains_cases id ids x c)
passed_by before false id ids x old rest c =
    let more = new_to (before ++ id ∷ []) ids in
    ⊎_elim (λ e. Contains-append_right before (id ∷ more) x (subst (Contains (id ∷ more)) e (contains_head id more)))
    (λ d. subst (λ l. Contains l x) (append_assoc before (id ∷ []) more) (rest (before ++ id ∷ []) d)) (contains_cases id ids x c)

pub all_passed : (contents before : List Id) (x : Id) → Contains contents x → Contains (before ++ new_to before contents) x
all_passed [] before x c = absurd (contains_nil c)
all_passed (id ∷ ids) before x c = passed_by before (list_any (same_id id) before) id ids x (λ e. Contains-from_any same_id-is id before e) (λ b d. all_passed ids b x d) c

-- ---- what is wanted

-- the revisions that are still to come: those asked for from a position on, in the order of the log
pub record AreLeft (h : List Revision) (Asked : Id → Type 0) (low : ℕ) (ids : List Id) : Type 0 where
  pub ascending : IsStrictlySortedBy (by_place h) ids
  pub asked : (x : Id) → Contains ids x → Asked x
  pub all : (x : Id) (p : ℕ) → Asked x → IsPlaceOf h x p → low ≤ p → Contains ids x
  pub late : (x : Id) (p : ℕ) → Contains ids x → IsPlaceOf h x p → low ≤ p

module _ (h : List Revision) (grown : IsGrown h) where
  less_places : (x y : Id) (a b : ℕ) → IsPlaceOf h x a → IsPlaceOf h y b → by_place h x y ≡ Less → a < b
  less_places x y a b px py less =
      let p = place_is h grown.differ x a px in
      let q = place_is h grown.differ y b py in
      below_of a b ((λ i. nat_cmp (unwrap_or (sym p i) (length h)) (unwrap_or (sym q i) (length h))) ∙ less)

  module _ (Asked : Id → Type 0) (low : ℕ) (id : Id) (ids : List Id) (left : AreLeft h Asked low (id ∷ ids)) (k : ℕ) (at : IsPlaceOf h id k) where
    behind : (x : Id) (p : ℕ) → Contains ids x → IsPlaceOf h x p → k < p
    behind x p c is = less_places id x k p at is (each_from (λ z. by_place h id z ≡ Less) ids (sorted_head (by_place h) id ids left.ascending) x c)

    pub left_then : AreLeft h Asked (suc k) ids
    left_then = record {
      ascending = sorted_tail (by_place h) id ids left.ascending;
      asked = λ x c. left.asked x (contains_later id ids c);
      all = λ x p a is le.
          let first = left.late id k (contains_head id ids) at in
          ⊎_elim (λ e. absurd (let same = grown.differ id k p at (subst (λ i. IsPlaceOf h i p) (sym e) is) in omega (arith, same, le))) (λ d. d) (contains_cases id ids x (left.all x p a is (omega (arith, first, le))));
      late = λ x p c is. let lt = behind x p c is in omega (arith, lt);
    }

    -- one that was asked for and stands before the next was sent
    gone : (x : Id) (p : ℕ) → Asked x → IsPlaceOf h x p → p < k → p < low
    gone x p a is lt = by (nat_lt p low) refl
      where
        by : (b : Bool) → nat_lt p low ≡ b → p < low
        by true e = grind (arith, nat_tests)
        by false e =
            let le : low ≤ p = grind (arith, nat_tests) in
            absurd (⊎_elim
            (λ same. let t = grown.differ id k p at (subst (λ i. IsPlaceOf h i p) (sym same) is) in omega (arith, t, lt))
            (λ d. let more = behind x p d is in omega (arith, more, lt)) (contains_cases id ids x (left.all x p a is le)))

module _ (f : List ℕ → List ℕ) (s t : State) (h : List Revision) (ls : IsLawful f s) (is : IsHistory f s.files s.log h) (lt : IsLawful f t) (r : Id) (have : List Id) where
  grown : IsGrown h
  grown = history_is_grown f s.files s.log h is

  -- is above one that the reader has, is sent, is above one of all
  abbrev Known : Id → Type 0
  Known x = (o : Id) × Contains have o × IsAbove h x o

  abbrev Asked : Id → Type 0
  Asked = IsAsked h (AncestryDifference r have)

  abbrev Wanted : Id → Type 0
  Wanted x = (o : Id) × Contains (r ∷ have) o × IsAbove h x o

  closed : IsClosed h Wanted
  closed c p v w cv pw parent wanted =
      let up = wanted.2 in
      let same : up.0 ≡ c = grown.differ v.id up.0 c up.2 (v, cv, refl) in
      let step : IsAncestor (parents_at h) p c = through (subst (λ ps. Contains ps p) (sym (ap revision_parents cv)) parent) itself in
      (wanted.0, wanted.1, (p, up.1, (w, pw, refl), up.3, IsAncestor-trans (subst (λ a. IsAncestor (parents_at h) a up.1) same up.4) step))

  tell : (x : Id) → Dec (Wanted x)
  tell x = tell_some (λ o. IsAbove h x o) (r ∷ have) (λ o. tell_above h grown x o)

  wanted_of : (x : Id) → Asked x → Wanted x
  wanted_of x a = (r, contains_head r have, a.0)

  sort : (x : Id) → Wanted x → Known x ⊎ Asked x
  sort x wanted = by (tell_some (λ o. IsAbove h x o) have (λ o. tell_above h grown x o))
    where
      by : Dec (Known x) → Known x ⊎ Asked x
      by (yes known) = inl known
      by (no n) = inr (
        ⊎_elim (λ e. subst (IsAbove h x) (sym e) wanted.2) (λ d. absurd (n (wanted.0, d, wanted.2))) (contains_cases r have wanted.0 wanted.1),
        λ o c a. n (o, c, a),
      )

  abbrev Way : ℕ → List Id → State → Type 0
  Way = IsOnTheWay f s t Known Asked

  -- all that is wanted is there
  abbrev Ends : State → Type 0
  Ends v = IsLawful f v × ((l : Logged) → Contains s.log l → Wanted (id_of l.id) → Contains v.log l)

  -- the packets are read, where the log has room for them
  abbrev Goes : State → List Packet → Type 0
  Goes u ps = length (fold after u ps).log ≤ 2147483648 → Ends (fold after u ps) × ReadsTo f u ps (fold after u ps)

  -- ---- files and certificates

  files_go : (files : List Id) (low : ℕ) (before : List Id) (u : State) → Way low before u → ((x : Id) → Contains files x → (bytes : List ℕ) × (get s.files x.0 ≡ Some bytes)) →
      ((x : Id) → Contains files x → (held : List ℕ) → get t.files x.0 ≡ Some held → held ≡ unwrap_or (get s.files x.0) []) → (ps : List Packet) → ((w : State) → Way low (before ++ files) w → Goes w ps) → Goes u (map (file_packet s) files ++ ps)
  files_go [] low before u way held other ps next room = next u (subst (λ b. Way low b u) (sym (append-nil before)) way) room
  files_go (x ∷ files) low before u way held other ps next room =
      let bytes = unwrap_or (get s.files x.0) [] in
      let found = held x (contains_head x files) in
      let at : get s.files x.0 ≡ Some bytes = found.1 ∙ ap Some (sym (ap (λ o. unwrap_or o []) found.1)) in
      let same = other x (contains_head x files) in
      let p = packet.File x bytes in
      let rest = files_go files low (before ++ x ∷ []) (after u p) (file_way f s t Known Asked low before u way ls x bytes at same) (λ y c. held y (contains_later x files c)) (λ y c. other y (contains_later x files c)) ps
      (λ w on. next w (subst (λ b. Way low b w) (append_assoc before (x ∷ []) files) on)) room in
      (rest.0, read_more f u (fold after (after u p) (map (file_packet s) files ++ ps)) p (map (file_packet s) files ++ ps) (file_reads f s t Known Asked low before u way ls x bytes at same) rest.1)

  certs_go : (certs : List Certificate) (low : ℕ) (before : List Id) (u : State) (id : Id) → Way low before u → IsSome (text_under u.log id.0) → ((c : Certificate) → Contains certs c → Holds s.certs c × (c.revision ≡ id)) →
      (ps : List Packet) → ((w : State) → Way low before w → Goes w ps) → Goes u (map cert_packet certs ++ ps)
  certs_go [] low before u id way there held ps next room = next u way room
  certs_go (c ∷ certs) low before u id way there held ps next room =
      let one = held c (contains_head c certs) in
      let known : IsSome (text_under u.log c.revision.0) = subst (λ (i : Id). IsSome (text_under u.log i.0)) (sym one.1) there in
      let p = cert_packet c in
      let rest = certs_go certs low before (after u p) id (cert_way f s t Known Asked low before u way ls c one.0 known) there (λ x d. held x (contains_later c certs d)) ps next room in
      (rest.0, read_more f u (fold after (after u p) (map cert_packet certs ++ ps)) p (map cert_packet certs ++ ps) (cert_reads f s t Known Asked low before u way ls c one.0 known) rest.1)

  -- ---- a revision

  module _ (low : ℕ) (before : List Id) (u : State) (way : Way low before u) (id : Id) (ids : List Id) (left : AreLeft h Asked low (id ∷ ids)) (text : List ℕ) (under : text_under s.log id.0 ≡ Some text)
      (k : ℕ) (at : slice_get s.log k ≡ Some (logged id.0 text)) (v : Revision) (placed : slice_get h k ≡ Some v) (next : IsNext f s.files (take k h) (logged id.0 text) v) where
    place : IsPlaceOf h id k
    place = (v, placed, named f s.files (take k h) (logged id.0 text) v next)

    -- those wanted before it are held
    early : (l : Logged) → Contains (take k s.log) l → Wanted (id_of l.id) → Contains u.log l
    early l c wanted =
        let j = at_contains (take k s.log) l c in
        let x = front_at s.log k j.0 l j.1 in
        let w = revision_at f s.files s.log h is j.0 l x.1 in
        let where_it_is : IsPlaceOf h (id_of l.id) j.0 = (w.0, w.1, named f s.files (take j.0 h) l w.0 w.2) in
        ⊎_elim (λ known. way.known l (contains_at s.log j.0 l x.1) known)
        (λ asked. way.sent l (contains_at (take low s.log) j.0 l (at_front s.log low j.0 l (gone h grown Asked low id ids left k place (id_of l.id) j.0 asked where_it_is x.0) x.1)) asked)
        (sort (id_of l.id) wanted)

    same_text : ((held : List ℕ) → text_under t.log id.0 ≡ Some held → held ≡ text) → (held : List ℕ) → text_under u.log (f text) ≡ Some held → held ≡ text
    same_text other held some =
        ⊎_elim (λ d. other held (text_of f t.files t.log lt.history lt.log (logged id.0 held) d))
        (λ d. let both : Some held ≡ Some text = sym (text_of f s.files s.log h is (logged id.0 held) d) ∙ under in cc)
        (way.texts (logged id.0 held) (text_from u.log id.0 held (ap (text_under u.log) (sym next.id) ∙ some)))

    contents_there : ((x : Id) → Contains (new_contents next.read.edges) x → Contains before x) → unknown_file u.files next.read.edges ≡ None
    contents_there passed = ap (option_map UnknownFile) (none_found (λ (x : Id). is_none (get u.files x.0)) (new_contents next.read.edges) (λ x c.
        ap is_none (way.held x (passed x c) ∙ (contents_held f s.files s.log h is id.0 text next.read under next.spells x c).1)))

    room_there : (ps : List Packet) → length (fold after (after u (packet.Revision id text)) ps).log ≤ 2147483648 → text_under u.log (f text) ≡ None → log_full way.law.history ≡ None
    room_there ps room none =
        let absent : text_under u.log id.0 ≡ None = ap (text_under u.log) (sym next.id) ∙ none in
        let more = grows ps (after u (packet.Revision id text)) in
        let longer : length (after u (packet.Revision id text)).log ≡ length (u.log ++ logged id.0 text ∷ []) = ap (λ o. length (beside o u id text).log) absent in
        has_room way.law.history (omega (arith, room, more, longer, length-append u.log (logged id.0 text ∷ []), way.law.log.long))

    accepted : ((x : Id) → Contains (new_contents next.read.edges) x → Contains before x) → log_full way.law.history ≡ None → refusal_of f u.files way.law.history (id_of (f text)) next.read ≡ None
    accepted passed room =
        let le : k ≤ length h = let lt = inside h k v placed in omega (arith, lt) in
        let own : Own f s.files s.log Wanted k = own_of f s.files s.log h is Wanted closed tell k le in
        let wanted = wanted_of id (left.asked id (contains_head id ids)) in
        ap (λ (i : List ℕ). refusal_of f u.files way.law.history (id_of i) next.read) next.id
        ∙ accepted_there f s.files s.log h is Wanted closed u way.law k own (λ l c. early l (own.from l c) (own.wanted l c)) (logged id.0 text) v placed next wanted (contents_there passed) room

    text_goes : ((held : List ℕ) → text_under t.log id.0 ≡ Some held → held ≡ text) → ((x : Id) → Contains (new_contents next.read.edges) x → Contains before x) → (ps : List Packet) →
        ((w : State) → Way (suc k) before w → Goes w ps) → Goes u (packet.Revision id text ∷ ps)
    text_goes other passed ps rest room =
        let p = packet.Revision id text in
        let sent : (l : Logged) → Contains (take k s.log) l → Asked (id_of l.id) → Contains u.log l = λ l c a. early l c (wanted_of (id_of l.id) a) in
        let fine : text_under u.log (f text) ≡ None → refusal_of f u.files way.law.history (id_of (f text)) next.read ≡ None = λ none. accepted passed (room_there ps room none) in
        let more = rest (after u p) (text_way f s t Known Asked low before u way k id text next.read at next.id next.short next.spells sent (same_text other) fine) room in
        (more.0, read_more f u (fold after (after u p) ps) p ps (text_reads f s t Known Asked low before u way k id text next.read at next.id next.short next.spells sent (same_text other) fine) more.1)

  -- ---- all

  other_in : (ps qs : List Packet) → ((p : Packet) → Contains qs p → Contains ps p) → HasNoOther t ps → HasNoOther t qs
  other_in ps qs inside other = record {
    files = λ x bytes held c. other.files x bytes held (inside (packet.File x bytes) c);
    texts = λ x text held c. other.texts x text held (inside (packet.Revision x text) c);
  }

  contains_mapped : (files : List Id) (x : Id) → Contains files x → Contains (map (file_packet s) files) (file_packet s x)
  contains_mapped [] x c = absurd (contains_nil c)
  contains_mapped (y ∷ files) x c =
      ⊎_elim (λ e. subst (λ z. Contains (map (file_packet s) (y ∷ files)) (file_packet s z)) e (contains_head (file_packet s y) (map (file_packet s) files)))
      (λ d. contains_later (file_packet s y) (map (file_packet s) files) (contains_mapped files x d)) (contains_cases y files x c)

  -- where all begins
  pub start : HoldsWith s h t have → Way 0 [] t
  start holds = record {
    law = lt;
    known = λ l c known. text_from t.log l.id l.text (holds known.0 (id_of l.id) l.text known.1 known.2 (text_of f s.files s.log h is l c));
    sent = λ l c a. absurd (contains_nil c);
    texts = λ l c. inl c;
    held = λ x c. absurd (contains_nil c);
    files = λ id bytes found. inl found;
  }

  -- what was sent the log has
  known_then : (u : State) (low : ℕ) (before : List Id) → Way low before u → (id : Id) (text : List ℕ) → Contains (take low s.log) (logged id.0 text) → Asked id → IsSome (text_under u.log id.0)
  known_then u low before way id text c asked = ap is_some (text_of f u.files u.log way.law.history way.law.log (logged id.0 text) (way.sent (logged id.0 text) c asked))

  -- once no more is to come all that is wanted is there
  all_there : (low : ℕ) (before : List Id) (u : State) → Way low before u → AreLeft h Asked low [] → (l : Logged) → Contains s.log l → Wanted (id_of l.id) → Contains u.log l
  all_there low before u way left l c wanted =
      let j = at_contains s.log l c in
      let w = revision_at f s.files s.log h is j.0 l j.1 in
      let place : IsPlaceOf h (id_of l.id) j.0 = (w.0, w.1, named f s.files (take j.0 h) l w.0 w.2) in
      ⊎_elim (λ known. way.known l c known) (λ asked. came j.0 place asked j.1 (nat_lt j.0 low) refl) (sort (id_of l.id) wanted)
    where
      came : (j : ℕ) → IsPlaceOf h (id_of l.id) j → Asked (id_of l.id) → slice_get s.log j ≡ Some l → (b : Bool) → nat_lt j low ≡ b → Contains u.log l
      came j place asked at true e = let lt : j < low = grind (arith, nat_tests) in way.sent l (contains_at (take low s.log) j l (at_front s.log low j l lt at)) asked
      came j place asked at false e = let le : low ≤ j = grind (arith, nat_tests) in absurd (contains_nil (left.all (id_of l.id) j asked place le))

  pub all_go : (ids before done : List Id) (low : ℕ) (u : State) (packets : List Packet) → AreSent s before ids packets done → Way low before u → AreLeft h Asked low ids → HasNoOther t packets → Goes u packets
  all_go [] before done low u packets sent way left other = subst (Goes u) (sym sent.0) (λ room. ((way.law, all_there low before u way left), read_none f u))
  all_go (id ∷ ids) before done low u packets sent way left other =
      let files = sent.0 in
      let own = sent.3 in
      let text = own.text in
      let rest = sent.2 in
      let behind = map cert_packet own.certs ++ rest in
      let turn = are_in_turn s before files id sent.1 rest packets own sent.5 in
      let there = subst (HasNoOther t) turn other in
      let under = own.brings.held in
      let k = at_contains s.log (logged id.0 text) (text_from s.log id.0 text under) in
      let v = revision_at f s.files s.log h is k.0 (logged id.0 text) k.1 in
      let place : IsPlaceOf h id k.0 = (v.0, v.1, named f s.files (take k.0 h) (logged id.0 text) v.0 v.2) in
      let read : v.2.read ≡ own.brings.read = same_revision text v.2.read own.brings.read v.2.spells.stanzas own.brings.spells.stanzas v.2.spells.reads own.brings.spells.reads in
      let passed : (x : Id) → Contains (new_contents v.2.read.edges) x → Contains (before ++ files) x =
      λ x c. subst (λ new. Contains (before ++ new) x) (sym own.new) (all_passed own.contents before x (subst (λ ls. Contains ls x) (ap (λ (w : Spelled). new_contents w.edges) read ∙ sym own.brings.is) c)) in
      let later : HasNoOther t rest =
      other_in (in_turn s files id text own.certs rest) rest (λ p c. Contains-append_right (map (file_packet s) files) (packet.Revision id text ∷ behind) p (contains_later (packet.Revision id text) behind (Contains-append_right (map cert_packet own.certs) rest p c))) there in
      subst (Goes u) (sym turn)
      (files_go files low before u way (files_held f s h is before files id sent.1 own)
      (λ x c held. there.files x (unwrap_or (get s.files x.0) []) held (Contains-append_left (map (file_packet s) files) (packet.Revision id text ∷ behind) (file_packet s x) (contains_mapped files x c)))
      (packet.Revision id text ∷ behind) (λ w on.
      text_goes low (before ++ files) w on id ids left text under k.0 k.1 v.0 v.1 v.2
      (λ held. there.texts id text held (Contains-append_right (map (file_packet s) files) (packet.Revision id text ∷ behind) (packet.Revision id text) (contains_head (packet.Revision id text) behind)))
      passed behind (λ x then.
      certs_go own.certs (suc k.0) (before ++ files) x id then
      (known_then x (suc k.0) (before ++ files) then id text (contains_at (take (suc k.0) s.log) k.0 (logged id.0 text) (at_front s.log (suc k.0) k.0 (logged id.0 text) (omega arith) k.1)) (left.asked id (contains_head id ids)))
      (λ c d. (own.said.exact c).0 d) rest (λ y last. all_go ids (before ++ files) done (suc k.0) y rest sent.4 last (left_then h grown Asked low id ids left k.0 place) later))))
